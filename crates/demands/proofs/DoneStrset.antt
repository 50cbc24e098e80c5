-- A done STRSET_GET: what its reply tells, and that what is written is whole messages.
use Prim.Native.Nat.{ℕ, zero, suc, ◌+◌, ◌%◌, ◌≤◌, ◌<◌}
use mathlib.Core.Path.{◌≡◌, refl, sym, ◌∙◌}
use mathlib.Core.List.{List, [], ◌∷◌, ◌++◌}
use mathlib.Core.Bool.{Bool, true, false, not}
use lib.ListN.{length, get_or, length-append}
use lib.Dec.{eqb}
use native.Mathlib.Omega.{arith}
use Rattle.basics.specs.Numbers.{byte_at, u32_at}
use Rattle.basics.proofs.Numbers.{digits32}
use Rattle.basics.proofs.Truth.{clash, both_true}
use Rattle.netlink.specs.Policy.{nul_at}
use Rattle.netlink_headers.specs.declared.headers.MessageHeader.{MessageHeader}
use Rattle.netlink_write.specs.Headers.{message_header_bytes}
use Rattle.index_name.proofs.Laws.{index-name-whole}
use Rattle.layout.specs.Layout.{list_of, names_of}
use Rattle.layout.specs.declared.Set.TheVariants.{Debug, Flags}
use Rattle.roll.specs.Record.{name_of, port_at}
use Rattle.roll.specs.Name.{name_right}
use Rattle.roll_rule.specs.Rule.{roll_right}
use Rattle.roll_rule.proofs.Meaning.{port-right}
use Rattle.boxes.specs.Box.{Box, State}
use Rattle.boxes.specs.Rule.{box_right}
use Rattle.boxes.specs.declared.Call.{Call}
use Rattle.boxes.proofs.rule.Meaning.{box-means}
use Rattle.reply.specs.Message.{heading_of, headers_bytes}
use Rattle.reply.specs.declared.message.Heading.{Heading}
use Rattle.response.specs.Answer.{ack_bytes}
use Rattle.strset_request.specs.Asked.{asked_of}
use Rattle.strset_request.specs.declared.asked.Asked.{Asked}
use Rattle.strset_request.specs.declared.list.Sets.{Sets}
use Rattle.strset_reply.specs.Message.{StrsetContent, strset_content_of, port_nest, strset_attributes, strset_reply}
use Rattle.strset_reply.proofs.sets.Lengths.{sets-whole}
use Rattle.strset_reply.proofs.message.Lengths.{length-port, length-no-port, length-attributes, length-reply}
use Rattle.strset.specs.Strset.{index_in, name_in, strset_content_in, strset_bytes}
use Rattle.strset.specs.PortNamed.{PortNamed}
use Rattle.strset.proofs.Laws.{asked-inside}
use Rattle.read_back.specs.Strset.{reply_told, reply_owed}
use Rattle.read_back.specs.Strset.Told.{told}
use Rattle.read_back.proofs.Strset.{strset-back}
use Rattle.demands.specs.Answer.{CountedTo, Counted}
use Rattle.demands.specs.Answer.Messages.{next}
use Rattle.demands.specs.Done.{names_reply}
use Rattle.demands.proofs.Count.{ack-counted}
use Rattle.demands.proofs.Port.{port-short}
use Rattle.std.specs.Prelude.{Option, Some, None, Ok, is_some}

-- a first byte that is no NUL stands before the first
nul-after : (s : List ℕ) → (get_or s 0 0 ≡ 0 → ⊥) → 0 < nul_at s
unfolding nul_at
nul-after [] n = absurd (n refl)
nul-after (zero ∷ s) n = absurd (n refl)
nul-after (suc b ∷ s) n = omega arith

-- the port that is named has an index and a name that can be read back
module _ (roll : List ℕ) (right : roll_right roll ≡ true) where
  port-reads : (port : Option ℕ) → PortNamed roll port → is_some port ≡ true
      → (index_in roll port < 4294967296) × (0 < nul_at (name_in roll port)) × (nul_at (name_in roll port) < 32)
  unfolding PortNamed index_in name_in name_right name_of byte_at
  port-reads None inside named = absurd (clash named refl)
  port-reads (Some k) inside named =
      let rules = port-right roll right k inside in
      let first = (both_true (not (eqb (get_or (port_at roll k).name 0 0) 0)) _ rules.name).0 in
      let short = port-short roll k right inside in
      (omega (arith, rules.small), nul-after (port_at roll k).name (λ e. clash first (not-false-of (get_or (port_at roll k).name 0 0) e)), omega arith)
    where
      not-false-of : (x : ℕ) → x ≡ 0 → not (eqb x 0) ≡ false
      not-false-of x e = rw e

module _ (box : Box) (state : State) (call : Call) (right : box_right box state call ≡ true) (m : List ℕ) (h : MessageHeader) (asked : Asked)
    (asks : asked_of m box.roll ≡ Ok asked) where
  pub names-told : reply_told (names_reply box h asked) ≡ told (reply_owed (strset_content_in box asked))
  unfolding strset_content_in list_of
  names-told =
      let rules = box-means box state call right in
      strset-back (heading_of h 0 1) (strset_content_in box asked) (rules.names-right Debug) (rules.names-right Flags)
      (port-reads box.roll rules.roll-right asked.port (asked-inside box.roll m _ asked refl asks))

-- the reply's header states its length, which is in whole words
module _ (hd : Heading) (named : Bool) (index : ℕ) (name debug flags : List ℕ) (sets : Sets) (counts : Bool) where
  abbrev content : StrsetContent
  content = strset_content_of named index name (names_of debug flags) sets counts

  port-whole : (t : Bool) → length (port_nest t index name) % 4 ≡ 0
  port-whole true = omega (arith, length-port index name, index-name-whole index name)
  port-whole false = omega (arith, length-no-port index name)

  reply-words : length (strset_reply hd content) % 4 ≡ 0
  reply-words =
      omega (
        arith,
        length-reply named index name debug flags sets counts hd,
        length-attributes named index name debug flags sets counts,
        port-whole named,
        sets-whole counts debug flags sets,
      )

  reply-stated : length (strset_reply hd content) ≤ 32768 → u32_at (strset_reply hd content) 0 ≡ length (strset_reply hd content)
  unfolding strset_reply headers_bytes message_header_bytes u32_at
  reply-stated few =
      let e = length-reply named index name debug flags sets counts hd in
      digits32 (length (strset_attributes content) + 20) (omega arith) ∙ sym e

  reply-counted : (rest : List ℕ) → Counted rest → length (strset_reply hd content ++ rest) ≤ 32768 → CountedTo 32768 (strset_reply hd content ++ rest)
  reply-counted rest counted few =
      let all = length-append (strset_reply hd content) rest in
      let after = counted.words in
      record {
        messages =
            next (strset_reply hd content) rest (omega (arith, length-reply named index name debug flags sets counts hd)) (reply-stated (omega arith)) counted.messages;
        words = omega (arith, reply-words);
        most = few;
      }

pub strset-counted : (box : Box) (m : List ℕ) (h : MessageHeader) (asked : Asked) → 16 ≤ length m → length (strset_bytes m h (strset_content_in box asked)) ≤ 32768
    → CountedTo 32768 (strset_bytes m h (strset_content_in box asked))
unfolding strset_bytes strset_content_in
strset-counted box m h asked long few =
    reply-counted (heading_of h 0 1) (is_some asked.port) (index_in box.roll asked.port) (name_in box.roll asked.port) box.names.debug box.names.flags
    asked.sets asked.counts (ack_bytes m h) (ack-counted m h long).0 few
