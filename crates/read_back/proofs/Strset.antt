-- Read back: a reply to STRSET_GET tells each set that is asked for once, in order, and its port exactly where one is named.
use Prim.Native.Nat.{ℕ, ◌+◌, ◌<◌}
use mathlib.Core.Path.{◌≡◌, refl, sym, ap, ◌∙◌}
use mathlib.Core.Bool.{Bool, true, false, cond}
use mathlib.Core.List.{List, [], ◌∷◌, ◌++◌, append_assoc, append-nil}
use lib.ListN.{length, length-append}
use native.Mathlib.Omega.{arith}
use borrow.Author.Tests.{ne_eqb}
use Rattle.names.specs.Rule.{names_right}
use Rattle.names.proofs.Rules.{right-means}
use Rattle.netlink_attributes.specs.Attributes.{attributes}
use Rattle.netlink_attributes.specs.Attributes.Attributes.{done, attribute}
use Rattle.netlink.specs.Policy.{nul_at, rule_of, nested, judged}
use Rattle.netlink.specs.Walk.{found, absent, first_fault, last_of_type, walked}
use Rattle.netlink.specs.declared.walk.Slot.{Slot}
use Rattle.netlink.specs.declared.walk.Stop.TheVariants.{Whole}
use Rattle.netlink_write.specs.Attributes.{nest}
use Rattle.netlink_write.proofs.ReadBack.{attributes-end}
use Rattle.netlink_write.proofs.attributes.Laws.{length-nest}
use Rattle.index_name.specs.IndexName.{name_if_any, index_and_name, index_nest}
use Rattle.layout.specs.Layout.{Names}
use Rattle.reply.specs.Message.{headers_bytes}
use Rattle.reply.specs.declared.message.Heading.{Heading}
use Rattle.reply.proofs.message.Laws.{length-headers}
use Rattle.strset_request.specs.declared.list.Sets.{Sets}
use Rattle.strset_reply.specs.Strings.{index_and_value}
use Rattle.strset_reply.specs.Sets.{sets_bytes}
use Rattle.strset_reply.specs.Message.{StrsetContent, port_nest, strset_attributes, strset_reply}
use Rattle.strset_reply.proofs.strings.Lengths.{length-value}
use Rattle.strset_reply.proofs.sets.Lengths.{sets-whole, sets-most}
use Rattle.read_back.specs.Strset.{ToldName, ToldSet, bytes_before, reply_policy, nests_told, set_told, port_told, reply_told, sets_owed, reply_owed}
use Rattle.read_back.specs.Strset.Told.{told}
use Rattle.read_back.proofs.Places.{up_to, nest-at, contents-at, walked_by}
use Rattle.read_back.proofs.StrsetNests.{nests-read}
use Rattle.read_back.proofs.StrsetNames.{name-told}
use Rattle.read_back.proofs.StrsetSets.{sets-told}

-- a port that has a name is written as a STRING's contents are
port-same : (index : ℕ) (name : List ℕ) → 0 < nul_at name → index_nest 1 index name ≡ nest 1 (index_and_value index name)
unfolding index_nest index_and_name name_if_any index_and_value
port-same index name some = rw (ne_eqb (nul_at name) 0 (λ q. omega arith))

-- a reply by its walk
reply-says : (s : List ℕ) (x y : Slot) (port : List ToldName) (sets : List ToldSet)
    → walked reply_policy s 20 ≡ record { stop = Whole; slots = absent ∷ x ∷ y ∷ absent ∷ absent ∷ absent ∷ absent ∷ absent ∷ [] }
    → port_told s x ≡ told port → nests_told s (set_told s) y ≡ told sets → reply_told s ≡ told (record { port = port; sets = sets })
unfolding reply_told
reply-says s x y port sets w p q = rw (w, p, q)

module _ (s headers : List ℕ) (counts : Bool) (names : Names) (sets : Sets) (long : length headers ≡ 20)
    (debug : names_right names.debug ≡ true) (flags : names_right names.flags ≡ true) where
  -- STRINGSETS, where it ends the message
  module _ (pre : List ℕ) (at : ℕ) (e : s ≡ pre ++ nest 2 (sets_bytes counts names sets)) (ea : at ≡ length pre) where
    -- where its contents end
    end : ℕ
    end = at + 4 + length (sets_bytes counts names sets)

    -- it stands behind pre
    sets-in : s ≡ pre ++ (nest 2 (sets_bytes counts names sets) ++ [])
    sets-in = e ∙ ap (λ (l : List ℕ). pre ++ l) (sym (append-nil (nest 2 (sets_bytes counts names sets))))

    -- netlink reads it, and nothing behind it
    sets-at : attributes s at ≡ attribute 2 2 (at + 4) end done
    unfolding end
    sets-at =
        let c = sets_bytes counts names sets in
        let ends : length s ≡ end = ap length e ∙ omega (arith, length-append pre (nest 2 c), length-nest 2 c) in
        nest-at s pre [] c 2 at sets-in ea (at + 4) end end
        (omega arith)
        (omega (arith, sets-most counts names.debug names.flags (right-means names.debug debug).few (right-means names.flags flags).few sets))
        (sets-whole counts names.debug names.flags sets) refl refl (omega (arith, length-nest 2 c))
        ∙ ap (attribute 2 2 (at + 4) end) (attributes-end s end (omega arith))

    -- its slot tells the sets that are owed
    sets-back : nests_told s (set_told s) (found (at + 4) end) ≡ told (sets_owed counts names sets)
    unfolding end nest
    sets-back =
        let c = sets_bytes counts names sets in
        let opened : s ≡ up_to pre 2 c ++ (c ++ []) = sets-in ∙ simp append_assoc in
        nests-read s (set_told s) c (sets_owed counts names sets) (sets-told s counts names debug flags sets)
        (up_to pre 2 c) [] (at + 4) end opened (contents-at s pre [] c 2 at sets-in ea (at + 4) refl) refl

  -- no port is named: no header nest
  no-port : s ≡ headers ++ nest 2 (sets_bytes counts names sets) → reply_told s ≡ told (record { port = []; sets = sets_owed counts names sets })
  unfolding port_told first_fault last_of_type judged rule_of nested
  no-port e =
      let z = end headers 20 e (sym long) in
      reply-says s absent (found 24 z) [] (sets_owed counts names sets)
      (walked_by reply_policy s 20 (attribute 2 2 24 z done) (sets-at headers 20 e (sym long)) refl)
      refl (sets-back headers 20 e (sym long))

  -- a port is named: its nest, then STRINGSETS
  with-port : (index : ℕ) (name : List ℕ) → index < 4294967296 → nul_at name < 32
      → s ≡ headers ++ (nest 1 (index_and_value index name) ++ nest 2 (sets_bytes counts names sets))
      → reply_told s ≡ told (record { port = record { index = index; name = bytes_before name } ∷ []; sets = sets_owed counts names sets })
  unfolding port_told first_fault last_of_type judged rule_of nested nest
  with-port index name few short e =
      let c = index_and_value index name in
      let rest = nest 2 (sets_bytes counts names sets) in
      let pre = headers ++ nest 1 c in
      let at = 24 + length c in
      let value = length-value index name in
      let stands : s ≡ pre ++ rest = e ∙ sym (append_assoc headers (nest 1 c) rest) in
      let past : at ≡ length pre = omega (arith, length-append headers (nest 1 c), length-nest 1 c) in
      let z = end pre at stands past in
      let here = nest-at s headers rest c 1 20 e (sym long) 24 at at
      (omega arith) (omega arith) (omega arith) refl (omega arith) (omega (arith, length-nest 1 c)) in
      let opened : s ≡ up_to headers 1 c ++ (c ++ rest) = e ∙ simp append_assoc in
      let port = name-told s name index few short (up_to headers 1 c) rest 24 at opened (contents-at s headers rest c 1 20 e (sym long) 24 refl) refl in
      reply-says s (found 24 at) (found (at + 4) z) (record { index = index; name = bytes_before name } ∷ []) (sets_owed counts names sets)
      (walked_by reply_policy s 20 (attribute 1 2 24 at (attribute 2 2 (at + 4) z done)) (here ∙ ap (attribute 1 2 24 at) (sets-at pre at stands past)) refl)
      (rw port) (sets-back pre at stands past)

-- request C-13: the reply, walked again, tells what is owed; the port's index and name must be right only where one is named
pub strset-back : (h : Heading) (content : StrsetContent) → names_right content.names.debug ≡ true → names_right content.names.flags ≡ true
    → (content.named ≡ true → (content.index < 4294967296) × (0 < nul_at content.name) × (nul_at content.name < 32))
    → reply_told (strset_reply h content) ≡ told (reply_owed content)
unfolding strset_reply strset_attributes port_nest reply_owed
strset-back h content debug flags port =
    let headers = headers_bytes h (length (strset_attributes content) + 20) in
    go content.named refl headers (length-headers h (length (strset_attributes content) + 20))
  where
    go : (named : Bool) → content.named ≡ named → (headers : List ℕ) → length headers ≡ 20
        → reply_told (headers ++ (cond named (index_nest 1 content.index content.name) [] ++ nest 2 (sets_bytes content.counts content.names content.sets)))
        ≡ told (record {
          port = cond named (record { index = content.index; name = bytes_before content.name } ∷ []) [];
          sets = sets_owed content.counts content.names content.sets;
        })
    go true q headers long =
        let p = port q in
        with-port _ headers content.counts content.names content.sets long debug flags content.index content.name p.0 p.2
        (ap (λ (l : List ℕ). headers ++ (l ++ nest 2 (sets_bytes content.counts content.names content.sets))) (port-same content.index content.name p.1))
    go false q headers long = no-port _ headers content.counts content.names content.sets long debug flags refl
