-- The laws by which the family is proved: netlink's contracts are all that they use.
use Prim.Native.Nat.{ℕ, ◌+◌, ◌-◌, ◌≤◌, ◌<◌}
use mathlib.Core.Path.{◌≡◌, refl, sym, ap, ◌∙◌}
use mathlib.Core.List.{List, ◌++◌}
use mathlib.Core.Bool.{true, false, not}
use lib.ListN.{length, get_or, take, drop}
use native.Mathlib.Omega.{arith}
use borrow.Author.Tests.{lt-ltb, le-ltb, eq-eqb, ne_eqb}
use borrow.Rule.Slice.PartMut.{put_mid}
use Rattle.basics.specs.Numbers.{le32}
use Rattle.basics.specs.Put.{put}
use Rattle.basics.proofs.Put.{put-nil, then-rest}
use Rattle.netlink_headers.specs.Headers.{message_header_at, generic_header_at}
use Rattle.netlink_attributes.specs.Attributes.{part_of}
use Rattle.netlink.specs.Walk.{absent, walked, slot_number}
use Rattle.netlink_headers.specs.declared.headers.MessageHeader.{MessageHeader}
use Rattle.netlink_headers.specs.declared.headers.MessageHeaderRead.{MessageHeaderRead}
use Rattle.netlink_headers.specs.declared.headers.MessageHeaderRead.TheVariants as M
use Rattle.netlink_headers.specs.declared.headers.GenericHeader.{GenericHeader}
use Rattle.netlink_headers.specs.declared.headers.GenericHeaderRead.{GenericHeaderRead}
use Rattle.netlink_headers.specs.declared.headers.GenericHeaderRead.TheVariants as G
use Rattle.netlink.specs.declared.policy.Fault.{Fault}
use Rattle.netlink.specs.declared.policy.Rule.{Rule}
use Rattle.netlink.specs.declared.policy.Rule.TheVariants as R
use Rattle.netlink.specs.declared.walk.Slot.{Slot}
use Rattle.netlink.specs.declared.walk.Stop.{Stop}
use Rattle.netlink.specs.declared.walk.Stop.TheVariants.{Whole, At}
use Rattle.netlink.specs.declared.walk.Walked.{Walked}
use Rattle.netlink_headers.proofs.headers.Laws.{message-fits}
use Rattle.page.specs.Page.{Wrote}
use Rattle.netlink_write.specs.Headers.{message_header_bytes, generic_header_bytes, attribute_header_bytes}
use Rattle.netlink_write.specs.Attributes.{attr, nest}
use Rattle.netlink_write.proofs.attributes.Laws.{nest-wrote}
use Rattle.netlink_error.specs.Error.{error_message}
use Rattle.netlink_error.specs.declared.Detail.{Detail}
use Rattle.netlink_error.specs.declared.Detail.TheVariants.{Nothing, Offset, MissTop, MissIn}
use Rattle.echo.specs.Echo.{command_number, header_type, number_type, invalid, not_supported, policy, refused_at_stop, number_reading, nest_reading, top_reading, on_generic, request_reading, number_reply, answer_bytes, answer_written}
use Rattle.echo.specs.declared.RequestRead.{RequestRead}
use Rattle.echo.specs.declared.RequestRead.TheVariants.{Number, Refused}

module _ (request : List ℕ) (nest : Slot) (c : List ℕ) (ec : c ≡ part_of request 0 nest.end) (p : List Rule) (ep : p ≡ policy number_type R.Number)
    (w : Walked) (ew : w ≡ walked p c nest.start) where
  in-nest : nest_reading request nest ≡ refused_at_stop w.stop (number_reading c (nest.start - 4) (get_or w.slots number_type absent))
  unfolding nest_reading
  in-nest = rw (← ec) (sym (ap (λ (x : Walked). refused_at_stop x.stop (number_reading c (nest.start - 4) (get_or x.slots number_type absent))) (ew ∙ ap (λ (x : List Rule). walked x c nest.start) ep)))

  pub nest-fault : (f : Fault) (at : ℕ) → w.stop ≡ At f at → Refused invalid (Offset at) ≡ nest_reading request nest
  nest-fault f at q = sym (in-nest ∙ ap (λ (x : Stop). refused_at_stop x (number_reading c (nest.start - 4) (get_or w.slots number_type absent))) q)

  module _ (q : w.stop ≡ Whole) where
    whole-nest : nest_reading request nest ≡ number_reading c (nest.start - 4) (get_or w.slots number_type absent)
    whole-nest = in-nest ∙ ap (λ (x : Stop). refused_at_stop x (number_reading c (nest.start - 4) (get_or w.slots number_type absent))) q

    pub nest-missing : (at : ℕ) → at ≡ nest.start - 4 → not (get_or w.slots number_type absent).present ≡ true → Refused invalid (MissIn number_type at) ≡ nest_reading request nest
    unfolding number_reading
    nest-missing at ea h = rw ea (sym (whole-nest ∙ rw h))

    pub nest-number : (x : ℕ) → not (get_or w.slots number_type absent).present ≡ false → x ≡ slot_number c (get_or w.slots number_type absent) → Number x ≡ nest_reading request nest
    unfolding number_reading
    nest-number x h ex = rw ex (sym (whole-nest ∙ rw h))

module _ (request : List ℕ) (g : GenericHeaderRead) (eg : g ≡ generic_header_at request 16) where
  pub request-short : g ≡ G.Short → Refused invalid Nothing ≡ request_reading request
  unfolding request_reading on_generic
  request-short q = sym (ap (on_generic request) (sym eg ∙ q))

  module _ (h : GenericHeader) (q : g ≡ G.Header h) where
    pub request-command : (h.command ≡ command_number → ⊥) → Refused not_supported Nothing ≡ request_reading request
    unfolding request_reading on_generic
    request-command n = sym (ap (on_generic request) (sym eg ∙ q) ∙ rw (ne_eqb h.command command_number n))

    module _ (one : h.command ≡ command_number) (p : List Rule) (ep : p ≡ policy header_type R.Nest) (w : Walked) (ew : w ≡ walked p request 20) where
      top : request_reading request ≡ refused_at_stop w.stop (top_reading request (get_or w.slots header_type absent))
      unfolding request_reading on_generic
      top =
          ap (on_generic request) (sym eg ∙ q) ∙ rw (eq-eqb h.command command_number one)
          (sym (ap (λ (x : Walked). refused_at_stop x.stop (top_reading request (get_or x.slots header_type absent))) (ew ∙ ap (λ (x : List Rule). walked x request 20) ep)))

      pub request-fault : (f : Fault) (at : ℕ) → w.stop ≡ At f at → Refused invalid (Offset at) ≡ request_reading request
      request-fault f at z = sym (top ∙ ap (λ (x : Stop). refused_at_stop x (top_reading request (get_or w.slots header_type absent))) z)

      module _ (z : w.stop ≡ Whole) where
        whole_top : request_reading request ≡ top_reading request (get_or w.slots header_type absent)
        whole_top = top ∙ ap (λ (x : Stop). refused_at_stop x (top_reading request (get_or w.slots header_type absent))) z

        pub request-missing : not (get_or w.slots header_type absent).present ≡ true → Refused invalid (MissTop header_type) ≡ request_reading request
        unfolding top_reading
        request-missing m = sym (whole_top ∙ rw m)

        pub request-nest : (r : RequestRead) → not (get_or w.slots header_type absent).present ≡ false → r ≡ nest_reading request (get_or w.slots header_type absent)
            → r ≡ request_reading request
        unfolding top_reading
        request-nest r m e = e ∙ sym (whole_top ∙ rw m)

pub ruleset request-laws = (request-short, request-command, request-fault, request-missing, request-nest)

-- the nest around the number
pub number-nest-wrote : (P A B : List ℕ) (x n r : ℕ) → 12 ≤ length P → Wrote (attr number_type (le32 x)) (take (length P - 4) (drop 4 P)) A n → r ≡ n + 4
    → B ≡ put (put_mid 4 (length P - 4) P A) (attribute_header_bytes (n + 4) (header_type + 32768)) → Wrote (nest header_type (attr number_type (le32 x))) P B r
number-nest-wrote P A B x n r room w er q = nest-wrote P A B (attr number_type (le32 x)) header_type n r (omega arith) w er q

-- three writers in a row
pub reply-wrote : (P : List ℕ) (h : MessageHeader) (x n : ℕ) (A B C : List ℕ) → 52 ≤ length P
    → A ≡ put P (message_header_bytes (record { length = 32; kind = h.kind; flags = 0; sequence = h.sequence; port = h.port }))
    → B ≡ put (take (length A - 16) (drop 16 A)) (generic_header_bytes (record { command = command_number; version = 1; reserved = 0 }))
    → Wrote (nest header_type (attr number_type (le32 x))) (take (length (put_mid 16 (length A - 16) A B) - 20) (drop 20 (put_mid 16 (length A - 16) A B))) C n
    → Wrote (number_reply h x) P (put_mid 20 (length (put_mid 16 (length A - 16) A B) - 20) (put_mid 16 (length A - 16) A B) C) (n + 20)
unfolding number_reply message_header_bytes generic_header_bytes
reply-wrote P h x n A B C room a b w =
    let head = message_header_bytes (record { length = 32; kind = h.kind; flags = 0; sequence = h.sequence; port = h.port }) in
    let generic = generic_header_bytes (record { command = command_number; version = 1; reserved = 0 }) in
    let two = then-rest P head generic 16 refl (omega arith) a b in
    record {
      count = omega (arith, w.count);
      page = then-rest P (head ++ generic) (nest header_type (attr number_type (le32 x))) 20 refl (omega arith) two w.page;
    }

module _ (request before : List ℕ) where
  pub answered-room : length before < 52 → Wrote (answer_written request (length before)) before before 0
  unfolding answer_written
  answered-room h = rw (lt-ltb _ _ h) (record { count = refl; page = sym (put-nil before) })

  module _ (h : 52 ≤ length before) (m : MessageHeaderRead) (em : m ≡ message_header_at request 0) where
    pub answered-short : m ≡ M.Short → Wrote (answer_written request (length before)) before before 0
    unfolding answer_written
    answered-short q = rw (le-ltb _ _ h, ← em, q) (record { count = refl; page = sym (put-nil before) })

    module _ (d : MessageHeader) (q : m ≡ M.Header d) (a : RequestRead) (ea : a ≡ request_reading request) (after : List ℕ) (r : ℕ) where
      pub answered-number : (x : ℕ) → a ≡ Number x → Wrote (number_reply d x) before after r → Wrote (answer_written request (length before)) before after r
      unfolding answer_written answer_bytes
      answered-number x z w = rw (le-ltb _ _ h, ← em, q, ← ea, z) w

      pub answered-refused : (errno : ℕ) (e : Detail) → a ≡ Refused errno e → Wrote (error_message request errno e) before after r
          → Wrote (answer_written request (length before)) before after r
      unfolding answer_written answer_bytes
      answered-refused errno e z w = rw (le-ltb _ _ h, ← em, q, ← ea, z) w

    pub answered-fits : (d : MessageHeader) → m ≡ M.Header d → 16 ≤ length request
    answered-fits d q = let f = message-fits request 0 m em d q in omega arith

pub ruleset answered-laws = (answered-room, answered-short, answered-number, answered-refused, answered-fits)
