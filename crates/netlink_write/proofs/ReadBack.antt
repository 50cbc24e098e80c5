-- Read back: what a writer wrote, read by `netlink` wherever it stands, between any two lists of bytes, gives the same thing again.
use Prim.Native.Nat.{ℕ, zero, suc, ◌+◌, ◌-◌, ◌/◌, ◌%◌, ◌≤◌, ◌<◌, min}
use mathlib.Core.Path.{◌≡◌, refl, sym, ap, ◌∙◌}
use mathlib.Core.List.{List, [], ◌∷◌, ◌++◌, append_assoc}
use mathlib.Core.Bool.{true}
use native.Mathlib.Omega.{arith}
use borrow.Author.Tests.{eq-eqb, le-leb}
use lib.ListN.{length, take, length-append}
use lib.Seq.{take_at, drop_at}
use Rattle.basics.specs.Numbers.{byte_at, u16_at, u32_at}
use Rattle.basics.proofs.Numbers.{digits16, digits32, byte_past, u16-past, u32-past}
use Rattle.netlink_headers.specs.Lengths.{round_up4}
use Rattle.netlink_headers.specs.Headers.{message_header_at, generic_header_at}
use Rattle.netlink_attributes.specs.Attributes.{attribute_at, part_of, on_read, attributes}
use Rattle.netlink_attributes.specs.Attributes.Attributes.{done, attribute}
use Rattle.netlink.specs.Policy.{nul_at, is_name_payload}
use Rattle.netlink_headers.specs.declared.headers.MessageHeader.{MessageHeader}
use Rattle.netlink_headers.specs.declared.headers.MessageHeaderRead.TheVariants as M
use Rattle.netlink_headers.specs.declared.headers.GenericHeader.{GenericHeader}
use Rattle.netlink_headers.specs.declared.headers.GenericHeaderRead.TheVariants as G
use Rattle.netlink_attributes.specs.declared.AttributeRead.{AttributeRead}
use Rattle.netlink_attributes.specs.declared.AttributeRead.TheVariants as A
use Rattle.netlink_headers.proofs.headers.Laws.{message-whole, generic-whole}
use Rattle.netlink_attributes.proofs.Laws.{attribute-end, attribute-here, attributes-step, part_in}
use Rattle.netlink_write.specs.Headers.{message_header_bytes, generic_header_bytes, attribute_header_bytes}
use Rattle.netlink_write.specs.Attributes.{padding, attr, nest, name_bytes}
use Rattle.netlink_write.proofs.headers.Laws.{length-attribute-header}
use Rattle.netlink_write.proofs.attributes.Laws.{length-attr, length-nest, length-name}

module _ (pre post : List ℕ) where
  -- headers whose fields fit
  pub message-header-back : (h : MessageHeader) → h.length < 4294967296 → h.kind < 65536 → h.flags < 65536 → h.sequence < 4294967296
      → h.port < 4294967296 → message_header_at (pre ++ (message_header_bytes h ++ post)) (length pre) ≡ M.Header h
  unfolding message_header_bytes u16_at u32_at
  message-header-back h l k f q p =
      let at = length pre in
      let s = message_header_bytes h ++ post in
      let room : at + 16 ≤ length (pre ++ s) = omega (arith, length-append pre s, length-append (message_header_bytes h) post) in
      let start : at ≡ at + 0 = omega arith in
      sym
      (message-whole (pre ++ s) at h.length h.kind h.flags h.sequence h.port room
      (sym (u32-past pre s at 0 start ∙ digits32 h.length l))
      (sym (u16-past pre s (at + 4) 4 refl ∙ digits16 h.kind k))
      (sym (u16-past pre s (at + 6) 6 refl ∙ digits16 h.flags f))
      (sym (u32-past pre s (at + 8) 8 refl ∙ digits32 h.sequence q))
      (sym (u32-past pre s (at + 12) 12 refl ∙ digits32 h.port p)))

  pub generic-header-back : (h : GenericHeader) → h.reserved < 65536
      → generic_header_at (pre ++ (generic_header_bytes h ++ post)) (length pre) ≡ G.Header h
  unfolding generic_header_bytes byte_at u16_at
  generic-header-back h r =
      let at = length pre in
      let s = generic_header_bytes h ++ post in
      let room : at + 4 ≤ length (pre ++ s) = omega (arith, length-append pre s, length-append (generic_header_bytes h) post) in
      let start : at ≡ at + 0 = omega arith in
      sym
      (generic-whole (pre ++ s) at h.command h.version h.reserved room
      (sym (byte_past pre s at 0 start))
      (sym (byte_past pre s (at + 1) 1 refl))
      (sym (u16-past pre s (at + 2) 2 refl ∙ digits16 h.reserved r)))

  -- a header that states a length, with all the bytes up to the step behind it
  module _ (stated kind : ℕ) (fits : stated < 65536) (low : 4 ≤ stated) (small : kind < 65536) (whole : round_up4 stated ≤ 4 + length post) where
    all : List ℕ
    all = pre ++ (attribute_header_bytes stated kind ++ post)

    long : length all ≡ length pre + 4 + length post
    unfolding all
    long = simp (length-append, length-attribute-header) (omega arith)

    length_back : u16_at all (length pre) ≡ stated
    unfolding all attribute_header_bytes u16_at
    length_back =
        let start : length pre ≡ length pre + 0 = omega arith in
        u16-past pre (attribute_header_bytes stated kind ++ post) (length pre) 0 start ∙ digits16 stated fits

    kind-back : u16_at all (length pre + 2) ≡ kind
    unfolding all attribute_header_bytes u16_at
    kind-back = u16-past pre (attribute_header_bytes stated kind ++ post) (length pre + 2) 2 refl ∙ digits16 kind small

    pub header-back : attribute_at (pre ++ (attribute_header_bytes stated kind ++ post)) (length pre)
        ≡ A.Attribute (record { kind = kind % 16384; bits = kind / 16384; start = length pre + 4; end = length pre + stated; next = length pre + round_up4 stated })
    unfolding all
    header-back =
        let at = length pre in
        let n : length all ≡ at + 4 + length post = long in
        let e = length_back in
        let k = kind-back in
        let next : min (at + round_up4 stated) (length all) ≡ at + round_up4 stated = omega arith in
        sym (attribute-here all at (omega arith) (omega arith) (omega arith) (omega arith)) ∙ rw (e, k, next)

-- the bytes between two lists, by their places
pub part-back : (front p back : List ℕ) (a e : ℕ) → length front ≡ a → e ≡ a + length p → part_of (front ++ (p ++ back)) a e ≡ p
part-back front p back a e f g =
    let l : e ≤ length (front ++ (p ++ back)) = omega (arith, length-append front (p ++ back), length-append p back) in
    let m : e - a ≡ length p = omega arith in
    sym (part_in (front ++ (p ++ back)) a e (omega arith) l)
    ∙ ap (take (e - a)) (drop_at front (p ++ back) a f)
    ∙ take_at p back (e - a) (sym m)

-- an attribute: its type, no bit, where its payload stands, the step to the next
module _ (pre post payload : List ℕ) (kind : ℕ) where
  attr-open : pre ++ (attr kind payload ++ post)
      ≡ pre ++ (attribute_header_bytes (length payload + 4) kind ++ ((payload ++ padding (length payload + 4)) ++ post))
  unfolding attr
  attr-open = simp append_assoc

  pub payload-back : part_of (pre ++ (attr kind payload ++ post)) (length pre + 4) (length pre + 4 + length payload) ≡ payload
  unfolding attr
  payload-back =
      let head = attribute_header_bytes (length payload + 4) kind in
      let pad = padding (length payload + 4) in
      let same : pre ++ ((head ++ (payload ++ pad)) ++ post) ≡ (pre ++ head) ++ (payload ++ (pad ++ post)) = simp append_assoc in
      rw same
      (part-back (pre ++ head) payload (pad ++ post) (length pre + 4) (length pre + 4 + length payload)
      (simp (length-append, length-attribute-header)) refl)

  module _ (small : kind < 16384) (fits : length payload ≤ 65531) where
    pub attribute-back : attribute_at (pre ++ (attr kind payload ++ post)) (length pre)
        ≡ A.Attribute (record { kind = kind; bits = 0; start = length pre + 4; end = length pre + 4 + length payload; next = length pre + length (attr kind payload) })
    attribute-back =
        let n = length payload + 4 in
        let rest = (payload ++ padding n) ++ post in
        let lengths = ap length attr-open in
        let whole : round_up4 n ≤ 4 + length rest
        = omega (arith, length-attr kind payload, lengths, length-append pre (attr kind payload ++ post), length-append (attr kind payload) post, length-append pre (attribute_header_bytes n kind ++ rest), length-append (attribute_header_bytes n kind) rest, length-attribute-header n kind) in
        let type : kind % 16384 ≡ kind = omega arith in
        let bits : kind / 16384 ≡ 0 = omega arith in
        let end : length pre + n ≡ length pre + 4 + length payload = omega arith in
        let next : length pre + round_up4 n ≡ length pre + length (attr kind payload) = omega (arith, length-attr kind payload) in
        rw attr-open (header-back pre rest n kind (omega arith) (omega arith) (omega arith) whole ∙ rw (type, bits, end, next))

    pub attributes-back : attributes (pre ++ (attr kind payload ++ post)) (length pre)
        ≡ attribute kind 0 (length pre + 4) (length pre + 4 + length payload)
        (attributes (pre ++ (attr kind payload ++ post)) (length pre + length (attr kind payload)))
    attributes-back =
        let s = pre ++ (attr kind payload ++ post) in
        attributes-step s (length pre) ∙ ap (λ (r : AttributeRead). on_read r (length pre) (attributes s)) attribute-back

-- a nest: the same with the nest bit, 0x8000
module _ (pre post contents : List ℕ) (kind : ℕ) where
  nest-open : pre ++ (nest kind contents ++ post) ≡ pre ++ (attribute_header_bytes (length contents + 4) (kind + 32768) ++ (contents ++ post))
  unfolding nest
  nest-open = simp append_assoc

  pub contents-back : part_of (pre ++ (nest kind contents ++ post)) (length pre + 4) (length pre + 4 + length contents) ≡ contents
  contents-back =
      let head = attribute_header_bytes (length contents + 4) (kind + 32768) in
      rw (nest-open, ← append_assoc pre head (contents ++ post))
      (part-back (pre ++ head) contents post (length pre + 4) (length pre + 4 + length contents)
      (simp (length-append, length-attribute-header)) refl)

  module _ (small : kind < 16384) (fits : length contents ≤ 65531) (whole : length contents % 4 ≡ 0) where
    pub nest_back : attribute_at (pre ++ (nest kind contents ++ post)) (length pre)
        ≡ A.Attribute (record { kind = kind; bits = 2; start = length pre + 4; end = length pre + 4 + length contents; next = length pre + length (nest kind contents) })
    nest_back =
        let n = length contents + 4 in
        let there : round_up4 n ≤ 4 + length (contents ++ post) = omega (arith, length-append contents post) in
        let type : (kind + 32768) % 16384 ≡ kind = omega arith in
        let bits : (kind + 32768) / 16384 ≡ 2 = omega arith in
        let end : length pre + n ≡ length pre + 4 + length contents = omega arith in
        let next : length pre + round_up4 n ≡ length pre + length (nest kind contents) = omega (arith, length-nest kind contents) in
        rw nest-open
        (header-back pre (contents ++ post) n (kind + 32768) (omega arith) (omega arith) (omega arith) there ∙ rw (type, bits, end, next))

    pub nests-back : attributes (pre ++ (nest kind contents ++ post)) (length pre)
        ≡ attribute kind 2 (length pre + 4) (length pre + 4 + length contents)
        (attributes (pre ++ (nest kind contents ++ post)) (length pre + length (nest kind contents)))
    nests-back =
        let s = pre ++ (nest kind contents ++ post) in
        attributes-step s (length pre) ∙ ap (λ (r : AttributeRead). on_read r (length pre) (attributes s)) nest_back

-- behind the last attribute
pub attributes-end : (s : List ℕ) (at : ℕ) → length s ≤ at → attributes s at ≡ done
attributes-end s at h =
    attributes-step s at ∙ ap (λ (r : AttributeRead). on_read r at (attributes s)) (sym (attribute-end s at h))

-- a name that was written is a name
nul-back : (name : List ℕ) → nul_at (take (nul_at name) name ++ (0 ∷ [])) ≡ nul_at name
unfolding nul_at
nul-back [] = refl
nul-back (zero ∷ s) = refl
nul-back (suc b ∷ s) = ap suc (nul-back s)

pub name_back : (name : List ℕ) (max : ℕ) → nul_at name < max → is_name_payload max (name_bytes name) ≡ true
unfolding is_name_payload name_bytes
name_back name max h =
    let s = take (nul_at name) name ++ (0 ∷ []) in
    let long : length s ≡ nul_at name + 1 = omega (arith, length-append (take (nul_at name) name) (0 ∷ []), length-name name (nul_at name) refl) in
    let nul : nul_at s + 1 ≡ length s = omega (arith, nul-back name) in
    simp (eq-eqb (nul_at s + 1) (length s) nul, le-leb (length s) max (omega arith))
