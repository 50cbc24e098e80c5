-- Read back by places: what netlink reads where an attribute or a nest was written, and what a walk makes of the attributes that it reads.
use Prim.Native.Nat.{ℕ, ◌+◌, ◌-◌, ◌%◌, ◌≤◌, ◌<◌}
use mathlib.Core.Path.{◌≡◌, refl, sym, ap, ◌∙◌}
use mathlib.Core.List.{List, [], ◌++◌, append_assoc}
use lib.ListN.{length, length-append}
use lib.Seq.{take_all}
use native.Mathlib.Omega.{arith}
use Rattle.netlink_attributes.specs.Attributes.{Attributes, attributes, part_of}
use Rattle.netlink_attributes.specs.Attributes.Attributes.{attribute}
use Rattle.netlink.specs.Walk.{absent, first_fault, last_of_type, each_type, walked_to, walked}
use Rattle.netlink.specs.declared.policy.Rule.{Rule}
use Rattle.netlink.specs.declared.walk.Stop.{Stop}
use Rattle.netlink.specs.declared.walk.Stop.TheVariants.{Whole}
use Rattle.netlink_attributes.proofs.Laws.{part_in}
use Rattle.netlink_write.specs.Headers.{attribute_header_bytes}
use Rattle.netlink_write.specs.Attributes.{attr, nest}
use Rattle.netlink_write.proofs.headers.Laws.{length-attribute-header}
use Rattle.netlink_write.proofs.ReadBack.{part-back, payload-back, attributes-back, nests-back}

pub part-all : (s : List ℕ) (e : ℕ) → e ≡ length s → part_of s 0 e ≡ s
part-all s e h = sym (part_in s 0 e (omega arith) (omega arith)) ∙ take_all (e - 0) s (omega arith)

-- an attribute behind pre
module _ (s pre post payload : List ℕ) (kind at : ℕ) (e : s ≡ pre ++ (attr kind payload ++ post)) (ea : at ≡ length pre) where
  pub payload-at : (a z : ℕ) → a ≡ at + 4 → z ≡ at + 4 + length payload → part_of s a z ≡ payload
  payload-at a z p q = rw (p, q, ea, e) (payload-back pre post payload kind)

  pub attribute-at : (a z next : ℕ) → kind < 16384 → length payload ≤ 65531 → a ≡ at + 4 → z ≡ at + 4 + length payload
      → next ≡ at + length (attr kind payload) → attributes s at ≡ attribute kind 0 a z (attributes s next)
  attribute-at a z next small fits p q r = rw (p, q, r, ea, e) (attributes-back pre post payload kind small fits)

-- a list up to the contents of a nest behind pre
abbrev pub up_to : List ℕ → ℕ → List ℕ → List ℕ
up_to pre kind contents = pre ++ attribute_header_bytes (length contents + 4) (kind + 32768)

-- a nest behind pre
module _ (s pre post contents : List ℕ) (kind at : ℕ) (e : s ≡ pre ++ (nest kind contents ++ post)) (ea : at ≡ length pre) where
  pub nest-at : (a z next : ℕ) → kind < 16384 → length contents ≤ 65531 → length contents % 4 ≡ 0 → a ≡ at + 4 → z ≡ at + 4 + length contents
      → next ≡ at + length (nest kind contents) → attributes s at ≡ attribute kind 2 a z (attributes s next)
  nest-at a z next small fits whole p q r = rw (p, q, r, ea, e) (nests-back pre post contents kind small fits whole)

  pub contents-at : (a : ℕ) → a ≡ at + 4 → a ≡ length (up_to pre kind contents)
  contents-at a p =
      let header = attribute_header_bytes (length contents + 4) (kind + 32768) in
      omega (arith, length-append pre header, length-attribute-header (length contents + 4) (kind + 32768))

  -- the list cut at its end, as it is opened
  pub cut_at : (z : ℕ) → z ≡ at + 4 + length contents → part_of s 0 z ≡ up_to pre kind contents ++ contents
  unfolding nest
  cut_at z q =
      let same : s ≡ (up_to pre kind contents ++ contents) ++ post = e ∙ simp append_assoc in
      let long : z ≡ length (up_to pre kind contents ++ contents)
      = omega (arith, length-append (up_to pre kind contents) contents, contents-at (at + 4) refl) in
      ap (λ (l : List ℕ). part_of l 0 z) same ∙ part-back [] (up_to pre kind contents ++ contents) post 0 z refl (omega arith)

-- a walk of attributes that are known
pub walked_by : (policy : List Rule) (s : List ℕ) (from : ℕ) (xs : Attributes) → attributes s from ≡ xs → first_fault policy s xs ≡ Whole
    → walked policy s from ≡ record { stop = Whole; slots = each_type (λ kind. last_of_type kind absent xs) }
unfolding walked
walked_by policy s from xs e w =
    ap (λ (ys : Attributes). walked_to (first_fault policy s ys) (each_type (λ kind. last_of_type kind absent ys))) e
    ∙ ap (λ (t : Stop). walked_to t (each_type (λ kind. last_of_type kind absent xs))) w
