-- Laws of writing STRINGS: one for each return, and for each turn of the loop over the entries.
use Prim.Native.Nat.{ℕ, ◌+◌, ◌-◌, ◌%◌, ◌^◌, ◌≤◌, ◌<◌}
use mathlib.Core.Path.{◌≡◌, refl, sym, ap, ◌∙◌}
use mathlib.Core.List.{List, ◌++◌}
use lib.Dec.{T, leb}
use lib.ListN.{length, take, drop, length-append}
use lib.Seq.{length-take-le}
use native.Mathlib.Numerals.{add-one}
use native.Mathlib.Omega.{arith}
use borrow.Author.Rules.{Fits-under}
use borrow.Rule.Slice.PartMut.{put_mid, post_of}
use mir.Syntax.{Width}
use mir.Val.{Fits, bits}
use Rattle.basics.specs.Numbers.{le32}
use Rattle.basics.specs.Put.{put}
use Rattle.basics.proofs.Put.{put-nil, length_rest, then-rest}
use Rattle.entries.specs.Entry.{count, entry_at}
use Rattle.entries.proofs.Entries.{entry-most}
use Rattle.page.specs.Page.{Wrote}
use Rattle.page.proofs.Page.{wrote_then}
use Rattle.netlink_write.specs.Headers.{attribute_header_bytes}
use Rattle.netlink_write.specs.Attributes.{attr, nest, name_bytes}
use Rattle.netlink_write.proofs.attributes.Laws.{nest-wrote, nul-le}
use Rattle.netlink_write.proofs.exact_name.Laws.{length-name-attr}
use Rattle.strset_reply.specs.Strings.{index_and_value, string_bytes, strings_bytes}
use Rattle.strset_reply.proofs.strings.Lengths.{length-value, length-string, strings-whole, strings-most, strings-next}

-- a page whose contents past four bytes are written has those four bytes still
pub header-kept : (P A : List ℕ) (k : ℕ) → 4 ≤ length P → 4 ≤ length (put_mid 4 k P A)
header-kept P A k h = omega (arith, length-append (take 4 P) (A ++ post_of 4 k P), length-take-le 4 P h)

-- INDEX, then VALUE
module _ (P name : List ℕ) (index : ℕ) (room : length (index_and_value index name) ≤ length P) where
  pub value-index : 8 ≤ length P
  value-index = omega (arith, length-value index name)

  pub value-past : (A : List ℕ) → length A ≡ length P → 8 ≤ length A
  value-past A same = omega (arith, value-index)

  pub value-rest : (A : List ℕ) → length A ≡ length P → length (attr 2 (name_bytes name)) ≤ length (take (length A - 8) (drop 8 A))
  value-rest A same = omega (arith, length-value index name, length-name-attr 2 name, length_rest 8 A)

  pub value-wrote : (A B : List ℕ) (k m : ℕ) → k ≡ 8 → Wrote (attr 1 (le32 index)) P A k
      → Wrote (attr 2 (name_bytes name)) (take (length A - 8) (drop 8 A)) B m → Wrote (index_and_value index name) P (put_mid 8 (length A - 8) A B) (m + 8)
  unfolding index_and_value
  value-wrote A B k m ek a b =
      let one = attr 1 (le32 index) in
      let two = attr 2 (name_bytes name) in
      record {
        count = omega (arith, a.count, b.count, length-append one two);
        page = then-rest P one two 8 (sym a.count ∙ ek) (omega (arith, a.count, value-index)) a.page b.page;
      }

pub value-fits : (P Q name : List ℕ) (m : ℕ) (w : Width) → length name ≤ 256 → Wrote (attr 2 (name_bytes name)) P Q m → T (leb 273 (2 ^ bits w)) → Fits w (m + 8)
value-fits P Q name m w h b t = Fits-under w (m + 8) 273 (omega (arith, b.count, length-name-attr 2 name, nul-le name)) t

pub ruleset value-laws = (value-index, value-past, value-rest, value-wrote, value-fits)

-- one STRING
module _ (names e : List ℕ) (i : ℕ) (q : e ≡ entry_at names i) where
  pub string-name : length e ≤ 256
  string-name = omega (arith, entry-most names i, ap length q)

  pub string-contents : (P : List ℕ) → length (string_bytes names i) ≤ length P → length (index_and_value i e) ≤ length (take (length P - 4) (drop 4 P))
  string-contents P room =
      let same = ap (λ (l : List ℕ). length (index_and_value i l)) q in
      omega (arith, length-string names i, length-value i (entry_at names i), length_rest 4 P)

  module _ (P A : List ℕ) (k : ℕ) (w : Wrote (index_and_value i e) P A k) where
    value-count : k ≡ length (index_and_value i (entry_at names i))
    value-count = w.count ∙ ap (λ (l : List ℕ). length (index_and_value i l)) q

    pub string-whole : k % 4 ≡ 0
    string-whole = omega (arith, value-count, length-value i (entry_at names i))

    pub string-few : k ≤ 65531
    string-few = omega (arith, value-count, length-value i (entry_at names i), nul-le (entry_at names i), entry-most names i)

  pub string-wrote : (P A B : List ℕ) (k r : ℕ) → length (string_bytes names i) ≤ length P
      → Wrote (index_and_value i e) (take (length P - 4) (drop 4 P)) A k → r ≡ k + 4
      → B ≡ put (put_mid 4 (length P - 4) P A) (attribute_header_bytes (k + 4) 32769) → Wrote (string_bytes names i) P B r
  unfolding string_bytes
  string-wrote P A B k r room w er p =
      rw (← q) (nest-wrote P A B (index_and_value i e) 1 k r (omega (arith, length-string names i)) w er p)

pub string-header : (names P : List ℕ) (i : ℕ) → length (string_bytes names i) ≤ length P → 4 ≤ length P
string-header names P i room = omega (arith, length-string names i)

pub ruleset string-laws = (header-kept, string-header, string-name, string-contents, string-whole, string-few, string-wrote)

-- the loop: those below i are written
module _ (names P : List ℕ) where
  pub strings-start : Wrote (strings_bytes names 0) P P 0
  unfolding strings_bytes
  strings-start = record { count = refl; page = sym (put-nil P) }

  pub strings-end : (Q : List ℕ) (i n r : ℕ) → n ≡ count names → i ≤ n → n ≤ i → Wrote (strings_bytes names i) P Q r → Wrote (strings_bytes names (count names)) P Q r
  strings-end Q i n r en l u w = let e : i ≡ count names = omega arith in rw e at w

  module _ (A : List ℕ) (i n at : ℕ) (room : length (strings_bytes names (count names)) ≤ length P) (same : length A ≡ length P) (en : n ≡ count names) (h : i < n)
      (a : Wrote (strings_bytes names i) P A at) where
    next : at + length (string_bytes names i) ≤ length P
    next = omega (arith, a.count, strings-next names i (count names) (omega arith))

    pub strings-at : at ≤ length A
    strings-at = omega (arith, next)

    pub strings-room : length (string_bytes names i) ≤ length (take (length A - at) (drop at A))
    strings-room = omega (arith, next, length_rest at A)

    module _ (B : List ℕ) (m : ℕ) (b : Wrote (string_bytes names i) (take (length A - at) (drop at A)) B m) where
      pub strings-fit : (w : Width) → count names ≤ 512 → T (leb 26625 (2 ^ bits w)) → Fits w (at + m)
      strings-fit w few t =
          Fits-under w (at + m) 26625
          (omega (arith, a.count, b.count, strings-next names i (count names) (omega arith), strings-most names (count names))) t

      pub strings-more : Wrote (strings_bytes names (i + 1)) P (put_mid at (length A - at) A B) (at + m)
      unfolding strings_bytes
      strings-more =
          rw (add-one i) (wrote_then P A B (strings_bytes names i) (string_bytes names i) at m (omega (arith, next)) a b)

pub ruleset strings-laws = (strings-start, strings-end, strings-at, strings-room, strings-fit, strings-more)

-- the nest around them
module _ (names P Q : List ℕ) (k : ℕ) (w : Wrote (strings_bytes names (count names)) P Q k) where
  pub strings-close : k % 4 ≡ 0
  strings-close = ap (λ (x : ℕ). x % 4) w.count ∙ strings-whole names (count names)

  pub strings-few : count names ≤ 512 → k ≤ 65531
  strings-few few = omega (arith, w.count, strings-most names (count names))

module _ (names P : List ℕ) (room : length (strings_bytes names (count names)) + 4 ≤ length P) where
  pub strings-nest-wrote : (A B : List ℕ) (k r : ℕ) → Wrote (strings_bytes names (count names)) (take (length P - 4) (drop 4 P)) A k → r ≡ k + 4
      → B ≡ put (put_mid 4 (length P - 4) P A) (attribute_header_bytes (k + 4) 32771) → Wrote (nest 3 (strings_bytes names (count names))) P B r
  strings-nest-wrote A B k r w er q = nest-wrote P A B (strings_bytes names (count names)) 3 k r (omega arith) w er q

pub ruleset strings-nest-laws = (strings-close, strings-few, strings-nest-wrote)
