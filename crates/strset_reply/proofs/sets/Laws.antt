-- Laws of writing STRINGSETS: one for each return, and what each call needs.
use Prim.Native.Nat.{ℕ, ◌+◌, ◌-◌, ◌%◌, ◌^◌, ◌≤◌}
use mathlib.Core.Path.{◌≡◌, refl, sym, ap, ◌∙◌}
use mathlib.Core.Bool.{Bool, true, false}
use mathlib.Core.List.{List, ◌++◌, append_assoc}
use lib.Dec.{T, leb}
use lib.ListN.{length, take, drop}
use native.Mathlib.Omega.{arith}
use borrow.Author.Rules.{Fits-under}
use borrow.Rule.Slice.PartMut.{put_mid}
use mir.Syntax.{Width}
use mir.Val.{Fits, bits}
use Rattle.basics.specs.Numbers.{le32}
use Rattle.basics.specs.Put.{put}
use Rattle.basics.proofs.Put.{put-nil, length_rest}
use Rattle.entries.specs.Entry.{count}
use Rattle.page.specs.Page.{Wrote}
use Rattle.page.proofs.Page.{wrote_then}
use Rattle.netlink_write.specs.Headers.{attribute_header_bytes}
use Rattle.netlink_write.specs.Attributes.{attr, nest}
use Rattle.netlink_write.proofs.attributes.Laws.{nest-wrote}
use Rattle.layout.specs.Layout.{names_of, list_of}
use Rattle.layout.specs.declared.Set.{Set}
use Rattle.layout.specs.declared.Set.TheVariants.{Debug, Flags}
use Rattle.strset_request.specs.Set.{id_of}
use Rattle.strset_request.specs.declared.list.Sets.{Sets}
use Rattle.strset_request.specs.declared.list.Sets.TheVariants.{Nothing, One, Both}
use Rattle.strset_reply.specs.Strings.{strings_bytes}
use Rattle.strset_reply.specs.Sets.{strings_if, set_contents, string_set, other_set, sets_bytes}
use Rattle.strset_reply.proofs.strings.Laws.{header-kept}
use Rattle.strset_reply.proofs.sets.Lengths.{length-if, if-most, if-whole, length-contents, length-set, length_both, list-few, set-most, sets-whole, sets-most}

-- STRINGS, or nothing
module _ (P names : List ℕ) (counts : Bool) where
  pub if_none : counts ≡ true → Wrote (strings_if counts names) P P 0
  unfolding strings_if
  if_none e = rw e (record { count = refl; page = sym (put-nil P) })

  pub if-room : counts ≡ false → length (strings_if counts names) ≤ length P → length (strings_bytes names (count names)) + 4 ≤ length P
  if-room e room = omega (arith, length-if names, rw e at room)

  pub if_some : (Q : List ℕ) (r : ℕ) → counts ≡ false → Wrote (nest 3 (strings_bytes names (count names))) P Q r → Wrote (strings_if counts names) P Q r
  unfolding strings_if
  if_some Q r e w = rw e w

pub ruleset if-laws = (if_none, if-room, if_some)

-- ID, COUNT, then STRINGS
module _ (P names : List ℕ) (counts : Bool) (id : ℕ) (room : length (set_contents counts id names) ≤ length P) where
  pub contents-id : 8 ≤ length P
  contents-id = omega (arith, length-contents names counts id)

  module _ (A : List ℕ) (same : length A ≡ length P) where
    pub contents-past-id : 8 ≤ length A
    contents-past-id = omega (arith, contents-id)

    pub contents-count : 8 ≤ length (take (length A - 8) (drop 8 A))
    contents-count = omega (arith, length-contents names counts id, length_rest 8 A)

    module _ (C : List ℕ) (same2 : length C ≡ length A) where
      pub contents-past-count : 16 ≤ length C
      contents-past-count = omega (arith, length-contents names counts id)

      pub contents-rest : length (strings_if counts names) ≤ length (take (length C - 16) (drop 16 C))
      contents-rest = omega (arith, length-contents names counts id, length_rest 16 C)

  module _ (A B C D : List ℕ) (n k l m : ℕ) (en : n ≡ count names) (ek : k ≡ 8) (a : Wrote (attr 1 (le32 id)) P A k) (el : l ≡ 8)
      (b : Wrote (attr 2 (le32 n)) (take (length A - 8) (drop 8 A)) B l) (ec : C ≡ put_mid 8 (length A - 8) A B)
      (d : Wrote (strings_if counts names) (take (length C - 16) (drop 16 C)) D m) where
    opening : Wrote (attr 1 (le32 id) ++ attr 2 (le32 (count names))) P C 16
    opening =
        rw (ec, ← en)
        (let both : 8 + l ≡ 16 = omega arith in
        rw both at (wrote_then P A B (attr 1 (le32 id)) (attr 2 (le32 n)) 8 l contents-id (rw ek at a) b))

    pub contents-wrote : Wrote (set_contents counts id names) P (put_mid 16 (length C - 16) C D) (m + 16)
    unfolding set_contents
    contents-wrote =
        let one = attr 1 (le32 id) in
        let two = attr 2 (le32 (count names)) in
        let sum : m + 16 ≡ 16 + m = omega arith in
        rw (sum, ← append_assoc one two (strings_if counts names))
        (wrote_then P C D (one ++ two) (strings_if counts names) 16 m (omega (arith, length-contents names counts id)) opening d)

pub contents-fit : (P Q names : List ℕ) (counts : Bool) (m : ℕ) (w : Width) → count names ≤ 512 → Wrote (strings_if counts names) P Q m → T (leb 26645 (2 ^ bits w))
    → Fits w (m + 16)
contents-fit P Q names counts m w few d t = Fits-under w (m + 16) 26645 (omega (arith, d.count, if-most names counts few)) t

pub ruleset contents-laws = (contents-id, contents-past-id, contents-count, contents-past-count, contents-rest, contents-wrote, contents-fit)

-- a STRINGSET
module _ (debug flags names : List ℕ) (set : Set) (counts : Bool) (q : names ≡ list_of (names_of debug flags) set) where
  pub set-few : count debug ≤ 512 → count flags ≤ 512 → count names ≤ 512
  set-few hd hf = omega (arith, ap count q, list-few counts debug flags hd hf set)

  same_if : length (strings_if counts names) ≡ length (strings_if counts (list_of (names_of debug flags) set))
  same_if = ap (λ (l : List ℕ). length (strings_if counts l)) q

  pub set-contents : (P : List ℕ) (id : ℕ) → length (string_set counts (names_of debug flags) set) ≤ length P
      → length (set_contents counts id names) ≤ length (take (length P - 4) (drop 4 P))
  set-contents P id room = omega (arith, length-set counts debug flags set, length-contents names counts id, same_if, length_rest 4 P)

  module _ (P A : List ℕ) (id k : ℕ) (w : Wrote (set_contents counts id names) P A k) where
    pub set-close : k % 4 ≡ 0
    set-close = omega (arith, w.count, length-contents names counts id, if-whole names counts)

    pub set-short : count debug ≤ 512 → count flags ≤ 512 → k ≤ 65531
    set-short hd hf = omega (arith, w.count, length-contents names counts id, if-most names counts (set-few hd hf))

  pub set-wrote : (P A B : List ℕ) (id k r : ℕ) → id ≡ id_of set → length (string_set counts (names_of debug flags) set) ≤ length P
      → Wrote (set_contents counts id names) (take (length P - 4) (drop 4 P)) A k → r ≡ k + 4
      → B ≡ put (put_mid 4 (length P - 4) P A) (attribute_header_bytes (k + 4) 32769) → Wrote (string_set counts (names_of debug flags) set) P B r
  unfolding string_set
  set-wrote P A B id k r ei room w er p =
      rw (← ei, ← q) (nest-wrote P A B (set_contents counts id names) 1 k r (omega (arith, length-set counts debug flags set)) w er p)

pub set-header : (debug flags P : List ℕ) (set : Set) (counts : Bool) → length (string_set counts (names_of debug flags) set) ≤ length P → 4 ≤ length P
set-header debug flags P set counts room = omega (arith, length-set counts debug flags set)

pub ruleset set-laws = (header-kept, set-header, set-few, set-contents, set-close, set-short, set-wrote)

pub other-debug : (set : Set) → set ≡ Debug → Flags ≡ other_set set
unfolding other_set
other-debug set e = sym (rw e)

pub other-flags : (set : Set) → set ≡ Flags → Debug ≡ other_set set
unfolding other_set
other-flags set e = sym (rw e)

pub ruleset other-laws = (other-debug, other-flags)

-- those of the sets
module _ (debug flags P : List ℕ) (sets : Sets) (counts : Bool) where
  pub sets-none : sets ≡ Nothing → Wrote (sets_bytes counts (names_of debug flags) sets) P P 0
  unfolding sets_bytes
  sets-none e = rw e (record { count = refl; page = sym (put-nil P) })

  module _ (set : Set) (e : sets ≡ One set) where
    pub one-room : length (sets_bytes counts (names_of debug flags) sets) ≤ length P → length (string_set counts (names_of debug flags) set) ≤ length P
    unfolding sets_bytes
    one-room room = rw e at room

    pub one-wrote : (Q : List ℕ) (r : ℕ) → Wrote (string_set counts (names_of debug flags) set) P Q r → Wrote (sets_bytes counts (names_of debug flags) sets) P Q r
    unfolding sets_bytes
    one-wrote Q r w = rw e w

  module _ (first : Set) (e : sets ≡ Both first) (room : length (sets_bytes counts (names_of debug flags) sets) ≤ length P) where
    both-room : length (string_set counts (names_of debug flags) first) + length (string_set counts (names_of debug flags) (other_set first)) ≤ length P
    both-room = omega (arith, length_both counts debug flags first, rw e at room)

    pub first-room : length (string_set counts (names_of debug flags) first) ≤ length P
    first-room = omega (arith, both-room)

    module _ (A : List ℕ) (k : ℕ) (a : Wrote (string_set counts (names_of debug flags) first) P A k) where
      pub second_at : length A ≡ length P → k ≤ length A
      second_at same = omega (arith, a.count, both-room)

      module _ (other : Set) (q : other ≡ other_set first) where
        pub second-room : length A ≡ length P → length (string_set counts (names_of debug flags) other) ≤ length (take (length A - k) (drop k A))
        second-room same =
            omega (arith, a.count, both-room, length_rest k A, ap (λ (s : Set). length (string_set counts (names_of debug flags) s)) q)

        module _ (B : List ℕ) (m : ℕ) (b : Wrote (string_set counts (names_of debug flags) other) (take (length A - k) (drop k A)) B m) where
          pub both-wrote : Wrote (sets_bytes counts (names_of debug flags) sets) P (put_mid k (length A - k) A B) (k + m)
          unfolding sets_bytes
          both-wrote =
              rw (e, ← q)
              (wrote_then P A B (string_set counts (names_of debug flags) first) (string_set counts (names_of debug flags) other) k m
              (omega (arith, a.count, both-room)) a b)

-- two of them together
pub both-fit : (debug flags P Q A B : List ℕ) (counts : Bool) (first other : Set) (k m : ℕ) (w : Width)
    → Wrote (string_set counts (names_of debug flags) first) P A k → Wrote (string_set counts (names_of debug flags) other) Q B m
    → count debug ≤ 512 → count flags ≤ 512 → T (leb 53297 (2 ^ bits w)) → Fits w (k + m)
both-fit debug flags P Q A B counts first other k m w a b hd hf t =
    Fits-under w (k + m) 53297
    (omega (arith, a.count, b.count, set-most counts debug flags hd hf first, set-most counts debug flags hd hf other)) t

pub ruleset sets-laws = (sets-none, one-room, one-wrote, first-room, second_at, second-room, both-fit, both-wrote)

-- the nest around them
module _ (debug flags : List ℕ) (sets : Sets) (counts : Bool) where
  module _ (P Q : List ℕ) (k : ℕ) (w : Wrote (sets_bytes counts (names_of debug flags) sets) P Q k) where
    pub sets-close : k % 4 ≡ 0
    sets-close = ap (λ (x : ℕ). x % 4) w.count ∙ sets-whole counts debug flags sets

    pub sets-few : count debug ≤ 512 → count flags ≤ 512 → k ≤ 65531
    sets-few hd hf = omega (arith, w.count, sets-most counts debug flags hd hf sets)

  pub sets-nest-wrote : (P A B : List ℕ) (k r : ℕ) → length (sets_bytes counts (names_of debug flags) sets) + 4 ≤ length P
      → Wrote (sets_bytes counts (names_of debug flags) sets) (take (length P - 4) (drop 4 P)) A k → r ≡ k + 4
      → B ≡ put (put_mid 4 (length P - 4) P A) (attribute_header_bytes (k + 4) 32770) → Wrote (nest 2 (sets_bytes counts (names_of debug flags) sets)) P B r
  sets-nest-wrote P A B k r room w er p = nest-wrote P A B (sets_bytes counts (names_of debug flags) sets) 2 k r (omega arith) w er p

pub ruleset sets-nest-laws = (sets-close, sets-few, sets-nest-wrote)
