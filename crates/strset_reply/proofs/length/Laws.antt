-- Laws of the length that is told: each part's is that of its bytes.
use Prim.Native.Nat.{ℕ, ◌+◌, ◌≤◌}
use mathlib.Core.Path.{◌≡◌, refl, sym, ap, ◌∙◌}
use mathlib.Core.Bool.{Bool, true, false, not}
use mathlib.Core.List.{List}
use lib.ListN.{length}
use native.Mathlib.Numerals.{add-one}
use native.Mathlib.Omega.{arith}
use borrow.Author.Tests.{not-true, not-false}
use Rattle.entries.specs.Entry.{count, entry_at}
use Rattle.entries.proofs.Entries.{entry-most}
use Rattle.netlink_headers.specs.Lengths.{round_up4}
use Rattle.netlink.specs.Policy.{nul_at}
use Rattle.netlink_write.proofs.attributes.Laws.{nul-le}
use Rattle.netlink_write.proofs.exact_name.Laws.{exact-stated}
use Rattle.layout.specs.Layout.{names_of, list_of}
use Rattle.layout.specs.declared.Set.{Set}
use Rattle.strset_request.specs.declared.list.Sets.{Sets}
use Rattle.strset_request.specs.declared.list.Sets.TheVariants.{Nothing, One, Both}
use Rattle.strset_reply.specs.Strings.{string_bytes, strings_bytes}
use Rattle.strset_reply.specs.Sets.{string_set, other_set, sets_bytes}
use Rattle.strset_reply.specs.Message.{strset_content_of, port_nest, strset_attributes}
use Rattle.strset_reply.proofs.strings.Lengths.{length-string, length_more}
use Rattle.strset_reply.proofs.strings.Laws.{string-name}
use Rattle.strset_reply.proofs.sets.Lengths.{length_none, length-if, length-set, length_both}
use Rattle.strset_reply.proofs.sets.Laws.{set-few}
use Rattle.strset_reply.proofs.message.Lengths.{length-no-port, length-port, length-index-alone, length-index-name, length-attributes}

-- one STRING
module _ (names e : List ℕ) (i n value : ℕ) (q : e ≡ entry_at names i) (en : n ≡ nul_at e) (ev : value ≡ round_up4 (n + 5)) where
  pub string-is : value + 12 ≡ length (string_bytes names i)
  string-is = omega (arith, ap nul_at q, length-string names i)

  pub string-is-most : value + 12 ≤ 52
  string-is-most = omega (arith, nul-le e, ap length q, entry-most names i)

pub ruleset string-length-laws = (string-name, exact-stated, string-is, string-is-most)

-- the loop: those below i are counted
module _ (names : List ℕ) where
  pub lengths-start : 0 ≡ length (strings_bytes names 0)
  unfolding strings_bytes
  lengths-start = refl

  pub lengths-more : (i all r : ℕ) → all ≡ length (strings_bytes names i) → r ≡ length (string_bytes names i) → all + r ≡ length (strings_bytes names (i + 1))
  lengths-more i all r ea er = rw (add-one i) (omega (arith, length_more names i))

  pub lengths-end : (i n all : ℕ) → n ≡ count names → i ≤ n → n ≤ i → all ≡ length (strings_bytes names i) → all ≡ length (strings_bytes names (count names))
  lengths-end i n all en l u ea = let e : i ≡ count names = omega arith in rw e at ea

pub ruleset strings-length-laws = (lengths-start, lengths-more, lengths-end)

-- a STRINGSET
module _ (debug flags : List ℕ) (set : Set) (counts : Bool) where
  pub set-counted : counts ≡ true → 20 ≡ length (string_set counts (names_of debug flags) set)
  set-counted e = rw e (omega (arith, length-set true debug flags set, length_none (list_of (names_of debug flags) set)))

  pub set-listed : (names : List ℕ) (r : ℕ) → counts ≡ false → names ≡ list_of (names_of debug flags) set → r ≡ length (strings_bytes names (count names))
      → r + 24 ≡ length (string_set counts (names_of debug flags) set)
  set-listed names r e q er =
      let list = list_of (names_of debug flags) set in
      let same : length (strings_bytes names (count names)) ≡ length (strings_bytes list (count list)) = ap (λ (l : List ℕ). length (strings_bytes l (count l))) q in
      rw e (omega (arith, length-set false debug flags set, length-if list))

pub ruleset set-length-laws = (set-few, set-counted, set-listed)

-- those of the sets
module _ (debug flags : List ℕ) (sets : Sets) (counts : Bool) where
  pub sets-none-length : sets ≡ Nothing → 0 ≡ length (sets_bytes counts (names_of debug flags) sets)
  unfolding sets_bytes
  sets-none-length e = rw e refl

  pub sets-one-length : (set : Set) (r : ℕ) → sets ≡ One set → r ≡ length (string_set counts (names_of debug flags) set)
      → r ≡ length (sets_bytes counts (names_of debug flags) sets)
  unfolding sets_bytes
  sets-one-length set r e er = rw e er

  pub sets-both-length : (first other : Set) (one two : ℕ) → sets ≡ Both first → one ≡ length (string_set counts (names_of debug flags) first) → other ≡ other_set first
      → two ≡ length (string_set counts (names_of debug flags) other) → one + two ≡ length (sets_bytes counts (names_of debug flags) sets)
  sets-both-length first other one two e e1 q e2 =
      rw e
      (omega (arith, length_both counts debug flags first, ap (λ (s : Set). length (string_set counts (names_of debug flags) s)) q))

pub ruleset sets-length-laws = (sets-none-length, sets-one-length, sets-both-length)

-- the port's nest
module _ (name : List ℕ) (named : Bool) (index : ℕ) where
  pub port-absent : not named ≡ true → 0 ≡ length (port_nest named index name)
  port-absent e = rw (not-true named e) (sym (length-no-port index name))

  module _ (n : ℕ) (e : not named ≡ false) (en : n ≡ nul_at name) where
    pub port-unnamed : n ≡ 0 → 12 ≡ length (port_nest named index name)
    port-unnamed z = rw (not-false named e) (omega (arith, length-port index name, length-index-alone index name (sym en ∙ z)))

    pub port-named : (value : ℕ) → (n ≡ 0 → ⊥) → value ≡ round_up4 (n + 5) → value + 12 ≡ length (port_nest named index name)
    port-named value h ev =
        rw (not-false named e) (omega (arith, length-port index name, length-index-name index name (λ z. h (en ∙ z))))

pub port-short : (name : List ℕ) → length name ≤ 16 → length name ≤ 256
port-short name h = omega arith

pub port-is-most : (name : List ℕ) (n value : ℕ) → length name ≤ 16 → n ≡ nul_at name → value ≡ round_up4 (n + 5) → value + 12 ≤ 36
port-is-most name n value h en ev = omega (arith, nul-le name)

pub ruleset port-length-laws = (exact-stated, port-short, port-absent, port-unnamed, port-named, port-is-most)

-- the whole reply
pub reply-is : (named : Bool) (index : ℕ) (name debug flags : List ℕ) (sets : Sets) (counts : Bool) (port all : ℕ)
    → port ≡ length (port_nest named index name) → all ≡ length (sets_bytes counts (names_of debug flags) sets)
    → port + all + 24 ≡ length (strset_attributes (strset_content_of named index name (names_of debug flags) sets counts)) + 20
reply-is named index name debug flags sets counts port all ep ea = omega (arith, length-attributes named index name debug flags sets counts)
