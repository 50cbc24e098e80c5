-- The name of an entry in plain bytes, and the search for it.
use Rattle.std.specs.Prelude.{Some}
use Prim.Native.Nat.{ℕ}
use mathlib.Core.Path.{◌≡◌, sym, ◌∙◌}
use mathlib.Core.List.{List}
use mathlib.Core.Bool.{true, false}
use lib.ListN.{length, get_or}
use borrow.Author.Tests.{ne_eqb, le-ltb}
use Rattle.entries.specs.Entry.{entry_at}
use Rattle.entries.proofs.Entries.{entry-byte, same_bytes, same_of}
use Rattle.names.specs.Rule.{names_right}
use Rattle.names.specs.Search.{no_name, found_at, lookup}
use Rattle.names.proofs.Rules.{right-means}
use Rattle.names.proofs.Search.{lookup-found, lookup-named, lookup-one}
use Rattle.demands.specs.Says.{IsNameOf}

module _ (names name : List ℕ) where
  -- what is found is the name of the entry
  pub found-names : (k : ℕ) → (lookup names name).bit ≡ Some k → IsNameOf names k name
  found-names k h =
      let f = lookup-found names name k h in
      let n = lookup-named names name k h in
      record {
        inside = f.0;
        some = n.0;
        short = n.1;
        bytes = λ j l. sym (entry-byte names k f.0 j l) ∙ same_bytes (entry_at names k) name j f.1 l;
      }

  -- in a list that breaks no rule the name of an entry is found there
  pub name-found : names_right names ≡ true → (entry : ℕ) → IsNameOf names entry name → lookup names name ≡ found_at names name entry
  unfolding no_name
  name-found right entry is =
      lookup-one names name (right-means names right).apart can-be entry is.inside
      (same_of (entry_at names entry) name (λ j l. entry-byte names entry is.inside j l ∙ is.bytes j l))
    where
      can-be : no_name name ≡ false
      can-be = rw (ne_eqb (get_or name 0 0) 0 is.some, le-ltb 32 (length name) is.short)
