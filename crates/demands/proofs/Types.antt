-- The table of types as document 01 and request C-13 have it.
--     types_are    which types each parent lists, with the rule of each, and no other
use Prim.Native.Nat.{ℕ, zero, suc, ◌<◌}
use mathlib.Core.Path.{◌≡◌, refl}
use mathlib.Core.Bool.{false}
use lib.Dec.{eqb}
use native.Mathlib.Omega.{arith}
use borrow.Author.Tests.{ne_eqb}
use Rattle.netlink.specs.Policy.{rule_of}
use Rattle.netlink.specs.declared.policy.Rule.{Rule}
use Rattle.request.specs.Policies.{top_policy}
use Rattle.demands.specs.Types.{rule_in, TypeTable}

-- two ways to tell the rule of a type agree where they do below 8, and from there on
each-type : (f g : ℕ → Rule) → f 0 ≡ g 0 → f 1 ≡ g 1 → f 2 ≡ g 2 → f 3 ≡ g 3 → f 4 ≡ g 4 → f 5 ≡ g 5 → f 6 ≡ g 6 → f 7 ≡ g 7
    → ((k : ℕ) → f (suc (suc (suc (suc (suc (suc (suc (suc k)))))))) ≡ g (suc (suc (suc (suc (suc (suc (suc (suc k))))))))) → (kind : ℕ) → f kind ≡ g kind
each-type f g a b c d e h i j more zero = a
each-type f g a b c d e h i j more (suc zero) = b
each-type f g a b c d e h i j more (suc (suc zero)) = c
each-type f g a b c d e h i j more (suc (suc (suc zero))) = d
each-type f g a b c d e h i j more (suc (suc (suc (suc zero)))) = e
each-type f g a b c d e h i j more (suc (suc (suc (suc (suc zero))))) = h
each-type f g a b c d e h i j more (suc (suc (suc (suc (suc (suc zero)))))) = i
each-type f g a b c d e h i j more (suc (suc (suc (suc (suc (suc (suc zero))))))) = j
each-type f g a b c d e h i j more (suc (suc (suc (suc (suc (suc (suc (suc k)))))))) = more k

-- no row has a type from 8 on
far : (kind k : ℕ) → kind < 8 → eqb kind (suc (suc (suc (suc (suc (suc (suc (suc k)))))))) ≡ false
far kind k l = ne_eqb kind _ (λ e. omega arith)

pub types_are : TypeTable
unfolding rule_of rule_in top_policy
types_are =
    record {
      get-top = each-type _ _ refl refl refl refl refl refl refl refl (λ k. rw (far 1 k (omega arith)));
      set-top = each-type _ _ refl refl refl refl refl refl refl refl (λ k. rw (far 1 k (omega arith), far 2 k (omega arith)));
      strset-top = each-type _ _ refl refl refl refl refl refl refl refl (λ k. rw (far 1 k (omega arith), far 2 k (omega arith), far 3 k (omega arith)));
      header = each-type _ _ refl refl refl refl refl refl refl refl (λ k. rw (far 1 k (omega arith), far 2 k (omega arith), far 3 k (omega arith)));
      bitset = each-type _ _ refl refl refl refl refl refl refl refl (λ k. rw (far 1 k (omega arith), far 2 k (omega arith), far 3 k (omega arith), far 4 k (omega arith), far 5 k (omega arith)));
      bits = each-type _ _ refl refl refl refl refl refl refl refl (λ k. rw (far 1 k (omega arith)));
      bit = each-type _ _ refl refl refl refl refl refl refl refl (λ k. rw (far 1 k (omega arith), far 2 k (omega arith), far 3 k (omega arith)));
      string-sets = each-type _ _ refl refl refl refl refl refl refl refl (λ k. rw (far 1 k (omega arith)));
      string-set = each-type _ _ refl refl refl refl refl refl refl refl (λ k. rw (far 1 k (omega arith)));
    }
