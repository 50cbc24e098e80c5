use Prim.Native.Nat.{◌≤◌}
use native.Mathlib.Omega.{arith}
use Rattle.layout.proofs.Laws.{words-few, first-few, place_is}
use borrow.Author.Rules.{rules}
use Rattle.layout.proofs.set_place.Goals as goal

pub overflow_add-result : goal.overflow_add-result
overflow_add-result c = let s = c in let few : s.args.position ≤ 64 = omega arith in omega (arith, words-few _ _ few s.requires.2, first-few s.args.width s.args.set s.requires.2)

pub returns : goal.returns
returns c = search (rules, place_is)
