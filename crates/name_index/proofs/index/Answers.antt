use mathlib.Core.Path.{refl}
use native.Mathlib.Omega.{arith}
use Rattle.basics.proofs.Truth.{clash}
use Rattle.name_index.proofs.Keys.{linked-start, linked-more, linked-done, index-many, index-few}
use Rattle.name_index.proofs.index.Goals as goal

pub returns-then-n-gt512 : goal.returns-then-n-gt512
returns-then-n-gt512 c = record { value = index-many _ _ c.count-n.ensures c.if-n-gt512.true; linked_if = λ q. absurd (clash q refl) }

pub loop-i-init : goal.loop-i-init
loop-i-init c = (omega arith, c.count-n.ensures, linked-start _ _ _ _ c.count-n.ensures c.if-n-gt512.false c.requires.0 c.requires.1)

pub bounds-links-i : goal.bounds-links-i
bounds-links-i c = let t = c.loop-i.invariant.2 in omega (arith, t.few, t.links-length)

pub loop-i-preserved : goal.loop-i-preserved
loop-i-preserved c = let l = c.loop-i.invariant in let k = c.entry_key-key.ensures in (omega arith, l.1, linked-more _ _ _ _ _ _ (omega arith) (omega (arith, l.1)) k.0 k.1 l.2)

pub returns : goal.returns
returns c = let l = c.loop-i.invariant in record { value = index-few _ _ l.1 c.if-n-gt512.false; linked_if = λ q. linked-done _ _ _ _ c.loop-i-test.false l.2 }
