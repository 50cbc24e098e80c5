use native.Mathlib.Omega.{arith}
use Rattle.layout.proofs.Laws.{words-few, place_inside, set_is}
use borrow.Author.Rules.{rules}
use Rattle.boxes.proofs.settings.set_at.Goals as goal

pub overflow_add-end : goal.overflow_add-end
overflow_add-end c = let s = c in let a = s.args in let p = s.requires.position_lt_ports in omega (arith, place_inside a.ports a.width a.position a.set p.0, words-few a.ports a.width p.1 p.2)

pub offset_bounds-settings-at : goal.offset_bounds-settings-at
offset_bounds-settings-at c = let s = c in let a = s.args in let p = s.requires.position_lt_ports in omega (arith, place_inside a.ports a.width a.position a.set p.0, words-few a.ports a.width p.1 p.2)

pub slice_bounds-result-end : goal.slice_bounds-result-end
slice_bounds-result-end c = let s = c in let a = s.args in let p = s.requires.position_lt_ports in omega (arith, place_inside a.ports a.width a.position a.set p.0, words-few a.ports a.width p.1 p.2)

pub returns : goal.returns
returns c = search (rules, set_is)
