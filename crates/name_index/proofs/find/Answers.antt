use mathlib.Core.Path.{refl}
use native.Mathlib.Omega.{arith}
use borrow.Author.Rules.{rules}
use Rattle.names.proofs.Search.{no-name-found, name-some, name-inside, sought, from_start, from_more, compared-other, compared_same}
use Rattle.name_index.proofs.Along.{along-start, along_look, along-end, along-next, along-inside, along-most}
use Rattle.name_index.proofs.find.Goals as goal

pub returns-then-no_name : goal.returns-then-no_name
returns-then-no_name c = search (rules, no-name-found)

pub overflow_sub-end : goal.overflow_sub-end
overflow_sub-end c = name-some _ _ c.no_name.ensures c.if-no_name.false _ c.name_length-n.ensures

pub bounds-name-end : goal.bounds-name-end
bounds-name-end c = let n = c.no_name.ensures in let z = c.if-no_name.false in let e = c.name_length-n.ensures in omega (arith, name-some _ _ n z _ e, name-inside _ _ n z _ e)

pub place_in-p-requires : goal.place_in-p-requires
place_in-p-requires c = let t = c.args.tables.now.linked in omega (arith, t.head-length, c.key_in.ensures.1)

pub entries-init : goal.entries-init
entries-init c = let w = sought _ _ c.no_name.ensures c.if-no_name.false _ c.name_length-n.ensures in let k = c.key_in.ensures in (w, along-start _ _ _ _ _ w _ _ c.args.tables.now.linked _ _ k.0 k.1 c.place_in-p.ensures)

pub returns-then-p-eq0 : goal.returns-then-p-eq0
returns-then-p-eq0 c = let e = c.entries.invariant in along-end _ _ _ _ _ e.0 _ _ e.1 c.if-p-eq0.true

pub place_in-p-requires-in-entries : goal.place_in-p-requires-in-entries
place_in-p-requires-in-entries c = let t = c.args.tables.now.linked in let e = c.entries.invariant in omega (arith, along-inside _ _ _ _ e.1, t.few, t.links-length)

pub overflow_add-compared : goal.overflow_add-compared
overflow_add-compared c = let t = c.args.tables.now.linked in let e = c.entries.invariant in omega (arith, along-most _ _ _ _ e.1, t.few)

pub loop-j-init : goal.loop-j-init
loop-j-init c = let e = c.entries.invariant in let k = along_look _ _ _ _ _ e.0 _ _ c.args.tables.now.linked _ _ _ _ e.1 c.if-p-eq0.false refl c.place_in-p-in-entries.ensures in (omega arith, e.0, k, from_start _ _ _ k.here _ _ _ e.0 k.agreed)

pub bounds-names-i : goal.bounds-names-i
bounds-names-i c = let l = c.loop-j.invariant in omega (arith, l.2.here)

pub entries-smaller : goal.entries-smaller
entries-smaller c = let l = c.loop-j.invariant in omega (arith, l.2.here, l.2.comparing.most)

pub entries-preserved : goal.entries-preserved
entries-preserved c = let l = c.loop-j.invariant in (l.1, along-next _ _ _ _ _ l.1 _ _ _ l.2 (compared-other _ _ _ l.2.here _ _ _ l.1 _ l.2.comparing _ (search rules) c.if-names-i.true))

pub loop-j-preserved : goal.loop-j-preserved
loop-j-preserved c = let l = c.loop-j.invariant in (omega arith, l.1, l.2, from_more _ _ _ l.2.here _ _ _ l.1 _ l.3 (omega arith) l.0 c.if-names-i.false)

pub returns-in-entries : goal.returns-in-entries
returns-in-entries c = let l = c.loop-j.invariant in compared_same _ _ _ l.2.here _ _ _ l.1 _ l.2.comparing _ l.3 c.loop-j-test.false
