use mathlib.Core.Path.{refl}
use native.Mathlib.Omega.{arith}
use borrow.Author.Rules.{rules}
use Rattle.names.proofs.Passing.{next-inside}
use Rattle.names.proofs.Search.{no-name-found, name-some, sought, passed_start, passed-next, passed_length, passed-agrees, both-agree, from_start, from_more, compared-other, compared_same, passed-all}
use Rattle.names.proofs.find_name.Goals as goal

pub bounds-name-end : goal.bounds-name-end
bounds-name-end c = let w = c.entries.invariant.1 in omega (arith, w.end_is, w.inside)

pub returns-then-no_name : goal.returns-then-no_name
returns-then-no_name c = no-name-found _ _ _ c.no_name.ensures c.if-no_name.true

pub overflow_sub-end : goal.overflow_sub-end
overflow_sub-end c = name-some _ _ c.no_name.ensures c.if-no_name.false _ c.name_length-n.ensures

pub entries-init : goal.entries-init
entries-init c = (omega arith, sought _ _ c.no_name.ensures c.if-no_name.false _ c.name_length-n.ensures, passed_start _ _)

pub next_with-i-requires : goal.next_with-i-requires
next_with-i-requires c = let l = c.entries.invariant in (omega (arith, l.1.end_is, l.1.inside, l.1.short), l.0)

pub returns-then-i-names : goal.returns-then-i-names
returns-then-i-names c =
    let l = c.entries.invariant in
    let x = c.next_with-i.ensures in
    let e = c.if-i-names.true in
    passed-all _ _ _ _ _ _ _ l.1 (passed-next _ _ _ _ _ _ _ _ l.1 l.2 x) (omega arith) (omega arith)

pub overflow_add-next : goal.overflow_add-next
overflow_add-next c = omega (arith, next-inside _ _ _ _ _ c.next_with-i.ensures c.if-i-names.false)

pub entry_length-requires : goal.entry_length-requires
entry_length-requires c = next-inside _ _ _ _ _ c.next_with-i.ensures c.if-i-names.false

pub entries-smaller-then-entry_length-n : goal.entries-smaller-then-entry_length-n
entries-smaller-then-entry_length-n c = let x = c.next_with-i.ensures.others.from in omega (arith, next-inside _ _ _ _ _ c.next_with-i.ensures c.if-i-names.false)

pub entries-preserved-then-entry_length-n : goal.entries-preserved-then-entry_length-n
entries-preserved-then-entry_length-n c =
    let l = c.entries.invariant in
    let x = c.next_with-i.ensures in
    let h = next-inside _ _ _ _ _ c.next_with-i.ensures c.if-i-names.false in
    (omega (arith, h), l.1, passed_length _ _ _ h _ _ _ l.1 _ (passed-next _ _ _ _ _ _ _ _ l.1 l.2 x) _ c.entry_length.ensures c.if-entry_length-n.true)

pub overflow_add-compared : goal.overflow_add-compared
overflow_add-compared c =
    let l = c.entries.invariant in
    let p = passed-next _ _ _ _ _ _ _ _ l.1 l.2 c.next_with-i.ensures in
    omega (arith, p.most, next-inside _ _ _ _ _ c.next_with-i.ensures c.if-i-names.false)

pub loop-j-init : goal.loop-j-init
loop-j-init c =
    let l = c.entries.invariant in
    let x = c.next_with-i.ensures in
    let h = next-inside _ _ _ _ _ c.next_with-i.ensures c.if-i-names.false in
    let a = both-agree _ _ _ h _ _ _ l.1 _ c.entry_length.ensures c.if-entry_length-n.false (x.has h) in
    (omega arith, refl, h, l.1, passed-agrees _ _ _ _ (passed-next _ _ _ _ _ _ _ _ l.1 l.2 x) a, from_start _ _ _ h _ _ _ l.1 a)

pub entries-preserved : goal.entries-preserved
entries-preserved c =
    let l = c.loop-j.invariant in
    (omega arith, l.3, compared-other _ _ _ l.2 _ _ _ l.3 _ l.4 _ (search rules) c.if-names-i.true)

pub loop-j-preserved : goal.loop-j-preserved
loop-j-preserved c =
    let l = c.loop-j.invariant in
    (omega arith, l.1, l.2, l.3, l.4, from_more _ _ _ l.2 _ _ _ l.3 _ l.5 (omega arith) l.0 c.if-names-i.false)

pub returns-in-entries : goal.returns-in-entries
returns-in-entries c = search (rules, compared_same)
