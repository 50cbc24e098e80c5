use Rattle.entries.proofs.NameLength.{in-fourth, in-third, in-second, in-first}
use Rattle.entries.proofs.length.entry_length.Goals as goal

pub returns-then-fourth-ne0 : goal.returns-then-fourth-ne0
returns-then-fourth-ne0 c =
    let k = c in
    in-fourth _ _ k.requires (λ j. (k.type_inv.list j).fits) _ c.eight-fourth.ensures c.if-fourth-ne0.true _ c.bytes_in.ensures

pub returns-then-third-ne0 : goal.returns-then-third-ne0
returns-then-third-ne0 c =
    let k = c in
    in-third _ _ k.requires (λ j. (k.type_inv.list j).fits) _ c.eight-fourth.ensures c.if-fourth-ne0.false _ c.eight-third.ensures c.if-third-ne0.true _ c.bytes_in-then-third-ne0.ensures

pub returns-then-second-ne0 : goal.returns-then-second-ne0
returns-then-second-ne0 c =
    let k = c in
    in-second _ _ k.requires (λ j. (k.type_inv.list j).fits) _ c.eight-fourth.ensures c.if-fourth-ne0.false _ c.eight-third.ensures c.if-third-ne0.false _ c.eight-second.ensures
    c.if-second-ne0.true _ c.bytes_in-then-second-ne0.ensures

pub returns : goal.returns
returns c =
    let k = c in
    in-first _ _ k.requires (λ j. (k.type_inv.list j).fits) _ c.eight-fourth.ensures c.if-fourth-ne0.false _ c.eight-third.ensures c.if-third-ne0.false _ c.eight-second.ensures
    c.if-second-ne0.false _ _ c.eight.ensures c.bytes_in-2.ensures
