use Prim.Native.Nat.{◌<◌, ◌-◌, ◌*◌}
use mathlib.Core.Path.{◌≡◌, sym, ap, ◌∙◌}
use native.Mathlib.Omega.{arith}
use lib.ListN.{length, take, get_or}
use lib.Seq.{take_all, length-take-le}
use borrow.Rule.Slice.PartMut.{same_len_mid}
use Rattle.basics.specs.Numbers.{le32}
use Rattle.basics.specs.Put.{put}
use Rattle.basics.proofs.Put.{put-nil, then-rest, length_rest}
use Rattle.word_bytes.specs.Bytes.{bytes_of}
use Rattle.word_bytes.proofs.WordBytes.{bytes_of-more, length-bytes_of}
use Rattle.word_bytes.proofs.write_words.Goals as goal

pub loop-j-init : goal.loop-j-init
unfolding bytes_of
loop-j-init c = (omega arith, sym (put-nil _), omega arith)

pub put_u32-requires : goal.put_u32-requires
put_u32-requires c = rw length_rest (omega arith)

pub loop-j-preserved : goal.loop-j-preserved
loop-j-preserved c =
    let l = c.loop-j in
    let a = c.args in
    let call = c.put_u32 in
    let ws = a.words.now in
    let less : l.j < length ws = omega arith in
    let len : length (bytes_of (take l.j ws)) ≡ l.j * 4 = length-bytes_of (take l.j ws) ∙ ap (λ k. k * 4) (length-take-le l.j ws (omega arith)) in (
      omega arith,
      then-rest a.bytes.now (bytes_of (take l.j ws)) (le32 (get_or ws l.j 0)) (l.j * 4) len (omega arith) l.invariant.1 call.ensures
          ∙ ap (put a.bytes.now) (sym (bytes_of-more ws l.j less)),
      same_len_mid (l.j * 4) (length l.bytes - l.j * 4) l.bytes call.new.page call.auto.page ∙ l.invariant.2,
    )

pub returns : goal.returns
returns c = let a = c.args in c.loop-j.invariant.1 ∙ ap (λ l. put a.bytes.now (bytes_of l)) (take_all c.loop-j.j a.words.now c.loop-j-test.false)
