use mathlib.Core.Path.{sym}
use native.Mathlib.Omega.{arith}
use lib.ListN.{length-set}
use lib.Seq.{length-take-le}
use Rattle.basics.proofs.Put.{put-nil}
use Rattle.word_bytes.proofs.WordBytes.{read-turn, read-all}
use Rattle.word_bytes.proofs.read_words.Goals as goal

pub loop-j-init : goal.loop-j-init
loop-j-init c = let room = length-take-le _ c.args.words.now c.requires in record { read = sym (put-nil _); room = room; same_length = room }

pub loop-j-preserved : goal.loop-j-preserved
loop-j-preserved c =
    let l = c.loop-j in
    record {
      read = read-turn c.args.bytes.now _ l.word-items l.j _ l.invariant.read (omega (arith, l.invariant.same_length)) (omega (arith, l.invariant.room)) c.word_in.ensures;
      room = l.invariant.room;
      same_length = simp length-set l.invariant.same_length;
    }

pub returns : goal.returns
returns c = let l = c.loop-j in read-all c.args.bytes.now c.args.words.now l.word-items l.j l.invariant.room l.invariant.read (omega (arith, l.invariant.same_length))
