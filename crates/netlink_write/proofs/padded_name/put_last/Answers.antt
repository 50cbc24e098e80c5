use mathlib.Core.List.{[], ◌∷◌}
use Rattle.netlink_write.proofs.attributes.Laws.{nul-le}
use native.Mathlib.Omega.{arith}
use mathlib.Core.Path.{ap, ◌∙◌}
use lib.ListN.{length-set}
use Rattle.basics.specs.Put.{put}
use Rattle.basics.proofs.Put.{put-set4}
use Rattle.netlink_write.proofs.padded_name.Laws.{last_word}
use Rattle.netlink_write.proofs.padded_name.put_last.Goals as goal

pub bounds-page-1 : goal.bounds-page-1
bounds-page-1 c = simp length-set (omega arith)

pub bounds-page-2 : goal.bounds-page-2
bounds-page-2 c = simp length-set (omega arith)

pub returns : goal.returns
returns c =
    let start = c in
    let k = c.nul_of-k.ensures in record {
      value = (k, omega (arith, k, nul-le (start.args.a ∷ start.args.b ∷ start.args.c ∷ [])));
      page_after = rw (c.kept.ensures, c.kept-2.ensures)
          (put-set4 start.args.page.now _ _ _ _ start.requires ∙ ap (put start.args.page.now) (last_word _ _ _ _ k));
    }
