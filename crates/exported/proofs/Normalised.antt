-- What C gets back from `ethnl_normalise`, from its contract alone.
--     normal-returned    the number, the count and the page are as `NormalReturned` says, whatever was lent
use Prim.Native.Nat.{◌<◌}
use mathlib.Core.Path.{◌≡◌, sym, ap, ◌∙◌}
use lib.ListN.{length}
use native.Mathlib.Omega.{arith}
use Rattle.basics.specs.Put.{put}
use Rattle.basics.proofs.Put.{put-nil}
use Rattle.normal.specs.Normal.{NormalAnswer, normalised}
use Rattle.normal.proofs.Demand3.{accepted-exactly, form-exact}
use Rattle.demands.proofs.NormalChecks.{normal-refused-exactly}
use Rattle.demands.proofs.OwnNames.{normal-own-names}
use Rattle.exported.specs.Normalised.{NormalLent, NormalLeft, NormalLeaves, FormLeft, NothingLeft, NormalReturned}

module _ (c : NormalLent) (r : NormalLeft) (h : NormalLeaves c r) where
  abbrev answer : NormalAnswer
  answer = normalised c.contents c.names (length c.page)

  form-left : r.number ≡ 0 → FormLeft c r
  form-left z =
      let zero : answer.number ≡ 0 = sym h.number ∙ z in
      record {
        accepts = (accepted-exactly c.contents c.names (length c.page)).0 zero;
        own-names = normal-own-names c.contents c.names (length c.page) zero;
        bytes = answer.bytes;
        form = form-exact c.contents c.names (length c.page) zero;
        page = h.page;
        written = h.count;
      }

  nothing_left : 0 < r.number → NothingLeft c r
  nothing_left l =
      let why = (normal-refused-exactly c.contents c.names (length c.page)).0 (omega (arith, l, h.number)) in
      let none = ap (λ (x : NormalAnswer). x.bytes) why.2 in
      record {
        why = why.0;
        first = why.1;
        number = h.number ∙ ap (λ (x : NormalAnswer). x.number) why.2;
        page = h.page ∙ ap (put c.page) none ∙ put-nil c.page;
        written = h.count ∙ ap length none;
      }

  pub normal-returned : NormalReturned c r
  normal-returned =
      record {
        accepted = form-left;
        back = λ a. h.number ∙ (accepted-exactly c.contents c.names (length c.page)).1 a;
        refused = nothing_left;
        refused-back =
            λ why first. h.number
            ∙ ap (λ (x : NormalAnswer). x.number) ((normal-refused-exactly c.contents c.names (length c.page)).1 why first);
      }
