-- What a right box means.
use Prim.Native.Nat.{◌≤◌}
use mathlib.Core.Path.{◌≡◌}
use mathlib.Core.Bool.{true, ◌&&◌}
use lib.Dec.{leb}
use borrow.Author.Tests.{leb-true, le-leb}
use Rattle.basics.proofs.Truth.{both_true}
use Rattle.names.specs.Rule.{names_right}
use Rattle.roll_rule.specs.Rule.{roll_right}
use Rattle.roll_rule.proofs.Laws as R
use Rattle.layout.specs.declared.Set.{Set}
use Rattle.layout.specs.Layout.{list_of}
use Rattle.layout.specs.AtMost.{AtMost}
use Rattle.boxes.specs.declared.Call.{Call}
use Rattle.boxes.specs.Box.{Box, State, ports_in, sizes_in}
use Rattle.boxes.specs.Settings.{settings_right}
use Rattle.boxes.specs.Rule.{family_right, admin_right, place_right, lists_right, box_right}
use Rattle.boxes.proofs.lists.Laws.{lists-each, lists-few}
use Rattle.boxes.proofs.settings.Laws as S

-- each rule, and the bounds that callers need
pub record Right (box : Box) (state : State) (call : Call) : Type 0 where
  pub family-low : 16 ≤ call.family
  pub family-high : call.family ≤ 65535
  pub admin-bit : call.admin ≤ 1
  pub roll-right : roll_right box.roll ≡ true
  pub ports-some : 1 ≤ ports_in box
  pub ports-few : ports_in box ≤ 64
  pub place-counted : call.place ≤ ports_in box
  pub lists-right : lists_right box.names ≡ true
  pub names-right : (set : Set) → names_right (list_of box.names set) ≡ true
  pub few : AtMost 512 (sizes_in box)
  pub settings-right : settings_right state.words (ports_in box) (sizes_in box) ≡ true
  pub settings : S.Right state.words (ports_in box) (sizes_in box)

pub box-means : (box : Box) (state : State) (call : Call) → box_right box state call ≡ true → Right box state call
unfolding box_right family_right admin_right place_right
box-means box state call h =
    let a = both_true (leb 16 call.family && leb call.family 65535) _ h in
    let b = both_true (leb 16 call.family) (leb call.family 65535) a.0 in
    let c = both_true (leb call.admin 1) _ a.1 in
    let d = both_true (roll_right box.roll) _ c.1 in
    let p = both_true (leb call.place (ports_in box)) _ d.1 in
    let e = both_true (lists_right box.names) _ p.1 in
    let ports = R.right-means box.roll d.0 in
    record {
      family-low = leb-true 16 call.family b.0;
      family-high = leb-true call.family 65535 b.1;
      admin-bit = leb-true call.admin 1 c.0;
      roll-right = d.0;
      ports-some = ports.some;
      ports-few = ports.few;
      place-counted = leb-true call.place (ports_in box) p.0;
      lists-right = e.0;
      names-right = lists-each box.names e.0;
      few = lists-few box.names e.0;
      settings-right = e.1;
      settings = S.right-means state.words (ports_in box) (sizes_in box) e.1;
    }

-- settings that are right make a right box again: the other rules do not look at them
pub box-keeps : (box : Box) (state after : State) (call : Call) → box_right box state call ≡ true
    → settings_right after.words (ports_in box) (sizes_in box) ≡ true → box_right box after call ≡ true
unfolding box_right family_right admin_right place_right
box-keeps box state after call h s =
    let r = box-means box state call h in
    rw (le-leb 16 call.family r.family-low, le-leb call.family 65535 r.family-high, le-leb call.admin 1 r.admin-bit, r.roll-right, le-leb call.place (ports_in box) r.place-counted, r.lists-right, s)
