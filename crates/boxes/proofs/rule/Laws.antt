-- Laws of the rules of the box: the first rule that is broken decides.
use Prim.Native.Nat.{ℕ, ◌≤◌, ◌<◌}
use mathlib.Core.Path.{◌≡◌, sym, ap, ◌∙◌}
use mathlib.Core.List.{List}
use mathlib.Core.Bool.{Bool, true, false, ◌&&◌, not}
use borrow.Author.Tests.{le-leb, lt-leb, not-true, not-false}
use lib.Dec.{leb}
use Rattle.entries.specs.Entry.{count}
use Rattle.roll.specs.Table.{Tabled, TableRead}
use lib.ListN.{length}
use Rattle.roll_rule.specs.Rule.{roll_right}
use Rattle.roll_rule.proofs.Laws as R
use Rattle.layout.specs.declared.Sizes.{Sizes}
use Rattle.layout.specs.Layout.{Names, of_lists}
use Rattle.layout.specs.AtMost.{AtMost}
use Rattle.boxes.specs.declared.Call.{Call}
use Rattle.boxes.specs.Box.{Box, State, ports_in, sizes_in}
use Rattle.boxes.specs.Settings.{settings_right}
use Rattle.boxes.specs.Rule.{family_right, admin_right, place_right, lists_right, box_right}
use Rattle.boxes.proofs.lists.Laws.{lists-few}

-- the bounds by which the settings may be judged
module _ (roll t : List ℕ) (r : TableRead roll t) (b : Bool) (e : b ≡ roll_right roll) (q : not b ≡ false) where
  pub roll-tabled : Tabled roll t
  roll-tabled = R.right-tabled roll t r (sym e ∙ not-false b q)

  pub roll-few : length t ≤ 64
  roll-few = roll-tabled.few

pub sizes-few : (names : Names) (b : Bool) (sizes : Sizes) → b ≡ lists_right names → not b ≡ false → sizes ≡ of_lists count names → AtMost 512 sizes
sizes-few names b sizes e q es = rw es (lists-few names (sym e ∙ not-false b q))

module _ (box : Box) (state : State) (call : Call) where
  pub family-low : call.family < 16 → false ≡ box_right box state call
  unfolding box_right family_right
  family-low h = sym (rw (lt-leb _ _ h))

  module _ (l : 16 ≤ call.family) where
    pub family-high : 65535 < call.family → false ≡ box_right box state call
    unfolding box_right family_right
    family-high h = sym (rw (le-leb _ _ l, lt-leb _ _ h))

    module _ (u : call.family ≤ 65535) where
      pub admin-other : 1 < call.admin → false ≡ box_right box state call
      unfolding box_right family_right admin_right
      admin-other h = sym (rw (le-leb _ _ l, le-leb _ _ u, lt-leb _ _ h))

      module _ (a : call.admin ≤ 1) where
        by-roll : box_right box state call
            ≡ roll_right box.roll && (place_right (ports_in box) call.place && (lists_right box.names && settings_right state.words (ports_in box) (sizes_in box)))
        unfolding box_right family_right admin_right
        by-roll = rw (le-leb _ _ l, le-leb _ _ u, le-leb _ _ a)

        module _ (r : Bool) (er : r ≡ roll_right box.roll) where
          pub roll-wrong : not r ≡ true → false ≡ box_right box state call
          roll-wrong h = sym (by-roll ∙ rw (← er, not-true r h))

          module _ (hr : not r ≡ false) (t : List ℕ) (rd : TableRead box.roll t) where
            counted : length t ≡ ports_in box
            counted = (roll-tabled box.roll t rd r er hr).count

            by_place : box_right box state call ≡ leb call.place (length t) && (lists_right box.names && settings_right state.words (ports_in box) (sizes_in box))
            unfolding place_right
            by_place = by-roll ∙ rw (← er, not-false r hr, counted)

            pub place-wrong : length t < call.place → false ≡ box_right box state call
            place-wrong h = sym (by_place ∙ rw (lt-leb _ _ h))

            module _ (p : call.place ≤ length t) (n : Bool) (en : n ≡ lists_right box.names) where
              by-lists : box_right box state call ≡ n && settings_right state.words (ports_in box) (sizes_in box)
              by-lists = by_place ∙ rw (le-leb _ _ p, en)

              pub lists-wrong : not n ≡ true → false ≡ box_right box state call
              lists-wrong h = sym (by-lists ∙ ap (λ (x : Bool). x && settings_right state.words (ports_in box) (sizes_in box)) (not-true n h))

              pub settings-decide : (sizes : Sizes) (b : Bool) → not n ≡ false → sizes ≡ sizes_in box → b ≡ settings_right state.words (length t) sizes
                  → b ≡ box_right box state call
              settings-decide sizes b h es eb =
                  eb ∙ ap (λ (x : ℕ). settings_right state.words x sizes) counted
                  ∙ rw es (sym (by-lists ∙ ap (λ (x : Bool). x && settings_right state.words (ports_in box) (sizes_in box)) (not-false n h)))

pub ruleset box_laws = (family-low, family-high, admin-other, roll-wrong, place-wrong, lists-wrong, settings-decide)
