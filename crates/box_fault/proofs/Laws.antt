-- Laws of the fault of a box: the first part that breaks its rule decides.
use Prim.Native.Nat.{ℕ, ◌≤◌, ◌<◌}
use mathlib.Core.Path.{◌≡◌, sym, ◌∙◌}
use mathlib.Core.List.{List}
use mathlib.Core.Bool.{Bool, true, false, not}
use lib.ListN.{length}
use borrow.Author.Tests.{le-leb, lt-leb, not-true, not-false}
use Rattle.entries.specs.Entry.{count}
use Rattle.std.specs.Prelude.{Option}
use Rattle.names.specs.Rule.{names_right}
use Rattle.names.proofs.Rules as N
use Rattle.roll.specs.Table.{TableRead}
use Rattle.roll_rule.specs.Rule.{roll_right}
use Rattle.roll_rule.proofs.Laws as R
use Rattle.layout.specs.declared.Sizes.{Sizes}
use Rattle.layout.specs.Layout.{names_of, of_lists}
use Rattle.layout.specs.AtMost.{AtMost}
use Rattle.boxes.specs.Box.{Box, box_of, ports_in, sizes_in}
use Rattle.boxes.specs.Rule.{family_right, admin_right}
use Rattle.box_fault.specs.Longest.{right_up_to}
use Rattle.box_fault.specs.Settings.{fault_at, settings_fault}
use Rattle.box_fault.specs.Fault.{box_fault}
use Rattle.box_fault.specs.declared.Fault.{Fault}
use Rattle.box_fault.specs.declared.Part.TheVariants.{Family, Admin, Roll, DebugNames, FlagNames}

-- the bounds by which the settings may be judged
pub sizes-few : (debug flags : List ℕ) (d f : Bool) (sizes : Sizes) → d ≡ names_right debug → not d ≡ false → f ≡ names_right flags → not f ≡ false
    → sizes ≡ of_lists count (names_of debug flags) → AtMost 512 sizes
sizes-few debug flags d f sizes ed qd ef qf es =
    rw es
    (record {
      debug = (N.right-means debug (sym ed ∙ not-false d qd)).few;
      flags = (N.right-means flags (sym ef ∙ not-false f qf)).few;
    })

module _ (family admin : ℕ) (roll debug flags settings : List ℕ) (r : Option Fault) where
  abbrev box : Box
  box = box_of roll debug flags

  abbrev told : Option Fault
  told = box_fault family admin box settings

  pub family-low : family < 16 → r ≡ fault_at Family 0 → r ≡ told
  unfolding box_fault family_right
  family-low h e = e ∙ sym (rw (lt-leb _ _ h))

  module _ (l : 16 ≤ family) where
    pub family-high : 65535 < family → r ≡ fault_at Family 0 → r ≡ told
    unfolding box_fault family_right
    family-high h e = e ∙ sym (rw (le-leb _ _ l, lt-leb _ _ h))

    module _ (u : family ≤ 65535) where
      pub admin-other : 1 < admin → r ≡ fault_at Admin 0 → r ≡ told
      unfolding box_fault family_right admin_right
      admin-other h e = e ∙ sym (rw (le-leb _ _ l, le-leb _ _ u, lt-leb _ _ h))

      module _ (a : admin ≤ 1) (b : Bool) (eb : b ≡ roll_right roll) where
        pub roll-wrong : (o : ℕ) → not b ≡ true → o ≡ right_up_to roll_right roll → r ≡ fault_at Roll o → r ≡ told
        unfolding box_fault family_right admin_right
        roll-wrong o h eo e = e ∙ rw eo (sym (rw (le-leb _ _ l, le-leb _ _ u, le-leb _ _ a, ← eb, not-true b h)))

        module _ (hb : not b ≡ false) (d : Bool) (ed : d ≡ names_right debug) where
          pub debug-wrong : (o : ℕ) → not d ≡ true → o ≡ right_up_to names_right debug → r ≡ fault_at DebugNames o → r ≡ told
          unfolding box_fault family_right admin_right
          debug-wrong o h eo e =
              e ∙ rw eo (sym (rw (le-leb _ _ l, le-leb _ _ u, le-leb _ _ a, ← eb, not-false b hb, ← ed, not-true d h)))

          module _ (hd : not d ≡ false) (f : Bool) (ef : f ≡ names_right flags) where
            pub flags-wrong : (o : ℕ) → not f ≡ true → o ≡ right_up_to names_right flags → r ≡ fault_at FlagNames o → r ≡ told
            unfolding box_fault family_right admin_right
            flags-wrong o h eo e =
                e ∙ rw eo (sym (rw (le-leb _ _ l, le-leb _ _ u, le-leb _ _ a, ← eb, not-false b hb, ← ed, not-false d hd, ← ef, not-true f h)))

            pub settings-decide : (t : List ℕ) (sizes : Sizes) → not f ≡ false → TableRead roll t → sizes ≡ sizes_in box
                → r ≡ settings_fault settings (length t) sizes → r ≡ told
            unfolding box_fault family_right admin_right
            settings-decide t sizes hf rd es e =
                let ports : length t ≡ ports_in box = (R.right-tabled roll t rd (sym eb ∙ not-false b hb)).count in
                e ∙ rw (ports, es) (sym (rw (le-leb _ _ l, le-leb _ _ u, le-leb _ _ a, ← eb, not-false b hb, ← ed, not-false d hd, ← ef, not-false f hf)))

pub ruleset box_laws = (family-low, family-high, admin-other, roll-wrong, debug-wrong, flags-wrong, settings-decide)

pub roll-few : (roll t : List ℕ) (b : Bool) → TableRead roll t → b ≡ roll_right roll → not b ≡ false → length t ≤ 64
roll-few roll t b r e q = (R.right-tabled roll t r (sym e ∙ not-false b q)).few
