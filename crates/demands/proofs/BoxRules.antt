-- The rules of the box, both ways: what the code calls a right box is what document 01 says of it over bytes and words (`demands` BoxRules).
--     settings-exactly  settings are right exactly when they are the words of all ports, with no bit at or past N in any set
--     told, counted     the numbers that roll and lists tell are those by which the code places the sets
--     box-exactly       a box is right exactly when it keeps `BoxRules`
--     stored-exactly    so it is over bytes, where the settings are whole words
use Prim.Native.Nat.{ℕ, ◌+◌, ◌*◌, ◌/◌, ◌%◌, ◌≤◌, ◌<◌}
use mathlib.Core.Path.{◌≡◌, refl, sym, ap, ◌∙◌}
use mathlib.Core.List.{List}
use mathlib.Core.Bool.{true, false}
use mathlib.Core.Logic.{⊎_elim}
use lib.ListN.{get_or}
use native.Mathlib.Omega.{arith}
use borrow.Author.Tests.{eq-eqb, ne_eqb, eqb-false, le-leb}
use Rattle.basics.proofs.Order.{lt-or-ge}
use Rattle.basics.proofs.Scan.{all_of}
use Rattle.bits.specs.Bit.{bit, test}
use Rattle.bits.specs.Set.{has, none_from, words_for}
use Rattle.bits.proofs.Bit.{test_zero}
use Rattle.bits.proofs.Cut.{none_below, below_none}
use Rattle.layout.specs.declared.Set.{Set}
use Rattle.layout.specs.declared.Set.TheVariants.{Debug, Flags}
use Rattle.layout.specs.declared.Sizes.{Sizes}
use Rattle.layout.specs.Layout.{list_of, size_of, first_of, widths_of, port_words, total_words, set_place, set_at, every_set}
use Rattle.layout.proofs.Laws.{sizes-of, each-every}
use Rattle.boxes.specs.Box.{Box, State, ports_in, sizes_in}
use Rattle.boxes.specs.declared.Call.{Call}
use Rattle.boxes.specs.Settings.{set_clear, port_clear, settings_right}
use Rattle.boxes.specs.Rule.{family_right, admin_right, place_right, lists_right, box_right}
use Rattle.boxes.proofs.rule.Meaning.{box-means}
use Rattle.boxes.proofs.settings.Laws as S
use Rattle.handler.specs.Bytes.{Stored, in_words}
use Rattle.demands.specs.Stored.{stored_right}
use Rattle.demands.specs.BoxRules.{NameList, PortRoll, ClearFrom, Settings, BoxRules, StoredRules}
use Rattle.demands.proofs.StoredBox.{part_at, part-past, right-whole, right-box}
use Rattle.demands.proofs.BoxNames.{list-exactly, list_counted}
use Rattle.demands.proofs.BoxRoll.{roll-exactly, rules-counted}

-- one bit
bit-off : (x i : ℕ) → test x i ≡ false → bit x i ≡ 0
bit-off x i h =
    ⊎_elim (λ (z : bit x i < 1). omega arith) (λ (z : 1 ≤ bit x i). absurd (eqb-false (bit x i) 1 h (omega arith))) (lt-or-ge (bit x i) 1)

off-bit : (x i : ℕ) → bit x i ≡ 0 → test x i ≡ false
off-bit x i h = ne_eqb (bit x i) 1 (λ z. omega arith)

-- one set of one port, which begins at a place
module _ (words : List ℕ) (ports : ℕ) (sizes : Sizes) (position : ℕ) (set : Set) (at : ℕ) (here : set_place ports (widths_of sizes) position set ≡ at) where
  abbrev held : List ℕ
  held = set_at words ports (widths_of sizes) position set

  has_in : (i : ℕ) → i < words_for (size_of sizes set) * 32 → has held i ≡ test (get_or words (at + i / 32) 0) (i % 32)
  unfolding has set_at
  has_in i l =
      let w = sizes-of words_for sizes set in
      ap (λ (x : ℕ). test x (i % 32)) (part_at words ports (widths_of sizes) position set words (i / 32) (omega arith))
      ∙ ap (λ (x : ℕ). test (get_or words (x + i / 32) 0) (i % 32)) here

  has-out : (i : ℕ) → words_for (size_of sizes set) * 32 ≤ i → has held i ≡ false
  unfolding has set_at
  has-out i l =
      let w = sizes-of words_for sizes set in
      ap (λ (x : ℕ). test x (i % 32)) (part-past words ports (widths_of sizes) position set words (i / 32) (omega arith)) ∙ test_zero (i % 32)

  none-clear : none_from held (size_of sizes set) ≡ true → ClearFrom (size_of sizes set) words at
  none-clear h i l u = bit-off _ (i % 32) (sym (has_in i u) ∙ none_below held (size_of sizes set) h i l)

  clear_none : ClearFrom (size_of sizes set) words at → none_from held (size_of sizes set) ≡ true
  clear_none h =
      below_none held (size_of sizes set)
      (λ i l. ⊎_elim
      (λ (u : i < words_for (size_of sizes set) * 32). has_in i u ∙ off-bit _ (i % 32) (h i l u))
      (λ (u : words_for (size_of sizes set) * 32 ≤ i). has-out i u)
      (lt-or-ge i (words_for (size_of sizes set) * 32)))

-- all sets of all ports
module _ (words : List ℕ) (ports : ℕ) (sizes : Sizes) where
  settings-means : settings_right words ports sizes ≡ true → Settings ports sizes.debug sizes.flags words
  unfolding total_words port_words set_place first_of size_of
  settings-means h =
      let r = S.right-means words ports sizes h in
      record {
        exact = r.exact;
        debug-clear = λ p l. none-clear words ports sizes p Debug _ (omega arith) (r.clear p l Debug);
        flags-clear = λ p l. none-clear words ports sizes p Flags _ refl (r.clear p l Flags);
      }

  module _ (r : Settings ports sizes.debug sizes.flags words) where
    clear_at : (p : ℕ) → p < ports → (set : Set) → set_clear words ports sizes p set ≡ true
    unfolding set_clear port_words set_place first_of size_of
    clear_at p l Debug = clear_none words ports sizes p Debug _ (omega arith) (r.debug-clear p l)
    clear_at p l Flags = clear_none words ports sizes p Flags _ refl (r.flags-clear p l)

    port-at : (p : ℕ) → p < ports → port_clear words ports sizes p ≡ true
    unfolding port_clear
    port-at p l = each-every (set_clear words ports sizes p) (clear_at p l)

    means-settings : settings_right words ports sizes ≡ true
    unfolding settings_right total_words port_words
    means-settings = rw (eq-eqb _ _ r.exact, all_of (port_clear words ports sizes) ports port-at)

  pub settings-exactly : (settings_right words ports sizes ≡ true → Settings ports sizes.debug sizes.flags words)
      × (Settings ports sizes.debug sizes.flags words → settings_right words ports sizes ≡ true)
  settings-exactly = (settings-means, means-settings)

-- what holds of the numbers that roll and lists tell, and of those by which the code places the sets
module _ (box : Box) (roll : PortRoll box.roll) (debug : NameList box.names.debug) (flags : NameList box.names.flags) (P : ℕ → ℕ → ℕ → Type 0) where
  pub told : P (ports_in box) (sizes_in box).debug (sizes_in box).flags → P roll.ports debug.entries flags.entries
  told s = rw (← rules-counted box.roll roll, ← list_counted box.names.debug debug, ← list_counted box.names.flags flags) s

  pub counted : P roll.ports debug.entries flags.entries → P (ports_in box) (sizes_in box).debug (sizes_in box).flags
  counted s = rw (rules-counted box.roll roll, list_counted box.names.debug debug, list_counted box.names.flags flags) s

-- the box
module _ (box : Box) (state : State) (call : Call) where
  abbrev Sets : ℕ → ℕ → ℕ → Type 0
  Sets ports debug flags = Settings ports debug flags state.words

  rules-of : box_right box state call ≡ true → BoxRules box state call
  unfolding list_of
  rules-of h =
      let r = box-means box state call h in
      let roll = (roll-exactly box.roll).0 r.roll-right in
      let debug = (list-exactly box.names.debug).0 (r.names-right Debug) in
      let flags = (list-exactly box.names.flags).0 (r.names-right Flags) in
      record {
        family-low = r.family-low;
        family-high = r.family-high;
        admin = r.admin-bit;
        roll = roll;
        place = rw (← rules-counted box.roll roll) r.place-counted;
        debug = debug;
        flags = flags;
        settings = told box roll debug flags Sets (settings-means state.words (ports_in box) (sizes_in box) r.settings-right);
      }

  of-rules : BoxRules box state call → box_right box state call ≡ true
  unfolding box_right family_right admin_right place_right lists_right every_set list_of
  of-rules r =
      let low = le-leb 16 call.family r.family-low in
      let high = le-leb call.family 65535 r.family-high in
      let admin = le-leb call.admin 1 r.admin in
      let place = le-leb call.place (ports_in box) (rw (rules-counted box.roll r.roll) r.place) in
      let debug = (list-exactly box.names.debug).1 r.debug in
      let flags = (list-exactly box.names.flags).1 r.flags in
      rw (low, high, admin, (roll-exactly box.roll).1 r.roll, place, debug, flags)
      (means-settings state.words (ports_in box) (sizes_in box) (counted box r.roll r.debug r.flags Sets r.settings))

  pub box-exactly : (box_right box state call ≡ true → BoxRules box state call) × (BoxRules box state call → box_right box state call ≡ true)
  box-exactly = (rules-of, of-rules)

-- over bytes
pub stored-exactly : (box : Box) (stored : Stored) (call : Call)
    → (stored_right box stored call ≡ true → StoredRules box stored call) × (StoredRules box stored call → stored_right box stored call ≡ true)
unfolding stored_right
stored-exactly box stored call = (
  λ h. (right-whole box stored call h, (box-exactly box (in_words stored) call).0 (right-box box stored call h)),
  λ r. rw (eq-eqb _ 0 r.0, (box-exactly box (in_words stored) call).1 r.1),
)
