-- What `box_fault` tells of a box, by the rules as document 01 has them (`demands` BoxFault).
--     fault-told     the number and the offset are as `FaultTold` says
--     kept-rules     where every part keeps its rule the box keeps `StoredRules`, at any position of a datagram
--     rules-kept     and where it does every part keeps its rule
use Prim.Native.Nat.{ℕ, suc, ◌*◌, ◌≤◌, ◌<◌, min}
use mathlib.Core.Path.{◌≡◌, refl}
use mathlib.Core.List.{List}
use mathlib.Core.Bool.{Bool, true, false, not, cond}
use mathlib.Core.Logic.{⊎_elim}
use lib.ListN.{length}
use lib.Dec.{leb, eqb}
use native.Mathlib.Omega.{arith}
use borrow.Author.Tests.{eqb-true, eqb-false, le-leb, leb-true}
use Rattle.basics.proofs.Order.{lt-or-ge}
use Rattle.basics.proofs.Truth.{both_true, clash}
use Rattle.std.specs.Prelude.{Option, None}
use Rattle.word_bytes.specs.Bytes.{words_in}
use Rattle.word_bytes.proofs.WordBytes.{length-words_in}
use Rattle.names.specs.Rule.{names_right}
use Rattle.roll_rule.specs.Rule.{roll_right}
use Rattle.boxes.specs.Box.{Box, ports_in, sizes_in}
use Rattle.boxes.specs.Rule.{family_right, admin_right}
use Rattle.boxes.specs.Settings.{settings_right}
use Rattle.box_fault.specs.Longest.{right_up_to}
use Rattle.box_fault.specs.Settings.{fault_at, right_length, right_with_zeros, settings_fault}
use Rattle.box_fault.specs.Fault.{part_number, fault_number, fault_offset, box_fault}
use Rattle.box_fault.specs.declared.Fault.{Fault}
use Rattle.box_fault.specs.declared.Part.{Part}
use Rattle.box_fault.specs.declared.Part.TheVariants as P
use Rattle.demands.specs.BoxRules.{NameList, PortRoll, Settings, StoredRules}
use Rattle.demands.specs.BoxFault.{BoxParts, call_at, Exactly, Kept, AllKept, FirstBroken, LongestRight, SettingsPlace, FaultTold}
use Rattle.demands.specs.BoxFault.Kept.{family-kept, admin-kept, roll-kept, debug-kept, flags-kept, settings-kept}
use Rattle.demands.proofs.BoxNames.{list-exactly}
use Rattle.demands.proofs.BoxRoll.{roll-exactly, rules-counted}
use Rattle.demands.proofs.BoxRules.{settings-exactly, told, counted}
use Rattle.demands.proofs.BoxPlace.{roll-longest, list-longest, place_other, place-exact, right-long}

-- the offset, by the number of the part
data Place (c : BoxParts) : ℕ → ℕ → Type 0 where
  none : (n : ℕ) → n ≤ 2 → Place c n 0
  roll-place : (o : ℕ) → LongestRight PortRoll 21 c.box.roll o → Place c 3 o
  debug-place : (o : ℕ) → LongestRight NameList 32 c.box.names.debug o → Place c 4 o
  flags-place : (o : ℕ) → LongestRight NameList 32 c.box.names.flags o → Place c 5 o
  settings-place : (o : ℕ)
      → ((roll : PortRoll c.box.roll) (debug : NameList c.box.names.debug) (flags : NameList c.box.names.flags)
      → SettingsPlace roll.ports debug.entries flags.entries c.settings.settings o) → Place c 6 o

module _ (c : BoxParts) where
  nowhere-of : {n o : ℕ} → Place c n o → n ≤ 2 → o ≡ 0
  nowhere-of (none n l) e = refl
  nowhere-of (roll-place o p) e = absurd (omega arith)
  nowhere-of (debug-place o p) e = absurd (omega arith)
  nowhere-of (flags-place o p) e = absurd (omega arith)
  nowhere-of (settings-place o p) e = absurd (omega arith)

  roll-place-of : {n o : ℕ} → Place c n o → n ≡ 3 → LongestRight PortRoll 21 c.box.roll o
  roll-place-of (none n l) e = absurd (omega arith)
  roll-place-of (roll-place o p) e = p
  roll-place-of (debug-place o p) e = absurd (omega arith)
  roll-place-of (flags-place o p) e = absurd (omega arith)
  roll-place-of (settings-place o p) e = absurd (omega arith)

  debug-place-of : {n o : ℕ} → Place c n o → n ≡ 4 → LongestRight NameList 32 c.box.names.debug o
  debug-place-of (none n l) e = absurd (omega arith)
  debug-place-of (roll-place o p) e = absurd (omega arith)
  debug-place-of (debug-place o p) e = p
  debug-place-of (flags-place o p) e = absurd (omega arith)
  debug-place-of (settings-place o p) e = absurd (omega arith)

  flags-place-of : {n o : ℕ} → Place c n o → n ≡ 5 → LongestRight NameList 32 c.box.names.flags o
  flags-place-of (none n l) e = absurd (omega arith)
  flags-place-of (roll-place o p) e = absurd (omega arith)
  flags-place-of (debug-place o p) e = absurd (omega arith)
  flags-place-of (flags-place o p) e = p
  flags-place-of (settings-place o p) e = absurd (omega arith)

  settings-place-of : {n o : ℕ} → Place c n o → n ≡ 6
      → (roll : PortRoll c.box.roll) (debug : NameList c.box.names.debug) (flags : NameList c.box.names.flags)
      → SettingsPlace roll.ports debug.entries flags.entries c.settings.settings o
  settings-place-of (none n l) e = absurd (omega arith)
  settings-place-of (roll-place o p) e = absurd (omega arith)
  settings-place-of (debug-place o p) e = absurd (omega arith)
  settings-place-of (flags-place o p) e = absurd (omega arith)
  settings-place-of (settings-place o p) e = p

-- which part is told
module _ (c : BoxParts) where
  abbrev box : Box
  box = c.box

  abbrev stored : List ℕ
  stored = c.settings.settings

  abbrev Before : ℕ → Type 0
  Before n = (k : ℕ) → 1 ≤ k → k < n → Kept c k

  before-one : Before 1
  before-one k l u = absurd (omega arith)

  before-next : (n : ℕ) → Before n → Kept c n → Before (suc n)
  before-next n b kept k l u =
      ⊎_elim (λ (v : k < n). b k l v) (λ (v : n ≤ k). let q : n ≡ k = omega arith in rw q at kept) (lt-or-ge k n)

  first_one : (n k : ℕ) → 1 ≤ n → 1 ≤ k → FirstBroken c n → FirstBroken c k → n ≡ k
  first_one n k ln lk fn fk =
      ⊎_elim
      (λ (u : n < k). absurd (fn.1 (fk.0 n ln u)))
      (λ (u : k ≤ n). ⊎_elim (λ (v : k < n). absurd (fk.1 (fn.0 k lk v))) (λ (v : n ≤ k). omega arith) (lt-or-ge k n))
      (lt-or-ge n k)

  first-told : (n o : ℕ) → 1 ≤ n → n ≤ 6 → FirstBroken c n → Place c n o → FaultTold c n o
  first-told n o l u f p =
      record {
        numbers = u;
        sound = (λ z. absurd (omega arith), λ all. absurd (f.1 (all n l u)));
        first = λ k lk uk. (λ (e : n ≡ k). rw e at f, λ g. first_one n k l lk f g);
        nowhere = nowhere-of c p;
        in-roll = roll-place-of c p;
        in-debug = debug-place-of c p;
        in-flags = flags-place-of c p;
        in-settings = settings-place-of c p;
      }

  sound-told : AllKept c → FaultTold c 0 0
  sound-told all =
      record {
        numbers = omega arith;
        sound = (λ z. all, λ a. refl);
        first = λ k l u. (λ e. absurd (omega arith), λ f. absurd (f.1 (all k l u)));
        nowhere = λ l. refl;
        in-roll = λ e. absurd (omega arith);
        in-debug = λ e. absurd (omega arith);
        in-flags = λ e. absurd (omega arith);
        in-settings = λ e. absurd (omega arith);
      }

  abbrev Tells : Option Fault → Type 0
  Tells f = FaultTold c (fault_number f) (fault_offset f)

  -- a part is judged by its test, where every part before it keeps its rule
  stage : (part : Part) (o : ℕ) (t : Bool) (rest : Option Fault) → 1 ≤ part_number part → part_number part ≤ 6 → Exactly (t ≡ true) (Kept c (part_number part))
      → Place c (part_number part) o → Before (part_number part) → (Before (suc (part_number part)) → Tells rest)
      → Tells (cond (not t) (fault_at part o) rest)
  stage part o true rest l u exactly place b next = next (before-next (part_number part) b (exactly.0 refl))
  stage part o false rest l u exactly place b next = first-told (part_number part) o l u (b, λ k. clash (exactly.1 k) refl) place

  family-exactly : Exactly (family_right c.family ≡ true) (Kept c 1)
  unfolding family_right
  family-exactly = (means, back)
    where
      means : family_right c.family ≡ true → Kept c 1
      means h = let b = both_true (leb 16 c.family) (leb c.family 65535) h in family-kept (leb-true _ _ b.0) (leb-true _ _ b.1)

      back : Kept c 1 → family_right c.family ≡ true
      back (family-kept l u) = rw (le-leb _ _ l, le-leb _ _ u)

  admin-exactly : Exactly (admin_right c.admin ≡ true) (Kept c 2)
  unfolding admin_right
  admin-exactly = (λ h. admin-kept (leb-true _ _ h), back)
    where
      back : Kept c 2 → admin_right c.admin ≡ true
      back (admin-kept l) = le-leb _ _ l

  roll-of : Kept c 3 → PortRoll box.roll
  roll-of (roll-kept r) = r

  debug-of : Kept c 4 → NameList box.names.debug
  debug-of (debug-kept r) = r

  flags_of : Kept c 5 → NameList box.names.flags
  flags_of (flags-kept r) = r

  roll-stage : Exactly (roll_right box.roll ≡ true) (Kept c 3)
  roll-stage = (λ h. roll-kept ((roll-exactly box.roll).0 h), λ k. (roll-exactly box.roll).1 (roll-of k))

  debug-stage : Exactly (names_right box.names.debug ≡ true) (Kept c 4)
  debug-stage = (λ h. debug-kept ((list-exactly _).0 h), λ k. (list-exactly _).1 (debug-of k))

  flags-stage : Exactly (names_right box.names.flags ≡ true) (Kept c 5)
  flags-stage = (λ h. flags-kept ((list-exactly _).0 h), λ k. (list-exactly _).1 (flags_of k))

  -- the settings, of which the length is judged first
  abbrev Lent : ℕ → ℕ → ℕ → Type 0
  Lent ports debug flags = Settings ports debug flags (words_in stored)

  kept-settings : Kept c 6 → (length stored ≡ right_length (ports_in box) (sizes_in box)) × (settings_right (words_in stored) (ports_in box) (sizes_in box) ≡ true)
  kept-settings (settings-kept roll debug flags whole s) =
      let r = counted box roll debug flags Lent s in
      let exact = r.exact in
      (omega (arith, length-words_in stored, right-long (ports_in box) (sizes_in box)), (settings-exactly (words_in stored) (ports_in box) (sizes_in box)).1 r)

  from-settings : Before 6 → Tells (settings_fault stored (ports_in box) (sizes_in box))
  unfolding settings_fault
  from-settings b =
      go (eqb (length stored) (right_length (ports_in box) (sizes_in box))) (settings_right (words_in stored) (ports_in box) (sizes_in box)) refl refl
    where
      placed : (o : ℕ) → SettingsPlace (ports_in box) (sizes_in box).debug (sizes_in box).flags stored o → Place c 6 o
      placed o p = settings-place o (λ roll debug flags. told box roll debug flags (λ x y z. SettingsPlace x y z stored o) p)

      all-kept : length stored ≡ right_length (ports_in box) (sizes_in box) → settings_right (words_in stored) (ports_in box) (sizes_in box) ≡ true → AllKept c
      all-kept e h n l u =
          let roll = roll-of (b 3 (omega arith) (omega arith)) in
          let debug = debug-of (b 4 (omega arith) (omega arith)) in
          let flags = flags_of (b 5 (omega arith) (omega arith)) in
          let right = told box roll debug flags Lent ((settings-exactly (words_in stored) (ports_in box) (sizes_in box)).0 h) in
          before-next 6 b (settings-kept roll debug flags (omega (arith, right-long (ports_in box) (sizes_in box))) right) n l (omega arith)

      go : (t u : Bool) → eqb (length stored) (right_length (ports_in box) (sizes_in box)) ≡ t → settings_right (words_in stored) (ports_in box) (sizes_in box) ≡ u
          → Tells (cond (not t) (fault_at P.Settings (min (length stored) (right_length (ports_in box) (sizes_in box))))
          (cond (not u) (fault_at P.Settings (right_up_to (right_with_zeros (ports_in box) (sizes_in box)) (words_in stored) * 4)) None))
      go false u et eu =
          let n = eqb-false _ _ et in
          first-told 6 _ (omega arith) (omega arith) (b, λ k. n (kept-settings k).0) (placed _ (place_other (ports_in box) (sizes_in box) stored n))
      go true false et eu =
          first-told 6 _ (omega arith) (omega arith) (b, λ k. clash (kept-settings k).1 eu)
          (placed _ (place-exact (ports_in box) (sizes_in box) stored (eqb-true _ _ et) eu))
      go true true et eu = sound-told (all-kept (eqb-true _ _ et) eu)

  pub fault-told : Tells (box_fault c.family c.admin box stored)
  unfolding box_fault
  fault-told =
      stage P.Family 0 _ _ (omega arith) (omega arith) family-exactly (none 1 (omega arith)) before-one
      (λ b1. stage P.Admin 0 _ _ (omega arith) (omega arith) admin-exactly (none 2 (omega arith)) b1
      (λ b2. stage P.Roll _ _ _ (omega arith) (omega arith) roll-stage (roll-place _ (roll-longest _)) b2
      (λ b3. stage P.DebugNames _ _ _ (omega arith) (omega arith) debug-stage (debug-place _ (list-longest _)) b3
      (λ b4. stage P.FlagNames _ _ _ (omega arith) (omega arith) flags-stage (flags-place _ (list-longest _)) b4 from-settings))))

  -- every part, and the rules of the box over bytes
  pub kept-rules : AllKept c → (position place : ℕ) → place ≤ ports_in box → StoredRules box c.settings (call_at c position place)
  kept-rules all position place few = by (all 1 (omega arith) (omega arith)) (all 2 (omega arith) (omega arith)) (all 6 (omega arith) (omega arith))
    where
      by : Kept c 1 → Kept c 2 → Kept c 6 → StoredRules box c.settings (call_at c position place)
      by (family-kept l u) (admin-kept a) (settings-kept roll debug flags whole s) =
          (whole, record { family-low = l; family-high = u; admin = a; roll = roll; place = rw (← rules-counted box.roll roll) few; debug = debug; flags = flags; settings = s })

  pub rules-kept : (position place : ℕ) → StoredRules box c.settings (call_at c position place) → AllKept c
  rules-kept position place r n l u =
      let rules = r.1 in
      before-next 6
      (before-next 5
      (before-next 4
      (before-next 3
      (before-next 2 (before-next 1 before-one (family-kept rules.family-low rules.family-high)) (admin-kept rules.admin))
      (roll-kept rules.roll))
      (debug-kept rules.debug))
      (flags-kept rules.flags))
      (settings-kept rules.roll rules.debug rules.flags r.0 rules.settings) n l (omega arith)
