-- A run whose calls move ends.
--     moving-ends      where every call that does not end the run moves on, in a datagram of so many bytes, a run ends, places counted
use Prim.Native.Nat.{ℕ, zero, suc, ◌+◌, ◌*◌, ◌-◌, ◌<◌}
use mathlib.Core.Path.{◌≡◌, refl}
use mathlib.Core.Bool.{Bool, true, false, ◌||◌}
use native.Mathlib.Omega.{arith}
use Rattle.boxes.specs.declared.Call.{Call}
use Rattle.response.specs.Answer.{Response, Outcome}
use Rattle.handler.specs.Call.{ends_run}
use Rattle.demands.specs.Run.{after, MovesOn, ends_within}
use Rattle.demands.specs.Run.MovesOn.{further, again}

module _ {S : Type 0} (one : S → Call → Outcome S) (size : ℕ)
    (moves : (state : S) (call : Call) → ends_run (one state call).response.kind ≡ false → MovesOn size call (one state call).response) where
  -- the first call, then the others where it moved on
  first-call : (calls : ℕ) (state : S) (call : Call)
      → (MovesOn size call (one state call).response → ends_within one calls (one state call).state (after call (one state call).response) ≡ true)
      → ends_within one (suc calls) state call ≡ true
  unfolding ends_within
  first-call calls state call others = go (ends_run (one state call).response.kind) refl
    where
      go : (t : Bool) → ends_run (one state call).response.kind ≡ t
          → t || ends_within one calls (one state call).state (after call (one state call).response) ≡ true
      go true e = refl
      go false e = others (moves state call e)

  -- what is left: the bytes, 65 places for each, and the places of this position
  abbrev left : ℕ → ℕ → ℕ
  left position place = (size - position) * 65 + (64 - place)

  ends_by : (calls : ℕ) (state : S) (call : Call) → left call.position call.place < calls → ends_within one calls state call ≡ true
  ends_by zero state call l = absurd (omega arith)
  ends_by (suc calls) state call l = first-call calls state call (λ on. ends_by calls _ (after call (one state call).response) (less on))
    where
      less : {r : Response} → MovesOn size call r → left r.next r.place < calls
      less (further lo hi p) = omega arith
      less (again n fits p few) = omega arith

  pub moving-ends : (state : S) (call : Call) → ends_within one (suc size * 65) state call ≡ true
  moving-ends state call =
      let all : suc size * 65 ≡ suc (size * 65 + 64) = omega arith in
      rw all (first-call (size * 65 + 64) state call (λ on. ends_by (size * 65 + 64) _ (after call (one state call).response) (less on)))
    where
      less : {r : Response} → MovesOn size call r → left r.next r.place < size * 65 + 64
      less (further lo hi p) = omega arith
      less (again n fits p few) = omega arith
