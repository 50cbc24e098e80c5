-- Refusal 1, "box breaks a rule above", by the rules as document 01 has them (`demands` BoxRules).
--     broken-exactly         the exported handler refuses by 1 exactly when the settings are no whole words or the box breaks a rule
--     kept_second            so a box that keeps the rules is refused by no number below 2
--     list-broken-exactly    the exported normaliser answers 1 exactly when the name list breaks a rule
use Prim.Native.Nat.{ℕ, ◌≤◌}
use mathlib.Core.Path.{◌≡◌, ap}
use mathlib.Core.List.{List, ◌∷◌}
use mathlib.Core.Bool.{Bool, true, false, cond}
use lib.ListN.{length}
use lib.Dec.{eqb}
use native.Mathlib.Omega.{arith}
use Rattle.basics.proofs.Truth.{false_of}
use Rattle.names.specs.Rule.{names_right}
use Rattle.refusal.specs.Refusal.{number_of}
use Rattle.refusal.specs.declared.Refusal.{Refusal}
use Rattle.refusal.specs.declared.Refusal.TheVariants as R
use Rattle.boxes.specs.Box.{Box}
use Rattle.boxes.specs.declared.Call.{Call}
use Rattle.normal.specs.Normal.{NormalAnswer, normalised}
use Rattle.response.specs.declared.Kind.TheVariants.{Refused}
use Rattle.handler.specs.Bytes.{Stored, bytes_outcome}
use Rattle.demands.specs.BoxRules.{NameList, StoredRules}
use Rattle.demands.specs.Call.{end_if, call_checks}
use Rattle.demands.specs.Check.{Check, refuse_if, FirstIs}
use Rattle.demands.specs.Check.Check.{passes, ends}
use Rattle.demands.specs.Check.FirstIs.{here}
use Rattle.demands.specs.NormalChecks.{BitsetNumber, normal_checks}
use Rattle.demands.specs.NormalChecks.BitsetNumber.{walking, judging}
use Rattle.demands.specs.Stored.{stored_right}
use Rattle.demands.proofs.BoxNames.{list-exactly}
use Rattle.demands.proofs.BoxRules.{stored-exactly}
use Rattle.demands.proofs.Late.{Late, message-late}
use Rattle.demands.proofs.NormalChecks.{normal-refused-exactly}
use Rattle.demands.proofs.Rows.{Every, OfBitset, first-every, row, weaker, bitset-rows}
use Rattle.demands.proofs.Rows.Every.{pass, end}
use Rattle.demands.proofs.Stored.{refused-exactly}

-- every row but the first
abbrev Second : Refusal → Type 0
Second why = 2 ≤ number_of why

first_passes : {checks : List Check} → Every Second checks → Every Second (refuse_if false R.Box ∷ checks)
unfolding refuse_if
first_passes rest = pass rest

end-second : (datagram : List ℕ) (position : ℕ) {checks : List Check} → Every Second checks → Every Second (end_if datagram position ∷ checks)
unfolding end_if
end-second datagram position {checks} rest = go (eqb position (length datagram))
  where
    go : (t : Bool) → Every Second (cond t ends passes ∷ checks)
    go true = end rest
    go false = pass rest

module _ (box : Box) (stored : Stored) (call : Call) (datagram : List ℕ) (room : ℕ) where
  right-rows : Every Second (call_checks true box call datagram room)
  unfolding call_checks
  right-rows =
      first_passes
      (row Second _ _ (omega arith)
      (row Second _ _ (omega arith)
      (row Second _ _ (omega arith)
      (end-second datagram call.position
      (row Second _ _ (omega arith) (row Second _ _ (omega arith) (weaker Late Second (λ why n. omega arith) (message-late box call _ _))))))))

  -- a box that keeps the rules is not refused by 1
  pub kept_second : StoredRules box stored call → (why : Refusal) → (bytes_outcome box stored call datagram room).response.kind ≡ Refused why → 2 ≤ number_of why
  kept_second kept why e =
      let right = (stored-exactly box stored call).1 kept in
      first-every Second why (rw right at ((refused-exactly box stored call datagram room why).0 e)) right-rows

  first-broken : stored_right box stored call ≡ false → FirstIs R.Box (call_checks (stored_right box stored call) box call datagram room)
  unfolding call_checks refuse_if
  first-broken wrong = rw wrong here

  pub broken-exactly : ((bytes_outcome box stored call datagram room).response.kind ≡ Refused R.Box → StoredRules box stored call → ⊥)
      × ((StoredRules box stored call → ⊥) → (bytes_outcome box stored call datagram room).response.kind ≡ Refused R.Box)
  broken-exactly = (
    λ e kept. let n = kept_second kept R.Box e in omega arith,
    λ n. (refused-exactly box stored call datagram room R.Box).1 (first-broken (false_of _ (λ right. n ((stored-exactly box stored call).0 right)))),
  )

module _ (contents names : List ℕ) (room : ℕ) where
  list-rows : names_right names ≡ true → Every Second (normal_checks contents names room)
  unfolding normal_checks
  list-rows right =
      rw right
      (first_passes
      (row Second _ _ (omega arith)
      (row Second _ _ (omega arith) (weaker OfBitset Second (λ why n. from-two (number_of why) n) (bitset-rows contents 0 names)))))
    where
      from-two : (n : ℕ) → BitsetNumber n → 2 ≤ n
      from-two n (walking l u) = omega arith
      from-two n (judging l u) = omega arith

  first-list : names_right names ≡ false → FirstIs R.Box (normal_checks contents names room)
  unfolding normal_checks refuse_if
  first-list wrong = rw wrong here

  pub list-broken-exactly : ((normalised contents names room).number ≡ 1 → NameList names → ⊥)
      × ((NameList names → ⊥) → (normalised contents names room).number ≡ 1)
  list-broken-exactly =
      let exactly = normal-refused-exactly contents names room in (
        λ e kept. let r = exactly.0 (omega (arith, e)) in
            let n = first-every Second r.0 r.1 (list-rows ((list-exactly names).1 kept)) in
            let is = ap (λ (o : NormalAnswer). o.number) r.2 in
            omega (arith, e, n, is),
        λ n. ap (λ (o : NormalAnswer). o.number) (exactly.1 R.Box (first-list (false_of _ (λ right. n ((list-exactly names).0 right))))),
      )
