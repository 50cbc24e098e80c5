-- Laws of records: one for each return of read_record, where a record lies, and the law by which a roll is read record by record.
use Prim.Native.Nat.{ℕ, zero, suc, ◌+◌, ◌-◌, ◌≤◌, ◌<◌}
use mathlib.Core.Path.{◌≡◌, refl, sym, ap, ◌∙◌}
use mathlib.Core.List.{List}
use mathlib.Core.Bool.{Bool, true, false}
use mathlib.Core.Logic.{⊎_elim}
use lib.ListN.{length, get_or}
use lib.Dec.{eqb}
use native.Mathlib.Omega.{arith}
use borrow.Author.Tests.{le-leb, lt-leb, lt-ltb, le-ltb, eq-eqb, ne_eqb, eqb-true, eqb-false}
use Rattle.basics.specs.Numbers.{byte_at, u32_at}
use Rattle.roll.specs.Name.{name_at}
use Rattle.basics.proofs.Order.{lt-or-ge}
use Rattle.roll.specs.declared.record.RecordRead.{RecordRead}
use Rattle.roll.specs.declared.record.PortRecord.{PortRecord}
use Rattle.roll.specs.declared.record.RecordRead.TheVariants as R
use Rattle.roll.specs.Record.{record_size, record_at, Records, on_record, records_up_to, records}
use Rattle.roll.specs.Table.{most_bytes, SizeFits}
use Rattle.roll.specs.Record.Records.{port}

-- each kind
module _ (kind : ℕ) where
  pub size-port : kind ≡ 1 → 21 ≡ record_size kind
  unfolding record_size
  size-port e = sym (rw (eq-eqb _ _ e))

  pub size_none : (kind ≡ 1 → ⊥) → 0 ≡ record_size kind
  unfolding record_size
  size_none n = sym (rw (ne_eqb _ _ n))

  size_fits : SizeFits (record_size kind)
  size_fits = go (eqb kind 1) refl
    where
      go : (b : Bool) → eqb kind 1 ≡ b → SizeFits (record_size kind)
      go true e = rw (← size-port (eqb-true kind 1 e)) (omega arith, omega arith)
      go false e = rw (← size_none (eqb-false kind 1 e)) (omega arith, omega arith)

pub ruleset size-laws = (size-port, size_none)

module _ (roll : List ℕ) (at : ℕ) where
  pub record-end : length roll ≤ at → R.End ≡ record_at roll at
  unfolding record_at
  record-end h = simp (le-leb _ _ h)

  module _ (h : at < length roll) (size : ℕ) (es : size ≡ record_size (get_or roll at 0)) where
    pub record-unknown : size ≡ 0 → R.Unknown ≡ record_at roll at
    unfolding record_at byte_at
    record-unknown z = sym (rw (lt-leb _ _ h, ← es, eq-eqb _ _ z))

    module _ (k : size ≡ 0 → ⊥) where
      pub record-cut : length roll - at < size → R.Cut ≡ record_at roll at
      unfolding record_at byte_at
      record-cut c = let g : length roll < at + size = omega arith in sym (rw (lt-leb _ _ h, ← es, ne_eqb _ _ k, lt-ltb _ _ g))

      pub record-port : (i n e : ℕ) → i ≡ at + 1 → n ≡ at + 5 → e ≡ at + size → size ≤ length roll - at → R.Port (record { index = i; name = n; end = e }) ≡ record_at roll at
      unfolding record_at byte_at
      record-port i n e ei en ee c =
          let g : at + size ≤ length roll = omega arith in
          rw (ei, en, ee) (sym (rw (lt-leb _ _ h, ← es, ne_eqb _ _ k, le-ltb _ _ g)))

pub ruleset record-laws = (record-end, record-unknown, record-cut, record-port)

-- where a port's record lies: its index behind the kind, its name behind the index, its end behind the name and in the roll
abbrev pub Bounded : List ℕ → ℕ → RecordRead → Type 0
Bounded roll at R.End = length roll ≤ at
Bounded roll at R.Unknown = at < length roll
Bounded roll at R.Cut = at < length roll
Bounded roll at (R.Port p) =
    (p.index ≡ at + 1) × (p.name ≡ p.index + 4) × (p.name + 16 ≤ p.end) × (p.end ≤ length roll) × (p.end ≤ at + most_bytes)

pub bounded : (roll : List ℕ) (at : ℕ) → Bounded roll at (record_at roll at)
bounded roll at =
    ⊎_elim (λ h. kind (eqb size 0) refl h) (λ h. rw (← record-end roll at h) h) (lt-or-ge at (length roll))
  where
    size : ℕ
    size = record_size (get_or roll at 0)

    kind : (b : Bool) → eqb size 0 ≡ b → at < length roll → Bounded roll at (record_at roll at)
    kind true e h = rw (← record-unknown roll at h size refl (eqb-true _ _ e)) h
    kind false e h =
        let k = eqb-false size 0 e in
        let f = size_fits (get_or roll at 0) in
        ⊎_elim
        (λ g. rw (← record-cut roll at h size refl k (omega arith)) h)
        (λ g. rw (← record-port roll at h size refl k (at + 1) (at + 5) (at + size) refl refl refl (omega arith)) (omega arith))
        (lt-or-ge (length roll) (at + size))

-- as far as what follows agrees
on_same : (roll : List ℕ) (at : ℕ) (r : RecordRead) (f g : ℕ → Records) → Bounded roll at r
    → ((k : ℕ) → at < k → k ≤ length roll → f k ≡ g k) → on_record roll r f ≡ on_record roll r g
on_same roll at R.End f g b p = refl
on_same roll at R.Unknown f g b p = refl
on_same roll at R.Cut f g b p = refl
on_same roll at (R.Port r) f g b p = ap (port (record { index = u32_at roll r.index; name = name_at roll r.name })) (p r.end (omega arith) (omega arith))

-- a larger bound on the count changes nothing
enough : (m n : ℕ) (s : List ℕ) (at : ℕ) → length s ≤ m + at → length s ≤ n + at → records_up_to (suc m) s at ≡ records_up_to (suc n) s at
unfolding records_up_to
enough zero n s at h g = on_same s at (record_at s at) _ _ (bounded s at) (λ k l u. absurd (omega arith))
enough (suc m) zero s at h g = on_same s at (record_at s at) _ _ (bounded s at) (λ k l u. absurd (omega arith))
enough (suc m) (suc n) s at h g = on_same s at (record_at s at) _ _ (bounded s at) (λ k l u. enough m n s k (omega arith) (omega arith))

-- the records from a place on: the one that is read there, and then those from the next place on
pub records-step : (s : List ℕ) (at : ℕ) → records s at ≡ on_record s (record_at s at) (records s)
unfolding records records_up_to
records-step s at = on_same s at (record_at s at) _ _ (bounded s at) (λ k l u. rest (length s) k refl l u)
  where
    rest : (m k : ℕ) → length s ≡ m → at < k → k ≤ length s → records_up_to m s k ≡ records_up_to (suc (length s)) s k
    rest zero k e l u = absurd (omega arith)
    rest (suc m) k e l u = enough m (length s) s k (omega arith) (omega arith)

-- what a loop over the records knows of the one that it reads
module _ (roll : List ℕ) (at : ℕ) (r : RecordRead) (e : r ≡ record_at roll at) where
  pub turn : records roll at ≡ on_record roll r (records roll)
  turn = records-step roll at ∙ ap (λ (x : RecordRead). on_record roll x (records roll)) (sym e)

  -- where it is a port's
  module _ (p : PortRecord) (q : r ≡ R.Port p) where
    pub lies : (p.index ≡ at + 1) × (p.name ≡ p.index + 4) × (p.name + 16 ≤ p.end) × (p.end ≤ length roll) × (p.end ≤ at + most_bytes)
    lies = rw (sym e ∙ q) at (bounded roll at)

    pub port-less : length roll - p.end < length roll - at
    port-less = let b = lies in omega arith
