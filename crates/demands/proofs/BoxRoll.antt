-- The port roll as document 01 has it (`demands` BoxRules), and the reader of records by which the code is judged.
--     read_whole       where no record is broken the roll is so many records of 21 bytes, each of kind 1
--     whole-read       of such a roll the reader reads each record's index and name where document 01 has them
--     ports-counted    so it reads as many ports as there are records
--     roll-exactly     a roll is right exactly when it keeps `PortRoll`
--     rules-counted    and then its ports are counted as there
use Prim.Native.Nat.{ℕ, zero, suc, ◌+◌, ◌*◌, ◌≤◌, ◌<◌}
use mathlib.Core.Path.{◌≡◌, refl, sym, ap, ◌∙◌}
use mathlib.Core.List.{List}
use mathlib.Core.Bool.{Bool, true, false, ◌&&◌, not}
use mathlib.Core.Logic.{⊎_elim}
use lib.ListN.{length, get_or}
use lib.Dec.{eqb}
use native.Mathlib.Omega.{arith}
use borrow.Author.Tests.{eq-eqb, ne_eqb, eqb-true, eqb-false, le-leb, not-true}
use Rattle.basics.specs.Numbers.{byte_at, u32_at}
use Rattle.basics.specs.Nuls.{nul_then_nul}
use Rattle.basics.specs.Scan.{all}
use Rattle.basics.proofs.Order.{lt-or-ge}
use Rattle.basics.proofs.Scan.{all_of, all-each}
use Rattle.basics.proofs.Truth.{both_true, clash}
use Rattle.roll.specs.Name.{name_at, same_name, name_right}
use Rattle.roll.specs.Record.{Port, Records, records, all_whole, record_ports, ports_of, port_count, port_at, index_of, name_of, ports_listed}
use Rattle.roll.specs.Record.Records.{end_of_roll, bad_record, port}
use Rattle.roll.proofs.record.Laws.{size-port, size_none, record-end, record-unknown, record-cut, record-port, turn}
use Rattle.roll.proofs.table.Laws.{listed-some}
use Rattle.roll_rule.specs.Rule.{port_right, another, is_new, ports_distinct, roll_right}
use Rattle.roll_rule.proofs.Laws as R
use Rattle.roll_rule.proofs.Meaning.{port-right}
use Rattle.demands.specs.BoxRules.{NameField, FieldsDiffer, RollRecord, PortRoll}
use Rattle.demands.proofs.PaddingAttributes.{byte-in}
use Rattle.demands.proofs.BoxNames.{Holds, pairs-field, field-last, field-pairs, unlike-differ, differ-unlike}

module _ (roll : List ℕ) where
  -- the port of the record at a place
  abbrev port_here : ℕ → Port
  port_here at = record { index = u32_at roll (at + 1); name = name_at roll (at + 5) }

  -- what stands at a place
  at-end : (at : ℕ) → length roll ≤ at → records roll at ≡ end_of_roll
  at-end at h = turn roll at _ (record-end roll at h)

  at-unknown : (at : ℕ) → at < length roll → (get_or roll at 0 ≡ 1 → ⊥) → records roll at ≡ bad_record
  at-unknown at h n = turn roll at _ (record-unknown roll at h 0 (size_none _ n) refl)

  module _ (at : ℕ) (kind : get_or roll at 0 ≡ 1) where
    at_cut : at < length roll → length roll < at + 21 → records roll at ≡ bad_record
    at_cut h c = turn roll at _ (record-cut roll at h 21 (size-port _ kind) (λ z. omega arith) (omega arith))

    at-port : at + 21 ≤ length roll → records roll at ≡ port (port_here at) (records roll (at + 21))
    at-port c =
        turn roll at _
        (record-port roll at (omega arith) 21 (size-port _ kind) (λ z. omega arith) (at + 1) (at + 5) (at + 21) refl refl refl (omega arith))

  -- the roll from a place on: so many records of 21 bytes, each of kind 1
  pub record Whole (at : ℕ) : Type 0 where
    pub ports : ℕ
    pub long : length roll ≡ at + ports * 21
    pub kind : (k : ℕ) → k < ports → get_or roll (at + k * 21) 0 ≡ 1

  whole-more : (at : ℕ) → get_or roll at 0 ≡ 1 → Whole (at + 21) → Whole at
  whole-more at kind w =
      record { ports = suc w.ports; long = let l = w.long in omega arith; kind = each }
    where
      each : (k : ℕ) → k < suc w.ports → get_or roll (at + k * 21) 0 ≡ 1
      each zero l = let q : at + 0 * 21 ≡ at = omega arith in ap (λ (x : ℕ). get_or roll x 0) q ∙ kind
      each (suc k) l = let q : at + suc k * 21 ≡ at + 21 + k * 21 = omega arith in ap (λ (x : ℕ). get_or roll x 0) q ∙ w.kind k (omega arith)

  broken : (rs : Records) → rs ≡ bad_record → all_whole rs ≡ true → ⊥
  unfolding all_whole
  broken rs e h = clash h (ap all_whole e)

  whole-none : (at : ℕ) → at ≤ length roll → length roll ≤ at → Whole at
  whole-none at low l = record { ports = 0; long = omega arith; kind = λ k u. absurd (omega arith) }

  whole-step : (at : ℕ) → at < length roll → all_whole (records roll at) ≡ true
      → (at + 21 ≤ length roll → all_whole (records roll (at + 21)) ≡ true → Whole (at + 21)) → Whole at
  unfolding all_whole
  whole-step at l h rest = by (eqb (get_or roll at 0) 1) refl
    where
      by : (t : Bool) → eqb (get_or roll at 0) 1 ≡ t → Whole at
      by false e = absurd (broken _ (at-unknown at l (eqb-false _ 1 e)) h)
      by true e =
          let kind = eqb-true (get_or roll at 0) 1 e in
          ⊎_elim
          (λ (c : length roll < at + 21). absurd (broken _ (at_cut at kind l c) h))
          (λ (c : at + 21 ≤ length roll). whole-more at kind (rest c (sym (ap all_whole (at-port at kind c)) ∙ h)))
          (lt-or-ge (length roll) (at + 21))

  whole_from : (m at : ℕ) → at ≤ length roll → length roll ≤ at + m → all_whole (records roll at) ≡ true → Whole at
  whole_from zero at low high h = whole-none at low (omega arith)
  whole_from (suc m) at low high h =
      ⊎_elim
      (λ (l : at < length roll). whole-step at l h (λ c g. whole_from m (at + 21) c (omega arith) g))
      (λ (l : length roll ≤ at). whole-none at low l)
      (lt-or-ge at (length roll))

  pub read_whole : all_whole (records roll 0) ≡ true → Whole 0
  read_whole h = whole_from (length roll) 0 (omega arith) (omega arith) h

  -- what is read of it
  pub record Read (at ports : ℕ) : Type 0 where
    pub whole : all_whole (records roll at) ≡ true
    pub counted : length (record_ports (records roll at)) ≡ ports
    pub port : (k : ℕ) → k < ports → (d : Port) → get_or (record_ports (records roll at)) k d ≡ port_here (at + k * 21)

  read-end : (at : ℕ) → length roll ≤ at → Read at 0
  unfolding all_whole record_ports
  read-end at h =
      let e = at-end at h in
      record { whole = ap all_whole e; counted = ap (λ (rs : Records). length (record_ports rs)) e; port = λ k l d. absurd (omega arith) }

  read_step : (n at : ℕ) → at + 21 ≤ length roll → get_or roll at 0 ≡ 1 → Read (at + 21) n → Read at (suc n)
  unfolding all_whole record_ports
  read_step n at inside kind rest =
      record {
        whole = ap all_whole step ∙ rest.whole;
        counted = ap (λ (rs : Records). length (record_ports rs)) step ∙ ap suc rest.counted;
        port = each;
      }
    where
      step : records roll at ≡ port (port_here at) (records roll (at + 21))
      step = at-port at kind inside

      each : (k : ℕ) → k < suc n → (d : Port) → get_or (record_ports (records roll at)) k d ≡ port_here (at + k * 21)
      each zero l d = let q : at ≡ at + 0 * 21 = omega arith in ap (λ (rs : Records). get_or (record_ports rs) 0 d) step ∙ ap port_here q
      each (suc k) l d =
          let q : at + 21 + k * 21 ≡ at + suc k * 21 = omega arith in
          ap (λ (rs : Records). get_or (record_ports rs) (suc k) d) step ∙ rest.port k (omega arith) d ∙ ap port_here q

  read-from : (n at : ℕ) → length roll ≡ at + n * 21 → ((k : ℕ) → k < n → get_or roll (at + k * 21) 0 ≡ 1) → Read at n
  read-from zero at long kind = read-end at (omega arith)
  read-from (suc n) at long kind =
      let first : at ≡ at + 0 * 21 = omega arith in
      read_step n at (omega arith) (ap (λ (x : ℕ). get_or roll x 0) first ∙ kind 0 (omega arith))
      (read-from n (at + 21) (omega arith)
      (λ k l. let q : at + 21 + k * 21 ≡ at + suc k * 21 = omega arith in ap (λ (x : ℕ). get_or roll x 0) q ∙ kind (suc k) (omega arith)))

  pub whole-read : (w : Whole 0) → Read 0 w.ports
  whole-read w = read-from w.ports 0 w.long w.kind

-- a roll of so many records: what is read of the port at a position
module _ (roll : List ℕ) (w : Whole roll 0) where
  pub ports-counted : port_count roll ≡ w.ports
  unfolding port_count ports_of
  ports-counted = (whole-read roll w).counted

  module _ (k : ℕ) (l : k < w.ports) where
    port-is : port_at roll k ≡ port_here roll (k * 21)
    unfolding port_at ports_of
    port-is = let q : 0 + k * 21 ≡ k * 21 = omega arith in (whole-read roll w).port k l _ ∙ ap (port_here roll) q

    index_is : index_of roll k ≡ u32_at roll (k * 21 + 1)
    unfolding index_of
    index_is = ap (λ (p : Port). p.index) port-is

    name-is : name_of roll k ≡ name_at roll (k * 21 + 5)
    unfolding name_of
    name-is = ap (λ (p : Port). p.name) port-is

    name-holds : Holds (name_of roll k) roll (k * 21 + 5) 16
    unfolding name_at
    name-holds j u =
        ap (λ (s : List ℕ). get_or s j 0) name-is
        ∙ byte-in roll (k * 21 + 5) (k * 21 + 5 + 16) j (omega arith) (let g = w.long in omega arith) (omega arith)

-- a right roll keeps the rules
module _ (roll : List ℕ) (right : roll_right roll ≡ true) where
  whole-roll : Whole roll 0
  whole-roll = read_whole roll (listed-some roll (R.right-means roll right).listed).0

  inside : (k : ℕ) → k < whole-roll.ports → k < port_count roll
  inside k l = rw (ports-counted roll whole-roll) l

  name-means : (k : ℕ) → (l : k < whole-roll.ports) → (get_or roll (k * 21 + 5) 0 ≡ 0 → ⊥) × NameField roll (k * 21 + 5) 16
  unfolding name_right byte_at
  name-means k l =
      let n = (port-right roll right k (inside k l)).name in
      let same = name-holds roll whole-roll k l in
      let a = both_true (not (eqb (get_or (name_of roll k) 0 0) 0)) (eqb (get_or (name_of roll k) 15 0) 0 && all 15 (nul_then_nul (name_of roll k))) n in
      let b = both_true (eqb (get_or (name_of roll k) 15 0) 0) (all 15 (nul_then_nul (name_of roll k))) a.1 in
      let q : k * 21 + 5 + 0 ≡ k * 21 + 5 = omega arith in
      let first = same 0 (omega arith) ∙ ap (λ (x : ℕ). get_or roll x 0) q in
      (λ z. eqb-false _ 0 (not-true _ a.0) (first ∙ z), pairs-field (name_of roll k) roll (k * 21 + 5) 15 same b.1 b.0)

  record-means : (k : ℕ) → k < whole-roll.ports → RollRecord roll (k * 21)
  record-means k l =
      let p = port-right roll right k (inside k l) in
      let n = name-means k l in
      let e = index_is roll whole-roll k l in
      let q : 0 + k * 21 ≡ k * 21 = omega arith in
      let first : k * 21 + 5 + 0 ≡ k * 21 + 5 = omega arith in
      record {
        kind = ap (λ (x : ℕ). get_or roll x 0) (sym q) ∙ whole-roll.kind k l;
        index-low = rw e at p.positive;
        index-high = rw e at p.small;
        name = n.1;
        named = ⊎_elim
            (λ (z : n.1.size < 1). absurd (n.0 (ap (λ (x : ℕ). get_or roll x 0) (sym first) ∙ n.1.nuls 0 (omega arith) (omega arith))))
            (λ (z : 1 ≤ n.1.size). z)
            (lt-or-ge n.1.size 1);
      }

  module _ (j k : ℕ) (l : j < k) (u : k < whole-roll.ports) where
    others : (eqb (index_of roll j) (index_of roll k) ≡ false) × (same_name (name_of roll j) (name_of roll k) ≡ false)
    unfolding ports_distinct is_new another
    others =
        let new = all-each (is_new roll) (port_count roll) k (R.right-means roll right).apart (inside k u) in
        let a = both_true _ _ (all-each (another roll (index_of roll k) (name_of roll k)) k j new l) in
        (not-true _ a.0, not-true _ a.1)

    indexes-differ : u32_at roll (j * 21 + 1) ≡ u32_at roll (k * 21 + 1) → ⊥
    indexes-differ q =
        eqb-false _ _ others.0 (index_is roll whole-roll j (omega arith) ∙ q ∙ sym (index_is roll whole-roll k u))

    names-differ : FieldsDiffer roll 16 (j * 21 + 5) (k * 21 + 5)
    unfolding same_name
    names-differ =
        let a = name-holds roll whole-roll j (omega arith) in
        let b = name-holds roll whole-roll k u in
        unlike-differ roll (name_of roll j) (name_of roll k) 16 (j * 21 + 5) (k * 21 + 5) a b others.1

  roll-means : PortRoll roll
  roll-means =
      let r = R.right-means roll right in
      let c = ports-counted roll whole-roll in
      record {
        ports = whole-roll.ports;
        some = rw c at r.some;
        few = rw c at r.few;
        whole = whole-roll.long ∙ omega arith;
        each = record-means;
        indexes = indexes-differ;
        names = names-differ;
      }

-- a roll that keeps them is right
module _ (roll : List ℕ) (r : PortRoll roll) where
  abbrev whole_of : Whole roll 0
  whole_of =
      record {
        ports = r.ports;
        long = r.whole ∙ omega arith;
        kind = λ k l. let q : 0 + k * 21 ≡ k * 21 = omega arith in ap (λ (x : ℕ). get_or roll x 0) q ∙ (r.each k l).kind;
      }

  pub rules-counted : port_count roll ≡ r.ports
  rules-counted = ports-counted roll whole_of

  listed : ports_listed roll ≡ true
  unfolding ports_listed
  listed =
      let c = rules-counted in
      let s : 1 ≤ port_count roll = rw c r.some in
      let f : port_count roll ≤ 64 = rw c r.few in
      rw ((whole-read roll whole_of).whole, le-leb 1 _ s, le-leb _ 64 f)

  name-right : (k : ℕ) → k < r.ports → name_right (name_of roll k) ≡ true
  unfolding name_right byte_at
  name-right k l =
      let same = name-holds roll whole_of k l in
      let f = (r.each k l).name in
      let starts : eqb (get_or (name_of roll k) 0 0) 0 ≡ false = ne_eqb _ 0 (λ z. f.name 0 (r.each k l).named (sym (same 0 (omega arith)) ∙ z)) in
      rw (starts, field-last (name_of roll k) roll (k * 21 + 5) 15 same f, field-pairs (name_of roll k) roll (k * 21 + 5) 15 same f)

  right-at : (k : ℕ) → k < port_count roll → port_right roll k ≡ true
  unfolding port_right
  right-at k u =
      let l : k < r.ports = rw rules-counted at u in
      let e = index_is roll whole_of k l in
      rw (e, le-leb 1 _ (r.each k l).index-low, le-leb _ 2147483647 (r.each k l).index-high, name-right k l)

  module _ (j k : ℕ) (l : j < k) (u : k < r.ports) where
    index-other : eqb (index_of roll j) (index_of roll k) ≡ false
    index-other = ne_eqb _ _ (λ q. r.indexes j k l u (sym (index_is roll whole_of j (omega arith)) ∙ q ∙ index_is roll whole_of k u))

    name-other : same_name (name_of roll j) (name_of roll k) ≡ false
    unfolding same_name
    name-other =
        let a = name-holds roll whole_of j (omega arith) in
        let b = name-holds roll whole_of k u in
        differ-unlike roll (name_of roll j) (name_of roll k) 16 (j * 21 + 5) (k * 21 + 5) a b (r.names j k l u)

  new-at : (k : ℕ) → k < port_count roll → is_new roll k ≡ true
  unfolding is_new another
  new-at k u =
      let v : k < r.ports = rw rules-counted at u in
      all_of (another roll (index_of roll k) (name_of roll k)) k (λ j l. rw (index-other j k l v, name-other j k l v))

  means-roll : roll_right roll ≡ true
  unfolding roll_right ports_distinct
  means-roll = rw (listed, all_of (port_right roll) (port_count roll) right-at, all_of (is_new roll) (port_count roll) new-at)

  -- an index is one port's
  pub one_index : (j k : ℕ) → j < port_count roll → k < port_count roll → (port_at roll j).index ≡ (port_at roll k).index → j ≡ k
  unfolding index_of
  one_index j k a b q =
      let c = rules-counted in
      ⊎_elim (λ (l : j < k). absurd (clash (eq-eqb _ _ q) (index-other j k l (omega arith))))
      (λ (u : k ≤ j).
      ⊎_elim (λ (l : k < j). absurd (clash (eq-eqb _ _ (sym q)) (index-other k j l (omega arith)))) (λ (v : j ≤ k). omega arith) (lt-or-ge k j))
      (lt-or-ge j k)

pub roll-exactly : (roll : List ℕ) → (roll_right roll ≡ true → PortRoll roll) × (PortRoll roll → roll_right roll ≡ true)
roll-exactly roll = (roll-means roll, means-roll roll)
