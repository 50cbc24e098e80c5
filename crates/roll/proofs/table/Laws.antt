-- Laws of the table: how the walk over the records fills it, and what it then says.
use Prim.Native.Nat.{ℕ, zero, suc, ◌+◌, ◌*◌, ◌-◌, ◌≤◌, ◌<◌}
use mathlib.Core.Path.{◌≡◌, refl, sym, ap, ◌∙◌}
use mathlib.Core.List.{List, []}
use mathlib.Core.Bool.{Bool, true, false, ◌&&◌, and-false}
use mathlib.Core.Logic.{⊎_elim}
use lib.ListN.{length, get_or, set, take, drop, length-set}
use lib.Seq.{get_or-set_same, get_or-set_other, get_or-take, get_or-drop, length-take-le}
use lib.Dec.{leb, ltb}
use native.Mathlib.Numerals.{add-one}
use native.Mathlib.Omega.{arith}
use borrow.Author.Tests.{le-leb, lt-leb, leb-true}
use Rattle.basics.specs.Numbers.{u32_at}
use Rattle.basics.proofs.Order.{lt-or-ge}
use Rattle.basics.proofs.Truth.{both_true, clash}
use Rattle.netlink_attributes.proofs.Laws.{part_in, part-past}
use lib.ListN.{length-take, length-drop}
use Rattle.roll.specs.Name.{name_at}
use Rattle.roll.specs.Record.{Port, record_at, Records, on_record, records_up_to, records, all_whole, record_ports, ports_of, port_count, port_at, index_of, name_of, ports_listed}
use Rattle.roll.specs.Record.Records.{end_of_roll, bad_record, port}
use Rattle.roll.specs.Table.{low_of, high_of, Tabled, TableRead, most_bytes}
use Rattle.roll.specs.declared.record.PortRecord.{PortRecord}
use Rattle.roll.specs.declared.record.RecordRead.{RecordRead}
use Rattle.roll.specs.declared.record.RecordRead.TheVariants as R
use Rattle.roll.proofs.record.Laws.{Bounded, bounded, turn, lies, port-less}

-- the records behind the first k
unfoldable pub behind : ℕ → Records → Records
behind zero rs = rs
behind (suc k) end_of_roll = end_of_roll
behind (suc k) bad_record = bad_record
behind (suc k) (port p rs) = behind k rs

-- a port stands there: it is the one at k
behind-port : (k : ℕ) (rs more : Records) (p d : Port) → behind k rs ≡ port p more
    → (behind (suc k) rs ≡ more) × (k < length (record_ports rs)) × (get_or (record_ports rs) k d ≡ p)
unfolding behind record_ports
behind-port zero end_of_roll more p d h = absurd (let z : ◌≡◌ {A = ℕ} 0 1 = cc in omega arith)
behind-port zero bad_record more p d h = absurd (let z : ◌≡◌ {A = ℕ} 0 1 = cc in omega arith)
behind-port zero (port q rs) more p d h = (cc, omega arith, cc)
behind-port (suc k) end_of_roll more p d h = absurd (let z : ◌≡◌ {A = ℕ} 0 1 = cc in omega arith)
behind-port (suc k) bad_record more p d h = absurd (let z : ◌≡◌ {A = ℕ} 0 1 = cc in omega arith)
behind-port (suc k) (port q rs) more p d h = let r = behind-port k rs more p d h in (r.0, omega (arith, r.1), r.2)

-- the end stands there: there are k ports, and all records are whole
behind-done : (k : ℕ) (rs : Records) → k ≤ length (record_ports rs) → behind k rs ≡ end_of_roll → (all_whole rs ≡ true) × (length (record_ports rs) ≡ k)
unfolding behind record_ports all_whole
behind-done zero end_of_roll l h = (refl, refl)
behind-done zero bad_record l h = absurd (let z : ◌≡◌ {A = ℕ} 0 1 = cc in omega arith)
behind-done zero (port q rs) l h = absurd (let z : ◌≡◌ {A = ℕ} 0 1 = cc in omega arith)
behind-done (suc k) end_of_roll l h = absurd (omega arith)
behind-done (suc k) bad_record l h = absurd (omega arith)
behind-done (suc k) (port q rs) l h = let r = behind-done k rs (omega arith) h in (r.0, omega (arith, r.1))

behind-broken : (k : ℕ) (rs : Records) → behind k rs ≡ bad_record → all_whole rs ≡ false
unfolding behind all_whole
behind-broken zero end_of_roll h = absurd (let z : ◌≡◌ {A = ℕ} 0 1 = cc in omega arith)
behind-broken zero bad_record h = refl
behind-broken zero (port q rs) h = absurd (let z : ◌≡◌ {A = ℕ} 0 1 = cc in omega arith)
behind-broken (suc k) end_of_roll h = absurd (let z : ◌≡◌ {A = ℕ} 0 1 = cc in omega arith)
behind-broken (suc k) bad_record h = refl
behind-broken (suc k) (port q rs) h = behind-broken k rs h

-- the table as far as it is filled, before the record at a place
pub record Filled (roll table : List ℕ) (count at : ℕ) : Type 0 where
  pub left : behind count (records roll 0) ≡ records roll at
  pub counted : count ≤ port_count roll
  pub few : count ≤ 64
  pub place : at ≤ most_bytes * count
  pub room : length table ≡ 64
  pub indexes : (k : ℕ) → k < count → low_of (get_or table k 0) ≡ index_of roll k
  pub names : (k : ℕ) → k < count → name_at roll (high_of (get_or table k 0)) ≡ name_of roll k

pub filled-start : (roll table : List ℕ) → length table ≡ 64 → Filled roll table 0 0
unfolding behind
filled-start roll table e = record {
  left = refl;
  counted = omega arith;
  few = omega arith;
  place = omega arith;
  room = e;
  indexes = λ k l. absurd (omega arith);
  names = λ k l. absurd (omega arith);
}

-- one cell more
more : (A : Type 0) (f : ℕ → A) (g : ℕ → A) (s : List ℕ) (n x : ℕ) → n < length s → ((k : ℕ) → k < n → f (get_or s k 0) ≡ g k) → f x ≡ g n
    → (k : ℕ) → k < n + 1 → f (get_or (set s n x) k 0) ≡ g k
more A f g s n x u h e k l =
    ⊎_elim
    (λ (q : k < n). ap f (get_or-set_other s n k x 0 (λ (z : k ≡ n). omega arith)) ∙ h k q)
    (λ (q : n ≤ k). let z : k ≡ n = omega arith in rw z (ap f (get_or-set_same s n x 0 u) ∙ e))
    (lt-or-ge k n)

-- a table of nothing
none_read : (roll table : List ℕ) → ports_listed roll ≡ false → TableRead roll (take 0 table)
none_read roll table e = record { told = sym e; held = λ h. absurd (omega arith) }

module _ (roll table : List ℕ) (count at : ℕ) (f : Filled roll table count at) (r : RecordRead) (e : r ≡ record_at roll at) where
  pub read-unknown : r ≡ R.Unknown → TableRead roll (take 0 table)
  unfolding ports_listed
  read-unknown q = none_read roll table (rw (behind-broken count (records roll 0) (f.left ∙ rw q at (turn roll at r e))))

  pub read-cut : r ≡ R.Cut → TableRead roll (take 0 table)
  unfolding ports_listed
  read-cut q = none_read roll table (rw (behind-broken count (records roll 0) (f.left ∙ rw q at (turn roll at r e))))

  pub read-end : r ≡ R.End → TableRead roll (take count table)
  unfolding ports_listed port_count ports_of
  read-end q =
      let d = behind-done count (records roll 0) f.counted (f.left ∙ rw q at (turn roll at r e)) in
      let l : length (take count table) ≡ count = length-take-le count table (let w = f.room in let u = f.few in omega arith) in
      record {
        told = ap (ltb 0) l ∙ sym (rw (d.0, d.1, le-leb count 64 f.few) (same (leb 1 count)));
        held = λ h. record {
          count = l ∙ sym d.1;
          few = rw l f.few;
          index = λ k u. let v : k < count = rw l at u in ap low_of (get_or-take count table k 0 v) ∙ f.indexes k v;
          name = λ k u. let v : k < count = rw l at u in ap (λ (x : ℕ). name_at roll (high_of x)) (get_or-take count table k 0 v) ∙ f.names k v;
        };
      }
    where
      same : (t : Bool) → t && true ≡ t
      same true = refl
      same false = refl

  module _ (p : PortRecord) (q : r ≡ R.Port p) where
    abbrev here : Port
    here = record { index = u32_at roll p.index; name = name_at roll p.name }

    stands : (behind (suc count) (records roll 0) ≡ records roll p.end) × (count < length (record_ports (records roll 0))) × (get_or (record_ports (records roll 0)) count (record { index = 0; name = [] }) ≡ here)
    stands = behind-port count (records roll 0) (records roll p.end) here _ (f.left ∙ rw q at (turn roll at r e))

    pub read-many : count ≡ 64 → TableRead roll (take 0 table)
    unfolding ports_listed port_count ports_of
    read-many c =
        let s = stands in
        let l : 64 < length (record_ports (records roll 0)) = omega (arith, s.1) in
        none_read roll table (rw (lt-leb _ _ l, and-false, and-false))

    pub name-fits : p.name < 65536
    name-fits = let b = lies roll at r e p q in let g = f.place in let u = f.few in omega arith

    module _ (c : count ≡ 64 → ⊥) where
      pub count_small : count < 64
      count_small = ⊎_elim (λ (h : count < 64). h) (λ (h : 64 ≤ count). absurd (c (let g = f.few in omega arith))) (lt-or-ge count 64)

      pub filled_next : (x w : ℕ) (new : List ℕ) → x ≡ u32_at roll p.index → low_of w ≡ x → high_of w ≡ p.name → new ≡ set table count w → Filled roll new (count + 1) p.end
      unfolding port_count ports_of index_of name_of port_at
      filled_next x w new ex el eh en =
          let s = stands in
          let b = lies roll at r e p q in
          let u = count_small in
          let g = f.place in
          let k = f.room in
          record {
            left = rw (add-one count) s.0;
            counted = omega (arith, s.1);
            few = omega arith;
            place = omega arith;
            room = ap length en ∙ length-set table count w ∙ k;
            indexes = rw en (more ℕ low_of (index_of roll) table count w (omega arith) f.indexes (el ∙ ex ∙ sym (ap (λ (z : Port). z.index) s.2)));
            names = rw en (more (List ℕ) (λ (y : ℕ). name_at roll (high_of y)) (name_of roll) table count w (omega arith) f.names (ap (name_at roll) eh ∙ sym (ap (λ (z : Port). z.name) s.2)));
          }

pub ruleset table-laws = (filled-start, read-unknown, read-cut, read-end, read-many, filled_next, count_small, name-fits, port-less)

-- what is listed
pub listed-some : (roll : List ℕ) → ports_listed roll ≡ true → (all_whole (records roll 0) ≡ true) × (1 ≤ port_count roll) × (port_count roll ≤ 64)
unfolding ports_listed
listed-some roll h =
    let a = both_true _ _ h in
    let b = both_true (leb 1 (port_count roll)) (leb (port_count roll) 64) a.1 in
    (a.0, leb-true 1 _ b.0, leb-true _ 64 b.1)

-- whole records have no more bytes than so many of the longest
records-room : (roll : List ℕ) (k at : ℕ) → all_whole (records_up_to k roll at) ≡ true
    → length roll ≤ at + most_bytes * length (record_ports (records_up_to k roll at))
unfolding records_up_to all_whole record_ports
records-room roll zero at w = absurd (clash w refl)
records-room roll (suc k) at w = go (record_at roll at) (bounded roll at) w (λ next. records-room roll k next)
  where
    go : (r : RecordRead) → Bounded roll at r → all_whole (on_record roll r (λ next. records_up_to k roll next)) ≡ true
        → ((next : ℕ) → all_whole (records_up_to k roll next) ≡ true → length roll ≤ next + most_bytes * length (record_ports (records_up_to k roll next)))
        → length roll ≤ at + most_bytes * length (record_ports (on_record roll r (λ next. records_up_to k roll next)))
    go R.End b w f = omega arith
    go R.Unknown b w f = absurd (clash w refl)
    go R.Cut b w f = absurd (clash w refl)
    go (R.Port p) b w f = let rest = f p.end w in omega arith

pub listed-room : (roll : List ℕ) → ports_listed roll ≡ true → length roll ≤ 64 * most_bytes
unfolding port_count ports_of records
listed-room roll h = let l = listed-some roll h in let room = records-room roll (suc (length roll)) 0 l.0 in let few = l.2 in omega arith

-- the name of each port is a whole field
module _ (roll : List ℕ) where
  whole-field : (n : ℕ) → n + 16 ≤ length roll → length (name_at roll n) ≡ 16
  unfolding name_at
  whole-field n h = ap length (sym (part_in roll n (n + 16) (omega arith) (omega arith))) ∙ simp (length-take, length-drop) (omega arith)

  names-long : (k at j : ℕ) (d : Port) → j < length (record_ports (records_up_to k roll at)) → length (get_or (record_ports (records_up_to k roll at)) j d).name ≡ 16
  unfolding records_up_to record_ports
  names-long zero at j d l = absurd (omega arith)
  names-long (suc k) at j d l = go (record_at roll at) (bounded roll at) j l (λ next j l. names-long k next j d l)
    where
      go : (r : RecordRead) → Bounded roll at r → (j : ℕ) → j < length (record_ports (on_record roll r (λ next. records_up_to k roll next)))
          → ((next j : ℕ) → j < length (record_ports (records_up_to k roll next)) → length (get_or (record_ports (records_up_to k roll next)) j d).name ≡ 16)
          → length (get_or (record_ports (on_record roll r (λ next. records_up_to k roll next))) j d).name ≡ 16
      go R.End b j l f = absurd (omega arith)
      go R.Unknown b j l f = absurd (omega arith)
      go R.Cut b j l f = absurd (omega arith)
      go (R.Port p) b zero l f = whole-field p.name (omega arith)
      go (R.Port p) b (suc j) l f = f p.end j (omega arith)

  pub name-long : (j : ℕ) → j < port_count roll → length (name_of roll j) ≡ 16
  unfolding name_of port_at port_count ports_of records
  name-long j l = names-long (suc (length roll)) 0 j _ l

  -- so is the field that the code has of it
  pub field-long : (s : List ℕ) (k : ℕ) → k < port_count roll → s ≡ name_of roll k → length s ≡ 16
  field-long s k l e = ap length e ∙ name-long k l

-- where a table says that a port's name stands, the roll has its sixteen bytes
module _ (roll ports : List ℕ) (k : ℕ) (tab : Tabled roll ports) (l : k < length ports) where
  abbrev at : ℕ
  at = high_of (get_or ports k 0)

  here-long : length (name_at roll at) ≡ 16
  here-long = ap length (tab.name k l) ∙ name-long roll k (rw tab.count at l)

  pub name-inside : at + 16 ≤ length roll
  unfolding name_at
  name-inside = ⊎_elim (λ (h : length roll < at + 16). absurd (let z = ap length (part-past roll at (at + 16) (omega arith) h) in let n = here-long in omega arith)) (λ (h : at + 16 ≤ length roll). h) (lt-or-ge (length roll) (at + 16))

  pub probe-is : (x p : ℕ) → p ≡ at + 8 → x ≡ u32_at roll p → x ≡ u32_at (name_of roll k) 8
  unfolding u32_at name_at
  probe-is x p ep ex =
      let inside = name-inside in
      let byte : (j : ℕ) → j < 16 → get_or roll (at + j) 0 ≡ get_or (name_of roll k) j 0 =
      λ j u. sym (ap (λ (s : List ℕ). get_or s j 0) (sym (tab.name k l) ∙ sym (part_in roll at (at + 16) (omega arith) (omega arith))) ∙ get_or-take (at + 16 - at) (drop at roll) j 0 (omega arith) ∙ get_or-drop at roll j 0) in
      let p9 : at + 8 + 1 ≡ at + 9 = omega arith in
      let p10 : at + 8 + 2 ≡ at + 10 = omega arith in
      let p11 : at + 8 + 3 ≡ at + 11 = omega arith in
      ex ∙ rw (ep, p9, p10, p11, byte 8 (omega arith), byte 9 (omega arith), byte 10 (omega arith), byte 11 (omega arith))

pub ruleset probe-laws = (name-inside, probe-is)

-- a roll as contracts see it, by its table
module _ (roll bytes ports : List ℕ) (seen : bytes ≡ roll) (tab : Tabled bytes ports) where
  pub count-is : length ports ≡ port_count roll
  count-is = tab.count ∙ ap port_count seen

  module _ (k : ℕ) (l : k < port_count roll) where
    pub in-table : k < length ports
    in-table = rw count-is l

    pub in-64 : k < 64
    in-64 = let i = in-table in let few = tab.few in omega arith

    pub index-is : low_of (get_or ports k 0) ≡ index_of roll k
    index-is = tab.index k in-table ∙ ap (λ (r : List ℕ). index_of r k) seen

    pub name-is : name_at bytes (high_of (get_or ports k 0)) ≡ name_of roll k
    name-is = tab.name k in-table ∙ ap (λ (r : List ℕ). name_of r k) seen

    pub inside-is : high_of (get_or ports k 0) + 16 ≤ length bytes
    inside-is = name-inside bytes ports k tab in-table

    pub four-is : (x p : ℕ) → p ≡ high_of (get_or ports k 0) + 8 → x ≡ u32_at bytes p → x ≡ u32_at (name_of roll k) 8
    four-is x p ep ex = probe-is bytes ports k tab in-table x p ep ex ∙ ap (λ (r : List ℕ). u32_at (name_of r k) 8) seen
