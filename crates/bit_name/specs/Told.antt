-- What is told of a name, by the bytes of list and name (request C-14). Taken over is the rule of a list alone, not how a name is searched for.
use Rattle.std.specs.Prelude.{ℕ, suc, ◌+◌, ◌-◌, ◌*◌, ◌≤◌, ◌<◌, ◌≡◌, List, true, false, length, get_or}
use Rattle.basics.specs.Those.{CountOf}
use Rattle.entries.specs.Entry.{count}
use Rattle.names.specs.Rule.{names_right}
use Rattle.bit_name.specs.Find.{Found}

-- a name that an entry can have: 1 to 31 bytes, neither the first nor the last of them NUL
pub record Name (name : List ℕ) : Type 0 where
  pub short : length name ≤ 31
  pub first : get_or name 0 0 ≡ 0 → ⊥
  pub last : get_or name (length name - 1) 0 ≡ 0 → ⊥

-- entry k is the name: its bytes are the name's, and behind them NULs (`get_or` gives 0 past the name's end)
pub record Equals (names name : List ℕ) (k : ℕ) : Type 0 where
  pub inside : k < count names
  pub bytes : (j : ℕ) → j < 32 → get_or names (k * 32 + j) 0 ≡ get_or name j 0

-- entry k has the length and the last byte of the name: the name's last byte stands at its place in the entry, and NULs alone behind it
pub record Agrees (names name : List ℕ) (k : ℕ) : Type 0 where
  pub last : get_or names (k * 32 + (length name - 1)) 0 ≡ get_or name (length name - 1) 0
  pub behind : (j : ℕ) → length name ≤ j → j < 32 → get_or names (k * 32 + j) 0 ≡ 0

-- found: the entry that is told is the name, and so many entries were compared as agree with it up to this one
pub record Hit (names name : List ℕ) (f : Found) : Type 0 where
  pub name-is : Name name
  pub is : Equals names name f.bit
  pub compared : CountOf (Agrees names name) (suc f.bit) f.compared

-- not found: no entry is the name, and so many were compared as agree with it; none where no entry can have the name, as where it is empty
pub record Missed (names name : List ℕ) (f : Found) : Type 0 where
  pub none : Name name → (k : ℕ) → Equals names name k → ⊥
  pub compared : Name name → CountOf (Agrees names name) (count names) f.compared
  pub no_name : (Name name → ⊥) → f.compared ≡ 0

-- what is told: 1 and nothing else exactly where the list breaks a rule; else 0, with the entry that is the name, or 2^32 - 1
pub record Told (names name : List ℕ) (f : Found) : Type 0 where
  pub refused : names_right names ≡ false → (f.number ≡ 1) × (f.bit ≡ 0) × (f.compared ≡ 0)
  pub right : names_right names ≡ true → f.number ≡ 0
  pub hit : f.number ≡ 0 → (f.bit ≡ 4294967295 → ⊥) → Hit names name f
  pub missed : f.number ≡ 0 → f.bit ≡ 4294967295 → Missed names name f
  pub back : f.number ≡ 0 → Name name → (k : ℕ) → Equals names name k → f.bit ≡ k
