-- No promise rests on this file: the tables that lead to the entries of one length and one last byte, in rising order. The search gives `lookup` with and
-- without them.
use Rattle.std.specs.Prelude.{ℕ, suc, ◌+◌, ◌*◌, ◌%◌, ◌≤◌, ◌<◌, ◌≡◌, Bool, true, List, length, get_or}
use Rattle.entries.specs.Entry.{count, entry_at}
use Rattle.entries.specs.Length.{name_length, last_byte}

-- the chain of a length and a last byte: 32 bytes and none share a remainder, and only an entry without a name ends in NUL
abbrev pub key_in : ℕ → ℕ → ℕ
key_in n last = n % 32 + 32 * last

-- the chain of an entry or a name
unfoldable pub key_of : List ℕ → ℕ
key_of e = key_in (name_length e) (last_byte e)

-- the first entry of a chain from a place on, counted from 1; 0 for none
pub data Next (names : List ℕ) (key from : ℕ) : ℕ → Type 0 where
  nowhere : ((j : ℕ) → from ≤ j → j < count names → key_of (entry_at names j) ≡ key → ⊥) → Next names key from 0
  entry : (i : ℕ) → from ≤ i → i < count names → key_of (entry_at names i) ≡ key → ((j : ℕ) → from ≤ j → j < i → key_of (entry_at names j) ≡ key → ⊥) → Next names key from (suc i)

-- head leads to the first entry of each chain from a place on
abbrev pub HeadRight : List ℕ → List ℕ → ℕ → Type 0
HeadRight names head from = (key : ℕ) → key < 8192 → Next names key from (get_or head key 0)

-- links lead from each entry from a place on to the next of its chain
abbrev pub LinksRight : List ℕ → List ℕ → ℕ → Type 0
LinksRight names links from = (i : ℕ) → from ≤ i → i < count names → Next names (key_of (entry_at names i)) (suc i) (get_or links i 0)

-- the tables lead to every entry from a place on
pub record Linked (names head links : List ℕ) (from : ℕ) : Type 0 where
  pub heads : HeadRight names head from
  pub linked : LinksRight names links from
  pub head-length : length head ≡ 8192
  pub links-length : length links ≡ 512
  pub few : count names ≤ 512

-- so they do from the first entry on if a test says yes
abbrev pub LinkedIf : Bool → List ℕ → List ℕ → List ℕ → Type 0
LinkedIf b names head links = b ≡ true → Linked names head links 0

-- a table that leads nowhere
pub record Cleared (head : List ℕ) : Type 0 where
  pub each : (key : ℕ) → key < 8192 → get_or head key 0 ≡ 0
  pub size : length head ≡ 8192
