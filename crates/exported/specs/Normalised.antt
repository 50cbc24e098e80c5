-- What C gets back from `ethnl_normalise`: the number, the count and the page.
use Rattle.std.specs.Prelude.{ℕ, ◌<◌, ◌≡◌, List, length}
use Rattle.basics.specs.Put.{put}
use Rattle.entries.specs.Entry.{count}
use Rattle.refusal.specs.Refusal.{number_of}
use Rattle.refusal.specs.declared.Refusal.{Refusal}
use Rattle.normal.specs.Normal.{normalised}
use Rattle.normal.specs.Claims.{Accepts, NormalBytes}
use Rattle.demands.specs.Check.{FirstIs}
use Rattle.demands.specs.NormalChecks.{normal_checks}
use Rattle.demands.specs.OwnNames.{OwnNames}
use Rattle.ethnl.specs.Exported.{Normalise}

-- what a call of `ethnl_normalise` is lent: contents, name list and page
pub record NormalLent : Type 0 where
  pub contents : List ℕ
  pub names : List ℕ
  pub page : List ℕ

-- what it leaves: the number that it returns, the count behind its pointer, and the page
pub record NormalLeft : Type 0 where
  pub number : ℕ
  pub written : ℕ
  pub page : List ℕ

-- the contract of `ethnl_normalise`, for what it is lent and what it leaves
abbrev pub NormalLeaves : NormalLent → NormalLeft → Type 0
NormalLeaves c r = Normalise (normalised c.contents c.names (length c.page)) c.page r.page r.written r.number

-- accepted: list, page and contents keep the rules, every BIT that carries an index and a name carries the name of that index's entry, and the normal form
-- of the bitset stands at the front of the page, as long as is told
pub record FormLeft (c : NormalLent) (r : NormalLeft) : Type 0 where
  pub accepts : Accepts c.contents c.names (length c.page)
  pub own-names : OwnNames c.contents 0 c.names
  pub bytes : List ℕ
  pub form : NormalBytes (count c.names) accepts.bitset bytes
  pub page : r.page ≡ put c.page bytes
  pub written : r.written ≡ length bytes

-- refused: by the first check that does not pass, and nothing is written
pub record NothingLeft (c : NormalLent) (r : NormalLeft) : Type 0 where
  pub why : Refusal
  pub first : FirstIs why (normal_checks c.contents c.names (length c.page))
  pub number : r.number ≡ number_of why
  pub page : r.page ≡ c.page
  pub written : r.written ≡ 0

-- what C gets back: 0 exactly where the contents are accepted, and then the normal form; else the number of the first check that does not pass
pub record NormalReturned (c : NormalLent) (r : NormalLeft) : Type 0 where
  pub accepted : r.number ≡ 0 → FormLeft c r
  pub back : Accepts c.contents c.names (length c.page) → r.number ≡ 0
  pub refused : 0 < r.number → NothingLeft c r
  pub refused-back : (why : Refusal) → FirstIs why (normal_checks c.contents c.names (length c.page)) → r.number ≡ number_of why
