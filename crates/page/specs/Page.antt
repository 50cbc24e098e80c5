-- What a writer leaves in the page that it is lent. Document 01, "What a call says back": page bytes beyond the count keep their content.
use Rattle.std.specs.Prelude.{ℕ, ◌≡◌, List, length}
use Rattle.basics.specs.Put.{put}

-- r bytes are written: bs, at the front of the page
pub record Wrote (bs before after : List ℕ) (r : ℕ) : Type 0 where
  pub count : r ≡ length bs
  pub page : after ≡ put before bs
