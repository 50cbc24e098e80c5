-- What a writer leaves of the slice that it is lent.
use Rattle.std.specs.Prelude.{ℕ, List, ◌++◌, length, take, drop}

-- xs with ys at its front
unfoldable pub put : List ℕ → List ℕ → List ℕ
put xs ys = ys ++ drop (length ys) xs

-- xs with ys in the place of as many elements from at on
unfoldable pub splice : ℕ → List ℕ → List ℕ → List ℕ
splice at xs ys = take at xs ++ put (drop at xs) ys
