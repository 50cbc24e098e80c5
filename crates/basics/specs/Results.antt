-- Steps one after another, each of which may refuse.
use Rattle.std.specs.Prelude.{Result, Ok, Err}

-- a refusal, or what the rest makes of the value
abbrev pub and_then : {A B E : Type 0} → Result A E → (A → Result B E) → Result B E
and_then (Err why) rest = Err why
and_then (Ok x) rest = rest x
