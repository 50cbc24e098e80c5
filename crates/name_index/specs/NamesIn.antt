-- No promise rests on this file: the list that a search goes through, with tables or without.
use Rattle.std.specs.Prelude.{ℕ, List}
use Rattle.name_index.specs.declared.names_in.NameIndex.{NameIndex}
use Rattle.name_index.specs.declared.names_in.NameIndex.TheVariants.{Bare, Linked}

-- the list itself
abbrev pub names_in : NameIndex → List ℕ
names_in (Bare names) = names.now
names_in (Linked tables) = tables.names.now
