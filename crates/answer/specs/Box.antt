-- Document 01, "What the box reads and writes" and "Replies": the box of the whole reply, which is the program's.
use Rattle.std.specs.Prelude.{ℕ, List, [], ◌∷◌, ◌++◌, replicate}
use Rattle.boxes.specs.Box.{Box, State, box_of, state_of}

-- "port 3 "sw0"": kind 1, the index, the name in 16 bytes
unfoldable pub port_roll : List ℕ
port_roll = 1 ∷ 3 ∷ 0 ∷ 0 ∷ 0 ∷ 115 ∷ 119 ∷ 48 ∷ replicate 13 0

-- "debug list 40 empty names"
unfoldable pub debug_names : List ℕ
debug_names = replicate 1280 0

-- "N 40, .. only bit 3 named ("lldp")": three empty entries, then its bytes
unfoldable pub flag_names : List ℕ
flag_names = replicate 96 0 ++ (108 ∷ 108 ∷ 100 ∷ 112 ∷ replicate 1180 0)

-- "debug set empty", flags "bits 0 and 33": two words for each set
unfoldable pub first_words : List ℕ
first_words = 0 ∷ 0 ∷ 1 ∷ 2 ∷ []

-- the program's box
unfoldable pub program_box : Box
program_box = box_of port_roll debug_names flag_names

-- the state that the program starts with
unfoldable pub first_state : State
first_state = state_of first_words
