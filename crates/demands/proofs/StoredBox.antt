-- A box that is right over bytes.
--     few_bytes        its settings have at most 8,192 bytes: a length above the handler's cap never belongs to a right box
--     right-within     so its settings are within the cap of the handler: 64 ports of two sets of at most 16 words
--     part_at          a word of a set is the word at its place in the settings
--     part-past        past a set's words there are none
--     right-again      a right box stays right where its words are written as bytes and read again
use Prim.Native.Nat.{ℕ, ◌+◌, ◌/◌, ◌%◌, ◌≤◌, ◌<◌}
use mathlib.Core.Path.{◌≡◌, refl, sym, ap, ◌∙◌}
use mathlib.Core.List.{List}
use mathlib.Core.Bool.{true}
use mathlib.Core.Logic.{⊎_elim}
use lib.ListN.{length, take, drop, get_or, length-take, get_or-eq_default}
use lib.Seq.{get_or-take, get_or-drop}
use lib.Dec.{eqb}
use native.Mathlib.Omega.{arith}
use borrow.Author.Tests.{eq-eqb, eqb-true, le-leb}
use Rattle.basics.proofs.Order.{lt-or-ge}
use Rattle.basics.proofs.Scan.{all_of}
use Rattle.basics.proofs.Truth.{both_true}
use Rattle.bits.specs.Bit.{test}
use Rattle.bits.specs.Set.{has}
use Rattle.bits.specs.Change.{Same}
use Rattle.bits.proofs.Bit.{test_low}
use Rattle.bits.proofs.Cut.{none_below, below_none}
use Rattle.word_bytes.specs.Bytes.{words_in, bytes_of}
use Rattle.word_bytes.proofs.WordBytes.{length-words_in, length-bytes_of, length-again, word-again}
use Rattle.layout.specs.Layout.{size_of, set_place, set_at}
use Rattle.layout.specs.declared.Set.{Set}
use Rattle.layout.specs.declared.Sizes.{Sizes}
use Rattle.layout.proofs.Laws.{each-every, widths-few, words-few}
use Rattle.boxes.specs.Box.{Box, State, ports_in, sizes_in, widths_in}
use Rattle.boxes.specs.declared.Call.{Call}
use Rattle.boxes.specs.Rule.{box_right}
use Rattle.boxes.specs.Settings.{set_clear, port_clear, settings_right}
use Rattle.boxes.proofs.rule.Meaning.{box-means, box-keeps}
use Rattle.boxes.proofs.settings.Laws as S
use Rattle.handler.specs.Bytes.{Stored, in_words, as_stored, are_words}
use Rattle.demands.specs.Stored.{stored_right}

module _ (box : Box) (stored : Stored) (call : Call) (right : stored_right box stored call ≡ true) where
  both : (length stored.settings % 4 ≡ 0) × (box_right box (in_words stored) call ≡ true)
  unfolding stored_right
  both = let b = both_true (eqb (length stored.settings % 4) 0) _ right in (eqb-true _ _ b.0, b.1)

  pub right-whole : length stored.settings % 4 ≡ 0
  right-whole = both.0

  pub right-box : box_right box (in_words stored) call ≡ true
  right-box = both.1

  -- at most 2,048 words
  pub few_bytes : length stored.settings ≤ 8192
  few_bytes =
      let rules = box-means box (in_words stored) call right-box in
      let most = words-few (ports_in box) (widths_in box) rules.ports-few (widths-few (sizes_in box) (widths_in box) refl rules.few) in
      let exact = rules.settings.exact in
      omega (arith, length-words_in stored.settings, right-whole)

  pub right-within : are_words stored.settings ≡ true
  unfolding are_words
  right-within = rw (eq-eqb _ _ right-whole, le-leb _ _ few_bytes)

-- a set of words that are written as bytes and read again
module _ (ws : List ℕ) (ports : ℕ) (width : Sizes) (position : ℕ) (set : Set) where
  abbrev again : List ℕ
  again = words_in (bytes_of ws)

  abbrev part : List ℕ → List ℕ
  part s = take (size_of width set) (drop (set_place ports width position set) s)

  pub part_at : (s : List ℕ) (j : ℕ) → j < size_of width set → get_or (part s) j 0 ≡ get_or s (set_place ports width position set + j) 0
  part_at s j l =
      get_or-take (size_of width set) (drop (set_place ports width position set) s) j 0 l ∙ get_or-drop (set_place ports width position set) s j 0

  pub part-past : (s : List ℕ) (j : ℕ) → size_of width set ≤ j → get_or (part s) j 0 ≡ 0
  part-past s j l =
      get_or-eq_default (part s) 0 (omega (arith, length-take (size_of width set) (drop (set_place ports width position set) s)))

  part-again : (j : ℕ) → get_or (part again) j 0 ≡ get_or (part ws) j 0 % 4294967296
  part-again j =
      ⊎_elim
      (λ (l : j < size_of width set). part_at again j l ∙ word-again ws (set_place ports width position set + j)
      ∙ ap (λ (x : ℕ). x % 4294967296) (sym (part_at ws j l)))
      (λ (l : size_of width set ≤ j). part-past again j l ∙ ap (λ (x : ℕ). x % 4294967296) (sym (part-past ws j l)))
      (lt-or-ge j (size_of width set))

  set-again : Same (has (set_at again ports width position set)) (has (set_at ws ports width position set))
  unfolding has set_at
  set-again i =
      ap (λ (x : ℕ). test x (i % 32)) (part-again (i / 32)) ∙ test_low 32 (get_or (part ws) (i / 32) 0) (i % 32) (omega arith)

module _ (box : Box) (state : State) (call : Call) (right : box_right box state call ≡ true) where
  abbrev words : List ℕ
  words = words_in (bytes_of state.words)

  settings : S.Right state.words (ports_in box) (sizes_in box)
  settings = (box-means box state call right).settings

  each-clear : (p : ℕ) → p < ports_in box → (set : Set) → set_clear words (ports_in box) (sizes_in box) p set ≡ true
  unfolding set_clear
  each-clear p l set =
      below_none _ _ (λ i u. set-again state.words (ports_in box) (widths_in box) p set i ∙ none_below _ _ (settings.clear p l set) i u)

  port-clear : (p : ℕ) → p < ports_in box → port_clear words (ports_in box) (sizes_in box) p ≡ true
  unfolding port_clear
  port-clear p l = each-every (set_clear words (ports_in box) (sizes_in box) p) (each-clear p l)

  settings-again : settings_right words (ports_in box) (sizes_in box) ≡ true
  unfolding settings_right
  settings-again =
      rw (eq-eqb _ _ (length-again state.words ∙ settings.exact), all_of (port_clear words (ports_in box) (sizes_in box)) (ports_in box) port-clear)

  pub right-again : stored_right box (as_stored state) call ≡ true
  unfolding stored_right
  right-again =
      let whole : length (bytes_of state.words) % 4 ≡ 0 = omega (arith, length-bytes_of state.words) in
      rw (eq-eqb _ _ whole, box-keeps box state (in_words (as_stored state)) call right settings-again)
