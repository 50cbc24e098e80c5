-- What a done SET makes of the settings.
use Prim.Native.Nat.{ℕ, ◌+◌, ◌-◌, ◌*◌, ◌≤◌, ◌<◌}
use mathlib.Core.Path.{◌≡◌, sym, ap, ◌∙◌}
use mathlib.Core.List.{List}
use mathlib.Core.Bool.{Bool, true, cond}
use mathlib.Core.Logic.{◌⊎◌, inl, inr, ⊎_elim}
use lib.ListN.{length, drop, get_or}
use lib.Seq.{get_or-take, get_or-drop}
use native.Mathlib.Omega.{arith}
use Rattle.basics.proofs.Order.{lt-or-ge}
use Rattle.bits.specs.Set.{has, words_of, words_for, none_from}
use Rattle.bits.specs.Change.{Same, Below}
use Rattle.bits.proofs.Words.{length-words_of, has_all}
use Rattle.bits.proofs.Cut.{none_below, below_none}
use Rattle.word_bytes.proofs.WordBytes.{Small, small-words_of}
use Rattle.bitset_form.specs.Bitset.{Bitset, effect, value_of}
use Rattle.normal.specs.Fits.{Fits}
use Rattle.normal.proofs.Effect.{form-keeps-effect, mask_below}
use Rattle.boxes.specs.Box.{Box, State, ports_in, sizes_in, widths_in, place_in, width_in, set_of}
use Rattle.boxes.specs.declared.Call.{Call}
use Rattle.boxes.specs.Rule.{box_right}
use Rattle.layout.specs.Layout.{size_of, set_at}
use Rattle.layout.specs.declared.Set.{Set}
use Rattle.layout.proofs.Laws.{sizes-of, place_inside}
use Rattle.layout.proofs.Kept.{splice-below, splice-above, change-length, change-own, change-other}
use Rattle.boxes.proofs.rule.Meaning.{Right, box-means, box-keeps}
use Rattle.boxes.proofs.settings.Laws as S
use Rattle.boxes.proofs.settings.Change.{change-right}
use Rattle.execute.specs.Execute.{with_set, with_effect}

-- an accepted bitset makes a set below N of a set below N
effect-below : (n : ℕ) (b : Bitset) → Fits n b → (s : ℕ → Bool) → Below n s → Below n (effect b s)
effect-below n b fits s below i l =
    form-keeps-effect n b fits s below i
    ∙ ap (λ (t : Bool). cond t (value_of b i) (s i)) (mask_below n b fits i l)
    ∙ below i l

module _ (box : Box) (state : State) (call : Call) (right : box_right box state call ≡ true)
    (position : ℕ) (here : position < ports_in box) (set : Set) (b : Bitset)
    (fits : Fits (size_of (sizes_in box) set) b) where
  abbrev n : ℕ
  n = size_of (sizes_in box) set

  abbrev pub held : List ℕ
  held = set_of box state position set

  abbrev pub new : List ℕ
  new = words_of (width_in box set) (effect b (has held))

  abbrev pub after : State
  after = with_effect box state position set b

  rules : Right box state call
  rules = box-means box state call right

  settings : S.Right state.words (ports_in box) (sizes_in box)
  settings = rules.settings

  held_below : Below n (has held)
  unfolding set_of
  held_below = none_below held n (settings.clear position here set)

  width : width_in box set ≡ words_for n
  unfolding width_in
  width = sizes-of words_for (sizes_in box) set

  effect-fits : Below (width_in box set * 32) (effect b (has held))
  effect-fits i l = effect-below n b fits (has held) held_below i (let w = width in omega arith)

  new-long : length new ≡ size_of (widths_in box) set
  unfolding width_in
  new-long = length-words_of (width_in box set) (effect b (has held))

  new-clear : none_from new n ≡ true
  new-clear = below_none new n (λ i l. has_all (width_in box set) (effect b (has held)) effect-fits i ∙ effect-below n b fits (has held) held_below i l)

  pub set_own : Same (has (set_of box after position set)) (effect b (has held))
  unfolding set_of place_in with_set with_effect
  set_own i =
      ap (λ (l : List ℕ). has l i)
      (change-own state.words (ports_in box) (widths_in box) settings.exact position here set new new-long)
      ∙ has_all (width_in box set) (effect b (has held)) effect-fits i

  pub set-others : (p : ℕ) (s : Set) → p < ports_in box → (position ≡ p → set ≡ s → ⊥) → set_of box after p s ≡ set_of box state p s
  unfolding set_of place_in with_set with_effect
  set-others p s l apart =
      change-other state.words (ports_in box) (widths_in box) settings.exact position here set new new-long p s l apart

  pub set-elsewhere : (k : ℕ) → (k < place_in box position set) ⊎ (place_in box position set + width_in box set ≤ k)
      → get_or after.words k 0 ≡ get_or state.words k 0
  unfolding place_in width_in with_set with_effect
  set-elsewhere k =
      let inside = place_inside (ports_in box) (widths_in box) position set here in
      let room : place_in box position set + length new ≤ length state.words = let e = settings.exact in let l = new-long in omega arith in
      ⊎_elim (λ l. splice-below state.words new (place_in box position set) room k l)
      (λ l. splice-above state.words new (place_in box position set) room k (let e = new-long in omega arith))

  -- the words after it: as many as before, and of 32 bits where they were
  set-length : length after.words ≡ length state.words
  unfolding place_in with_set with_effect
  set-length = change-length state.words (ports_in box) (widths_in box) settings.exact position here set new new-long

  own-word : (j : ℕ) → j < width_in box set → get_or after.words (place_in box position set + j) 0 ≡ get_or new j 0
  unfolding set_at place_in width_in with_set with_effect
  own-word j l =
      let at = place_in box position set in
      sym (get_or-take (width_in box set) (drop at after.words) j 0 l ∙ get_or-drop at after.words j 0)
      ∙ ap (λ (ws : List ℕ). get_or ws j 0)
      (change-own state.words (ports_in box) (widths_in box) settings.exact position here set new new-long)

  pub set-small : Small state.words → Small after.words
  set-small small k l =
      let at = place_in box position set in
      let w = width_in box set in
      let kept : k < length state.words = let e = set-length in omega arith in
      ⊎_elim
      (λ (p : k < at). rw (set-elsewhere k (inl p)) (small k kept))
      (λ (p : at ≤ k). ⊎_elim
      (λ (q : k < at + w). let e : k ≡ at + (k - at) = omega arith in
      rw (ap (λ (n : ℕ). get_or after.words n 0) e ∙ own-word (k - at) (omega arith))
      (small-words_of w (effect b (has held)) (k - at) (omega (arith, length-words_of w (effect b (has held))))))
      (λ (q : at + w ≤ k). rw (set-elsewhere k (inr q)) (small k kept))
      (lt-or-ge k (at + w)))
      (lt-or-ge k at)

  pub set-right : box_right box after call ≡ true
  unfolding place_in with_set with_effect
  set-right =
      box-keeps box state after call right
      (change-right state.words (ports_in box) (sizes_in box) rules.settings-right position here set new new-long new-clear)
