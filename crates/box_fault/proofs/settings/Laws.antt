-- Laws of the fault of settings.
use Prim.Native.Nat.{ℕ, suc, ◌*◌, ◌-◌, ◌≤◌, ◌<◌, min}
use mathlib.Core.Path.{◌≡◌, sym, ap, ◌∙◌}
use mathlib.Core.List.{List}
use mathlib.Core.Bool.{Bool, true, false}
use lib.ListN.{length, take, set, get_or, replicate, length-replicate, get_or-replicate}
use lib.Seq.{length-take-le, take-length, take-suc, set-set, set-get_or}
use native.Mathlib.Omega.{arith}
use borrow.Author.Tests.{eq-eqb, ne_eqb}
use Rattle.std.specs.Prelude.{Some, None}
use Rattle.basics.specs.Put.{put}
use Rattle.basics.proofs.Put.{put_whole, put-snoc, get_or-put}
use Rattle.word_bytes.specs.Bytes.{words_in}
use Rattle.word_bytes.proofs.WordBytes.{length-words_in}
use Rattle.layout.specs.declared.Sizes.{Sizes}
use Rattle.layout.specs.Layout.{widths_of, total_words}
use Rattle.layout.specs.AtMost.{AtMost}
use Rattle.layout.proofs.Laws.{widths-few, words-few}
use Rattle.boxes.specs.Settings.{settings_right}
use Rattle.box_fault.specs.Longest.{right_up_to}
use Rattle.box_fault.specs.Settings.{right_length, with_zeros, right_with_zeros, settings_fault}
use Rattle.box_fault.specs.declared.Part.TheVariants.{Settings}

-- words that are cleared one by one, from the end
module _ (ports : ℕ) (sizes : Sizes) (ws : List ℕ) (exact : length ws ≡ total_words ports (widths_of sizes)) where
  abbrev zeros : List ℕ
  zeros = replicate (total_words ports (widths_of sizes)) 0

  zeros-long : length zeros ≡ total_words ports (widths_of sizes)
  zeros-long = length-replicate (total_words ports (widths_of sizes)) 0

  pub zeros-start : (n : ℕ) → n ≡ length ws → ws ≡ with_zeros ports sizes (take n ws)
  unfolding with_zeros
  zeros-start n e =
      sym
      (ap (λ (k : ℕ). put zeros (take k ws)) e ∙ ap (put zeros) (take-length ws)
      ∙ put_whole zeros ws (omega (arith, zeros-long)))

  module _ (words : List ℕ) (n : ℕ) (inv : words ≡ with_zeros ports sizes (take n ws)) where
    pub zeros-right : (b : Bool) → b ≡ settings_right words ports sizes → b ≡ right_with_zeros ports sizes (take n ws)
    unfolding right_with_zeros
    zeros-right b e = e ∙ ap (λ (x : List ℕ). settings_right x ports sizes) inv

    module _ (l : 0 < n) (u : n ≤ length ws) where
      abbrev k : ℕ
      k = n - 1

      abbrev shorter : List ℕ
      shorter = put zeros (take k ws)

      room : k < length zeros
      room = omega (arith, zeros-long)

      long : length (take k ws) ≡ k
      long = length-take-le k ws (omega arith)

      before : words ≡ set shorter k (get_or ws k 0)
      unfolding with_zeros
      before =
          let q : n ≡ suc k = omega arith in
          inv ∙ ap (put zeros) (ap (λ (j : ℕ). take j ws) q ∙ take-suc ws k 0 (omega arith)) ∙ sym (put-snoc zeros (take k ws) k (get_or ws k 0) long room)

      none : get_or shorter k 0 ≡ 0
      none =
          get_or-put zeros (take k ws) k (omega (arith, long))
          ∙ get_or-replicate (total_words ports (widths_of sizes)) k 0 0 (omega (arith, room, zeros-long))

      pub zeros-down : set words (n - 1) 0 ≡ with_zeros ports sizes (take (n - 1) ws)
      unfolding with_zeros
      zeros-down =
          ap (λ (x : List ℕ). set x k 0) before ∙ set-set shorter k (get_or ws k 0) 0 ∙ sym (ap (set shorter k) none) ∙ set-get_or shorter k 0

pub ruleset zeros-laws = (zeros-start, zeros-right, zeros-down)

-- the words of all ports, of which there are at most 2,048
module _ (ports : ℕ) (sizes width : Sizes) (n : ℕ) (ew : width ≡ widths_of sizes) (en : n ≡ total_words ports width) where
  pub words_are : n ≡ total_words ports (widths_of sizes)
  words_are = rw ew at en

  pub words-room : ports ≤ 64 → AtMost 512 sizes → n ≤ 2048
  words-room h few = let l = words-few ports width h (widths-few sizes width ew few) in omega arith

pub ruleset count-laws = (words_are, words-room)

-- settings of another length
module _ (settings : List ℕ) (ports : ℕ) (sizes : Sizes) where
  module _ (n right : ℕ) (en : n ≡ total_words ports (widths_of sizes)) (er : right ≡ n * 4) where
    pub fault-short : length settings < right → Some (record { part = Settings; offset = length settings }) ≡ settings_fault settings ports sizes
    unfolding settings_fault
    fault-short h =
        let q : min (length settings) (right_length ports sizes) ≡ length settings = omega arith in
        sym (rw (ne_eqb (length settings) (right_length ports sizes) (λ z. omega arith), q))

    pub fault-long : right < length settings → Some (record { part = Settings; offset = right }) ≡ settings_fault settings ports sizes
    unfolding settings_fault
    fault-long h =
        let q : min (length settings) (right_length ports sizes) ≡ right = omega arith in
        sym (rw (ne_eqb (length settings) (right_length ports sizes) (λ z. omega arith), q))

  -- settings of the right length
  module _ (exact : length settings ≡ right_length ports sizes) where
    pub words-read : (room ws : List ℕ) → length room ≡ total_words ports (widths_of sizes) → ws ≡ put room (words_in settings) → ws ≡ words_in settings
    words-read room ws l e = e ∙ put_whole room (words_in settings) (let w = length-words_in settings in omega arith)

    module _ (ws : List ℕ) (ew : ws ≡ words_in settings) (b : Bool) (eb : b ≡ settings_right ws ports sizes) where
      pub fault-none : b ≡ true → None ≡ settings_fault settings ports sizes
      unfolding settings_fault
      fault-none h = sym (rw (eq-eqb _ _ exact, ← ew, ← eb, h))

      pub fault-words : (n o : ℕ) → b ≡ false → n ≡ right_up_to (right_with_zeros ports sizes) ws → o ≡ n * 4
          → Some (record { part = Settings; offset = o }) ≡ settings_fault settings ports sizes
      unfolding settings_fault
      fault-words n o h en eo = sym (rw (eq-eqb _ _ exact, ← ew, ← eb, h, eo, en))

pub ruleset length-laws = (fault-short, fault-long)

pub ruleset words-laws = (words-read, fault-none, fault-words)
