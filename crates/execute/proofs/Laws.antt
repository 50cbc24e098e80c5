-- Laws of carrying a decision out: one for each return.
use Prim.Native.Nat.{ℕ, ◌+◌, ◌≤◌, ◌<◌}
use mathlib.Core.Path.{◌≡◌, refl, ap, ◌∙◌}
use mathlib.Core.List.{List}
use lib.ListN.{length, take, drop}
use native.Mathlib.Omega.{arith}
use Rattle.basics.specs.Put.{splice}
use Rattle.bits.specs.Set.{has, words_of}
use Rattle.bits.specs.Change.{merge}
use Rattle.roll.specs.Record.{port_count}
use Rattle.layout.specs.Layout.{size_of, widths_of, total_words, set_place, set_at}
use Rattle.layout.specs.AtMost.{AtMost}
use Rattle.layout.specs.declared.Set.{Set}
use Rattle.layout.specs.declared.Sizes.{Sizes}
use Rattle.layout.proofs.Laws.{size_few, widths-few, place_inside}
use Rattle.boxes.specs.Box.{Box, State, state_of, ports_in, sizes_in, place_in, width_in, set_of}
use Rattle.bitset_form.specs.declared.Form.{Form}
use Rattle.response.specs.Answer.{Response, response_of, ack_bytes, unchanged, Responds, Performs}
use Rattle.response.specs.declared.Kind.TheVariants.{Done}
use Rattle.request.specs.declared.target.Target.{Target}
use Rattle.decision.specs.declared.Plan.{Plan}
use Rattle.decision.specs.declared.Plan.TheVariants as Pl
use Rattle.execute.specs.declared.Request.{Request}
use Rattle.execute.specs.Execute.{with_set, get_bytes, dump_response}
use Rattle.execute.specs.CarriedOut.{changed_by, plan_outcome}
use Rattle.execute.specs.Fit.{Fit}
use Rattle.response.specs.declared.Answer.{Answer}

-- a stage that leaves the state
pub unchanged-performs : {S : Type 0} (s : Response) (P Q : List ℕ) (state : S) (r : Answer) → Responds s P Q r → Performs (unchanged s state) P Q state r
unchanged-performs s P Q state r h = record { response = h; state-is = refl }

-- a set by what the code has computed of it: the ports, the sizes, the widths
module _ (box : Box) (state : State) (fit : Fit box state) (sizes width : Sizes) (es : sizes ≡ sizes_in box) (ew : width ≡ widths_of sizes) where
  pub few-by : AtMost 16 width
  few-by = widths-few sizes width ew (rw es fit.few)

  module _ (ports : ℕ) (ep : ports ≡ ports_in box) where
    pub ports-few : ports ≤ 64
    ports-few = rw ep fit.ports

    pub exact-by : (ws : List ℕ) → ws ≡ state.words → length ws ≡ total_words ports width
    exact-by ws e = ap length e ∙ rw (ep, ew, es) fit.exact

    pub stored-words-are : (h : List ℕ) (position : ℕ) (set : Set) → h ≡ set_at state.words ports width position set → h ≡ set_of box state position set
    unfolding set_of
    stored-words-are h position set e = e ∙ rw (ep, ew, es)

pub port-here : (roll : List ℕ) (ports position : ℕ) → position < port_count roll → ports ≡ port_count roll → position < ports
port-here roll ports position h e = rw e h

pub ruleset stored-words-laws = (few-by, ports-few, exact-by, stored-words-are, port-here)

-- SET
module _ (box : Box) (state : State) (fit : Fit box state) (sizes width : Sizes) (es : sizes ≡ sizes_in box) (ew : width ≡ widths_of sizes) (set : Set) (w : ℕ)
    (en : w ≡ size_of width set) where
  pub apply-width : w ≤ 16
  apply-width = rw en (size_few 16 width set (few-by box state fit sizes width es ew))

  module _ (ports position at : ℕ) (ea : at ≡ set_place ports width position set) where
    pub apply-room : position < ports_in box → (ws : List ℕ) → ws ≡ state.words → at + w ≤ length ws
    unfolding set_place
    apply-room here ws e =
        let i = place_inside (ports_in box) width position set here in
        let l = exact-by box state fit sizes width es ew (ports_in box) refl ws e in
        omega arith

    pub change-is : (form : Form) (new : List ℕ)
        → new ≡ splice at state.words (words_of w (merge (has (take w form.mask)) (has (take w form.value)) (has (take w (drop at state.words)))))
        → state_of new ≡ changed_by box state position set form
    unfolding changed_by with_set place_in width_in set_place
    change-is form new e = ap state_of (e ∙ rw (ea, en, ew, es))

pub ruleset change-laws = (few-by, apply-width, apply-room, change-is)

-- a plan carried out
module _ (box : Box) (state : State) (m : List ℕ) (request : Request) (p : Plan) (P Q : List ℕ) (r : Answer) where
  pub carry-get : (target : Target) → p ≡ Pl.Get target → Responds (response_of Done request.next (get_bytes box state m request target)) P Q r
      → Performs (plan_outcome p box state m request) P Q state r
  carry-get target e s = rw e (unchanged-performs _ P Q state r s)

  pub carry-dump : (flags : ℕ) → p ≡ Pl.Dump flags → Responds (dump_response box state request flags) P Q r → Performs (plan_outcome p box state m request) P Q state r
  carry-dump flags e s = rw e (unchanged-performs _ P Q state r s)

  pub carry-set : (position nest : ℕ) (form : Form) (new : State) → p ≡ Pl.Set position nest form → new ≡ changed_by box state position request.command.set form
      → Responds (response_of Done request.next (ack_bytes m request.header)) P Q r → Performs (plan_outcome p box state m request) P Q new r
  carry-set position nest form new i e s = rw i (record { response = s; state-is = e })

pub ruleset carry-laws = (carry-get, carry-dump, carry-set)
