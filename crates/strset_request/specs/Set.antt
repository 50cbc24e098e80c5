-- Request C-13: one STRINGSET of a STRSET_GET, which asks for one name list by its id.
use Rattle.std.specs.Prelude.{ℕ, ◌-◌, List, Bool, ◌&&◌, not, cond, get_or, eqb, Result, Ok, Err}
use Rattle.netlink.specs.Walk.{absent, walked, slot_number}
use Rattle.netlink.specs.declared.walk.Slot.{Slot}
use Rattle.refusal.specs.Refusal.{on_walk}
use Rattle.refusal.specs.declared.Refusal.TheVariants.{MissingIn, NotOffered}
use Rattle.layout.specs.declared.Set.{Set}
use Rattle.layout.specs.declared.Set.TheVariants.{Debug, Flags}
use Rattle.strset_request.specs.Policies.{string_set_policy}
use Rattle.refusal.specs.declared.Refusal.{Refusal}

-- "our sets are private flags (id 2) and message classes (id 10, our debug names)"
unfoldable pub id_of : Set → ℕ
id_of Debug = 10
id_of Flags = 2

-- "24 (id not offered, or 2 without a port; 95, OFFS of the id)", of the id at a place; `named`: a port is
unfoldable pub set_of_id : ℕ → Bool → ℕ → Result Set Refusal
set_of_id id named at =
    cond (eqb id (id_of Debug)) (Ok Debug)
    (cond (eqb id (id_of Flags) && named) (Ok Flags)
    (Err (NotOffered at)))

-- a STRINGSET "needs its id": 13 with the place of that STRINGSET, then 24 by the id that counts
unfoldable pub id_judged : List ℕ → ℕ → Bool → Slot → Result Set Refusal
id_judged s nest named id =
    cond (not id.present) (Err (MissingIn 1 nest)) (set_of_id (slot_number s id) named (id.start - 4))

-- the STRINGSET whose contents are the bytes of s from a position on, "walked whole, 13, 24"
unfoldable pub set_reading : List ℕ → ℕ → Bool → Result Set Refusal
set_reading s from named = on_walk (walked string_set_policy s from) Err (λ slots. id_judged s (from - 4) named (get_or slots 1 absent))
