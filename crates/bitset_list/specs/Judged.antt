-- No promise rests on this file: it is what judge_bits answers for the BITs of a list.
use Rattle.std.specs.Prelude.{Result, Ok, Err}
use Rattle.bits.specs.Set.{words_of}
use Rattle.bits.specs.Change.{list_mask, list_value}
use Rattle.refusal.specs.declared.Refusal.{Refusal}
use Rattle.bitset_form.specs.declared.Form.{Form}
use Rattle.bitset_list.specs.BitList.{ListReading}
use Rattle.bitset_list.specs.BitList.ListReading.{list_refused, list_entries}

-- the refusal, or the form of the listed bits
unfoldable pub list_judged : ListReading → Result Form Refusal
list_judged (list_refused r) = Err r
list_judged (list_entries es) = Ok (record { mask = words_of 16 (list_mask es); value = words_of 16 (list_value es) })
