-- Answers: all that a call answers but the label that inspect names, which is free to choose.
use Rattle.std.specs.Prelude.{ℕ, List, length, Option, Result}
use Rattle.std.specs.Option.{option_map}
use Rattle.fields.specs.declared.faults.Fault.{Fault}
use Rattle.fields.specs.Faults.{answer as answer_or_fault}
use Rattle.filters.specs.declared.rows.FilterRow.{FilterRow}
use Rattle.filters.specs.declared.calls.Best.{Best}
use Rattle.filters.specs.declared.calls.Call.{Call}
use Rattle.filters.specs.declared.calls.Call.TheVariants.{Add, Remove, Inspect, Search}
use Rattle.filters.specs.declared.calls.Answer.{Answer}
use Rattle.filters.specs.declared.calls.Answer.TheVariants.{Added, Removed, Inspected, Found}
use Rattle.filters.specs.Standing.{refusal}
use Rattle.filters.specs.Scans.{best, told, listed}
use Rattle.filters.specs.Labels.{new_field_labels, new_node_labels, freed_field_labels, freed_node_labels, label_count, pairs}

-- an answer without the label of inspect
pub data Reply : Type 0 where
  added : ℕ → ℕ → Reply
  removed : ℕ → ℕ → Reply
  counted : ℕ → Reply
  searched : Option Best → ℕ → ℕ → Reply

abbrev pub reply : Answer → Reply
reply (Added n m) = added n m
reply (Removed n m) = removed n m
reply (Inspected l n) = counted n
reply (Found b n m) = searched b n m

-- what a call replies that is not refused
abbrev pub replies : List ℕ → List FilterRow → Call → Reply
replies order fs (Add f) = added (new_field_labels f fs) (new_node_labels order f fs)
replies order fs (Remove id) = removed (freed_field_labels id fs) (freed_node_labels order id fs)
replies order fs (Inspect id p) = counted (label_count order id p fs)
replies order fs (Search h r room) = searched (option_map told (best fs h)) (length (listed fs h r)) (pairs order h fs)

abbrev pub answer : List ℕ → List FilterRow → Call → Result Reply Fault
answer order fs call = answer_or_fault (refusal fs call) (replies order fs call)
