-- Runs: what the calls of a list answer one after another, and the labels that they report.
use Rattle.std.specs.Prelude.{◌≡◌, ℕ, ◌+◌, ◌≤◌, List, [], ◌∷◌, length, IfOk, Ok, Err, Result}
use Rattle.fields.specs.declared.faults.Fault.{Fault}
use Rattle.fields.specs.Orders.{field_count, EachOnce}
use Rattle.filters.specs.declared.rows.FilterRow.{FilterRow}
use Rattle.filters.specs.declared.calls.Call.{Call}
use Rattle.filters.specs.Counting.{total}
use Rattle.filters.specs.Standing.{node_count, after, standing}
use Rattle.filters.specs.Labels.{field_labels, node_labels}
use Rattle.filters.specs.Answers.{Reply, added, removed, counted, searched, answer}

-- the answers to a list of calls, where at first the filters fs stand
abbrev pub answers : List ℕ → List FilterRow → List Call → List (Result Reply Fault)
answers order fs [] = []
answers order fs (c ∷ cs) = answer order fs c ∷ answers order (after fs c) cs

-- how many labels an answer reports as new, and as freed
abbrev pub new_in_fields : Result Reply Fault → ℕ
new_in_fields (Ok (added n m)) = n
new_in_fields (Ok (removed n m)) = 0
new_in_fields (Ok (counted n)) = 0
new_in_fields (Ok (searched b n m)) = 0
new_in_fields (Err e) = 0

abbrev pub new_at_nodes : Result Reply Fault → ℕ
new_at_nodes (Ok (added n m)) = m
new_at_nodes (Ok (removed n m)) = 0
new_at_nodes (Ok (counted n)) = 0
new_at_nodes (Ok (searched b n m)) = 0
new_at_nodes (Err e) = 0

abbrev pub freed_in_fields : Result Reply Fault → ℕ
freed_in_fields (Ok (added n m)) = 0
freed_in_fields (Ok (removed n m)) = n
freed_in_fields (Ok (counted n)) = 0
freed_in_fields (Ok (searched b n m)) = 0
freed_in_fields (Err e) = 0

abbrev pub freed_at_nodes : Result Reply Fault → ℕ
freed_at_nodes (Ok (added n m)) = 0
freed_at_nodes (Ok (removed n m)) = m
freed_at_nodes (Ok (counted n)) = 0
freed_at_nodes (Ok (searched b n m)) = 0
freed_at_nodes (Err e) = 0

-- totalled over a run from nothing, the labels reported new are those reported freed and those in use at the end
pub record Balanced (order : List ℕ) (calls : List Call) : Type 0 where
  pub in_fields : total new_in_fields (answers order [] calls) ≡ total freed_in_fields (answers order [] calls) + field_labels (standing calls)
  pub at_nodes : total new_at_nodes (answers order [] calls) ≡ total freed_at_nodes (answers order [] calls) + node_labels order (standing calls)

-- how many labels an accepted call may report: of field labels at most one in each field, of combination labels at least one and at most one at each node
abbrev pub InBounds : Reply → Type 0
InBounds (added n m) = (n ≤ field_count) × (1 ≤ m) × (m ≤ node_count)
InBounds (removed n m) = (n ≤ field_count) × (1 ≤ m) × (m ≤ node_count)
InBounds (counted n) = Unit {0}
InBounds (searched b n m) = Unit {0}

-- a call after a list of calls, under an order that names each field once
abbrev pub Bounded : List Call → Call → Type 0
Bounded calls call = (order : List ℕ) → length order ≡ field_count → EachOnce field_count order → IfOk (answer order (standing calls) call) InBounds
