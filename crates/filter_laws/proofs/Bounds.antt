-- How many labels a call reports.
use Rattle.std.proofs.Common.{◌≡◌, ℕ, zero, suc, ◌+◌, ◌-◌, ◌≤◌, Bool, true, false, cond, eqb, List, [], ◌∷◌, ◌++◌, map, length, IfOk, Some, None, Option, sym, refl, ap, ◌∙◌, subst, ⊎_elim, arith}
use Rattle.std.specs.List.{AllByRecursion}
use Rattle.std.proofs.ByRecursion.{All-weaker}
use Rattle.std.proofs.lemmas.List.{take_all, map_push}
use Rattle.std.proofs.lemmas.Bool.{cases_Bool, eqb-true, or_from}
use Rattle.fields.specs.declared.faults.Fault.{Fault}
use Rattle.fields.specs.Faults.{answer as answer_or_fault}
use Rattle.fields.specs.Orders.{field_count, times, EachOnce}
use Rattle.filters.specs.declared.rows.FilterRow.{FilterRow}
use Rattle.filters.specs.declared.calls.Call.{Call}
use Rattle.filters.specs.declared.calls.Call.TheVariants.{Add, Remove, Inspect, Search}
use Rattle.filters.specs.Counting.{Pairwise, some, total, up_to}
use Rattle.filters.specs.Values.{Value, same_row}
use Rattle.filters.specs.Filters.{values, field, row, same_values, same_identifier}
use Rattle.filters.specs.Standing.{node_count, refusal, without, standing}
use Rattle.filters.specs.Labels.{fields, nodes, node_fields, rows, alone, if_any, of_identifier, new_field_labels, new_node_labels}
use Rattle.filters.specs.Answers.{Reply, replies}
use Rattle.filters.proofs.Checks.{accepted_add, accepted_removal}
use Rattle.filter_laws.specs.Histories.{Ordered}
use Rattle.filter_laws.specs.Runs.{InBounds, Bounded}
use Rattle.filter_laws.proofs.Sameness.{row_decides}
use Rattle.filter_laws.proofs.Edits.{untwinned}
use Rattle.filter_laws.proofs.Ordering.{same_turned, ordered_standing}
use Rattle.filter_laws.proofs.Balance.{Grown, here, there, without_grown}

-- at most one label at each place
alone_le : (f : FilterRow) (fs : List FilterRow) (kss : List (List ℕ)) → total (alone f fs) kss ≤ length kss
alone_le f fs [] = omega arith
alone_le f fs (ks ∷ kss) = grind (arith, alone_le f fs kss)

total_last : (n : List ℕ → ℕ) (g : ℕ → List ℕ) (xs : List ℕ) (x : ℕ) → n (g x) ≤ total n (map g (xs ++ x ∷ []))
total_last n g [] x = omega arith
total_last n g (y ∷ xs) x = grind (arith, total_last n g xs x)

-- the last node combines all fields, so a row there is all values
module _ (f g : FilterRow) where
  agree : (ks : List ℕ) → row ks f ≡ row ks g → (k : ℕ) → 1 ≤ times k ks → field f k ≡ field g k
  agree [] e k h = absurd (omega arith)
  agree (x ∷ ks) e k h =
      let head : field f x ≡ field g x = cc in
      let tail : row ks f ≡ row ks g = cc in
      ⊎_elim (λ t. subst (λ (j : ℕ). field f j ≡ field g j) (sym (eqb-true k x t)) head)
      (λ t. let z = ap (λ (b : Bool). cond {A = ℕ} b 1 0) t in agree ks tail k (omega arith)) (cases_Bool (eqb k x))

  rebuilt : (n : ℕ) → ((k : ℕ) → 1 ≤ k → k ≤ n → field f k ≡ field g k) → row (up_to n) f ≡ row (up_to n) g
  rebuilt zero h = refl
  rebuilt (suc n) h =
      map_push (field f) (up_to n) (suc n)
      ∙ ap (λ (vs : List Value). vs ++ field f (suc n) ∷ []) (rebuilt n (λ k low high. h k low (omega arith)))
      ∙ ap (λ (v : Value). row (up_to n) g ++ v ∷ []) (h (suc n) (omega arith) (omega arith))
      ∙ sym (map_push (field g) (up_to n) (suc n))

  same_from_row : (order : List ℕ) → EachOnce field_count order → row order f ≡ row order g → same_values f g ≡ true
  same_from_row order once e =
      let all : values f ≡ values g = rebuilt field_count (λ k low high. agree order e k (let t = once k low high in omega arith)) in
      (row_decides (values f) (values g)).1 all

none_same : (order : List ℕ) → EachOnce field_count order → (f : FilterRow) (fs : List FilterRow) → AllByRecursion (λ g. same_values f g ≡ true → ⊥) fs → some (same_row (row order f)) (rows order fs) ≡ false
none_same order once f [] h = refl
none_same order once f (g ∷ gs) h =
    or_from (same_row (row order f) (row order g)) (some (same_row (row order f)) (rows order gs))
    (⊎_elim (λ t. absurd (h.0 (same_from_row f g order once ((row_decides (row order f) (row order g)).0 t)))) (λ t. t) (cases_Bool (same_row (row order f) (row order g))))
    (none_same order once f gs h.1)

in_bounds : (order : List ℕ) → length order ≡ field_count → EachOnce field_count order → (f : FilterRow) (fs : List FilterRow) → AllByRecursion (λ g. same_values f g ≡ true → ⊥) fs → (new_field_labels f fs ≤ field_count) × (1 ≤ new_node_labels order f fs) × (new_node_labels order f fs ≤ node_count)
in_bounds order size once f fs apart =
    let last : alone f fs (node_fields order node_count) ≡ 1 = ap (alone f fs) (take_all (node_count + 1) order (omega arith)) ∙ ap (λ (b : Bool). cond {A = ℕ} b 0 1) (none_same order once f fs apart) in
    let low : alone f fs (node_fields order node_count) ≤ new_node_labels order f fs = total_last (alone f fs) (node_fields order) (up_to (node_count - 1)) node_count in
    (alone_le f fs fields, omega arith, alone_le f fs (nodes order))

-- a filter that is taken out has other values than those that are left
grown_all : (P : FilterRow → Type 0) (f : FilterRow) {xs ys : List FilterRow} → Grown f xs ys → AllByRecursion P ys → P f
grown_all P f (here xs) h = h.0
grown_all P f (there y xs ys g) h = grown_all P f g h.1

grown_apart : (R : FilterRow → FilterRow → Type 0) → ((x y : FilterRow) → R x y → R y x) → (f : FilterRow) {xs ys : List FilterRow} → Grown f xs ys → Pairwise R ys → AllByRecursion (R f) xs
grown_apart R turned f (here xs) h = h.0
grown_apart R turned f (there y xs ys g) h = (turned y f (grown_all (R y) f g h.0), grown_apart R turned f g h.1)

found : (id : ℕ) (fs : List FilterRow) → some (same_identifier id) fs ≡ true → of_identifier id fs ≡ None → ⊥
found id [] h n = grind arith
found id (g ∷ gs) h n = grind (arith, found id gs)

made_from : (o : Option Fault) (r : Reply) → (o ≡ None → InBounds r) → IfOk (answer_or_fault o r) InBounds
made_from None r h = h refl
made_from (Some e) r h = tt

removal_bounds : (order : List ℕ) → length order ≡ field_count → EachOnce field_count order → (id : ℕ) (fs : List FilterRow) → Ordered fs → (o : Option FilterRow) → of_identifier id fs ≡ o → (o ≡ None → ⊥)
    → (if_any (λ f. new_field_labels f (without id fs)) o ≤ field_count) × (1 ≤ if_any (λ f. new_node_labels order f (without id fs)) o) × (if_any (λ f. new_node_labels order f (without id fs)) o ≤ node_count)
removal_bounds order size once id fs ordered None e some' = absurd (some' refl)
removal_bounds order size once id fs ordered (Some f) e some' =
    in_bounds order size once f (without id fs)
    (grown_apart (λ x y. same_values x y ≡ true → ⊥) (λ x y ne h. ne (same_turned y x h)) f (without_grown id f fs e) ordered.rows)

pub bounded : (calls : List Call) (call : Call) → Bounded calls call
bounded calls (Add f) order size once =
    made_from (refusal (standing calls) (Add f)) (replies order (standing calls) (Add f))
    (λ ok. in_bounds order size once f (standing calls)
    (All-weaker (λ g. same_values g f ≡ true → ⊥) (λ g. same_values f g ≡ true → ⊥) (λ g ne h. ne (same_turned f g h)) (standing calls) (untwinned f (standing calls) (accepted_add (standing calls) f ok).no_twin)))
bounded calls (Remove id) order size once =
    made_from (refusal (standing calls) (Remove id)) (replies order (standing calls) (Remove id))
    (λ ok. removal_bounds order size once id (standing calls) (ordered_standing calls) (of_identifier id (standing calls)) refl (found id (standing calls) (accepted_removal (standing calls) id ok)))
bounded calls (Inspect id p) order size once = made_from (refusal (standing calls) (Inspect id p)) (replies order (standing calls) (Inspect id p)) (λ _. tt)
bounded calls (Search h r room) order size once = made_from (refusal (standing calls) (Search h r room)) (replies order (standing calls) (Search h r room)) (λ _. tt)
