-- Network orders: the fields in the order in which the nodes of the network combine them, each field once.
use Rattle.std.specs.Prelude.{◌≡◌, ℕ, ◌+◌, ◌-◌, ◌≤◌, Bool, cond, not, ◌&&◌, List, [], ◌∷◌, ◌++◌, Some, None, Option, ◌==◌, nat_le, slice_index}
use Rattle.std.specs.List.{list_any}
use Rattle.fields.specs.declared.faults.Fault.{Fault}
use Rattle.fields.specs.declared.faults.Fault.TheVariants.{Order}

-- how many fields a filter has
abbrev pub field_count : ℕ
field_count = 6

-- fields are counted from 1
abbrev pub is_field : ℕ → ℕ → Bool
is_field m n = nat_le 1 n && nat_le n m

abbrev pub has : ℕ → List ℕ → Bool
has n xs = list_any (λ x. x == n) xs

-- how often n stands in a list
abbrev pub times : ℕ → List ℕ → ℕ
times n [] = 0
times n (x ∷ xs) = cond (n == x) 1 0 + times n xs

-- the list names each of m fields exactly once
abbrev pub EachOnce : ℕ → List ℕ → Type 0
EachOnce m xs = (k : ℕ) → 1 ≤ k → k ≤ m → times k xs ≡ 1

-- the first position, counting on from p, whose number is no field or stands among those before it
abbrev pub first_wrong : ℕ → List ℕ → ℕ → List ℕ → Option ℕ
first_wrong m before p [] = None
first_wrong m before p (x ∷ xs) = cond (is_field m x && not (has x before)) (first_wrong m (before ++ x ∷ []) (p + 1) xs) (Some p)

abbrev pub wrong_position : Option ℕ → Option Fault
wrong_position None = None
wrong_position (Some p) = Some (Order p)

abbrev pub order_fault : List ℕ → Option Fault
order_fault xs = wrong_position (first_wrong field_count [] 1 xs)

-- the field at a position, 1 and on
abbrev pub field_at : List ℕ → ℕ → Option ℕ
field_at xs p = cond (is_field field_count p) (Some (slice_index xs (p - 1))) None
