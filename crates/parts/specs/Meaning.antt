-- What an engine or a store means: 96 places, labelled 0 to 95, each empty or holding one value, and how often it was asked.
use Rattle.std.specs.Prelude.{◌≡◌, ℕ, ◌+◌, ◌%◌, ◌^◌, ◌<◌, Bool, true, false, cond, List, [], ◌∷◌, length, replicate, Some, None, Ok, Err, Option, Result, nat_lt, slice_index_or, slice_set}
use Rattle.fields.specs.declared.faults.Fault.{Fault}
use Rattle.fields.specs.declared.faults.Fault.TheVariants.{Label, Full, Elsewhere, Vacant, Short}
use Rattle.fields.specs.Faults.{when, first_fault, unless}

abbrev pub place_count : ℕ
place_count = 96

-- the value at a label is what its place holds; the asked number is counted modulo 2 ^ 32
pub record Meaning (V : Type 0) : Type 0 where
  pub places : List (Option V)
  pub asked : ℕ

abbrev pub meaning : {V : Type 0} → List (Option V) → ℕ → Meaning V
meaning xs n = record { places = xs; asked = n }

-- no value is at two places
abbrev pub Single : {V : Type 0} → List (Option V) → Type 0
Single {V} xs = (i j : ℕ) (v : V) → slice_index_or xs i None ≡ Some v → slice_index_or xs j None ≡ Some v → i ≡ j

-- what every meaning that a part shows is like
pub record Proper {V : Type 0} (m : Meaning V) : Type 0 where
  pub size : length m.places ≡ place_count
  pub single : Single m.places
  pub counted : m.asked < 2 ^ 32

-- after empty
abbrev pub nothing : {V : Type 0} → Meaning V
nothing = meaning (replicate place_count None) 0

-- whether a place holds v
abbrev pub at : {V : Type 0} → (V → V → Bool) → V → Option V → Bool
at eq v None = false
at eq v (Some w) = eq v w

-- the label at which v is held, counting on from i
abbrev pub find_from : {V : Type 0} → (V → V → Bool) → V → ℕ → List (Option V) → Option ℕ
find_from eq v i [] = None
find_from eq v i (x ∷ xs) = cond (at eq v x) (Some i) (find_from eq v (i + 1) xs)

abbrev pub find : {V : Type 0} → (V → V → Bool) → List (Option V) → V → Option ℕ
find eq xs v = find_from eq v 0 xs

abbrev pub full : {V : Type 0} → Option V → Bool
full None = false
full (Some v) = true

-- the first label above 95, of those that a call was handed
abbrev pub label_fault : List ℕ → Option Fault
label_fault [] = None
label_fault (l ∷ ls) = cond (nat_lt 95 l) (Some (Label l)) (label_fault ls)

abbrev pub elsewhere : Option ℕ → Option Fault
elsewhere None = None
elsewhere (Some l) = Some (Elsewhere l)

-- why a value is not set at a place: a label above 95, the place first; the place is full; another place holds the value
abbrev pub set_fault : {V : Type 0} → (V → V → Bool) → (V → List ℕ) → List (Option V) → ℕ → V → Option Fault
set_fault eq labels xs l v = first_fault (label_fault (l ∷ labels v) ∷ when (full (slice_index_or xs l None)) (Full l) ∷ elsewhere (find eq xs v) ∷ [])

-- what clear answers: the value that the place held; refused if there is no such place, or it holds none
abbrev pub taken : {V : Type 0} → ℕ → Option V → Result V Fault
taken l None = Err (Vacant l)
taken l (Some v) = Ok v

abbrev pub cleared : {V : Type 0} → List (Option V) → ℕ → Result V Fault
cleared xs l = cond (nat_lt 95 l) (Err (Label l)) (taken l (slice_index_or xs l None))

-- v put at a place; past the last place this changes nothing
abbrev pub put : {V : Type 0} → Meaning V → ℕ → Option V → Meaning V
put m l v = meaning (slice_set m.places l v) m.asked

abbrev pub after_set : {V : Type 0} → (V → V → Bool) → (V → List ℕ) → Meaning V → ℕ → V → Meaning V
after_set eq labels m l v = unless (set_fault eq labels m.places l v) m (put m l (Some v))

-- an empty place stays empty
abbrev pub after_clear : {V : Type 0} → Meaning V → ℕ → Meaning V
after_clear m l = put m l None

-- one question more
abbrev pub asked_once : {V : Type 0} → Meaning V → Meaning V
asked_once m = meaning m.places ((m.asked + 1) % 2 ^ 32)

-- a caller's list of labels has room for all of them
abbrev pub list_fault : ℕ → Option Fault
list_fault n = when (nat_lt n place_count) (Short n)
