-- Refusals. Each has a number and a detail, and every promise about a refusal speaks of these two.
use Rattle.std.specs.Prelude.{ℕ, Bool, cond, List, [], ◌∷◌, ◌++◌, Some, None, Ok, Err, Option, Result, decimal}
use Rattle.fields.specs.declared.faults.Fault.{Fault}
use Rattle.fields.specs.declared.faults.Fault.TheVariants.{Line, Identifier, Prefix, Range, Flags, Order, Limit, Answers, Place, Label, Full, Elsewhere, Vacant, Short, Stands, Unknown, Twin, Crowded}

-- the number of each refusal
abbrev pub number : Fault → ℕ
number Line = 1
number Identifier = 2
number (Prefix d) = 3
number (Range d) = 4
number (Flags d) = 5
number (Order d) = 6
number (Limit d) = 7
number (Answers d) = 8
number (Place d) = 9
number (Label d) = 10
number (Full d) = 11
number (Elsewhere d) = 12
number (Vacant d) = 13
number (Short d) = 14
number (Stands d) = 15
number (Unknown d) = 16
number (Twin d) = 17
number Crowded = 18

-- the detail that goes with it
abbrev pub detail : Fault → ℕ
detail Line = 0
detail Identifier = 0
detail (Prefix d) = d
detail (Range d) = d
detail (Flags d) = d
detail (Order d) = d
detail (Limit d) = d
detail (Answers d) = d
detail (Place d) = d
detail (Label d) = d
detail (Full d) = d
detail (Elsewhere d) = d
detail (Vacant d) = d
detail (Short d) = d
detail (Stands d) = d
detail (Unknown d) = d
detail (Twin d) = d
detail Crowded = 96

-- a refusal as text: its number, a space and its detail
abbrev pub fault_text : Fault → List ℕ
fault_text f = decimal (number f) ++ 32 ∷ decimal (detail f)

-- a check: the fault, if the test tells of it
abbrev pub when : Bool → Fault → Option Fault
when b f = cond b (Some f) None

-- checks in their order: the first fault refuses
abbrev pub first_fault : List (Option Fault) → Option Fault
first_fault [] = None
first_fault (None ∷ fs) = first_fault fs
first_fault (Some f ∷ fs) = Some f

-- what a call answers: a, unless a fault refuses it
abbrev pub answer : {A : Type 0} → Option Fault → A → Result A Fault
answer None a = Ok a
answer (Some f) a = Err f

-- what a call leaves: b, unless a fault refuses it, and then a, as it was
abbrev pub unless : {A : Type 0} → Option Fault → A → A → A
unless None a b = b
unless (Some f) a b = a

-- an answer, seen through f
abbrev pub answer_by : {A B : Type 0} → (A → B) → Result A Fault → Result B Fault
answer_by f (Ok a) = Ok (f a)
answer_by f (Err e) = Err e
