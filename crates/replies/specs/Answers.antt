-- The text of an answer. A byte is its ASCII code.
use Rattle.std.specs.Prelude.{ℕ, List, [], ◌∷◌, ◌++◌, take, Some, None, Ok, Err, decimal, Option, Result}
use Rattle.fields.specs.declared.faults.Fault.{Fault}
use Rattle.fields.specs.Faults.{number, detail}
use Rattle.filters.specs.declared.calls.Best.{Best}
use Rattle.filters.specs.declared.calls.Answer.{Answer}
use Rattle.filters.specs.declared.calls.Answer.TheVariants.{Added, Removed, Inspected, Found}

-- decimals, each with a space before it
abbrev pub decimals : List ℕ → List ℕ
decimals [] = []
decimals (n ∷ ns) = 32 ∷ decimal n ++ decimals ns

-- the identifier and the flow of the best filter, and zeros where there is none
abbrev pub best_numbers : Option Best → List ℕ
best_numbers None = 0 ∷ 0 ∷ []
best_numbers (Some b) = b.identifier ∷ b.flow ∷ []

-- a sign, and the numbers of the answer: + how many labels came into use, - how many were freed, # how many filters have the
-- label, = what a search found with how many pairs it asked and the identifiers that it listed, ! a refusal
abbrev pub answer_text : Result Answer Fault → List ℕ → List ℕ
answer_text (Ok (Added fields nodes)) listed = 43 ∷ decimals (fields ∷ nodes ∷ [])
answer_text (Ok (Removed fields nodes)) listed = 45 ∷ decimals (fields ∷ nodes ∷ [])
answer_text (Ok (Inspected label count)) listed = 35 ∷ decimals (count ∷ [])
answer_text (Ok (Found best count pairs)) listed = 61 ∷ decimals (best_numbers best ++ pairs ∷ take count listed)
answer_text (Err fault) listed = 33 ∷ decimals (number fault ∷ detail fault ∷ [])
