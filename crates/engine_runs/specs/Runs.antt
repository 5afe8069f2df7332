-- What an engine answers, call by call: told by its meaning alone.
use Rattle.std.specs.Prelude.{ℕ, Bool, List, [], ◌∷◌, ◌++◌, length, replicate, Ok}
use Rattle.fields.specs.Faults.{answer}
use Rattle.parts.specs.Meaning.{Meaning, nothing, place_count, set_fault, after_set, cleared, after_clear, asked_once}
use Rattle.parts.specs.Marks.{labels_of, over_start}
use Rattle.engine_runs.specs.declared.calls.Call.{Call}
use Rattle.engine_runs.specs.declared.calls.Call.TheVariants as call
use Rattle.engine_runs.specs.declared.calls.Answer.{Answer}
use Rattle.engine_runs.specs.declared.calls.Answer.TheVariants as told

-- what a kind of value is asked: whether two values are the same, which labels one names, and whether a number satisfies it
pub record Tests (V : Type 0) : Type 0 where
  pub eq : V → V → Bool
  pub labels : V → List ℕ
  pub satisfied : V → ℕ → Bool

abbrev pub tests : {V : Type 0} → (V → V → Bool) → (V → List ℕ) → (V → ℕ → Bool) → Tests V
tests e ls s = record { eq = e; labels = ls; satisfied = s }

-- the answer to a call, and the meaning after it
abbrev pub answers : {V : Type 0} → Tests V → Meaning V → Call V → Answer V
answers k m call.Empty = told.Emptied
answers k m (call.Set l v) = told.Set (answer (set_fault k.eq k.labels m.places l v) tt)
answers k m (call.Clear l) = told.Cleared (cleared m.places l)
answers k m (call.Match n) = told.Matched (Ok (length (labels_of (λ v. k.satisfied v n) m.places))) (over_start (labels_of (λ v. k.satisfied v n) m.places) (replicate place_count 0))

abbrev pub after : {V : Type 0} → Tests V → Meaning V → Call V → Meaning V
after k m call.Empty = nothing
after k m (call.Set l v) = after_set k.eq k.labels m l v
after k m (call.Clear l) = after_clear m l
after k m (call.Match n) = asked_once m

-- the numbers asked since the engine was emptied last
abbrev pub asked_after : {V : Type 0} → List ℕ → Call V → List ℕ
asked_after ns call.Empty = []
asked_after ns (call.Set l v) = ns
asked_after ns (call.Clear l) = ns
asked_after ns (call.Match n) = ns ++ n ∷ []

-- over a list of calls
abbrev pub run_answers : {V : Type 0} → Tests V → Meaning V → List (Call V) → List (Answer V)
run_answers k m [] = []
run_answers k m (c ∷ cs) = answers k m c ∷ run_answers k (after k m c) cs

abbrev pub run_after : {V : Type 0} → Tests V → Meaning V → List (Call V) → Meaning V
run_after k m [] = m
run_after k m (c ∷ cs) = run_after k (after k m c) cs

abbrev pub run_asked : {V : Type 0} → List ℕ → List (Call V) → List ℕ
run_asked ns [] = ns
run_asked ns (c ∷ cs) = run_asked (asked_after ns c) cs
