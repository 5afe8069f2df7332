-- A part that is asked one question after another.
use Rattle.std.specs.Prelude.{◌≡◌, ℕ, ◌%◌, ◌^◌, List, [], ◌∷◌, ◌++◌, length, Ok, Err, Result}
use Rattle.parts.specs.Meaning.{Meaning, asked_once}

-- a part whose asked number this is may have been asked exactly this list of questions since it was emptied
abbrev pub Agrees : {Q : Type 0} → ℕ → List Q → Type 0
Agrees asked l = asked ≡ length l % 2 ^ 32

-- the meaning after a list of questions: the same places, and each question counted
abbrev pub after_questions : {V Q : Type 0} → Meaning V → List Q → Meaning V
after_questions m [] = m
after_questions m (q ∷ qs) = after_questions (asked_once m) qs

-- the part was asked exactly these questions, in this order
pub record Questioned {V Q P : Type 0} (shows : P → Meaning V → Type 0) (agrees : P → List Q → Type 0) (entry exit : P) (m : Meaning V) (qs : List Q) : Type 0 where
  pub shown : shows exit (after_questions m qs)
  pub lists : (l : List Q) → agrees entry l → agrees exit (l ++ qs)

-- the call is not refused, and P holds of its answer
abbrev pub Succeeds : {A E : Type 0} → Result A E → (A → Type 0) → Type 0
Succeeds (Ok a) P = P a
Succeeds (Err e) P = ⊥
