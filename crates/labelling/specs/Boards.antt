-- Boards: a label table beside the part that is told of it, an engine at a field and a store at a node.
use Rattle.std.specs.Prelude.{ℕ, ◌≤◌, Bool, true, false, cond, List, [], ◌∷◌, Option, ◌==◌, slice_index}
use Rattle.labels.specs.declared.table.Used.{Used}
use Rattle.labels.specs.Labels.{Standing, Labelled, keys}
use Rattle.parts.specs.Meaning.{Meaning, meaning}

-- the table labels the keys of the standing filters, and the part holds exactly the keys in use, at their labels
pub record Stands {V P : Type 0} (eq : V → V → Bool) (shows : P → Meaning V → Type 0) (slots : List (Option (Used V))) (part : P) (fs : List (Standing V)) (asked : ℕ) : Type 0 where
  pub labelled : Labelled eq slots fs
  pub shown : shows part (meaning (keys slots) asked)

-- each is a label that a place can have
abbrev pub Labels : List ℕ → Type 0
Labels ls = (i : ℕ) → slice_index ls i ≤ 95

-- whether a label is in a list of labels found
abbrev pub member : ℕ → List ℕ → Bool
member n [] = false
member n (x ∷ xs) = cond (x == n) true (member n xs)
