-- Pairs of labels: what a node combines.
use Rattle.std.specs.Prelude.{ℕ, ◌+◌, ◌*◌, ◌<◌, Bool, ◌&&◌, List, [], ◌∷◌, ◌==◌}
use Rattle.stores.specs.declared.pairs.Pair.{Pair}

abbrev pub pair : ℕ → ℕ → Pair
pair a b = record { left = a; right = b }

abbrev pub same_pair : Pair → Pair → Bool
same_pair p q = p.left == q.left && p.right == q.right

-- a pair names its two labels, left before right
abbrev pub pair_labels : Pair → List ℕ
pair_labels p = p.left ∷ p.right ∷ []

-- both labels are labels of places
abbrev pub Within : Pair → Type 0
Within p = (p.left < 96) × (p.right < 96)

-- the pair as one number; pairs of labels below 96 have different codes
abbrev pub code : Pair → ℕ
code p = 96 * p.left + p.right
