-- Pairs of labels found: what a node asks its store.
use Rattle.std.specs.Prelude.{◌≡◌, ℕ, ◌*◌, Bool, ◌&&◌, List, [], ◌∷◌, ◌++◌, length, count_by, Option, nat_eq}
use Rattle.parts.specs.Meaning.{Meaning}
use Rattle.parts.specs.Marks.{mark_found, labels_of}
use Rattle.parts.specs.Asked.{Questioned}
use Rattle.stores.specs.declared.pairs.Pair.{Pair}
use Rattle.stores.specs.Pairs.{pair, same_pair}
use Rattle.labelling.specs.Boards.{member}

-- a left label with each right label, and all left labels with all right labels
abbrev pub row : ℕ → List ℕ → List Pair
row a [] = []
row a (b ∷ bs) = pair a b ∷ row a bs

abbrev pub product : List ℕ → List ℕ → List Pair
product [] bs = []
product (a ∷ ls) bs = row a bs ++ product ls bs

-- how often a label, and a pair, stands in a list
abbrev pub times : ℕ → List ℕ → ℕ
times n ls = count_by (λ x. nat_eq x n) ls

abbrev pub pair_times : Pair → List Pair → ℕ
pair_times p ps = count_by (λ q. same_pair q p) ps

-- the list asks each pair as often as its left and its right label were found: once where each was found once, and no other pair
abbrev pub EachPair : List ℕ → List ℕ → List Pair → Type 0
EachPair ls rs ps = (p : Pair) → pair_times p ps ≡ times p.left ls * times p.right rs

-- both labels of a pair were found
abbrev pub both_found : List ℕ → List ℕ → Pair → Bool
both_found ls rs p = member p.left ls && member p.right rs

-- the marks after pairs were asked one after another
abbrev pub marks_after : (Pair → Option ℕ) → List Bool → List Pair → List Bool
marks_after φ ms [] = ms
marks_after φ ms (p ∷ ps) = marks_after φ (mark_found ms (φ p)) ps

-- a store was asked every pair of a left and a right label: which labels were found, and how many pairs were asked
pub record Crossed {P : Type 0} (shows : P → Meaning Pair → Type 0) (agrees : P → List Pair → Type 0) (entry exit : P) (m : Meaning Pair) (ls rs found : List ℕ) (asked : ℕ) : Type 0 where
  pub questioned : Questioned shows agrees entry exit m (product ls rs)
  pub each_pair : EachPair ls rs (product ls rs)
  pub labels_found : found ≡ labels_of (both_found ls rs) m.places
  pub pairs_asked : asked ≡ length ls * length rs
