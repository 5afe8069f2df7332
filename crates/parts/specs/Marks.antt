-- Labels found are marked, one mark for each place, and the marked ones are written, rising, from the start of a list.
use Rattle.std.specs.Prelude.{◌≡◌, ℕ, ◌+◌, ◌<◌, Bool, true, false, cond, List, [], ◌∷◌, ◌++◌, map, length, drop, Some, None, Option, slice_index, slice_index_or, slice_set}
use Rattle.std.specs.List.{ContainsAt as Has}

-- the labels that are marked, the first place counting as i
abbrev pub marked_from : ℕ → List Bool → List ℕ
marked_from i [] = []
marked_from i (m ∷ ms) = cond m (i ∷ marked_from (i + 1) ms) (marked_from (i + 1) ms)

abbrev pub marked : List Bool → List ℕ
marked ms = marked_from 0 ms

-- the same said as a relation: rising, so each once, and a label is listed exactly if it is marked
pub record ListsMarked (ms : List Bool) (ls : List ℕ) : Type 0 where
  pub rising : (i j : ℕ) → i < j → j < length ls → slice_index ls i < slice_index ls j
  pub only : (l : ℕ) → Has ls l → slice_index_or ms l false ≡ true
  pub all : (l : ℕ) → slice_index_or ms l false ≡ true → Has ls l

-- a place that holds a value which passes a test
abbrev pub hit : {V : Type 0} → (V → Bool) → Option V → Bool
hit p None = false
hit p (Some v) = p v

-- the labels of the values that pass a test, rising
abbrev pub labels_of : {V : Type 0} → (V → Bool) → List (Option V) → List ℕ
labels_of p xs = marked (map (hit p) xs)

-- a list with ls written from its start
abbrev pub over_start : List ℕ → List ℕ → List ℕ
over_start ls xs = ls ++ drop (length ls) xs

-- one label more that was found
abbrev pub mark_found : List Bool → Option ℕ → List Bool
mark_found ms None = ms
mark_found ms (Some l) = slice_set ms l true
