-- The labels found in the fields, as lists.
use Rattle.std.specs.Prelude.{ℕ, zero, suc, List, [], ◌∷◌, take}
use Rattle.labelling.specs.declared.found.Found.{Found}

-- the labels found in field j, from 0
abbrev pub found_in : List Found → ℕ → List ℕ
found_in [] j = []
found_in (f ∷ fs) zero = take f.count f.labels
found_in (f ∷ fs) (suc j) = found_in fs j
