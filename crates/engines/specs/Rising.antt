-- At most two labels, in rising order.
use Rattle.std.specs.Prelude.{ℕ, min, max, List, [], ◌∷◌, Some, None, Option}

abbrev pub rising : Option ℕ → Option ℕ → List ℕ
rising None None = []
rising None (Some b) = b ∷ []
rising (Some a) None = a ∷ []
rising (Some a) (Some b) = min a b ∷ max a b ∷ []
