-- The letter of a class. A byte is its ASCII code.
use Rattle.std.specs.Prelude.{ℕ, List, [], ◌∷◌}
use Rattle.filters.specs.declared.rows.Class.{Class}
use Rattle.filters.specs.declared.rows.Class.TheVariants.{Exclusive, NonExclusive}

-- e for exclusive, n for non-exclusive
abbrev pub class_text : Class → List ℕ
class_text Exclusive = 101 ∷ []
class_text NonExclusive = 110 ∷ []
