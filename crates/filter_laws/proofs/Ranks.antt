-- Rank is a strict order, total on filters of different identifiers.
use Rattle.std.proofs.Common.{◌≡◌, true, false, List, arith}
use Rattle.std.proofs.lemmas.Bool.Decides.{nat_tests}
use Rattle.filters.specs.declared.rows.FilterRow.{FilterRow}
use Rattle.filters.specs.Counting.{Pairwise}
use Rattle.filters.specs.Filters.{ranks_ahead}

abbrev pub Ranked : List FilterRow → Type 0
Ranked fs = Pairwise (λ f g. ranks_ahead f g ≡ true) fs

pub ahead_irreflexive : (f : FilterRow) → ranks_ahead f f ≡ false
ahead_irreflexive f = grind (arith, nat_tests)

pub ahead_asymmetric : (f g : FilterRow) → ranks_ahead f g ≡ true → ranks_ahead g f ≡ false
ahead_asymmetric f g h = grind (arith, nat_tests)

pub ahead_transitive : (f g h : FilterRow) → ranks_ahead f g ≡ true → ranks_ahead g h ≡ true → ranks_ahead f h ≡ true
ahead_transitive f g h p q = grind (arith, nat_tests)

pub ahead_total : (f g : FilterRow) → (f.identifier ≡ g.identifier → ⊥) → ranks_ahead f g ≡ false → ranks_ahead g f ≡ true
ahead_total f g ne h = grind (arith, nat_tests)
