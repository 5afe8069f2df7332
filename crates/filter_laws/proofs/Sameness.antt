-- Comparing values and rows decides whether they are the same.
use Rattle.std.proofs.Common.{◌≡◌, List, [], ◌∷◌, Decides, arith}
use Rattle.std.proofs.lemmas.Bool.Decides.{nat_tests, Decides-and, Decides-like}
use Rattle.filters.specs.Values.{Value, same_value, same_row}

pub value_decides : (v w : Value) → Decides (same_value v w) (v ≡ w)
value_decides v w = grind (arith, nat_tests)

pub row_decides : (vs ws : List Value) → Decides (same_row vs ws) (vs ≡ ws)
row_decides [] [] = grind arith
row_decides [] (w ∷ ws) = grind arith
row_decides (v ∷ vs) [] = grind arith
row_decides (v ∷ vs) (w ∷ ws) = Decides-like _ (λ h. λ i. h.0 i ∷ h.1 i) (λ e. (cc, cc)) (Decides-and _ _ (value_decides v w) (row_decides vs ws))
