-- Keys: what a table is keyed by, a field's value or a pair of labels. Two keys are one exactly if they are the same.
use Rattle.std.specs.Prelude.{◌≡◌, Bool, Decides}

-- what the code tests by `==` is the equality of the definitions, and it tells any two keys apart
pub record KeyLaws {K : Type 0} (tested same : K → K → Bool) : Type 0 where
  pub is_same : (a b : K) → tested a b ≡ same a b
  pub decides : (a b : K) → Decides (same a b) (a ≡ b)
