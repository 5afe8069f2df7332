-- All known figures together: those of values, orders and the sample of calls, and the counters that two pairs touch.
use Rattle.std.specs.Prelude.{◌≡◌, [], ◌∷◌, ℕ}
use Rattle.stores.specs.Pairs.{pair}
use Rattle.sieve.specs.Touched.{touched}
use Rattle.filter_laws.specs.Figures.{Figures}

pub record Known : Type 0 where
  pub filter_list : Figures
  pub four_counters : touched (pair 1 0) ≡ 30 ∷ 222 ∷ 242 ∷ 422 ∷ []
  pub one_counter : touched (pair 0 0) ≡ 0 ∷ []
