-- Two pairs are the same exactly if both their labels are.
use Rattle.std.specs.Prelude.{◌≡◌, Decides}
use Rattle.std.proofs.Common.{ap}
use Rattle.std.proofs.lemmas.Bool.Decides.{Decides-and, Decides-eqb, Decides-like}
use Rattle.stores.specs.declared.pairs.Pair.{Pair}
use Rattle.stores.specs.Pairs.{same_pair}

pub pair_decides : (a b : Pair) → Decides (same_pair a b) (a ≡ b)
pair_decides a b =
    Decides-like _ (λ h i. record { left = h.0 i; right = h.1 i })
    (λ e. (ap (λ (p : Pair). p.left) e, ap (λ (p : Pair). p.right) e))
    (Decides-and _ _ (Decides-eqb a.left b.left) (Decides-eqb a.right b.right))
