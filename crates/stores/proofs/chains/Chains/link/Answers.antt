use Rattle.std.proofs.Common.{◌≡◌, ℕ, List, get_or, set, Some, None, Option, sym, ap, ◌∙◌, subst}
use Rattle.stores.specs.Chains.{Chained}
use Rattle.stores.proofs.Chaining.{linked}
use Rattle.stores.proofs.chains.Chains.link.Goals as goal

pub returns-clause-chained : goal.returns-clause-chained
returns-clause-chained c keys h kb pb free =
    let hs = c.args.self.now.heads in
    let ns = c.args.self.now.nexts in
    let k = c.args.key in
    let p = c.args.place in
    let ns-is : c.put_at.new.list ≡ set ns p (get_or hs k None) = c.put_at.ensures ∙ ap (λ (o : Option ℕ). set ns p o) c.entry_at-first.ensures in
    subst (λ (xs : List (Option ℕ)). Chained xs c.put_at.new.list (set keys p (Some k))) (sym c.put_at-2.ensures)
    (subst (λ (xs : List (Option ℕ)). Chained (set hs k (Some p)) xs (set keys p (Some k))) (sym ns-is) (linked hs ns keys k p h kb pb free))
