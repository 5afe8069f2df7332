use Rattle.std.proofs.Common.{◌≡◌, ℕ, ◌+◌, List, get_or, ap, ◌∙◌, rules}
use Rattle.trie.proofs.tree.all_below_root.Goals as goal

pub returns-clause-rising : goal.returns-clause-rising
returns-clause-rising c = λ i h.
    let call = (c.from_fn.ensures.items.at i 0 h).2 in
    let e : get_or c.from_fn.result i 0 ≡ i + 1 = search rules in
    ap (λ (xs : List ℕ). get_or xs i 0) c.from.ensures.0 ∙ e
