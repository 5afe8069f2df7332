use Rattle.std.proofs.Common.{◌≡◌, ℕ, suc, ◌+◌, ◌<◌, true, List, map, sym, ap, ◌∙◌, add-one, arith, rules}
use Rattle.filters.specs.Counting.{different}
use Rattle.network.specs.Nodes.{Filed, at_node, alike, rows_in_use}
use Rattle.network.proofs.Reached.{rows_at}
use Rattle.network.proofs.network.Network.in_use.Goals as goal

rows_more : (fs : List Filed) (k total count : ℕ) → total ≡ rows_in_use fs k → count ≡ different (alike (suc k)) (λ _. true) fs → total + count ≡ rows_in_use fs (k + 1)
rows_more fs k total count e h = ap (λ (n : ℕ). n + count) e ∙ ap (λ (n : ℕ). rows_in_use fs k + n) h ∙ ap (rows_in_use fs) (sym (add-one k))

pub loop-node-preserved : goal.loop-node-preserved
loop-node-preserved g c =
    let k = c.loop-node.node-index in
    let nodes = c.args.self.now.nodes in
    let x = c.node-item.result in
    let l : k < 5 = search rules in (
      omega (arith, c.in_use-total.ensures.few),
      λ fs ns s first.
          rows_more fs k c.loop-node.total c.in_use-total.result (c.loop-node.invariant.1 fs ns s first) (c.in_use-total.ensures.each (map (at_node k) fs) (s k x l).labelled ∙ rows_at g.S.Told.shows x nodes fs ns 5 s first k l),
    )

pub returns : goal.returns
returns g c = λ fs ns s first.
    let five : c.loop-node.node-index ≡ 5 = search rules in
    c.loop-node.invariant.1 fs ns s first ∙ ap (rows_in_use fs) five
