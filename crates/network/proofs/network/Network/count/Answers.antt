use Rattle.std.proofs.Common.{◌≡◌, ℕ, ◌+◌, true, map, get_or, None, sym, subst, rules}
use Rattle.labels.specs.Labels.{here, occurrences, Labelled}
use Rattle.labels.proofs.Tables.{all_turn}
use Rattle.stores.specs.declared.pairs.Pair.{Pair}
use Rattle.stores.specs.Pairs.{same_pair}
use Rattle.labelling.specs.declared.board.Board.{Board}
use Rattle.network.specs.Nodes.{key_at, at_node}
use Rattle.network.proofs.Reached.{all_unmap}
use Rattle.network.proofs.network.Network.count.Goals as goal

pub returns-in-Some : goal.returns-in-Some
returns-in-Some g c = λ fs ns s l.
    let node = c.args.node in
    let here_is = c.in-Some.node.now in
    let slots = here_is.table.slots in
    let same : here_is ≡ get_or c.args.self.now.nodes node here_is = search rules in
    let labelled : Labelled same_pair slots (map (at_node node) fs) = subst (λ (b : Board Pair g.row.S.Denot). Labelled same_pair b.table.slots (map (at_node node) fs)) (sym same) (s node here_is l).labelled in
    all_turn (λ f. here same_pair (key_at node f) (get_or slots (get_or f.along (node + 1) 0) None) ≡ true)
    (λ f. get_or f.along (node + 1) 0 ≡ c.args.label → c.count.result ≡ occurrences same_pair (key_at node f) (map (at_node node) fs))
    (λ f h e. c.count.ensures.counts (map (at_node node) fs) (key_at node f) labelled (subst (λ (i : ℕ). here same_pair (key_at node f) (get_or slots i None) ≡ true) e h))
    fs
    (all_unmap (at_node node) (λ x. here same_pair x.key (get_or slots x.label None) ≡ true) fs labelled.holds)
