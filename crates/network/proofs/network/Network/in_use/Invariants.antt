use Rattle.std.proofs.Common.{◌≡◌, ℕ, ◌*◌, ◌≤◌, List}
use Rattle.std.specs.List.{AllByRecursion}
use Rattle.network.specs.Nodes.{Filed, First, Nodes, rows_in_use}
use Rattle.network.proofs.network.Network.in_use.Given as goal

abbrev pub invariant-loop-node : goal.invariant-loop-node
invariant-loop-node g l = (l.total ≤ 96 * l.node-index)
    × ((fs : List Filed) (ns : List ℕ) → Nodes g.S.Told.shows l.node-items fs ns 5 → AllByRecursion First fs → l.total ≡ rows_in_use fs l.node-index)
