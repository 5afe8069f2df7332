use Rattle.std.proofs.Common.{◌≡◌, ℕ, ◌≤◌, List, ◌∷◌, ◌++◌, get_or}
use Rattle.stores.specs.declared.pairs.Pair.{Pair}
use Rattle.labelling.specs.declared.board.Board.{Board}
use Rattle.network.specs.Nodes.{Filed, filed, Nodes, fresh, Untold, AsksKept}
use Rattle.network.proofs.network.Network.leave.Given as goal

abbrev pub invariant-loop-k : goal.invariant-loop-k
invariant-loop-k g l = (l.freed ≤ l.k)
    × ((j : ℕ) (d : Board Pair g.row.S.Denot) → l.k ≤ j → get_or l.node-items j d ≡ get_or l.initial.node-items j d)
    × AsksKept g.S.Told.agrees l.initial.node-items l.node-items
    × ((before after : List Filed) (fields : List ℕ) (ns : List ℕ) → Nodes g.S.Told.shows l.initial.node-items (before ++ filed fields l.labels ∷ after) ns 5
    → Nodes g.S.Told.shows l.node-items (before ++ after) ns l.k × (l.freed ≡ fresh (before ++ after) (filed fields l.labels) l.k)
    × Untold l.initial.node-items l.node-items (before ++ after) (filed fields l.labels) l.k)
