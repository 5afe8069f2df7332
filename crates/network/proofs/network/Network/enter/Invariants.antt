use Rattle.std.proofs.Common.{◌≡◌, ℕ, ◌<◌, ◌≤◌, List, ◌∷◌, ◌++◌, length, get_or}
use Rattle.stores.specs.declared.pairs.Pair.{Pair}
use Rattle.labelling.specs.declared.board.Board.{Board}
use Rattle.labelling.specs.Boards.{Labels}
use Rattle.network.specs.Nodes.{Filed, filed, First, Nodes, fresh, arranged, Untold, AsksKept}
use Rattle.network.proofs.network.Network.enter.Given as goal

abbrev pub invariant-loop-k : goal.invariant-loop-k
invariant-loop-k g l = (l.new ≤ l.k) × (length l.labels ≡ 6)
    × ((j : ℕ) (d : Board Pair g.row.S.Denot) → l.k ≤ j → get_or l.node-items j d ≡ get_or l.initial.node-items j d)
    × AsksKept g.S.Told.agrees l.initial.node-items l.node-items
    × ((before after : List Filed) (ns : List ℕ) → Nodes g.S.Told.shows l.initial.node-items (before ++ after) ns 5 → length (before ++ after) < 96 → Labels l.fields
    → let f = filed (arranged l.fn.self.order.fields l.fields) l.labels in
    Nodes g.S.Told.shows l.node-items (before ++ f ∷ after) ns l.k × Labels l.labels × (l.new ≡ fresh (before ++ after) f l.k) × First f
    × Untold l.initial.node-items l.node-items (before ++ after) f l.k)
