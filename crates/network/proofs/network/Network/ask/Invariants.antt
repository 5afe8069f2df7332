use Rattle.std.proofs.Common.{◌≡◌, ℕ, ◌*◌, ◌≤◌, List, length, get_or, take}
use Rattle.stores.specs.declared.pairs.Pair.{Pair}
use Rattle.labelling.specs.declared.board.Board.{Board}
use Rattle.labelling.specs.Boards.{Labels}
use Rattle.network.specs.Nodes.{Filed, Nodes}
use Rattle.labelling.specs.Lists.{found_in}
use Rattle.network.specs.Searches.{found_at, places_of, reached, pairs, AskedAlong}
use Rattle.network.proofs.network.Network.ask.Given as goal

abbrev pub invariant-loop-k : goal.invariant-loop-k
invariant-loop-k g l = (l.found.count ≤ 96) × (length l.found.labels ≡ 96) × (l.asked ≤ 9216 * l.k)
    × ((j : ℕ) (d : Board Pair g.row.S.Denot) → l.k ≤ j → get_or l.node-items j d ≡ get_or l.initial.node-items j d)
    × ((fs : List Filed) (ns : List ℕ) (d : Board Pair g.row.S.Denot) → Nodes g.S.Told.shows l.initial.node-items fs ns 5 → ((j : ℕ) → Labels (found_in l.fields j))
    → let found = found_at l.fn.self.order.fields l.fields in
    let places = places_of d l.initial.node-items in
    AskedAlong g.S.Told.shows g.S.Told.agrees d l.initial.node-items l.node-items found ns l.k
    × (take l.found.count l.found.labels ≡ reached places found l.k)
    × (l.asked ≡ pairs places found l.k)
    × Labels (reached places found l.k))
