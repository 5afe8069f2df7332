use Rattle.std.proofs.Common.{◌≡◌, false, take, replicate}
use Rattle.parts.specs.Meaning.{Meaning, find}
use Rattle.parts.specs.Asked.{Questioned}
use Rattle.stores.specs.declared.pairs.Pair.{Pair}
use Rattle.stores.specs.Pairs.{same_pair}
use Rattle.labelling.specs.Boards.{Labels}
use Rattle.network.specs.Products.{product, marks_after}
use Rattle.network.proofs.asks.ask_pairs.Given as goal

abbrev pub invariant-loop-a : goal.invariant-loop-a
invariant-loop-a g l = (m : Meaning Pair) → g.S.Told.shows l.initial.store m → Labels l.left → Labels l.right
    → Questioned g.S.Told.shows g.S.Told.agrees l.initial.store l.store m (product (take l.a-index l.left) l.right)
    × (l.marks ≡ marks_after (find same_pair m.places) (replicate 96 false) (product (take l.a-index l.left) l.right))
