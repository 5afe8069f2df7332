use Rattle.std.proofs.Common.{◌≡◌, ◌≤◌, take}
use Rattle.parts.specs.Meaning.{Meaning, find}
use Rattle.parts.specs.Asked.{Questioned}
use Rattle.stores.specs.declared.pairs.Pair.{Pair}
use Rattle.stores.specs.Pairs.{same_pair}
use Rattle.labelling.specs.Boards.{Labels}
use Rattle.network.specs.Products.{row, marks_after}
use Rattle.network.proofs.asks.ask_row.Given as goal

abbrev pub invariant-loop-b : goal.invariant-loop-b
invariant-loop-b g l = (m : Meaning Pair) → g.S.Told.shows l.initial.store m → l.a ≤ 95 → Labels l.right
    → Questioned g.S.Told.shows g.S.Told.agrees l.initial.store l.store m (row l.a (take l.b-index l.right))
    × (l.marks ≡ marks_after (find same_pair m.places) l.initial.marks (row l.a (take l.b-index l.right)))
