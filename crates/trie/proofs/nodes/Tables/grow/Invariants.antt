use Rattle.std.proofs.Common.{◌≡◌}
use Rattle.trie.specs.Trees.{Growing}
use Rattle.trie.proofs.nodes.Tables.grow.Given as goal

abbrev pub invariant-loop-depth : goal.invariant-loop-depth
invariant-loop-depth l = ∥ Growing l.self l.value l.last l.depth ∥₁ × (l.self.places ≡ l.initial.self.places)
