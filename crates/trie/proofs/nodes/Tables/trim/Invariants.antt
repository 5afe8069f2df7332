use Rattle.std.proofs.Common.{◌≡◌}
use Rattle.trie.specs.Trees.{Trimming}
use Rattle.trie.proofs.nodes.Tables.trim.Given as goal

abbrev pub invariant-loop-depth : goal.invariant-loop-depth
invariant-loop-depth l = ∥ Trimming l.self l.value l.path l.depth ∥₁ × (l.self.places ≡ l.initial.self.places)
