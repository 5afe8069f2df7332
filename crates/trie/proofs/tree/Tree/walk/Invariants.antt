use Rattle.std.proofs.Common.{◌≡◌, ◌+◌, length}
use Rattle.trie.proofs.Walks.{Walking}
use Rattle.trie.proofs.tree.Tree.walk.Given as goal

abbrev pub invariant-loop-depth : goal.invariant-loop-depth
invariant-loop-depth l = ∥ Walking l.self.tables l.address l.path.items l.node l.depth ∥₁ × (length l.path.items ≡ l.depth + 1)
