use Rattle.std.proofs.Common.{◌≡◌, ℕ, ◌<◌, false, ◌||◌, length, get_or}
use Rattle.trie.specs.Strings.{codes}
use Rattle.trie.proofs.Walks.{met}
use Rattle.trie.proofs.tree.Tree.mark_path.Given as goal

abbrev pub invariant-loop-node : goal.invariant-loop-node
invariant-loop-node l =
    (length l.marks ≡ 96) × ((m : ℕ) → m < 96 → get_or l.marks m false ≡ (get_or l.initial.marks m false || met (codes l.self.tables.places m) l.address l.node-index))
