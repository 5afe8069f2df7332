use Rattle.std.proofs.Common.{replicate, arith}
use Rattle.std.proofs.lemmas.List.{get_or-replicate, length-replicate}
use Rattle.trie.specs.Trees.{blank, no_node}
use Rattle.trie.proofs.Rooted.{rooted}
use Rattle.trie.proofs.tree.Tree.bare.Goals as goal

pub invariant_of-result : goal.invariant_of-result
invariant_of-result c = record { sound = ∣ rooted (replicate 3073 blank) c.all_below_root.result (length-replicate 3073 blank) (get_or-replicate 3073 0 blank no_node (omega arith)) c.all_below_root.ensures.many c.all_below_root.ensures.rising ∣₁ }
