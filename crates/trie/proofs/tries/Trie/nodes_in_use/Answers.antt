use Rattle.std.proofs.Common.{◌≡◌, ap, ◌∙◌, arith}
use mathlib.Core.Logic.{∥∥₁_elim}
use native.Mathlib.Nat.{ℕ_set}
use Rattle.trie.specs.Strings.{string_count}
use Rattle.trie.specs.Uses.{used_count}
use Rattle.trie.specs.Meant.{none_counted}
use Rattle.trie.proofs.tries.Trie.nodes_in_use.Goals as goal

pub returns : goal.returns
returns c =
    let tree = c.args.self.now.tree in
    let count : c.in_use.result ≡ string_count tree.tables.places = ∥∥₁_elim tree.sound (ℕ_set _ _) (λ g. used_count tree.tables g c.in_use.result c.in_use.ensures) in
    record {
      exactly = λ m s. count ∙ ap string_count s.held;
      few = omega (arith, c.in_use.ensures);
      none = λ m s h. count ∙ ap string_count s.held ∙ none_counted m.places h;
    }
