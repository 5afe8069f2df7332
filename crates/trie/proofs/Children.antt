-- What a node's children are after one is given or taken away.
use Rattle.std.proofs.Common.{◌≡◌, ℕ, ◌<◌, eqb, ◌≢◌, length, Some, None, Option, ap, ◌∙◌, arith}
use Rattle.std.proofs.lemmas.List.{get_or-set_same, get_or-set_other}
use Rattle.std.proofs.lemmas.Bool.{ne_eqb, cond-false}
use Rattle.trie.specs.declared.nodes.Node.{Node}
use Rattle.trie.specs.Trees.{present, number_of, child, linked}

present_some : (n : ℕ) → 0 < n → present n ≡ Some n
present_some n pn = cond-false (eqb n 0) None (Some n) (ne_eqb n 0 (λ e. omega arith))

pub child_given : (m : Node) (b n : ℕ) → b < length m.children → 0 < n → child (linked m b (Some n)) b ≡ Some n
child_given m b n lb pn = ap present (get_or-set_same m.children b n 0 lb) ∙ present_some n pn

pub child_taken : (m : Node) (b : ℕ) → b < length m.children → child (linked m b None) b ≡ None
child_taken m b lb = ap present (get_or-set_same m.children b 0 0 lb)

pub child_off : (m : Node) (b d : ℕ) (c : Option ℕ) → d ≢ b → child (linked m b c) d ≡ child m d
child_off m b d c ne = ap present (get_or-set_other m.children b d (number_of c) 0 ne)
