use Rattle.std.proofs.Common.{◌≡◌, ℕ, [], ◌∷◌, ◌++◌, Option, ap, ◌∙◌}
use Rattle.std.specs.Option.{option_to_list}
use mathlib.Core.Logic.{∥∥₁_elim, ∥∥₁_map}
use mathlib.Core.Bool.{Bool-set}
use native.Mathlib.Bridge.{le_prop}
use Rattle.fields.specs.declared.prefixes.PrefixRow.{PrefixRow}
use Rattle.trie.specs.Strings.{bit_after}
use Rattle.trie.proofs.Growth.{within, room, node_within, extended_as}
use Rattle.trie.proofs.nodes.Tables.extend.Goals as goal

pub unwrap-node-requires : goal.unwrap-node-requires
unwrap-node-requires c = ∥∥₁_elim c.requires.growing (Bool-set _ _) (λ g. c.pop.ensures.variant.1 (room c.args.self.now c.args.value c.args.parent c.args.depth g c.requires.within))

pub bounds-self-node : goal.bounds-self-node
bounds-self-node c =
    let rest = c.pop.new.self in
    let top : c.args.self.now.free.items ≡ rest.items ++ c.unwrap-node.result ∷ [] = c.pop.ensures.items ∙ ap (λ (o : Option ℕ). rest.items ++ option_to_list o) c.unwrap-node.ensures in
    ∥∥₁_elim c.requires.growing le_prop (λ g. node_within c.args.self.now c.args.value c.args.parent c.args.depth g c.requires.within c.unwrap-node.result rest top)

pub bounds-self-parent : goal.bounds-self-parent
bounds-self-parent c = ∥∥₁_elim c.requires.growing le_prop (within c.args.self.now c.args.value c.args.parent c.args.depth)

pub returns-clause-growing : goal.returns-clause-growing
returns-clause-growing c =
    let rest = c.pop.new.self in
    let top : c.args.self.now.free.items ≡ rest.items ++ c.unwrap-node.result ∷ [] = c.pop.ensures.items ∙ ap (λ (o : Option ℕ). rest.items ++ option_to_list o) c.unwrap-node.ensures in
    ∥∥₁_map c.requires.growing (λ g. extended_as c.args.self.now c.args.value c.args.parent c.args.depth g c.requires.within c.unwrap-node.result rest top c.bit_after-bit.result (c.bit_after-bit.ensures.bit ∙ ap (λ (r : PrefixRow). bit_after r.address c.args.depth) c.row.ensures))
