use Rattle.std.proofs.Common.{◌≡◌, ℕ, List, [], ◌∷◌, ◌++◌, length, Some, None, sym, ap, ◌∙◌, arith}
use mathlib.Core.Logic.{∥∥₁_map}
use Rattle.trie.specs.Strings.{bit_after}
use Rattle.trie.specs.Trees.{at, child}
use Rattle.trie.proofs.Walks.{inside, at_root, walks_on, walked}
use Rattle.trie.proofs.tree.Tree.walk.Goals as goal

pub loop-depth-init : goal.loop-depth-init
loop-depth-init c =
    let path = c.push.new.self.items in
    let root : path ≡ 0 ∷ [] = c.push.ensures.items ∙ ap (λ (xs : List ℕ). xs ++ 0 ∷ []) c.new-path.ensures in
    (∥∥₁_map c.args.self.now.sound (at_root c.args.self.now.tables c.args.address path (omega arith) root), ap length root)

pub bounds-self-node : goal.bounds-self-node
bounds-self-node c = inside c.args.self.now.tables c.args.address c.loop-depth.path.items c.loop-depth.node c.loop-depth.depth c.loop-depth.invariant.0

pub returns-in_default : goal.returns-in_default
returns-in_default c =
    let node = at c.args.self.now.tables.nodes c.loop-depth.node in
    let gap : child node (bit_after c.args.address c.loop-depth.depth) ≡ None = ap (child node) (sym c.bit_after-bit.ensures.bit) ∙ sym c.child.ensures ∙ c.in_default.is in
    ∥∥₁_map c.loop-depth.invariant.0 (λ w. walked c.args.self.now.tables c.args.address c.args.length c.loop-depth.path.items c.loop-depth.node c.loop-depth.depth w (omega arith) (λ _. gap))

pub loop-depth-preserved : goal.loop-depth-preserved
loop-depth-preserved c =
    let node = at c.args.self.now.tables.nodes c.loop-depth.node in
    let e : child node (bit_after c.args.address c.loop-depth.depth) ≡ Some c.in-Some.child = ap (child node) (sym c.bit_after-bit.ensures.bit) ∙ sym c.child.ensures ∙ c.in-Some.is in
    let longer = c.push-in-loop-depth.ensures.items in
    (∥∥₁_map c.loop-depth.invariant.0 (λ w. walks_on c.args.self.now.tables c.args.address c.loop-depth.node c.loop-depth.depth c.in-Some.child c.loop-depth.path.items c.push-in-loop-depth.new.self.items w (omega arith) e longer), omega (arith, c.push-in-loop-depth.ensures.len))

pub returns : goal.returns
returns c =
    ∥∥₁_map c.loop-depth.invariant.0 (λ w. walked c.args.self.now.tables c.args.address c.args.length c.loop-depth.path.items c.loop-depth.node c.loop-depth.depth w (omega arith) (λ h. absurd (omega arith)))
