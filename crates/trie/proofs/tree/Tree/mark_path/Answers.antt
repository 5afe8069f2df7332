use Rattle.std.proofs.Common.{◌≡◌, ℕ, Bool, false, ◌||◌, length, get_or, ap, ◌∙◌, arith}
use mathlib.Core.Logic.{∥∥₁_elim}
use mathlib.Core.Bool.{Bool-set}
use native.Mathlib.Bridge.{le_prop}
use Rattle.trie.specs.Strings.{codes}
use Rattle.trie.proofs.Walks.{along, passing, passing_within, met, met_none, marks_on, all_passed, all_met}
use Rattle.trie.proofs.tree.Tree.mark_path.Goals as goal

pub loop-node-init : goal.loop-node-init
loop-node-init c = (c.told-marks, λ m h. met_none (codes c.args.self.now.tables.places m) c.args.address (get_or c.args.marks.now m false))

pub bounds-self-node : goal.bounds-self-node
bounds-self-node c =
    let t = c.args.self.now.tables in
    let path = c.as_slice-node-items.result.now in
    let walked = along t c.args.address 32 c.walk-path.result.items path c.as_slice-node-items.ensures.value c.walk-path.ensures in
    ∥∥₁_elim walked le_prop (λ w. passing_within t c.args.address 32 path c.loop-node.node-index w c.loop-node-test.true)

pub loop-node-preserved : goal.loop-node-preserved
loop-node-preserved c =
    let t = c.args.self.now.tables in
    let a = c.args.address in
    let k = c.loop-node.node-index in
    let path = c.as_slice-node-items.result.now in
    let i = get_or path k 0 in
    let inv = c.loop-node.invariant in
    let walked = along t a 32 c.walk-path.result.items path c.as_slice-node-items.ensures.value c.walk-path.ensures in (
      c.mark.array_long,
      λ l ll. ∥∥₁_elim walked (Bool-set _ _) (λ w. marks_on t a i k l (get_or c.args.marks.now l false) c.loop-node.marks c.mark.new.marks (passing t a 32 path k w c.loop-node-test.true) (omega arith) c.mark.ensures (inv.1 l ll)),
    )

pub returns : goal.returns
returns c =
    let t = c.args.self.now.tables in
    let a = c.args.address in
    let path = c.as_slice-node-items.result.now in
    let all : c.loop-node.node-index ≡ length path = omega arith in
    let walked = along t a 32 c.walk-path.result.items path c.as_slice-node-items.ensures.value c.walk-path.ensures in
    λ l ll. ∥∥₁_elim walked (Bool-set _ _) (λ w.
    let was = get_or c.args.marks.now l false in
    c.loop-node.invariant.1 l ll
    ∙ ap (λ (k : ℕ). was || met (codes t.places l) a k) all
    ∙ ap (λ (b : Bool). was || b) (all_passed t a l path w)
    ∙ all_met t a l was w.good (omega arith))
