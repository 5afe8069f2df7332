use Rattle.std.proofs.Common.{◌≡◌, ℕ, ◌<◌, Bool, List, length, take, sym, ap, ◌∙◌, subst, arith, rules}
use Rattle.std.proofs.lemmas.List.{take_all}
use Rattle.parts.specs.Marks.{marked, over_start, ListsMarked}
use Rattle.parts.proofs.Marked.{turn_set, turn_kept, marked_exactly, take_over}
use Rattle.parts.proofs.marks.write_marked.Goals as goal
use Rattle.parts.proofs.marks.write_marked.Goals.{then-marked, else-marked}

pub loop-label-preserved : goal.loop-label-preserved
loop-label-preserved c =
    let ms = c.args.marks.now in
    let i = c.loop-label.label in
    let inv = c.loop-label.invariant in
    let l : i < length ms = search rules in
    elim c.if-marked.branch [
      | then-marked w ↦
          let old = c.args.list.now in
          let few : c.loop-label.count < length old = search rules in
          let t = turn_set ms i c.loop-label.count old c.loop-label.list l w.if-marked.true inv.1 few inv.2 in
          (omega (arith, w.count-is), w.count-is ∙ t.0, w.list-is ∙ t.1)
      | else-marked w ↦
          let t = turn_kept ms i l w.if-marked.false in
          (omega (arith, w.count-is), w.count-is ∙ inv.1 ∙ ap length (sym t), w.list-is ∙ inv.2 ∙ ap (λ (xs : List ℕ). over_start xs c.args.list.now) (sym t))
    ]

pub returns-clause-exactly : goal.returns-clause-exactly
returns-clause-exactly c =
    let ms = c.args.marks.now in
    let old = c.args.list.now in
    let all : take c.loop-label.label ms ≡ ms = take_all c.loop-label.label ms (search rules) in
    let count : c.loop-label.count ≡ length (marked ms) = c.loop-label.invariant.1 ∙ ap (λ (xs : List Bool). length (marked xs)) all in
    let list : c.loop-label.list ≡ over_start (marked ms) old = c.loop-label.invariant.2 ∙ ap (λ (xs : List Bool). over_start (marked xs) old) all in
    subst (ListsMarked ms) (sym (ap (λ (n : ℕ). take n c.loop-label.list) count ∙ ap (take (length (marked ms))) list ∙ take_over (marked ms) old)) (marked_exactly ms)
