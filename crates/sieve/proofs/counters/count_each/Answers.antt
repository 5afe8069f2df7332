use Rattle.std.proofs.Common.{◌≡◌, ℕ, ◌+◌, ◌<◌, List, length, get_or, drop, None, sym, ap, ◌∙◌, arith}
use Rattle.std.proofs.lemmas.List.{at_drop_more}
use Rattle.sieve.specs.Counted.{change_at, change_all}
use Rattle.sieve.proofs.counters.count_each.Goals as goal

pub loop-slot-preserved : goal.loop-slot-preserved
loop-slot-preserved g c change by =
    let os = c.args.slots.now in
    let i = c.loop-slot.slot-index in
    let cs = c.loop-slot.counters in
    let w : i < length os = omega (arith, c.told-slots, c.loop-slot-test.true) in
    let e : change_all change (drop i os) cs ≡ change_all change (drop (i + 1) os) (change_at change (get_or os i None) cs) = at_drop_more (λ xs. change_all change xs cs) os i None w in
    ap (λ (xs : List ℕ). change_all change (drop (i + 1) os) xs) (c.count_at.ensures change by) ∙ sym e ∙ c.loop-slot.invariant change by
