use Rattle.std.proofs.Common.{◌≡◌, true, ◌&&◌, ltb, leb, sym, ◌∙◌, arith, rules}
use Rattle.std.proofs.lemmas.Bool.Decides.{nat_tests}
use Rattle.std.proofs.lemmas.Bool.{cond-true}
use Rattle.filters.specs.Standing.{capacity}
use Rattle.filter_table.proofs.Shifting.{moved_up}
use Rattle.filter_table.proofs.shifts.insert_at.Goals as goal

pub returns : goal.returns
returns g c =
    let t : (ltb c.args.count capacity && leb c.args.position c.args.count) ≡ true = grind (arith, nat_tests) in
    moved_up c.args.rows.now c.loop-k.rows c.args.count c.args.position c.args.row (search rules) (omega arith) (search rules)
    (λ j d h. c.loop-k.invariant.3 j d (omega arith)) (λ j d h k. c.loop-k.invariant.4 j d (omega arith) k) (λ j d h. c.loop-k.invariant.5 j d h)
    ∙ sym (cond-true _ _ _ t)
