use Rattle.std.proofs.Common.{◌≡◌, ◌≤◌, true, ◌&&◌, ltb, leb, length, sym, ◌∙◌, arith, rules}
use Rattle.std.proofs.lemmas.Bool.Decides.{nat_tests}
use Rattle.std.proofs.lemmas.Bool.{cond-true}
use Rattle.std.proofs.lemmas.Option.{slice_get-get_or}
use Rattle.filters.specs.Standing.{capacity}
use Rattle.filter_table.proofs.Shifting.{moved_down}
use Rattle.filter_table.proofs.shifts.remove_at.Goals as goal

pub returns : goal.returns
returns g c =
    let t : (leb c.args.count capacity && ltb c.args.position c.args.count) ≡ true = grind (arith, nat_tests) in
    let full : c.args.count ≤ length c.args.rows.now = search rules in
    record {
      value = sym (cond-true _ _ _ t ∙ slice_get-get_or c.args.rows.now c.args.position c.index-rows-position.result (omega arith));
      rows = moved_down c.args.rows.now c.loop-k.rows c.args.count c.args.position full (omega arith) (search rules)
          c.loop-k.invariant.1 (λ j d h k. c.loop-k.invariant.2 j d h (omega arith)) (λ j d h. c.loop-k.invariant.3 j d (omega arith))
          ∙ sym (cond-true _ _ _ t);
    }
