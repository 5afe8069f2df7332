use Rattle.std.proofs.Common.{◌+◌, true, false, take, sym, ◌∙◌}
use Rattle.std.proofs.lemmas.List.{at_drop_all}
use Rattle.fields.specs.Orders.{first_wrong, field_count}
use Rattle.fields.proofs.EachOnce.{first_wrong_turn}
use Rattle.fields.proofs.orders.first_wrong.Goals as goal

pub returns-then-not-goes_on : goal.returns-then-not-goes_on
returns-then-not-goes_on c =
    sym (sym c.loop-i.invariant ∙ first_wrong_turn field_count c.args.fields.now c.loop-i.i false c.loop-i-test.true c.if-not-goes_on.ensures)

pub loop-i-preserved : goal.loop-i-preserved
loop-i-preserved c =
    sym (sym c.loop-i.invariant ∙ first_wrong_turn field_count c.args.fields.now c.loop-i.i true c.loop-i-test.true c.if-not-goes_on.ensures)

pub returns : goal.returns
returns c =
    sym (sym c.loop-i.invariant ∙ at_drop_all (first_wrong field_count (take c.loop-i.i c.args.fields.now) (c.loop-i.i + 1)) c.args.fields.now c.loop-i.i c.loop-i-test.false)
