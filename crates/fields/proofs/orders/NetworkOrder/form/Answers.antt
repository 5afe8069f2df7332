use Rattle.std.proofs.Common.{◌≡◌, ℕ, length, sym, arith, rules}
use Rattle.fields.specs.Orders.{field_count}
use Rattle.fields.proofs.EachOnce.{once_from_right, right_from_once}
use Rattle.fields.proofs.orders.NetworkOrder.form.Goals as goal

pub returns-in-Some-clause-once : goal.returns-in-Some-clause-once
returns-in-Some-clause-once c = λ h.
    let size : length c.args.fields ≡ field_count = search rules in
    let r = right_from_once field_count c.args.fields size h in
    let e = c.in-Some.ensures in
    absurd (let z : ◌≡◌ {A = ℕ} 0 1 = cc in omega arith)

pub invariant_of-result : goal.invariant_of-result
invariant_of-result c =
    let size : length c.args.fields ≡ field_count = search rules in
    record { size = size; once = once_from_right field_count c.args.fields size (sym c.in_default.ensures) }
