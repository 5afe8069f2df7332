use Rattle.std.proofs.Common.{◌≡◌, ℕ, ◌-◌, true, get_or, arith}
use Rattle.std.proofs.ByRecursion.{All-get_or}
use Rattle.std.proofs.lemmas.Bool.Decides.{nat_tests}
use Rattle.fields.specs.Orders.{field_count, is_field}
use Rattle.fields.proofs.EachOnce.{all_from_once}
use Rattle.fields.proofs.orders.NetworkOrder.field_at.Goals as goal

pub returns-in-1-to-6-clause-field : goal.returns-in-1-to-6-clause-field
returns-in-1-to-6-clause-field c =
    let o = c.args.self.now in
    let s = o.size in
    let f : is_field field_count (get_or o.fields (c.args.position - 1) 0) ≡ true =
    All-get_or (λ (x : ℕ). is_field field_count x ≡ true) o.fields (c.args.position - 1) 0 (omega arith) (all_from_once field_count o.fields s o.once) in
    (grind (arith, nat_tests), grind (arith, nat_tests))
