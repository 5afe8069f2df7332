use Rattle.std.proofs.Common.{◌≡◌, ◌^◌, ◌<◌, ◌≤◌, false, None, sym, subst, arith, rules}
use Rattle.fields.specs.declared.prefixes.PrefixRow.{PrefixRow}
use Rattle.fields.specs.Prefixes.{prefix_fault, prefix_takes}
use Rattle.reasons.proofs.Differences.{first_difference}
use Rattle.reasons.proofs.why.prefix.Goals as goal

pub returns : goal.returns
returns c =
    let v = c.in_ok-value.value in
    let row : v.row ≡ c.args.row = search rules in
    let fault : prefix_fault c.args.row ≡ None = search rules in
    let not_taken : prefix_takes c.args.row c.args.number ≡ false = subst (λ (r : PrefixRow). prefix_takes r c.args.number ≡ false) row (sym c.if-takes.ensures) in
    let short : c.args.row.length ≤ 32 = subst (λ (r : PrefixRow). r.length ≤ 32) row v.short in
    let fits : c.args.row.address < 2 ^ 32 = subst (λ (r : PrefixRow). r.address < 2 ^ 32) row v.fits in
    (fault, not_taken, first_difference c.args.row c.args.number short fits (omega arith) not_taken)
