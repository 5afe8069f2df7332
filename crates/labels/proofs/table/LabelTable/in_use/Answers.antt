use Rattle.std.proofs.Common.{◌≡◌, ℕ, ◌^◌, cond, is_some, Some, None, Option, count_by, refl, ◌∙◌, rules, tests, arith}
use Rattle.std.proofs.lemmas.Iterator.{YieldsList-from_slice, YieldsList-from_map}
use Rattle.std.proofs.lemmas.Iterator.Adapters.{fits_from_length, at_most_from_yields_List}
use Rattle.std.proofs.lemmas.Iterator.Consumers.{YieldsList-at, sum_by_from_yields_List}
use Rattle.std.proofs.lemmas.List.Sums.{count_by-le-length}
use Rattle.labels.specs.declared.table.Used.{Used}
use Rattle.labels.specs.Labels.{used}
use Rattle.labels.proofs.Different.{as_many, in_use_each}
use Rattle.labels.proofs.table.LabelTable.in_use.Goals as goal

some_used : {K : Type 0} (s : Option (Used K)) → cond {A = ℕ} (is_some s) 1 0 ≡ cond {A = ℕ} (used s) 1 0
some_used None = refl
some_used (Some u) = refl

-- each of the 96 slots adds at most 1
pub sum-requires-clause-fits : goal.sum-requires-clause-fits
sum-requires-clause-fits g c =
    let size = c.args.self.now.size in
    fits_from_length _ _ 96 (2 ^ 64) (at_most_from_yields_List (YieldsList-from_slice c.args.self.now.slots cc) (omega arith)) c.map.ensures.closure (omega arith) (λ x r q k. search rules)

pub returns : goal.returns
returns g c =
    let slots = c.args.self.now.slots in
    let one = λ (s : Option (Used g.row.K.Denot)). cond {A = ℕ} (used s) 1 0 in
    let value : c.sum.result ≡ count_by used slots = sum_by_from_yields_List one slots c.map.result c.sum.result c.sum.ensures.ran (YieldsList-from_map _ one (YieldsList-at c.map.ensures.source (YieldsList-from_slice slots cc)) c.map.ensures.closure (λ x r q k. search (rules, tests, some_used))) in
    record {
      value = value;
      different = as_many g.K.Key.eq g.met.K.Key.laws.decides slots;
      each = λ fs h. value ∙ in_use_each g.K.Key.eq g.met.K.Key.laws.decides slots fs h;
      few = omega (arith, value, count_by-le-length used slots, c.args.self.now.size);
    }
