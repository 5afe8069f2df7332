use Rattle.std.proofs.Common.{◌≡◌, Bool, false, ◌&&◌, Ok, Err, Option, Result, MatchResult, sym, ap, ◌∙◌, rules, tests}
use Rattle.fields.specs.declared.faults.Fault.{Fault}
use Rattle.fields.specs.Faults.{answer, answer_by}
use Rattle.filters.specs.declared.filter.Filter.{Filter}
use Rattle.filters.specs.declared.rows.FilterRow.{FilterRow}
use Rattle.filters.specs.declared.rows.Header.{Header}
use Rattle.filters.specs.Filters.{matches, row_fault, lawful, accepted}
use Rattle.filters.specs.Formed.{plain}
use Rattle.filters.proofs.Checks.{formed_ok, formed_err}
use Rattle.filter_table.proofs.lists.row_matches.Goals as goal

-- b is what the test of the formed filter answers
matched : (r : Result Filter Fault) (f : FilterRow) (h : Header) (b : Bool) (Tells : Filter → Type 0) → answer_by plain r ≡ answer (row_fault f) f → MatchResult r Tells (λ _. b ≡ false) → ((g : Filter) → Tells g → b ≡ matches (plain g) h) → b ≡ (lawful f && matches f h)
matched (Ok g) f h b Tells e m tells =
    let p = formed_ok plain (row_fault f) g f e in
    tells g m ∙ ap (λ (g : FilterRow). matches g h) p.1 ∙ sym (ap (λ (o : Option Fault). accepted o && matches f h) p.0)
matched (Err d) f h b Tells e m tells = m ∙ sym (ap (λ (o : Option Fault). accepted o && matches f h) (formed_err plain (row_fault f) d f e))

pub returns : goal.returns
returns c = matched c.form.result c.args.row.now c.args.header.now _ _ c.form.ensures c.is_ok_and.ensures (λ g t. search (rules, tests))
