use Rattle.std.proofs.Common.{◌≡◌, ℕ, ltb, List, [], ◌∷◌, get_or, None, Ok, Option, sym, ap, ◌∙◌}
use Rattle.fields.specs.declared.faults.Fault.{Fault}
use Rattle.fields.specs.Faults.{answer}
use Rattle.parts.specs.Meaning.{label_fault}
use Rattle.stores.specs.Pairs.{pair, same_pair}
use Rattle.stores.specs.Alike.{pair_decides}
use Rattle.parts.proofs.Finding.{find_some}
use Rattle.stores.proofs.Checked.{answer_ok}
use Rattle.sieve.specs.Touched.{every, listed}
use Rattle.sieve.specs.Counted.{passing, above}
use Rattle.sieve.proofs.Counting.{above_is, held_passes}
use Rattle.sieve.proofs.sieve_store.Sieve.passes.Goals as goal

pub returns-in_err-check_labels-clause-holds : goal.returns-in_err-check_labels-clause-holds
returns-in_err-check_labels-clause-holds g c m l h e = let p = pair c.args.left c.args.right in held_passes m.places l p (find_some same_pair pair_decides m.places p l e)

pub returns-clause-counts : goal.returns-clause-counts
returns-clause-counts g c m h =
    let s = c.args.self.now in
    let p = pair c.args.left c.args.right in
    let o = label_fault (c.args.left ∷ c.args.right ∷ []) in
    let none : o ≡ None = answer_ok o tt tt (sym c.check_labels.ensures ∙ c.in_ok-check_labels.was) in
    let value : c.all_above.result ≡ above s.counters p = c.all_above.ensures ∙ ap (λ (os : List (Option ℕ)). every (λ i. ltb 0 (get_or s.counters i 0)) (listed os)) c.touched-slots.ensures.slots in
    ap Ok (value ∙ above_is s.counters m.places h.counters_size h.counts p) ∙ sym (ap (λ (x : Option Fault). answer x (passing m.places p)) none)

pub returns-clause-holds : goal.returns-clause-holds
returns-clause-holds g c m l h e = let p = pair c.args.left c.args.right in held_passes m.places l p (find_some same_pair pair_decides m.places p l e)
