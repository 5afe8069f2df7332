use Rattle.std.proofs.Common.{◌≡◌, ◌+◌, ◌%◌, ◌^◌, false, [], ◌∷◌, None, Ok, Option, sym, ap, ◌∙◌, subst}
use Rattle.fields.specs.declared.faults.Fault.{Fault}
use Rattle.fields.specs.Faults.{unless}
use Rattle.parts.specs.Meaning.{Meaning, meaning, find, label_fault, asked_once}
use Rattle.stores.specs.declared.pairs.Pair.{Pair}
use Rattle.stores.specs.Pairs.{pair, same_pair}
use Rattle.stores.proofs.Checked.{answer_ok, accepted_find}
use Rattle.sieve.specs.declared.sieve_store.Sieve.{Sieve}
use Rattle.sieve.specs.Counted.{above}
use Rattle.sieve.specs.Sieved.{Sieved}
use Rattle.sieve.proofs.Counting.{above_is, spared_absent}
use Rattle.sieve.proofs.Sieving.{answer_value, sieved_asked}
use Rattle.sieve.proofs.sieve_store.Sieve.sift.Goals as goal
use Rattle.sieve.proofs.sieve_store.Sieve.sift.Goals.{then-branch+in_ok-found, else-branch}

-- the store below answers for a pair that passes; one that does not pass is not held
pub returns-clause-result : goal.returns-clause-result
returns-clause-result g c m h = elim c.if-branch.branch [
  | then-branch+in_ok-found w ↦ ap Ok w.found-is ∙ sym w.in_ok-found.was ∙ w.find.ensures.result (meaning m.places h.asked_below) h.holds
  | else-branch w ↦
      let s = c.args.self.now in
      let p = pair c.args.left c.args.right in
      let o = label_fault (c.args.left ∷ c.args.right ∷ []) in
      let told = c.in_ok-passes.ensures.result in
      let none : o ≡ None = answer_ok o (above s.counters p) c.in_ok-passes.field-0 (sym told) in
      let shut : above s.counters p ≡ false = sym (answer_value o (above s.counters p) c.in_ok-passes.field-0 told) ∙ w.if-branch.false in
      accepted_find o none c.if-branch.found (find same_pair m.places p) (w.found-is ∙ spared_absent m.places p (sym (above_is s.counters m.places h.counters_size h.counts p) ∙ shut))
]

-- one question more, whether or not the store below was asked
pub returns-clause-held : goal.returns-clause-held
returns-clause-held g c m h =
    let shows = g.S.Told.shows in
    let s = c.args.self.now in
    let o = label_fault (c.args.left ∷ c.args.right ∷ []) in
    let n = meaning m.places h.asked_below in
    let none : o ≡ None = answer_ok o (above s.counters (pair c.args.left c.args.right)) c.in_ok-passes.field-0 (sym c.in_ok-passes.ensures.result) in
    let counted = sieved_asked shows g.met.S.Told.proper s.below in
    subst (λ (x : Meaning Pair). Sieved shows c.if-branch.self.below c.if-branch.self.counters ((c.if-branch.self.asked + 1) % 2 ^ 32) x) (sym (ap (λ (x : Option Fault). unless x m (asked_once m)) none))
    (elim c.if-branch.branch [
      | then-branch+in_ok-found w ↦ subst (λ (x : Sieve g.row.S.Denot). Sieved shows x.below x.counters ((x.asked + 1) % 2 ^ 32) (asked_once m)) (sym w.self-is)
          (counted w.find.new.self s.counters s.asked m h ((h.asked_below + 1) % 2 ^ 32)
          (subst (λ (x : Meaning Pair). shows w.find.new.self x) (ap (λ (x : Option Fault). unless x n (asked_once n)) none) (w.in_ok-found.ensures.held n h.holds)))
      | else-branch w ↦ subst (λ (x : Sieve g.row.S.Denot). Sieved shows x.below x.counters ((x.asked + 1) % 2 ^ 32) (asked_once m)) (sym w.self-is)
          (counted s.below s.counters s.asked m h h.asked_below h.holds)
    ])
