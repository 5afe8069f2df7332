use Rattle.std.proofs.Common.{◌≡◌, Bool, ◌∷◌, ◌++◌, Some, subst, rules}
use Rattle.labels.specs.Labels.{standing, keys, Keyed, Came}
use Rattle.parts.specs.Meaning.{meaning}
use Rattle.labelling.proofs.Tells.{untold, told_came, no_fault, never_err}
use Rattle.labelling.proofs.told.enter.Goals as goal

pub returns-in_err-set-clause-entered : goal.returns-in_err-set-clause-entered
returns-in_err-set-clause-entered g c before after n s few ok =
    let eq = g.V.Key.eq in
    let slots = c.args.table.now.slots in
    let slots' = c.acquire.new.self.slots in
    let a = c.in_ok-acquired.acquired in
    let got : c.acquire.result ≡ Some a = search rules in
    let k = rw got at c.acquire.ensures.keyed in
    let came : Came eq (keys slots) (keys slots') c.args.key a.label = subst (λ (b : Bool). Keyed eq (keys slots) (keys slots') c.args.key a.label b) c.if-acquired.true k.1 in
    absurd (never_err tt (no_fault eq g.V.Key.labels (keys slots) (keys slots') c.args.key a.label k.0 ok came) (c.in_err-set.ensures.result (meaning (keys slots) n) s.shown))

pub returns-in_ok-set-clause-entered : goal.returns-in_ok-set-clause-entered
returns-in_ok-set-clause-entered g c before after n s few ok =
    let eq = g.V.Key.eq in
    let slots = c.args.table.now.slots in
    let slots' = c.acquire.new.self.slots in
    let a = c.in_ok-acquired.acquired in
    let got : c.acquire.result ≡ Some a = search rules in
    let k = rw got at c.acquire.ensures.keyed in
    let fresh = rw got at c.acquire.ensures.fresh in
    let labelled = rw got at c.acquire.ensures.labelled in
    let came : Came eq (keys slots) (keys slots') c.args.key a.label = subst (λ (b : Bool). Keyed eq (keys slots) (keys slots') c.args.key a.label b) c.if-acquired.true k.1 in (
      k.0,
      fresh (before ++ after) s.labelled,
      told_came eq g.P.Told.shows g.V.Key.labels slots slots' c.set.new.self (before ++ standing c.args.key a.label ∷ after) n c.args.key a.label k.0 ok came
          (labelled before after s.labelled)
          (c.set.ensures.held (meaning (keys slots) n) s.shown),
    )

pub returns-else-acquired-clause-entered : goal.returns-else-acquired-clause-entered
returns-else-acquired-clause-entered g c before after n s few ok =
    let eq = g.V.Key.eq in
    let slots = c.args.table.now.slots in
    let slots' = c.acquire.new.self.slots in
    let a = c.in_ok-acquired.acquired in
    let got : c.acquire.result ≡ Some a = search rules in
    let k = rw got at c.acquire.ensures.keyed in
    let fresh = rw got at c.acquire.ensures.fresh in
    let labelled = rw got at c.acquire.ensures.labelled in (
      k.0,
      fresh (before ++ after) s.labelled,
      untold eq g.P.Told.shows slots slots' c.args.part.now (before ++ after) (before ++ standing c.args.key a.label ∷ after) n s
          (labelled before after s.labelled)
          (subst (λ (b : Bool). Keyed eq (keys slots) (keys slots') c.args.key a.label b) c.if-acquired.false k.1),
    )
