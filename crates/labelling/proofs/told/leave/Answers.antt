use Rattle.std.proofs.Common.{◌≡◌, Bool, ◌∷◌, ◌++◌, Some, sym, ap, ◌∙◌, subst, rules}
use Rattle.labels.specs.declared.table.Released.{Released}
use Rattle.labels.specs.Labels.{standing, keys, Left}
use Rattle.parts.specs.Meaning.{meaning}
use Rattle.labelling.proofs.Tells.{untold, told_went, clears, never_ok, held_below, some_same}
use Rattle.labelling.proofs.told.leave.Goals as goal

pub returns-in_err-clear-clause-left : goal.returns-in_err-clear-clause-left
returns-in_err-clear-clause-left g c before after key n s =
    let eq = g.V.Key.eq in
    let slots = c.args.table.now.slots in
    let slots' = c.release.new.self.slots in
    let label = c.args.label in
    let d = c.in_ok-released.released in
    let got : c.release.result ≡ Some d = search rules in
    let went = subst (λ (b : Bool). Left (keys slots) (keys slots') d.key label b) c.if-released.true (rw got at c.release.ensures.keyed) in
    absurd (never_ok (clears (keys slots) d.key label (held_below eq slots (before ++ standing key label ∷ after) label d.key s.labelled went.0) went.0) (c.in_err-clear.ensures.result (meaning (keys slots) n) s.shown))

pub returns-in_ok-clear-clause-left : goal.returns-in_ok-clear-clause-left
returns-in_ok-clear-clause-left g c before after key n s =
    let slots = c.args.table.now.slots in
    let slots' = c.release.new.self.slots in
    let label = c.args.label in
    let d = c.in_ok-released.released in
    let got : c.release.result ≡ Some d = search rules in
    let went = subst (λ (b : Bool). Left (keys slots) (keys slots') d.key label b) c.if-released.true (rw got at c.release.ensures.keyed) in
    let r = c.release.ensures.labelled before after key s.labelled in (
      ap (λ (x : Released g.row.V.Denot). x.freed) (some_same (sym got ∙ r.0)),
      told_went g.V.Key.eq g.P.Told.shows slots slots' c.clear.new.self (before ++ after) n label went.1 r.1
          (c.clear.ensures.held (meaning (keys slots) n) s.shown),
    )

pub returns-else-released-clause-left : goal.returns-else-released-clause-left
returns-else-released-clause-left g c before after key n s =
    let slots = c.args.table.now.slots in
    let slots' = c.release.new.self.slots in
    let label = c.args.label in
    let d = c.in_ok-released.released in
    let got : c.release.result ≡ Some d = search rules in
    let same = subst (λ (b : Bool). Left (keys slots) (keys slots') d.key label b) c.if-released.false (rw got at c.release.ensures.keyed) in
    let r = c.release.ensures.labelled before after key s.labelled in (
      ap (λ (x : Released g.row.V.Denot). x.freed) (some_same (sym got ∙ r.0)),
      untold g.V.Key.eq g.P.Told.shows slots slots' c.args.part.now (before ++ standing key label ∷ after) (before ++ after) n s r.1 same.1,
    )
