use Rattle.std.proofs.Common.{Option, sym, ap, ◌∙◌}
use Rattle.fields.specs.declared.faults.Fault.{Fault}
use Rattle.fields.specs.Faults.{answer}
use Rattle.parts.proofs.Checked.{beyond, label_found}
use Rattle.parts.proofs.checks.check_labels.Goals as goal

pub returns-in-Some : goal.returns-in-Some
returns-in-Some c = sym (ap (λ (o : Option Fault). answer o tt) (label_found c.args.labels.now ∙ ap beyond (sym c.in-Some.ensures)))

pub returns-in-None : goal.returns-in-None
returns-in-None c = sym (ap (λ (o : Option Fault). answer o tt) (label_found c.args.labels.now ∙ ap beyond (sym c.in-None.ensures)))
