use Rattle.columns.specs.Fields.{prefix_eq, range_eq, protocol_eq, flags_eq}
use Rattle.columns.proofs.OneField.{none_stand}
use Rattle.columns.proofs.columns.Columns.make.Goals as goal

pub returns-clause-stands : goal.returns-clause-stands
returns-clause-stands g c = record {
  source = none_stand prefix_eq g.A.Told.shows _ _ c.empty.ensures.labelled c.empty.ensures.none c.emptied.ensures.held;
  destination = none_stand prefix_eq g.B.Told.shows _ _ c.empty-2.ensures.labelled c.empty-2.ensures.none c.emptied-2.ensures.held;
  source_port = none_stand range_eq g.C.Told.shows _ _ c.empty-3.ensures.labelled c.empty-3.ensures.none c.emptied-3.ensures.held;
  destination_port = none_stand range_eq g.D.Told.shows _ _ c.empty-4.ensures.labelled c.empty-4.ensures.none c.emptied-4.ensures.held;
  protocol = none_stand protocol_eq g.E.Told.shows _ _ c.empty-5.ensures.labelled c.empty-5.ensures.none c.emptied-5.ensures.held;
  flags = none_stand flags_eq g.F.Told.shows _ _ c.empty-6.ensures.labelled c.empty-6.ensures.none c.emptied-6.ensures.held;
}
