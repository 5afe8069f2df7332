use Rattle.filters.specs.declared.filter.Filter.{Filter}
use Rattle.columns.specs.Fields.{prefix_eq, range_eq, protocol_eq, flags_eq}
use Rattle.columns.proofs.OneField.{in_use_of, sum_six}
use Rattle.columns.proofs.serving.ColumnsFields.in_use.Goals as goal

pub returns : goal.returns
returns g c = λ ps ns s.
    sum_six c.in_use.result c.in_use-2.result c.in_use-3.result c.in_use-4.result c.in_use-5.result c.in_use-6.result _ _ _ _ _ _
    (in_use_of prefix_eq g.A.Told.shows (λ (x : Filter). x.source) 0 _ ps _ (ns 0) c.in_use.result s.source c.in_use.ensures.each)
    (in_use_of prefix_eq g.B.Told.shows (λ (x : Filter). x.destination) 1 _ ps _ (ns 1) c.in_use-2.result s.destination c.in_use-2.ensures.each)
    (in_use_of range_eq g.C.Told.shows (λ (x : Filter). x.source_port) 2 _ ps _ (ns 2) c.in_use-3.result s.source_port c.in_use-3.ensures.each)
    (in_use_of range_eq g.D.Told.shows (λ (x : Filter). x.destination_port) 3 _ ps _ (ns 3) c.in_use-4.result s.destination_port c.in_use-4.ensures.each)
    (in_use_of protocol_eq g.E.Told.shows (λ (x : Filter). x.protocol) 4 _ ps _ (ns 4) c.in_use-5.result s.protocol c.in_use-5.ensures.each)
    (in_use_of flags_eq g.F.Told.shows (λ (x : Filter). x.flags) 5 _ ps _ (ns 5) c.in_use-6.result s.flags c.in_use-6.ensures.each)
