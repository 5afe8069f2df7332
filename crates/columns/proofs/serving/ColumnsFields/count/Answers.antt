use Rattle.std.proofs.Common.{◌≡◌, arith}
use Rattle.filters.specs.declared.filter.Filter.{Filter}
use Rattle.columns.specs.Fields.{prefix_eq, range_eq, protocol_eq, flags_eq}
use Rattle.columns.proofs.OneField.{counted}
use Rattle.columns.proofs.serving.ColumnsFields.count.Goals as goal

pub returns-in-0 : goal.returns-in-0
returns-in-0 g c = λ ps ns s.
    let here : c.args.field ≡ 0 = c.in-0.is in
    record {
      source = λ e. counted prefix_eq g.A.Told.shows (λ (x : Filter). x.source) 0 _ ps c.args.self.now.source.table.slots (ns 0) c.args.label c.count.result s.source c.count.ensures.counts;
      destination = λ e. absurd (omega arith);
      source_port = λ e. absurd (omega arith);
      destination_port = λ e. absurd (omega arith);
      protocol = λ e. absurd (omega arith);
      flags = λ e. absurd (omega arith);
    }

pub returns-in-1 : goal.returns-in-1
returns-in-1 g c = λ ps ns s.
    let here : c.args.field ≡ 1 = c.in-1.is in
    record {
      source = λ e. absurd (omega arith);
      destination = λ e. counted prefix_eq g.B.Told.shows (λ (x : Filter). x.destination) 1 _ ps c.args.self.now.destination.table.slots (ns 1) c.args.label c.count-in-1.result s.destination c.count-in-1.ensures.counts;
      source_port = λ e. absurd (omega arith);
      destination_port = λ e. absurd (omega arith);
      protocol = λ e. absurd (omega arith);
      flags = λ e. absurd (omega arith);
    }

pub returns-in-2 : goal.returns-in-2
returns-in-2 g c = λ ps ns s.
    let here : c.args.field ≡ 2 = c.in-2.is in
    record {
      source = λ e. absurd (omega arith);
      destination = λ e. absurd (omega arith);
      source_port = λ e. counted range_eq g.C.Told.shows (λ (x : Filter). x.source_port) 2 _ ps c.args.self.now.source_port.table.slots (ns 2) c.args.label c.count-in-2.result s.source_port c.count-in-2.ensures.counts;
      destination_port = λ e. absurd (omega arith);
      protocol = λ e. absurd (omega arith);
      flags = λ e. absurd (omega arith);
    }

pub returns-in-3 : goal.returns-in-3
returns-in-3 g c = λ ps ns s.
    let here : c.args.field ≡ 3 = c.in-3.is in
    record {
      source = λ e. absurd (omega arith);
      destination = λ e. absurd (omega arith);
      source_port = λ e. absurd (omega arith);
      destination_port = λ e. counted range_eq g.D.Told.shows (λ (x : Filter). x.destination_port) 3 _ ps c.args.self.now.destination_port.table.slots (ns 3) c.args.label c.count-in-3.result s.destination_port c.count-in-3.ensures.counts;
      protocol = λ e. absurd (omega arith);
      flags = λ e. absurd (omega arith);
    }

pub returns-in-4 : goal.returns-in-4
returns-in-4 g c = λ ps ns s.
    let here : c.args.field ≡ 4 = c.in-4.is in
    record {
      source = λ e. absurd (omega arith);
      destination = λ e. absurd (omega arith);
      source_port = λ e. absurd (omega arith);
      destination_port = λ e. absurd (omega arith);
      protocol = λ e. counted protocol_eq g.E.Told.shows (λ (x : Filter). x.protocol) 4 _ ps c.args.self.now.protocol.table.slots (ns 4) c.args.label c.count-in-4.result s.protocol c.count-in-4.ensures.counts;
      flags = λ e. absurd (omega arith);
    }

pub returns-in-5 : goal.returns-in-5
returns-in-5 g c = λ ps ns s.
    let here : c.args.field ≡ 5 = c.in-5.is in
    record {
      source = λ e. absurd (omega arith);
      destination = λ e. absurd (omega arith);
      source_port = λ e. absurd (omega arith);
      destination_port = λ e. absurd (omega arith);
      protocol = λ e. absurd (omega arith);
      flags = λ e. counted flags_eq g.F.Told.shows (λ (x : Filter). x.flags) 5 _ ps c.args.self.now.flags.table.slots (ns 5) c.args.label c.count-in-5.result s.flags c.count-in-5.ensures.counts;
    }
