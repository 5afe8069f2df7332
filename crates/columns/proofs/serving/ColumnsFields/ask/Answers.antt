use Rattle.fields.specs.declared.prefixes.Prefix.{Prefix}
use Rattle.fields.specs.declared.ranges.PortRange.{PortRange}
use Rattle.fields.specs.declared.protocols.Protocol.{Protocol}
use Rattle.fields.specs.declared.flags.FlagMask.{FlagMask}
use Rattle.fields.specs.Prefixes.{prefix_takes}
use Rattle.fields.specs.Ranges.{range_takes}
use Rattle.fields.specs.Protocols.{protocol_takes}
use Rattle.fields.specs.Flags.{flag_takes}
use Rattle.fields.proofs.Values.{prefix_decides, range_decides, protocol_decides, flags_decides}
use Rattle.filters.specs.declared.filter.Filter.{Filter}
use Rattle.labels.specs.Labels.{keys}
use Rattle.parts.specs.Meaning.{meaning}
use Rattle.columns.specs.Fields.{prefix_eq, range_eq, protocol_eq, flags_eq}
use Rattle.columns.proofs.OneField.{answered}
use Rattle.columns.proofs.serving.ColumnsFields.ask.Goals as goal

pub returns : goal.returns
returns g c = λ ps ns s.
    let ea = c.in_ok-a.ensures (meaning (keys c.args.self.now.source.table.slots) (ns 0)) s.source.shown in
    let eb = c.in_ok-b.ensures (meaning (keys c.args.self.now.destination.table.slots) (ns 1)) s.destination.shown in
    let ec = c.in_ok-c.ensures (meaning (keys c.args.self.now.source_port.table.slots) (ns 2)) s.source_port.shown in
    let ed = c.in_ok-d.ensures (meaning (keys c.args.self.now.destination_port.table.slots) (ns 3)) s.destination_port.shown in
    let ee = c.in_ok-e.ensures (meaning (keys c.args.self.now.protocol.table.slots) (ns 4)) s.protocol.shown in
    let ef = c.in_ok-f.ensures (meaning (keys c.args.self.now.flags.table.slots) (ns 5)) s.flags.shown in (
      record {
        source = record { labelled = s.source.labelled; shown = ea.1 };
        destination = record { labelled = s.destination.labelled; shown = eb.1 };
        source_port = record { labelled = s.source_port.labelled; shown = ec.1 };
        destination_port = record { labelled = s.destination_port.labelled; shown = ed.1 };
        protocol = record { labelled = s.protocol.labelled; shown = ee.1 };
        flags = record { labelled = s.flags.labelled; shown = ef.1 };
      },
      record {
        source = answered prefix_eq prefix_decides (λ (v : Prefix). prefix_takes v.row c.args.header.source) g.A.Told.shows g.A.Told.agrees (λ (y : Filter). y.source) 0 c.args.header.source _ _ ps _ c.args.self.now.source.table.slots (ns 0) s.source ea.0 ea.2;
        destination = answered prefix_eq prefix_decides (λ (v : Prefix). prefix_takes v.row c.args.header.destination) g.B.Told.shows g.B.Told.agrees (λ (y : Filter). y.destination) 1 c.args.header.destination _ _ ps _ c.args.self.now.destination.table.slots (ns 1) s.destination eb.0 eb.2;
        source_port = answered range_eq range_decides (λ (v : PortRange). range_takes v.row c.args.header.source_port) g.C.Told.shows g.C.Told.agrees (λ (y : Filter). y.source_port) 2 c.args.header.source_port _ _ ps _ c.args.self.now.source_port.table.slots (ns 2) s.source_port ec.0 ec.2;
        destination_port = answered range_eq range_decides (λ (v : PortRange). range_takes v.row c.args.header.destination_port) g.D.Told.shows g.D.Told.agrees (λ (y : Filter). y.destination_port) 3 c.args.header.destination_port _ _ ps _ c.args.self.now.destination_port.table.slots (ns 3) s.destination_port ed.0 ed.2;
        protocol = answered protocol_eq protocol_decides (λ (v : Protocol). protocol_takes v.row c.args.header.protocol) g.E.Told.shows g.E.Told.agrees (λ (y : Filter). y.protocol) 4 c.args.header.protocol _ _ ps _ c.args.self.now.protocol.table.slots (ns 4) s.protocol ee.0 ee.2;
        flags = answered flags_eq flags_decides (λ (v : FlagMask). flag_takes v.row c.args.header.flags) g.F.Told.shows g.F.Told.agrees (λ (y : Filter). y.flags) 5 c.args.header.flags _ _ ps _ c.args.self.now.flags.table.slots (ns 5) s.flags ef.0 ef.2;
      },
    )
