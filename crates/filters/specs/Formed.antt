-- Formed filters: each lies as the plain row of its numbers.
use Rattle.filters.specs.declared.rows.FilterRow.{FilterRow}
use Rattle.filters.specs.declared.filter.Filter.{Filter}

abbrev pub plain : Filter → FilterRow
plain f = record {
  identifier = f.identifier;
  source = f.source.row;
  destination = f.destination.row;
  source_port = f.source_port.row;
  destination_port = f.destination_port.row;
  protocol = f.protocol.row;
  flags = f.flags.row;
  tag = f.tag;
  class = f.class;
  flow = f.flow;
}
