-- Entries: a standing filter with its labels, as the columns, the network and the filter list see it.
use Rattle.std.specs.Prelude.{ℕ, List}
use Rattle.filters.specs.declared.rows.FilterRow.{FilterRow}
use Rattle.filters.specs.declared.filter.Filter.{Filter}
use Rattle.filters.specs.Formed.{plain}
use Rattle.columns.specs.Fields.{Placed, placed}
use Rattle.network.specs.Nodes.{Filed, filed, arranged}
use Rattle.entries.specs.declared.filter_labels.FilterLabels.{FilterLabels}

pub record Entry : Type 0 where
  pub filter : Filter
  pub labels : FilterLabels

abbrev pub entry : Filter → FilterLabels → Entry
entry f l = record { filter = f; labels = l }

-- the filter as the filter list has it
abbrev pub row_of : Entry → FilterRow
row_of e = plain e.filter

-- with its labels in the fields, and with its labels along the nodes of a network order
abbrev pub in_columns : Entry → Placed
in_columns e = placed e.filter e.labels.fields

abbrev pub in_network : List ℕ → Entry → Filed
in_network order e = filed (arranged order e.labels.fields) e.labels.nodes
