-- The filter table: what stands in it.
use Rattle.std.specs.Prelude.{List}
use Rattle.filters.specs.declared.rows.FilterRow.{FilterRow}
use Rattle.filter_table.specs.declared.table.FilterTable.{FilterTable}

-- the standing filters, in rank order
abbrev pub held : FilterTable → List FilterRow
held t = t.rows.items
