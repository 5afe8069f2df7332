-- What stands in a classifier, and what its parts then hold.
use Rattle.std.specs.Prelude.{◌≡◌, ℕ, List, [], map}
use Rattle.std.specs.List.{AllByRecursion}
use Rattle.fields.specs.declared.prefixes.Prefix.{Prefix}
use Rattle.fields.specs.declared.ranges.PortRange.{PortRange}
use Rattle.fields.specs.declared.protocols.Protocol.{Protocol}
use Rattle.fields.specs.declared.flags.FlagMask.{FlagMask}
use Rattle.parts.specs.Meaning.{Meaning}
use Rattle.stores.specs.declared.pairs.Pair.{Pair}
use Rattle.filters.specs.declared.rows.FilterRow.{FilterRow}
use Rattle.filter_table.specs.Tables.{held}
use Rattle.labelling.specs.declared.board.Board.{Board}
use Rattle.columns.specs.Fields.{Stand}
use Rattle.network.specs.Nodes.{Nodes, First}
use Rattle.entries.specs.Entries.{Entry, row_of, in_columns, in_network}
use Rattle.classifier.specs.declared.classifier.Classifier.{Classifier}

-- how often each part was asked, modulo 2 ^ 32: the engine of each field and the store of each node, counted from 0
pub record Asked : Type 0 where
  pub engines : ℕ → ℕ
  pub stores : List ℕ

abbrev pub never_asked : Asked
never_asked = record { engines = λ _. 0; stores = [] }

-- the parts serve the entries, which have their labels in the order of the table.
-- a to f tell what the engines of fields 1 to 6 hold, and s what a store does
pub record Serves {A B C D E F S : Type 0} (a : A → Meaning Prefix → Type 0) (b : B → Meaning Prefix → Type 0) (c : C → Meaning PortRange → Type 0) (d : D → Meaning PortRange → Type 0) (e : E → Meaning Protocol → Type 0) (f : F → Meaning FlagMask → Type 0) (s : S → Meaning Pair → Type 0) (classifier : Classifier A B C D E F S) (es : List Entry) (asked : Asked) : Type 0 where
  pub labels : classifier.labels.items ≡ map (λ x. x.labels) es
  -- each engine holds exactly the values in use, at their labels
  pub fields : Stand a b c d e f classifier.columns (map in_columns es) asked.engines
  -- each store holds exactly the combinations in use, at their labels; a filter's first label is its first field's
  pub nodes : Nodes s classifier.network.nodes (map (in_network classifier.network.order.fields) es) asked.stores 5
  pub first : AllByRecursion First (map (in_network classifier.network.order.fields) es)
  -- what a reading past the last node would give
  pub spare : Board Pair S

-- the filters fs stand in the classifier: in rank order in its table, and each with its labels in the parts
pub record Stands {A B C D E F S : Type 0} (a : A → Meaning Prefix → Type 0) (b : B → Meaning Prefix → Type 0) (c : C → Meaning PortRange → Type 0) (d : D → Meaning PortRange → Type 0) (e : E → Meaning Protocol → Type 0) (f : F → Meaning FlagMask → Type 0) (s : S → Meaning Pair → Type 0) (classifier : Classifier A B C D E F S) (fs : List FilterRow) (asked : Asked) : Type 0 where
  pub table : held classifier.table ≡ fs
  pub entries : List Entry
  pub filters : map row_of entries ≡ fs
  pub parts : Serves a b c d e f s classifier entries asked
