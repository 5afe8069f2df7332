-- What an edit tells the parts: only what comes into use or is freed.
use Rattle.std.specs.Prelude.{◌≡◌, ℕ, ◌+◌, ◌<◌, List, [], ◌∷◌, map, slice_index_or}
use Rattle.std.specs.List.{insert}
use Rattle.fields.specs.declared.prefixes.Prefix.{Prefix}
use Rattle.fields.specs.declared.ranges.PortRange.{PortRange}
use Rattle.fields.specs.declared.protocols.Protocol.{Protocol}
use Rattle.fields.specs.declared.flags.FlagMask.{FlagMask}
use Rattle.parts.specs.Meaning.{Meaning}
use Rattle.stores.specs.declared.pairs.Pair.{Pair}
use Rattle.filters.specs.declared.rows.FilterRow.{FilterRow}
use Rattle.filters.specs.declared.filter.Filter.{Filter}
use Rattle.filters.specs.Formed.{plain}
use Rattle.filters.specs.Labels.{alone, node_fields, new_field_labels, new_node_labels}
use Rattle.labelling.specs.declared.board.Board.{Board}
use Rattle.entries.specs.declared.filter_labels.FilterLabels.{FilterLabels}
use Rattle.entries.specs.Entries.{Entry, entry, row_of}
use Rattle.classifier.specs.declared.classifier.Classifier.{Classifier}
use Rattle.classifier.specs.Standing.{Asked, Serves}

-- a part is the same value as before unless it is told of something; what it may have been asked before, it may have been asked now
pub record ToldIf {P Q : Type 0} (agrees : P → List Q → Type 0) (told : ℕ) (old new : P) : Type 0 where
  pub untold : told ≡ 0 → new ≡ old
  pub asked : (l : List Q) → agrees old l → agrees new l

-- the filter f comes or goes where the others are fs: an engine is told only if none of them has f's value in its field,
-- and a store only if none has f's values in the fields combined up to its node. a to f are the asked lists of the engines, s of a store
pub record Told {A B C D E F S : Type 0} (a : A → List ℕ → Type 0) (b : B → List ℕ → Type 0) (c : C → List ℕ → Type 0) (d : D → List ℕ → Type 0) (e : E → List ℕ → Type 0) (f : F → List ℕ → Type 0) (s : S → List Pair → Type 0) (old new : Classifier A B C D E F S) (x : FilterRow) (fs : List FilterRow) : Type 0 where
  pub source : ToldIf a (alone x fs (1 ∷ [])) old.columns.source.part new.columns.source.part
  pub destination : ToldIf b (alone x fs (2 ∷ [])) old.columns.destination.part new.columns.destination.part
  pub source_port : ToldIf c (alone x fs (3 ∷ [])) old.columns.source_port.part new.columns.source_port.part
  pub destination_port : ToldIf d (alone x fs (4 ∷ [])) old.columns.destination_port.part new.columns.destination_port.part
  pub protocol : ToldIf e (alone x fs (5 ∷ [])) old.columns.protocol.part new.columns.protocol.part
  pub flags : ToldIf f (alone x fs (6 ∷ [])) old.columns.flags.part new.columns.flags.part
  pub stores : (j : ℕ) (z : Board Pair S) → j < 5 → ToldIf s (alone x fs (node_fields old.network.order.fields (j + 1))) (slice_index_or old.network.nodes j z).part (slice_index_or new.network.nodes j z).part

-- what entering a filter at a position among the entries does: it gets labels, the parts serve it too, and so many labels of
-- either sort came into use as no entry had the label's values
pub record Came {A B C D E F S : Type 0} (a : A → Meaning Prefix → Type 0) (b : B → Meaning Prefix → Type 0) (c : C → Meaning PortRange → Type 0) (d : D → Meaning PortRange → Type 0) (e : E → Meaning Protocol → Type 0) (f : F → Meaning FlagMask → Type 0) (s : S → Meaning Pair → Type 0)
    (a' : A → List ℕ → Type 0) (b' : B → List ℕ → Type 0) (c' : C → List ℕ → Type 0) (d' : D → List ℕ → Type 0) (e' : E → List ℕ → Type 0) (f' : F → List ℕ → Type 0) (s' : S → List Pair → Type 0)
    (old new : Classifier A B C D E F S) (filter : Filter) (position : ℕ) (es : List Entry) (asked : Asked) (came : ℕ × ℕ) : Type 0 where
  pub labels : FilterLabels
  pub serves : Serves a b c d e f s new (insert es position (entry filter labels)) asked
  pub field_labels : came.0 ≡ new_field_labels (plain filter) (map row_of es)
  pub node_labels : came.1 ≡ new_node_labels old.network.order.fields (plain filter) (map row_of es)
  pub told : Told a' b' c' d' e' f' s' old new (plain filter) (map row_of es)

-- what taking an entry out does, where the others are es
pub record Gone {A B C D E F S : Type 0} (a : A → Meaning Prefix → Type 0) (b : B → Meaning Prefix → Type 0) (c : C → Meaning PortRange → Type 0) (d : D → Meaning PortRange → Type 0) (e : E → Meaning Protocol → Type 0) (f : F → Meaning FlagMask → Type 0) (s : S → Meaning Pair → Type 0)
    (a' : A → List ℕ → Type 0) (b' : B → List ℕ → Type 0) (c' : C → List ℕ → Type 0) (d' : D → List ℕ → Type 0) (e' : E → List ℕ → Type 0) (f' : F → List ℕ → Type 0) (s' : S → List Pair → Type 0)
    (old new : Classifier A B C D E F S) (gone : Entry) (es : List Entry) (asked : Asked) (freed : ℕ × ℕ) : Type 0 where
  pub serves : Serves a b c d e f s new es asked
  pub field_labels : freed.0 ≡ new_field_labels (row_of gone) (map row_of es)
  pub node_labels : freed.1 ≡ new_node_labels old.network.order.fields (row_of gone) (map row_of es)
  pub told : Told a' b' c' d' e' f' s' old new (row_of gone) (map row_of es)
