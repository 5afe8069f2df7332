-- Labels: how many are in use, come into use and are freed, and how many pairs a search asks. All of it depends on the network order, the standing filters and the call alone.
use Rattle.std.specs.Prelude.{ℕ, ◌+◌, ◌-◌, ◌*◌, true, cond, List, [], ◌∷◌, map, take, Some, None, Option, nat_le, slice_index}
use Rattle.fields.specs.Orders.{field_count}
use Rattle.filters.specs.declared.rows.FilterRow.{FilterRow}
use Rattle.filters.specs.declared.rows.Header.{Header}
use Rattle.filters.specs.Counting.{some, total, how_many, different, up_to}
use Rattle.filters.specs.Values.{Value, row_takes, same_row}
use Rattle.filters.specs.Filters.{row, numbers_in, same_identifier}
use Rattle.filters.specs.Standing.{node_count, without}
use Rattle.filters.specs.Scans.{first}

-- A label stands for a row of values in some fields: in a field for that field's value alone, at a node for the values in the fields combined up to it.
-- Node 1 combines the first two fields of the order, and each node one more.
abbrev pub node_fields : List ℕ → ℕ → List ℕ
node_fields order j = take (j + 1) order

-- the fields of a place to inspect: a field, or a node counted on behind the fields
abbrev pub place_fields : List ℕ → ℕ → List ℕ
place_fields order p = cond (nat_le p field_count) (p ∷ []) (node_fields order (p - field_count))

-- where field labels are, and where combination labels are
abbrev pub fields : List (List ℕ)
fields = map (λ k. k ∷ []) (up_to field_count)

abbrev pub nodes : List ℕ → List (List ℕ)
nodes order = map (node_fields order) (up_to node_count)

-- the rows of the standing filters in the fields ks
abbrev pub rows : List ℕ → List FilterRow → List (List Value)
rows ks fs = map (row ks) fs

-- labels in use: as many as the standing filters have different rows
abbrev pub in_use : List FilterRow → List ℕ → ℕ
in_use fs ks = different same_row (λ _. true) (rows ks fs)

abbrev pub field_labels : List FilterRow → ℕ
field_labels fs = total (in_use fs) fields

abbrev pub node_labels : List ℕ → List FilterRow → ℕ
node_labels order fs = total (in_use fs) (nodes order)

-- 1 if f has a row there that none of fs has
abbrev pub alone : FilterRow → List FilterRow → List ℕ → ℕ
alone f fs ks = cond (some (same_row (row ks f)) (rows ks fs)) 0 1

-- labels that f brings into use where fs stand
abbrev pub new_field_labels : FilterRow → List FilterRow → ℕ
new_field_labels f fs = total (alone f fs) fields

abbrev pub new_node_labels : List ℕ → FilterRow → List FilterRow → ℕ
new_node_labels order f fs = total (alone f fs) (nodes order)

-- the standing filter of an identifier
abbrev pub of_identifier : ℕ → List FilterRow → Option FilterRow
of_identifier id fs = first (same_identifier id) fs

-- a count for what there is, and 0 for nothing
abbrev pub if_any : {X : Type 0} → (X → ℕ) → Option X → ℕ
if_any n None = 0
if_any n (Some x) = n x

-- labels that are freed with a filter: those that it would bring into use again
abbrev pub freed_field_labels : ℕ → List FilterRow → ℕ
freed_field_labels id fs = if_any (λ f. new_field_labels f (without id fs)) (of_identifier id fs)

abbrev pub freed_node_labels : List ℕ → ℕ → List FilterRow → ℕ
freed_node_labels order id fs = if_any (λ f. new_node_labels order f (without id fs)) (of_identifier id fs)

-- how many standing filters have the label of a filter at a place
abbrev pub sharers : List ℕ → List FilterRow → FilterRow → ℕ
sharers ks fs f = how_many (same_row (row ks f)) (rows ks fs)

-- the count that inspect answers
abbrev pub label_count : List ℕ → ℕ → ℕ → List FilterRow → ℕ
label_count order id p fs = if_any (sharers (place_fields order p) fs) (of_identifier id fs)

-- labels that a search finds in the fields ks: as many as there are different rows that the header satisfies
abbrev pub found : List ℕ → Header → List FilterRow → ℕ
found ks h fs = different same_row (λ vs. row_takes vs (numbers_in ks h)) (rows ks fs)

-- pairs asked at node j: each label found up to the node before with each found in the next field
abbrev pub pairs_at : List ℕ → Header → List FilterRow → ℕ → ℕ
pairs_at order h fs j = found (take j order) h fs * found (slice_index order j ∷ []) h fs

abbrev pub pairs : List ℕ → Header → List FilterRow → ℕ
pairs order h fs = total (pairs_at order h fs) (up_to node_count)
