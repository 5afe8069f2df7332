-- Filters and headers, field by field.
use Rattle.std.specs.Prelude.{ℕ, ◌-◌, Bool, true, false, ◌&&◌, ◌||◌, List, [], ◌∷◌, map, Some, None, Option, ◌==◌, nat_lt, slice_index, slice_index_or}
use Rattle.fields.specs.declared.faults.Fault.{Fault}
use Rattle.fields.specs.declared.faults.Fault.TheVariants.{Identifier}
use Rattle.fields.specs.declared.protocols.ProtocolRow.TheVariants.{Any}
use Rattle.fields.specs.Faults.{when, first_fault}
use Rattle.fields.specs.Prefixes.{prefix_fault}
use Rattle.fields.specs.Ranges.{range_fault}
use Rattle.fields.specs.Flags.{flag_fault}
use Rattle.filters.specs.declared.rows.Class.{Class}
use Rattle.filters.specs.declared.rows.Class.TheVariants.{Exclusive, NonExclusive}
use Rattle.filters.specs.declared.rows.FilterRow.{FilterRow}
use Rattle.filters.specs.declared.rows.Header.{Header}
use Rattle.filters.specs.Values.{Value, a_prefix, a_range, a_protocol, a_mask, row_takes, same_row}

-- a filter's values and a header's numbers, field 1 first
abbrev pub values : FilterRow → List Value
values f = a_prefix f.source ∷ a_prefix f.destination ∷ a_range f.source_port ∷ a_range f.destination_port ∷ a_protocol f.protocol ∷ a_mask f.flags ∷ []

abbrev pub numbers : Header → List ℕ
numbers h = h.source ∷ h.destination ∷ h.source_port ∷ h.destination_port ∷ h.protocol ∷ h.flags ∷ []

-- those in one field, counted from 1; past the last field there is nothing to satisfy
abbrev pub field : FilterRow → ℕ → Value
field f k = slice_index_or (values f) (k - 1) (a_protocol Any)

abbrev pub number_in : Header → ℕ → ℕ
number_in h k = slice_index (numbers h) (k - 1)

-- those in a list of fields
abbrev pub row : List ℕ → FilterRow → List Value
row ks f = map (field f) ks

abbrev pub numbers_in : List ℕ → Header → List ℕ
numbers_in ks h = map (number_in h) ks

-- a header matches a filter if its numbers satisfy all values
abbrev pub matches : FilterRow → Header → Bool
matches f h = row_takes (values f) (numbers h)

abbrev pub same_values : FilterRow → FilterRow → Bool
same_values f g = same_row (values f) (values g)

abbrev pub same_identifier : ℕ → FilterRow → Bool
same_identifier id f = id == f.identifier

abbrev pub exclusive : Class → Bool
exclusive Exclusive = true
exclusive NonExclusive = false

-- the smaller tag ranks ahead, and of equal tags the smaller identifier
abbrev pub ranks_ahead : FilterRow → FilterRow → Bool
ranks_ahead f g = nat_lt f.tag g.tag || (f.tag == g.tag && nat_lt f.identifier g.identifier)

-- what a row must be like to be a filter's, in the order of checking: the identifier is not 0, and each field has a value of its kind
abbrev pub row_checks : FilterRow → List (Option Fault)
row_checks f = when (f.identifier == 0) Identifier
    ∷ prefix_fault f.source ∷ prefix_fault f.destination
    ∷ range_fault f.source_port ∷ range_fault f.destination_port
    ∷ flag_fault f.flags ∷ []

abbrev pub row_fault : FilterRow → Option Fault
row_fault f = first_fault (row_checks f)

abbrev pub accepted : Option Fault → Bool
accepted None = true
accepted (Some e) = false

abbrev pub lawful : FilterRow → Bool
lawful f = accepted (row_fault f)
