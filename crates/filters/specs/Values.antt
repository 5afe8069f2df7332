-- Values: what a filter has in a field. One type for all kinds, so that labels and networks are said once for all fields.
use Rattle.std.specs.Prelude.{ℕ, Bool, true, false, ◌&&◌, List, [], ◌∷◌}
use Rattle.fields.specs.Prefixes.{prefix_takes, same_prefix}
use Rattle.fields.specs.Ranges.{range_takes, same_range}
use Rattle.fields.specs.Protocols.{protocol_takes, same_protocol}
use Rattle.fields.specs.Flags.{flag_takes, same_flags}
use Rattle.fields.specs.declared.prefixes.PrefixRow.{PrefixRow}
use Rattle.fields.specs.declared.ranges.RangeRow.{RangeRow}
use Rattle.fields.specs.declared.protocols.ProtocolRow.{ProtocolRow}
use Rattle.fields.specs.declared.flags.FlagRow.{FlagRow}

-- a value is the plain row of its kind
pub data Value : Type 0 where
  a_prefix : PrefixRow → Value
  a_range : RangeRow → Value
  a_protocol : ProtocolRow → Value
  a_mask : FlagRow → Value

-- a number satisfies a value as its kind says
abbrev pub value_takes : Value → ℕ → Bool
value_takes (a_prefix r) n = prefix_takes r n
value_takes (a_range r) n = range_takes r n
value_takes (a_protocol r) n = protocol_takes r n
value_takes (a_mask r) n = flag_takes r n

-- values of one kind are the same if their rows are
abbrev pub same_value : Value → Value → Bool
same_value (a_prefix r) (a_prefix s) = same_prefix r s
same_value (a_prefix r) (a_range s) = false
same_value (a_prefix r) (a_protocol s) = false
same_value (a_prefix r) (a_mask s) = false
same_value (a_range r) (a_prefix s) = false
same_value (a_range r) (a_range s) = same_range r s
same_value (a_range r) (a_protocol s) = false
same_value (a_range r) (a_mask s) = false
same_value (a_protocol r) (a_prefix s) = false
same_value (a_protocol r) (a_range s) = false
same_value (a_protocol r) (a_protocol s) = same_protocol r s
same_value (a_protocol r) (a_mask s) = false
same_value (a_mask r) (a_prefix s) = false
same_value (a_mask r) (a_range s) = false
same_value (a_mask r) (a_protocol s) = false
same_value (a_mask r) (a_mask s) = same_flags r s

-- rows of values: each number satisfies its value
abbrev pub row_takes : List Value → List ℕ → Bool
row_takes [] ns = true
row_takes (v ∷ vs) [] = false
row_takes (v ∷ vs) (n ∷ ns) = value_takes v n && row_takes vs ns

-- rows are the same if they are value by value
abbrev pub same_row : List Value → List Value → Bool
same_row [] [] = true
same_row [] (w ∷ ws) = false
same_row (v ∷ vs) [] = false
same_row (v ∷ vs) (w ∷ ws) = same_value v w && same_row vs ws
