-- Known figures: what the definitions give on a few values, and on a small sample of calls.
use Rattle.std.specs.Prelude.{◌≡◌, ℕ, true, false, List, [], ◌∷◌, take, Some, None, Ok, Err}
use Rattle.std.specs.Option.{option_map}
use Rattle.fields.specs.declared.faults.Fault.TheVariants.{Unknown}
use Rattle.fields.specs.declared.prefixes.PrefixRow.{PrefixRow}
use Rattle.fields.specs.declared.ranges.RangeRow.{RangeRow}
use Rattle.fields.specs.declared.protocols.ProtocolRow.TheVariants.{Any, Only}
use Rattle.fields.specs.declared.flags.FlagRow.{FlagRow}
use Rattle.fields.specs.Faults.{number, detail}
use Rattle.fields.specs.Prefixes.{prefix_takes, prefix_fault}
use Rattle.fields.specs.Ranges.{range_takes, range_fault}
use Rattle.fields.specs.Flags.{flag_takes}
use Rattle.fields.specs.Orders.{order_fault}
use Rattle.filters.specs.declared.rows.FilterRow.{FilterRow}
use Rattle.filters.specs.declared.rows.Header.{Header}
use Rattle.filters.specs.declared.rows.Class.TheVariants.{Exclusive, NonExclusive}
use Rattle.filters.specs.declared.calls.Call.{Call}
use Rattle.filters.specs.declared.calls.Call.TheVariants.{Add, Remove, Inspect, Search}
use Rattle.filters.specs.Standing.{standing}
use Rattle.filters.specs.Labels.{pairs}
use Rattle.filters.specs.Answers.{added, removed, counted, searched}
use Rattle.filter_laws.specs.Runs.{answers}

abbrev prefix : ℕ → ℕ → PrefixRow
prefix a l = record { address = a; length = l }

abbrev range : ℕ → ℕ → RangeRow
range l h = record { low = l; high = h }

abbrev mask : ℕ → ℕ → FlagRow
mask m w = record { mask = m; wanted = w }

-- three filters: a drive protocol from one network, everything from a part of it, and everything
abbrev pub drive : FilterRow
drive = record { identifier = 1; source = prefix 0x0A000000 8; destination = prefix 0 0; source_port = range 0 65535; destination_port = range 34964 34964; protocol = Only 17; flags = mask 0 0; tag = 3; class = Exclusive; flow = 10 }

abbrev pub part : FilterRow
part = record { identifier = 2; source = prefix 0x0A010000 16; destination = prefix 0 0; source_port = range 0 65535; destination_port = range 0 65535; protocol = Any; flags = mask 0 0; tag = 5; class = Exclusive; flow = 20 }

abbrev pub rest : FilterRow
rest = record { identifier = 3; source = prefix 0 0; destination = prefix 0 0; source_port = range 0 65535; destination_port = range 0 65535; protocol = Any; flags = mask 0 0; tag = 9; class = NonExclusive; flow = 30 }

-- a packet of the drive protocol from the part, and one from elsewhere
abbrev pub inside : Header
inside = record { source = 0x0A010203; destination = 0x0A020304; source_port = 5000; destination_port = 34964; protocol = 17; flags = 0 }

abbrev pub outside : Header
outside = record { source = 0x0B000001; destination = 0x0A020304; source_port = 5000; destination_port = 502; protocol = 6; flags = 2 }

abbrev pub sample : List Call
sample = Add drive ∷ Add part ∷ Add rest ∷ Search inside 2 16 ∷ Remove 2 ∷ Remove 2 ∷ Inspect 3 2 ∷ Search outside 0 16 ∷ []

pub record Figures : Type 0 where
  pub prefix_in : prefix_takes (prefix 0x0A000000 8) 0x0AFFFFFF ≡ true
  pub prefix_out : prefix_takes (prefix 0x0A000000 8) 0x0B000000 ≡ false
  pub prefix_number : option_map number (prefix_fault (prefix 0x0A000001 8)) ≡ Some 3
  pub prefix_detail : option_map detail (prefix_fault (prefix 0x0A000001 8)) ≡ Some 8
  pub range_in : range_takes (range 5 5) 5 ≡ true
  pub range_out : range_takes (range 5 5) 6 ≡ false
  pub range_number : option_map number (range_fault (range 6 5)) ≡ Some 4
  pub range_detail : option_map detail (range_fault (range 6 5)) ≡ Some 6
  pub mask_in : flag_takes (mask 0x12 0x02) 0x0A ≡ true
  pub mask_out : flag_takes (mask 0x12 0x02) 0x12 ≡ false
  pub order_number : option_map number (order_fault (1 ∷ 2 ∷ 3 ∷ 4 ∷ 5 ∷ 5 ∷ [])) ≡ Some 6
  pub order_detail : option_map detail (order_fault (1 ∷ 2 ∷ 3 ∷ 4 ∷ 5 ∷ 5 ∷ [])) ≡ Some 6
  -- the first search of the sample, under two orders
  pub pairs_by_ports : pairs (4 ∷ 5 ∷ 1 ∷ 2 ∷ 3 ∷ 6 ∷ []) inside (standing (take 3 sample)) ≡ 19
  pub pairs_in_turn : pairs (1 ∷ 2 ∷ 3 ∷ 4 ∷ 5 ∷ 6 ∷ []) inside (standing (take 3 sample)) ≡ 21
  -- the answers of the whole sample
  pub replies : answers (1 ∷ 2 ∷ 3 ∷ 4 ∷ 5 ∷ 6 ∷ []) [] sample ≡ Ok (added 6 5) ∷ Ok (added 3 5) ∷ Ok (added 1 5) ∷ Ok (searched (Some (record { identifier = 1; flow = 10 })) 1 21) ∷ Ok (removed 1 5) ∷ Err (Unknown 2) ∷ Ok (counted 2) ∷ Ok (searched None 0 5) ∷ []
