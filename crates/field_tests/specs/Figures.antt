-- Figures that the definitions of values and orders must give.
use Rattle.std.specs.Prelude.{◌≡◌, ℕ, true, false, [], ◌∷◌, Some, None}
use Rattle.fields.specs.declared.faults.Fault.TheVariants.{Prefix, Range, Order}
use Rattle.fields.specs.declared.prefixes.PrefixRow.{PrefixRow}
use Rattle.fields.specs.declared.ranges.RangeRow.{RangeRow}
use Rattle.fields.specs.declared.flags.FlagRow.{FlagRow}
use Rattle.fields.specs.Prefixes.{prefix_fault, prefix_takes}
use Rattle.fields.specs.Ranges.{range_fault, range_takes}
use Rattle.fields.specs.Flags.{flag_takes}
use Rattle.fields.specs.Orders.{order_fault}
use Rattle.words.specs.Texts.{flag_text}

abbrev prefix : ℕ → ℕ → PrefixRow
prefix a l = record { address = a; length = l }

abbrev range : ℕ → ℕ → RangeRow
range l h = record { low = l; high = h }

abbrev flags : ℕ → ℕ → FlagRow
flags m w = record { mask = m; wanted = w }

pub record Figures : Type 0 where
  pub takes_inside : prefix_takes (prefix 0x0A000000 8) 0x0AFFFFFF ≡ true
  pub leaves_outside : prefix_takes (prefix 0x0A000000 8) 0x0B000000 ≡ false
  pub bit_beyond : prefix_fault (prefix 0x0A000001 8) ≡ Some (Prefix 8)
  pub too_long : prefix_fault (prefix 0x0A000000 33) ≡ Some (Prefix 33)
  pub end_included : range_takes (range 5 5) 5 ≡ true
  pub past_the_end : range_takes (range 5 5) 6 ≡ false
  pub upside_down : range_fault (range 6 5) ≡ Some (Range 6)
  pub as_wanted : flag_takes (flags 0x12 0x02) 0x0A ≡ true
  pub not_as_wanted : flag_takes (flags 0x12 0x02) 0x12 ≡ false
  pub repeated : order_fault (1 ∷ 2 ∷ 3 ∷ 4 ∷ 5 ∷ 5 ∷ []) ≡ Some (Order 6)
  pub each_once : order_fault (4 ∷ 5 ∷ 1 ∷ 2 ∷ 3 ∷ 6 ∷ []) ≡ None
  -- 12=02
  pub written : flag_text (flags 0x12 0x02) ≡ 49 ∷ 50 ∷ 61 ∷ 48 ∷ 50 ∷ []
