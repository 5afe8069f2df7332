-- Port ranges: from low to high, both ends included.
use Rattle.std.specs.Prelude.{ℕ, Bool, not, ◌&&◌, Option, ◌==◌, nat_le}
use Rattle.fields.specs.Faults.{when}
use Rattle.fields.specs.declared.faults.Fault.{Fault}
use Rattle.fields.specs.declared.faults.Fault.TheVariants.{Range}
use Rattle.fields.specs.declared.ranges.RangeRow.{RangeRow}

-- a row is a range's if low is at most high
abbrev pub range_fault : RangeRow → Option Fault
range_fault r = when (not (nat_le r.low r.high)) (Range r.low)

abbrev pub range_takes : RangeRow → ℕ → Bool
range_takes r n = nat_le r.low n && nat_le n r.high

abbrev pub same_range : RangeRow → RangeRow → Bool
same_range r s = r.low == s.low && r.high == s.high
