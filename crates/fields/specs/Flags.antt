-- Flag masks: the bits of the mask count, and must be as wanted.
use Rattle.std.specs.Prelude.{ℕ, Bool, not, ◌&&◌, Option, ◌==◌, bit_and}
use Rattle.fields.specs.Faults.{when}
use Rattle.fields.specs.declared.faults.Fault.{Fault}
use Rattle.fields.specs.declared.faults.Fault.TheVariants.{Flags}
use Rattle.fields.specs.declared.flags.FlagRow.{FlagRow}

-- a row is a flag mask's if no wanted bit lies outside the mask
abbrev pub flag_fault : FlagRow → Option Fault
flag_fault r = when (not (bit_and r.wanted r.mask == r.wanted)) (Flags r.mask)

abbrev pub flag_takes : FlagRow → ℕ → Bool
flag_takes r n = bit_and n r.mask == r.wanted

abbrev pub same_flags : FlagRow → FlagRow → Bool
same_flags r s = r.mask == s.mask && r.wanted == s.wanted
