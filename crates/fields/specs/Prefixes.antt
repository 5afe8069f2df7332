-- Address prefixes: a 32-bit address of which the first bits count, as many as the length says.
use Rattle.std.specs.Prelude.{ℕ, ◌-◌, ◌/◌, ◌%◌, ◌^◌, Bool, not, ◌&&◌, Option, ◌==◌, nat_le}
use Rattle.fields.specs.Faults.{when}
use Rattle.fields.specs.declared.faults.Fault.{Fault}
use Rattle.fields.specs.declared.faults.Fault.TheVariants.{Prefix}
use Rattle.fields.specs.declared.prefixes.PrefixRow.{PrefixRow}

-- the first bits of a 32-bit number, and what is left behind them
abbrev pub first_bits : ℕ → ℕ → ℕ
first_bits length n = n / 2 ^ (32 - length)

abbrev pub other_bits : ℕ → ℕ → ℕ
other_bits length n = n % 2 ^ (32 - length)

-- a row is a prefix's if its length is at most 32 and no 1 stands beyond it
abbrev pub prefix_fault : PrefixRow → Option Fault
prefix_fault r = when (not (nat_le r.length 32 && other_bits r.length r.address == 0)) (Prefix r.length)

-- a number satisfies a prefix if their first bits agree
abbrev pub prefix_takes : PrefixRow → ℕ → Bool
prefix_takes r n = first_bits r.length n == first_bits r.length r.address

abbrev pub same_prefix : PrefixRow → PrefixRow → Bool
same_prefix r s = r.address == s.address && r.length == s.length
