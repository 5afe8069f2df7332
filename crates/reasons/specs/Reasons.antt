-- Why a value does not take a number. A reason speaks of a row that is lawful and does not take the number.
use Rattle.std.specs.Prelude.{◌≡◌, ℕ, ◌-◌, ◌<◌, ◌≤◌, Bool, true, false, Some, None, Ok, Err, Option, Result, ◌≢◌, bit_and, bit_xor}
use Rattle.fields.specs.declared.faults.Fault.{Fault}
use Rattle.fields.specs.declared.prefixes.PrefixRow.{PrefixRow}
use Rattle.fields.specs.declared.ranges.RangeRow.{RangeRow}
use Rattle.fields.specs.declared.protocols.ProtocolRow.{ProtocolRow}
use Rattle.fields.specs.declared.protocols.ProtocolRow.TheVariants.{Only}
use Rattle.fields.specs.declared.flags.FlagRow.{FlagRow}
use Rattle.fields.specs.Prefixes.{first_bits}
use Rattle.reasons.specs.declared.sides.Side.{Side}
use Rattle.reasons.specs.declared.sides.Side.TheVariants.{Beneath, Above}

-- an answer tells the fault, or that the number is taken, or why it is not
abbrev pub Explains : {R : Type 0} → Option Fault → Bool → (R → Type 0) → Result (Option R) Fault → Type 0
Explains fault takes Why (Err f) = fault ≡ Some f
Explains fault takes Why (Ok None) = (fault ≡ None) × (takes ≡ true)
Explains fault takes Why (Ok (Some w)) = (fault ≡ None) × (takes ≡ false) × Why w

-- bit k, counted from 1, is the first in which the number differs from the address
abbrev pub FirstDifference : PrefixRow → ℕ → ℕ → Type 0
FirstDifference r n k = (1 ≤ k) × (k ≤ r.length) × (first_bits (k - 1) n ≡ first_bits (k - 1) r.address) × (first_bits k n ≢ first_bits k r.address)

abbrev pub Beyond : RangeRow → ℕ → Side → Type 0
Beyond r n Beneath = n < r.low
Beyond r n Above = r.high < n

-- the protocol takes p alone, and the number is another
abbrev pub OtherThan : ProtocolRow → ℕ → ℕ → Type 0
OtherThan r n p = (r ≡ Only p) × (n ≢ p)

-- the bits of the mask in which the number is not as wanted
abbrev pub Differing : FlagRow → ℕ → ℕ → Type 0
Differing r n b = b ≡ bit_xor (bit_and n r.mask) r.wanted
