-- How values are written: the one definition of the words of a line. A byte is its ASCII code.
use Rattle.std.specs.Prelude.{ℕ, zero, suc, ◌+◌, ◌/◌, ◌%◌, ◌^◌, ◌<◌, cond, List, [], ◌∷◌, ◌++◌, decimal, nat_lt}
use Rattle.fields.specs.declared.prefixes.PrefixRow.{PrefixRow}
use Rattle.fields.specs.declared.ranges.RangeRow.{RangeRow}
use Rattle.fields.specs.declared.protocols.ProtocolRow.{ProtocolRow}
use Rattle.fields.specs.declared.protocols.ProtocolRow.TheVariants.{Any, Only}
use Rattle.fields.specs.declared.flags.FlagRow.{FlagRow}

-- a hexadecimal digit: 0 to 9, then A to F
abbrev pub hex_digit : ℕ → ℕ
hex_digit d = cond (nat_lt d 10) (48 + d) (55 + d)

-- a number in hexadecimal, in exactly so many digits
abbrev pub hex : ℕ → ℕ → List ℕ
hex zero n = []
hex (suc k) n = hex k (n / 16) ++ hex_digit (n % 16) ∷ []

-- two words with a separator between them
abbrev pub joined : List ℕ → ℕ → List ℕ → List ℕ
joined a separator b = a ++ separator ∷ b

-- ADDRESS/length
abbrev pub prefix_text : PrefixRow → List ℕ
prefix_text r = joined (hex 8 r.address) 47 (decimal r.length)

-- low:high
abbrev pub range_text : RangeRow → List ℕ
range_text r = joined (decimal r.low) 58 (decimal r.high)

-- * for any
abbrev pub protocol_text : ProtocolRow → List ℕ
protocol_text Any = 42 ∷ []
protocol_text (Only p) = decimal p

-- mask=wanted
abbrev pub flag_text : FlagRow → List ℕ
flag_text r = joined (hex 2 r.mask) 61 (hex 2 r.wanted)

-- each number of a row fits its width
abbrev pub PrefixFits : PrefixRow → Type 0
PrefixFits r = (r.address < 2 ^ 32) × (r.length < 2 ^ 8)

abbrev pub RangeFits : RangeRow → Type 0
RangeFits r = (r.low < 2 ^ 16) × (r.high < 2 ^ 16)

abbrev pub ProtocolFits : ProtocolRow → Type 0
ProtocolFits Any = Unit {0}
ProtocolFits (Only p) = p < 2 ^ 8

abbrev pub FlagFits : FlagRow → Type 0
FlagFits r = (r.mask < 2 ^ 8) × (r.wanted < 2 ^ 8)
