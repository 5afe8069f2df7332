-- Protocols: one number, or any. Every row is a protocol's.
use Rattle.std.specs.Prelude.{ℕ, ◌^◌, Bool, true, false, None, Option, ◌==◌, nat_lt}
use Rattle.fields.specs.declared.faults.Fault.{Fault}
use Rattle.fields.specs.declared.protocols.ProtocolRow.{ProtocolRow}
use Rattle.fields.specs.declared.protocols.ProtocolRow.TheVariants.{Any, Only}

abbrev pub protocol_fault : ProtocolRow → Option Fault
protocol_fault r = None

abbrev pub protocol_takes : ProtocolRow → ℕ → Bool
protocol_takes Any n = true
protocol_takes (Only p) n = n == p

-- a number has 8 bits
abbrev pub fits_byte : ProtocolRow → Bool
fits_byte Any = true
fits_byte (Only p) = nat_lt p (2 ^ 8)

abbrev pub same_protocol : ProtocolRow → ProtocolRow → Bool
same_protocol Any Any = true
same_protocol Any (Only q) = false
same_protocol (Only p) Any = false
same_protocol (Only p) (Only q) = p == q
