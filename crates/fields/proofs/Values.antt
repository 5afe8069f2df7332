-- A value is its row: values with one row are one value, and comparing rows decides whether values are the same.
use Rattle.std.proofs.Common.{◌≡◌, Decides, arith, rules}
use Rattle.fields.specs.declared.prefixes.Prefix.{Prefix}
use Rattle.fields.specs.declared.ranges.PortRange.{PortRange}
use Rattle.fields.specs.declared.protocols.Protocol.{Protocol}
use Rattle.fields.specs.declared.flags.FlagMask.{FlagMask}
use Rattle.fields.specs.contracts.prefixes.Prefix.{the_row as prefix_row}
use Rattle.fields.specs.contracts.ranges.PortRange.{the_row as range_row}
use Rattle.fields.specs.contracts.protocols.Protocol.{the_row as protocol_row}
use Rattle.fields.specs.contracts.flags.FlagMask.{the_row as flags_row}
use Rattle.fields.specs.Prefixes.{same_prefix}
use Rattle.fields.specs.Ranges.{same_range}
use Rattle.fields.specs.Protocols.{same_protocol}
use Rattle.fields.specs.Flags.{same_flags}

pub prefix_from_row : (a b : Prefix) → a.row ≡ b.row → a ≡ b
prefix_from_row a b e = grind (arith, prefix_row.coded.inj)

pub range_from_row : (a b : PortRange) → a.row ≡ b.row → a ≡ b
range_from_row a b e = grind (arith, range_row.coded.inj)

pub protocol_from_row : (a b : Protocol) → a.row ≡ b.row → a ≡ b
protocol_from_row a b e = grind (arith, protocol_row.coded.inj)

pub flags_from_row : (a b : FlagMask) → a.row ≡ b.row → a ≡ b
flags_from_row a b e = grind (arith, flags_row.coded.inj)

pub prefix_decides : (a b : Prefix) → Decides (same_prefix a.row b.row) (a ≡ b)
prefix_decides a b = grind (arith, prefix_row.coded.inj)

pub range_decides : (a b : PortRange) → Decides (same_range a.row b.row) (a ≡ b)
range_decides a b = grind (arith, range_row.coded.inj)

pub protocol_decides : (a b : Protocol) → Decides (same_protocol a.row b.row) (a ≡ b)
protocol_decides a b = first_of (search rules, grind (arith, protocol_row.coded.inj))

pub flags_decides : (a b : FlagMask) → Decides (same_flags a.row b.row) (a ≡ b)
flags_decides a b = grind (arith, flags_row.coded.inj)
