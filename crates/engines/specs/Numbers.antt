-- What the direct engine keeps: the values at their places, and for each protocol value the label of its place.
use Rattle.std.specs.Prelude.{◌≡◌, ℕ, true, length, Some, None, Option, slice_index_or}
use Rattle.fields.specs.declared.protocols.Protocol.{Protocol}
use Rattle.fields.specs.declared.protocols.ProtocolRow.{ProtocolRow}
use Rattle.fields.specs.declared.protocols.ProtocolRow.TheVariants.{Any, Only}
use Rattle.fields.specs.Protocols.{fits_byte}
use Rattle.parts.specs.Meaning.{Meaning, Proper}
use Rattle.engines.specs.declared.direct.Direct.{Direct}

-- the label kept for a value: one for any, and one for each number
abbrev pub kept_label : Direct → ProtocolRow → Option ℕ
kept_label s Any = s.any
kept_label s (Only p) = slice_index_or s.numbered p None

-- a label is kept for a value exactly if the place of that label holds it
pub record Names (s : Direct) : Type 0 where
  pub numbers : length s.numbered ≡ 256
  pub there : (l : ℕ) (r : ProtocolRow) → fits_byte r ≡ true → kept_label s r ≡ Some l → (v : Protocol) × (slice_index_or s.held l None ≡ Some v) × (v.row ≡ r)
  pub named : (l : ℕ) (v : Protocol) → slice_index_or s.held l None ≡ Some v → kept_label s v.row ≡ Some l

-- the engine shows a meaning, and was asked as often
pub record Reached (s : Direct) (m : Meaning Protocol) : Type 0 where
  pub places : m.places ≡ s.held
  pub names : Names s
  pub proper : Proper m
  pub counted : s.asked ≡ m.asked
