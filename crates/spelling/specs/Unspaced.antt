-- No word has a space.
use Rattle.std.specs.Prelude.{ℕ, ◌^◌, ◌<◌, List, [], ◌∷◌, decimal, ◌≢◌}
use Rattle.std.proofs.Common.{arith}
use Rattle.fields.specs.declared.prefixes.PrefixRow.{PrefixRow}
use Rattle.fields.specs.declared.ranges.RangeRow.{RangeRow}
use Rattle.fields.specs.declared.protocols.ProtocolRow.{ProtocolRow}
use Rattle.fields.specs.declared.protocols.ProtocolRow.TheVariants.{Any, Only}
use Rattle.words.specs.Texts.{joined, hex, prefix_text, range_text, protocol_text, PrefixFits, RangeFits, ProtocolFits}
use Rattle.words.specs.Reading.{Free}
use Rattle.words.proofs.DecimalWords.{decimal_free}
use Rattle.words.proofs.HexWords.{hex_free}
use Rattle.words.proofs.RowWords.{not_hex}

free_joined : (s t : ℕ) (a b : List ℕ) → (t ≢ s) → Free s a → Free s b → Free s (joined a t b)
free_joined s t [] b ne f g = (ne, g)
free_joined s t (x ∷ a) b ne f g = (f.0, free_joined s t a b ne f.1 g)

pub decimal_unspaced : (n : ℕ) → n < 2 ^ 16 → Free 32 (decimal n)
decimal_unspaced n small = decimal_free 32 (λ h. omega (arith, h.0)) n small

hex_unspaced : (k n : ℕ) → Free 32 (hex k n)
hex_unspaced k n = hex_free 32 (not_hex 32 (omega arith) (λ h. omega (arith, h.0))) k n

pub prefix_unspaced : (r : PrefixRow) → PrefixFits r → Free 32 (prefix_text r)
prefix_unspaced r f = free_joined 32 47 (hex 8 r.address) (decimal r.length) (λ e. omega arith) (hex_unspaced 8 r.address) (decimal_unspaced r.length (omega (arith, f.1)))

pub range_unspaced : (r : RangeRow) → RangeFits r → Free 32 (range_text r)
range_unspaced r f = free_joined 32 58 (decimal r.low) (decimal r.high) (λ e. omega arith) (decimal_unspaced r.low f.0) (decimal_unspaced r.high f.1)

pub protocol_unspaced : (r : ProtocolRow) → ProtocolFits r → Free 32 (protocol_text r)
protocol_unspaced Any f = (λ e. omega arith, tt)
protocol_unspaced (Only p) f = decimal_unspaced p (omega arith)
