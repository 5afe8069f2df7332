-- Values that the same numbers satisfy have the same row, kind by kind.
use Rattle.std.proofs.Common.{◌≡◌, ℕ, ◌+◌, ◌-◌, ◌%◌, ◌^◌, ◌<◌, ◌≤◌, true, ◌&&◌, eqb, sym, refl, ap, ◌∙◌, ⊎_elim, arith, pow_pos}
use lib.Bits.{bit_and, and_le_l, and_le_r}
use Rattle.std.proofs.lemmas.Nat.{pow_below}
use Rattle.std.proofs.lemmas.Bool.{eqb-true, eq-eqb, ltb-true, cases_order}
use Rattle.std.proofs.lemmas.Bool.Decides.{nat_tests}
use Rattle.fields.specs.declared.prefixes.PrefixRow.{PrefixRow}
use Rattle.fields.specs.declared.ranges.RangeRow.{RangeRow}
use Rattle.fields.specs.declared.protocols.ProtocolRow.{ProtocolRow}
use Rattle.fields.specs.declared.protocols.ProtocolRow.TheVariants.{Any, Only}
use Rattle.fields.specs.declared.flags.FlagRow.{FlagRow}
use Rattle.fields.specs.Prefixes.{prefix_takes, same_prefix}
use Rattle.fields.specs.Ranges.{range_takes, same_range}
use Rattle.fields.specs.Protocols.{protocol_takes, same_protocol, fits_byte}
use Rattle.fields.specs.Flags.{flag_takes, same_flags}
use Rattle.fields.specs.Blocks.{block_from_bits, bits_from_block, block_fits}
use Rattle.fields.specs.Masks.{filled, filled_masked, filled_lt, mask_within}

both_eqb : (a b c d : ℕ) → a ≡ b → c ≡ d → (eqb a b && eqb c d) ≡ true
both_eqb a b c d e f = grind (arith, nat_tests)

-- a prefix takes a block of addresses: equal blocks begin together and end together
module _ where
  -- how many addresses it takes
  abbrev size : PrefixRow → ℕ
  size a = 2 ^ (32 - a.length)

  abbrev Clean : PrefixRow → Type 0
  Clean a = a.address % 2 ^ (32 - a.length) ≡ 0

  -- what lies in the block of a lies in the block of b
  prefix_carried : (a b : PrefixRow) → Clean a → Clean b → ((n : ℕ) → n < 2 ^ 32 → prefix_takes a n ≡ prefix_takes b n) → (n : ℕ) → n < 2 ^ 32 → a.address ≤ n → n < a.address + size a → (b.address ≤ n) × (n < b.address + size b)
  prefix_carried a b clean other h n small low high =
      block_from_bits b.address (32 - b.length) n other
      (eqb-true _ _ (sym (h n small) ∙ eq-eqb _ _ (bits_from_block a.address (32 - a.length) n clean low high)))

  -- the first and the last address of a
  ends : (a b : PrefixRow) → Clean a → Clean b → a.address < 2 ^ 32 → ((n : ℕ) → n < 2 ^ 32 → prefix_takes a n ≡ prefix_takes b n) → (b.address ≤ a.address) × (a.address + size a ≤ b.address + size b)
  ends a b clean other fits h =
      let p = pow_pos (32 - a.length) in
      let f = block_fits a.address (32 - a.length) 32 (omega arith) clean fits in
      let first = prefix_carried a b clean other h a.address fits (omega arith) (omega arith) in
      let last = prefix_carried a b clean other h (a.address + size a - 1) (omega arith) (omega arith) (omega arith) in
      (first.0, omega (arith, last.1))

  same_power : (j k : ℕ) → 2 ^ j ≡ 2 ^ k → j ≡ k
  same_power j k e =
      ⊎_elim (λ h. h) (⊎_elim (λ h. let l = pow_below j k h in omega arith) (λ h. let l = pow_below k j h in omega arith)) (cases_order j k)

pub prefix_rows : (a b : PrefixRow) → a.length ≤ 32 → b.length ≤ 32 → a.address % 2 ^ (32 - a.length) ≡ 0 → b.address % 2 ^ (32 - b.length) ≡ 0 → a.address < 2 ^ 32 → b.address < 2 ^ 32
    → ((n : ℕ) → n < 2 ^ 32 → prefix_takes a n ≡ prefix_takes b n) → same_prefix a b ≡ true
prefix_rows a b s t clean other f g h =
    let p = ends a b clean other f h in
    let q = ends b a other clean g (λ n s. sym (h n s)) in
    let k = same_power (32 - a.length) (32 - b.length) (omega (arith, p.1, q.1)) in
    both_eqb a.address b.address a.length b.length (omega (arith, p.0, q.0)) (omega arith)

-- the ends tell: each range takes its own, so it takes the other's
pub range_rows : (a b : RangeRow) → a.low ≤ a.high → b.low ≤ b.high → a.high < 2 ^ 16 → b.high < 2 ^ 16
    → ((n : ℕ) → n < 2 ^ 16 → range_takes a n ≡ range_takes b n) → same_range a b ≡ true
range_rows a b s t f g h =
    let p = h a.low (omega arith) in
    let q = h b.low (omega arith) in
    let p' = h a.high (omega arith) in
    let q' = h b.high (omega arith) in
    let low : a.low ≡ b.low = grind (arith, nat_tests) in
    let high : a.high ≡ b.high = grind (arith, nat_tests) in
    both_eqb a.low b.low a.high b.high low high

-- one number takes itself and not the next; any takes both
not_any : (p : ℕ) → ((n : ℕ) → n < 2 ^ 8 → true ≡ eqb n p) → ⊥
not_any p h =
    let x = h 0 (omega arith) in
    let y = h 1 (omega arith) in
    grind (arith, nat_tests)

pub protocol_rows : (r s : ProtocolRow) → fits_byte r ≡ true → fits_byte s ≡ true → ((n : ℕ) → n < 2 ^ 8 → protocol_takes r n ≡ protocol_takes s n) → same_protocol r s ≡ true
protocol_rows Any Any f g h = refl
protocol_rows Any (Only q) f g h = absurd (not_any q h)
protocol_rows (Only p) Any f g h = absurd (not_any p (λ n s. sym (h n s)))
protocol_rows (Only p) (Only q) f g h =
    let x = h p (ltb-true p (2 ^ 8) f) in
    grind (arith, nat_tests)

-- each mask takes its wanted bits, alone and with every bit outside it
module _ where
  -- what a takes, b takes
  flags_carried : (a b : FlagRow) → ((n : ℕ) → n < 2 ^ 8 → flag_takes a n ≡ flag_takes b n) → (n : ℕ) → n < 2 ^ 8 → bit_and n a.mask ≡ a.wanted → bit_and n b.mask ≡ b.wanted
  flags_carried a b h n small e = eqb-true _ _ (sym (h n small) ∙ eq-eqb _ _ e)

  wanted_small : (a : FlagRow) → bit_and a.wanted a.mask ≡ a.wanted → a.mask < 2 ^ 8 → a.wanted < 2 ^ 8
  wanted_small a i f = let l = and_le_r a.wanted a.mask in omega arith

  wanted_le : (a b : FlagRow) → bit_and a.wanted a.mask ≡ a.wanted → a.mask < 2 ^ 8 → ((n : ℕ) → n < 2 ^ 8 → flag_takes a n ≡ flag_takes b n) → b.wanted ≤ a.wanted
  wanted_le a b i f h =
      let e = flags_carried a b h a.wanted (wanted_small a i f) i in
      let l = and_le_l a.wanted b.mask in
      omega arith

  mask_le : (a b : FlagRow) → bit_and a.wanted a.mask ≡ a.wanted → bit_and b.wanted b.mask ≡ b.wanted → a.mask < 2 ^ 8 → b.mask < 2 ^ 8 → ((n : ℕ) → n < 2 ^ 8 → flag_takes a n ≡ flag_takes b n) → a.wanted ≡ b.wanted → b.mask ≤ a.mask
  mask_le a b i j f g h same =
      let n : ℕ = filled 8 a.mask a.wanted in
      let e = flags_carried a b h n (filled_lt 8 a.mask a.wanted f (wanted_small a i f)) (filled_masked 8 a.mask a.wanted f i) in
      mask_within 8 a.mask b.mask a.wanted g
      (ap (λ (w : ℕ). bit_and w b.mask) same ∙ j ∙ sym same) (e ∙ sym same)

pub flag_rows : (a b : FlagRow) → bit_and a.wanted a.mask ≡ a.wanted → bit_and b.wanted b.mask ≡ b.wanted → a.mask < 2 ^ 8 → b.mask < 2 ^ 8
    → ((n : ℕ) → n < 2 ^ 8 → flag_takes a n ≡ flag_takes b n) → same_flags a b ≡ true
flag_rows a b i j f g h =
    let k : (n : ℕ) → n < 2 ^ 8 → flag_takes b n ≡ flag_takes a n = λ n s. sym (h n s) in
    let p = wanted_le a b i f h in
    let q = wanted_le b a j g k in
    let wanted : a.wanted ≡ b.wanted = omega arith in
    let p' = mask_le a b i j f g h wanted in
    let q' = mask_le b a j i g f k (sym wanted) in
    both_eqb a.mask b.mask a.wanted b.wanted (omega arith) wanted
