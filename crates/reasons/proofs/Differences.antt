-- The first bit in which a number differs from an address, from the zeros that their exclusive or begins with.
use Rattle.std.proofs.Common.{◌≡◌, ℕ, suc, ◌+◌, ◌-◌, ◌/◌, ◌^◌, ◌<◌, ◌≤◌, false, sym, ap, ◌∙◌, subst, ⊎_elim, arith, pow_pos}
use native.Mathlib.Nat.{div-eq_of_lt, pow-le-pow_right}
use lib.Bits.{bit_xor, xor_shr, xor_lt, xor_self}
use lib.Count.{count_leading_zeros}
use Rattle.std.proofs.lemmas.Nat.{leading_top, le-div}
use Rattle.std.proofs.lemmas.Bool.{cases_lt, both_ways, eq-eqb}
use Rattle.fields.specs.declared.prefixes.PrefixRow.{PrefixRow}
use Rattle.fields.specs.Prefixes.{prefix_takes}
use Rattle.fields.specs.Masks.{same_if_xor_zero}
use Rattle.reasons.specs.Reasons.{FirstDifference}

-- numbers agree above a place where their exclusive or ends, and not below it
agree : (m n a : ℕ) → bit_xor n a < 2 ^ m → n / 2 ^ m ≡ a / 2 ^ m
agree m n a l = sym (same_if_xor_zero (n / 2 ^ m) (a / 2 ^ m) (sym (xor_shr n a m) ∙ div-eq_of_lt l))

apart : (m n a : ℕ) → 2 ^ m ≤ bit_xor n a → n / 2 ^ m ≡ a / 2 ^ m → ⊥
apart m n a l e =
    let p = pow_pos m in
    let q = le-div 1 (bit_xor n a) (2 ^ m) p (omega arith) in
    let z : bit_xor n a / 2 ^ m ≡ 0 = xor_shr n a m ∙ ap (bit_xor (n / 2 ^ m)) (sym e) ∙ xor_self (n / 2 ^ m) in
    omega arith

pub first_difference : (r : PrefixRow) (n : ℕ) → r.length ≤ 32 → r.address < 2 ^ 32 → n < 2 ^ 32 → prefix_takes r n ≡ false → FirstDifference r n (count_leading_zeros 32 (bit_xor n r.address) + 1)
first_difference r n short fits small not_taken =
    let a = r.address in
    let x = bit_xor n a in
    let z = count_leading_zeros 32 x in
    let never : (m : ℕ) → m ≤ 32 - r.length → x < 2 ^ m → ⊥ =
    λ m le lt.
    let b : 0 < 2 = omega arith in
    let p : 2 ^ m ≤ 2 ^ (32 - r.length) = pow-le-pow_right b le in
    both_ways (prefix_takes r n) not_taken (eq-eqb _ _ (agree (32 - r.length) n a (omega arith))) in
    let positive : 0 < x = ⊎_elim (λ (h : 0 < x). h) (λ (h : x ≤ 0). absurd (never 0 (omega arith) (omega arith))) (cases_lt 0 x) in
    let top = leading_top 32 x positive (xor_lt 32 n a small fits) in
    let j = top.0 in
    let whole : z + suc j ≡ 32 = top.1 in
    let high : 32 - (z + 1 - 1) ≡ suc j = omega arith in
    let low : 32 - (z + 1) ≡ j = omega arith in
    let within : z + 1 ≤ r.length =
    ⊎_elim (λ (h : r.length < z + 1). absurd (never (suc j) (omega arith) top.3)) (λ (h : z + 1 ≤ r.length). h) (cases_lt r.length (z + 1)) in (
      omega arith,
      within,
      subst (λ (m : ℕ). n / 2 ^ m ≡ a / 2 ^ m) (sym high) (agree (suc j) n a top.3),
      subst (λ (m : ℕ). n / 2 ^ m ≡ a / 2 ^ m → ⊥) (sym low) (apart j n a top.2),
    )
