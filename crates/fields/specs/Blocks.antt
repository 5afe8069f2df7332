-- The numbers that a prefix takes are a block: from its address on, as many as its other bits can write.
use Rattle.std.proofs.Common.{◌≡◌, ℕ, suc, ◌+◌, ◌-◌, ◌*◌, ◌/◌, ◌%◌, ◌^◌, ◌<◌, ◌≤◌, ap, ◌∙◌, mul-le-mul_right, mod-lt, suc-mul, div-add-mod', arith, pow_pos}
use Rattle.std.proofs.lemmas.Nat.{div-mul-add, pow-add, div_below}

pub block_from_bits : (a k n : ℕ) → a % 2 ^ k ≡ 0 → n / 2 ^ k ≡ a / 2 ^ k → (a ≤ n) × (n < a + 2 ^ k)
block_from_bits a k n clean e =
    let p = pow_pos k in
    let x = div-add-mod' n (2 ^ k) in
    let y = div-add-mod' a (2 ^ k) in
    let l = mod-lt n p in
    let z : n / 2 ^ k * 2 ^ k ≡ a / 2 ^ k * 2 ^ k = ap (λ q. q * 2 ^ k) e in
    (omega arith, omega arith)

pub bits_from_block : (a k n : ℕ) → a % 2 ^ k ≡ 0 → a ≤ n → n < a + 2 ^ k → n / 2 ^ k ≡ a / 2 ^ k
bits_from_block a k n clean low high =
    let y = div-add-mod' a (2 ^ k) in
    let e : n ≡ a / 2 ^ k * 2 ^ k + (n - a) = omega arith in
    ap (λ m. m / 2 ^ k) e ∙ div-mul-add (a / 2 ^ k) (2 ^ k) (n - a) (omega arith)

-- a block of a clean number ends within the field
pub block_fits : (a k w : ℕ) → k ≤ w → a % 2 ^ k ≡ 0 → a < 2 ^ w → a + 2 ^ k ≤ 2 ^ w
block_fits a k w le clean small =
    let e : 2 ^ w ≡ 2 ^ (w - k) * 2 ^ k = ap (λ (n : ℕ). 2 ^ n) (omega arith) ∙ pow-add 2 (w - k) k in
    let y = div-add-mod' a (2 ^ k) in
    let q : a / 2 ^ k < 2 ^ (w - k) = div_below a (2 ^ k) (2 ^ (w - k)) (pow_pos k) (omega arith) in
    let m = mul-le-mul_right (2 ^ k) q in
    let s : suc (a / 2 ^ k) * 2 ^ k ≡ a / 2 ^ k * 2 ^ k + 2 ^ k = suc-mul (a / 2 ^ k) (2 ^ k) in
    omega arith
