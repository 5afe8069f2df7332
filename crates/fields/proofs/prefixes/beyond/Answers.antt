use Rattle.std.proofs.Common.{◌≡◌, ℕ, suc, ◌+◌, ◌-◌, ◌*◌, ◌/◌, ◌^◌, ◌<◌, ◌≤◌, ap, ◌∙◌, Some, None, Option, refl, arith, pow_pos, suc-mul}
use Rattle.std.specs.Option.{SomeIff, unwrap_or}
use lib.Bits.{bit_and, and_mask}
use Rattle.std.proofs.lemmas.Nat.{div-mul-add, pow-add}
use Rattle.fields.proofs.prefixes.beyond.Goals as goal

-- the bits beyond the first l are all set
ones : (l : ℕ) → l ≤ 32 → (2 ^ 32 - 1) / 2 ^ l ≡ 2 ^ (32 - l) - 1
ones l le =
    let a : ℕ = 2 ^ (32 - l) in
    let b : ℕ = 2 ^ l in
    let p = pow_pos (32 - l) in
    let q = pow_pos l in
    let sum : 32 ≡ 32 - l + l = omega arith in
    let whole : 2 ^ 32 ≡ a * b = ap (λ (n : ℕ). 2 ^ n) sum ∙ pow-add 2 (32 - l) l in
    let one : suc (a - 1) * b ≡ (a - 1) * b + b = suc-mul (a - 1) b in
    let again : suc (a - 1) ≡ a = omega arith in
    let back : suc (a - 1) * b ≡ a * b = ap (λ (n : ℕ). n * b) again in
    let parts : 2 ^ 32 - 1 ≡ (a - 1) * b + (b - 1) = omega arith in
    ap (λ (n : ℕ). n / b) parts ∙ div-mul-add (a - 1) b (b - 1) (omega arith)

mask_of : (r : Option ℕ) (l : ℕ) → l ≤ 32 → SomeIff r (l < 32) (4294967295 / 2 ^ l) → unwrap_or r 0 ≡ 2 ^ (32 - l) - 1
mask_of None l le h = let e : l ≡ 32 = omega (arith, h) in rw e refl
mask_of (Some v) l le h = h.1 ∙ ones l le

pub returns : goal.returns
returns c =
    ap (bit_and c.args.number) (c.unwrap_or.ensures ∙ mask_of c.checked_shr.result c.args.length c.requires c.checked_shr.ensures) ∙ and_mask c.args.number (32 - c.args.length)
