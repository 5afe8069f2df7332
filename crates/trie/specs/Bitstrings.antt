-- Bit strings as numbers: their bits, their lengths, and what a shift makes of them.
use Rattle.std.specs.Prelude.{◌≡◌, ℕ, zero, suc, ◌+◌, ◌-◌, ◌*◌, ◌/◌, ◌%◌, ◌^◌, ◌<◌, ◌≤◌, ◌⊎◌, Some, None, Option, ◌≢◌}
use Rattle.std.proofs.Common.{sym, ap, subst, ◌∙◌, inl, inr, ⊎_elim, arith, pow_pos, pow_mono}
use Rattle.std.proofs.Math.Nat.{div-add-mod, mul-add-div_right}
use Rattle.std.proofs.lemmas.Nat.{pow-add, shr_below, shr-shr, shr_split, mod_below}
use Rattle.std.proofs.lemmas.Bool.{cases_order, cases_lt}
use Rattle.fields.specs.declared.prefixes.Prefix.{Prefix}
use Rattle.fields.specs.declared.prefixes.PrefixRow.{PrefixRow}
use Rattle.fields.proofs.Values.{prefix_from_row}
use Rattle.trie.specs.Strings.{string, bit_after, code, first_strings, Among}

-- numbers that go on by a bit
pub half : (y b : ℕ) → b < 2 → (2 * y + b) / 2 ≡ y
half y b h = omega (arith, div-add-mod (2 * y + b) 2, mod_below (2 * y + b) 2 (omega arith))

pub shorter : (x j y b : ℕ) → b < 2 → x / 2 ^ j ≡ 2 * y + b → x / 2 ^ (j + 1) ≡ y
shorter x j y b h e = sym (shr-shr x j 1) ∙ ap (λ (n : ℕ). n / 2) e ∙ half y b h

pub shift_in : (y b j : ℕ) → b < 2 → (2 * y + b) / 2 ^ (1 + j) ≡ y / 2 ^ j
shift_in y b j h = sym (shr-shr (2 * y + b) 1 j) ∙ ap (λ (n : ℕ). n / 2 ^ j) (half y b h)

pub shift_none : (x : ℕ) → x / 2 ^ 0 ≡ x
shift_none x = omega (arith, div-add-mod x 1, mod_below x 1 (omega arith))

pub same_parent : (x y b d : ℕ) → b < 2 → d < 2 → 2 * x + d ≡ 2 * y + b → (x ≡ y) × (d ≡ b)
same_parent x y b d p q e = (omega arith, omega arith)

pub doubled : (j : ℕ) → 2 ^ (j + 1) ≡ 2 * 2 ^ j
doubled j = omega (arith, pow-add 2 j 1)

-- a string is its address, behind a 1, without the bits beyond
pub lead : (a j : ℕ) → j ≤ 32 → (2 ^ 32 + a) / 2 ^ (32 - j) ≡ string a j
lead a j h =
    let e : j + (32 - j) ≡ 32 = omega arith in
    let split : 2 ^ 32 ≡ 2 ^ j * 2 ^ (32 - j) = ap (λ (x : ℕ). 2 ^ x) (sym e) ∙ pow-add 2 j (32 - j) in
    ap (λ (x : ℕ). (x + a) / 2 ^ (32 - j)) split ∙ mul-add-div_right {m = 2 ^ (32 - j)} (pow_pos (32 - j)) (2 ^ j) a

pub rest_below : (a j : ℕ) → a < 2 ^ 32 → j ≤ 32 → a / 2 ^ (32 - j) < 2 ^ j
rest_below a j h l = let e : 32 ≡ j + (32 - j) = omega arith in shr_below a j (32 - j) (subst (λ (x : ℕ). a < 2 ^ x) e h)

pub string_pos : (a k : ℕ) → 0 < string a k
string_pos a k = omega (arith, pow_pos k)

pub string_none : (a : ℕ) → a < 2 ^ 32 → string a 0 ≡ 1
string_none a h = omega (arith, rest_below a 0 h (omega arith))

pub bit_below : (a k : ℕ) → bit_after a k < 2
bit_below a k = mod_below (a / 2 ^ (31 - k)) 2 (omega arith)

pub string_more : (a k : ℕ) → k < 32 → string a (k + 1) ≡ 2 * string a k + bit_after a k
string_more a k h =
    let b : 31 - k + 1 ≡ 32 - k = omega arith in
    let d : 32 - (k + 1) ≡ 31 - k = omega arith in
    let up : a / 2 ^ (31 - k) / 2 ≡ a / 2 ^ (32 - k) = shr-shr a (31 - k) 1 ∙ ap (λ (e : ℕ). a / 2 ^ e) b in
    let low : a / 2 ^ (32 - (k + 1)) ≡ a / 2 ^ (31 - k) = ap (λ (e : ℕ). a / 2 ^ e) d in
    omega (arith, div-add-mod (a / 2 ^ (31 - k)) 2, doubled k)

-- its beginnings
pub string_shift : (a k m : ℕ) → k ≤ m → m ≤ 32 → string a m / 2 ^ (m - k) ≡ string a k
string_shift a k m h g =
    let e : 32 - m + (m - k) ≡ 32 - k = omega arith in
    ap (λ (x : ℕ). x / 2 ^ (m - k)) (sym (lead a m g)) ∙ shr-shr (2 ^ 32 + a) (32 - m) (m - k) ∙ ap (λ (x : ℕ). (2 ^ 32 + a) / 2 ^ x) e ∙ lead a k (omega arith)

-- strings of two lengths differ
lengths : (a b i j : ℕ) → a < 2 ^ 32 → i ≤ 32 → i < j → string a i ≢ string b j
lengths a b i j la li h e =
    let m : 2 ^ (i + 1) ≤ 2 ^ j = pow_mono {i = i + 1} {j = j} (omega arith) in
    omega (arith, rest_below a i la li, doubled i)

pub same_length : (a b i j : ℕ) → a < 2 ^ 32 → b < 2 ^ 32 → i ≤ 32 → j ≤ 32 → string a i ≡ string b j → i ≡ j
same_length a b i j la lb li lj e = ⊎_elim
    (λ (x : i ≡ j). x)
    (λ (x : (i < j) ⊎ (j < i)). ⊎_elim
    (λ (y : i < j). absurd (lengths a b i j la li y e))
    (λ (y : j < i). absurd (lengths b a j i lb lj y (sym e)))
    x)
    (cases_order i j)

-- strings that agree in their first k bits agree in fewer
pub agree_shorter : (a b k j : ℕ) → k ≤ 32 → j ≤ k → string a k ≡ string b k → string a j ≡ string b j
agree_shorter a b k j lk lj e = sym (string_shift a j k lj lk) ∙ ap (λ (x : ℕ). x / 2 ^ (k - j)) e ∙ string_shift b j k lj lk

-- the string of a prefix tells the prefix
row_same : (p q : PrefixRow) → p.address ≡ q.address → p.length ≡ q.length → p ≡ q
row_same p q e f = λ i. record { address = e i; length = f i }

pub code_same : (p q : Prefix) → code (Some p) ≡ code (Some q) → p ≡ q
code_same p q e =
    let a = p.row.address in
    let b = q.row.address in
    let same : p.row.length ≡ q.row.length = same_length a b p.row.length q.row.length p.fits q.fits p.short q.short e in
    let k = 32 - p.row.length in
    let k-is : 32 - q.row.length ≡ k = omega arith in
    let cq : b % 2 ^ k ≡ 0 = subst (λ (x : ℕ). b % 2 ^ x ≡ 0) k-is q.clean in
    let top : 2 ^ p.row.length ≡ 2 ^ q.row.length = ap (λ (x : ℕ). 2 ^ x) same in
    let rest : b / 2 ^ (32 - q.row.length) ≡ b / 2 ^ k = ap (λ (x : ℕ). b / 2 ^ x) k-is in
    let quot : a / 2 ^ k ≡ b / 2 ^ k = omega arith in
    let prod : a / 2 ^ k * 2 ^ k ≡ b / 2 ^ k * 2 ^ k = ap (λ (x : ℕ). x * 2 ^ k) quot in
    prefix_from_row p q (row_same p.row q.row (omega (arith, shr_split a k, shr_split b k, p.clean)) same)

pub same_code : (o : Option Prefix) (p : Prefix) → code o ≡ code (Some p) → o ≡ Some p
same_code None p e = absurd (omega (arith, string_pos p.row.address p.row.length))
same_code (Some q) p e = ap Some (code_same q p e)

-- the non-empty strings of up to n bits
pub among_strings : (a n v : ℕ) → Among v (first_strings a n) → (j : ℕ) × (0 < j) × (j ≤ n) × (v ≡ string a j)
among_strings a zero v h = absurd h
among_strings a (suc n) v h = ⊎_elim
    (λ (e : v ≡ string a (suc n)). (suc n, omega arith, omega arith, e))
    (λ (r : Among v (first_strings a n)). let q = among_strings a n v r in (q.0, q.1, omega (arith, q.2), q.3))
    h

pub strings_among : (a n v j : ℕ) → 0 < j → j ≤ n → v ≡ string a j → Among v (first_strings a n)
strings_among a zero v j p l e = absurd (omega arith)
strings_among a (suc n) v j p l e = ⊎_elim
    (λ (h : j < suc n). inr (strings_among a n v j p (omega arith) e))
    (λ (h : suc n ≤ j). let s : j ≡ suc n = omega arith in inl (e ∙ ap (string a) s))
    (cases_lt j (suc n))
