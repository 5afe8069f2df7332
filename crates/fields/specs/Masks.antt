-- Flag masks that the same numbers satisfy are the same mask.
use Rattle.std.proofs.Common.{◌≡◌, ℕ, zero, suc, ◌-◌, ◌/◌, ◌%◌, ◌^◌, ◌<◌, ◌≤◌, sym, refl, ap, ◌∙◌, le_of_suc-le-suc, not-suc-le-zero, mod-lt, mod-eq_of_lt, zero-lt-suc, div-add-mod', arith}
use lib.Arith.{bin_ind}
use lib.Bits.{bit_and, bit_xor, and_shr, xor_shr, and_mod, xor_mod, and_comm, and_self, xor_self, xor_zero_r, xor_zero_l, xor_assoc, xor_lt, and_mask, and_le_l}

by_digits : (a b : ℕ) → a / 2 ≡ b / 2 → a % 2 ≡ b % 2 → a ≡ b
by_digits a b high low =
    let x = div-add-mod' a 2 in
    let y = div-add-mod' b 2 in
    omega arith

not_digit : {A : Type 0} {x : ℕ} → suc (suc x) < 2 → A
not_digit h = absurd (not-suc-le-zero (le_of_suc-le-suc (le_of_suc-le-suc h)))

digit_distributes : (x y z : ℕ) → x < 2 → y < 2 → z < 2 → bit_and (bit_xor x y) z ≡ bit_xor (bit_and x z) (bit_and y z)
digit_distributes zero y z hx hy hz = refl
digit_distributes (suc zero) zero zero hx hy hz = refl
digit_distributes (suc zero) zero (suc zero) hx hy hz = refl
digit_distributes (suc zero) (suc zero) zero hx hy hz = refl
digit_distributes (suc zero) (suc zero) (suc zero) hx hy hz = refl
digit_distributes (suc zero) zero (suc (suc z)) hx hy hz = not_digit hz
digit_distributes (suc zero) (suc zero) (suc (suc z)) hx hy hz = not_digit hz
digit_distributes (suc zero) (suc (suc y)) z hx hy hz = not_digit hy
digit_distributes (suc (suc x)) y z hx hy hz = not_digit hx

-- masking goes through an exclusive or
and_xor : (a b c : ℕ) → bit_and (bit_xor a b) c ≡ bit_xor (bit_and a c) (bit_and b c)
and_xor =
    bin_ind (λ (n : ℕ). (b c : ℕ) → bit_and (bit_xor n b) c ≡ bit_xor (bit_and n c) (bit_and b c)) (λ b c. refl)
    (λ n ih b c. by_digits _ _
    (and_shr (bit_xor n b) c 1 ∙ ap (λ (x : ℕ). bit_and x (c / 2)) (xor_shr n b 1) ∙ ih (b / 2) (c / 2)
    ∙ sym (xor_shr (bit_and n c) (bit_and b c) 1 ∙ ap (λ (x : ℕ). bit_xor x (bit_and b c / 2)) (and_shr n c 1) ∙ ap (λ (x : ℕ). bit_xor (bit_and (n / 2) (c / 2)) x) (and_shr b c 1)))
    (and_mod (bit_xor n b) c 1 ∙ ap (λ (x : ℕ). bit_and x (c % 2)) (xor_mod n b 1)
    ∙ digit_distributes (n % 2) (b % 2) (c % 2) (mod-lt n (zero-lt-suc 1)) (mod-lt b (zero-lt-suc 1)) (mod-lt c (zero-lt-suc 1))
    ∙ sym (xor_mod (bit_and n c) (bit_and b c) 1 ∙ ap (λ (x : ℕ). bit_xor x (bit_and b c % 2)) (and_mod n c 1) ∙ ap (λ (x : ℕ). bit_xor (bit_and (n % 2) (c % 2)) x) (and_mod b c 1))))

xor_cancel : (a b : ℕ) → bit_xor a b ≡ a → b ≡ 0
xor_cancel a b e =
    sym (xor_zero_l b) ∙ ap (λ (x : ℕ). bit_xor x b) (sym (xor_self a)) ∙ xor_assoc a a b ∙ ap (bit_xor a) e ∙ xor_self a

-- numbers that differ in no bit are the same
pub same_if_xor_zero : (a b : ℕ) → bit_xor a b ≡ 0 → b ≡ a
same_if_xor_zero a b e =
    sym (xor_zero_l b) ∙ ap (λ (x : ℕ). bit_xor x b) (sym (xor_self a)) ∙ xor_assoc a a b ∙ ap (bit_xor a) e ∙ xor_zero_r a

-- the bits of the field that are outside a mask m
abbrev outside : ℕ → ℕ → ℕ
outside k m = bit_xor (2 ^ k - 1) m

outside_and : (k m : ℕ) → m < 2 ^ k → bit_and (outside k m) m ≡ 0
outside_and k m small =
    and_xor (2 ^ k - 1) m m
    ∙ ap (λ (x : ℕ). bit_xor x (bit_and m m)) (and_comm (2 ^ k - 1) m ∙ and_mask m k ∙ mod-eq_of_lt small)
    ∙ ap (bit_xor m) (and_self m) ∙ xor_self m

-- wanted bits with all bits outside the mask: a number that the mask takes
pub filled : ℕ → ℕ → ℕ → ℕ
filled k m w = bit_xor w (outside k m)

pub filled_masked : (k m w : ℕ) → m < 2 ^ k → bit_and w m ≡ w → bit_and (filled k m w) m ≡ w
unfolding filled
filled_masked k m w small inside =
    and_xor w (outside k m) m ∙ ap (λ (x : ℕ). bit_xor x (bit_and (outside k m) m)) inside
    ∙ ap (bit_xor w) (outside_and k m small) ∙ xor_zero_r w

pub filled_lt : (k m w : ℕ) → m < 2 ^ k → w < 2 ^ k → filled k m w < 2 ^ k
unfolding filled
filled_lt k m w small low =
    let p : 2 ^ k - 1 < 2 ^ k = omega arith in
    xor_lt k w (outside k m) low (xor_lt k (2 ^ k - 1) m p small)

-- where another mask takes it too, that mask has no bit outside this one
pub mask_within : (k m o w : ℕ) → o < 2 ^ k → bit_and w o ≡ w → bit_and (filled k m w) o ≡ w → o ≤ m
unfolding filled
mask_within k m o w small inside takes =
    let none : bit_and (outside k m) o ≡ 0 =
    xor_cancel w (bit_and (outside k m) o) (ap (λ (x : ℕ). bit_xor x (bit_and (outside k m) o)) (sym inside) ∙ sym (and_xor w (outside k m) o) ∙ takes) in
    let split : bit_xor o (bit_and m o) ≡ 0 =
    ap (λ (x : ℕ). bit_xor x (bit_and m o)) (sym (and_comm (2 ^ k - 1) o ∙ and_mask o k ∙ mod-eq_of_lt small))
    ∙ sym (and_xor (2 ^ k - 1) m o) ∙ none in
    let e = same_if_xor_zero o (bit_and m o) split in
    let l = and_le_l m o in
    omega arith
