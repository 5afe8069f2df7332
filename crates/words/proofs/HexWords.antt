-- A number below 16 ^ k has one hexadecimal text of k digits.
use Rattle.std.proofs.Common.{◌≡◌, ℕ, zero, suc, ◌+◌, ◌*◌, ◌/◌, ◌%◌, ◌^◌, ◌<◌, ◌≤◌, List, [], ◌∷◌, ◌++◌, length, get_or, take, Some, None, Option, sym, refl, ap, ◌∙◌, subst, mod-lt, pow-suc, div-add-mod', add-one, arith}
use native.Mathlib.Nat.{pow-le-pow_right}
use Rattle.std.specs.List.{AllByRecursion}
use Rattle.std.proofs.lemmas.Nat.{div-mul-add, mod-mul-add, div_below}
use Rattle.std.proofs.ByRecursion.{All-get_or, All-push, All-weaker}
use Rattle.std.proofs.lemmas.List.{take_more, length_push, same_from_push}
use Rattle.std.proofs.lemmas.Bool.Decides.{nat_tests}
use Rattle.words.specs.Texts.{hex, hex_digit}
use Rattle.words.specs.Reading.{Reads, Free}

digit_same : (a b : ℕ) → a < 16 → b < 16 → hex_digit a ≡ hex_digit b → a ≡ b
digit_same a b s t e = grind (arith, nat_tests)

pub length_hex : (k n : ℕ) → length (hex k n) ≡ k
length_hex zero n = refl
length_hex (suc k) n = length_push (hex k (n / 16)) (hex_digit (n % 16)) ∙ (let e = length_hex k (n / 16) in omega arith)

pub hex_same : (k m n : ℕ) → m < 16 ^ k → n < 16 ^ k → hex k m ≡ hex k n → m ≡ n
hex_same zero m n s t e = omega arith
hex_same (suc k) m n s t e =
    let p = same_from_push (hex k (m / 16)) (hex k (n / 16)) (hex_digit (m % 16)) (hex_digit (n % 16)) e in
    let q = pow-suc 16 k in
    let high = hex_same k (m / 16) (n / 16) (div_below m 16 (16 ^ k) (omega arith) (omega arith)) (div_below n 16 (16 ^ k) (omega arith) (omega arith)) p.0 in
    let low = digit_same (m % 16) (n % 16) (mod-lt m (omega arith)) (mod-lt n (omega arith)) p.1 in
    let x = div-add-mod' m 16 in
    let y = div-add-mod' n 16 in
    omega arith

-- each byte of a text is a digit
hex_digits : (k n : ℕ) → AllByRecursion (λ b. (d : ℕ) × (d < 16) × (b ≡ hex_digit d)) (hex k n)
hex_digits zero n = tt
hex_digits (suc k) n = All-push _ (hex k (n / 16)) (hex_digit (n % 16)) (hex_digits k (n / 16)) (n % 16, mod-lt n (omega arith), refl)

-- one digit more
pub hex_turn : (word : List ℕ) (i n d : ℕ) → i < length word → take i word ≡ hex i n → n < 16 ^ i → d < 16 → get_or word i 0 ≡ hex_digit d → (take (i + 1) word ≡ hex (i + 1) (n * 16 + d)) × (n * 16 + d < 16 ^ (i + 1))
hex_turn word i n d l e s t b =
    let q = pow-suc 16 i in
    let a = add-one i in
    let whole : take (i + 1) word ≡ hex (suc i) (n * 16 + d) =
    take_more word i 0 l ∙ ap (λ (x : List ℕ). x ++ get_or word i 0 ∷ []) e ∙ ap (λ (x : ℕ). hex i n ++ x ∷ []) b
    ∙ sym (ap (λ (x : ℕ). hex i x ++ hex_digit ((n * 16 + d) % 16) ∷ []) (div-mul-add n 16 d t) ∙ ap (λ (x : ℕ). hex i n ++ hex_digit x ∷ []) (mod-mul-add n 16 d t)) in
    (whole ∙ ap (λ (k : ℕ). hex k (n * 16 + d)) (sym a), subst (λ (k : ℕ). n * 16 + d < 16 ^ k) (sym a) (omega arith))

module _ (k : ℕ) (word : List ℕ) where
  abbrev WordReads : Option ℕ → Type 0
  WordReads r = Reads (hex k) (λ n. n < 16 ^ k) word r

  none_read : ((n : ℕ) → word ≡ hex k n → ⊥) → WordReads None
  none_read h = record {
    back = λ v e. absurd (let z : ◌≡◌ {A = ℕ} 0 1 = cc in omega arith);
    every = λ v f e. absurd (h v e);
  }

  pub unequal_read : (length word ≡ k → ⊥) → WordReads None
  unequal_read ne = none_read (λ n e. ne (ap length e ∙ length_hex k n))

  pub stuck_read : (i : ℕ) → i < length word → ((d : ℕ) → d < 16 → get_or word i 0 ≡ hex_digit d → ⊥) → WordReads None
  stuck_read i l no_digit =
      none_read (λ n e.
      let h = All-get_or (λ b. (d : ℕ) × (d < 16) × (b ≡ hex_digit d)) word i 0 l (subst (AllByRecursion (λ b. (d : ℕ) × (d < 16) × (b ≡ hex_digit d))) (sym e) (hex_digits k n)) in
      no_digit h.0 h.1 h.2)

  pub read_hex : (n : ℕ) → word ≡ hex k n → n < 16 ^ k → WordReads (Some n)
  read_hex n e s = record {
    back = λ v q. let w : n ≡ v = cc in (subst (λ (x : ℕ). x < 16 ^ k) w s, e ∙ ap (hex k) w);
    every = λ v f q. ap Some (hex_same k n v s f (sym e ∙ q));
  }

-- a byte that is no digit stands in no text
pub hex_free : (separator : ℕ) → ((d : ℕ) → d < 16 → hex_digit d ≡ separator → ⊥) → (k n : ℕ) → Free separator (hex k n)
hex_free separator other k n =
    All-weaker (λ b. (d : ℕ) × (d < 16) × (b ≡ hex_digit d)) (λ b. b ≡ separator → ⊥) (λ b h e. other h.0 h.1 (sym h.2 ∙ e)) (hex k n) (hex_digits k n)

-- seven digits leave room for one more in 32 bits
pub hex_room : (i n : ℕ) → i < 8 → n < 16 ^ i → n * 16 + 15 < 2 ^ 32
hex_room i n few small = let l : i ≤ 7 = omega arith in let b : 0 < 16 = omega arith in let p : 16 ^ i ≤ 16 ^ 7 = pow-le-pow_right b l in omega arith
