-- Digits without a leading zero are the decimal text of their value, and of no other number.
use Rattle.std.proofs.Common.{◌≡◌, ℕ, ◌+◌, ◌-◌, ◌*◌, ◌^◌, ◌<◌, ◌≤◌, List, map, length, get_or, take, drop, Some, None, decimal, Option, sym, ap, ◌∙◌, subst, ⊎_elim, arith}
use Rattle.std.proofs.lemmas.Bool.{cases_lt}
use Rattle.std.specs.Str.Parse.{digits_value, AllDigits}
use Rattle.std.specs.Char.{digit_value as digitValue}
use Rattle.std.specs.Int.{IsInRange}
use Rattle.std.specs.Int.Digits.{number_from_digits, number_from_digits_after}
use Rattle.std.proofs.lemmas.Bool.Decides.{nat_tests}
use Rattle.std.proofs.lemmas.Fmt.{decimal_is_IsNumeral, decimal-digits_value, first_decimal, decimal_digit}
use Rattle.std.proofs.lemmas.Int.Digits.{digits_value_is, digits_value_more, digits_more, number_after_append, number_after_ge}
use Rattle.std.proofs.ByRecursion.{All-from_get_or}
use Rattle.std.proofs.lemmas.List.{take-append-drop, map-append}
use Rattle.std.proofs.lemmas.Str.Parse.{IsNumeralModel, numerals_by_value, tells_digits, digit_at}
use Rattle.words.specs.Reading.{Reads, Free}

numerals : IsNumeralModel (AllDigits 10) (digits_value 10)
numerals = numerals_by_value (AllDigits 10) tells_digits

-- a front of a numeral is no larger
value_front : (ds : List ℕ) (i : ℕ) → digits_value 10 (take i ds) ≤ digits_value 10 ds
value_front ds i =
    let e : number_from_digits 10 (map digitValue ds) ≡ number_from_digits_after 10 (number_from_digits 10 (map digitValue (take i ds))) (map digitValue (drop i ds)) =
    ap (λ (l : List ℕ). number_from_digits 10 (map digitValue l)) (sym (take-append-drop i ds))
    ∙ ap (number_from_digits 10) (map-append digitValue (take i ds) (drop i ds))
    ∙ number_after_append 10 0 (map digitValue (take i ds)) (map digitValue (drop i ds)) in
    let g = number_after_ge 10 (number_from_digits 10 (map digitValue (take i ds))) (map digitValue (drop i ds)) (omega arith) in
    omega (arith, digits_value_is 10 (take i ds), digits_value_is 10 ds)

pub digit_value : (b : ℕ) → 48 ≤ b → b ≤ 57 → digitValue b ≡ b - 48
digit_value b low high = grind (arith, nat_tests)

module _ (word : List ℕ) where
  abbrev WordReads : Option ℕ → Type 0
  WordReads r = Reads decimal (λ n. n < 2 ^ 16) word r

  pub read_decimal : AllDigits 10 word → 0 < length word → (get_or word 0 0 ≡ 48 → length word ≡ 1) → digits_value 10 word < 2 ^ 16 → WordReads (Some (digits_value 10 word))
  read_decimal digits some zero fits = record {
    back = λ v e. let w : digits_value 10 word ≡ v = cc in (omega arith, sym (decimal-digits_value numerals word digits some zero (omega arith)) ∙ ap decimal w);
    every = λ v f e. ap Some (ap (digits_value 10) e ∙ (decimal_is_IsNumeral v (omega arith)).1);
  }

  pub none_read : ((n : ℕ) → n < 2 ^ 16 → word ≡ decimal n → ⊥) → WordReads None
  none_read h = record {
    back = λ v e. absurd (let z : ◌≡◌ {A = ℕ} 0 1 = cc in omega arith);
    every = λ v f e. absurd (h v f e);
  }

  -- a byte that is no digit, or a digit too many
  pub stuck_read : (i n : ℕ) → i < length word → n ≡ digits_value 10 (take i word) → ((48 ≤ get_or word i 0) × (get_or word i 0 ≤ 57) × (n * 10 + (get_or word i 0 - 48) < 2 ^ 16) → ⊥) → WordReads None
  stuck_read i n l e stuck =
      none_read (λ v f is.
      let r = decimal_is_IsNumeral v (omega arith) in
      let ds : AllDigits 10 word = subst (AllDigits 10) (sym is) r.0.1 in
      let d : IsInRange 48 57 (get_or word i 0) = digit_at word i ds l in
      let m = digits_value_more 10 word i l in
      let w = digit_value (get_or word i 0) d.0 d.1 in
      let front = value_front word (i + 1) in
      let whole : digits_value 10 word ≡ v = ap (digits_value 10) is ∙ r.1 in
      stuck (d.0, d.1, omega arith))

-- one digit more
pub digits_turn : (word : List ℕ) (i n m : ℕ) → i < length word → AllDigits 10 (take i word) → n ≡ digits_value 10 (take i word) → 48 ≤ get_or word i 0 → get_or word i 0 ≤ 57 → m ≡ n * 10 + (get_or word i 0 - 48) → AllDigits 10 (take (i + 1) word) × (m ≡ digits_value 10 (take (i + 1) word))
digits_turn word i n m l ds e low high is =
    let w = digit_value (get_or word i 0) low high in
    (digits_more 10 word i l ds (omega arith), omega (arith, digits_value_more 10 word i l))

-- the first byte of a decimal is no zero, unless it is 0
pub decimal_start : (word : List ℕ) → get_or word 0 0 ≡ 48 → (length word ≡ 1 → ⊥) → (n : ℕ) → n < 2 ^ 16 → word ≡ decimal n → ⊥
decimal_start word zero long n small e =
    ⊎_elim
    (λ (p : 0 < n). let f = first_decimal n p (omega arith) in let g = ap (λ (l : List ℕ). get_or l 0 0) e in omega arith)
    (λ (p : n ≤ 0). long (ap length e ∙ ap (λ (k : ℕ). length (decimal k)) (let z : n ≡ 0 = omega arith in z) ∙ ap length (decimal_digit 0 (omega arith))))
    (cases_lt 0 n)

pub decimal_some : (word : List ℕ) → length word ≡ 0 → (n : ℕ) → n < 2 ^ 16 → word ≡ decimal n → ⊥
decimal_some word none n small e = let r = decimal_is_IsNumeral n (omega arith) in let s = r.0.0 in let g = ap length e in omega arith

-- a byte that is no digit stands in no decimal
pub decimal_free : (separator : ℕ) → (IsInRange 48 57 separator → ⊥) → (n : ℕ) → n < 2 ^ 16 → Free separator (decimal n)
decimal_free separator other n small =
    let r = decimal_is_IsNumeral n (omega arith) in
    All-from_get_or (λ b. b ≡ separator → ⊥) (decimal n) 0 (λ i l e. other (subst (IsInRange 48 57) e (digit_at (decimal n) i r.0.1 l)))
