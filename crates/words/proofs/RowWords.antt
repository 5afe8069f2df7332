-- The words of rows: two words with a separator between them, and the star.
use Rattle.std.proofs.Common.{◌≡◌, ℕ, ◌^◌, ◌<◌, List, [], ◌∷◌, length, get_or, Some, decimal, sym, refl, ap, subst, arith}
use Rattle.std.proofs.lemmas.Bool.Decides.{nat_tests}
use Rattle.std.specs.Int.{IsInRange}
use Rattle.fields.specs.declared.prefixes.PrefixRow.{PrefixRow}
use Rattle.fields.specs.declared.ranges.RangeRow.{RangeRow}
use Rattle.fields.specs.declared.protocols.ProtocolRow.{ProtocolRow}
use Rattle.fields.specs.declared.protocols.ProtocolRow.TheVariants.{Any, Only}
use Rattle.fields.specs.declared.flags.FlagRow.{FlagRow}
use Rattle.words.specs.Texts.{hex, hex_digit, protocol_text, ProtocolFits}
use Rattle.words.specs.Reading.{Reads, Free}
use Rattle.words.proofs.DecimalWords.{decimal_free}
use Rattle.words.proofs.HexWords.{hex_free}
use Rattle.words.proofs.Joins.{Join}

pub not_hex : (s : ℕ) → s < 65 → (IsInRange 48 57 s → ⊥) → (d : ℕ) → d < 16 → hex_digit d ≡ s → ⊥
not_hex s small other d few e = other (grind (arith, nat_tests))

unfoldable pub prefix-join : Join PrefixRow ℕ ℕ
prefix-join = record {
  text_a = hex 8;
  FitsA = λ n. n < 2 ^ 32;
  text_b = decimal;
  FitsB = λ n. n < 2 ^ 8;
  separator = 47;
  front = λ n f. hex_free 47 (not_hex 47 (omega arith) (λ h. omega (arith, h.0))) 8 n;
  make = λ x y. record { address = x; length = y };
  left = λ r. r.address;
  right = λ r. r.length;
  whole = λ v. refl;
  left_made = λ x y. refl;
  right_made = λ x y. refl;
}

unfoldable pub range-join : Join RangeRow ℕ ℕ
range-join = record {
  text_a = decimal;
  FitsA = λ n. n < 2 ^ 16;
  text_b = decimal;
  FitsB = λ n. n < 2 ^ 16;
  separator = 58;
  front = λ n f. decimal_free 58 (λ h. omega (arith, h.1)) n f;
  make = λ x y. record { low = x; high = y };
  left = λ r. r.low;
  right = λ r. r.high;
  whole = λ v. refl;
  left_made = λ x y. refl;
  right_made = λ x y. refl;
}

unfoldable pub flag-join : Join FlagRow ℕ ℕ
flag-join = record {
  text_a = hex 2;
  FitsA = λ n. n < 2 ^ 8;
  text_b = hex 2;
  FitsB = λ n. n < 2 ^ 8;
  separator = 61;
  front = λ n f. hex_free 61 (not_hex 61 (omega arith) (λ h. omega (arith, h.1))) 2 n;
  make = λ x y. record { mask = x; wanted = y };
  left = λ r. r.mask;
  right = λ r. r.wanted;
  whole = λ v. refl;
  left_made = λ x y. refl;
  right_made = λ x y. refl;
}

pub one_byte : (word : List ℕ) (b : ℕ) → length word ≡ 1 → get_or word 0 0 ≡ b → word ≡ b ∷ []
one_byte [] b l e = absurd (omega arith)
one_byte (x ∷ []) b l e = ap (λ (y : ℕ). y ∷ []) e
one_byte (x ∷ (y ∷ ys)) b l e = absurd (omega arith)

star_text : (v : ProtocolRow) → Any ≡ v → ProtocolFits v × (42 ∷ [] ≡ protocol_text v)
star_text v e = subst (λ (r : ProtocolRow). ProtocolFits r × (42 ∷ [] ≡ protocol_text r)) e (tt, refl)

star_only : (v : ProtocolRow) → ProtocolFits v → 42 ∷ [] ≡ protocol_text v → Some Any ≡ Some v
star_only Any f e = refl
star_only (Only p) f e =
    let free = subst (Free 42) (sym e) (decimal_free 42 (λ h. omega (arith, h.0)) p (omega arith)) in
    absurd (free.0 refl)

pub star_read : (word : List ℕ) → length word ≡ 1 → get_or word 0 0 ≡ 42 → Reads protocol_text ProtocolFits word (Some Any)
star_read word l e =
    subst (λ (w : List ℕ). Reads protocol_text ProtocolFits w (Some Any)) (sym (one_byte word 42 l e))
    (record { back = λ v q. star_text v (cc); every = star_only })
