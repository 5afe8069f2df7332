use Rattle.std.proofs.Common.{◌≡◌, ℕ, ◌^◌, ◌<◌, Bool, true, false, eqb, List, length, get_or, decimal, MatchBool, sym, refl, arith}
use Rattle.std.proofs.lemmas.Bool.{eqb-true, eqb-false}
use Rattle.words.proofs.DecimalWords.{decimal_start, decimal_some}
use Rattle.words.proofs.decimals.begins_decimal.Goals as goal

pub returns-then-is_empty : goal.returns-then-is_empty
returns-then-is_empty c = decimal_some c.args.word.now (eqb-true _ _ (sym c.if-is_empty.ensures))

by_length : (word : List ℕ) (b : Bool) → eqb (length word) 1 ≡ b → get_or word 0 0 ≡ 48 → MatchBool b ((0 < length word) × (get_or word 0 0 ≡ 48 → length word ≡ 1)) ((n : ℕ) → n < 2 ^ 16 → word ≡ decimal n → ⊥)
by_length word true e z = let l = eqb-true _ _ e in (omega arith, λ _. l)
by_length word false e z = decimal_start word z (eqb-false _ _ e)

pub returns-else-word-ne48 : goal.returns-else-word-ne48
returns-else-word-ne48 c = by_length c.args.word.now _ refl c.if-word-ne48.false
