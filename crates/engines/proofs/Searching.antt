-- Searches of places one after another.
use Rattle.std.proofs.Common.{◌≡◌, ℕ, zero, suc, ◌+◌, ◌≤◌, Bool, cond, List, length, get_or, drop, Some, None, Option, sym, ap, ◌∙◌, arith}
use Rattle.std.specs.List.{find as first, range_with_len}
use Rattle.std.proofs.lemmas.List.{get_or-drop}
use Rattle.parts.specs.Meaning.{at, find_from}
use Rattle.engines.proofs.Finding.{find_more, find_empty}

-- the first of some places that holds a value is where it is found, if no place after them holds anything
pub first_holds : {V : Type 0} (eq : V → V → Bool) (v : V) (xs : List (Option V)) (i n : ℕ) → i + n ≤ length xs → ((l : ℕ) → i + n ≤ l → get_or xs l None ≡ None) → first (λ l. at eq v (get_or xs l None)) (range_with_len i n) ≡ find_from eq v i (drop i xs)
first_holds eq v xs i zero h none = sym (find_empty eq v i (drop i xs) (λ l. get_or-drop i xs l None ∙ none (i + l) (omega arith)))
first_holds eq v xs i (suc n) h none =
    ap (λ (o : Option ℕ). cond (at eq v (get_or xs i None)) (Some i) o) (first_holds eq v xs (i + 1) n (omega arith) (λ l w. none l (omega arith)))
    ∙ sym (find_more eq v xs i (omega arith))
