-- What is written piece by piece is the text of the answer.
use Rattle.std.proofs.Common.{◌≡◌, ℕ, ◌+◌, ◌<◌, List, [], ◌∷◌, ◌++◌, length, get_or, take, IfOk, Ok, Err, decimal, Result, sym, refl, ap, ◌∙◌, append_assoc, append-nil, arith}
use Rattle.std.proofs.lemmas.Fmt.{decimal_digit}
use Rattle.std.proofs.lemmas.List.{take_more}
use Rattle.replies.specs.Answers.{decimals}

-- the same bytes behind what there was
pub as_text : {X E : Type 0} (r : Result X E) (new old bytes text : List ℕ) → bytes ≡ text → IfOk r (λ _. new ≡ old ++ bytes) → IfOk r (λ _. new ≡ old ++ text)
as_text (Ok x) new old bytes text e h = h ∙ ap (λ (l : List ℕ). old ++ l) e
as_text (Err y) new old bytes text e h = tt

pub zeros : 61 ∷ 32 ∷ 48 ∷ 32 ∷ 48 ∷ [] ≡ 61 ∷ decimals (0 ∷ 0 ∷ [])
zeros = sym (ap (λ (l : List ℕ). 61 ∷ 32 ∷ (l ++ 32 ∷ (l ++ []))) (decimal_digit 0 (omega arith)))

decimals_append : (ms ns : List ℕ) → decimals (ms ++ ns) ≡ decimals ms ++ decimals ns
decimals_append [] ns = refl
decimals_append (m ∷ ms) ns =
    ap (λ (l : List ℕ). 32 ∷ decimal m ++ l) (decimals_append ms ns) ∙ ap (λ (l : List ℕ). 32 ∷ l) (sym (append_assoc (decimal m) (decimals ms) (decimals ns)))

-- one identifier more
pub listed_turn : (new old base xs : List ℕ) (i : ℕ) → i < length xs → old ≡ base ++ decimals (take i xs) → new ≡ old ++ 32 ∷ decimal (get_or xs i 0) → new ≡ base ++ decimals (take (i + 1) xs)
listed_turn new old base xs i l e f =
    let n = get_or xs i 0 in
    f ∙ ap (λ (x : List ℕ). x ++ 32 ∷ decimal n) e ∙ append_assoc base (decimals (take i xs)) (32 ∷ decimal n)
    ∙ ap (λ (x : List ℕ). base ++ (decimals (take i xs) ++ 32 ∷ x)) (sym (append-nil (decimal n)))
    ∙ ap (λ (x : List ℕ). base ++ x) (sym (decimals_append (take i xs) (n ∷ [])))
    ∙ ap (λ (x : List ℕ). base ++ decimals x) (sym (take_more xs i 0 l))
