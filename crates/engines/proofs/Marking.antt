-- Lists of marks of which at most two are set.
use Rattle.std.proofs.Common.{◌≡◌, ℕ, zero, suc, ◌+◌, ◌<◌, Bool, true, false, ◌⊎◌, List, [], ◌∷◌, map, get_or, None, Option, refl, arith}
use Rattle.parts.specs.Marks.{hit, marked_from}

-- the mark of a place
pub hit_at : {V : Type 0} (p : V → Bool) (xs : List (Option V)) (l : ℕ) → get_or (map (hit p) xs) l false ≡ hit p (get_or xs l None)
hit_at p [] l = refl
hit_at p (x ∷ xs) zero = refl
hit_at p (x ∷ xs) (suc l) = hit_at p xs l

pub marked_none : (k : ℕ) (ms : List Bool) → ((l : ℕ) → get_or ms l false ≡ true → ⊥) → marked_from k ms ≡ []
marked_none k [] h = refl
marked_none k (true ∷ ms) h = absurd (h 0 refl)
marked_none k (false ∷ ms) h = marked_none (k + 1) ms (λ l. h (suc l))

pub marked_one : (k : ℕ) (ms : List Bool) (a : ℕ) → get_or ms a false ≡ true → ((l : ℕ) → get_or ms l false ≡ true → l ≡ a) → marked_from k ms ≡ (k + a) ∷ []
marked_one k [] a e h = cc
marked_one k (true ∷ ms) zero e h = grind (arith, marked_none (k + 1) ms (λ l t. let z = h (suc l) t in omega arith))
marked_one k (false ∷ ms) zero e h = cc
marked_one k (true ∷ ms) (suc a) e h = absurd (let z = h 0 refl in omega arith)
marked_one k (false ∷ ms) (suc a) e h = grind (arith, marked_one (k + 1) ms a e (λ l t. let z = h (suc l) t in omega arith))

pub marked_two : (k : ℕ) (ms : List Bool) (a b : ℕ) → a < b → get_or ms a false ≡ true → get_or ms b false ≡ true → ((l : ℕ) → get_or ms l false ≡ true → (l ≡ a) ⊎ (l ≡ b)) → marked_from k ms ≡ (k + a) ∷ (k + b) ∷ []
marked_two k [] a b o e f h = cc
marked_two k ms a zero o e f h = absurd (omega arith)
marked_two k (true ∷ ms) zero (suc b) o e f h = grind (arith, marked_one (k + 1) ms b f (λ l t. let z = h (suc l) t in grind arith))
marked_two k (false ∷ ms) zero (suc b) o e f h = cc
marked_two k (true ∷ ms) (suc a) (suc b) o e f h = absurd (let z = h 0 refl in grind arith)
marked_two k (false ∷ ms) (suc a) (suc b) o e f h = grind (arith, marked_two (k + 1) ms a b (omega arith) e f (λ l t. let z = h (suc l) t in grind arith))
