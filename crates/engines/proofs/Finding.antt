-- Where a value is held.
use Rattle.std.proofs.Common.{◌≡◌, ℕ, zero, suc, ◌+◌, ◌<◌, Bool, true, false, cond, List, [], ◌∷◌, length, get_or, drop, Some, None, Decides, Option, refl, ⊎_elim, arith}
use Rattle.std.proofs.lemmas.List.{at_drop_more}
use Rattle.std.proofs.lemmas.Bool.{cases_Bool}
use Rattle.parts.specs.Meaning.{at, find, find_from}

-- one place further on
pub find_more : {V : Type 0} (eq : V → V → Bool) (v : V) (xs : List (Option V)) (i : ℕ) → i < length xs
    → find_from eq v i (drop i xs) ≡ cond (at eq v (get_or xs i None)) (Some i) (find_from eq v (i + 1) (drop (i + 1) xs))
find_more eq v xs i h = at_drop_more (find_from eq v i) xs i None h

-- nothing is found among empty places
pub find_empty : {V : Type 0} (eq : V → V → Bool) (v : V) (i : ℕ) (xs : List (Option V)) → ((l : ℕ) → get_or xs l None ≡ None) → find_from eq v i xs ≡ None
find_empty eq v i [] h = refl
find_empty eq v i (None ∷ xs) h = find_empty eq v (i + 1) xs (λ l. h (suc l))
find_empty eq v i (Some w ∷ xs) h = cc (h 0)

module _ {V : Type 0} (eq : V → V → Bool) (decides : (a b : V) → Decides (eq a b) (a ≡ b)) where
  -- what is not found is nowhere
  pub find_absent : (v : V) (i : ℕ) (xs : List (Option V)) → find_from eq v i xs ≡ None → (l : ℕ) → get_or xs l None ≡ Some v → ⊥
  find_absent v i [] e l h = cc
  find_absent v i (None ∷ xs) e zero h = cc
  find_absent v i (None ∷ xs) e (suc l) h = find_absent v (i + 1) xs e l h
  find_absent v i (Some w ∷ xs) e zero h = grind (arith, (decides v w).1)
  find_absent v i (Some w ∷ xs) e (suc l) h = grind (arith, find_absent v (i + 1) xs)

  -- what is found is there
  pub find_there : (v : V) (i : ℕ) (xs : List (Option V)) (k : ℕ) → find_from eq v i xs ≡ Some k → (l : ℕ) × (k ≡ i + l) × (get_or xs l None ≡ Some v)
  find_there v i [] k e = absurd (cc)
  find_there v i (None ∷ xs) k e = let r = find_there v (i + 1) xs k e in (suc r.0, omega (arith, r.1), r.2)
  find_there v i (Some w ∷ xs) k e = ⊎_elim
      (λ (t : eq v w ≡ true). (0, grind arith, grind (arith, (decides v w).0)))
      (λ (f : eq v w ≡ false). let r = find_there v (i + 1) xs k (grind arith) in (suc r.0, omega (arith, r.1), r.2))
      (cases_Bool (eq v w))

  -- an index that names exactly the places of a value tells where it is found
  pub find_index : (v : V) (xs : List (Option V)) (o : Option ℕ) → ((l : ℕ) → o ≡ Some l → get_or xs l None ≡ Some v) → ((l : ℕ) → get_or xs l None ≡ Some v → o ≡ Some l) → find eq xs v ≡ o
  find_index v xs o there named = go (find eq xs v) o refl refl where
    go : (f p : Option ℕ) → find eq xs v ≡ f → o ≡ p → f ≡ p
    go None None e h = refl
    go None (Some l) e h = absurd (find_absent v 0 xs e l (there l h))
    go (Some k) p e h = let r = find_there v 0 xs k e in grind (arith, named k)
