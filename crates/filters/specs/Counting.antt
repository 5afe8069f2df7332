-- Lists: membership, pairs of elements, and how many elements there are of a sort.
use Rattle.std.specs.Prelude.{◌≡◌, ℕ, zero, suc, ◌+◌, Bool, true, false, cond, ◌&&◌, ◌||◌, ◌⊎◌, List, [], ◌∷◌, ◌++◌}
use Rattle.std.specs.List.{AllByRecursion}

-- x is an element
abbrev pub Among : {X : Type 0} → X → List X → Type 0
Among x [] = ⊥
Among x (y ∷ ys) = (y ≡ x) ⊎ Among x ys

-- each element is related to every later one
abbrev pub Pairwise : {X : Type 0} → (X → X → Type 0) → List X → Type 0
Pairwise R [] = Unit {0}
Pairwise R (x ∷ xs) = AllByRecursion (R x) xs × Pairwise R xs

-- some element passes
abbrev pub some : {X : Type 0} → (X → Bool) → List X → Bool
some p [] = false
some p (x ∷ xs) = p x || some p xs

-- every element passes
abbrev pub every : {X : Type 0} → (X → Bool) → List X → Bool
every p [] = true
every p (x ∷ xs) = p x && every p xs

-- how many elements stand before the first that passes
abbrev pub before : {X : Type 0} → (X → Bool) → List X → ℕ
before p [] = 0
before p (x ∷ xs) = cond (p x) 0 (suc (before p xs))

abbrev pub total : {X : Type 0} → (X → ℕ) → List X → ℕ
total n [] = 0
total n (x ∷ xs) = n x + total n xs

-- how many elements pass
abbrev pub how_many : {X : Type 0} → (X → Bool) → List X → ℕ
how_many p xs = total (λ x. cond (p x) 1 0) xs

-- how many different elements pass, where eq tells which are the same: the last of those that are the same counts
abbrev pub different : {X : Type 0} → (X → X → Bool) → (X → Bool) → List X → ℕ
different eq p [] = 0
different eq p (x ∷ xs) = cond (some (eq x) xs) 0 (cond (p x) 1 0) + different eq p xs

-- the numbers from 1 to n
abbrev pub up_to : ℕ → List ℕ
up_to zero = []
up_to (suc n) = up_to n ++ suc n ∷ []
