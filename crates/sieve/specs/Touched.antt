-- Which of the 512 counters a pair touches.
use Rattle.std.specs.Prelude.{◌≡◌, ℕ, ◌*◌, ◌/◌, ◌%◌, Bool, false, cond, List, [], ◌∷◌, ◌++◌, map, Some, None, Option, ◌==◌}
use Rattle.std.specs.List.{list_any, list_all}
use Rattle.stores.specs.declared.pairs.Pair.{Pair}
use Rattle.stores.specs.Pairs.{code}

-- each multiplier spreads a pair's code over the counters
abbrev pub multipliers : List ℕ
multipliers = 5 ∷ 37 ∷ 211 ∷ 1009 ∷ []

abbrev pub counter : Pair → ℕ → ℕ
counter p m = code p * m / 16 % 512

abbrev pub spread : Pair → List ℕ
spread p = map (counter p) multipliers

abbrev pub has : ℕ → List ℕ → Bool
has x ys = list_any (λ y. y == x) ys

-- a counter for each multiplier, and none where an earlier multiplier gave the same one
abbrev pub slots_from : List ℕ → List ℕ → List (Option ℕ)
slots_from seen [] = []
slots_from seen (x ∷ xs) = cond (has x seen) None (Some x) ∷ slots_from (seen ++ x ∷ []) xs

abbrev pub slots : Pair → List (Option ℕ)
slots p = slots_from [] (spread p)

abbrev pub listed : List (Option ℕ) → List ℕ
listed [] = []
listed (None ∷ os) = listed os
listed (Some x ∷ os) = x ∷ listed os

-- the counters that a pair touches, a repeated one once
abbrev pub touched : Pair → List ℕ
touched p = listed (slots p)

-- no number stands twice
abbrev pub Apart : List ℕ → Type 0
Apart [] = Unit {0}
Apart (x ∷ xs) = (has x xs ≡ false) × Apart xs

-- every number passes a test
abbrev pub every : (ℕ → Bool) → List ℕ → Bool
every t xs = list_all t xs
