-- Places chained under a key: a first place for each key, and for each place the one after it.
use Rattle.std.specs.Prelude.{◌≡◌, ℕ, ◌+◌, Bool, cond, List, [], ◌∷◌, length, Some, None, count_by, Option, ◌==◌, nat_eq, slice_index_or}
use Rattle.std.specs.List.{find}
use Rattle.parts.specs.Meaning.{at}

-- following the chain from o passes exactly these places, in this order, and then ends
abbrev pub Linked : List (Option ℕ) → Option ℕ → List ℕ → Type 0
Linked nexts o [] = o ≡ None
Linked nexts o (p ∷ ps) = (o ≡ Some p) × Linked nexts (slice_index_or nexts p None) ps

-- how often p stands in a list
abbrev pub times : ℕ → List ℕ → ℕ
times p [] = 0
times p (q ∷ qs) = cond (p == q) 1 0 + times p qs

-- the chain of key k holds exactly the places whose key it is, each once;
-- keys tells the key of each place, none where the place is empty
pub record Chain (heads nexts keys : List (Option ℕ)) (k : ℕ) : Type 0 where
  pub order : List ℕ
  pub linked : Linked nexts (slice_index_or heads k None) order
  pub exact : (p : ℕ) → times p order ≡ cond (at nat_eq k (slice_index_or keys p None)) 1 0
  pub long : length order ≡ count_by (at nat_eq k) keys

-- every key has such a chain
pub record Chained (heads nexts keys : List (Option ℕ)) : Type 0 where
  pub heads_size : length heads ≡ 96
  pub nexts_size : length nexts ≡ 96
  pub keys_size : length keys ≡ 96
  pub chain : (k : ℕ) → Chain heads nexts keys k

-- the first of some places that holds v
abbrev pub first_holding : {V : Type 0} → (V → V → Bool) → List (Option V) → V → List ℕ → Option ℕ
first_holding eq places v ps = find (λ p. at eq v (slice_index_or places p None)) ps
