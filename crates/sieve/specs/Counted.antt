-- What the counters count, and how they change.
use Rattle.std.specs.Prelude.{◌≡◌, ℕ, ◌+◌, ◌-◌, ◌<◌, min, Bool, cond, List, [], ◌∷◌, Some, None, count_by, Option, nat_lt, slice_index, slice_set}
use Rattle.parts.specs.Marks.{hit}
use Rattle.stores.specs.declared.pairs.Pair.{Pair}
use Rattle.sieve.specs.declared.counters.Change.{Change}
use Rattle.sieve.specs.declared.counters.Change.TheVariants.{Up, Down}
use Rattle.sieve.specs.Touched.{touched, has, every}

-- a counter is the number of held pairs that touch it
abbrev pub count_of : ℕ → List (Option Pair) → ℕ
count_of i places = count_by (hit (λ p. has i (touched p))) places

-- a pair passes if every counter that it touches is above 0
abbrev pub passing : List (Option Pair) → Pair → Bool
passing places p = every (λ i. nat_lt 0 (count_of i places)) (touched p)

-- the same by the counters themselves
abbrev pub above : List ℕ → Pair → Bool
above counters p = every (λ i. nat_lt 0 (slice_index counters i)) (touched p)

-- what the store below is asked for a pair: the pair itself if it passes, else nothing
abbrev pub questions : List ℕ → Pair → List Pair
questions counters p = cond (above counters p) (p ∷ []) []

-- one pair more, or one fewer; a counter has eight bits
abbrev pub one_more : ℕ → ℕ
one_more n = min (n + 1) 255

abbrev pub one_fewer : ℕ → ℕ
one_fewer n = n - 1

abbrev pub changed : Change → ℕ → ℕ
changed Up = one_more
changed Down = one_fewer

-- a step that answers so at each count
abbrev pub Gives : (ℕ → ℕ → Type 0) → (ℕ → ℕ) → Type 0
Gives answers change = (n r : ℕ) → n < 256 → answers n r → r ≡ change n

abbrev pub change_at : (ℕ → ℕ) → Option ℕ → List ℕ → List ℕ
change_at change None counters = counters
change_at change (Some i) counters = slice_set counters i (change (slice_index counters i))

abbrev pub change_all : (ℕ → ℕ) → List (Option ℕ) → List ℕ → List ℕ
change_all change [] counters = counters
change_all change (o ∷ os) counters = change_all change os (change_at change o counters)
