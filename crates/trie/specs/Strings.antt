-- Bit strings as numbers: a 1 and then the bits, so the empty string is 1, and v goes on as 2 v or 2 v + 1.
use Rattle.std.specs.Prelude.{◌≡◌, ℕ, zero, suc, ◌+◌, ◌-◌, ◌/◌, ◌%◌, ◌^◌, ◌⊎◌, List, [], ◌∷◌, ◌++◌, Some, None, Option, nat_eq, slice_index_or}
use Rattle.std.specs.Set.{distinct_count}
use Rattle.fields.specs.declared.prefixes.Prefix.{Prefix}
use Rattle.fields.specs.Prefixes.{first_bits}

-- the first k bits of an address
abbrev pub string : ℕ → ℕ → ℕ
string a k = 2 ^ k + first_bits k a

-- the bit that follows them
abbrev pub bit_after : ℕ → ℕ → ℕ
bit_after a k = a / 2 ^ (31 - k) % 2

-- the bits of the prefix that a place holds, and 0 where it holds none
abbrev pub code : Option Prefix → ℕ
code None = 0
code (Some v) = string v.row.address v.row.length

abbrev pub codes : List (Option Prefix) → ℕ → ℕ
codes places l = code (slice_index_or places l None)

-- the non-empty strings that an address begins with, up to k bits
abbrev pub first_strings : ℕ → ℕ → List ℕ
first_strings a zero = []
first_strings a (suc k) = string a (suc k) ∷ first_strings a k

-- those that a held prefix begins with
abbrev pub beginnings : Option Prefix → List ℕ
beginnings None = []
beginnings (Some v) = first_strings v.row.address v.row.length

abbrev pub all_beginnings : List (Option Prefix) → List ℕ
all_beginnings [] = []
all_beginnings (o ∷ os) = beginnings o ++ all_beginnings os

-- how many different non-empty bit strings held prefixes begin with
abbrev pub string_count : List (Option Prefix) → ℕ
string_count places = distinct_count nat_eq (all_beginnings places)

-- x is one of them
abbrev pub Among : ℕ → List ℕ → Type 0
Among x [] = ⊥
Among x (y ∷ ys) = (x ≡ y) ⊎ Among x ys

-- none is there twice
abbrev pub Distinct : List ℕ → Type 0
Distinct [] = Unit {0}
Distinct (x ∷ xs) = (Among x xs → ⊥) × Distinct xs

-- some held prefix begins with v
abbrev pub Begins : List (Option Prefix) → ℕ → Type 0
Begins places v = (l : ℕ) × Among v (beginnings (slice_index_or places l None))
