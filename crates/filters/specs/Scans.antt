-- The scan: which standing filters a header is for.
use Rattle.std.specs.Prelude.{ℕ, Bool, cond, not, ◌&&◌, List, [], ◌∷◌, ◌++◌, map, length, take, drop, Some, None, filter, Option}
use Rattle.std.specs.Option.{option_map}
use Rattle.filters.specs.declared.rows.FilterRow.{FilterRow}
use Rattle.filters.specs.declared.rows.Header.{Header}
use Rattle.filters.specs.declared.calls.Best.{Best}
use Rattle.filters.specs.declared.calls.Scanned.{Scanned}
use Rattle.filters.specs.Filters.{matches, exclusive}

-- an exclusive filter that the header matches may win, and a non-exclusive one joins the list
abbrev pub wins : Header → FilterRow → Bool
wins h f = exclusive f.class && matches f h

abbrev pub joins : Header → FilterRow → Bool
joins h f = not (exclusive f.class) && matches f h

-- the first element that passes
abbrev pub first : {X : Type 0} → (X → Bool) → List X → Option X
first p [] = None
first p (x ∷ xs) = cond (p x) (Some x) (first p xs)

-- the first-ranked exclusive match, and the first r non-exclusive ones
abbrev pub best : List FilterRow → Header → Option FilterRow
best fs h = first (wins h) fs

abbrev pub listed : List FilterRow → Header → ℕ → List FilterRow
listed fs h r = take r (filter (joins h) fs)

pub record Scan : Type 0 where
  pub winner : Option FilterRow
  pub list : List FilterRow

abbrev pub scan : List FilterRow → Header → ℕ → Scan
scan fs h r = record { winner = best fs h; list = listed fs h r }

-- what is told of the winner
abbrev pub told : FilterRow → Best
told f = record { identifier = f.identifier; flow = f.flow }

-- what the scan of a table answers
abbrev pub scan_answer : List FilterRow → Header → ℕ → Scanned
scan_answer fs h r = record { best = option_map told (best fs h); listed = length (listed fs h r) }

-- a list with the identifiers of the listed filters written from its start
abbrev pub written : List FilterRow → List ℕ → List ℕ
written fs ids = map (λ f. f.identifier) fs ++ drop (length fs) ids
