use Rattle.std.proofs.Common.{◌≡◌, ℕ, ◌<◌, ◌≤◌, false, List, length, get_or, None, Option}
use Rattle.parts.specs.Marks.{hit}
use Rattle.engines.specs.Tables.{Lies}
use Rattle.engines.proofs.searches.satisfied_marks.Given as goal

-- the places so far are marked, and those from there on are not
abbrev pub invariant-loop-place : goal.invariant-loop-place
invariant-loop-place g l =
    (length l.marks ≡ 96)
    × ((xs : List (Option g.row.V.Denot)) → Lies g.V.Kind.plain l.rows l.used.full xs → (k : ℕ) → k < l.place → get_or l.marks k false ≡ hit (λ v. g.V.Kind.satisfied v l.number) (get_or xs k None))
    × ((k : ℕ) → l.place ≤ k → get_or l.marks k false ≡ false)
