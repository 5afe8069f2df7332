-- the meaning and the asked list so far, from which the calls that are left give what all give
use Rattle.std.proofs.Common.{◌≡◌, ℕ, List, [], ◌++◌, take, drop, vec_items}
use Rattle.parts.specs.Meaning.{Meaning, nothing}
use Rattle.engine_runs.specs.Runs.{Tests, tests, run_answers, run_after, run_asked}
use Rattle.engine_runs.proofs.runs.run.Given as goal

abbrev pub kind : (g : goal.Over) → Tests g.row.V.Denot
kind g = tests g.V.Key.eq g.V.Key.labels g.V.Kind.satisfied

abbrev pub invariant-loop-call : goal.invariant-loop-call
invariant-loop-call g l =
    (m : Meaning g.row.V.Denot) × (ns : List ℕ)
    × (g.E.Told.shows l.engine m)
    × (g.E.Told.agrees l.engine ns)
    × (vec_items l.answers ++ run_answers (kind g) m (drop l.call-index l.calls) ≡ run_answers (kind g) nothing l.calls)
    × (run_after (kind g) m (drop l.call-index l.calls) ≡ run_after (kind g) nothing l.calls)
    × (run_asked ns (drop l.call-index l.calls) ≡ run_asked [] l.calls)
    × (m ≡ run_after (kind g) nothing (take l.call-index l.calls))
