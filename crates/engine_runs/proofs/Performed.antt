-- One call more.
use Rattle.std.proofs.Common.{◌≡◌, ℕ, ◌+◌, ◌<◌, List, [], ◌∷◌, ◌++◌, length, get_or, take, sym, refl, ap, ◌∙◌}
use Rattle.std.proofs.lemmas.List.{take_more}
use Rattle.parts.specs.Meaning.{Meaning}
use Rattle.engine_runs.specs.declared.calls.Call.{Call}
use Rattle.engine_runs.specs.Runs.{Tests, after, run_after}

run_push : {V : Type 0} (k : Tests V) (m : Meaning V) (cs : List (Call V)) (c : Call V) → run_after k m (cs ++ c ∷ []) ≡ after k (run_after k m cs) c
run_push k m [] c = refl
run_push k m (x ∷ cs) c = run_push k (after k m x) cs c

pub run_more : {V : Type 0} (k : Tests V) (m : Meaning V) (calls : List (Call V)) (i : ℕ) (x : Call V) → i < length calls → x ≡ get_or calls i x → run_after k m (take (i + 1) calls) ≡ after k (run_after k m (take i calls)) x
run_more {V} k m calls i x h e = ap (run_after k m) (take_more calls i x h) ∙ ap (λ (y : Call V). run_after k m (take i calls ++ y ∷ [])) (sym e) ∙ run_push k m (take i calls) x
