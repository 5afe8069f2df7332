use Rattle.std.proofs.Common.{◌≡◌, ◌+◌, ◌<◌, List, [], ◌∷◌, ◌++◌, length, take, drop, vec_items, sym, ap, ◌∙◌, subst, append_assoc, append-nil}
use Rattle.std.proofs.lemmas.List.{at_drop_more, at_drop_all}
use Rattle.std.proofs.lemmas.Result.{IfOk-from_err}
use Rattle.parts.specs.Meaning.{Meaning, nothing}
use Rattle.engine_runs.specs.declared.calls.Answer.{Answer}
use Rattle.engine_runs.specs.declared.calls.Call.{Call}
use Rattle.engine_runs.specs.Runs.{answers, after, asked_after, run_answers, run_after, run_asked}
use Rattle.engine_runs.proofs.Performed.{run_more}
use Rattle.engine_runs.proofs.runs.run.Invariants.{kind}
use Rattle.engine_runs.proofs.runs.run.Goals as goal

pub loop-call-preserved : goal.loop-call-preserved
loop-call-preserved g c =
    let k = kind g in
    let calls = c.args.calls.now in
    let i = c.loop-call.call-index in
    let inv = c.loop-call.invariant in
    let m = inv.0 in
    let ns = inv.1 in
    let x = c.call-item.result in
    let w : i < length calls = c.loop-call-test.true in
    let rest = drop (i + 1) calls in
    let is = c.call-item.is in
    let more : run_answers k m (drop i calls) ≡ answers k m x ∷ run_answers k (after k m x) rest = at_drop_more (run_answers k m) calls i x w ∙ ap (λ (y : Call g.row.V.Denot). run_answers k m (y ∷ rest)) (sym is) in
    let shown = c.perform.ensures.held m inv.2 in
    let pushed = c.in_ok-push.ensures.items in
    let old = vec_items c.loop-call.answers in (
      after k m x,
      asked_after ns x,
      shown,
      c.perform.ensures.asked m ns inv.2 inv.3,
      ap (λ (xs : List (Answer g.row.V.Denot)). xs ++ run_answers k (after k m x) rest) pushed
          ∙ append_assoc old (c.perform.result ∷ []) (run_answers k (after k m x) rest)
          ∙ ap (λ (a : Answer g.row.V.Denot). old ++ a ∷ run_answers k (after k m x) rest) (c.perform.ensures.answer m inv.2)
          ∙ ap (λ (xs : List (Answer g.row.V.Denot)). old ++ xs) (sym more) ∙ inv.4,
      sym (at_drop_more (run_after k m) calls i x w ∙ ap (λ (y : Call g.row.V.Denot). run_after k m (y ∷ rest)) (sym is)) ∙ inv.5,
      sym (at_drop_more (run_asked ns) calls i x w ∙ ap (λ (y : Call g.row.V.Denot). run_asked ns (y ∷ rest)) (sym is)) ∙ inv.6,
      ap (λ (a : Meaning g.row.V.Denot). after k a x) inv.7 ∙ sym (run_more k nothing calls i x w is),
    )

pub returns-in_err-push : goal.returns-in_err-push
returns-in_err-push g c =
    let k = kind g in
    let calls = c.args.calls.now in
    let i = c.loop-call.call-index in
    let inv = c.loop-call.invariant in
    let x = c.call-item.result in
    let on : after k inv.0 x ≡ run_after k nothing (take (i + 1) calls) = ap (λ (a : Meaning g.row.V.Denot). after k a x) inv.7 ∙ sym (run_more k nothing calls i x c.loop-call-test.true c.call-item.is) in
    record {
      answers = IfOk-from_err c.from_residual.result _ c.from_residual.ensures.0;
      held = IfOk-from_err c.from_residual.result _ c.from_residual.ensures.0;
      asked = IfOk-from_err c.from_residual.result _ c.from_residual.ensures.0;
      part = (i + 1, subst (g.E.Told.shows c.perform.new.engine) on (c.perform.ensures.held inv.0 inv.2));
    }

pub returns : goal.returns
returns g c =
    let k = kind g in
    let calls = c.args.calls.now in
    let i = c.loop-call.call-index in
    let inv = c.loop-call.invariant in
    let m = inv.0 in
    let ns = inv.1 in
    let w = c.loop-call-test.false in
    record {
      answers = sym (append-nil (vec_items c.loop-call.answers)) ∙ ap (λ (xs : List (Answer g.row.V.Denot)). vec_items c.loop-call.answers ++ xs) (sym (at_drop_all (run_answers k m) calls i w)) ∙ inv.4;
      held = subst (g.E.Told.shows c.loop-call.engine) (sym (at_drop_all (run_after k m) calls i w) ∙ inv.5) inv.2;
      asked = subst (g.E.Told.agrees c.loop-call.engine) (sym (at_drop_all (run_asked ns) calls i w) ∙ inv.6) inv.3;
      part = (i, subst (g.E.Told.shows c.loop-call.engine) inv.7 inv.2);
    }
