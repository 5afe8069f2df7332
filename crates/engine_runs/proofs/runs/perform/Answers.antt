use Rattle.std.proofs.Common.{◌≡◌, ℕ, Bool, List, length, Ok, Result, sym, ap, ◌∙◌, subst}
use Rattle.std.proofs.lemmas.Result.{IfOk-at_ok}
use Rattle.fields.specs.declared.faults.Fault.{Fault}
use Rattle.parts.specs.Meaning.{Meaning}
use Rattle.parts.specs.Marks.{labels_of}
use Rattle.engine_runs.specs.declared.calls.Call.{Call}
use Rattle.engine_runs.specs.declared.calls.Answer.TheVariants as told
use Rattle.engine_runs.specs.Runs.{Tests, tests, answers, after, asked_after}
use Rattle.engine_runs.specs.Satisfied.{Exactly}
use Rattle.engine_runs.proofs.Exact.{exactly}
use Rattle.engine_runs.proofs.runs.perform.Goals as goal

pub returns-in-Match : goal.returns-in-Match
returns-in-Match g c =
    let k : Tests g.row.V.Denot = tests g.V.Key.eq g.V.Key.labels g.V.Kind.satisfied in
    let n = c.in-Match.number in
    let r = c.matches-found.result in
    let list = c.matches-found.new.list in
    let e = c.matches-found.ensures in
    let p : g.row.V.Denot → Bool = λ v. g.V.Kind.satisfied v n in
    let Shows = g.E.Told.shows c.args.engine.now in
    let answered : (m : Meaning g.row.V.Denot) → Shows m → told.Matched r list ≡ answers k m c.args.call = λ m h.
    ap (λ (x : Result ℕ Fault). told.Matched x list) (e.result m h)
    ∙ ap (λ (xs : List ℕ). told.Matched (Ok (length (labels_of p m.places))) xs) (e.written m h)
    ∙ ap (answers k m) (sym c.in-Match.is) in
    record {
      answer = answered;
      held = λ m h. subst (λ (x : Call g.row.V.Denot). g.E.Told.shows c.matches-found.new.self (after k m x)) (sym c.in-Match.is) (e.held m h);
      asked = λ m l h a. subst (λ (x : Call g.row.V.Denot). g.E.Told.agrees c.matches-found.new.self (asked_after l x)) (sym c.in-Match.is) (IfOk-at_ok _ (e.result m h) e.asked l a);
      exactly = λ m h. subst (Exactly g.V.Kind.satisfied m c.args.call) (sym (answered m h)) (exactly k m c.args.call);
    }
