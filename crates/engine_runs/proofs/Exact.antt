-- What a match writes are the labels of the satisfied values.
use Rattle.std.proofs.Common.{◌≡◌, Bool, true, List, map, get_or, replicate, Some, None, Option, sym, refl, ap, ◌∙◌, subst}
use Rattle.std.proofs.lemmas.Bool.{false≢true}
use Rattle.parts.specs.Meaning.{Meaning}
use Rattle.parts.specs.Marks.{hit, labels_of}
use Rattle.parts.proofs.Marked.{marked_exactly, take_over}
use Rattle.engines.proofs.Marking.{hit_at}
use Rattle.engine_runs.specs.declared.calls.Call.{Call}
use Rattle.engine_runs.specs.declared.calls.Call.TheVariants as call
use Rattle.engine_runs.specs.Runs.{Tests, answers}
use Rattle.engine_runs.specs.Satisfied.{ListsSatisfied, Exactly}

held : {V : Type 0} (p : V → Bool) (o : Option V) → hit p o ≡ true → (v : V) × (o ≡ Some v) × (p v ≡ true)
held p None e = absurd (false≢true e)
held p (Some v) e = (v, refl, e)

labels_exactly : {V : Type 0} (p : V → Bool) (xs : List (Option V)) → ListsSatisfied p xs (labels_of p xs)
labels_exactly p xs =
    let e = marked_exactly (map (hit p) xs) in
    record {
      rising = e.rising;
      only = λ l h. held p (get_or xs l None) (sym (hit_at p xs l) ∙ e.only l h);
      all = λ l v h t. e.all l (hit_at p xs l ∙ ap (hit p) h ∙ t);
    }

pub exactly : {V : Type 0} (k : Tests V) (m : Meaning V) (c : Call V) → Exactly k.satisfied m c (answers k m c)
exactly k m call.Empty = tt
exactly k m (call.Set l v) = tt
exactly k m (call.Clear l) = tt
exactly {V} k m (call.Match n) =
    let p : V → Bool = λ v. k.satisfied v n in
    subst (ListsSatisfied p m.places) (sym (take_over (labels_of p m.places) (replicate 96 0))) (labels_exactly p m.places)
