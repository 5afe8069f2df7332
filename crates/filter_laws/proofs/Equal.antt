-- Lists in rank order that have the same filters are equal, so what stands decides everything.
use Rattle.std.proofs.Common.{◌≡◌, true, List, [], ◌∷◌, sym, refl, ap, ◌∙◌, subst, inl, inr, ⊎_elim}
use Rattle.std.proofs.lemmas.Bool.{both_ways}
use Rattle.filters.specs.declared.rows.FilterRow.{FilterRow}
use Rattle.filters.specs.declared.calls.Call.{Call}
use Rattle.filters.specs.Counting.{Among}
use Rattle.filters.specs.Filters.{ranks_ahead}
use Rattle.filters.specs.Standing.{refusal, standing}
use Rattle.filters.specs.Scans.{scan}
use Rattle.filters.specs.Answers.{answer}
use Rattle.filter_laws.specs.Relations.{SameFilters, Alike}
use Rattle.filter_laws.proofs.Ranks.{Ranked, ahead_irreflexive, ahead_asymmetric}
use Rattle.filter_laws.proofs.Edits.{all_among}
use Rattle.filter_laws.proofs.Ordering.{ordered_standing}

-- the first of a list ranks ahead of all behind it, so it is none of them
not_behind : (x f : FilterRow) (xs : List FilterRow) → Ranked (x ∷ xs) → Among f xs → x ≡ f → ⊥
not_behind x f xs ranked m e =
    both_ways (ranks_ahead x x) (ahead_irreflexive x) (subst (λ (y : FilterRow). ranks_ahead x y ≡ true) (sym e) (all_among (λ y. ranks_ahead x y ≡ true) f xs ranked.0 m))

-- whoever is first on both sides is the same
first_same : (x y : FilterRow) (xs ys : List FilterRow) → Ranked (x ∷ xs) → Ranked (y ∷ ys) → Among x (y ∷ ys) → Among y (x ∷ xs) → x ≡ y
first_same x y xs ys rx ry (inl e) n = sym e
first_same x y xs ys rx ry (inr m) (inl e) = e
first_same x y xs ys rx ry (inr m) (inr n) =
    absurd (both_ways (ranks_ahead y x) (ahead_asymmetric x y (all_among (λ f. ranks_ahead x f ≡ true) y xs rx.0 n)) (all_among (λ f. ranks_ahead y f ≡ true) x ys ry.0 m))

pub equal_lists : (xs ys : List FilterRow) → Ranked xs → Ranked ys → ((f : FilterRow) → Among f xs → Among f ys) → ((f : FilterRow) → Among f ys → Among f xs) → xs ≡ ys
equal_lists [] [] rx ry to from = refl
equal_lists [] (y ∷ ys) rx ry to from = absurd (from y (inl refl))
equal_lists (x ∷ xs) [] rx ry to from = absurd (to x (inl refl))
equal_lists (x ∷ xs) (y ∷ ys) rx ry to from =
    let e = first_same x y xs ys rx ry (to x (inl refl)) (from y (inl refl)) in
    let tails = equal_lists xs ys rx.1 ry.1
    (λ f m. ⊎_elim (λ k. absurd (not_behind x f xs rx m (e ∙ k))) (λ k. k) (to f (inr m)))
    (λ f m. ⊎_elim (λ k. absurd (not_behind y f ys ry m (sym e ∙ k))) (λ k. k) (from f (inr m))) in
    λ i. e i ∷ tails i

pub alike : (cs ds : List Call) → SameFilters cs ds → Alike cs ds
alike cs ds same =
    let e = equal_lists (standing cs) (standing ds) (ordered_standing cs).ranked (ordered_standing ds).ranked (λ f. (same f).0) (λ f. (same f).1) in
    record {
      lists = e;
      refusals = λ call. ap (λ (l : List FilterRow). refusal l call) e;
      scans = λ h r. ap (λ (l : List FilterRow). scan l h r) e;
      answers = λ order call. ap (λ (l : List FilterRow). answer order l call) e;
    }
