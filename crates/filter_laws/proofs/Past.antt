-- A filter stands exactly if an add of it was accepted, and no later removal of its identifier was.
use Rattle.std.proofs.Common.{◌≡◌, ℕ, zero, suc, ◌<◌, ◌≤◌, ◌⊎◌, List, [], ◌∷◌, ◌++◌, length, take, Some, None, sym, refl, ap, ◌∙◌, subst, inl, inr, ⊎_elim, append_assoc, arith}
use Rattle.std.specs.List.{slice_get}
use Rattle.std.proofs.lemmas.List.{length_push, take_at, take-append-le, append-nil}
use Rattle.std.proofs.lemmas.Option.{slice_get_within, slice_get_past}
use Rattle.std.proofs.lemmas.List.Sums.{fold_push}
use Rattle.std.proofs.lemmas.Bool.{cases_order}
use Rattle.filters.specs.declared.rows.FilterRow.{FilterRow}
use Rattle.filters.specs.declared.calls.Call.{Call}
use Rattle.filters.specs.declared.calls.Call.TheVariants.{Add, Remove, Inspect, Search}
use Rattle.filters.specs.Counting.{Among}
use Rattle.filters.specs.Standing.{refusal, put, without, after, standing}
use Rattle.filter_laws.specs.Histories.{Added, History}
use Rattle.filter_laws.proofs.Edits.{unless_cases, put_new, put_old, put_either, without_old, without_other, without_gone}
use Rattle.filter_laws.proofs.Ordering.{ordered_standing}

-- the calls of p and one more
nth_front : (p q : List Call) (i : ℕ) → i < length p → slice_get (p ++ q) i ≡ slice_get p i
nth_front [] q i l = absurd (omega arith)
nth_front (c ∷ p) q zero l = refl
nth_front (c ∷ p) q (suc i) l = nth_front p q i (omega arith)

nth_last : (p : List Call) (c : Call) → slice_get (p ++ c ∷ []) (length p) ≡ Some c
nth_last [] c = refl
nth_last (x ∷ p) c = nth_last p c

nth_behind : (p : List Call) (c : Call) (i : ℕ) → length p < i → slice_get (p ++ c ∷ []) i ≡ None
nth_behind p c i l = slice_get_past (p ++ c ∷ []) i (omega (arith, length_push p c))

module _ (p : List Call) (c : Call) where
  abbrev more : List Call
  more = p ++ c ∷ []

  abbrev Accepts : List Call → Call → Type 0
  Accepts calls call = refusal (standing calls) call ≡ None

  earlier : (i : ℕ) (call : Call) → i ≤ length p → Accepts (take i more) call → Accepts (take i p) call
  earlier i call l h = subst (λ (q : List Call). Accepts q call) (take-append-le i p (c ∷ []) l) h

  later : (i : ℕ) (call : Call) → i ≤ length p → Accepts (take i p) call → Accepts (take i more) call
  later i call l h = subst (λ (q : List Call). Accepts q call) (sym (take-append-le i p (c ∷ []) l)) h

  at_last : (call : Call) → Accepts (take (length p) more) call → Accepts p call
  at_last call h = subst (λ (q : List Call). Accepts q call) (take_at p (c ∷ []) (length p) refl) h

  -- the call at a place is an earlier one or the last
  place : (i : ℕ) (x : Call) → slice_get more i ≡ Some x → ((i < length p) × (slice_get p i ≡ Some x)) ⊎ ((i ≡ length p) × (c ≡ x))
  place i x h =
      ⊎_elim (λ e. inr (e, (let n : Some c ≡ Some x = sym (nth_last p c) ∙ ap (slice_get more) (sym e) ∙ h in cc)))
      (⊎_elim (λ l. inl (l, sym (nth_front p (c ∷ []) i l) ∙ h))
      (λ l. absurd (let n : None ≡ Some x = sym (nth_behind p c i l) ∙ h in let z : ◌≡◌ {A = ℕ} 0 1 = cc in omega arith)))
      (cases_order i (length p))

  extend : (f : FilterRow) → Added p f → (c ≡ Remove f.identifier → Accepts p (Remove f.identifier) → ⊥) → Added more f
  extend f a stays =
      let below = slice_get_within p a.at (Add f) a.added in
      record {
        at = a.at;
        added = nth_front p (c ∷ []) a.at below ∙ a.added;
        accepted = later a.at (Add f) (omega arith) a.accepted;
        kept = λ j past is ok. ⊎_elim
            (λ h. let l = h.0 in a.kept j past h.1 (earlier j (Remove f.identifier) (omega arith) ok))
            (λ h. stays h.1 (at_last (Remove f.identifier) (subst (λ (k : ℕ). Accepts (take k more) (Remove f.identifier)) h.0 ok)))
            (place j (Remove f.identifier) is);
      }

  begin : (f : FilterRow) → c ≡ Add f → Accepts p (Add f) → Added more f
  begin f e ok =
      record {
        at = length p;
        added = nth_last p c ∙ ap Some e;
        accepted = subst (λ (q : List Call). Accepts q (Add f)) (sym (take_at p (c ∷ []) (length p) refl)) ok;
        kept = λ j past is ok'. let n : None ≡ Some (Remove f.identifier) = sym (nth_behind p c j past) ∙ is in absurd (let z : ◌≡◌ {A = ℕ} 0 1 = cc in omega arith);
      }

  shrink : (f : FilterRow) → Added more f → (Added p f × (c ≡ Remove f.identifier → Accepts p (Remove f.identifier) → ⊥)) ⊎ ((c ≡ Add f) × Accepts p (Add f))
  shrink f a =
      ⊎_elim
      (λ h. let below = h.0 in inl (
        record {
          at = a.at;
          added = h.1;
          accepted = earlier a.at (Add f) (omega arith) a.accepted;
          kept = λ j past is ok. let l = slice_get_within p j (Remove f.identifier) is in a.kept j past (nth_front p (c ∷ []) j l ∙ is) (later j (Remove f.identifier) (omega arith) ok);
        },
        (λ e ok. a.kept (length p) below (nth_last p c ∙ ap Some e) (subst (λ (q : List Call). Accepts q (Remove f.identifier)) (sym (take_at p (c ∷ []) (length p) refl)) ok)),
      ))
      (λ h. inr (h.1, at_last (Add f) (subst (λ (k : ℕ). Accepts (take k more) (Add f)) h.0 a.accepted)))
      (place a.at (Add f) a.added)

-- the law for one list of calls
abbrev Told : List Call → Type 0
Told p = (f : FilterRow) → (Among f (standing p) → Added p f) × (Added p f → Among f (standing p))

stood_after : (p : List Call) (c : Call) → Told p → (f : FilterRow) → Among f (after (standing p) c) → Added (p ++ c ∷ []) f
stood_after p (Add g) told f m =
    unless_cases (refusal (standing p) (Add g)) (standing p) (put g (standing p)) (λ l. Among f l → Added (p ++ Add g ∷ []) f)
    (λ ok n. ⊎_elim (λ e. begin p (Add g) f (ap Add e) (subst (λ (x : FilterRow). refusal (standing p) (Add x) ≡ None) e ok))
    (λ old. extend p (Add g) f ((told f).0 old) (λ e _. grind arith)) (put_either g f (standing p) n))
    (λ e h n. extend p (Add g) f ((told f).0 n) (λ e' _. grind arith)) m
stood_after p (Remove id) told f m =
    unless_cases (refusal (standing p) (Remove id)) (standing p) (without id (standing p)) (λ l. Among f l → Added (p ++ Remove id ∷ []) f)
    (λ ok l. extend p (Remove id) f ((told f).0 (without_old id f (standing p) l))
    (λ e _. let n : id ≡ f.identifier = cc in without_gone id f (standing p) (ordered_standing p).identifiers l n))
    (λ e h l. extend p (Remove id) f ((told f).0 l)
    (λ e' ok. let n : id ≡ f.identifier = cc in
    let both : Some e ≡ None = sym h ∙ subst (λ (k : ℕ). refusal (standing p) (Remove k) ≡ None) (sym n) ok in
    let z : ◌≡◌ {A = ℕ} 0 1 = cc in omega arith)) m
stood_after p (Inspect id q) told f m = extend p (Inspect id q) f ((told f).0 m) (λ e _. grind arith)
stood_after p (Search h r room) told f m = extend p (Search h r room) f ((told f).0 m) (λ e _. grind arith)

stays_after : (p : List Call) (c : Call) (f : FilterRow) → Among f (standing p) → (c ≡ Remove f.identifier → refusal (standing p) (Remove f.identifier) ≡ None → ⊥) → Among f (after (standing p) c)
stays_after p (Add g) f m stays =
    unless_cases (refusal (standing p) (Add g)) (standing p) (put g (standing p)) (Among f) (λ ok. put_old g f (standing p) m) (λ e h. m)
stays_after p (Remove id) f m stays =
    unless_cases (refusal (standing p) (Remove id)) (standing p) (without id (standing p)) (Among f)
    (λ ok. without_other id f (standing p) (λ n. stays (ap Remove n) (subst (λ (k : ℕ). refusal (standing p) (Remove k) ≡ None) n ok)) m) (λ e h. m)
stays_after p (Inspect id q) f m stays = m
stays_after p (Search h r room) f m stays = m

starts_after : (p : List Call) (f : FilterRow) → refusal (standing p) (Add f) ≡ None → Among f (after (standing p) (Add f))
starts_after p f ok =
    unless_cases (refusal (standing p) (Add f)) (standing p) (put f (standing p)) (Among f) (λ _. put_new f (standing p))
    (λ e h. absurd (let both : Some e ≡ None = sym h ∙ ok in let z : ◌≡◌ {A = ℕ} 0 1 = cc in omega arith))

told_more : (p : List Call) (c : Call) → Told p → Told (p ++ c ∷ [])
told_more p c told f =
    let is : standing (p ++ c ∷ []) ≡ after (standing p) c = fold_push after [] p c in (
      (λ m. stood_after p c told f (subst (λ (l : List FilterRow). Among f l) is m)),
      (λ a. subst (λ (l : List FilterRow). Among f l) (sym is)
          (⊎_elim (λ h. stays_after p c f ((told f).1 h.0) h.1)
          (λ h. subst (λ (x : Call). Among f (after (standing p) x)) (sym h.0) (starts_after p f h.1)) (shrink p c f a))),
    )

told_run : (p calls : List Call) → Told p → Told (p ++ calls)
told_run p [] told = subst Told (sym (append-nil p)) told
told_run p (c ∷ cs) told = subst Told (append_assoc p (c ∷ []) cs) (told_run (p ++ c ∷ []) cs (told_more p c told))

told_none : Told []
told_none f = ((λ m. absurd m), (λ a. let n : None ≡ Some (Add f) = a.added in absurd (let z : ◌≡◌ {A = ℕ} 0 1 = cc in omega arith)))

pub history : (calls : List Call) → History calls
history calls =
    let told = told_run [] calls told_none in
    record { ordered = ordered_standing calls; stood = λ f. (told f).0; stands = λ f. (told f).1 }
