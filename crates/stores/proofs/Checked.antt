-- Refusals of a store: what is known where a call is refused, and where it is not.
use Rattle.std.proofs.Common.{◌≡◌, ℕ, ◌<◌, Bool, true, false, cond, ltb, List, [], ◌∷◌, get_or, Some, None, Ok, Err, Option, sym, refl, ap, ◌∙◌, ⊎_elim, arith}
use Rattle.std.proofs.lemmas.Option.{none-some}
use Rattle.std.proofs.lemmas.Bool.{cases_Bool, ltb-false}
use Rattle.fields.specs.declared.faults.Fault.{Fault}
use Rattle.fields.specs.declared.faults.Fault.TheVariants.{Label, Full, Elsewhere}
use Rattle.fields.specs.Faults.{answer, unless, when, first_fault}
use Rattle.parts.specs.Meaning.{Meaning, find, full, label_fault, elsewhere, set_fault, taken, put, after_set}
use Rattle.stores.specs.declared.pairs.Pair.{Pair}
use Rattle.stores.specs.Pairs.{same_pair, pair_labels, Within}
use Rattle.parts.specs.Checks.{set_refusal, taken_from}
use Rattle.parts.proofs.Finding.{split}

pub answer_ok : {A : Type 0} (o : Option Fault) (a b : A) → answer o a ≡ Ok b → o ≡ None
answer_ok None a b e = refl
answer_ok (Some g) a b e = cc

label_fits : (l : ℕ) (ls : List ℕ) → label_fault (l ∷ ls) ≡ None → (l < 96) × (label_fault ls ≡ None)
label_fits l ls e = ⊎_elim
    (λ (t : ltb 95 l ≡ true). absurd (none-some (Label l) (sym e ∙ ap (λ (b : Bool). cond b (Some (Label l)) (label_fault ls)) t)))
    (λ (f : ltb 95 l ≡ false). (omega (arith, ltb-false 95 l f), ap (λ (b : Bool). cond b (Some (Label l)) (label_fault ls)) (sym f) ∙ e))
    (cases_Bool (ltb 95 l))

-- a pair that no check of labels refuses
pub labels_within : (v : Pair) → label_fault (pair_labels v) ≡ None → Within v
labels_within v e = let l = label_fits v.left (v.right ∷ []) e in (l.0, (label_fits v.right [] l.1).0)

first_none : (o : Option Fault) (fs : List (Option Fault)) → first_fault (o ∷ fs) ≡ None → (o ≡ None) × (first_fault fs ≡ None)
first_none None fs e = (refl, e)
first_none (Some f) fs e = absurd (none-some f (sym e))

not_full : (place : ℕ) (o : Option Pair) → when (full o) (Full place) ≡ None → o ≡ None
not_full place None e = refl
not_full place (Some v) e = absurd (none-some (Full place) (sym e))

nowhere : (o : Option ℕ) → elsewhere o ≡ None → o ≡ None
nowhere None e = refl
nowhere (Some l) e = absurd (none-some (Elsewhere l) (sym e))

-- set is accepted
pub accepted : (place : ℕ) (v : Pair) (held : Option Pair) (found : Option ℕ) → set_refusal place (pair_labels v) held found ≡ None → (place < 96) × Within v × (held ≡ None) × (found ≡ None)
accepted place v held found e =
    let a = first_none (label_fault (place ∷ pair_labels v)) (when (full held) (Full place) ∷ elsewhere found ∷ []) e in
    let b = first_none (when (full held) (Full place)) (elsewhere found ∷ []) a.1 in
    let c = first_none (elsewhere found) [] b.1 in
    let p = label_fits place (pair_labels v) a.0 in
    (p.0, labels_within v p.1, not_full place held b.0, nowhere found c.0)

-- what the store read and found is what its meaning has
pub refusal_is : (places : List (Option Pair)) (place : ℕ) (v : Pair) (held : Option Pair) (found : Option ℕ) → held ≡ get_or places place None → (Within v → found ≡ find same_pair places v)
    → set_refusal place (pair_labels v) held found ≡ set_fault same_pair pair_labels places place v
refusal_is places place v held found h f = ⊎_elim
    (λ (e : label_fault (place ∷ pair_labels v) ≡ None).
    ap (λ (o : Option Pair). set_refusal place (pair_labels v) o found) h ∙ ap (λ (o : Option ℕ). set_refusal place (pair_labels v) (get_or places place None) o) (f (labels_within v (label_fits place (pair_labels v) e).1)))
    (λ (r : (g : Fault) × (label_fault (place ∷ pair_labels v) ≡ Some g)).
    ap (λ (o : Option Fault). first_fault (o ∷ when (full held) (Full place) ∷ elsewhere found ∷ [])) r.1
    ∙ sym (ap (λ (o : Option Fault). first_fault (o ∷ when (full (get_or places place None)) (Full place) ∷ elsewhere (find same_pair places v) ∷ [])) r.1))
    (split (label_fault (place ∷ pair_labels v)))

pub set_done : (m : Meaning Pair) (place : ℕ) (v : Pair) → set_fault same_pair pair_labels m.places place v ≡ None → after_set same_pair pair_labels m place v ≡ put m place (Some v)
set_done m place v e = ap (λ (o : Option Fault). unless o m (put m place (Some v))) e

took : (place : ℕ) (held : Option Pair) (v : Pair) → taken place held ≡ Ok v → held ≡ Some v
took place None v e = cc
took place (Some w) v e = ap Some (let h : w ≡ v = cc in h)

-- clear is accepted
pub taken_ok : (place : ℕ) (held : Option Pair) (v : Pair) → taken_from place held ≡ Ok v → (place < 96) × (held ≡ Some v)
taken_ok place held v e = ⊎_elim
    (λ (t : ltb 95 place ≡ true).
    let q : Err (Label place) ≡ Ok v = ap (λ (b : Bool). cond b (Err (Label place)) (taken place held)) (sym t) ∙ e in
    cc)
    (λ (f : ltb 95 place ≡ false). (omega (arith, ltb-false 95 place f), took place held v (ap (λ (b : Bool). cond b (Err (Label place)) (taken place held)) (sym f) ∙ e)))
    (cases_Bool (ltb 95 place))

-- an accepted find
pub accepted_find : (o : Option Fault) → o ≡ None → (r s : Option ℕ) → r ≡ s → Ok r ≡ answer o s
accepted_find o e r s h = ap Ok h ∙ sym (ap (λ (x : Option Fault). answer x s) e)
