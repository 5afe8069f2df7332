-- Checks in their order: where one fault decides, and what is known where none does.
use Rattle.std.proofs.Common.{◌≡◌, ℕ, ◌<◌, Bool, true, false, not, eqb, leb, List, [], ◌∷◌, ◌++◌, length, Some, None, Ok, Err, Option, refl, ap, ◌∙◌, arith}
use Rattle.std.proofs.lemmas.Bool.{leb-false, not-false, ne_eqb}
use Rattle.fields.specs.declared.faults.Fault.{Fault}
use Rattle.fields.specs.declared.faults.Fault.TheVariants.{Identifier, Stands, Unknown, Crowded}
use Rattle.fields.specs.Faults.{when, first_fault, answer, answer_by}
use Rattle.filters.specs.declared.rows.FilterRow.{FilterRow}
use Rattle.filters.specs.declared.calls.Call.TheVariants.{Add, Remove}
use Rattle.filters.specs.Counting.{some}
use Rattle.filters.specs.Filters.{row_checks, row_fault, same_identifier}
use Rattle.filters.specs.Standing.{capacity, refusal, adding_checks, standing_check, twin}

when_none : (b : Bool) (e : Fault) → when b e ≡ None → b ≡ false
when_none true e h = absurd (let z : ◌≡◌ {A = ℕ} 0 1 = cc in omega arith)
when_none false e h = refl

none_parts : (o : Option Fault) (os : List (Option Fault)) → first_fault (o ∷ os) ≡ None → (o ≡ None) × (first_fault os ≡ None)
none_parts None os h = (refl, h)
none_parts (Some e) os h = absurd (let z : ◌≡◌ {A = ℕ} 0 1 = cc in omega arith)

none_append : (xs ys : List (Option Fault)) → first_fault (xs ++ ys) ≡ None → (first_fault xs ≡ None) × (first_fault ys ≡ None)
none_append [] ys h = (refl, h)
none_append (None ∷ xs) ys h = none_append xs ys h
none_append (Some e ∷ xs) ys h = absurd (let z : ◌≡◌ {A = ℕ} 0 1 = cc in omega arith)

pub fault_append : (xs ys : List (Option Fault)) (e : Fault) → first_fault xs ≡ Some e → first_fault (xs ++ ys) ≡ Some e
fault_append [] ys e h = absurd (let z : ◌≡◌ {A = ℕ} 0 1 = cc in omega arith)
fault_append (None ∷ xs) ys e h = fault_append xs ys e h
fault_append (Some d ∷ xs) ys e h = h

pub after_checks : (xs ys : List (Option Fault)) → first_fault xs ≡ None → first_fault (xs ++ ys) ≡ first_fault ys
after_checks [] ys h = refl
after_checks (None ∷ xs) ys h = after_checks xs ys h
after_checks (Some d ∷ xs) ys h = absurd (let z : ◌≡◌ {A = ℕ} 0 1 = cc in omega arith)

-- what forming a value tells of its row
pub formed_ok : {A B : Type 0} (f : A → B) (o : Option Fault) (a : A) (b : B) → answer_by f (Ok a) ≡ answer o b → (o ≡ None) × (f a ≡ b)
formed_ok f None a b h = (refl, cc)
formed_ok f (Some e) a b h = absurd (let z : ◌≡◌ {A = ℕ} 0 1 = cc in omega arith)

pub formed_err : {A B : Type 0} (f : A → B) (o : Option Fault) (e : Fault) (b : B) → answer_by f (Err e) ≡ answer o b → o ≡ Some e
formed_err f None e b h = absurd (let z : ◌≡◌ {A = ℕ} 0 1 = cc in omega arith)
formed_err f (Some d) e b h = cc

-- an add that is accepted
pub record Accepted (fs : List FilterRow) (f : FilterRow) : Type 0 where
  pub formed : row_fault f ≡ None
  pub fresh : some (same_identifier f.identifier) fs ≡ false
  pub no_twin : twin fs f ≡ None
  pub room : length fs < capacity

pub accepted_add : (fs : List FilterRow) (f : FilterRow) → refusal fs (Add f) ≡ None → Accepted fs f
accepted_add fs f h =
    let p = none_append (row_checks f) (adding_checks fs f) h in
    let q = none_parts (when (some (same_identifier f.identifier) fs) (Stands f.identifier)) (twin fs f ∷ when (leb capacity (length fs)) Crowded ∷ []) p.1 in
    let r = none_parts (twin fs f) (when (leb capacity (length fs)) Crowded ∷ []) q.1 in
    let s = none_parts (when (leb capacity (length fs)) Crowded) [] r.1 in
    record {
      formed = p.0;
      fresh = when_none (some (same_identifier f.identifier) fs) (Stands f.identifier) q.0;
      no_twin = r.0;
      room = leb-false capacity (length fs) (when_none (leb capacity (length fs)) Crowded s.0);
    }

-- a removal that is accepted
pub accepted_removal : (fs : List FilterRow) (id : ℕ) → refusal fs (Remove id) ≡ None → some (same_identifier id) fs ≡ true
accepted_removal fs id h =
    let p = none_parts (when (eqb id 0) Identifier) (standing_check fs id ∷ []) h in
    let q = none_parts (standing_check fs id) [] p.1 in
    not-false (some (same_identifier id) fs) (when_none (not (some (same_identifier id) fs)) (Unknown id) q.0)

pub removal_accepted : (fs : List FilterRow) (id : ℕ) → (id ≡ 0 → ⊥) → some (same_identifier id) fs ≡ true → refusal fs (Remove id) ≡ None
removal_accepted fs id named stands =
    ap (λ (b : Bool). first_fault (when b Identifier ∷ standing_check fs id ∷ [])) (ne_eqb id 0 named)
    ∙ ap (λ (b : Bool). first_fault (when (not b) (Unknown id) ∷ [])) stands

-- an add that only its values refuse
pub refused_twin : (fs : List FilterRow) (f : FilterRow) (e : Fault) → row_fault f ≡ None → some (same_identifier f.identifier) fs ≡ false → twin fs f ≡ Some e → refusal fs (Add f) ≡ Some e
refused_twin fs f e formed fresh same =
    after_checks (row_checks f) (adding_checks fs f) formed
    ∙ ap (λ (b : Bool). first_fault (when b (Stands f.identifier) ∷ twin fs f ∷ when (leb capacity (length fs)) Crowded ∷ [])) fresh
    ∙ ap (λ (o : Option Fault). first_fault (o ∷ when (leb capacity (length fs)) Crowded ∷ [])) same
