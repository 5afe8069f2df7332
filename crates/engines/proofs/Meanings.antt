-- What the calls leave of a meaning: 96 places, no value at two of them.
use Rattle.std.proofs.Common.{◌≡◌, ℕ, ◌<◌, Bool, ◌⊎◌, List, [], length, get_or, set, replicate, Some, None, Ok, Err, Decides, Option, refl, ap, ◌∙◌, inl, inr, ⊎_elim, arith, length-set}
use Rattle.std.proofs.lemmas.List.{get_or-set_same, get_or-set_other, get_or_past, set-get_or}
use Rattle.std.proofs.lemmas.Bool.{cases_eq}
use Rattle.std.proofs.lemmas.Bool.Decides.{nat_tests}
use Rattle.std.proofs.lemmas.Grind.{common_steps}
use Rattle.fields.specs.declared.faults.Fault.{Fault}
use Rattle.fields.specs.Faults.{answer, unless}
use Rattle.parts.specs.Meaning.{Meaning, Proper, meaning, nothing, put, find, set_fault, cleared}
use Rattle.parts.specs.Checks.{set_refusal, taken_from}
use Rattle.engines.proofs.Finding.{find_absent}

-- one place is written, and the others stay
pub set_at : {A : Type 0} (xs : List A) (l i : ℕ) (a d : A) → l < length xs → ((i ≡ l) × (get_or (set xs l a) i d ≡ a)) ⊎ ((i ≡ l → ⊥) × (get_or (set xs l a) i d ≡ get_or xs i d))
set_at {A} xs l i a d h = ⊎_elim (λ (s : i ≡ l). inl (s, ap (λ (k : ℕ). get_or (set xs l a) k d) s ∙ get_or-set_same xs l a d h)) (λ (o : i ≡ l → ⊥). inr (o, get_or-set_other xs l i a d o)) (cases_eq i l)

-- no place of an empty meaning holds a value
pub none_held : {V : Type 0} (n l : ℕ) → get_or (replicate {A = Option V} n None) l None ≡ None
none_held n l = grind (arith, common_steps)

pub proper_nothing : {V : Type 0} → Proper (nothing {V = V})
proper_nothing {V} = record { size = refl; single = λ i j v e f. cc (none_held {V = V} 96 i); counted = omega arith }

-- a value that was nowhere is set
pub proper_set : {V : Type 0} (eq : V → V → Bool) (decides : (a b : V) → Decides (eq a b) (a ≡ b)) (m : Meaning V) → Proper m → (l : ℕ) (v : V) → l < 96 → find eq m.places v ≡ None → Proper (put m l (Some v))
proper_set eq decides m p l v h new =
    let n = p.size in
    let nowhere = find_absent eq decides v 0 m.places new in
    record {
      size = length-set m.places l (Some v) ∙ p.size;
      single = λ i j w e f. grind (arith, set_at m.places l i (Some v) None, set_at m.places l j (Some v) None, p.single i j w, nowhere i, nowhere j);
      counted = p.counted;
    }

-- a place is cleared
pub proper_clear : {V : Type 0} (m : Meaning V) → Proper m → (l : ℕ) → l < 96 → Proper (put m l None)
proper_clear m p l h =
    let n = p.size in
    record {
      size = length-set m.places l None ∙ p.size;
      single = λ i j w e f. grind (arith, set_at m.places l i None None, set_at m.places l j None None, p.single i j w);
      counted = p.counted;
    }

-- what lets a value that names no label be set, and what lets a place be cleared
pub set_allowed : {V : Type 0} (l : ℕ) (held : Option V) (found : Option ℕ) → set_refusal l [] held found ≡ None → (l < 96) × (held ≡ None) × (found ≡ None)
set_allowed l None None e = grind (arith, nat_tests)
set_allowed l None (Some k) e = grind (arith, nat_tests)
set_allowed l (Some v) f e = grind (arith, nat_tests)

pub clear_allowed : {V : Type 0} (l : ℕ) (held : Option V) (v : V) → taken_from l held ≡ Ok v → (l < 96) × (held ≡ Some v)
clear_allowed l None v e = grind (arith, nat_tests)
clear_allowed l (Some w) v e = grind (arith, nat_tests)

-- the check of a set tells of its fault, and a clear that is refused changes nothing
pub set_told : {V : Type 0} (eq : V → V → Bool) (labels : V → List ℕ) (xs : List (Option V)) (l : ℕ) (v : V) → labels v ≡ [] → (held : Option V) (found : Option ℕ) → held ≡ get_or xs l None → found ≡ find eq xs v → set_refusal l [] held found ≡ set_fault eq labels xs l v
set_told eq labels xs l v bare held found h f = cc

-- what is refused before the value is looked for is refused alike, wherever it is found
pub refused_unfound : {A V : Type 0} (l : ℕ) (held : Option V) (found : Option ℕ) (a : A) (e : Fault) → answer (set_refusal l [] held None) a ≡ Err e → answer (set_refusal l [] held found) a ≡ Err e
refused_unfound l None found a e h = grind (arith, nat_tests)
refused_unfound l (Some v) found a e h = grind (arith, nat_tests)

pub clear_refused : {V : Type 0} (m : Meaning V) (l : ℕ) (e : Fault) → length m.places ≡ 96 → cleared m.places l ≡ Err e → m ≡ put m l None
clear_refused {V} m l e n r = ap (λ (xs : List (Option V)). meaning xs m.asked) (grind (arith, nat_tests, set-get_or m.places l None, get_or_past m.places l None))

-- a refused call leaves what was, another was not refused
pub unless_refused : {A B : Type 0} (f : Option Fault) (a : A) (e : Fault) → answer f a ≡ Err e → (x y : B) → unless f x y ≡ x
unless_refused None a e h x y = cc
unless_refused (Some g) a e h x y = refl

pub not_refused : {A : Type 0} (f : Option Fault) (a b : A) → answer f a ≡ Ok b → f ≡ None
not_refused None a b h = refl
not_refused (Some g) a b h = cc
