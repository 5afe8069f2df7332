-- A part that is told what the table says is not refused, and shows what the table says then.
use Rattle.std.proofs.Common.{◌≡◌, ℕ, suc, ◌+◌, ◌<◌, ◌≤◌, Bool, false, List, [], ◌∷◌, length, get_or, set, Some, None, Ok, Err, Option, Result, sym, refl, ap, ◌∙◌, subst, ⊎_elim, arith}
use Rattle.std.proofs.lemmas.List.{get_or_past, length-map}
use Rattle.std.proofs.lemmas.Bool.{le-ltb, cases_lt}
use Rattle.labels.specs.declared.table.Used.{Used}
use Rattle.labels.specs.Labels.{Standing, Labelled, keys, key_of, Came}
use Rattle.fields.specs.declared.faults.Fault.{Fault}
use Rattle.fields.specs.declared.faults.Fault.TheVariants.{Full}
use Rattle.fields.specs.Faults.{answer, unless, first_fault, when}
use Rattle.parts.specs.Meaning.{Meaning, meaning, at, full, find_from, find, label_fault, elsewhere, set_fault, cleared, taken, put}
use Rattle.labelling.specs.Boards.{Stands}

found_nowhere : {V : Type 0} (eq : V → V → Bool) (v : V) (i : ℕ) (xs : List (Option V)) → ((j : ℕ) → at eq v (get_or xs j None) ≡ false) → find_from eq v i xs ≡ None
found_nowhere eq v i [] h = refl
found_nowhere eq v i (x ∷ xs) h = rw (h 0) (found_nowhere eq v (i + 1) xs (λ j. h (suc j)))

-- no check finds a fault
none_found : (a b c : Option Fault) → a ≡ None → b ≡ None → c ≡ None → first_fault (a ∷ b ∷ c ∷ []) ≡ None
none_found a b c p q r = ap (λ (x : Option Fault). first_fault (x ∷ b ∷ c ∷ [])) p ∙ ap (λ (x : Option Fault). first_fault (x ∷ c ∷ [])) q ∙ ap (λ (x : Option Fault). first_fault (x ∷ [])) r

pub no_fault : {V : Type 0} (eq : V → V → Bool) (labels : V → List ℕ) (old new : List (Option V)) (v : V) (l : ℕ) → l < 96 → label_fault (labels v) ≡ None → Came eq old new v l → set_fault eq labels old l v ≡ None
no_fault {V} eq labels old new v l b o k =
    none_found (label_fault (l ∷ labels v)) (when (full (get_or old l None)) (Full l)) (elsewhere (find eq old v))
    (rw (le-ltb 95 l (omega arith)) o)
    (ap (λ (x : Option V). when (full x) (Full l)) k.free)
    (ap elsewhere (found_nowhere eq v 0 old k.absent))

pub clears : {V : Type 0} (old : List (Option V)) (key : V) (l : ℕ) → l < 96 → get_or old l None ≡ Some key → cleared old l ≡ Ok key
clears {V} old key l b h = rw (le-ltb 95 l (omega arith)) (ap (taken l) h)

pub never_err : {A : Type 0} (a : A) {f : Option Fault} {e : Fault} → f ≡ None → Err e ≡ answer f a → ⊥
never_err {A} a {f} {e} n h = let q : ◌≡◌ {A = Result A Fault} (Err e) (Ok a) = h ∙ ap (λ (x : Option Fault). answer x a) n in let z : ◌≡◌ {A = ℕ} 0 1 = cc in omega arith

pub never_ok : {A : Type 0} {a : A} {r : Result A Fault} {e : Fault} → r ≡ Ok a → Err e ≡ r → ⊥
never_ok {A} {a} {r} {e} n h = let z : ◌≡◌ {A = ℕ} 0 1 = cc in omega arith

module _ {V P : Type 0} (eq : V → V → Bool) (shows : P → Meaning V → Type 0) where
  -- a part that was not told: the table's keys are as they were
  pub untold : (slots slots' : List (Option (Used V))) (part : P) (fs fs' : List (Standing V)) (n : ℕ) → Stands eq shows slots part fs n → Labelled eq slots' fs' → keys slots' ≡ keys slots → Stands eq shows slots' part fs' n
  untold slots slots' part fs fs' n s h e = record {
    labelled = h;
    shown = subst (λ (ks : List (Option V)). shows part (meaning ks n)) (sym e) s.shown;
  }

  -- a part that was told of a key that came
  pub told_came : (labels : V → List ℕ) (slots slots' : List (Option (Used V))) (part' : P) (fs' : List (Standing V)) (n : ℕ) (v : V) (l : ℕ) → l < 96 → label_fault (labels v) ≡ None
      → Came eq (keys slots) (keys slots') v l → Labelled eq slots' fs'
      → shows part' (unless (set_fault eq labels (keys slots) l v) (meaning (keys slots) n) (put (meaning (keys slots) n) l (Some v)))
      → Stands eq shows slots' part' fs' n
  told_came labels slots slots' part' fs' n v l b o k h s = record {
    labelled = h;
    shown = subst (λ (ks : List (Option V)). shows part' (meaning ks n)) (sym k.after)
        (subst (λ (f : Option Fault). shows part' (unless f (meaning (keys slots) n) (put (meaning (keys slots) n) l (Some v)))) (no_fault eq labels (keys slots) (keys slots') v l b o k) s);
  }

  -- a part that was told of a key that went
  pub told_went : (slots slots' : List (Option (Used V))) (part' : P) (fs' : List (Standing V)) (n : ℕ) (l : ℕ)
      → keys slots' ≡ set (keys slots) l None → Labelled eq slots' fs' → shows part' (put (meaning (keys slots) n) l None)
      → Stands eq shows slots' part' fs' n
  told_went slots slots' part' fs' n l e h s = record {
    labelled = h;
    shown = subst (λ (ks : List (Option V)). shows part' (meaning ks n)) (sym e) s;
  }

pub some_same : {A : Type 0} {a b : A} → Some a ≡ Some b → a ≡ b
some_same {A} {a} {b} e = cc

-- a label that has a key is one of the 96
pub held_below : {V : Type 0} (eq : V → V → Bool) (slots : List (Option (Used V))) (fs : List (Standing V)) (l : ℕ) (key : V) → Labelled eq slots fs → get_or (keys slots) l None ≡ Some key → l < 96
held_below {V} eq slots fs l key h e =
    ⊎_elim
    (λ (p : l < length (keys slots)). omega (arith, length-map slots (key_of {K = V}), h.size))
    (λ (p : length (keys slots) ≤ l). absurd (let q : ◌≡◌ {A = Option V} None (Some key) = sym (get_or_past (keys slots) l None p) ∙ e in let z : ◌≡◌ {A = ℕ} 0 1 = cc in omega arith))
    (cases_lt l (length (keys slots)))
