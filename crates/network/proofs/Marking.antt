-- The marks that asking all pairs leaves: those of the places that hold one of them.
use Rattle.std.proofs.Common.{◌≡◌, ℕ, zero, suc, ◌+◌, ◌<◌, ◌≤◌, Bool, true, false, cond, ◌&&◌, eqb, List, [], ◌∷◌, ◌++◌, map, length, get_or, set, replicate, Some, None, Decides, Option, sym, refl, ap, ◌∙◌, subst, ⊎_elim, arith, length-set}
use Rattle.std.proofs.lemmas.List.{get_or-set_same, get_or-set_other, get_or_past, get_or-map, get_or_default, length-map, same_lists}
use Rattle.std.proofs.lemmas.Bool.{cases_eq, cases_lt, cases_Bool, both_ways}
use Rattle.parts.specs.Meaning.{at, find, find_from, Single}
use Rattle.parts.specs.Marks.{mark_found, hit}
use Rattle.stores.specs.declared.pairs.Pair.{Pair}
use Rattle.stores.specs.Pairs.{same_pair}
use Rattle.stores.specs.Alike.{pair_decides}
use Rattle.labelling.specs.Boards.{member}
use Rattle.network.specs.Products.{row, product, both_found, marks_after}

abbrev either : Bool → Bool → Bool
either b c = cond b true c

either_false : (b : Bool) → either b false ≡ b
either_false true = refl
either_false false = refl

either_true : (b : Bool) → either b true ≡ true
either_true true = refl
either_true false = refl

either_assoc : (a b c : Bool) → either (either a b) c ≡ either a (either b c)
either_assoc true b c = refl
either_assoc false b c = refl

spread : (a b c : Bool) → either (a && c) (b && c) ≡ (either a b && c)
spread true true true = refl
spread true true false = refl
spread true false true = refl
spread true false false = refl
spread false true c = refl
spread false false c = refl

row_spread : (a b c : Bool) → either (a && b) (a && c) ≡ (a && either b c)
row_spread true b c = refl
row_spread false b c = refl

-- whether the place holds one of the pairs
abbrev any_at : {V : Type 0} → (V → V → Bool) → List V → Option V → Bool
any_at eq [] o = false
any_at eq (v ∷ vs) o = either (at eq v o) (any_at eq vs o)

any_append : {V : Type 0} (eq : V → V → Bool) (vs ws : List V) (o : Option V) → any_at eq (vs ++ ws) o ≡ either (any_at eq vs o) (any_at eq ws o)
any_append eq [] ws o = refl
any_append eq (v ∷ vs) ws o = ap (either (at eq v o)) (any_append eq vs ws o) ∙ sym (either_assoc (at eq v o) (any_at eq vs o) (any_at eq ws o))

any_none : (ps : List Pair) → any_at same_pair ps None ≡ false
any_none [] = refl
any_none (p ∷ ps) = any_none ps

any_row : (a : ℕ) (bs : List ℕ) (p : Pair) → any_at same_pair (row a bs) (Some p) ≡ (eqb a p.left && member p.right bs)
any_row a [] p = elim (eqb a p.left) as (λ b. false ≡ (b && false)) [ true ↦ refl | false ↦ refl ]
any_row a (b ∷ bs) p = ap (either (eqb a p.left && eqb b p.right)) (any_row a bs p) ∙ row_spread (eqb a p.left) (eqb b p.right) (member p.right bs)

any_product : (ls bs : List ℕ) (o : Option Pair) → any_at same_pair (product ls bs) o ≡ hit (both_found ls bs) o
any_product ls bs None = any_none (product ls bs)
any_product [] bs (Some p) = refl
any_product (a ∷ ls) bs (Some p) =
    any_append same_pair (row a bs) (product ls bs) (Some p)
    ∙ ap (λ (x : Bool). either x (any_at same_pair (product ls bs) (Some p))) (any_row a bs p)
    ∙ ap (either (eqb a p.left && member p.right bs)) (any_product ls bs (Some p))
    ∙ spread (eqb a p.left) (member p.left ls) (member p.right bs)

some_same : {A : Type 0} {a b : A} → Some a ≡ Some b → a ≡ b
some_same {A} {a} {b} e = cc

some_none : {A B : Type 0} {a : A} → Some a ≡ None → B
some_none {A} {B} {a} e = let z : ◌≡◌ {A = ℕ} 0 1 = cc in absurd (omega arith)

head_none : (b : Bool) (i : ℕ) (r : Option ℕ) → cond b (Some i) r ≡ None → (b ≡ false) × (r ≡ None)
head_none true i r e = some_none e
head_none false i r e = (refl, e)

module _ {V : Type 0} (eq : V → V → Bool) where
  pub found_some : (v : V) (i : ℕ) (xs : List (Option V)) (l : ℕ) → find_from eq v i xs ≡ Some l → (j : ℕ) × (l ≡ i + j) × (at eq v (get_or xs j None) ≡ true)
  found_some v i [] l e = some_none (sym e)
  found_some v i (x ∷ xs) l e =
      ⊎_elim
      (λ (t : at eq v x ≡ true). (0, (let q : i ≡ l = some_same (ap (λ (b : Bool). cond b (Some i) (find_from eq v (i + 1) xs)) (sym t) ∙ e) in omega arith), t))
      (λ (t : at eq v x ≡ false). let r = found_some v (i + 1) xs l (ap (λ (b : Bool). cond b (Some i) (find_from eq v (i + 1) xs)) (sym t) ∙ e) in (suc r.0, omega (arith, r.1), r.2))
      (cases_Bool (at eq v x))

  pub found_none : (v : V) (i : ℕ) (xs : List (Option V)) → find_from eq v i xs ≡ None → (j : ℕ) → at eq v (get_or xs j None) ≡ false
  found_none v i [] e j = refl
  found_none v i (x ∷ xs) e zero = (head_none (at eq v x) i (find_from eq v (i + 1) xs) e).0
  found_none v i (x ∷ xs) e (suc j) = found_none v (i + 1) xs (head_none (at eq v x) i (find_from eq v (i + 1) xs) e).1 j

  at_within : (v : V) (xs : List (Option V)) (j : ℕ) → at eq v (get_or xs j None) ≡ true → j < length xs
  at_within v xs j h = ⊎_elim (λ (p : j < length xs). p) (λ (p : length xs ≤ j). absurd (both_ways (at eq v (get_or xs j None)) (ap (at eq v) (get_or_past xs j None p)) h)) (cases_lt j (length xs))

  at_held : ((a b : V) → Decides (eq a b) (a ≡ b)) → (v : V) (o : Option V) → at eq v o ≡ true → o ≡ Some v
  at_held law v None h = absurd (both_ways false refl h)
  at_held law v (Some w) h = ap (λ (x : V). Some x) (sym ((law v w).0 h))

  step : ((a b : V) → Decides (eq a b) (a ≡ b)) → (xs : List (Option V)) (ms : List Bool) (v : V) (l : ℕ) → length ms ≡ length xs → Single xs → (o : Option ℕ) → find eq xs v ≡ o → get_or (mark_found ms o) l false ≡ either (get_or ms l false) (at eq v (get_or xs l None))
  step law xs ms v l h one None e = sym (ap (either (get_or ms l false)) (found_none v 0 xs e l) ∙ either_false (get_or ms l false))
  step law xs ms v l h one (Some k) e =
      let f = found_some v 0 xs k e in
      let k≡ : f.0 ≡ k = omega (arith, f.1) in
      let here : at eq v (get_or xs k None) ≡ true = subst (λ (n : ℕ). at eq v (get_or xs n None) ≡ true) k≡ f.2 in
      let w : k < length ms = omega (arith, at_within v xs k here) in
      ⊎_elim
      (λ (q : l ≡ k). subst (λ (n : ℕ). get_or (set ms k true) n false ≡ either (get_or ms n false) (at eq v (get_or xs n None))) (sym q) (get_or-set_same ms k true false w ∙ sym (ap (either (get_or ms k false)) here ∙ either_true (get_or ms k false))))
      (λ (ne : l ≡ k → ⊥). get_or-set_other ms k l true false ne ∙ sym (ap (either (get_or ms l false)) (⊎_elim (λ (t : at eq v (get_or xs l None) ≡ true). absurd (ne (one l k v (at_held law v (get_or xs l None) t) (at_held law v (get_or xs k None) here)))) (λ (t : at eq v (get_or xs l None) ≡ false). t) (cases_Bool (at eq v (get_or xs l None)))) ∙ either_false (get_or ms l false)))
      (cases_eq l k)

length_mark : (ms : List Bool) (o : Option ℕ) → length (mark_found ms o) ≡ length ms
length_mark ms None = refl
length_mark ms (Some l) = length-set ms l true

pub length_marks : (φ : Pair → Option ℕ) (ms : List Bool) (ps : List Pair) → length (marks_after φ ms ps) ≡ length ms
length_marks φ ms [] = refl
length_marks φ ms (p ∷ ps) = length_marks φ (mark_found ms (φ p)) ps ∙ length_mark ms (φ p)

steps : (xs : List (Option Pair)) (ms : List Bool) (ps : List Pair) (l : ℕ) → length ms ≡ length xs → Single xs → get_or (marks_after (find same_pair xs) ms ps) l false ≡ either (get_or ms l false) (any_at same_pair ps (get_or xs l None))
steps xs ms [] l h one = sym (either_false (get_or ms l false))
steps xs ms (p ∷ ps) l h one =
    steps xs (mark_found ms (find same_pair xs p)) ps l (length_mark ms (find same_pair xs p) ∙ h) one
    ∙ ap (λ (b : Bool). either b (any_at same_pair ps (get_or xs l None))) (step same_pair pair_decides xs ms p l h one (find same_pair xs p) refl)
    ∙ either_assoc (get_or ms l false) (at same_pair p (get_or xs l None)) (any_at same_pair ps (get_or xs l None))

none_set : (n l : ℕ) → get_or (replicate n false) l false ≡ false
none_set zero l = refl
none_set (suc n) zero = refl
none_set (suc n) (suc l) = none_set n l

-- asking all pairs marks the places that hold one of them
pub crossed : (xs : List (Option Pair)) (ls bs : List ℕ) → length xs ≡ 96 → Single xs → marks_after (find same_pair xs) (replicate 96 false) (product ls bs) ≡ map (hit (both_found ls bs)) xs
crossed xs ls bs h one =
    let ms : List Bool = marks_after (find same_pair xs) (replicate 96 false) (product ls bs) in
    let len : length ms ≡ 96 = length_marks (find same_pair xs) (replicate 96 false) (product ls bs) in
    same_lists ms (map (hit (both_found ls bs)) xs) (omega (arith, length-map xs (hit (both_found ls bs))))
    (λ k d l.
    let lx : k < length xs = omega arith in
    get_or_default ms k d false l
    ∙ steps xs (replicate 96 false) (product ls bs) k (sym h) one
    ∙ ap (λ (b : Bool). either b (any_at same_pair (product ls bs) (get_or xs k None))) (none_set 96 k)
    ∙ any_product ls bs (get_or xs k None)
    ∙ sym (get_or-map (hit (both_found ls bs)) xs k None d lx))
