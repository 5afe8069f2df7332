-- How often a pair is asked: as often as its labels are found, multiplied.
use Rattle.std.proofs.Common.{◌≡◌, ℕ, zero, suc, ◌+◌, ◌*◌, ◌<◌, Bool, true, false, cond, ◌&&◌, eqb, List, [], ◌∷◌, get_or, sym, refl, ap, ◌∙◌, subst, add-mul, one-mul, zero-mul, arith}
use Rattle.std.proofs.lemmas.List.Sums.{sum_by-cons, sum_by-append}
use Rattle.std.proofs.lemmas.Bool.{eq-eqb, ne_eqb}
use Rattle.parts.specs.Marks.{marked, marked_from}
use Rattle.stores.specs.declared.pairs.Pair.{Pair}
use Rattle.stores.specs.Pairs.{pair, same_pair}
use Rattle.network.specs.Products.{row, product, times, pair_times}

both_bit : (a b : Bool) → cond {A = ℕ} (a && b) 1 0 ≡ cond a (cond b 1 0) 0
both_bit true b = refl
both_bit false b = refl

cond_add : (a : Bool) (m n : ℕ) → cond a m 0 + cond a n 0 ≡ cond a (m + n) 0
cond_add true m n = refl
cond_add false m n = omega arith

row_times : (p : Pair) (a : ℕ) (rs : List ℕ) → pair_times p (row a rs) ≡ cond (eqb a p.left) (times p.right rs) 0
row_times p a [] = elim (eqb a p.left) as (λ b. ◌≡◌ {A = ℕ} 0 (cond b 0 0)) [ true ↦ refl | false ↦ refl ]
row_times p a (r ∷ rs) =
    let A = eqb a p.left in
    sum_by-cons (λ (q : Pair). cond {A = ℕ} (same_pair q p) 1 0) (pair a r) (row a rs)
    ∙ ap (λ (n : ℕ). cond {A = ℕ} (same_pair (pair a r) p) 1 0 + n) (row_times p a rs)
    ∙ ap (λ (n : ℕ). n + cond A (times p.right rs) 0) (both_bit A (eqb r p.right))
    ∙ cond_add A (cond (eqb r p.right) 1 0) (times p.right rs)
    ∙ ap (λ (n : ℕ). cond A n 0) (sym (sum_by-cons (λ (x : ℕ). cond {A = ℕ} (eqb x p.right) 1 0) r rs))

scaled : (b : Bool) (m t : ℕ) → cond b t 0 + m * t ≡ (cond b 1 0 + m) * t
scaled true m t = sym (add-mul 1 m t ∙ ap (λ (n : ℕ). n + m * t) (one-mul t))
scaled false m t = sym (add-mul 0 m t ∙ ap (λ (n : ℕ). n + m * t) (zero-mul t))

-- each pair of a left and a right label that stand once is asked once, and no other
pub product_times : (p : Pair) (ls rs : List ℕ) → pair_times p (product ls rs) ≡ times p.left ls * times p.right rs
product_times p [] rs = sym (zero-mul (times p.right rs))
product_times p (a ∷ ls) rs =
    sum_by-append (λ (q : Pair). cond {A = ℕ} (same_pair q p) 1 0) (row a rs) (product ls rs)
    ∙ ap (λ (n : ℕ). n + pair_times p (product ls rs)) (row_times p a rs)
    ∙ ap (λ (n : ℕ). cond (eqb a p.left) (times p.right rs) 0 + n) (product_times p ls rs)
    ∙ scaled (eqb a p.left) (times p.left ls) (times p.right rs)
    ∙ ap (λ (n : ℕ). n * times p.right rs) (sym (sum_by-cons (λ (x : ℕ). cond {A = ℕ} (eqb x p.left) 1 0) a ls))

none_before : (l i : ℕ) (ms : List Bool) → l < i → times l (marked_from i ms) ≡ 0
none_before l i [] h = refl
none_before l i (true ∷ ms) h = omega (arith, sum_by-cons (λ (x : ℕ). cond {A = ℕ} (eqb x l) 1 0) i (marked_from (i + 1) ms), none_before l (i + 1) ms (omega arith), ap (λ (b : Bool). cond {A = ℕ} b 1 0) (ne_eqb i l (omega arith)))
none_before l i (false ∷ ms) h = none_before l (i + 1) ms (omega arith)

times_from : (l i : ℕ) (ms : List Bool) → times (i + l) (marked_from i ms) ≡ cond (get_or ms l false) 1 0
times_from l i [] = refl
times_from zero i (true ∷ ms) = omega (arith, sum_by-cons (λ (x : ℕ). cond {A = ℕ} (eqb x (i + 0)) 1 0) i (marked_from (i + 1) ms), none_before (i + 0) (i + 1) ms (omega arith), ap (λ (b : Bool). cond {A = ℕ} b 1 0) (eq-eqb i (i + 0) (omega arith)))
times_from zero i (false ∷ ms) = none_before (i + 0) (i + 1) ms (omega arith)
times_from (suc l) i (true ∷ ms) =
    let e : (i + 1) + l ≡ i + suc l = omega arith in
    let r = subst (λ (n : ℕ). times n (marked_from (i + 1) ms) ≡ cond (get_or ms l false) 1 0) e (times_from l (i + 1) ms) in
    sum_by-cons (λ (x : ℕ). cond {A = ℕ} (eqb x (i + suc l)) 1 0) i (marked_from (i + 1) ms)
    ∙ ap (λ (b : Bool). cond {A = ℕ} b 1 0 + times (i + suc l) (marked_from (i + 1) ms)) (ne_eqb i (i + suc l) (omega arith))
    ∙ omega (arith, r)
times_from (suc l) i (false ∷ ms) =
    let e : (i + 1) + l ≡ i + suc l = omega arith in
    subst (λ (n : ℕ). times n (marked_from (i + 1) ms) ≡ cond (get_or ms l false) 1 0) e (times_from l (i + 1) ms)

-- a label that is marked is written once
pub marked_times : (l : ℕ) (ms : List Bool) → times l (marked ms) ≡ cond (get_or ms l false) 1 0
marked_times l ms = let e : 0 + l ≡ l = omega arith in subst (λ (n : ℕ). times n (marked ms) ≡ cond (get_or ms l false) 1 0) e (times_from l 0 ms)
