-- An order that is formed names each field exactly once, and one that does is formed.
use Rattle.std.proofs.Common.{◌≡◌, ℕ, zero, suc, ◌+◌, ◌-◌, ◌<◌, ◌≤◌, Bool, true, false, cond, not, ◌&&◌, ◌||◌, eqb, List, [], ◌∷◌, ◌++◌, length, get_or, take, drop, Some, None, sym, refl, ap, ◌∙◌, subst, ⊎_elim, append_assoc, arith}
use native.Mathlib.Nat.{sub-zero}
use Rattle.std.proofs.lemmas.List.{at_drop_more, take_more}
use Rattle.std.specs.List.{AllByRecursion}
use Rattle.std.proofs.lemmas.Bool.Decides.{nat_tests}
use Rattle.std.proofs.lemmas.Bool.{false≢true, cases_Bool, cases_eq, and_parts, or_parts, not-true, ne_eqb, eq-eqb}
use Rattle.fields.specs.Orders.{is_field, has, times, EachOnce, first_wrong}

-- a sum over the fields 1 to m
abbrev sum_to : (ℕ → ℕ) → ℕ → ℕ
sum_to f zero = 0
sum_to f (suc m) = sum_to f m + f (suc m)

-- how many numbers of a list are fields
abbrev fields_in : ℕ → List ℕ → ℕ
fields_in m [] = 0
fields_in m (x ∷ xs) = cond (is_field m x) 1 0 + fields_in m xs

sum_to_add : (f g : ℕ → ℕ) (m : ℕ) → sum_to (λ k. f k + g k) m ≡ sum_to f m + sum_to g m
sum_to_add f g zero = refl
sum_to_add f g (suc m) = let e = sum_to_add f g m in omega arith

sum_to_one : (x m : ℕ) → sum_to (λ k. cond (eqb k x) 1 0) m ≡ cond (is_field m x) 1 0
sum_to_one x zero = grind (arith, nat_tests)
sum_to_one x (suc m) = let e = sum_to_one x m in grind (arith, nat_tests)

sum_to_none : (m : ℕ) → sum_to (λ k. 0) m ≡ 0
sum_to_none zero = refl
sum_to_none (suc m) = let e = sum_to_none m in omega arith

-- counted by field or by place, the numbers that are fields are as many
counted : (m : ℕ) (xs : List ℕ) → sum_to (λ k. times k xs) m ≡ fields_in m xs
counted m [] = sum_to_none m
counted m (x ∷ xs) =
    sum_to_add (λ k. cond (eqb k x) 1 0) (λ k. times k xs) m
    ∙ ap (λ n. n + sum_to (λ k. times k xs) m) (sum_to_one x m) ∙ ap (λ n. cond (is_field m x) 1 0 + n) (counted m xs)

sum_to_le : (f : ℕ → ℕ) (m : ℕ) → ((k : ℕ) → f k ≤ 1) → sum_to f m ≤ m
sum_to_le f zero few = omega arith
sum_to_le f (suc m) few = let l = sum_to_le f m few in let k = few (suc m) in omega arith

-- m numbers of at most 1 that sum to m are each 1
sum_to_full : (f : ℕ → ℕ) (m : ℕ) → ((k : ℕ) → f k ≤ 1) → sum_to f m ≡ m → (k : ℕ) → 1 ≤ k → k ≤ m → f k ≡ 1
sum_to_full f zero few e k low high = absurd (omega arith)
sum_to_full f (suc m) few e k low high =
    let l = sum_to_le f m few in
    let n = few (suc m) in
    ⊎_elim (λ h. subst (λ (j : ℕ). f j ≡ 1) (sym h) (omega arith)) (λ h. sum_to_full f m few (omega arith) k low (omega arith)) (cases_eq k (suc m))

sum_to_ones : (f : ℕ → ℕ) (m : ℕ) → ((k : ℕ) → 1 ≤ k → k ≤ m → f k ≡ 1) → sum_to f m ≡ m
sum_to_ones f zero h = refl
sum_to_ones f (suc m) h = let e = sum_to_ones f m (λ k low high. h k low (omega arith)) in let l = h (suc m) (omega arith) (omega arith) in omega arith

times_append : (k : ℕ) (xs ys : List ℕ) → times k (xs ++ ys) ≡ times k xs + times k ys
times_append k [] ys = omega arith
times_append k (x ∷ xs) ys = let e = times_append k xs ys in omega arith

absent : (x : ℕ) (xs : List ℕ) → has x xs ≡ false → times x xs ≡ 0
absent x [] e = refl
absent x (y ∷ xs) e =
    let p = or_parts (eqb y x) (has x xs) e in
    let r = absent x xs p.1 in
    grind (arith, nat_tests)

present : (x : ℕ) (xs : List ℕ) → has x xs ≡ true → 1 ≤ times x xs
present x [] e = absurd (false≢true e)
present x (y ∷ xs) e =
    ⊎_elim (λ h. grind (arith, nat_tests))
    (λ h. let r = present x xs (sym (ap (λ b. b || has x xs) h) ∙ e) in omega arith) (cases_Bool (eqb y x))

-- one place more, where nothing is wrong
first_right : (m p x : ℕ) (before xs : List ℕ) → first_wrong m before p (x ∷ xs) ≡ None → (is_field m x ≡ true) × (has x before ≡ false) × (first_wrong m (before ++ x ∷ []) (p + 1) xs ≡ None)
first_right m p x before xs e =
    ⊎_elim
    (λ h. let q = and_parts _ _ h in (q.0, not-true _ q.1, sym (ap (λ b. cond b (first_wrong m (before ++ x ∷ []) (p + 1) xs) (Some p)) h) ∙ e))
    (λ h. let n : Some p ≡ None = sym (ap (λ b. cond b (first_wrong m (before ++ x ∷ []) (p + 1) xs) (Some p)) h) ∙ e in absurd (let z : ◌≡◌ {A = ℕ} 0 1 = cc in omega arith))
    (cases_Bool (is_field m x && not (has x before)))

right_fields : (m p : ℕ) (before xs : List ℕ) → first_wrong m before p xs ≡ None → fields_in m xs ≡ length xs
right_fields m p before [] e = refl
right_fields m p before (x ∷ xs) e =
    let q = first_right m p x before xs e in
    let r = right_fields m (p + 1) (before ++ x ∷ []) xs q.2 in
    rw q.0 (omega arith)

right_times : (m p : ℕ) (before xs : List ℕ) → first_wrong m before p xs ≡ None → ((k : ℕ) → times k before ≤ 1) → (k : ℕ) → times k (before ++ xs) ≤ 1
right_times m p before [] e few k = let a = times_append k before [] in let l = few k in omega arith
right_times m p before (x ∷ xs) e few k =
    let q = first_right m p x before xs e in
    subst (λ l. times k l ≤ 1) (append_assoc before (x ∷ []) xs)
    (right_times m (p + 1) (before ++ x ∷ []) xs q.2
    (λ j. let a = times_append j before (x ∷ []) in let l = few j in
    ⊎_elim (λ h. let z = subst (λ (y : ℕ). times y before ≡ 0) (sym h) (absent x before q.1) in let t = eq-eqb j x h in grind (arith, nat_tests))
    (λ h. let t = ne_eqb j x h in grind (arith, nat_tests)) (cases_eq j x)) k)

pub once_from_right : (m : ℕ) (xs : List ℕ) → length xs ≡ m → first_wrong m [] 1 xs ≡ None → EachOnce m xs
once_from_right m xs size e =
    sum_to_full (λ k. times k xs) m (right_times m 1 [] xs e (λ k. omega arith)) (counted m xs ∙ right_fields m 1 [] xs e ∙ size)

fields_le : (m : ℕ) (xs : List ℕ) → fields_in m xs ≤ length xs
fields_le m [] = omega arith
fields_le m (x ∷ xs) = let l = fields_le m xs in grind (arith, nat_tests)

all_fields : (m : ℕ) (xs : List ℕ) → fields_in m xs ≡ length xs → AllByRecursion (λ x. is_field m x ≡ true) xs
all_fields m [] e = tt
all_fields m (x ∷ xs) e =
    let l = fields_le m xs in
    ⊎_elim (λ h. (h, all_fields m xs (let n = ap (λ b. cond b 1 0 + fields_in m xs) h in omega arith)))
    (λ h. absurd (let n = ap (λ b. cond b 1 0 + fields_in m xs) h in omega arith)) (cases_Bool (is_field m x))

right_from_times : (m p : ℕ) (before xs : List ℕ) → AllByRecursion (λ x. is_field m x ≡ true) xs → ((k : ℕ) → is_field m k ≡ true → times k (before ++ xs) ≤ 1) → first_wrong m before p xs ≡ None
right_from_times m p before [] all few = refl
right_from_times m p before (x ∷ xs) all few =
    let fresh : has x before ≡ false =
    ⊎_elim (λ h. absurd (let l = present x before h in let f = few x all.0 in let a = times_append x before (x ∷ xs) in let t = eq-eqb x x refl in grind (arith, nat_tests)))
    (λ h. h) (cases_Bool (has x before)) in
    let r = right_from_times m (p + 1) (before ++ x ∷ []) xs all.1 (λ k f. subst (λ l. times k l ≤ 1) (sym (append_assoc before (x ∷ []) xs)) (few k f)) in
    rw (all.0, fresh) r

pub all_from_once : (m : ℕ) (xs : List ℕ) → length xs ≡ m → EachOnce m xs → AllByRecursion (λ x. is_field m x ≡ true) xs
all_from_once m xs size once = all_fields m xs (sym (counted m xs) ∙ sum_to_ones (λ k. times k xs) m once ∙ sym size)

pub right_from_once : (m : ℕ) (xs : List ℕ) → length xs ≡ m → EachOnce m xs → first_wrong m [] 1 xs ≡ None
right_from_once m xs size once =
    right_from_times m 1 [] xs (all_from_once m xs size once)
    (λ k f. let e = once k in grind (arith, nat_tests))

-- one turn of the search for the first wrong position; b is the turn's test, on a slice that starts at 0
pub first_wrong_turn : (m : ℕ) (xs : List ℕ) (i : ℕ) (b : Bool) → i < length xs → b ≡ (is_field m (get_or xs i 0) && not (has (get_or xs i 0) (take (i - 0) xs))) → first_wrong m (take i xs) (i + 1) (drop i xs) ≡ cond b (first_wrong m (take (i + 1) xs) (i + 1 + 1) (drop (i + 1) xs)) (Some (i + 1))
first_wrong_turn m xs i b l e =
    at_drop_more (first_wrong m (take i xs) (i + 1)) xs i 0 l
    ∙ ap (λ (f : List ℕ). cond (is_field m (get_or xs i 0) && not (has (get_or xs i 0) (take i xs))) (first_wrong m f (i + 1 + 1) (drop (i + 1) xs)) (Some (i + 1))) (sym (take_more xs i 0 l))
    ∙ ap (λ (t : Bool). cond t (first_wrong m (take (i + 1) xs) (i + 1 + 1) (drop (i + 1) xs)) (Some (i + 1)))
    (sym (e ∙ ap (λ (n : ℕ). is_field m (get_or xs i 0) && not (has (get_or xs i 0) (take n xs))) (sub-zero i)))
