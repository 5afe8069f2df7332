-- Lists of numbers without repetition: if one is part of another, it is no longer.
use Rattle.std.specs.Prelude.{◌≡◌, ℕ, zero, suc, ◌+◌, ◌*◌, ◌≤◌, true, false, cond, ◌⊎◌, List, [], ◌∷◌, ◌++◌, length, Some, None, Option, ◌==◌, ◌≢◌, nat_eq, slice_index_or, refl}
use Rattle.std.proofs.Common.{sym, ap, subst, ◌∙◌, inl, inr, ⊎_elim, arith, length-append}
use Rattle.std.proofs.lemmas.Bool.{cases_eq, eq-eqb, ne_eqb, eqb-true, or_cases, or_left, or_right, cond-true, cond-false}
use Rattle.std.specs.List.{AllByRecursion, IsDistinct}
use Rattle.std.specs.Set.{distinct_count, is_member}
use Rattle.std.specs.Cmp.{both_ways, nat_eq_equiv}
use Rattle.std.proofs.lemmas.Map.Made.{length-le_from_is_member, length-from_keys}
use Rattle.fields.specs.declared.prefixes.Prefix.{Prefix}
use Rattle.trie.specs.Strings.{first_strings, beginnings, all_beginnings, Among, Distinct, Begins}

-- a list without the first x in it
abbrev pub without : ℕ → List ℕ → List ℕ
without x [] = []
without x (y ∷ ys) = cond (x == y) ys (y ∷ without x ys)

without_here : (x y : ℕ) (ys : List ℕ) → x ≡ y → without x (y ∷ ys) ≡ ys
without_here x y ys e = cond-true (x == y) ys (y ∷ without x ys) (eq-eqb x y e)

without_past : (x y : ℕ) (ys : List ℕ) → (x ≢ y) → without x (y ∷ ys) ≡ y ∷ without x ys
without_past x y ys ne = cond-false (x == y) ys (y ∷ without x ys) (ne_eqb x y ne)

pub without_length : (x : ℕ) (xs : List ℕ) → Among x xs → length xs ≡ length (without x xs) + 1
without_length x [] h = absurd h
without_length x (y ∷ ys) h = ⊎_elim
    (λ (e : x ≡ y). omega (arith, ap length (without_here x y ys e)))
    (λ (ne : x ≡ y → ⊥). ⊎_elim
    (λ (e : x ≡ y). absurd (ne e))
    (λ (r : Among x ys). omega (arith, ap length (without_past x y ys ne), without_length x ys r))
    h)
    (cases_eq x y)

pub without_keeps : (x z : ℕ) (xs : List ℕ) → (z ≢ x) → Among z xs → Among z (without x xs)
without_keeps x z [] ne h = absurd h
without_keeps x z (y ∷ ys) ne h = ⊎_elim
    (λ (e : x ≡ y). subst (Among z) (sym (without_here x y ys e)) (⊎_elim (λ (q : z ≡ y). absurd (ne (q ∙ sym e))) (λ (r : Among z ys). r) h))
    (λ (n : x ≡ y → ⊥). subst (Among z) (sym (without_past x y ys n)) (⊎_elim (λ (q : z ≡ y). inl q) (λ (r : Among z ys). inr (without_keeps x z ys ne r)) h))
    (cases_eq x y)

pub without_only : (x z : ℕ) (xs : List ℕ) → Among z (without x xs) → Among z xs
without_only x z [] h = absurd h
without_only x z (y ∷ ys) h = ⊎_elim
    (λ (e : x ≡ y). inr (subst (Among z) (without_here x y ys e) h))
    (λ (n : x ≡ y → ⊥). ⊎_elim (λ (q : z ≡ y). inl q) (λ (r : Among z (without x ys)). inr (without_only x z ys r)) (subst (Among z) (without_past x y ys n) h))
    (cases_eq x y)

pub without_gone : (x : ℕ) (xs : List ℕ) → Distinct xs → Among x (without x xs) → ⊥
without_gone x [] d h = h
without_gone x (y ∷ ys) d h = ⊎_elim
    (λ (e : x ≡ y). d.0 (subst (λ (z : ℕ). Among z ys) e (subst (Among x) (without_here x y ys e) h)))
    (λ (n : x ≡ y → ⊥). ⊎_elim (λ (q : x ≡ y). n q) (λ (r : Among x (without x ys)). without_gone x ys d.1 r) (subst (Among x) (without_past x y ys n) h))
    (cases_eq x y)

pub without_distinct : (x : ℕ) (xs : List ℕ) → Distinct xs → Distinct (without x xs)
without_distinct x [] d = d
without_distinct x (y ∷ ys) d = ⊎_elim
    (λ (e : x ≡ y). subst Distinct (sym (without_here x y ys e)) d.1)
    (λ (n : x ≡ y → ⊥). subst Distinct (sym (without_past x y ys n)) ((λ r. d.0 (without_only x y ys r)), without_distinct x ys d.1))
    (cases_eq x y)

-- in the library's words
among : (x : ℕ) (xs : List ℕ) → is_member nat_eq xs x ≡ true → Among x xs
among x [] h = absurd (let z : ◌≡◌ {A = ℕ} 0 1 = cc in omega arith)
among x (y ∷ ys) h = ⊎_elim (λ (e : nat_eq x y ≡ true). inl (eqb-true x y e)) (λ (e : is_member nat_eq ys x ≡ true). inr (among x ys e)) (or_cases (x == y) (is_member nat_eq ys x) h)

member : (x : ℕ) (xs : List ℕ) → Among x xs → is_member nat_eq xs x ≡ true
member x [] h = absurd h
member x (y ∷ ys) h = ⊎_elim (λ (e : x ≡ y). or_left (x == y) (is_member nat_eq ys x) (eq-eqb x y e)) (λ (r : Among x ys). or_right (x == y) (is_member nat_eq ys x) (member x ys r)) h

apart : (x : ℕ) (ys : List ℕ) → (Among x ys → ⊥) → AllByRecursion (λ y. nat_eq x y ≡ false) ys
apart x [] h = tt
apart x (y ∷ ys) h = (ne_eqb x y (λ e. h (inl e)), apart x ys (λ r. h (inr r)))

keys : (xs : List ℕ) → Distinct xs → IsDistinct nat_eq xs
unfolding IsDistinct
keys [] d = tt
keys (x ∷ xs) d = (apart x xs d.0, keys xs d.1)

pub part_length : (xs ys : List ℕ) → Distinct xs → ((x : ℕ) → Among x xs → Among x ys) → length xs ≤ length ys
part_length xs ys d h = length-le_from_is_member nat_eq_equiv xs ys (keys xs d) (λ q e. member q ys (h q (among q xs e)))

-- the length of a list without repetition that has the same elements
pub count_different : (ks xs : List ℕ) → Distinct ks → ((v : ℕ) → Among v ks → Among v xs) → ((v : ℕ) → Among v xs → Among v ks) → length ks ≡ distinct_count nat_eq xs
count_different ks xs d f g = length-from_keys nat_eq_equiv ks xs (keys ks d) (λ q. both_ways (is_member nat_eq ks q) (is_member nat_eq xs q) (λ e. member q xs (f q (among q ks e))) (λ e. member q ks (g q (among q xs e))))

-- the beginnings of all held prefixes
among_left : (v : ℕ) (xs ys : List ℕ) → Among v xs → Among v (xs ++ ys)
among_left v [] ys h = absurd h
among_left v (x ∷ xs) ys h = ⊎_elim (λ (e : v ≡ x). inl e) (λ (r : Among v xs). inr (among_left v xs ys r)) h

among_right : (v : ℕ) (xs ys : List ℕ) → Among v ys → Among v (xs ++ ys)
among_right v [] ys h = h
among_right v (x ∷ xs) ys h = inr (among_right v xs ys h)

among_either : (v : ℕ) (xs ys : List ℕ) → Among v (xs ++ ys) → Among v xs ⊎ Among v ys
among_either v [] ys h = inr h
among_either v (x ∷ xs) ys h = ⊎_elim
    (λ (e : v ≡ x). inl (inl e))
    (λ (r : Among v (xs ++ ys)). ⊎_elim (λ (p : Among v xs). inl (inr p)) (λ (q : Among v ys). inr q) (among_either v xs ys r))
    h

-- one more at the end
pub among_end : (v x : ℕ) (xs : List ℕ) → Among v (xs ++ x ∷ []) → Among v xs ⊎ (v ≡ x)
among_end v x xs h = ⊎_elim (λ (p : Among v xs). inl p) (λ (q : Among v (x ∷ [])). inr (⊎_elim (λ (e : v ≡ x). e) (λ (n : ⊥). absurd n) q)) (among_either v xs (x ∷ []) h)

pub among_front : (v x : ℕ) (xs : List ℕ) → Among v xs → Among v (xs ++ x ∷ [])
among_front v x xs = among_left v xs (x ∷ [])

pub among_last : (x : ℕ) (xs : List ℕ) → Among x (xs ++ x ∷ [])
among_last x xs = among_right x xs (x ∷ []) (inl refl)

pub distinct_more : (x : ℕ) (xs : List ℕ) → Distinct xs → (Among x xs → ⊥) → Distinct (xs ++ x ∷ [])
distinct_more x [] d new = ((λ h. h), tt)
distinct_more x (y ∷ ys) d new = ((λ h. ⊎_elim (λ (r : Among y ys). d.0 r) (λ (e : y ≡ x). new (inl (sym e))) (among_end y x ys h)), distinct_more x ys d.1 (λ r. new (inr r)))

pub distinct_front : (x : ℕ) (xs : List ℕ) → Distinct (xs ++ x ∷ []) → Distinct xs × (Among x xs → ⊥)
distinct_front x [] d = (tt, λ h. h)
distinct_front x (y ∷ ys) d =
    let r = distinct_front x ys d.1 in (
      ((λ h. d.0 (among_front y x ys h)), r.0),
      (λ h. ⊎_elim (λ (e : x ≡ y). d.0 (subst (λ (z : ℕ). Among z (ys ++ x ∷ [])) e (among_last x ys))) (λ (q : Among x ys). r.1 q) h),
    )

pub begins_among : (places : List (Option Prefix)) (v l : ℕ) → Among v (beginnings (slice_index_or places l None)) → Among v (all_beginnings places)
begins_among [] v l h = absurd h
begins_among (o ∷ os) v zero h = among_left v (beginnings o) (all_beginnings os) h
begins_among (o ∷ os) v (suc l) h = among_right v (beginnings o) (all_beginnings os) (begins_among os v l h)

pub among_begins : (places : List (Option Prefix)) (v : ℕ) → Among v (all_beginnings places) → Begins places v
among_begins [] v h = absurd h
among_begins (o ∷ os) v h = ⊎_elim
    (λ (p : Among v (beginnings o)). (0, p))
    (λ (q : Among v (all_beginnings os)). let r = among_begins os v q in (suc r.0, r.1))
    (among_either v (beginnings o) (all_beginnings os) h)

strings_length : (a k : ℕ) → length (first_strings a k) ≡ k
strings_length a zero = refl
strings_length a (suc k) = omega (arith, strings_length a k)

beginnings_few : (o : Option Prefix) → length (beginnings o) ≤ 32
beginnings_few None = omega arith
beginnings_few (Some v) = omega (arith, strings_length v.row.address v.row.length, v.short)

pub all_few : (places : List (Option Prefix)) → length (all_beginnings places) ≤ 32 * length places
all_few [] = omega arith
all_few (o ∷ os) = omega (arith, length-append (beginnings o) (all_beginnings os), beginnings_few o, all_few os)
