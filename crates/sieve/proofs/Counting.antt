-- The counters that a pair touches, each once, and what the counters count.
use Rattle.std.specs.Prelude.{◌≡◌, ℕ, zero, suc, ◌+◌, ◌-◌, ◌*◌, ◌/◌, ◌<◌, ◌≤◌, min, Bool, true, false, cond, ◌&&◌, ◌||◌, List, [], ◌∷◌, ◌++◌, map, length, get_or, set, replicate, Some, None, Option, ◌==◌, ◌≢◌, nat_eq, nat_lt, slice_index, slice_index_or, slice_set, refl}
use Rattle.std.proofs.Common.{sym, ap, subst, ◌∙◌, ⊎_elim, mod-lt, arith, length-set}
use Rattle.std.proofs.lemmas.List.{get_or-set_same, get_or-set_other, get_or-replicate, get_or_past, length-replicate}
use Rattle.std.proofs.lemmas.List.Sums.{sum_by-set, count_by-le-length, get_or-le-sum_by}
use Rattle.std.proofs.lemmas.Bool.{cases_Bool, cases_eq, cases_lt, both_ways, false≢true, eq-eqb, ne_eqb, eqb-true, lt-ltb, or_cases, or_left, or_right, or_from, and_from}
use Rattle.parts.specs.Marks.{hit}
use Rattle.parts.specs.Meaning.{find}
use Rattle.stores.specs.declared.pairs.Pair.{Pair}
use Rattle.stores.specs.Pairs.{code, same_pair}
use Rattle.stores.specs.Alike.{pair_decides}
use Rattle.parts.proofs.Finding.{split, find_some, full_within}
use Rattle.sieve.specs.Touched.{counter, multipliers, spread, has, slots_from, slots, listed, touched, Apart, every}
use Rattle.sieve.specs.Counted.{count_of, passing, above, one_more, one_fewer, change_all}

has_itself : (x : ℕ) (seen : List ℕ) → has x (seen ++ x ∷ []) ≡ true
has_itself x [] = ap (λ (b : Bool). b || false) (eq-eqb x x refl)
has_itself x (y ∷ ys) = or_right (y == x) (has x (ys ++ x ∷ [])) (has_itself x ys)

has_still : (x : ℕ) (seen ys : List ℕ) → has x seen ≡ true → has x (seen ++ ys) ≡ true
has_still x [] ys e = absurd (false≢true e)
has_still x (s ∷ seen) ys e = ⊎_elim
    (λ (t : nat_eq s x ≡ true). or_left (s == x) (has x (seen ++ ys)) t)
    (λ (t : has x seen ≡ true). or_right (s == x) (has x (seen ++ ys)) (has_still x seen ys t))
    (or_cases (s == x) (has x seen) e)

has_not_yet : (x y : ℕ) (seen : List ℕ) → has x seen ≡ false → (x ≢ y) → has x (seen ++ y ∷ []) ≡ false
has_not_yet x y [] e n = or_from (y == x) false (ne_eqb y x (λ s. n (sym s))) refl
has_not_yet x y (s ∷ seen) e n = ⊎_elim
    (λ (t : nat_eq s x ≡ true). absurd (both_ways (s == x || has x seen) e (or_left (s == x) (has x seen) t)))
    (λ (f : nat_eq s x ≡ false). or_from (s == x) (has x (seen ++ y ∷ [])) f (has_not_yet x y seen (ap (λ (b : Bool). b || has x seen) (sym f) ∙ e) n))
    (cases_Bool (s == x))

-- what was seen is left out
seen_out : (x : ℕ) (seen xs : List ℕ) → has x seen ≡ true → has x (listed (slots_from seen xs)) ≡ false
seen_out x seen [] e = refl
seen_out x seen (y ∷ ys) e =
    let rest = slots_from (seen ++ y ∷ []) ys in
    let ih : has x (listed rest) ≡ false = seen_out x (seen ++ y ∷ []) ys (has_still x seen (y ∷ []) e) in
    ⊎_elim
    (λ (t : has y seen ≡ true). ap (λ (b : Bool). has x (listed (cond b None (Some y) ∷ rest))) t ∙ ih)
    (λ (f : has y seen ≡ false).
    ap (λ (b : Bool). has x (listed (cond b None (Some y) ∷ rest))) f
    ∙ or_from (y == x) (has x (listed rest)) (ne_eqb y x (λ s. both_ways (has y seen) f (subst (λ (z : ℕ). has z seen ≡ true) (sym s) e))) ih)
    (cases_Bool (has y seen))

apart_from : (seen xs : List ℕ) → Apart (listed (slots_from seen xs))
apart_from seen [] = tt
apart_from seen (y ∷ ys) =
    let rest = slots_from (seen ++ y ∷ []) ys in
    ⊎_elim
    (λ (t : has y seen ≡ true). subst (λ (b : Bool). Apart (listed (cond b None (Some y) ∷ rest))) (sym t) (apart_from (seen ++ y ∷ []) ys))
    (λ (f : has y seen ≡ false). subst (λ (b : Bool). Apart (listed (cond b None (Some y) ∷ rest))) (sym f) (seen_out y (seen ++ y ∷ []) ys (has_itself y seen), apart_from (seen ++ y ∷ []) ys))
    (cases_Bool (has y seen))

pub touched_once : (p : Pair) → Apart (touched p)
touched_once p = apart_from [] (spread p)

none_lost : (i : ℕ) (seen xs : List ℕ) → has i seen ≡ false → has i (listed (slots_from seen xs)) ≡ has i xs
none_lost i seen [] e = refl
none_lost i seen (y ∷ ys) e =
    let rest = slots_from (seen ++ y ∷ []) ys in
    ⊎_elim
    (λ (s : i ≡ y).
    ap (λ (b : Bool). has i (listed (cond b None (Some y) ∷ rest))) (subst (λ (z : ℕ). has z seen ≡ false) s e)
    ∙ or_left (y == i) (has i (listed rest)) (eq-eqb y i (sym s)) ∙ sym (or_left (y == i) (has i ys) (eq-eqb y i (sym s))))
    (λ (n : i ≡ y → ⊥).
    let ih : has i (listed rest) ≡ has i ys = none_lost i (seen ++ y ∷ []) ys (has_not_yet i y seen e n) in
    let other : nat_eq y i ≡ false = ne_eqb y i (λ s. n (sym s)) in
    let r : has i ys ≡ (y == i || has i ys) = ap (λ (b : Bool). b || has i ys) (sym other) in
    ⊎_elim
    (λ (t : has y seen ≡ true). ap (λ (b : Bool). has i (listed (cond b None (Some y) ∷ rest))) t ∙ ih ∙ r)
    (λ (f : has y seen ≡ false). ap (λ (b : Bool). has i (listed (cond b None (Some y) ∷ rest))) f ∙ ap (λ (b : Bool). b || has i (listed rest)) other ∙ ih ∙ r)
    (cases_Bool (has y seen)))
    (cases_eq i y)

pub touched_each : (p : Pair) (i : ℕ) → has i (touched p) ≡ has i (spread p)
touched_each p i = none_lost i [] (spread p) refl

spread_below : (p : Pair) (ms : List ℕ) (i : ℕ) → has i (map (counter p) ms) ≡ true → i < 512
spread_below p [] i e = absurd (false≢true e)
spread_below p (m ∷ ms) i e = ⊎_elim
    (λ (t : nat_eq (counter p m) i ≡ true). let s = eqb-true (counter p m) i t in omega (arith, mod-lt (code p * m / 16) {m = 512} (omega arith)))
    (λ (t : has i (map (counter p) ms) ≡ true). spread_below p ms i t)
    (or_cases (counter p m == i) (has i (map (counter p) ms)) e)

pub touched_below : (p : Pair) (i : ℕ) → has i (touched p) ≡ true → i < 512
touched_below p i e = spread_below p multipliers i (sym (touched_each p i) ∙ e)

pub length_changed : (by : ℕ → ℕ) (os : List (Option ℕ)) (cs : List ℕ) → length (change_all by os cs) ≡ length cs
length_changed by [] cs = refl
length_changed by (None ∷ os) cs = length_changed by os cs
length_changed by (Some j ∷ os) cs = length_changed by os (slice_set cs j (by (slice_index cs j))) ∙ length-set cs j (by (slice_index cs j))

-- each counter that is listed changes once, and no other does
changed_once : (by : ℕ → ℕ) (os : List (Option ℕ)) (cs : List ℕ) (i : ℕ) → Apart (listed os) → ((j : ℕ) → has j (listed os) ≡ true → j < length cs)
    → slice_index (change_all by os cs) i ≡ cond (has i (listed os)) (by (slice_index cs i)) (slice_index cs i)
changed_once by [] cs i a b = refl
changed_once by (None ∷ os) cs i a b = changed_once by os cs i a b
changed_once by (Some j ∷ os) cs i a b =
    let new = by (slice_index cs j) in
    let ds = set cs j new in
    let ih : get_or (change_all by os ds) i 0 ≡ cond (has i (listed os)) (by (slice_index ds i)) (slice_index ds i)
    = changed_once by os ds i a.1 (λ k h. subst (λ (n : ℕ). k < n) (sym (length-set cs j new)) (b k (or_right (j == k) (has k (listed os)) h))) in
    ⊎_elim
    (λ (e : i ≡ j).
    let out : has i (listed os) ≡ false = subst (λ (k : ℕ). has k (listed os) ≡ false) (sym e) a.0 in
    let here : get_or ds i 0 ≡ by (slice_index cs i) = ap (λ (k : ℕ). slice_index ds k) e ∙ get_or-set_same cs j new 0 (b j (or_left (j == j) (has j (listed os)) (eq-eqb j j refl))) ∙ ap (λ (k : ℕ). by (slice_index cs k)) (sym e) in
    ih ∙ ap (λ (t : Bool). cond t (by (slice_index ds i)) (slice_index ds i)) out ∙ here
    ∙ sym (ap (λ (t : Bool). cond (t || has i (listed os)) (by (slice_index cs i)) (slice_index cs i)) (eq-eqb j i (sym e))))
    (λ (n : i ≡ j → ⊥).
    let here : get_or ds i 0 ≡ get_or cs i 0 = get_or-set_other cs j i new 0 n in
    ih ∙ ap (λ (x : ℕ). cond (has i (listed os)) (by x) x) here
    ∙ sym (ap (λ (t : Bool). cond (t || has i (listed os)) (by (slice_index cs i)) (slice_index cs i)) (ne_eqb j i (λ s. n (sym s)))))
    (cases_eq i j)

pub few : (i : ℕ) (places : List (Option Pair)) → length places ≡ 96 → count_of i places ≤ 96
few i places l = omega (arith, count_by-le-length (hit (λ p. has i (touched p))) places)

module _ (cs : List ℕ) (places : List (Option Pair)) (size : length cs ≡ 512) (counts : (i : ℕ) → slice_index cs i ≡ count_of i places) where
  -- a pair more
  pub counts_set : (l : ℕ) (v : Pair) → length places ≡ 96 → l < 96 → slice_index_or places l None ≡ None → (i : ℕ) → slice_index (change_all one_more (slots v) cs) i ≡ count_of i (slice_set places l (Some v))
  counts_set l v long b free i =
      let t : get_or (change_all one_more (slots v) cs) i 0 ≡ cond (has i (touched v)) (min (slice_index cs i + 1) 255) (slice_index cs i) = changed_once one_more (slots v) cs i (touched_once v) (λ j h. subst (λ (n : ℕ). j < n) (sym size) (touched_below v j h)) in
      let s : count_of i (slice_set places l (Some v)) + cond (hit (λ p. has i (touched p)) (slice_index_or places l None)) 1 0 ≡ count_of i places + cond (has i (touched v)) 1 0 = sum_by-set (λ o. cond (hit (λ p. has i (touched p)) o) 1 0) places l (Some v) None (omega arith) in
      let z : ◌≡◌ {A = ℕ} (cond (hit (λ p. has i (touched p)) (slice_index_or places l None)) 1 0) 0 = ap (λ (o : Option Pair). cond (hit (λ p. has i (touched p)) o) 1 0) free in
      let small = few i places long in
      let c = counts i in
      ⊎_elim
      (λ (y : has i (touched v) ≡ true). t ∙ ap (λ (b : Bool). cond b (min (slice_index cs i + 1) 255) (slice_index cs i)) y ∙ omega (arith, ap (λ (b : Bool). cond {A = ℕ} b 1 0) y))
      (λ (n : has i (touched v) ≡ false). t ∙ ap (λ (b : Bool). cond b (min (slice_index cs i + 1) 255) (slice_index cs i)) n ∙ omega (arith, ap (λ (b : Bool). cond {A = ℕ} b 1 0) n))
      (cases_Bool (has i (touched v)))

  -- a pair fewer
  pub counts_clear : (l : ℕ) (v : Pair) → slice_index_or places l None ≡ Some v → (i : ℕ) → slice_index (change_all one_fewer (slots v) cs) i ≡ count_of i (slice_set places l None)
  counts_clear l v full i =
      let t : get_or (change_all one_fewer (slots v) cs) i 0 ≡ cond (has i (touched v)) (slice_index cs i - 1) (slice_index cs i) = changed_once one_fewer (slots v) cs i (touched_once v) (λ j h. subst (λ (n : ℕ). j < n) (sym size) (touched_below v j h)) in
      let s : count_of i (slice_set places l None) + cond (hit (λ p. has i (touched p)) (slice_index_or places l None)) 1 0 ≡ count_of i places + 0 = sum_by-set (λ o. cond (hit (λ p. has i (touched p)) o) 1 0) places l None None (full_within places l v full) in
      let z : ◌≡◌ {A = ℕ} (cond (hit (λ p. has i (touched p)) (slice_index_or places l None)) 1 0) (cond (has i (touched v)) 1 0) = ap (λ (o : Option Pair). cond (hit (λ p. has i (touched p)) o) 1 0) full in
      let c = counts i in
      ⊎_elim
      (λ (y : has i (touched v) ≡ true). t ∙ ap (λ (b : Bool). cond b (slice_index cs i - 1) (slice_index cs i)) y ∙ omega (arith, ap (λ (b : Bool). cond {A = ℕ} b 1 0) y))
      (λ (n : has i (touched v) ≡ false). t ∙ ap (λ (b : Bool). cond b (slice_index cs i - 1) (slice_index cs i)) n ∙ omega (arith, ap (λ (b : Bool). cond {A = ℕ} b 1 0) n))
      (cases_Bool (has i (touched v)))

  every_same : (t u : ℕ → Bool) (xs : List ℕ) → ((i : ℕ) → t i ≡ u i) → every t xs ≡ every u xs
  every_same t u [] h = refl
  every_same t u (x ∷ xs) h = ap (λ (b : Bool). b && every t xs) (h x) ∙ ap (λ (b : Bool). u x && b) (every_same t u xs h)

  pub above_is : (p : Pair) → above cs p ≡ passing places p
  above_is p = every_same (λ i. nat_lt 0 (slice_index cs i)) (λ i. nat_lt 0 (count_of i places)) (touched p) (λ i. ap (λ (n : ℕ). nat_lt 0 n) (counts i))

every_from : (t : ℕ → Bool) (xs : List ℕ) → ((i : ℕ) → has i xs ≡ true → t i ≡ true) → every t xs ≡ true
every_from t [] h = refl
every_from t (x ∷ xs) h = and_from (t x) (every t xs) (h x (or_left (x == x) (has x xs) (eq-eqb x x refl))) (every_from t xs (λ i e. h i (or_right (x == i) (has i xs) e)))

-- a pair that is held always passes
pub held_passes : (places : List (Option Pair)) (l : ℕ) (v : Pair) → slice_index_or places l None ≡ Some v → passing places v ≡ true
held_passes places l v h = every_from (λ i. nat_lt 0 (count_of i places)) (touched v) (λ i e.
    let le = get_or-le-sum_by (λ o. cond (hit (λ p. has i (touched p)) o) 1 0) places l None (full_within places l v h) in
    let z : ◌≡◌ {A = ℕ} (cond (hit (λ p. has i (touched p)) (slice_index_or places l None)) 1 0) 1 = ap (λ (o : Option Pair). cond (hit (λ p. has i (touched p)) o) 1 0) h ∙ ap (λ (b : Bool). cond b 1 0) e in
    lt-ltb 0 (count_of i places) (omega arith))

pub spared_absent : (places : List (Option Pair)) (v : Pair) → passing places v ≡ false → None ≡ find same_pair places v
spared_absent places v f = ⊎_elim
    (λ (e : find same_pair places v ≡ None). sym e)
    (λ (r : (l : ℕ) × (find same_pair places v ≡ Some l)). absurd (both_ways (passing places v) f (held_passes places r.0 v (find_some same_pair pair_decides places v r.0 r.1))))
    (split (find same_pair places v))

none_counted : (i n : ℕ) → count_of i (replicate n None) ≡ 0
none_counted i zero = refl
none_counted i (suc n) = none_counted i n

zero_at : (i n : ℕ) → ◌≡◌ {A = ℕ} (slice_index (replicate n 0) i) 0
zero_at i n = ⊎_elim (λ (h : i < n). get_or-replicate n i 0 0 h) (λ (h : n ≤ i). get_or_past (replicate {A = ℕ} n 0) i 0 (omega (arith, length-replicate {A = ℕ} n 0))) (cases_lt i n)

pub nothing_counted : (i : ℕ) → slice_index (replicate {A = ℕ} 512 0) i ≡ count_of i (replicate 96 None)
nothing_counted i = zero_at i 512 ∙ sym (none_counted i 96)

-- one slot after another
pub slot_first : (t : ℕ → Bool) (o : Option ℕ) (os : List (Option ℕ)) → every t (listed (o ∷ os)) ≡ (every t (listed (o ∷ [])) && every t (listed os))
slot_first t None os = refl
slot_first t (Some i) os = ⊎_elim
    (λ (e : t i ≡ true). ap (λ (b : Bool). b && every t (listed os)) e ∙ sym (ap (λ (b : Bool). (b && true) && every t (listed os)) e))
    (λ (e : t i ≡ false). ap (λ (b : Bool). b && every t (listed os)) e ∙ sym (ap (λ (b : Bool). (b && true) && every t (listed os)) e))
    (cases_Bool (t i))
