-- What each step of a label table does to the relation between the table and the standing filters.
use Rattle.std.proofs.Common.{◌≡◌, ℕ, zero, suc, ◌+◌, ◌-◌, ◌<◌, ◌≤◌, Bool, not, eqb, leb, true, false, cond, ◌≢◌, List, [], ◌∷◌, ◌++◌, length, get_or, set, replicate, Some, None, MatchOption, Decides, sum_by, count_by, Option, sym, refl, ap, ◌∙◌, subst, inl, inr, ⊎_elim, arith, length-append, length-set}
use Rattle.std.specs.List.{AllByRecursion}
use Rattle.std.proofs.lemmas.List.{get_or-set_same, get_or-set_other, get_or_past, map-set}
use lib.Seq.{map-set_same}
use Rattle.std.specs.List.{position, position_or_len}
use Rattle.std.proofs.lemmas.List.Sums.{sum_by-cons, sum_by-append, sum_by-set, get_or-le-sum_by, fails_before_first}
use Rattle.std.proofs.lemmas.List.Quantifiers.{position-Some}
use Rattle.std.proofs.ByRecursion.{sum_by_le, All-from_get_or, All-get_or}
use Rattle.std.proofs.lemmas.Bool.{cases_eq, cases_lt, cases_Bool, both_ways, lt-ltb, le-leb, lt-leb, eq-eqb, ne_eqb}
use Rattle.labels.specs.declared.table.Used.{Used}
use Rattle.parts.specs.Meaning.{at}
use Rattle.labels.specs.Labels.{Standing, standing, here, used, uses, share, occurrences, Labelled, key_of, keys, Came, OneLabel}

pub sum_zero : {X : Type 0} (f : X → ℕ) (xs : List X) (d : X) → ((i : ℕ) → i < length xs → f (get_or xs i d) ≡ 0) → sum_by f xs ≡ 0
sum_zero f xs d h =
    let s = sum_by_le f 0 xs (All-from_get_or (λ x. f x ≤ 0) xs d (λ i l. omega (arith, h i l))) in
    omega arith

pub sum_full : {X : Type 0} (f : X → ℕ) (xs : List X) (d : X) → ((i : ℕ) → i < length xs → 0 < f (get_or xs i d)) → length xs ≤ sum_by f xs
sum_full f [] d h = omega arith
sum_full f (x ∷ xs) d h =
    let r = sum_full f xs d (λ i l. h (suc i) (omega arith)) in
    omega (arith, sum_by-cons f x xs, h 0 (omega arith))

pub sum_insert : {X : Type 0} (f : X → ℕ) (front back : List X) (x : X) → sum_by f (front ++ x ∷ back) ≡ sum_by f (front ++ back) + f x
sum_insert f front back x =
    omega (arith, sum_by-append f front (x ∷ back), sum_by-cons f x back, sum_by-append f front back)

pub length-insert : {X : Type 0} (front back : List X) (x : X) → length (front ++ x ∷ back) ≡ length (front ++ back) + 1
length-insert front back x = omega (arith, length-append front (x ∷ back), length-append front back)

pub all_insert : {X : Type 0} (P : X → Type 0) (front back : List X) (x : X) → AllByRecursion P (front ++ back) → P x → AllByRecursion P (front ++ x ∷ back)
all_insert P [] back x h p = (p, h)
all_insert P (a ∷ front) back x h p = (h.0, all_insert P front back x h.1 p)

pub all_delete : {X : Type 0} (P : X → Type 0) (front back : List X) (x : X) → AllByRecursion P (front ++ x ∷ back) → AllByRecursion P (front ++ back) × P x
all_delete P [] back x h = (h.1, h.0)
all_delete P (a ∷ front) back x h = let r = all_delete P front back x h.1 in ((h.0, r.0), r.1)

pub all_turn : {X : Type 0} (P Q : X → Type 0) → ((x : X) → P x → Q x) → (xs : List X) → AllByRecursion P xs → AllByRecursion Q xs
all_turn P Q f [] h = tt
all_turn P Q f (x ∷ xs) h = (f x h.0, all_turn P Q f xs h.1)

-- where no item passes, none does
pub none_passes : {X : Type 0} (p : X → Bool) (xs : List X) (d : X) → position p xs ≡ None → (k : ℕ) → k < length xs → p (get_or xs k d) ≡ false
none_passes p xs d e k l =
    elim (cases_lt k (position_or_len p xs)) [
      | inl before ↦ fails_before_first p xs k d before
      | inr after ↦ absurd (some_none (sym (ap (λ (b : Bool). cond b (Some (position_or_len p xs)) None) (lt-ltb (position_or_len p xs) (length xs) (omega arith))) ∙ e))
    ]
  where
    some_none : {n : ℕ} → Some n ≡ None → ⊥
    some_none {n} h = let z : ◌≡◌ {A = ℕ} 0 1 = cc in omega arith

-- the first slot that is not used is free
pub free_slot : {K : Type 0} (slots : List (Option (Used K))) (i : ℕ) → position (λ s. not (used s)) slots ≡ Some i → (i < length slots) × (get_or slots i None ≡ None)
free_slot slots i e =
    let p = position-Some (λ s. not (used s)) slots i None e in
    (p.0, unused (get_or slots i None) p.1)
  where
    unused : {K : Type 0} (s : Option (Used K)) → not (used s) ≡ true → s ≡ None
    unused None h = refl
    unused (Some u) h = absurd (both_ways false refl h)

-- a slot that the key uses is used
pub here_used : {K : Type 0} (eq : K → K → Bool) (k : K) (s : Option (Used K)) → here eq k s ≡ true → used s ≡ true
here_used eq k None h = h
here_used eq k (Some u) h = refl

pub share_none : {K : Type 0} (eq : K → K → Bool) (k : K) (s : Option (Used K)) → here eq k s ≡ false → share eq k s ≡ 0
share_none eq k s h = rw h

pub share_here : {K : Type 0} (eq : K → K → Bool) (k : K) (s : Option (Used K)) → here eq k s ≡ true → share eq k s ≡ uses s
share_here eq k s h = rw h

step_up : (b : Bool) (x y n : ℕ) → x + cond b n 0 ≡ y + cond b (n + 1) 0 → x ≡ y + cond b 1 0
step_up true x y n h = omega arith
step_up false x y n h = omega arith

step_down : (b : Bool) (x y n : ℕ) → 0 < n → x + cond b n 0 ≡ y + cond b (n - 1) 0 → y ≡ x + cond b 1 0
step_down true x y n p h = omega arith
step_down false x y n p h = omega arith

step_out : (b : Bool) (x y n : ℕ) → n ≡ 1 → x + cond b n 0 ≡ y + 0 → y ≡ x + cond b 1 0
step_out true x y n p h = omega arith
step_out false x y n p h = omega arith

-- the numbers that stand for a test
bit_false : (b : Bool) → cond {A = ℕ} b 1 0 ≡ 0 → b ≡ false
bit_false true h = absurd (omega arith)
bit_false false h = refl

bit_true : (b : Bool) → b ≡ true → cond {A = ℕ} b 1 0 ≡ 1
bit_true b h = rw h

-- what is counted nowhere is not there
count_zero : {X : Type 0} (p : X → Bool) (xs : List X) → count_by p xs ≡ 0 → AllByRecursion (λ x. p x ≡ false) xs
count_zero p [] h = tt
count_zero p (x ∷ xs) h =
    let s = sum_by-cons (λ y. cond {A = ℕ} (p y) 1 0) x xs in
    (bit_false (p x) (omega arith), count_zero p xs (omega arith))

all_both : {X : Type 0} (P Q : X → Type 0) (xs : List X) → AllByRecursion P xs → AllByRecursion Q xs → AllByRecursion (λ x. P x × Q x) xs
all_both P Q [] h k = tt
all_both P Q (x ∷ xs) h k = ((h.0, k.0), all_both P Q xs h.1 k.1)

nothing : {K : Type 0} (n i : ℕ) → get_or (replicate {A = Option (Used K)} n None) i None ≡ None
nothing zero i = refl
nothing (suc n) zero = refl
nothing (suc n) (suc i) = nothing n i

-- what a table says of its keys
pub at_key : {K : Type 0} (eq : K → K → Bool) (k : K) (s : Option (Used K)) → at eq k (key_of s) ≡ here eq k s
at_key eq k None = refl
at_key eq k (Some u) = refl

pub keys_at : {K : Type 0} (slots : List (Option (Used K))) (i : ℕ) → get_or (keys slots) i None ≡ key_of (get_or slots i None)
keys_at [] i = refl
keys_at (s ∷ slots) zero = refl
keys_at (s ∷ slots) (suc i) = keys_at slots i

pub came : {K : Type 0} (eq : K → K → Bool) (slots : List (Option (Used K))) (i : ℕ) (key : K) (n : ℕ) → get_or slots i None ≡ None
    → ((j : ℕ) → here eq key (get_or slots j None) ≡ false)
    → Came eq (keys slots) (keys (set slots i (Some record { key = key; count = n }))) key i
came eq slots i key n e gone = record {
  free = keys_at slots i ∙ ap key_of e;
  absent = λ j. ap (at eq key) (keys_at slots j) ∙ at_key eq key (get_or slots j None) ∙ gone j;
  after = map-set key_of slots i (Some record { key = key; count = n });
}

pub kept_keys : {K : Type 0} (slots : List (Option (Used K))) (i : ℕ) (u : Used K) (n : ℕ) → get_or slots i None ≡ Some u → keys (set slots i (Some record { key = u.key; count = n })) ≡ keys slots
kept_keys slots i u n e = map-set_same key_of slots i (Some record { key = u.key; count = n }) None (sym (ap key_of e))

-- what a slot holds after one filter gave its label back
abbrev pub without_one : {K : Type 0} → Used K → Option (Used K)
without_one u = cond (leb u.count 1) None (Some record { key = u.key; count = u.count - 1 })

module _ {K : Type 0} (eq : K → K → Bool) (law : (a b : K) → Decides (eq a b) (a ≡ b)) where
  -- what a write that keeps the slot's key leaves
  same_here : (slots : List (Option (Used K))) (i : ℕ) (s : Option (Used K)) → i < length slots → ((k : K) → here eq k s ≡ here eq k (get_or slots i None)) → (j : ℕ) (k : K) → here eq k (get_or (set slots i s) j None) ≡ here eq k (get_or slots j None)
  same_here slots i s l h j k =
      elim (cases_eq j i) [
        | inl e ↦ subst (λ (n : ℕ). here eq k (get_or (set slots i s) n None) ≡ here eq k (get_or slots n None)) (sym e) (ap (here eq k) (get_or-set_same slots i s None l) ∙ h k)
        | inr ne ↦ ap (here eq k) (get_or-set_other slots i j s None ne)
      ]

  -- what a write at i says of the used slots
  live_set : (slots : List (Option (Used K))) (i : ℕ) (s : Option (Used K)) → i < length slots → (used s ≡ true → 0 < uses s) → ((j : ℕ) → used (get_or slots j None) ≡ true → 0 < uses (get_or slots j None)) → (j : ℕ) → used (get_or (set slots i s) j None) ≡ true → 0 < uses (get_or (set slots i s) j None)
  live_set slots i s l h old j =
      elim (cases_eq j i) [
        | inl e ↦ subst (λ (n : ℕ). used (get_or (set slots i s) n None) ≡ true → 0 < uses (get_or (set slots i s) n None)) (sym e) (subst (λ (t : Option (Used K)). used t ≡ true → 0 < uses t) (sym (get_or-set_same slots i s None l)) h)
        | inr ne ↦ subst (λ (t : Option (Used K)). used t ≡ true → 0 < uses t) (sym (get_or-set_other slots i j s None ne)) (old j)
      ]

  -- the sum after a write
  sum_write : (f : Option (Used K) → ℕ) (slots : List (Option (Used K))) (i : ℕ) (s t : Option (Used K)) → i < length slots → get_or slots i None ≡ t → sum_by f (set slots i s) + f t ≡ sum_by f slots + f s
  sum_write f slots i s t l e = subst (λ (x : Option (Used K)). sum_by f (set slots i s) + f x ≡ sum_by f slots + f s) e (sum_by-set f slots i s None l)

  pub raised : (slots : List (Option (Used K))) (front back : List (Standing K)) (i : ℕ) (u : Used K) → Labelled eq slots (front ++ back) → i < length slots → get_or slots i None ≡ Some u
      → Labelled eq (set slots i (Some record { key = u.key; count = u.count + 1 })) (front ++ standing u.key i ∷ back)
  raised slots front back i u h l e =
      let new : Option (Used K) = Some record { key = u.key; count = u.count + 1 } in
      let same : (j : ℕ) (k : K) → here eq k (get_or (set slots i new) j None) ≡ here eq k (get_or slots j None) = same_here slots i new l (λ k. ap (here eq k) (sym e)) in
      record {
        size = length-set slots i new ∙ h.size;
        counts = λ k. step_up (eq k u.key) (sum_by (share eq k) (set slots i new)) (sum_by (share eq k) slots) u.count (sum_write (share eq k) slots i new (Some u) l e) ∙ ap (λ (n : ℕ). n + cond (eq k u.key) 1 0) (h.counts k) ∙ sym (sum_insert (λ (f : Standing K). cond (eq k f.key) 1 0) front back (standing u.key i));
        holds = all_insert (λ f. here eq f.key (get_or (set slots i new) f.label None) ≡ true) front back (standing u.key i)
            (all_turn (λ f. here eq f.key (get_or slots f.label None) ≡ true) (λ f. here eq f.key (get_or (set slots i new) f.label None) ≡ true) (λ f p. same f.label f.key ∙ p) (front ++ back) h.holds)
            (ap (here eq u.key) (get_or-set_same slots i new None l) ∙ (law u.key u.key).1 refl);
        live = live_set slots i new l (λ _. omega arith) h.live;
        single = λ a b k p q. h.single a b k (sym (same a k) ∙ p) (sym (same b k) ∙ q);
        total = omega (arith, sum_write uses slots i new (Some u) l e, h.total, length-insert front back (standing u.key i));
      }

  -- a key that no slot has does not stand
  pub absent : (slots : List (Option (Used K))) (fs : List (Standing K)) (k : K) → Labelled eq slots fs → ((i : ℕ) → i < length slots → here eq k (get_or slots i None) ≡ false) → occurrences eq k fs ≡ 0
  absent slots fs k h gone = sym (h.counts k) ∙ sum_zero (share eq k) slots None (λ i l. share_none eq k (get_or slots i None) (gone i l))

  -- a key that a slot has stands
  pub present : (slots : List (Option (Used K))) (fs : List (Standing K)) (k : K) (i : ℕ) → Labelled eq slots fs → i < length slots → here eq k (get_or slots i None) ≡ true → 0 < occurrences eq k fs
  present slots fs k i h l hit =
      let up = get_or-le-sum_by (share eq k) slots i None l in
      let pos = h.live i (here_used eq k (get_or slots i None) hit) in
      omega (arith, h.counts k, share_here eq k (get_or slots i None) hit)

  -- a slot counts no more than stand
  pub count_bound : (slots : List (Option (Used K))) (fs : List (Standing K)) (i : ℕ) (u : Used K) → Labelled eq slots fs → i < length slots → get_or slots i None ≡ Some u → u.count ≤ length fs
  count_bound slots fs i u h l e =
      let up = subst (λ (x : Option (Used K)). uses x ≤ sum_by uses slots) e (get_or-le-sum_by uses slots i None l) in
      omega (arith, h.total)

  -- where no slot is free, as many stand
  pub no_room : (slots : List (Option (Used K))) (fs : List (Standing K)) → Labelled eq slots fs → ((i : ℕ) → i < length slots → used (get_or slots i None) ≡ true) → length slots ≤ length fs
  no_room slots fs h all =
      let s = sum_full uses slots None (λ i l. h.live i (all i l)) in
      omega (arith, h.total)

  -- no slot past the end has a key
  pub gone_all : (slots : List (Option (Used K))) (k : K) → ((j : ℕ) → j < length slots → here eq k (get_or slots j None) ≡ false) → (j : ℕ) → here eq k (get_or slots j None) ≡ false
  gone_all slots k h j = ⊎_elim (h j) (λ (p : length slots ≤ j). ap (here eq k) (get_or_past slots j None p)) (cases_lt j (length slots))

  pub within : (slots : List (Option (Used K))) (k : K) (j : ℕ) → here eq k (get_or slots j None) ≡ true → j < length slots
  within slots k j h = ⊎_elim (λ (p : j < length slots). p) (λ (p : length slots ≤ j). absurd (both_ways (here eq k (get_or slots j None)) (ap (here eq k) (get_or_past slots j None p)) h)) (cases_lt j (length slots))

  -- the label of a key, where a slot has it
  pub label_or_none : (slots : List (Option (Used K))) (k : K) (r : Option ℕ) → length slots ≡ 96 → r ≡ position (here eq k) slots
      → MatchOption r ((i : ℕ) → i < 96 → here eq k (get_or slots i None) ≡ false) (λ l. (l < 96) × (here eq k (get_or slots l None) ≡ true))
  label_or_none slots k None size e = λ i l. none_passes (here eq k) slots None (sym e) i (omega arith)
  label_or_none slots k (Some i) size e = let p = position-Some (here eq k) slots i None (sym e) in (omega (arith, p.0), p.1)

  -- a new key into a free slot
  pub entered : (slots : List (Option (Used K))) (front back : List (Standing K)) (i : ℕ) (key : K) → Labelled eq slots (front ++ back) → i < length slots → get_or slots i None ≡ None
      → ((j : ℕ) → j < length slots → here eq key (get_or slots j None) ≡ false)
      → Labelled eq (set slots i (Some record { key = key; count = 1 })) (front ++ standing key i ∷ back)
  entered slots front back i key h l e gone =
      let new : Option (Used K) = Some record { key = key; count = 1 } in
      let at_i : (k : K) → here eq k (get_or (set slots i new) i None) ≡ eq k key = λ k. ap (here eq k) (get_or-set_same slots i new None l) in
      let kept : (j : ℕ) (k : K) → j ≢ i → here eq k (get_or (set slots i new) j None) ≡ here eq k (get_or slots j None) = λ j k ne. ap (here eq k) (get_or-set_other slots i j new None ne) in
      let apart : (j : ℕ) (k : K) → here eq k (get_or slots j None) ≡ true → j ≢ i = λ j k p j≡i. both_ways (here eq k (get_or slots j None)) (subst (λ (n : ℕ). here eq k (get_or slots n None) ≡ false) (sym j≡i) (ap (here eq k) e)) p in
      -- at the key's own place, no other has it
      let other : (j : ℕ) (k : K) → j ≢ i → eq k key ≡ true → here eq k (get_or (set slots i new) j None) ≡ true → ⊥ = λ j k ne t p. both_ways (here eq k (get_or slots j None)) (subst (λ (x : K). here eq x (get_or slots j None) ≡ false) (sym ((law k key).0 t)) (gone_all slots key gone j)) (sym (kept j k ne) ∙ p) in
      record {
        size = length-set slots i new ∙ h.size;
        counts = λ k. omega (arith, sum_write (share eq k) slots i new None l e, h.counts k, sum_insert (λ (f : Standing K). cond (eq k f.key) 1 0) front back (standing key i));
        holds = all_insert (λ f. here eq f.key (get_or (set slots i new) f.label None) ≡ true) front back (standing key i)
            (all_turn (λ f. here eq f.key (get_or slots f.label None) ≡ true) (λ f. here eq f.key (get_or (set slots i new) f.label None) ≡ true) (λ f p. kept f.label f.key (apart f.label f.key p) ∙ p) (front ++ back) h.holds)
            (at_i key ∙ (law key key).1 refl);
        live = live_set slots i new l (λ _. omega arith) h.live;
        single = λ a b k p q.
            elim (cases_eq a i) [
              | inl ai ↦ elim (cases_eq b i) [
                | inl bi ↦ ai ∙ sym bi
                | inr nb ↦ absurd (other b k nb (sym (at_i k) ∙ subst (λ (n : ℕ). here eq k (get_or (set slots i new) n None) ≡ true) ai p) q)
              ]
              | inr na ↦ elim (cases_eq b i) [
                | inl bi ↦ absurd (other a k na (sym (at_i k) ∙ subst (λ (n : ℕ). here eq k (get_or (set slots i new) n None) ≡ true) bi q) p)
                | inr nb ↦ h.single a b k (sym (kept a k na) ∙ p) (sym (kept b k nb) ∙ q)
              ]
            ];
        total = omega (arith, sum_write uses slots i new None l e, h.total, length-insert front back (standing key i));
      }

  -- one less of a key that stays
  pub lowered : (slots : List (Option (Used K))) (front back : List (Standing K)) (i : ℕ) (u : Used K) → Labelled eq slots (front ++ standing u.key i ∷ back) → i < length slots → get_or slots i None ≡ Some u → 1 < u.count
      → Labelled eq (set slots i (Some record { key = u.key; count = u.count - 1 })) (front ++ back)
  lowered slots front back i u h l e many =
      let new : Option (Used K) = Some record { key = u.key; count = u.count - 1 } in
      let same : (j : ℕ) (k : K) → here eq k (get_or (set slots i new) j None) ≡ here eq k (get_or slots j None) = same_here slots i new l (λ k. ap (here eq k) (sym e)) in
      record {
        size = length-set slots i new ∙ h.size;
        counts = λ k. omega (arith, step_down (eq k u.key) (sum_by (share eq k) (set slots i new)) (sum_by (share eq k) slots) u.count (omega arith) (sum_write (share eq k) slots i new (Some u) l e), h.counts k, sum_insert (λ (f : Standing K). cond (eq k f.key) 1 0) front back (standing u.key i));
        holds = all_turn (λ f. here eq f.key (get_or slots f.label None) ≡ true) (λ f. here eq f.key (get_or (set slots i new) f.label None) ≡ true) (λ f p. same f.label f.key ∙ p) (front ++ back)
            (all_delete (λ f. here eq f.key (get_or slots f.label None) ≡ true) front back (standing u.key i) h.holds).0;
        live = live_set slots i new l (λ _. omega arith) h.live;
        single = λ a b k p q. h.single a b k (sym (same a k) ∙ p) (sym (same b k) ∙ q);
        total = omega (arith, sum_write uses slots i new (Some u) l e, h.total, length-insert front back (standing u.key i));
      }

  -- the slot of a key counts all of it
  pub sole : (slots : List (Option (Used K))) (fs : List (Standing K)) (i : ℕ) (k : K) → Labelled eq slots fs → i < length slots → here eq k (get_or slots i None) ≡ true → occurrences eq k fs ≡ uses (get_or slots i None)
  sole slots fs i k h l hit =
      let none : Option (Used K) = None in
      let at_i : here eq k (get_or (set slots i none) i None) ≡ false = ap (here eq k) (get_or-set_same slots i none None l) in
      let away : (j : ℕ) → j ≢ i → here eq k (get_or (set slots i none) j None) ≡ false = λ j ne. ap (here eq k) (get_or-set_other slots i j none None ne) ∙ ⊎_elim (λ (p : here eq k (get_or slots j None) ≡ true). absurd (ne (h.single j i k p hit))) (λ (p : here eq k (get_or slots j None) ≡ false). p) (cases_Bool (here eq k (get_or slots j None))) in
      let z : sum_by (share eq k) (set slots i none) ≡ 0 = sum_zero (share eq k) (set slots i none) None (λ j lj. share_none eq k (get_or (set slots i none) j None) (⊎_elim (λ (p : j ≡ i). subst (λ (n : ℕ). here eq k (get_or (set slots i none) n None) ≡ false) (sym p) at_i) (λ (ne : j ≡ i → ⊥). away j ne) (cases_eq j i))) in
      omega (arith, sum_by-set (share eq k) slots i none None l, h.counts k, share_here eq k (get_or slots i None) hit)

  -- the last of a key is let go
  pub last_of : (slots : List (Option (Used K))) (front back : List (Standing K)) (i : ℕ) (u : Used K) → Labelled eq slots (front ++ standing u.key i ∷ back) → i < length slots → get_or slots i None ≡ Some u → u.count ≡ 1
      → occurrences eq u.key (front ++ back) ≡ 0
  last_of slots front back i u h l e one =
      let hit : here eq u.key (get_or slots i None) ≡ true = ap (here eq u.key) e ∙ (law u.key u.key).1 refl in
      let n : uses (get_or slots i None) ≡ u.count = ap uses e in
      let t = bit_true (eq u.key u.key) ((law u.key u.key).1 refl) in
      omega (arith, sole slots (front ++ standing u.key i ∷ back) i u.key h l hit, sum_insert (λ (f : Standing K). cond (eq u.key f.key) 1 0) front back (standing u.key i))

  pub cleared : (slots : List (Option (Used K))) (front back : List (Standing K)) (i : ℕ) (u : Used K) → Labelled eq slots (front ++ standing u.key i ∷ back) → i < length slots → get_or slots i None ≡ Some u → u.count ≡ 1
      → Labelled eq (set slots i None) (front ++ back)
  cleared slots front back i u h l e one =
      let none : Option (Used K) = None in
      let kept : (j : ℕ) (k : K) → j ≢ i → here eq k (get_or (set slots i none) j None) ≡ here eq k (get_or slots j None) = λ j k ne. ap (here eq k) (get_or-set_other slots i j none None ne) in
      -- what is now used was used
      let was : (j : ℕ) (k : K) → here eq k (get_or (set slots i none) j None) ≡ true → here eq k (get_or slots j None) ≡ true = λ j k p.
      ⊎_elim (λ (q : j ≡ i). absurd (both_ways (here eq k (get_or (set slots i none) j None)) (subst (λ (n : ℕ). here eq k (get_or (set slots i none) n None) ≡ false) (sym q) (ap (here eq k) (get_or-set_same slots i none None l))) p)) (λ (ne : j ≡ i → ⊥). sym (kept j k ne) ∙ p) (cases_eq j i) in
      let rest = (all_delete (λ f. here eq f.key (get_or slots f.label None) ≡ true) front back (standing u.key i) h.holds).0 in
      let others = count_zero (λ (f : Standing K). eq u.key f.key) (front ++ back) (last_of slots front back i u h l e one) in
      record {
        size = length-set slots i none ∙ h.size;
        counts = λ k. omega (arith, step_out (eq k u.key) (sum_by (share eq k) (set slots i none)) (sum_by (share eq k) slots) u.count one (sum_write (share eq k) slots i none (Some u) l e), h.counts k, sum_insert (λ (f : Standing K). cond (eq k f.key) 1 0) front back (standing u.key i));
        holds = all_turn (λ f. (here eq f.key (get_or slots f.label None) ≡ true) × (eq u.key f.key ≡ false)) (λ f. here eq f.key (get_or (set slots i none) f.label None) ≡ true)
            (λ f p. kept f.label f.key (λ q. both_ways (eq u.key f.key) p.1 ((law u.key f.key).1 (sym ((law f.key u.key).0 (ap (here eq f.key) (sym e) ∙ subst (λ (n : ℕ). here eq f.key (get_or slots n None) ≡ true) q p.0))))) ∙ p.0)
            (front ++ back)
            (all_both (λ f. here eq f.key (get_or slots f.label None) ≡ true) (λ f. eq u.key f.key ≡ false) (front ++ back) rest others);
        live = live_set slots i none l (λ p. absurd (both_ways false refl p)) h.live;
        single = λ a b k p q. h.single a b k (was a k p) (was b k q);
        total = omega (arith, sum_write uses slots i none (Some u) l e, h.total, length-insert front back (standing u.key i));
      }

  pub nothing_held : Labelled eq (replicate 96 None) []
  nothing_held = record {
    size = refl;
    counts = λ k. refl;
    holds = tt;
    live = λ i p. absurd (both_ways (used (get_or (replicate {A = Option (Used K)} 96 None) i None)) (ap used (nothing 96 i)) p);
    single = λ i j k p q. absurd (both_ways (here eq k (get_or (replicate 96 None) i None)) (ap (here eq k) (nothing 96 i)) p);
    total = refl;
  }

  -- a slot has one key
  same_key : (s : Option (Used K)) (a b : K) → here eq a s ≡ true → here eq b s ≡ true → a ≡ b
  same_key None a b p q = absurd (both_ways false refl p)
  same_key (Some u) a b p q = (law a u.key).0 p ∙ sym ((law b u.key).0 q)

  -- the filter's own key is at its label
  pub own : (slots : List (Option (Used K))) (front back : List (Standing K)) (i : ℕ) (k : K) → Labelled eq slots (front ++ standing k i ∷ back) → here eq k (get_or slots i None) ≡ true
  own slots front back i k h = (all_delete (λ f. here eq f.key (get_or slots f.label None) ≡ true) front back (standing k i) h.holds).1

  pub own_key : (slots : List (Option (Used K))) (front back : List (Standing K)) (i : ℕ) (k : K) (u : Used K) → Labelled eq slots (front ++ standing k i ∷ back) → get_or slots i None ≡ Some u → k ≡ u.key
  own_key slots front back i k u h e = (law k u.key).0 (ap (here eq k) (sym e) ∙ own slots front back i k h)

  pub given_back : (slots : List (Option (Used K))) (front back : List (Standing K)) (i : ℕ) (u : Used K) (key : K) → Labelled eq slots (front ++ standing key i ∷ back) → i < length slots → get_or slots i None ≡ Some u
      → (u.key ≡ key) × (leb u.count 1 ≡ eqb (occurrences eq key (front ++ back)) 0) × Labelled eq (set slots i (without_one u)) (front ++ back)
  given_back slots front back i u key h l e =
      let same = own_key slots front back i key u h e in
      let own_h = subst (λ (k : K). Labelled eq slots (front ++ standing k i ∷ back)) same h in
      let left : (leb u.count 1 ≡ eqb (occurrences eq u.key (front ++ back)) 0) × Labelled eq (set slots i (without_one u)) (front ++ back) =
      elim (cases_lt 1 u.count) [
        | inl many ↦
            let new : Option (Used K) = Some record { key = u.key; count = u.count - 1 } in
            let made = lowered slots front back i u own_h l e many in
            let stays = present (set slots i new) (front ++ back) u.key i made (omega (arith, length-set slots i new)) (ap (here eq u.key) (get_or-set_same slots i new None l) ∙ (law u.key u.key).1 refl) in
            (lt-leb u.count 1 many ∙ sym (ne_eqb (occurrences eq u.key (front ++ back)) 0 (λ z. omega arith)), rw (lt-leb u.count 1 many) made)
        | inr few ↦
            let one : u.count ≡ 1 = omega (arith, subst (λ (t : Option (Used K)). used t ≡ true → 0 < uses t) e (h.live i) refl) in
            (le-leb u.count 1 few ∙ sym (eq-eqb (occurrences eq u.key (front ++ back)) 0 (last_of slots front back i u own_h l e one)), rw (le-leb u.count 1 few) (cleared slots front back i u own_h l e one))
      ] in
      (sym same, subst (λ (k : K). leb u.count 1 ≡ eqb (occurrences eq k (front ++ back)) 0) (sym same) left.0, left.1)

  -- two standing filters have one label exactly when they have one key
  pub one_label : (slots : List (Option (Used K))) (fs : List (Standing K)) → Labelled eq slots fs → OneLabel fs
  one_label slots fs h i j d l m =
      let at : (n : ℕ) → n < length fs → here eq (get_or fs n d).key (get_or slots (get_or fs n d).label None) ≡ true = λ n w. All-get_or (λ f. here eq f.key (get_or slots f.label None) ≡ true) fs n d w h.holds in (
        λ e. same_key (get_or slots (get_or fs j d).label None) (get_or fs i d).key (get_or fs j d).key (subst (λ (n : ℕ). here eq (get_or fs i d).key (get_or slots n None) ≡ true) e (at i l)) (at j m),
        λ e. h.single (get_or fs i d).label (get_or fs j d).label (get_or fs j d).key (subst (λ (k : K). here eq k (get_or slots (get_or fs i d).label None) ≡ true) e (at i l)) (at j m),
      )
