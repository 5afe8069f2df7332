-- The label at which a value is held, told by what the places hold.
use Rattle.std.specs.Prelude.{◌≡◌, ℕ, zero, suc, ◌+◌, ◌<◌, ◌≤◌, Bool, true, false, cond, ◌⊎◌, List, [], ◌∷◌, length, get_or, set, Some, None, Decides, Option, ◌≢◌, slice_index_or, slice_set, replicate, refl}
use Rattle.std.proofs.lemmas.Option.{none-some}
use Rattle.std.proofs.Common.{sym, ap, subst, ◌∙◌, inl, inr, ⊎_elim, arith}
use Rattle.std.proofs.lemmas.List.{get_or-set_same, get_or-set_other, get_or_past, set_past, set-get_or, get_or-replicate, length-replicate}
use Rattle.std.proofs.lemmas.Bool.{cases_Bool, cases_eq, cases_lt, false≢true}
use Rattle.parts.specs.Meaning.{Single, at, find, find_from}

pub split : {V : Type 0} (o : Option V) → (o ≡ None) ⊎ ((v : V) × (o ≡ Some v))
split None = inl refl
split (Some v) = inr (v, refl)

-- an empty place stays as it is when it is emptied
pub set_none : {V : Type 0} (xs : List (Option V)) (l : ℕ) → slice_index_or xs l None ≡ None → slice_set xs l None ≡ xs
set_none {V} xs l e = ap (λ (o : Option V). set xs l o) (sym e) ∙ set-get_or xs l None

-- a full place is a place
pub full_within : {V : Type 0} (xs : List (Option V)) (l : ℕ) (v : V) → slice_index_or xs l None ≡ Some v → l < length xs
full_within xs l v e = ⊎_elim (λ (h : l < length xs). h) (λ (h : length xs ≤ l). absurd (none-some v (sym (get_or_past xs l None h) ∙ e))) (cases_lt l (length xs))

-- what is held after a place was emptied was held before
pub still : {V : Type 0} (xs : List (Option V)) (l i : ℕ) (v : V) → slice_index_or (slice_set xs l None) i None ≡ Some v → (slice_index_or xs i None ≡ Some v) × (i ≢ l)
still {V} xs l i v h = ⊎_elim
    (λ (e : i ≡ l). ⊎_elim
    (λ (w : l < length xs). absurd (none-some v (sym (get_or-set_same xs l None None w) ∙ subst (λ (k : ℕ). slice_index_or (slice_set xs l None) k None ≡ Some v) e h)))
    (λ (p : length xs ≤ l). absurd (none-some v (sym (get_or_past xs i None (omega arith)) ∙ subst (λ (ys : List (Option V)). slice_index_or ys i None ≡ Some v) (set_past xs l None p) h)))
    (cases_lt l (length xs)))
    (λ (n : i ≡ l → ⊥). (sym (get_or-set_other xs l i None None n) ∙ h, n))
    (cases_eq i l)

pub single_clear : {V : Type 0} (xs : List (Option V)) (l : ℕ) → Single xs → Single (slice_set xs l None)
single_clear xs l s i j v h k = s i j v (still xs l i v h).0 (still xs l j v k).0

-- what is held after v was put at a place is v there, or was held before
pub put_cases : {V : Type 0} (xs : List (Option V)) (l i : ℕ) (v w : V) → l < length xs → slice_index_or (slice_set xs l (Some v)) i None ≡ Some w → ((i ≡ l) × (v ≡ w)) ⊎ ((i ≢ l) × (slice_index_or xs i None ≡ Some w))
put_cases {V} xs l i v w b h = ⊎_elim
    (λ (e : i ≡ l). inl (e, let q : Some v ≡ Some w = sym (get_or-set_same xs l (Some v) None b) ∙ subst (λ (k : ℕ). slice_index_or (slice_set xs l (Some v)) k None ≡ Some w) e h in cc))
    (λ (n : i ≡ l → ⊥). inr (n, sym (get_or-set_other xs l i (Some v) None n) ∙ h))
    (cases_eq i l)

pub single_put : {V : Type 0} (xs : List (Option V)) (l : ℕ) (v : V) → l < length xs → ((n : ℕ) → slice_index_or xs n None ≢ Some v) → Single xs → Single (slice_set xs l (Some v))
single_put {V} xs l v b new s i j w h k = ⊎_elim
    (λ (p : (i ≡ l) × (v ≡ w)). ⊎_elim
    (λ (q : (j ≡ l) × (v ≡ w)). p.0 ∙ sym q.0)
    (λ (q : (j ≢ l) × (slice_index_or xs j None ≡ Some w)). absurd (new j (q.1 ∙ ap Some (sym p.1))))
    (put_cases xs l j v w b k))
    (λ (p : (i ≢ l) × (slice_index_or xs i None ≡ Some w)). ⊎_elim
    (λ (q : (j ≡ l) × (v ≡ w)). absurd (new i (p.1 ∙ ap Some (sym q.1))))
    (λ (q : (j ≢ l) × (slice_index_or xs j None ≡ Some w)). s i j w p.1 q.1)
    (put_cases xs l j v w b k))
    (put_cases xs l i v w b h)

pub all_none : {V : Type 0} (i n : ℕ) → slice_index_or (replicate {A = Option V} n None) i None ≡ None
all_none {V} i n = ⊎_elim (λ (h : i < n). get_or-replicate n i None None h) (λ (h : n ≤ i). get_or_past (replicate {A = Option V} n None) i None (omega (arith, length-replicate {A = Option V} n None))) (cases_lt i n)

module _ {V : Type 0} (eq : V → V → Bool) (decides : (a b : V) → Decides (eq a b) (a ≡ b)) where
  pub at_held : (v : V) (o : Option V) → at eq v o ≡ true → o ≡ Some v
  at_held v None e = absurd (false≢true e)
  at_held v (Some w) e = ap Some (sym ((decides v w).0 e))

  pub held_at : (v : V) (o : Option V) → o ≡ Some v → at eq v o ≡ true
  held_at v o e = ap (λ (x : Option V). at eq v x) e ∙ (decides v v).1 refl

  found_from : (v : V) (i : ℕ) (xs : List (Option V)) (l : ℕ) → find_from eq v i xs ≡ Some l → (n : ℕ) × (l ≡ i + n) × (slice_index_or xs n None ≡ Some v)
  found_from v i [] l e = absurd (none-some l e)
  found_from v i (x ∷ xs) l e = ⊎_elim
      (λ (t : at eq v x ≡ true). let q : Some i ≡ Some l = ap (λ (b : Bool). cond b (Some i) (find_from eq v (i + 1) xs)) (sym t) ∙ e in
      let z : i ≡ l = cc in (0, omega arith, at_held v x t))
      (λ (f : at eq v x ≡ false). let r = found_from v (i + 1) xs l (ap (λ (b : Bool). cond b (Some i) (find_from eq v (i + 1) xs)) (sym f) ∙ e) in
      (suc r.0, omega (arith, r.1), r.2))
      (cases_Bool (at eq v x))

  -- a label that is found is where v is held
  pub find_some : (xs : List (Option V)) (v : V) (l : ℕ) → find eq xs v ≡ Some l → slice_index_or xs l None ≡ Some v
  find_some xs v l e = let r = found_from v 0 xs l e in subst (λ (k : ℕ). slice_index_or xs k None ≡ Some v) (omega (arith, r.1)) r.2

  none_from : (v : V) (i : ℕ) (xs : List (Option V)) → find_from eq v i xs ≡ None → (n : ℕ) → slice_index_or xs n None ≢ Some v
  none_from v i [] e n h = none-some v h
  none_from v i (x ∷ xs) e zero h = none-some i (sym e ∙ ap (λ (b : Bool). cond b (Some i) (find_from eq v (i + 1) xs)) (held_at v x h))
  none_from v i (x ∷ xs) e (suc n) h = ⊎_elim
      (λ (t : at eq v x ≡ true). none-some i (sym e ∙ ap (λ (b : Bool). cond b (Some i) (find_from eq v (i + 1) xs)) t))
      (λ (f : at eq v x ≡ false). none_from v (i + 1) xs (ap (λ (b : Bool). cond b (Some i) (find_from eq v (i + 1) xs)) (sym f) ∙ e) n h)
      (cases_Bool (at eq v x))

  -- where none is found, no place holds v
  pub find_none : (xs : List (Option V)) (v : V) → find eq xs v ≡ None → (n : ℕ) → slice_index_or xs n None ≢ Some v
  find_none xs v e n h = none_from v 0 xs e n h

  -- and the other way round
  pub none_found : (xs : List (Option V)) (v : V) → ((n : ℕ) → slice_index_or xs n None ≢ Some v) → find eq xs v ≡ None
  none_found xs v h = ⊎_elim
      (λ (e : find eq xs v ≡ None). e)
      (λ (r : (l : ℕ) × (find eq xs v ≡ Some l)). absurd (h r.0 (find_some xs v r.0 r.1)))
      (split (find eq xs v))

  pub found_at : (xs : List (Option V)) (v : V) (l : ℕ) → Single xs → slice_index_or xs l None ≡ Some v → find eq xs v ≡ Some l
  found_at xs v l s h = ⊎_elim
      (λ (e : find eq xs v ≡ None). absurd (find_none xs v e l h))
      (λ (r : (j : ℕ) × (find eq xs v ≡ Some j)). r.1 ∙ ap Some (s r.0 l v (find_some xs v r.0 r.1) h))
      (split (find eq xs v))

  -- where another value is found after v was put at an empty place, or a place was emptied
  pub find_put : (xs : List (Option V)) (l : ℕ) (v w : V) → Single xs → l < length xs → slice_index_or xs l None ≡ None → (v ≢ w) → find eq (slice_set xs l (Some v)) w ≡ find eq xs w
  find_put xs l v w s b free other = ⊎_elim
      (λ (e : find eq xs w ≡ None). none_found (slice_set xs l (Some v)) w (λ n h. ⊎_elim
      (λ (p : (n ≡ l) × (v ≡ w)). other p.1)
      (λ (p : (n ≢ l) × (slice_index_or xs n None ≡ Some w)). find_none xs w e n p.1)
      (put_cases xs l n v w b h)) ∙ sym e)
      (λ (r : (j : ℕ) × (find eq xs w ≡ Some j)).
      let j = r.0 in
      let held = find_some xs w j r.1 in
      let n : j ≡ l → ⊥ = λ e. none-some w (sym free ∙ subst (λ (k : ℕ). slice_index_or xs k None ≡ Some w) e held) in
      let kept : get_or (slice_set xs l (Some v)) j None ≡ Some w = get_or-set_other xs l j (Some v) None n ∙ held in
      ⊎_elim
      (λ (e : find eq (slice_set xs l (Some v)) w ≡ None). absurd (find_none (slice_set xs l (Some v)) w e j kept))
      (λ (q : (i : ℕ) × (find eq (slice_set xs l (Some v)) w ≡ Some i)). ⊎_elim
      (λ (p : (q.0 ≡ l) × (v ≡ w)). absurd (other p.1))
      (λ (p : (q.0 ≢ l) × (slice_index_or xs q.0 None ≡ Some w)). q.1 ∙ ap Some (s q.0 j w p.1 held) ∙ sym r.1)
      (put_cases xs l q.0 v w b (find_some (slice_set xs l (Some v)) w q.0 q.1)))
      (split (find eq (slice_set xs l (Some v)) w)))
      (split (find eq xs w))

  pub find_clear : (xs : List (Option V)) (l : ℕ) (v w : V) → Single xs → slice_index_or xs l None ≡ Some v → (v ≢ w) → find eq (slice_set xs l None) w ≡ find eq xs w
  find_clear xs l v w s at-l other = ⊎_elim
      (λ (e : find eq xs w ≡ None). none_found (slice_set xs l None) w (λ n h. find_none xs w e n (still xs l n w h).0) ∙ sym e)
      (λ (r : (j : ℕ) × (find eq xs w ≡ Some j)).
      let j = r.0 in
      let held = find_some xs w j r.1 in
      let n : j ≡ l → ⊥ = λ e. other (let q : Some v ≡ Some w = sym at-l ∙ subst (λ (k : ℕ). slice_index_or xs k None ≡ Some w) e held in cc) in
      found_at (slice_set xs l None) w j (single_clear xs l s) (get_or-set_other xs l j None None n ∙ held) ∙ sym r.1)
      (split (find eq xs w))

  pub find_cleared : (xs : List (Option V)) (l : ℕ) (v : V) → Single xs → slice_index_or xs l None ≡ Some v → find eq (slice_set xs l None) v ≡ None
  find_cleared xs l v s h = none_found (slice_set xs l None) v (λ n k. let r = still xs l n v k in r.1 (s n l v r.0 h))
