-- A walk along a chain, told by the item at each step.
use Rattle.std.proofs.Common.{◌≡◌, ℕ, zero, suc, ◌+◌, ◌-◌, ◌<◌, ◌≤◌, Bool, true, false, cond, ◌⊎◌, List, [], ◌∷◌, length, Some, None, Option, IfSome, slice_index_or, sym, refl, ap, ◌∙◌, subst, inl, inr, ⊎_elim, arith}
use Rattle.std.proofs.lemmas.Option.{none-some}
use Rattle.std.specs.Option.{IsSomeAnd, option_map}
use Rattle.std.specs.List.{find}
use Rattle.stores.specs.Chains.{Linked}

-- the first item is where the chain begins, and each item's place leads to the next item
pub record Walk (ns : List (Option ℕ)) (o : Option ℕ) (at : ℕ → Option ℕ) : Type 0 where
  pub first : IfSome (at 0) (λ x. o ≡ Some x)
  pub next : (k : ℕ) → 0 < k → IfSome (at k) (λ y. IsSomeAnd (at (k - 1)) (λ x. slice_index_or ns x None ≡ Some y))

-- what is known of an item, where there is one
pub if_some : {A : Type 0} (P Q : A → Type 0) (o : Option A) → ((x : A) → P x → Q x) → IfSome o P → IfSome o Q
if_some P Q None f h = h
if_some P Q (Some x) f h = f x h

pub an_item : {A : Type 0} (P : A → Type 0) (o : Option A) → IsSomeAnd o P → (x : A) × (o ≡ Some x) × P x
an_item P None h = absurd h
an_item P (Some x) h = (x, refl, h)

pub with_item : {A : Type 0} (P Q : A → Type 0) (o : Option A) → ((x : A) → P x → Q x) → IsSomeAnd o P → IsSomeAnd o Q
with_item P Q None f h = h
with_item P Q (Some x) f h = f x h

pub there : {A : Type 0} (P : A → Type 0) (o : Option A) (y : A) → option_map (λ x. x) o ≡ Some y → IfSome o P → IsSomeAnd o P
there P None y e h = absurd (none-some y e)
there P (Some x) y e h = h

module _ (ns : List (Option ℕ)) (t : ℕ → Bool) where
  starts : (o : Option ℕ) (at : ℕ → Option ℕ) (x : ℕ) → Walk ns o at → at 0 ≡ Some x → o ≡ Some x
  starts o at x w e = subst (λ (p : Option ℕ). IfSome p (λ y. o ≡ Some y)) e w.first

  -- the walk from the second item on
  later : (o : Option ℕ) (at : ℕ → Option ℕ) (x : ℕ) → Walk ns o at → at 0 ≡ Some x → Walk ns (slice_index_or ns x None) (λ k. at (suc k))
  later o at x w e = record {
    first = subst (λ (p : Option ℕ). IfSome (at 1) (λ y. IsSomeAnd p (λ z. slice_index_or ns z None ≡ Some y))) e (w.next 1 (omega arith));
    next = λ k h.
        let i : suc k - 1 ≡ suc (k - 1) = omega arith in
        subst (λ (j : ℕ). IfSome (at (suc k)) (λ y. IsSomeAnd (at j) (λ x. slice_index_or ns x None ≡ Some y))) i (w.next (suc k) (omega arith));
  }

  -- a walk that stops at the first place that passes
  pub found_at : (o : Option ℕ) (ps : List ℕ) (at : ℕ → Option ℕ) (i x : ℕ) → Linked ns o ps → Walk ns o at → at i ≡ Some x → t x ≡ true → ((k : ℕ) → k < i → IsSomeAnd (at k) (λ y. t y ≡ false)) → find t ps ≡ Some x
  found_at o [] at zero x l w e y b = absurd (none-some x (sym l ∙ starts o at x w e))
  found_at o [] at (suc i) x l w e y b =
      let z = an_item (λ y. t y ≡ false) (at 0) (b 0 (omega arith)) in
      absurd (none-some z.0 (sym l ∙ starts o at z.0 w z.1))
  found_at o (p ∷ ps) at zero x l w e y b =
      let s : Some p ≡ Some x = sym l.0 ∙ starts o at x w e in
      let q : p ≡ x = cc in
      ap (λ (c : Bool). cond c (Some p) (find t ps)) (ap t q ∙ y) ∙ ap Some q
  found_at o (p ∷ ps) at (suc i) x l w e y b =
      let z = an_item (λ y. t y ≡ false) (at 0) (b 0 (omega arith)) in
      let s : Some p ≡ Some z.0 = sym l.0 ∙ starts o at z.0 w z.1 in
      let q : p ≡ z.0 = cc in
      ap (λ (c : Bool). cond c (Some p) (find t ps)) (ap t q ∙ z.2)
      ∙ found_at (slice_index_or ns p None) ps (λ k. at (suc k)) i x l.1 (later o at p w (z.1 ∙ ap Some (sym q))) e y (λ k h. b (suc k) (omega arith))

  -- a walk that goes to the chain's end, or past as many places as it has
  pub none_at : (o : Option ℕ) (ps : List ℕ) (at : ℕ → Option ℕ) (n : ℕ) → Linked ns o ps → Walk ns o at → ((k : ℕ) → k < n → IsSomeAnd (at k) (λ y. t y ≡ false))
      → (length ps ≤ n) ⊎ ((n ≡ 0 → o ≡ None) × ((k : ℕ) → n ≡ k + 1 → IsSomeAnd (at k) (λ x. slice_index_or ns x None ≡ None))) → find t ps ≡ None
  none_at o [] at n l w b ends = refl
  none_at o (p ∷ ps) at zero l w b ends = ⊎_elim
      (λ (few : length (p ∷ ps) ≤ 0). absurd (omega arith))
      (λ (e : (0 ≡ 0 → o ≡ None) × ((k : ℕ) → 0 ≡ k + 1 → IsSomeAnd (at k) (λ x. slice_index_or ns x None ≡ None))). absurd (none-some p (sym (e.0 refl) ∙ l.0)))
      ends
  none_at o (p ∷ ps) at (suc n) l w b ends =
      let z = an_item (λ y. t y ≡ false) (at 0) (b 0 (omega arith)) in
      let s : Some p ≡ Some z.0 = sym l.0 ∙ starts o at z.0 w z.1 in
      let q : p ≡ z.0 = cc in
      ap (λ (c : Bool). cond c (Some p) (find t ps)) (ap t q ∙ z.2)
      ∙ none_at (slice_index_or ns p None) ps (λ k. at (suc k)) n l.1 (later o at p w (z.1 ∙ ap Some (sym q))) (λ k h. b (suc k) (omega arith))
      (⊎_elim
      (λ (few : length (p ∷ ps) ≤ suc n). inl (omega arith))
      (λ (e : (suc n ≡ 0 → o ≡ None) × ((k : ℕ) → suc n ≡ k + 1 → IsSomeAnd (at k) (λ x. slice_index_or ns x None ≡ None))).
      inr (
        (λ (u : n ≡ 0).
            let y = an_item (λ x. slice_index_or ns x None ≡ None) (at 0) (e.1 0 (omega arith)) in
            let v : Some p ≡ Some y.0 = sym l.0 ∙ starts o at y.0 w y.1 in
            let r : p ≡ y.0 = cc in
            ap (λ (m : ℕ). slice_index_or ns m None) r ∙ y.2),
        λ k u. e.1 (suc k) (omega arith),
      ))
      ends)
