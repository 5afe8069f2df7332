-- What a scan of filters in rank order gives.
use Rattle.std.proofs.Common.{◌≡◌, ℕ, zero, suc, min, Bool, true, false, cond, ◌⊎◌, List, [], ◌∷◌, length, take, drop, Some, None, filter, refl, ap, ◌∙◌, subst, inl, inr, ⊎_elim, arith, length-take}
use Rattle.std.proofs.ByRecursion.{all_kept_by, All-take}
use Rattle.std.proofs.lemmas.Bool.{both_ways}
use Rattle.filters.specs.declared.rows.FilterRow.{FilterRow}
use Rattle.filters.specs.declared.rows.Header.{Header}
use Rattle.filters.specs.declared.calls.Call.{Call}
use Rattle.filters.specs.Standing.{standing}
use Rattle.filter_laws.proofs.Ordering.{ordered_standing}
use Rattle.filters.specs.Counting.{Among, how_many}
use Rattle.filters.specs.Filters.{ranks_ahead}
use Rattle.filters.specs.Scans.{first, wins, joins, scan}
use Rattle.filter_laws.specs.Relations.{Scans}
use Rattle.filter_laws.proofs.Ranks.{Ranked, ahead_irreflexive, ahead_asymmetric}
use Rattle.filter_laws.proofs.Edits.{all_among}

module _ (p : FilterRow → Bool) where
  -- the first that passes
  first_is : (fs : List FilterRow) → Ranked fs → (f : FilterRow) → first p fs ≡ Some f → Among f fs × (p f ≡ true) × ((g : FilterRow) → Among g fs → p g ≡ true → ranks_ahead g f ≡ false)
  first_is [] ranked f h = absurd (let z : ◌≡◌ {A = ℕ} 0 1 = cc in omega arith)
  first_is (x ∷ xs) ranked f h = by_test (p x) refl h (first_is xs ranked.1 f)
    where
      by_test : (b : Bool) → p x ≡ b → cond b (Some x) (first p xs) ≡ Some f → (first p xs ≡ Some f → Among f xs × (p f ≡ true) × ((g : FilterRow) → Among g xs → p g ≡ true → ranks_ahead g f ≡ false)) → Among f (x ∷ xs) × (p f ≡ true) × ((g : FilterRow) → Among g (x ∷ xs) → p g ≡ true → ranks_ahead g f ≡ false)
      by_test true e h' rest =
          let same : x ≡ f = cc in (
            inl same,
            subst (λ (y : FilterRow). p y ≡ true) same e,
            λ g m pg. subst (λ (y : FilterRow). ranks_ahead g y ≡ false) same
                (⊎_elim (λ k. subst (λ (y : FilterRow). ranks_ahead y x ≡ false) k (ahead_irreflexive x))
                (λ k. ahead_asymmetric x g (all_among (λ y. ranks_ahead x y ≡ true) g xs ranked.0 k)) m),
          )
      by_test false e h' rest =
          let r = rest h' in (
            inr r.0,
            r.1,
            λ g m pg. ⊎_elim (λ k. absurd (both_ways (p g) (subst (λ (y : FilterRow). p y ≡ false) k e) pg)) (λ k. r.2 g k pg) m,
          )

  none_passes : (fs : List FilterRow) → first p fs ≡ None → (g : FilterRow) → Among g fs → p g ≡ false
  none_passes [] h g z = absurd z
  none_passes (x ∷ xs) h g m = grind (arith, none_passes xs)

  passes_none : (fs : List FilterRow) → ((g : FilterRow) → Among g fs → p g ≡ false) → first p fs ≡ None
  passes_none [] h = refl
  passes_none (x ∷ xs) h = ap (λ (b : Bool). cond b (Some x) (first p xs)) (h x (inl refl)) ∙ passes_none xs (λ g m. h g (inr m))

  -- those that pass
  kept_ranked : (fs : List FilterRow) → Ranked fs → Ranked (filter p fs)
  kept_ranked [] h = tt
  kept_ranked (x ∷ xs) h = grind (arith, all_kept_by p (λ y. ranks_ahead x y ≡ true) xs h.0, kept_ranked xs h.1)

  kept_member : (f : FilterRow) (fs : List FilterRow) → Among f (filter p fs) → Among f fs × (p f ≡ true)
  kept_member f [] z = absurd z
  kept_member f (x ∷ xs) m = grind (arith, kept_member f xs)

  kept_has : (f : FilterRow) (fs : List FilterRow) → Among f fs → p f ≡ true → Among f (filter p fs)
  kept_has f [] z pf = absurd z
  kept_has f (x ∷ xs) m pf = grind (arith, kept_has f xs)

  kept_many : (fs : List FilterRow) → length (filter p fs) ≡ how_many p fs
  kept_many [] = refl
  kept_many (x ∷ xs) = grind (arith, kept_many xs)

-- the front of a list, and what is left of it
take_ranked : (n : ℕ) (fs : List FilterRow) → Ranked fs → Ranked (take n fs)
take_ranked zero fs h = tt
take_ranked (suc n) [] h = tt
take_ranked (suc n) (x ∷ xs) h = (All-take (λ y. ranks_ahead x y ≡ true) n xs h.0, take_ranked n xs h.1)

take_member : (f : FilterRow) (n : ℕ) (fs : List FilterRow) → Among f (take n fs) → Among f fs
take_member f zero fs z = absurd z
take_member f (suc n) [] z = absurd z
take_member f (suc n) (x ∷ xs) m = grind (arith, take_member f n xs)

drop_member : (f : FilterRow) (n : ℕ) (fs : List FilterRow) → Among f (drop n fs) → Among f fs
drop_member f zero fs m = m
drop_member f (suc n) [] z = absurd z
drop_member f (suc n) (x ∷ xs) m = inr (drop_member f n xs m)

either_part : (f : FilterRow) (n : ℕ) (fs : List FilterRow) → Among f fs → Among f (take n fs) ⊎ Among f (drop n fs)
either_part f zero fs m = inr m
either_part f (suc n) [] z = absurd z
either_part f (suc n) (x ∷ xs) m = grind (arith, either_part f n xs)

parts_ranked : (f g : FilterRow) (n : ℕ) (fs : List FilterRow) → Ranked fs → Among f (take n fs) → Among g (drop n fs) → ranks_ahead f g ≡ true
parts_ranked f g zero fs h z k = absurd z
parts_ranked f g (suc n) [] h z k = absurd z
parts_ranked f g (suc n) (x ∷ xs) h (inl e) k = subst (λ (y : FilterRow). ranks_ahead y g ≡ true) e (all_among (λ y. ranks_ahead x y ≡ true) g xs h.0 (drop_member g n xs k))
parts_ranked f g (suc n) (x ∷ xs) h (inr m) k = parts_ranked f g n xs h.1 m k

pub scans : (fs : List FilterRow) (h : Header) (r : ℕ) → Ranked fs → Scans fs h r (scan fs h r)
scans fs h r ranked =
    let kept = filter (joins h) fs in
    record {
      top = first_is (wins h) fs ranked;
      nobody = none_passes (wins h) fs;
      somebody = passes_none (wins h) fs;
      in_order = take_ranked r kept (kept_ranked (joins h) fs ranked);
      members = λ f m. kept_member (joins h) f fs (take_member f r kept m);
      many = length-take r kept ∙ ap (min r) (kept_many (joins h) fs);
      ahead = λ f g m k pg out. ⊎_elim (λ i. absurd (out i))
          (λ i. ahead_asymmetric f g (parts_ranked f g r kept (kept_ranked (joins h) fs ranked) m i))
          (either_part g r kept (kept_has (joins h) g fs k pg));
    }

-- the same of what stands after a list of calls
pub scans_standing : (calls : List Call) (h : Header) (r : ℕ) → Scans (standing calls) h r (scan (standing calls) h r)
scans_standing calls h r = scans (standing calls) h r (ordered_standing calls).ranked
