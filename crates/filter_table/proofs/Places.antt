-- Places in a list: counting what stands before the first element that passes.
use Rattle.std.proofs.Common.{◌≡◌, ℕ, zero, suc, ◌+◌, ◌≤◌, Bool, true, cond, ltb, List, [], ◌∷◌, length, Some, None, ◌&&◌, sym, refl, ap, ◌∙◌, arith}
use Rattle.std.specs.Option.{option_map, unwrap_or}
use Rattle.std.specs.List.{insert, remove, find, position_or_len}
use Rattle.std.proofs.lemmas.List.Recursion.{is_position_or_len}
use Rattle.std.proofs.lemmas.Bool.Decides.{nat_tests}
use Rattle.filters.specs.declared.rows.FilterRow.{FilterRow}
use Rattle.filters.specs.Counting.{some, every, before}
use Rattle.filters.specs.Filters.{same_values}
use Rattle.filters.specs.Scans.{first}
use Rattle.fields.specs.declared.faults.Fault.TheVariants.{Twin}
use Rattle.filters.specs.Standing.{twin, put, without, rank_place, place_of}

module _ {X : Type 0} (p : X → Bool) where
  -- the library's words for it
  pub before_is : (xs : List X) → before p xs ≡ position_or_len p xs
  before_is xs = is_position_or_len (before p) p refl (λ x ys. let e : suc (before p ys) ≡ 1 + before p ys = omega arith in ap (λ (k : ℕ). cond (p x) 0 k) e) xs

  pub before_le : (xs : List X) → before p xs ≤ length xs
  before_le [] = omega arith
  before_le (x ∷ xs) = grind (arith, before_le xs)

  pub some_before : (xs : List X) → some p xs ≡ ltb (before p xs) (length xs)
  some_before [] = refl
  some_before (x ∷ xs) = grind (arith, nat_tests, some_before xs)

  -- what `position` answers
  pub place_is : (xs : List X) → cond (ltb (position_or_len p xs) (length xs)) (Some (position_or_len p xs)) None ≡ cond (some p xs) (Some (before p xs)) None
  place_is xs =
      ap (λ (k : ℕ). cond (ltb k (length xs)) (Some k) None) (sym (before_is xs))
      ∙ ap (λ (b : Bool). cond b (Some (before p xs)) None) (sym (some_before xs))

  pub place_or_length : (xs : List X) → unwrap_or (cond (some p xs) (Some (before p xs)) None) (length xs) ≡ before p xs
  place_or_length xs = grind (arith, nat_tests, before_le xs, some_before xs)

  -- what `find` answers, among elements that all pass another test
  pub first_is : (q : X → Bool) (xs : List X) → every q xs ≡ true → find (λ x. q x && p x) xs ≡ first p xs
  first_is q [] h = refl
  first_is q (x ∷ xs) h = grind (arith, first_is q xs)

  pub every_put : (xs : List X) (i : ℕ) (x : X) → every p xs ≡ true → p x ≡ true → every p (insert xs i x) ≡ true
  every_put xs zero x h e = grind arith
  every_put [] (suc i) x h e = grind arith
  every_put (y ∷ ys) (suc i) x h e = grind (arith, every_put ys i x)

  pub every_removed : (xs : List X) (i : ℕ) → every p xs ≡ true → every p (remove xs i) ≡ true
  every_removed [] zero h = refl
  every_removed [] (suc i) h = refl
  every_removed (y ∷ ys) zero h = grind arith
  every_removed (y ∷ ys) (suc i) h = grind (arith, every_removed ys i)

-- where a filter goes in, and where one is taken out
pub put_is : (f : FilterRow) (fs : List FilterRow) → insert fs (rank_place f fs) f ≡ put f fs
put_is f [] = refl
put_is f (g ∷ gs) = grind (arith, put_is f gs)

pub without_is : (id : ℕ) (fs : List FilterRow) → remove fs (place_of id fs) ≡ without id fs
without_is id [] = refl
without_is id (g ∷ gs) = grind (arith, without_is id gs)

-- the refusal by the first filter of the same values
pub twin_is : (fs : List FilterRow) (f : FilterRow) → option_map (λ (g : FilterRow). Twin g.identifier) (find (λ g. same_values g f) fs) ≡ twin fs f
twin_is [] f = refl
twin_is (g ∷ gs) f = grind (arith, twin_is gs f)
