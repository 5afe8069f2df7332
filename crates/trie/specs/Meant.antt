-- The values at the places.
use Rattle.std.specs.Prelude.{◌≡◌, ℕ, zero, suc, ◌+◌, ◌<◌, Bool, true, false, List, [], ◌∷◌, ◌++◌, length, Some, None, Decides, Option, ◌≢◌, slice_index_or, nat_eq, refl}
use Rattle.std.proofs.Common.{sym, ap, subst, ◌∙◌, ⊎_elim, arith}
use Rattle.std.proofs.Math.Logic.{∥∥₁_elim}
use Rattle.std.proofs.Math.Nat.{ℕ_set}
use Rattle.std.proofs.lemmas.Bool.{cases_Bool, cond-true, cond-false}
use Rattle.std.specs.Set.{distinct_count}
use Rattle.std.proofs.lemmas.Map.Made.{distinct_count-le}
use Rattle.fields.specs.declared.prefixes.Prefix.{Prefix}
use Rattle.parts.specs.Meaning.{at, find_from}
use Rattle.trie.specs.declared.nodes.Tables.{Tables}
use Rattle.trie.specs.Strings.{code, codes, beginnings, all_beginnings, string_count}
use Rattle.trie.specs.Trees.{Good}
use Rattle.trie.specs.Bitstrings.{string_pos}
use Rattle.trie.specs.Uses.{one_place}

-- nothing held, no strings
all_none : (places : List (Option Prefix)) → ((l : ℕ) → slice_index_or places l None ≡ None) → all_beginnings places ≡ []
all_none [] h = refl
all_none (o ∷ os) h = ap (λ (x : Option Prefix). beginnings x ++ all_beginnings os) (h 0) ∙ all_none os (λ l. h (suc l))

pub none_counted : (places : List (Option Prefix)) → ((l : ℕ) → slice_index_or places l None ≡ None) → string_count places ≡ 0
none_counted places h = omega (arith, ap (distinct_count nat_eq) (all_none places h), distinct_count-le nat_eq [])

-- where a value is found
module _ {V : Type 0} (eq : V → V → Bool) (decides : (a b : V) → Decides (eq a b) (a ≡ b)) (v : V) where
  at_true : (o : Option V) → at eq v o ≡ true → o ≡ Some v
  at_true None e = absurd (let z : ◌≡◌ {A = ℕ} 0 1 = cc in omega arith)
  at_true (Some w) e = ap Some (sym ((decides v w).0 e))

  at_own : (o : Option V) → o ≡ Some v → at eq v o ≡ true
  at_own o e = ap (at eq v) e ∙ (decides v v).1 refl

  at_other : (o : Option V) → (o ≢ Some v) → at eq v o ≡ false
  at_other o ne = ⊎_elim (λ (e : at eq v o ≡ true). absurd (ne (at_true o e))) (λ (e : at eq v o ≡ false). e) (cases_Bool (at eq v o))

  pub find_none : (xs : List (Option V)) (i : ℕ) → ((l : ℕ) → slice_index_or xs l None ≢ Some v) → find_from eq v i xs ≡ None
  find_none [] i h = refl
  find_none (x ∷ xs) i h = cond-false (at eq v x) (Some i) (find_from eq v (i + 1) xs) (at_other x (h 0)) ∙ find_none xs (i + 1) (λ l. h (suc l))

  pub find_some : (xs : List (Option V)) (i l : ℕ) → ((k : ℕ) → slice_index_or xs k None ≡ Some v → k ≡ l) → slice_index_or xs l None ≡ Some v → find_from eq v i xs ≡ Some (i + l)
  find_some [] i l one h = absurd (let z : ◌≡◌ {A = ℕ} 0 1 = cc in omega arith)
  find_some (x ∷ xs) i zero one h =
      let e : i ≡ i + 0 = omega arith in
      cond-true (at eq v x) (Some i) (find_from eq v (i + 1) xs) (at_own x h) ∙ ap Some e
  find_some (x ∷ xs) i (suc l) one h =
      let e : i + 1 + l ≡ i + suc l = omega arith in
      cond-false (at eq v x) (Some i) (find_from eq v (i + 1) xs) (at_other x (λ q. let z : 0 ≡ suc l = one 0 q in omega arith))
      ∙ find_some xs (i + 1) l (λ k q. let z : suc k ≡ suc l = one (suc k) q in omega arith) h
      ∙ ap Some e

pub size_from : (t : Tables) (places : List (Option Prefix)) → ∥ Good t ∥₁ → t.places ≡ places → length places ≡ 96
size_from t places g held = ∥∥₁_elim g (ℕ_set _ _) (λ q. ap length (sym held) ∙ q.frame.size)

pub single_from : (t : Tables) (places : List (Option Prefix)) → ∥ Good t ∥₁ → t.places ≡ places → (i j : ℕ) (v : Prefix) → slice_index_or places i None ≡ Some v → slice_index_or places j None ≡ Some v → i ≡ j
single_from t places g held i j v p q = ∥∥₁_elim g (ℕ_set _ _) (λ w.
    let at_label : (l : ℕ) → slice_index_or places l None ≡ Some v → codes t.places l ≡ code (Some v) = λ l e. ap (λ (xs : List (Option Prefix)). codes xs l) held ∙ ap code e in
    let a = at_label i p in
    let b = at_label j q in
    one_place t w i j (subst (λ (x : ℕ). 0 < x) (sym a) (string_pos v.row.address v.row.length)) (a ∙ sym b))
