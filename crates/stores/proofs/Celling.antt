-- Cells lead to the pairs that places hold.
use Rattle.std.specs.Prelude.{◌≡◌, ℕ, ◌<◌, true, false, List, length, replicate, Some, None, Option, ◌≢◌, slice_index_or, slice_set}
use Rattle.std.proofs.lemmas.Option.{none-some}
use Rattle.std.proofs.Common.{sym, subst, ◌∙◌, ⊎_elim, arith, length-set}
use Rattle.std.proofs.lemmas.List.{get_or-set_same, get_or-set_other, length-replicate}
use Rattle.std.proofs.lemmas.Bool.{cases_Bool}
use Rattle.std.proofs.lemmas.Bool.Decides.{not_from_Decides}
use Rattle.parts.specs.Meaning.{find}
use Rattle.stores.specs.declared.pairs.Pair.{Pair}
use Rattle.stores.specs.Pairs.{same_pair, Within, code}
use Rattle.stores.specs.Alike.{pair_decides}
use Rattle.stores.specs.Places.{Placed, Free}
use Rattle.stores.specs.Cells.{Celled}
use Rattle.parts.proofs.Finding.{full_within, still, put_cases, find_some, none_found, found_at, find_put, find_clear, find_cleared, all_none}
use Rattle.stores.proofs.Storing.{put_placed}

-- pairs that differ have cells that differ
code_apart : (p q : Pair) → Within p → Within q → (p ≢ q) → code q ≢ code p
code_apart p q w u n e =
    let a : p.left ≡ q.left = omega arith in
    let b : p.right ≡ q.right = omega arith in
    n (λ i. record { left = a i; right = b i })

pub nothing_celled : Celled (replicate 9216 None) (replicate 96 None)
nothing_celled = record {
  within = λ i p e. absurd (none-some p (sym (all_none i 96) ∙ e));
  cells_size = length-replicate {A = Option ℕ} 9216 None;
  cell = λ p w. all_none (code p) 9216 ∙ sym (none_found same_pair pair_decides (replicate 96 None) p (λ n e. none-some p (sym (all_none n 96) ∙ e)));
}

module _ (cells : List (Option ℕ)) (pairs : List (Option Pair)) (s : Placed pairs) (h : Celled cells pairs) where
  -- no cell holds a label past the last place
  pub celled_below : (v : Pair) (l : ℕ) → Within v → slice_index_or cells (code v) None ≡ Some l → l < 96
  celled_below v l w e = omega (arith, full_within pairs l v (find_some same_pair pair_decides pairs v l (sym (h.cell v w) ∙ e)), s.size)

  pub celled_set : (place : ℕ) (v : Pair) → Free pairs place v → Celled (slice_set cells (code v) (Some place)) (slice_set pairs place (Some v))
  celled_set place v f =
      let inside : place < length pairs = omega (arith, s.size, f.inside) in
      record {
        within = λ i p e. ⊎_elim
            (λ (c : (i ≡ place) × (v ≡ p)). subst (λ (q : Pair). Within q) c.1 f.within)
            (λ (c : (i ≢ place) × (slice_index_or pairs i None ≡ Some p)). h.within i p c.1)
            (put_cases pairs place i v p inside e);
        cells_size = length-set cells (code v) (Some place) ∙ h.cells_size;
        cell = λ p u. ⊎_elim
            (λ (t : same_pair v p ≡ true).
            let e = (pair_decides v p).0 t in
            subst (λ (q : Pair). slice_index_or (slice_set cells (code v) (Some place)) (code q) None ≡ find same_pair (slice_set pairs place (Some v)) q) e
            (get_or-set_same cells (code v) (Some place) None (omega (arith, h.cells_size, f.within))
            ∙ sym (found_at same_pair pair_decides (slice_set pairs place (Some v)) v place (put_placed pairs place v s f).single (get_or-set_same pairs place (Some v) None inside))))
            (λ (d : same_pair v p ≡ false).
            let n = not_from_Decides (same_pair v p) (pair_decides v p) d in
            get_or-set_other cells (code v) (code p) (Some place) None (code_apart v p f.within u n) ∙ h.cell p u ∙ sym (find_put same_pair pair_decides pairs place v p s.single inside f.empty n))
            (cases_Bool (same_pair v p));
      }

  pub celled_clear : (place : ℕ) (v : Pair) → slice_index_or pairs place None ≡ Some v → Celled (slice_set cells (code v) None) (slice_set pairs place None)
  celled_clear place v full =
      let w = h.within place v full in
      record {
        within = λ i p e. h.within i p (still pairs place i p e).0;
        cells_size = length-set cells (code v) None ∙ h.cells_size;
        cell = λ p u. ⊎_elim
            (λ (t : same_pair v p ≡ true).
            let e = (pair_decides v p).0 t in
            subst (λ (q : Pair). slice_index_or (slice_set cells (code v) None) (code q) None ≡ find same_pair (slice_set pairs place None) q) e
            (get_or-set_same cells (code v) None None (omega (arith, h.cells_size)) ∙ sym (find_cleared same_pair pair_decides pairs place v s.single full)))
            (λ (d : same_pair v p ≡ false).
            let n = not_from_Decides (same_pair v p) (pair_decides v p) d in
            get_or-set_other cells (code v) (code p) None None (code_apart v p w u n) ∙ h.cell p u ∙ sym (find_clear same_pair pair_decides pairs place v p s.single full n))
            (cases_Bool (same_pair v p));
      }
