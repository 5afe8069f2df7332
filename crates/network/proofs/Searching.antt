-- The turn of a search along the nodes.
use Rattle.std.proofs.Common.{◌≡◌, ℕ, zero, suc, ◌+◌, ◌<◌, List, [], ◌∷◌, map, length, get_or, take, set, sym, refl, ap, ◌∙◌, subst, ⊎_elim, add-one, arith}
use Rattle.std.proofs.lemmas.List.{get_or-set_same, get_or-set_other, length-map}
use Rattle.std.proofs.lemmas.Bool.{cases_eq}
use Rattle.labels.specs.Labels.{keys}
use Rattle.parts.specs.Meaning.{Meaning, meaning}
use Rattle.parts.specs.Marks.{hit}
use Rattle.parts.specs.Asked.{Questioned}
use Rattle.stores.specs.declared.pairs.Pair.{Pair}
use Rattle.labelling.specs.declared.board.Board.{Board}
use Rattle.labelling.specs.declared.found.Found.{Found}
use Rattle.labelling.specs.Boards.{Labels}
use Rattle.labelling.proofs.Listed.{marked_labels}
use Rattle.network.specs.Products.{Crossed, product, both_found, EachPair}
use Rattle.labelling.specs.Lists.{found_in}
use Rattle.network.specs.Searches.{reached, pairs, places_of, AskedAlong}

pub labels_at : (fs : List Found) (j : ℕ) (d : Found) → j < length fs → take (get_or fs j d).count (get_or fs j d).labels ≡ found_in fs j
labels_at [] j d l = absurd (omega arith)
labels_at (f ∷ fs) zero d l = refl
labels_at (f ∷ fs) (suc j) d l = labels_at fs j d (omega arith)

module _ {S : Type 0} (shows : S → Meaning Pair → Type 0) (agrees : S → List Pair → Type 0) (d : Board Pair S) (old : List (Board Pair S)) (found : ℕ → List ℕ) (ns : List ℕ) where
  abbrev R : ℕ → List ℕ
  R k = reached (places_of d old) found k

  -- what is said of a node that was asked
  abbrev Here : ℕ → Board Pair S → Type 0
  Here j y = (y.table ≡ (get_or old j d).table) × Questioned shows agrees (get_or old j d).part y.part (meaning (places_of d old j) (get_or ns j 0)) (product (R j) (found (j + 1))) × EachPair (R j) (found (j + 1)) (product (R j) (found (j + 1)))

  pub turn : (nodes : List (Board Pair S)) (k : ℕ) (o b : Board Pair S) (left right list : List ℕ) (a total : ℕ) → k < length nodes → length (places_of d old k) ≡ 96
      → o ≡ get_or old k d → left ≡ R k → right ≡ found (k + 1)
      → b.table ≡ o.table
      → Crossed shows agrees o.part b.part (meaning (keys o.table.slots) (get_or ns k 0)) left right list a
      → AskedAlong shows agrees d old nodes found ns k → total ≡ pairs (places_of d old) found k
      → AskedAlong shows agrees d old (set nodes k b) found ns (k + 1) × (list ≡ R (k + 1)) × (total + a ≡ pairs (places_of d old) found (k + 1)) × Labels (R (k + 1))
  turn nodes k o b left right list a total ln size same l r kept x asked e =
      let up = add-one k in
      let places = places_of d old in
      let x' : Crossed shows agrees (get_or old k d).part b.part (meaning (places k) (get_or ns k 0)) (R k) (found (k + 1)) list a =
      subst (λ (rs : List ℕ). Crossed shows agrees (get_or old k d).part b.part (meaning (places k) (get_or ns k 0)) (R k) rs list a) r
      (subst (λ (ls : List ℕ). Crossed shows agrees (get_or old k d).part b.part (meaning (places k) (get_or ns k 0)) ls right list a) l
      (subst (λ (y : Board Pair S). Crossed shows agrees y.part b.part (meaning (keys y.table.slots) (get_or ns k 0)) left right list a) same x)) in (
        λ j lj. ⊎_elim
            (λ (q : j ≡ k). subst (λ (i : ℕ). Here i (get_or (set nodes k b) i d)) (sym q)
            (subst (λ (y : Board Pair S). Here k y) (sym (get_or-set_same nodes k b d ln))
            (kept ∙ ap (λ (y : Board Pair S). y.table) same, x'.questioned, x'.each_pair)))
            (λ (ne : j ≡ k → ⊥). subst (λ (y : Board Pair S). Here j y) (sym (get_or-set_other nodes k j b d ne)) (asked j (omega arith)))
            (cases_eq j k),
        x'.labels_found ∙ ap R (sym up),
        ap (λ (t : ℕ). t + a) e ∙ ap (λ (m : ℕ). pairs places found k + m) x'.pairs_asked ∙ ap (pairs places found) (sym up),
        subst (λ (i : ℕ). Labels (R i)) (sym up) (marked_labels (map (hit (both_found (R k) (found (k + 1)))) (places k)) (omega (arith, length-map (places k) (hit (both_found (R k) (found (k + 1))))))),
      )
