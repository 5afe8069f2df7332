-- A label is written or wiped out.
use Rattle.std.specs.Prelude.{◌≡◌, ℕ, ◌<◌, true, false, List, length, Some, None, Option, ◌==◌, ◌≢◌, nat_eq, slice_set, refl}
use Rattle.std.proofs.Common.{sym, ap, subst, ◌∙◌, ⊎_elim, arith, length-set}
use Rattle.std.proofs.lemmas.List.{get_or-set_same, get_or-set_other}
use Rattle.std.proofs.lemmas.Nat.{shr_le}
use Rattle.std.proofs.lemmas.Bool.{cases_eq, eq-eqb, ne_eqb, eqb-true}
use Rattle.trie.specs.declared.nodes.Node.{Node}
use Rattle.trie.specs.Trees.{no_node, at, child, Whole, Shape, Named, is, labelled}

-- a node has one label
pub one_label : (o : Option ℕ) (l m : ℕ) → is o l ≡ true → is o m ≡ true → l ≡ m
one_label None l m p q = let z : ◌≡◌ {A = ℕ} 0 1 = cc in absurd (omega arith)
one_label (Some x) l m p q = sym (eqb-true x l p) ∙ eqb-true x m q

-- a write of a label leaves the tree
module _ (key : ℕ → ℕ) (nodes : List Node) (i : ℕ) (o : Option ℕ) (s : Shape key nodes) (li : 0 < key i) where
  abbrev after : List Node
  after = slice_set nodes i (labelled (at nodes i) o)

  in_list : i < length nodes
  in_list = omega (arith, s.size, s.bound i li)

  at_i : at after i ≡ labelled (at nodes i) o
  at_i = get_or-set_same nodes i (labelled (at nodes i) o) no_node in_list

  stays : {X : Type 0} (f : Node → X) → f (labelled (at nodes i) o) ≡ f (at nodes i) → (j : ℕ) → f (at after j) ≡ f (at nodes j)
  stays f e j = ⊎_elim
      (λ (w : j ≡ i). subst (λ (k : ℕ). f (at after k) ≡ f (at nodes k)) (sym w) (ap f at_i ∙ e))
      (λ (ne : j ≡ i → ⊥). ap f (get_or-set_other nodes i j (labelled (at nodes i) o) no_node ne))
      (cases_eq j i)

  kid_stays : (d j : ℕ) → child (at after j) d ≡ child (at nodes j) d
  kid_stays d = stays (λ n. child n d) refl

  stays_whole : (x : ℕ) → Whole key nodes x → Whole key after x
  stays_whole x w a d m la ld z e = w a d m la ld (sym (kid_stays d a) ∙ z) e

  pub relabelled : Shape key after
  relabelled = record {
    size = length-set nodes i (labelled (at nodes i) o) ∙ s.size;
    both = λ j lj. stays (λ n. length n.children) refl j ∙ s.both j lj;
    bound = s.bound;
    root = s.root;
    next = λ j d c ld lj p. s.next j d c ld lj (sym (kid_stays d j) ∙ p);
    single = s.single;
    whole = λ j lj. stays_whole (key j) (s.whole j lj);
  }

  -- the label of the place p goes to the node i, or is wiped out
  module _ (c c' : ℕ → ℕ) (p : ℕ) (n : Named key nodes c) (rest : (l : ℕ) → (l ≢ p) → c' l ≡ c l) where
    off_label : (j l : ℕ) → 0 < key j → (j ≢ i) → is (at after j).label l ≡ (c l == key j)
    off_label j l lj nw = ap (λ (m : Node). is m.label l) (get_or-set_other nodes i j (labelled (at nodes i) o) no_node nw) ∙ n.names j l lj

    pub set_names : o ≡ Some p → c p ≡ 0 → c' p ≡ key i → ((l : ℕ) → c l ≢ key i) → Named key after c'
    set_names is-p gone now alone = record {
      reached = λ l. ⊎_elim
          (λ (e : l ≡ p). subst (Whole key after) (sym (ap c' e ∙ now)) (stays_whole (key i) (s.whole i li)))
          (λ (ne : l ≡ p → ⊥). subst (Whole key after) (sym (rest l ne)) (stays_whole (c l) (n.reached l)))
          (cases_eq l p);
      names = λ j l lj. ⊎_elim
          (λ (w : j ≡ i).
          let lab : is (at after j).label l ≡ nat_eq p l = ap (λ (k : ℕ). is (at after k).label l) w ∙ ap (λ (m : Node). is m.label l) at_i ∙ ap (λ (x : Option ℕ). is x l) is-p in
          let k : key j ≡ key i = ap key w in
          ⊎_elim
          (λ (e : l ≡ p). lab ∙ eq-eqb p l (sym e) ∙ sym (eq-eqb (c' l) (key j) (ap c' e ∙ now ∙ sym k)))
          (λ (ne : l ≡ p → ⊥). lab ∙ ne_eqb p l (λ e. ne (sym e)) ∙ sym (ne_eqb (c' l) (key j) (λ e. alone l (sym (rest l ne) ∙ e ∙ k))))
          (cases_eq l p))
          (λ (nw : j ≡ i → ⊥).
          ⊎_elim
          (λ (e : l ≡ p). off_label j l lj nw
          ∙ ne_eqb (c l) (key j) (λ q. let z : c l ≡ 0 = ap c e ∙ gone in omega (arith, lj))
          ∙ sym (ne_eqb (c' l) (key j) (λ q. nw (s.single j i lj li (sym q ∙ ap c' e ∙ now)))))
          (λ (ne : l ≡ p → ⊥). off_label j l lj nw ∙ ap (λ (x : ℕ). nat_eq x (key j)) (sym (rest l ne)))
          (cases_eq l p))
          (cases_eq j i);
    }

    pub wiped_names : o ≡ None → key i ≡ c p → c' p ≡ 0 → Named key after c'
    wiped_names is_none own now = record {
      reached = λ l. ⊎_elim
          (λ (e : l ≡ p). subst (Whole key after) (sym (ap c' e ∙ now)) (λ a d m la ld z q. omega (arith, shr_le 0 m, la)))
          (λ (ne : l ≡ p → ⊥). subst (Whole key after) (sym (rest l ne)) (stays_whole (c l) (n.reached l)))
          (cases_eq l p);
      names = λ j l lj. ⊎_elim
          (λ (w : j ≡ i).
          let lab : is (at after j).label l ≡ false = ap (λ (k : ℕ). is (at after k).label l) w ∙ ap (λ (m : Node). is m.label l) at_i ∙ ap (λ (x : Option ℕ). is x l) is_none in
          let k : key j ≡ c p = ap key w ∙ own in
          ⊎_elim
          (λ (e : l ≡ p). lab ∙ sym (ne_eqb (c' l) (key j) (λ q. omega (arith, ap c' e, lj))))
          (λ (ne : l ≡ p → ⊥). lab ∙ sym (ne_eqb (c' l) (key j) (λ q.
          let same : c l ≡ c p = sym (rest l ne) ∙ q ∙ k in
          let mine : is (at nodes i).label p ≡ true = n.names i p li ∙ eq-eqb (c p) (key i) (sym own) in
          let also : is (at nodes i).label l ≡ true = n.names i l li ∙ eq-eqb (c l) (key i) (same ∙ sym own) in
          ne (one_label (at nodes i).label l p also mine))))
          (cases_eq l p))
          (λ (nw : j ≡ i → ⊥).
          ⊎_elim
          (λ (e : l ≡ p). off_label j l lj nw
          ∙ ne_eqb (c l) (key j) (λ q. nw (s.single j i lj li (sym q ∙ ap c e ∙ sym own)))
          ∙ sym (ne_eqb (c' l) (key j) (λ q. omega (arith, ap c' e, lj))))
          (λ (ne : l ≡ p → ⊥). off_label j l lj nw ∙ ap (λ (x : ℕ). nat_eq x (key j)) (sym (rest l ne)))
          (cases_eq l p))
          (cases_eq j i);
    }
