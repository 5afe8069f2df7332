-- A bare leaf becomes free.
use Rattle.std.proofs.Common.{◌≡◌, ℕ, zero, suc, ◌+◌, ◌*◌, ◌/◌, ◌%◌, ◌^◌, ◌<◌, ◌≤◌, Bool, cond, eqb, ◌⊎◌, List, [], ◌∷◌, ◌++◌, length, set, Some, None, Option, sym, refl, ap, ◌∙◌, subst, inl, inr, ⊎_elim, arith, length-set}
use Rattle.std.proofs.lemmas.List.{get_or-set_same, get_or-set_other}
use Rattle.std.proofs.lemmas.Bool.{cases_eq, cases_lt, eq-eqb, ne_eqb, eqb-false}
use Rattle.std.proofs.lemmas.Option.{none-some}
use Rattle.trie.specs.declared.nodes.Node.{Node}
use Rattle.trie.specs.Strings.{Among}
use Rattle.trie.specs.Trees.{no_node, at, child, Whole, Shape, Stack, Named, Listed, is, linked}
use native.Mathlib.Nat.{div-add-mod}
use Rattle.std.proofs.lemmas.Nat.{shr-shr, mod_below}
use Rattle.trie.specs.Bitstrings.{shift_none, same_parent}
use Rattle.trie.proofs.Children.{child_taken, child_off}
use Rattle.trie.specs.Counting.{among_end, distinct_more, without, without_length, without_keeps, without_only, without_gone, without_distinct}

-- the bare leaf n, the child of i at the bit b, becomes free
module _ (key : ℕ → ℕ) (nodes : List Node) (n i b : ℕ) (s : Shape key nodes) (li : 0 < key i) (lb : b < 2) (link : child (at nodes i) b ≡ Some n) (leaf : (d : ℕ) → child (at nodes n) d ≡ None) where
  abbrev cut : List Node
  cut = set nodes i (linked (at nodes i) b None)

  abbrev less : ℕ → ℕ
  less j = cond (eqb j n) 0 (key j)

  is_key : key n ≡ 2 * key i + b
  is_key = s.next i b n lb li link

  pn : 0 < n
  pn = ⊎_elim
      (λ (h : 0 < n). h)
      (λ (h : n ≤ 0). let z : n ≡ 0 = omega arith in absurd (omega (arith, is_key, ap key z, s.root)))
      (cases_lt 0 n)

  less_away : (j : ℕ) → (j ≡ n → ⊥) → less j ≡ key j
  less_away j ne = ap (λ (x : Bool). cond x 0 (key j)) (ne_eqb j n ne)

  less_n : less n ≡ 0
  less_n = ap (λ (x : Bool). cond x 0 (key n)) (eq-eqb n n refl)

  was : (j : ℕ) → 0 < less j → (j ≡ n → ⊥) × (0 < key j)
  was j h = let ne : j ≡ n → ⊥ = λ e. omega (arith, ap less e, less_n) in (ne, subst (λ (x : ℕ). 0 < x) (less_away j ne) h)

  cut_here : at cut i ≡ linked (at nodes i) b None
  cut_here = get_or-set_same nodes i (linked (at nodes i) b None) no_node (omega (arith, s.size, s.bound i li))

  cut_part : {X : Type 0} (f : Node → X) → f (linked (at nodes i) b None) ≡ f (at nodes i) → (j : ℕ) → f (at cut j) ≡ f (at nodes j)
  cut_part f e j = ⊎_elim
      (λ (w : j ≡ i). subst (λ (k : ℕ). f (at cut k) ≡ f (at nodes k)) (sym w) (ap f cut_here ∙ e))
      (λ (ne : j ≡ i → ⊥). ap f (get_or-set_other nodes i j (linked (at nodes i) b None) no_node ne))
      (cases_eq j i)

  cut_edge : (j d : ℕ) → ((j ≡ i) × (d ≡ b) × (child (at cut j) d ≡ None)) ⊎ ((child (at cut j) d ≡ child (at nodes j) d) × (j ≡ i → d ≡ b → ⊥))
  cut_edge j d = ⊎_elim
      (λ (e : d ≡ b). ⊎_elim
      (λ (w : j ≡ i). inl (w, e, ap (λ (k : ℕ). child (at cut k) d) w ∙ ap (λ (m : Node). child m d) cut_here ∙ ap (child (linked (at nodes i) b None)) e ∙ child_taken (at nodes i) b (omega (arith, s.both i li))))
      (λ (ne : j ≡ i → ⊥). inr (ap (λ (m : Node). child m d) (get_or-set_other nodes i j (linked (at nodes i) b None) no_node ne), λ w _. ne w))
      (cases_eq j i))
      (λ (ne : d ≡ b → ⊥). inr (cut_part (λ m. child m d) (child_off (at nodes i) b d None ne) j, λ _ w. ne w))
      (cases_eq d b)

  alive : 0 < key n
  alive = omega (arith, is_key)

  -- nothing that has its nodes is below n, and if it is not n's own string, nothing is at n
  none_below : (y m : ℕ) → Whole key nodes y → (y ≡ key n → ⊥) → y / 2 ^ m ≡ key n → ⊥
  none_below y zero w ne e = ne (sym (shift_none y) ∙ e)
  none_below y (suc m) w ne e =
      let x = y / 2 ^ m in
      let d = x % 2 in
      let ld : d < 2 = mod_below x 2 (omega arith) in
      let p : m + 1 ≡ suc m = omega arith in
      let up : x / 2 ≡ key n = shr-shr y m 1 ∙ ap (λ (k : ℕ). y / 2 ^ k) p ∙ e in
      w n d m alive ld (leaf d) (omega (arith, div-add-mod x 2))

  still_whole : (y : ℕ) → Whole key nodes y → (y ≡ key n → ⊥) → Whole less cut y
  still_whole y w ne a d m la ld z e =
      let ka = less_away a (was a la).0 in
      let e' : y / 2 ^ m ≡ 2 * key a + d = e ∙ ap (λ (k : ℕ). 2 * k + d) ka in
      ⊎_elim
      (λ (q : (a ≡ i) × (d ≡ b) × (child (at cut a) d ≡ None)). none_below y m w ne (e' ∙ ap (λ (k : ℕ). 2 * key k + d) q.0 ∙ ap (λ (k : ℕ). 2 * key i + k) q.1 ∙ sym is_key))
      (λ (q : (child (at cut a) d ≡ child (at nodes a) d) × (a ≡ i → d ≡ b → ⊥)). w a d m (was a la).1 ld (sym q.0 ∙ z) e')
      (cut_edge a d)

  -- a child that stays is not n
  kid_stays_on : (j d c : ℕ) → d < 2 → 0 < key j → (j ≡ i → d ≡ b → ⊥) → child (at nodes j) d ≡ Some c → c ≡ n → ⊥
  kid_stays_on j d c ld h ne p e =
      let k : 2 * key j + d ≡ 2 * key i + b = sym (s.next j d c ld h p) ∙ ap key e ∙ is_key in
      let r = same_parent (key j) (key i) b d lb ld k in
      ne (s.single j i h li r.0) r.1

  pub pruned : Shape less cut
  pruned = record {
    size = length-set nodes i (linked (at nodes i) b None) ∙ s.size;
    both = λ j lj. cut_part (λ x. length x.children) (length-set (at nodes i).children b 0) j ∙ s.both j (was j lj).1;
    bound = λ j lj. s.bound j (was j lj).1;
    root = less_away 0 (λ e. omega (arith, pn)) ∙ s.root;
    next = λ j d c ld lj p. ⊎_elim
        (λ (q : (j ≡ i) × (d ≡ b) × (child (at cut j) d ≡ None)). absurd (none-some c (sym q.2 ∙ p)))
        (λ (q : (child (at cut j) d ≡ child (at nodes j) d) × (j ≡ i → d ≡ b → ⊥)).
        let r : child (at nodes j) d ≡ Some c = sym q.0 ∙ p in
        let w = was j lj in
        less_away c (kid_stays_on j d c ld w.1 q.1 r) ∙ s.next j d c ld w.1 r ∙ ap (λ (k : ℕ). 2 * k + d) (sym (less_away j w.0)))
        (cut_edge j d);
    single = λ j m lj lm e. s.single j m (was j lj).1 (was m lm).1 (sym (less_away j (was j lj).0) ∙ e ∙ less_away m (was m lm).0);
    whole = λ j lj.
        let w = was j lj in
        subst (Whole less cut) (sym (less_away j w.0)) (still_whole (key j) (s.whole j w.1) (λ e. w.0 (s.single j n w.1 alive e)));
  }

  pub pruned_names : (c : ℕ → ℕ) → Named key nodes c → (at nodes n).label ≡ None → Named less cut c
  pruned_names c m bare = record {
    reached = λ l. still_whole (c l) (m.reached l) (eqb-false (c l) (key n) (sym (m.names n l alive) ∙ ap (λ (o : Option ℕ). is o l) bare));
    names = λ j l lj. ap (λ (o : Option ℕ). is o l) (cut_part (λ x. x.label) refl j) ∙ m.names j l (was j lj).1 ∙ ap (eqb (c l)) (sym (less_away j (was j lj).0));
  }

  -- the nodes that stay
  pub pruned_still : (j : ℕ) → 0 < less j → (less j ≡ key j) × (0 < key j) × (key j ≡ key n → ⊥)
  pruned_still j lj = let w = was j lj in (less_away j w.0, w.1, λ e. w.0 (s.single j n w.1 alive e))

  pub pruned_keeps : (j : ℕ) → (key j ≡ key n → ⊥) → less j ≡ key j
  pruned_keeps j ne = less_away j (λ e. ne (ap key e))

  pub pruned_listed : (ks : List ℕ) (spare : ℕ) → Listed key ks spare → Listed less (without (key n) ks) (spare + 1)
  pruned_listed ks spare m = record {
    once = without_distinct (key n) ks m.once;
    many = omega (arith, m.many, without_length (key n) ks (m.each n pn alive));
    each = λ j pj lj. let w = pruned_still j lj in subst (λ (x : ℕ). Among x (without (key n) ks)) (sym w.0) (without_keeps (key n) (key j) ks w.2 (m.each j pj w.1));
    only = λ v a.
        let r = m.only v (without_only (key n) v ks a) in
        let o = pruned_keeps r.0 (λ e. without_gone (key n) ks m.once (subst (λ (x : ℕ). Among x (without (key n) ks)) (sym r.3 ∙ e) a)) in
        (r.0, r.1, subst (λ (x : ℕ). 0 < x) (sym o) r.2, o ∙ r.3);
  }

  pub pruned_stack : (free : List ℕ) → Stack key free → Stack less (free ++ n ∷ [])
  pruned_stack free st =
      let not_n : Among n free → ⊥ = λ a. omega (arith, alive, st.idle n a) in
      record {
        low = λ m a. ⊎_elim (λ (h : Among m free). st.low m h) (λ (e : m ≡ n). omega (arith, s.bound n alive)) (among_end m n free a);
        some = λ m a. ⊎_elim (λ (h : Among m free). st.some m h) (λ (e : m ≡ n). omega (arith, pn)) (among_end m n free a);
        idle = λ m a. ⊎_elim
            (λ (h : Among m free). less_away m (λ e. not_n (subst (λ (x : ℕ). Among x free) e h)) ∙ st.idle m h)
            (λ (e : m ≡ n). ap less e ∙ less_n)
            (among_end m n free a);
        once = distinct_more n free st.once not_n;
      }
