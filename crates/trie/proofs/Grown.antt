-- A free node becomes a child.
use Rattle.std.proofs.Common.{◌≡◌, ℕ, zero, suc, ◌+◌, ◌*◌, ◌/◌, ◌^◌, ◌<◌, Bool, cond, eqb, ◌≢◌, ◌⊎◌, List, [], ◌∷◌, ◌++◌, length, set, Some, None, Option, sym, refl, ap, ◌∙◌, subst, inl, inr, ⊎_elim, arith, length-set}
use Rattle.std.proofs.lemmas.List.{get_or-set_same, get_or-set_other}
use Rattle.std.proofs.lemmas.Bool.{cases_eq, eq-eqb, ne_eqb}
use Rattle.std.proofs.lemmas.Option.{none-some, same_Some}
use Rattle.trie.specs.declared.nodes.Node.{Node}
use Rattle.trie.specs.Strings.{Among}
use Rattle.trie.specs.Trees.{blank, no_node, at, child, Whole, Shape, Stack, Named, Listed, is, linked}
use Rattle.trie.specs.Bitstrings.{shorter, shift_in, shift_none, same_parent}
use Rattle.trie.specs.Counting.{among_front, distinct_front}
use Rattle.trie.proofs.Children.{child_given, child_off}

pub blank_leaf : (d : ℕ) → child blank d ≡ None
blank_leaf zero = refl
blank_leaf (suc zero) = refl
blank_leaf (suc (suc d)) = refl

-- the free node n becomes the child of i at the bit b
module _ (key : ℕ → ℕ) (nodes : List Node) (n i b : ℕ) (s : Shape key nodes) (li : 0 < key i) (ln : n < 3073) (pn : 0 < n) (idle : key n ≡ 0) (lb : b < 2) (gap : child (at nodes i) b ≡ None) where
  abbrev v : ℕ
  v = 2 * key i + b

  abbrev one : List Node
  one = set nodes n blank

  abbrev two : List Node
  two = set one i (linked (at nodes i) b (Some n))

  not_n : (j : ℕ) → 0 < key j → j ≡ n → ⊥
  not_n j h e = omega (arith, ap key e)

  made : at two n ≡ blank
  made = let ne : n ≢ i = λ e. not_n i li (sym e) in get_or-set_other one i n (linked (at nodes i) b (Some n)) no_node ne ∙ get_or-set_same nodes n blank no_node (omega (arith, s.size))

  off : (j : ℕ) → 0 < key j → at one j ≡ at nodes j
  off j h = let ne : j ≢ n = not_n j h in get_or-set_other nodes n j blank no_node ne

  here : at two i ≡ linked (at nodes i) b (Some n)
  here = get_or-set_same one i (linked (at nodes i) b (Some n)) no_node (omega (arith, s.size, s.bound i li, length-set nodes n blank))

  -- a part that the new link leaves
  part : {X : Type 0} (f : Node → X) → f (linked (at nodes i) b (Some n)) ≡ f (at nodes i) → (j : ℕ) → 0 < key j → f (at two j) ≡ f (at nodes j)
  part f e j h = ⊎_elim
      (λ (w : j ≡ i). subst (λ (k : ℕ). f (at two k) ≡ f (at nodes k)) (sym w) (ap f here ∙ e))
      (λ (ne : j ≡ i → ⊥). ap f (get_or-set_other one i j (linked (at nodes i) b (Some n)) no_node ne ∙ off j h))
      (cases_eq j i)

  abbrev key' : ℕ → ℕ
  key' j = cond (eqb j n) v (key j)

  away : (j : ℕ) → (j ≡ n → ⊥) → key' j ≡ key j
  away j ne = ap (λ (x : Bool). cond x v (key j)) (ne_eqb j n ne)

  old_key : (j : ℕ) → 0 < key j → key' j ≡ key j
  old_key j h = away j (not_n j h)

  pub key_new : key' n ≡ v
  key_new = ap (λ (x : Bool). cond x v (key n)) (eq-eqb n n refl)

  pub leaf : (d : ℕ) → child (at two n) d ≡ None
  leaf d = ap (λ (m : Node). child m d) made ∙ blank_leaf d

  edge : (j d : ℕ) → 0 < key j → ((j ≡ i) × (d ≡ b) × (child (at two j) d ≡ Some n)) ⊎ (child (at two j) d ≡ child (at nodes j) d)
  edge j d h = ⊎_elim
      (λ (e : d ≡ b). ⊎_elim
      (λ (w : j ≡ i). inl (w, e, ap (λ (k : ℕ). child (at two k) d) w ∙ ap (λ (m : Node). child m d) here ∙ ap (child (linked (at nodes i) b (Some n))) e ∙ child_given (at nodes i) b n (omega (arith, s.both i li)) pn))
      (λ (ne : j ≡ i → ⊥). inr (ap (λ (m : Node). child m d) (get_or-set_other one i j (linked (at nodes i) b (Some n)) no_node ne ∙ off j h)))
      (cases_eq j i))
      (λ (ne : d ≡ b → ⊥). inr (part (λ m. child m d) (child_off (at nodes i) b d (Some n) ne) j h))
      (cases_eq d b)

  old_or_new : (j : ℕ) → 0 < key' j → (0 < key j) ⊎ (j ≡ n)
  old_or_new j h = ⊎_elim (λ (e : j ≡ n). inr e) (λ (ne : j ≡ n → ⊥). inl (subst (λ (x : ℕ). 0 < x) (away j ne) h)) (cases_eq j n)

  -- where there was a way there is one
  keep : (x : ℕ) → Whole key nodes x → Whole key' two x
  keep x w j d m lj ld z e = ⊎_elim
      (λ (h : 0 < key j). ⊎_elim
      (λ (q : (j ≡ i) × (d ≡ b) × (child (at two j) d ≡ Some n)). absurd (none-some n (sym z ∙ q.2)))
      (λ (q : child (at two j) d ≡ child (at nodes j) d). w j d m h ld (sym q ∙ z) (e ∙ ap (λ (k : ℕ). 2 * k + d) (old_key j h)))
      (edge j d h))
      (λ (h : j ≡ n). w i b (m + 1) li lb gap (shorter x m v d ld (e ∙ ap (λ (k : ℕ). 2 * key' k + d) h ∙ ap (λ (k : ℕ). 2 * k + d) key_new)))
      (old_or_new j lj)

  pub alien : (x : ℕ) → Whole key nodes x → x ≡ v → ⊥
  alien x w e = w i b 0 li lb gap (shift_none x ∙ e)

  whole_new : Whole key' two v
  whole_new j d zero lj ld z e = ⊎_elim
      (λ (h : 0 < key j). ⊎_elim
      (λ (q : (j ≡ i) × (d ≡ b) × (child (at two j) d ≡ Some n)). absurd (none-some n (sym z ∙ q.2)))
      (λ (q : child (at two j) d ≡ child (at nodes j) d).
      let r = same_parent (key i) (key' j) d b ld lb (sym (shift_none v) ∙ e) in
      let same : j ≡ i = s.single j i h li (sym (old_key j h) ∙ sym r.0) in
      let u : child (at two i) b ≡ Some n = ap (λ (m : Node). child m b) here ∙ child_given (at nodes i) b n (omega (arith, s.both i li)) pn in
      let t : child (at two j) d ≡ Some n = ap (λ (k : ℕ). child (at two k) d) same ∙ ap (child (at two i)) (sym r.1) ∙ u in
      absurd (none-some n (sym z ∙ t)))
      (edge j d h))
      (λ (h : j ≡ n).
      let t : key' j ≡ v = ap key' h ∙ key_new in
      omega (arith, shift_none v))
      (old_or_new j lj)
  whole_new j d (suc m) lj ld z e =
      let p : 1 + m ≡ suc m = omega arith in
      keep (key i) (s.whole i li) j d m lj ld z (sym (shift_in (key i) b m lb) ∙ ap (λ (k : ℕ). v / 2 ^ k) p ∙ e)

  pub grown : Shape key' two
  grown = record {
    size = length-set one i (linked (at nodes i) b (Some n)) ∙ length-set nodes n blank ∙ s.size;
    both = λ j lj. ⊎_elim
        (λ (h : 0 < key j). part (λ x. length x.children) (length-set (at nodes i).children b n) j h ∙ s.both j h)
        (λ (h : j ≡ n). ap (λ (k : ℕ). length (at two k).children) h ∙ ap (λ (x : Node). length x.children) made)
        (old_or_new j lj);
    bound = λ j lj. ⊎_elim (λ (h : 0 < key j). s.bound j h) (λ (h : j ≡ n). omega arith) (old_or_new j lj);
    root = old_key 0 (omega (arith, s.root)) ∙ s.root;
    next = λ j d c ld lj p. ⊎_elim
        (λ (h : 0 < key j). ⊎_elim
        (λ (q : (j ≡ i) × (d ≡ b) × (child (at two j) d ≡ Some n)).
        let t : key' c ≡ v = ap key' (same_Some c n (sym p ∙ q.2)) ∙ key_new in
        let u : key' j ≡ key i = ap key' q.0 ∙ old_key i li in
        omega (arith, q.1))
        (λ (q : child (at two j) d ≡ child (at nodes j) d).
        let e = s.next j d c ld h (sym q ∙ p) in
        old_key c (omega arith) ∙ e ∙ ap (λ (k : ℕ). 2 * k + d) (sym (old_key j h)))
        (edge j d h))
        (λ (h : j ≡ n). absurd (none-some c (sym (ap (λ (k : ℕ). child (at two k) d) h ∙ leaf d) ∙ p)))
        (old_or_new j lj);
    single = λ j m lj lm e. ⊎_elim
        (λ (h : 0 < key j). ⊎_elim
        (λ (g : 0 < key m). s.single j m h g (sym (old_key j h) ∙ e ∙ old_key m g))
        (λ (g : m ≡ n). absurd (alien (key j) (s.whole j h) (sym (old_key j h) ∙ e ∙ ap key' g ∙ key_new)))
        (old_or_new m lm))
        (λ (h : j ≡ n). ⊎_elim
        (λ (g : 0 < key m). absurd (alien (key m) (s.whole m g) (sym (old_key m g) ∙ sym e ∙ ap key' h ∙ key_new)))
        (λ (g : m ≡ n). h ∙ sym g)
        (old_or_new m lm))
        (old_or_new j lj);
    whole = λ j lj. ⊎_elim
        (λ (h : 0 < key j). subst (Whole key' two) (sym (old_key j h)) (keep (key j) (s.whole j h)))
        (λ (h : j ≡ n). subst (Whole key' two) (sym (ap key' h ∙ key_new)) whole_new)
        (old_or_new j lj);
  }

  pub grown_names : (c : ℕ → ℕ) → Named key nodes c → Named key' two c
  grown_names c m = record {
    reached = λ l. keep (c l) (m.reached l);
    names = λ j l lj. ⊎_elim
        (λ (g : 0 < key j). ap (λ (o : Option ℕ). is o l) (part (λ x. x.label) refl j g) ∙ m.names j l g ∙ ap (eqb (c l)) (sym (old_key j g)))
        (λ (g : j ≡ n).
        let t : key' j ≡ v = ap key' g ∙ key_new in
        ap (λ (k : ℕ). is (at two k).label l) g ∙ ap (λ (x : Node). is x.label l) made ∙ sym (ap (eqb (c l)) t ∙ ne_eqb (c l) v (alien (c l) (m.reached l))))
        (old_or_new j lj);
  }

  pub grown_listed : (ks : List ℕ) (spare : ℕ) → Listed key ks (spare + 1) → Listed key' (v ∷ ks) spare
  grown_listed ks spare m = record {
    once = ((λ a. let r = m.only v a in alien (key r.0) (s.whole r.0 r.2) r.3), m.once);
    many = omega (arith, m.many);
    each = λ j pj lj. ⊎_elim
        (λ (h : 0 < key j). inr (subst (λ (x : ℕ). Among x ks) (sym (old_key j h)) (m.each j pj h)))
        (λ (h : j ≡ n). inl (ap key' h ∙ key_new))
        (old_or_new j lj);
    only = λ x a. ⊎_elim
        (λ (e : x ≡ v). (n, pn, subst (λ (k : ℕ). 0 < k) (sym key_new) (omega arith), key_new ∙ sym e))
        (λ (r : Among x ks). let q = m.only x r in let o = old_key q.0 q.2 in (q.0, q.1, subst (λ (k : ℕ). 0 < k) (sym o) q.2, o ∙ q.3))
        a;
  }

  -- what is so of the strings in use and of the new one
  pub grown_each : (P : ℕ → Type 0) → ((j : ℕ) → 0 < j → 0 < key j → P (key j)) → P v → (j : ℕ) → 0 < j → 0 < key' j → P (key' j)
  grown_each P old new j pj lj = ⊎_elim
      (λ (h : 0 < key j). subst P (sym (old_key j h)) (old j pj h))
      (λ (h : j ≡ n). subst P (sym (ap key' h ∙ key_new)) new)
      (old_or_new j lj)

  pub grown_stack : (free : List ℕ) → Stack key (free ++ n ∷ []) → Stack key' free
  grown_stack free st =
      let d = distinct_front n free st.once in
      record {
        low = λ m a. st.low m (among_front m n free a);
        some = λ m a. st.some m (among_front m n free a);
        idle = λ m a. away m (λ e. d.1 (subst (λ (x : ℕ). Among x free) e a)) ∙ st.idle m (among_front m n free a);
        once = d.0;
      }
