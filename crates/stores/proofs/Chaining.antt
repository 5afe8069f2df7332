-- Chains of places: linking one, unlinking one, and looking for a value along one.
use Rattle.std.specs.Prelude.{◌≡◌, ℕ, zero, suc, ◌+◌, ◌<◌, ◌≤◌, Bool, true, false, cond, List, [], ◌∷◌, ◌++◌, length, get_or, set, replicate, Some, None, Decides, count_by, Option, ◌==◌, ◌≢◌, nat_eq, slice_index_or, slice_set, refl}
use Rattle.std.proofs.lemmas.Option.{none-some}
use Rattle.std.proofs.Common.{sym, ap, subst, ◌∙◌, ⊎_elim, arith, length-append, length-set}
use Rattle.std.proofs.lemmas.List.{get_or-set_same, get_or-set_other, length-replicate}
use Rattle.std.proofs.lemmas.List.Sums.{sum_by-set, count_by-le-length}
use Rattle.std.proofs.lemmas.Bool.{cases_Bool, cases_eq, both_ways, eq-eqb, ne_eqb, eqb-true}
use Rattle.std.proofs.lemmas.Bool.Decides.{Decides-eqb}
use Rattle.std.specs.List.{find as find_in}
use Rattle.parts.specs.Meaning.{Single, at, find}
use Rattle.stores.specs.Chains.{Linked, times, Chain, Chained, first_holding}
use Rattle.parts.proofs.Finding.{split, at_held, held_at, find_some, find_none, full_within, all_none}

times_same : (p q : ℕ) (qs : List ℕ) → p ≡ q → times p (q ∷ qs) ≡ 1 + times p qs
times_same p q qs e = ap (λ (b : Bool). cond b 1 0 + times p qs) (eq-eqb p q e)

times_other : (p q : ℕ) (qs : List ℕ) → (p ≢ q) → times p (q ∷ qs) ≡ times p qs
times_other p q qs n = ap (λ (b : Bool). cond b 1 0 + times p qs) (ne_eqb p q n) ∙ omega arith

times_append : (p : ℕ) (xs ys : List ℕ) → times p (xs ++ ys) ≡ times p xs + times p ys
times_append p [] ys = omega arith
times_append p (x ∷ xs) ys = omega (arith, times_append p xs ys)

-- a link that no place of the chain has may change
linked_set : (ns : List (Option ℕ)) (o : Option ℕ) (ps : List ℕ) (p : ℕ) (x : Option ℕ) → times p ps ≡ 0 → Linked ns o ps → Linked (slice_set ns p x) o ps
linked_set ns o [] p x h e = e
linked_set ns o (q ∷ qs) p x h e = ⊎_elim
    (λ (s : p ≡ q). absurd (omega (arith, times_same p q qs s)))
    (λ (n : p ≡ q → ⊥). (e.0, subst (λ (t : Option ℕ). Linked (slice_set ns p x) t qs) (sym (get_or-set_other ns p q x None (λ s. n (sym s)))) (linked_set ns (slice_index_or ns q None) qs p x (omega (arith, times_other p q qs n)) e.1)))
    (cases_eq p q)

-- one place's key is told anew: what the chain of k has to be then
rechain : (hs ns keys hs' ns' : List (Option ℕ)) (p : ℕ) (o : Option ℕ) (k : ℕ) (c : Chain hs ns keys k) (new : List ℕ) → p < length keys
    → Linked ns' (slice_index_or hs' k None) new → ((q : ℕ) → (q ≢ p) → times q new ≡ times q c.order) → times p new ≡ cond (at nat_eq k o) 1 0
    → length new + cond (at nat_eq k (slice_index_or keys p None)) 1 0 ≡ length c.order + cond (at nat_eq k o) 1 0 → Chain hs' ns' (slice_set keys p o) k
rechain hs ns keys hs' ns' p o k c new w l others here long = record {
  order = new;
  linked = l;
  exact = λ q. ⊎_elim
      (λ (e : q ≡ p). ap (λ (n : ℕ). times n new) e ∙ here ∙ ap (λ (x : Option ℕ). cond (at nat_eq k x) 1 0) (sym (get_or-set_same keys p o None w) ∙ ap (λ (n : ℕ). get_or (slice_set keys p o) n None) (sym e)))
      (λ (n : q ≡ p → ⊥). others q n ∙ c.exact q ∙ ap (λ (x : Option ℕ). cond (at nat_eq k x) 1 0) (sym (get_or-set_other keys p q o None n)))
      (cases_eq q p);
  long = omega (arith, c.long, sum_by-set (λ x. cond (at nat_eq k x) 1 0) keys p o None w);
}

at_none : (k : ℕ) (o : Option ℕ) → o ≡ None → ◌≡◌ {A = ℕ} (cond (at nat_eq k o) 1 0) 0
at_none k o e = ap (λ (x : Option ℕ). cond (at nat_eq k x) 1 0) e

pub at_some : (k j : ℕ) (o : Option ℕ) → o ≡ Some j → k ≡ j → ◌≡◌ {A = ℕ} (cond (at nat_eq k o) 1 0) 1
at_some k j o e s = ap (λ (x : Option ℕ). cond (at nat_eq k x) 1 0) e ∙ ap (λ (b : Bool). cond b 1 0) (eq-eqb k j s)

at_other : (k j : ℕ) (o : Option ℕ) → o ≡ Some j → (k ≢ j) → ◌≡◌ {A = ℕ} (cond (at nat_eq k o) 1 0) 0
at_other k j o e n = ap (λ (x : Option ℕ). cond (at nat_eq k x) 1 0) e ∙ ap (λ (b : Bool). cond b 1 0) (ne_eqb k j n)

pub chain_short : (hs ns keys : List (Option ℕ)) (k : ℕ) → length keys ≡ 96 → (c : Chain hs ns keys k) → length c.order ≤ 96
chain_short hs ns keys k l c = omega (arith, c.long, count_by-le-length (at nat_eq k) keys)

pub held_once : (hs ns keys : List (Option ℕ)) (k p : ℕ) (c : Chain hs ns keys k) → slice_index_or keys p None ≡ Some k → 0 < times p c.order
held_once hs ns keys k p c h = omega (arith, c.exact p, at_some k k (slice_index_or keys p None) h refl)

pub linked : (hs ns keys : List (Option ℕ)) (k p : ℕ) → Chained hs ns keys → k < 96 → p < 96 → slice_index_or keys p None ≡ None
    → Chained (slice_set hs k (Some p)) (slice_set ns p (slice_index_or hs k None)) (slice_set keys p (Some k))
linked hs ns keys k p c kb pb free = record {
  heads_size = length-set hs k (Some p) ∙ c.heads_size;
  nexts_size = length-set ns p (slice_index_or hs k None) ∙ c.nexts_size;
  keys_size = length-set keys p (Some k) ∙ c.keys_size;
  chain = λ j.
      let d = c.chain j in
      let w : p < length keys = omega (arith, c.keys_size) in
      let absent : times p d.order ≡ 0 = d.exact p ∙ at_none j (slice_index_or keys p None) free in
      let was : cond (at nat_eq j (slice_index_or keys p None)) 1 0 ≡ 0 = at_none j (slice_index_or keys p None) free in
      ⊎_elim
      (λ (e : j ≡ k).
      let now : cond (at nat_eq j (Some k)) 1 0 ≡ 1 = at_some j k (Some k) refl e in
      let first : get_or (slice_set hs k (Some p)) j None ≡ Some p = ap (λ (n : ℕ). get_or (slice_set hs k (Some p)) n None) e ∙ get_or-set_same hs k (Some p) None (omega (arith, c.heads_size)) in
      let next : get_or (slice_set ns p (slice_index_or hs k None)) p None ≡ get_or hs j None = get_or-set_same ns p (slice_index_or hs k None) None (omega (arith, c.nexts_size)) ∙ ap (λ (n : ℕ). get_or hs n None) (sym e) in
      rechain hs ns keys (slice_set hs k (Some p)) (slice_set ns p (slice_index_or hs k None)) p (Some k) j d (p ∷ d.order) w
      (first, subst (λ (o : Option ℕ). Linked (slice_set ns p (slice_index_or hs k None)) o d.order) (sym next) (linked_set ns (slice_index_or hs j None) d.order p (slice_index_or hs k None) absent d.linked))
      (λ q n. times_other q p d.order n)
      (omega (arith, times_same p p d.order refl))
      (omega arith))
      (λ (n : j ≡ k → ⊥).
      let now : cond (at nat_eq j (Some k)) 1 0 ≡ 0 = at_other j k (Some k) refl n in
      let first : get_or (slice_set hs k (Some p)) j None ≡ get_or hs j None = get_or-set_other hs k j (Some p) None n in
      rechain hs ns keys (slice_set hs k (Some p)) (slice_set ns p (slice_index_or hs k None)) p (Some k) j d d.order w
      (subst (λ (o : Option ℕ). Linked (slice_set ns p (slice_index_or hs k None)) o d.order) (sym first) (linked_set ns (slice_index_or hs j None) d.order p (slice_index_or hs k None) absent d.linked))
      (λ q m. refl)
      (omega arith)
      (omega arith))
      (cases_eq j k);
}

-- a place in the middle of a chain is passed by
passed_by : (ns : List (Option ℕ)) (o : Option ℕ) (front : List ℕ) (here p : ℕ) (back : List ℕ) → Linked ns o (front ++ here ∷ p ∷ back) → times here front ≡ 0 → times here back ≡ 0
    → Linked (slice_set ns here (slice_index_or ns p None)) o (front ++ here ∷ back)
passed_by ns o [] here p back l f b =
    let w : here < length ns = full_within ns here p l.1.0 in
    (l.0, subst (λ (t : Option ℕ). Linked (slice_set ns here (slice_index_or ns p None)) t back) (sym (get_or-set_same ns here (slice_index_or ns p None) None w)) (linked_set ns (slice_index_or ns p None) back here (slice_index_or ns p None) b l.1.1))
passed_by ns o (q ∷ qs) here p back l f b = ⊎_elim
    (λ (s : here ≡ q). absurd (omega (arith, times_same here q qs s)))
    (λ (n : here ≡ q → ⊥). (l.0, subst (λ (t : Option ℕ). Linked (slice_set ns here (slice_index_or ns p None)) t (qs ++ here ∷ back)) (sym (get_or-set_other ns here q (slice_index_or ns p None) None (λ s. n (sym s)))) (passed_by ns (slice_index_or ns q None) qs here p back l.1 (omega (arith, times_other here q qs n)) b)))
    (cases_eq here q)

-- without its first place
headless : (hs ns keys hs' : List (Option ℕ)) (p j : ℕ) (d : Chain hs ns keys j) (ps : List ℕ) → p < length keys → d.order ≡ ps → Linked ns (Some p) ps
    → slice_index_or hs' j None ≡ slice_index_or ns p None → ◌≡◌ {A = ℕ} (cond (at nat_eq j (slice_index_or keys p None)) 1 0) 1 → Chain hs' ns (slice_set keys p None) j
headless hs ns keys hs' p j d [] w e l head was = absurd (none-some p (sym l))
headless hs ns keys hs' p j d (q ∷ back) w e l head was =
    let s : p ≡ q = let h = l.0 in cc in
    rechain hs ns keys hs' ns p None j d back w
    (subst (λ (o : Option ℕ). Linked ns o back) (ap (λ (n : ℕ). get_or ns n None) (sym s) ∙ sym head) l.1)
    (λ r n. sym (times_other r q back (λ t. n (t ∙ sym s))) ∙ ap (times r) (sym e))
    (omega (arith, d.exact p, ap (times p) e, times_same p q back s))
    (omega (arith, ap length e))

-- the place is the first of its chain
pub unlinked_first : (hs ns keys : List (Option ℕ)) (k p : ℕ) → Chained hs ns keys → slice_index_or keys p None ≡ Some k → slice_index_or hs k None ≡ Some p → Chained (slice_set hs k (slice_index_or ns p None)) ns (slice_set keys p None)
unlinked_first hs ns keys k p c held first = record {
  heads_size = length-set hs k (slice_index_or ns p None) ∙ c.heads_size;
  nexts_size = c.nexts_size;
  keys_size = length-set keys p None ∙ c.keys_size;
  chain = λ j.
      let w : p < length keys = full_within keys p k held in
      let hs' = set hs k (slice_index_or ns p None) in
      ⊎_elim
      (λ (e : j ≡ k).
      let d = c.chain k in
      subst (λ (n : ℕ). Chain hs' ns (slice_set keys p None) n) (sym e)
      (headless hs ns keys hs' p k d d.order w refl (subst (λ (o : Option ℕ). Linked ns o d.order) first d.linked)
      (get_or-set_same hs k (slice_index_or ns p None) None (full_within hs k p first)) (at_some k k (slice_index_or keys p None) held refl)))
      (λ (n : j ≡ k → ⊥).
      let d = c.chain j in
      let was : cond (at nat_eq j (slice_index_or keys p None)) 1 0 ≡ 0 = at_other j k (slice_index_or keys p None) held n in
      rechain hs ns keys hs' ns p None j d d.order w
      (subst (λ (o : Option ℕ). Linked ns o d.order) (sym (get_or-set_other hs k j (slice_index_or ns p None) None n)) d.linked)
      (λ q m. refl)
      (d.exact p ∙ was)
      (omega arith))
      (cases_eq j k);
}

one_key : (k : ℕ) (o : Option ℕ) → 0 < cond {A = ℕ} (at nat_eq k o) 1 0 → o ≡ Some k
one_key k None h = absurd (omega arith)
one_key k (Some j) h = ⊎_elim (λ (e : nat_eq k j ≡ true). ap Some (sym (eqb-true k j e))) (λ (f : nat_eq k j ≡ false). absurd (omega (arith, ap (λ (b : Bool). cond {A = ℕ} b 1 0) f))) (cases_Bool (k == j))

at_most : (b : Bool) → cond {A = ℕ} b 1 0 ≤ 1
at_most true = omega arith
at_most false = omega arith

-- the place stands after another of its chain
pub unlinked_after : (hs ns keys : List (Option ℕ)) (k p : ℕ) (c : Chained hs ns keys) (front : List ℕ) (here : ℕ) (back : List ℕ) → slice_index_or keys p None ≡ Some k → (c.chain k).order ≡ front ++ here ∷ p ∷ back
    → Chained hs (slice_set ns here (slice_index_or ns p None)) (slice_set keys p None)
unlinked_after hs ns keys k p c front here back held e =
    let d = c.chain k in
    let w : p < length keys = full_within keys p k held in
    let ns' = set ns here (slice_index_or ns p None) in
    let at_here : times here d.order ≡ times here front + (1 + times here (p ∷ back)) = ap (times here) e ∙ times_append here front (here ∷ p ∷ back) ∙ ap (λ (n : ℕ). times here front + n) (times_same here here (p ∷ back) refl) in
    let once : times here d.order ≤ 1 = omega (arith, d.exact here, at_most (at nat_eq k (slice_index_or keys here None))) in
    let keyed : get_or keys here None ≡ Some k = one_key k (slice_index_or keys here None) (omega (arith, d.exact here)) in
    record {
      heads_size = c.heads_size;
      nexts_size = length-set ns here (slice_index_or ns p None) ∙ c.nexts_size;
      keys_size = length-set keys p None ∙ c.keys_size;
      chain = λ j. ⊎_elim
          (λ (s : j ≡ k).
          let was : cond (at nat_eq k (slice_index_or keys p None)) 1 0 ≡ 1 = at_some k k (slice_index_or keys p None) held refl in
          subst (λ (n : ℕ). Chain hs ns' (slice_set keys p None) n) (sym s)
          (rechain hs ns keys hs ns' p None k d (front ++ here ∷ back) w
          (passed_by ns (slice_index_or hs k None) front here p back (subst (λ (ps : List ℕ). Linked ns (slice_index_or hs k None) ps) e d.linked) (omega arith) (omega arith))
          (λ q n. times_append q front (here ∷ back) ∙ ap (λ (m : ℕ). times q front + (cond (q == here) 1 0 + m)) (sym (times_other q p back n)) ∙ sym (times_append q front (here ∷ p ∷ back)) ∙ ap (times q) (sym e))
          (omega (arith, d.exact p, ap (times p) e, times_append p front (here ∷ p ∷ back), times_append p front (here ∷ back), times_same p p back refl))
          (omega (arith, ap length e, length-append front (here ∷ p ∷ back), length-append front (here ∷ back)))))
          (λ (n : j ≡ k → ⊥).
          let f = c.chain j in
          rechain hs ns keys hs ns' p None j f f.order w
          (linked_set ns (slice_index_or hs j None) f.order here (slice_index_or ns p None) (f.exact here ∙ at_other j k (slice_index_or keys here None) keyed n) f.linked)
          (λ q m. refl)
          (f.exact p ∙ at_other j k (slice_index_or keys p None) held n)
          (omega (arith, at_other j k (slice_index_or keys p None) held n)))
          (cases_eq j k);
    }

module _ {V : Type 0} (eq : V → V → Bool) (decides : (a b : V) → Decides (eq a b) (a ≡ b)) where
  first_none : (xs : List (Option V)) (v : V) (ps : List ℕ) → ((n : ℕ) → slice_index_or xs n None ≢ Some v) → first_holding eq xs v ps ≡ None
  first_none xs v [] h = refl
  first_none xs v (p ∷ ps) h = ⊎_elim
      (λ (t : at eq v (slice_index_or xs p None) ≡ true). absurd (h p (at_held eq decides v (slice_index_or xs p None) t)))
      (λ (f : at eq v (slice_index_or xs p None) ≡ false). ap (λ (b : Bool). cond b (Some p) (first_holding eq xs v ps)) f ∙ first_none xs v ps h)
      (cases_Bool (at eq v (slice_index_or xs p None)))

  first_some : (xs : List (Option V)) (v : V) (l : ℕ) (ps : List ℕ) → Single xs → slice_index_or xs l None ≡ Some v → 0 < times l ps → first_holding eq xs v ps ≡ Some l
  first_some xs v l [] s h t = absurd (omega arith)
  first_some xs v l (p ∷ ps) s h t = ⊎_elim
      (λ (y : at eq v (slice_index_or xs p None) ≡ true). ap (λ (b : Bool). cond b (Some p) (first_holding eq xs v ps)) y ∙ ap Some (s p l v (at_held eq decides v (slice_index_or xs p None) y) h))
      (λ (f : at eq v (slice_index_or xs p None) ≡ false).
      let n : l ≡ p → ⊥ = λ e. both_ways (at eq v (slice_index_or xs p None)) f (held_at eq decides v (slice_index_or xs p None) (ap (λ (k : ℕ). get_or xs k None) (sym e) ∙ h)) in
      ap (λ (b : Bool). cond b (Some p) (first_holding eq xs v ps)) f ∙ first_some xs v l ps s h (omega (arith, times_other l p ps n)))
      (cases_Bool (at eq v (slice_index_or xs p None)))

  -- the chain of v's key finds what all places together would
  pub chain_finds : (xs : List (Option V)) (v : V) (ps : List ℕ) → Single xs → ((l : ℕ) → slice_index_or xs l None ≡ Some v → times l ps ≡ 1) → first_holding eq xs v ps ≡ find eq xs v
  chain_finds xs v ps s once = ⊎_elim
      (λ (e : find eq xs v ≡ None). first_none xs v ps (find_none eq decides xs v e) ∙ sym e)
      (λ (r : (l : ℕ) × (find eq xs v ≡ Some l)).
      let h = find_some eq decides xs v r.0 r.1 in
      first_some xs v r.0 ps s h (omega (arith, once r.0 h)) ∙ sym r.1)
      (split (find eq xs v))

begins : (ns : List (Option ℕ)) (p : ℕ) (o : Option ℕ) (ps : List ℕ) → Linked ns o ps → o ≡ Some p → (back : List ℕ) × (ps ≡ p ∷ back)
begins ns p o [] l e = absurd (none-some p (sym l ∙ e))
begins ns p o (q ∷ back) l e =
    let s : Some q ≡ Some p = sym l.0 ∙ e in
    let t : q ≡ p = cc in
    (back, ap (λ (n : ℕ). n ∷ back) t)

-- the first place of a chain that leads to p stands just before p
precedes : (ns : List (Option ℕ)) (o : Option ℕ) (p : ℕ) (ps : List ℕ) → Linked ns o ps → (o ≢ Some p) → 0 < times p ps
    → (front : List ℕ) × (here : ℕ) × (back : List ℕ) × (ps ≡ front ++ here ∷ p ∷ back) × (find_in (λ h. at nat_eq p (slice_index_or ns h None)) ps ≡ Some here)
precedes ns o p [] l n t = absurd (omega arith)
precedes ns o p (q ∷ rest) l n t =
    let test = λ (h : ℕ). at nat_eq p (slice_index_or ns h None) in
    ⊎_elim
    (λ (b : test q ≡ true).
    let r = begins ns p (slice_index_or ns q None) rest l.1 (at_held nat_eq Decides-eqb p (slice_index_or ns q None) b) in
    ([], q, r.0, ap (λ (xs : List ℕ). q ∷ xs) r.1, ap (λ (c : Bool). cond c (Some q) (find_in test rest)) b))
    (λ (b : test q ≡ false).
    let r = precedes ns (slice_index_or ns q None) p rest l.1 (λ e. both_ways (test q) b (held_at nat_eq Decides-eqb p (slice_index_or ns q None) e)) (omega (arith, times_other p q rest (λ e. n (l.0 ∙ ap Some (sym e))))) in
    (q ∷ r.0, r.1, r.2, ap (λ (xs : List ℕ). q ∷ xs) r.3, ap (λ (c : Bool). cond c (Some q) (find_in test rest)) b ∙ r.4))
    (cases_Bool (test q))

-- what a walk to the place before p finds, where p is not the first of its chain
pub unlinked_later : (hs ns keys : List (Option ℕ)) (k p : ℕ) → Chained hs ns keys → slice_index_or keys p None ≡ Some k → (slice_index_or hs k None ≢ Some p) → (r : Option ℕ)
    → ((ps : List ℕ) → Linked ns (slice_index_or hs k None) ps → length ps ≤ 96 → r ≡ find_in (λ h. at nat_eq p (slice_index_or ns h None)) ps)
    → (here : ℕ) × (r ≡ Some here) × Chained hs (slice_set ns here (slice_index_or ns p None)) (slice_set keys p None)
unlinked_later hs ns keys k p c held other r walk =
    let d = c.chain k in
    let b = precedes ns (slice_index_or hs k None) p d.order d.linked other (held_once hs ns keys k p d held) in
    (b.1, walk d.order d.linked (chain_short hs ns keys k c.keys_size d) ∙ b.4, unlinked_after hs ns keys k p c b.0 b.1 b.2 held b.3)

none_keyed : (k n : ℕ) → count_by (at nat_eq k) (replicate n None) ≡ 0
none_keyed k zero = refl
none_keyed k (suc n) = none_keyed k n

-- a chain of nothing
pub nothing_chained : Chained (replicate 96 None) (replicate 96 None) (replicate 96 None)
nothing_chained = record {
  heads_size = length-replicate {A = Option ℕ} 96 None;
  nexts_size = length-replicate {A = Option ℕ} 96 None;
  keys_size = length-replicate {A = Option ℕ} 96 None;
  chain = λ k. record {
    order = [];
    linked = all_none k 96;
    exact = λ p. sym (at_none k (slice_index_or (replicate 96 None) p None) (all_none p 96));
    long = sym (none_keyed k 96);
  };
}
