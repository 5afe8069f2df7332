-- A filter goes along the nodes.
use Rattle.std.proofs.Common.{◌≡◌, ℕ, zero, suc, ◌+◌, ◌-◌, ◌<◌, ◌≤◌, Bool, true, false, cond, eqb, List, [], ◌∷◌, ◌++◌, map, length, get_or, set, replicate, None, sym, refl, ap, ◌∙◌, subst, ⊎_elim, add-one, arith, length-append}
use mir.Val.{bool_byte}
use Rattle.std.proofs.lemmas.List.{get_or-set_same, get_or-set_other, get_or-map, get_or_default, length-map, map-append}
use Rattle.std.proofs.lemmas.Bool.{cases_eq, le-ltb}
use Rattle.fields.specs.declared.orders.NetworkOrder.{NetworkOrder}
use Rattle.labels.specs.Labels.{Standing, standing, occurrences}
use Rattle.parts.specs.Meaning.{Meaning, label_fault}
use Rattle.stores.specs.declared.pairs.Pair.{Pair}
use Rattle.stores.specs.Pairs.{pair, same_pair}
use Rattle.labelling.specs.declared.board.Board.{Board}
use Rattle.labelling.specs.Boards.{Stands, Labels}
use Rattle.network.specs.Nodes.{Filed, filed, key_at, at_node, Nodes, unused, fresh, arranged, Untold, AsksKept}

pub replicate_below : (n x i : ℕ) → x ≤ 95 → get_or (replicate n x) i 0 ≤ 95
replicate_below zero x i h = omega arith
replicate_below (suc n) x zero h = h
replicate_below (suc n) x (suc i) h = replicate_below n x i h

pub set_below : (ls : List ℕ) (k x : ℕ) → x ≤ 95 → Labels ls → k < length ls → Labels (set ls k x)
set_below ls k x h below l i = ⊎_elim (λ (e : i ≡ k). subst (λ (n : ℕ). get_or (set ls k x) n 0 ≤ 95) (sym e) (subst (λ (n : ℕ). n ≤ 95) (sym (get_or-set_same ls k x 0 l)) h)) (λ (ne : i ≡ k → ⊥). subst (λ (n : ℕ). n ≤ 95) (sym (get_or-set_other ls k i x 0 ne)) (below i)) (cases_eq i k)

pub none_over : (a b : ℕ) → a ≤ 95 → b ≤ 95 → label_fault (a ∷ b ∷ []) ≡ None
none_over a b ha hb = rw (le-ltb 95 a ha, le-ltb 95 b hb)

-- labels in network order are labels, and the one at a position is that of the position's field
pub arranged_below : (order labels : List ℕ) → Labels labels → Labels (arranged order labels)
arranged_below [] labels h i = omega arith
arranged_below (f ∷ order) labels h zero = h (f - 1)
arranged_below (f ∷ order) labels h (suc i) = arranged_below order labels h i

pub field_is : (order labels : List ℕ) (i r : ℕ) → i < length order → r ≡ get_or order i 0 - 1 → get_or labels r 0 ≡ get_or (arranged order labels) i 0
field_is order labels i r l e = ap (λ (n : ℕ). get_or labels n 0) e ∙ sym (get_or-map (λ (f : ℕ). get_or labels (f - 1) 0) order i 0 0 l)

pub key_is : (order labels along : List ℕ) (k r : ℕ) → k + 1 < length order → r ≡ get_or order (k + 1) 0 - 1 → pair (get_or along k 0) (get_or labels r 0) ≡ key_at k (filed (arranged order labels) along)
key_is order labels along k r l e = ap (λ (n : ℕ). pair (get_or along k 0) n) (field_is order labels (k + 1) r l e)

pub map_split : (j : ℕ) (before after : List Filed) (f : Filed) → map (at_node j) (before ++ f ∷ after) ≡ map (at_node j) before ++ at_node j f ∷ map (at_node j) after
map_split j before after f = map-append (at_node j) before (f ∷ after)

pub map_length : (j : ℕ) (before after : List Filed) → length (before ++ after) < 96 → length (map (at_node j) before ++ map (at_node j) after) < 96
map_length j before after h = omega (arith, length-append (map (at_node j) before) (map (at_node j) after), length-map before (at_node j), length-map after (at_node j), length-append before after)

-- a later label is not seen at an earlier node
key_kept : (fields labels : List ℕ) (j k x : ℕ) → j ≤ k → key_at j (filed fields (set labels (k + 1) x)) ≡ key_at j (filed fields labels)
key_kept fields labels j k x l = ap (λ (n : ℕ). pair n (get_or fields (j + 1) 0)) (get_or-set_other labels (k + 1) j x 0 (omega arith))

node_kept : (fields labels : List ℕ) (j k x : ℕ) → j < k → at_node j (filed fields (set labels (k + 1) x)) ≡ at_node j (filed fields labels)
node_kept fields labels j k x l =
    let a : get_or (set labels (k + 1) x) j 0 ≡ get_or labels j 0 = get_or-set_other labels (k + 1) j x 0 (omega arith) in
    let b : get_or (set labels (k + 1) x) (j + 1) 0 ≡ get_or labels (j + 1) 0 = get_or-set_other labels (k + 1) (j + 1) x 0 (omega arith) in
    cc

node_new : (fields labels : List ℕ) (k x : ℕ) → k + 1 < length labels → standing (key_at k (filed fields labels)) x ≡ at_node k (filed fields (set labels (k + 1) x))
node_new fields labels k x l =
    let a : get_or (set labels (k + 1) x) k 0 ≡ get_or labels k 0 = get_or-set_other labels (k + 1) k x 0 (omega arith) in
    let b : get_or (set labels (k + 1) x) (k + 1) 0 ≡ x = get_or-set_same labels (k + 1) x 0 l in
    cc

-- whether a combination is in use goes by its key
unused_key : (fs : List Filed) (f g : Filed) (j : ℕ) → key_at j f ≡ key_at j g → unused fs f j ≡ unused fs g j
unused_key fs f g j e = ap (λ (p : Pair). eqb (occurrences same_pair p (map (at_node j) fs)) 0) e

-- the labels that nodes after it have do not matter
fresh_kept : (fs : List Filed) (fields labels : List ℕ) (k x n : ℕ) → n ≤ k + 1 → fresh fs (filed fields (set labels (k + 1) x)) n ≡ fresh fs (filed fields labels) n
fresh_kept fs fields labels k x zero l = refl
fresh_kept fs fields labels k x (suc n) l =
    ap (λ (m : ℕ). m + cond (unused fs (filed fields (set labels (k + 1) x)) n) 1 0) (fresh_kept fs fields labels k x n (omega arith))
    ∙ ap (λ (b : Bool). fresh fs (filed fields labels) n + cond b 1 0) (unused_key fs (filed fields (set labels (k + 1) x)) (filed fields labels) n (key_kept fields labels n k x (omega arith)))

bit : (b : Bool) → bool_byte b ≡ cond b 1 0
bit true = refl
bit false = refl

pub bit_one : (b : Bool) → bool_byte b ≤ 1
bit_one true = omega arith
bit_one false = omega arith

-- what a node says of the filters before and behind, said of all
pub unused_split : (before after : List Filed) (f : Filed) (k : ℕ) (p : Pair) → p ≡ key_at k f → eqb (occurrences same_pair p (map (at_node k) before ++ map (at_node k) after)) 0 ≡ unused (before ++ after) f k
unused_split before after f k p e =
    ap (λ (q : Pair). eqb (occurrences same_pair q (map (at_node k) before ++ map (at_node k) after)) 0) e
    ∙ ap (λ (ss : List (Standing Pair)). eqb (occurrences same_pair (key_at k f) ss) 0) (sym (map-append (at_node k) before after))

pub fresh_same : (fs : List Filed) (f : Filed) (k new : ℕ) (b : Bool) → new ≡ fresh fs f k → b ≡ unused fs f k → new + bool_byte b ≡ fresh fs f (k + 1)
fresh_same fs f k new b e h =
    ap (λ (n : ℕ). n + bool_byte b) e
    ∙ ap (λ (n : ℕ). fresh fs f k + n) (bit b)
    ∙ ap (λ (c : Bool). fresh fs f k + cond c 1 0) h
    ∙ ap (fresh fs f) (sym (add-one k))

pub fresh_more : (fs : List Filed) (fields labels : List ℕ) (k x new : ℕ) (b : Bool) → new ≡ fresh fs (filed fields labels) k
    → b ≡ unused fs (filed fields labels) k
    → new + bool_byte b ≡ fresh fs (filed fields (set labels (k + 1) x)) (k + 1)
fresh_more fs fields labels k x new b e h = fresh_same fs (filed fields labels) k new b e h ∙ sym (fresh_kept fs fields labels k x (k + 1) (omega arith))

module _ {S : Type 0} (shows : S → Meaning Pair → Type 0) where
  abbrev BoardStands : Board Pair S → List (Standing Pair) → ℕ → Type 0
  BoardStands b fs n = Stands same_pair shows b.table.slots b.part fs n

  -- the node as a loop over the nodes reaches it
  pub node_before : (nodes nodes₀ : List (Board Pair S)) (k : ℕ) (d : Board Pair S) (before after : List Filed) (ns : List ℕ) → k < 5
      → ((j : ℕ) (d : Board Pair S) → k ≤ j → get_or nodes j d ≡ get_or nodes₀ j d)
      → Nodes shows nodes₀ (before ++ after) ns 5
      → BoardStands (get_or nodes k d) (map (at_node k) before ++ map (at_node k) after) (get_or ns k 0)
  node_before nodes nodes₀ k d before after ns l kept s =
      subst (λ (fs : List (Standing Pair)). BoardStands (get_or nodes k d) fs (get_or ns k 0)) (map-append (at_node k) before after)
      (subst (λ (x : Board Pair S). BoardStands x (map (at_node k) (before ++ after)) (get_or ns k 0)) (sym (kept k d (omega arith)))
      (s k d l))

  -- a filter has entered the nodes up to k
  pub chained : (nodes : List (Board Pair S)) (k : ℕ) (b : Board Pair S) (before after : List Filed) (fields labels : List ℕ) (x : ℕ) (ns : List ℕ) (p : Pair)
      → k < length nodes → k + 1 < length labels → p ≡ key_at k (filed fields labels)
      → Nodes shows nodes (before ++ filed fields labels ∷ after) ns k
      → BoardStands b (map (at_node k) before ++ standing p x ∷ map (at_node k) after) (get_or ns k 0)
      → Nodes shows (set nodes k b) (before ++ filed fields (set labels (k + 1) x) ∷ after) ns (k + 1)
  chained nodes k b before after fields labels x ns p ln ll key old new j d lt =
      ⊎_elim
      (λ (e : j ≡ k). subst (λ (n : ℕ). BoardStands (get_or (set nodes k b) n d) (map (at_node n) (before ++ filed fields (set labels (k + 1) x) ∷ after)) (get_or ns n 0)) (sym e)
      (subst (λ (c : Board Pair S). BoardStands c (map (at_node k) (before ++ filed fields (set labels (k + 1) x) ∷ after)) (get_or ns k 0)) (sym (get_or-set_same nodes k b d ln))
      (subst (λ (fs : List (Standing Pair)). BoardStands b fs (get_or ns k 0)) (sym (map_split k before after (filed fields (set labels (k + 1) x))))
      (subst (λ (f : Standing Pair). BoardStands b (map (at_node k) before ++ f ∷ map (at_node k) after) (get_or ns k 0)) (ap (λ (q : Pair). standing q x) key ∙ node_new fields labels k x ll) new))))
      (λ (ne : j ≡ k → ⊥).
      let l : j < k = omega arith in
      subst (λ (c : Board Pair S). BoardStands c (map (at_node j) (before ++ filed fields (set labels (k + 1) x) ∷ after)) (get_or ns j 0)) (sym (get_or-set_other nodes k j b d ne))
      (subst (λ (fs : List (Standing Pair)). BoardStands (get_or nodes j d) fs (get_or ns j 0)) (sym (map_split j before after (filed fields (set labels (k + 1) x))))
      (subst (λ (f : Standing Pair). BoardStands (get_or nodes j d) (map (at_node j) before ++ f ∷ map (at_node j) after) (get_or ns j 0)) (sym (node_kept fields labels j k x l))
      (subst (λ (fs : List (Standing Pair)). BoardStands (get_or nodes j d) fs (get_or ns j 0)) (map_split j before after (filed fields labels)) (old j d l)))))
      (cases_eq j k)

  -- a filter has left the nodes up to k
  pub unchained : (nodes : List (Board Pair S)) (k : ℕ) (b : Board Pair S) (before after : List Filed) (ns : List ℕ) → k < length nodes
      → Nodes shows nodes (before ++ after) ns k
      → BoardStands b (map (at_node k) before ++ map (at_node k) after) (get_or ns k 0)
      → Nodes shows (set nodes k b) (before ++ after) ns (k + 1)
  unchained nodes k b before after ns ln old new j d lt =
      ⊎_elim
      (λ (e : j ≡ k). subst (λ (n : ℕ). BoardStands (get_or (set nodes k b) n d) (map (at_node n) (before ++ after)) (get_or ns n 0)) (sym e)
      (subst (λ (c : Board Pair S). BoardStands c (map (at_node k) (before ++ after)) (get_or ns k 0)) (sym (get_or-set_same nodes k b d ln))
      (subst (λ (fs : List (Standing Pair)). BoardStands b fs (get_or ns k 0)) (sym (map-append (at_node k) before after)) new)))
      (λ (ne : j ≡ k → ⊥). subst (λ (c : Board Pair S). BoardStands c (map (at_node j) (before ++ after)) (get_or ns j 0)) (sym (get_or-set_other nodes k j b d ne)) (old j d (omega arith)))
      (cases_eq j k)

-- one node more whose store was told only if it had to be
pub untold_more : {S : Type 0} (nodes₀ nodes : List (Board Pair S)) (k : ℕ) (b : Board Pair S) (fs : List Filed) (f g : Filed) (d₀ : Board Pair S) → k < length nodes
    → ((j : ℕ) (d : Board Pair S) → k ≤ j → get_or nodes j d ≡ get_or nodes₀ j d)
    → ((j : ℕ) → j ≤ k → key_at j g ≡ key_at j f)
    → (unused fs f k ≡ false → b.part ≡ (get_or nodes k d₀).part)
    → Untold nodes₀ nodes fs f k → Untold nodes₀ (set nodes k b) fs g (k + 1)
untold_more {S} nodes₀ nodes k b fs f g d₀ ln kept keys here old j d lt u =
    let u' : unused fs f j ≡ false = unused_key fs f g j (sym (keys j (omega arith))) ∙ u in
    ⊎_elim
    (λ (e : j ≡ k).
    let s : get_or (set nodes k b) j d ≡ b = ap (λ (n : ℕ). get_or (set nodes k b) n d) e ∙ get_or-set_same nodes k b d ln in
    let o : get_or nodes k d₀ ≡ get_or nodes₀ j d = get_or_default nodes k d₀ d ln ∙ kept k d (omega arith) ∙ ap (λ (n : ℕ). get_or nodes₀ n d) (sym e) in
    ap (λ (x : Board Pair S). x.part) s ∙ here (subst (λ (n : ℕ). unused fs f n ≡ false) e u') ∙ ap (λ (x : Board Pair S). x.part) o)
    (λ (ne : j ≡ k → ⊥). ap (λ (x : Board Pair S). x.part) (get_or-set_other nodes k j b d ne) ∙ old j d (omega arith) u')
    (cases_eq j k)

-- the keys at the nodes so far are those of the filter with one label more
pub keys_kept : (fields labels : List ℕ) (k x : ℕ) (j : ℕ) → j ≤ k → key_at j (filed fields (set labels (k + 1) x)) ≡ key_at j (filed fields labels)
keys_kept fields labels k x j l = key_kept fields labels j k x l

-- one node more that keeps what its store may have been asked
pub asks_more : {S : Type 0} (agrees : S → List Pair → Type 0) (nodes₀ nodes : List (Board Pair S)) (k : ℕ) (b d₀ : Board Pair S) → k < length nodes
    → ((l : List Pair) → agrees (get_or nodes k d₀).part l → agrees b.part l)
    → AsksKept agrees nodes₀ nodes → AsksKept agrees nodes₀ (set nodes k b)
asks_more {S} agrees nodes₀ nodes k b d₀ ln here old j d l a =
    ⊎_elim
    (λ (e : j ≡ k).
    subst (λ (x : Board Pair S). agrees x.part l) (sym (ap (λ (n : ℕ). get_or (set nodes k b) n d) e ∙ get_or-set_same nodes k b d ln))
    (here l (subst (λ (x : Board Pair S). agrees x.part l) (ap (λ (n : ℕ). get_or nodes n d) e ∙ get_or_default nodes k d d₀ ln) (old j d l a))))
    (λ (ne : j ≡ k → ⊥). subst (λ (x : Board Pair S). agrees x.part l) (sym (get_or-set_other nodes k j b d ne)) (old j d l a))
    (cases_eq j k)

-- the field that the loop reads is the one at the next position
pub next_is : (o o₀ : NetworkOrder) (k r : ℕ) → o ≡ o₀ → r ≡ get_or o.fields (k + 2 - 1) 0 - 1 → r ≡ get_or o₀.fields (k + 1) 0 - 1
next_is o o₀ k r e h =
    let i : k + 2 - 1 ≡ k + 1 = omega arith in
    h ∙ ap (λ (x : NetworkOrder). get_or x.fields (k + 2 - 1) 0 - 1) e ∙ ap (λ (n : ℕ). get_or o₀.fields n 0 - 1) i
