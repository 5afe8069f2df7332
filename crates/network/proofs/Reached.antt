-- A filter's label at a node is found exactly if its labels in the fields up to it are.
use Rattle.std.proofs.Common.{◌≡◌, ℕ, zero, suc, ◌+◌, ◌*◌, ◌<◌, ◌≤◌, Bool, true, false, cond, ◌&&◌, ◌||◌, eqb, List, [], ◌∷◌, map, length, get_or, Some, None, Decides, Option, sym, refl, ap, ◌∙◌, subst, add-one, arith}
use Rattle.std.specs.List.{AllByRecursion}
use Rattle.std.proofs.ByRecursion.{All-get_or}
use Rattle.std.proofs.lemmas.Bool.{eqb-true, eq-eqb, both_ways}
use Rattle.labels.specs.Labels.{Standing, here, keys}
use Rattle.labels.proofs.Tables.{keys_at, at_key, all_turn}
use Rattle.parts.specs.Meaning.{Meaning, at}
use Rattle.parts.specs.Marks.{labels_of}
use Rattle.stores.specs.declared.pairs.Pair.{Pair}
use Rattle.stores.specs.Pairs.{same_pair}
use Rattle.stores.specs.Alike.{pair_decides}
use Rattle.labelling.specs.declared.board.Board.{Board}
use Rattle.labelling.specs.Boards.{member}
use Rattle.filters.specs.Counting.{some, different}
use Rattle.labelling.proofs.Listed.{held_tested, found_different}
use Rattle.network.specs.Products.{both_found}
use Rattle.network.specs.Nodes.{Filed, key_at, at_node, First, Nodes, alike, OneLabel}
use Rattle.network.specs.Searches.{reached, all_found, places_of, pairs, rows_found, pairs_by_rows}

-- one place holds one value
at_one : {X : Type 0} (eq : X → X → Bool) (law : (a b : X) → Decides (eq a b) (a ≡ b)) (a b : X) (o : Option X) → at eq a o ≡ true → at eq b o ≡ true → a ≡ b
at_one eq law a b None p q = absurd (both_ways false refl p)
at_one eq law a b (Some w) p q = (law a w).0 p ∙ sym ((law b w).0 q)

module _ (places : ℕ → List (Option Pair)) where
  -- the node holds the filter's combination at the filter's label
  abbrev pub Holds : ℕ → Filed → Type 0
  Holds j f = at same_pair (key_at j f) (get_or (places j) (get_or f.along (j + 1) 0) None) ≡ true

  -- the filter's label at a node was found exactly if its labels in the fields up to it were
  pub found_iff : (found : ℕ → List ℕ) (f : Filed) → First f → (n : ℕ) → ((j : ℕ) → j < n → Holds j f)
      → member (get_or f.along n 0) (reached places found n) ≡ all_found found f n
  found_iff found f first zero holds = ap (λ (l : ℕ). member l (found 0)) first
  found_iff found f first (suc n) holds =
      let before = found_iff found f first n (λ j l. holds j (omega arith)) in
      ap (λ (k : ℕ). member (get_or f.along k 0) (labels_of (both_found (reached places found n) (found (n + 1))) (places n))) (sym (add-one n))
      ∙ held_tested same_pair pair_decides (both_found (reached places found n) (found (n + 1))) (places n) (get_or f.along (n + 1) 0) (key_at n f) (holds n (omega arith))
      ∙ ap (λ (b : Bool). b && member (get_or f.fields (n + 1) 0) (found (n + 1))) before

pub all_unmap : {X Y : Type 0} (f : X → Y) (P : Y → Type 0) (xs : List X) → AllByRecursion P (map f xs) → AllByRecursion (λ x. P (f x)) xs
all_unmap f P [] h = tt
all_unmap f P (x ∷ xs) h = (h.0, all_unmap f P xs h.1)

all_both : {X : Type 0} (P Q : X → Type 0) (xs : List X) → AllByRecursion P xs → AllByRecursion Q xs → AllByRecursion (λ x. P x × Q x) xs
all_both P Q [] p q = tt
all_both P Q (x ∷ xs) p q = ((p.0, q.0), all_both P Q xs p.1 q.1)

both_or_none : (x y : Bool) → (x ≡ true → y ≡ true) → (y ≡ true → x ≡ true) → x ≡ y
both_or_none true true f g = refl
both_or_none true false f g = sym (f refl)
both_or_none false true f g = g refl
both_or_none false false f g = refl

-- counting different elements by another equality and test that say the same of them
module _ {X Y : Type 0} (a : X → Y) (eq : Y → Y → Bool) (p : Y → Bool) (eq' : X → X → Bool) (p' : X → Bool) (Good : X → Type 0)
    (same : (f g : X) → Good f → Good g → eq (a f) (a g) ≡ eq' f g) (pass : (f : X) → Good f → p (a f) ≡ p' f) where
  some_same : (f : X) → Good f → (gs : List X) → AllByRecursion Good gs → some (eq (a f)) (map a gs) ≡ some (eq' f) gs
  some_same f hf [] h = refl
  some_same f hf (g ∷ gs) h = ap (λ (b : Bool). b || some (eq (a f)) (map a gs)) (same f g hf h.0) ∙ ap (λ (b : Bool). eq' f g || b) (some_same f hf gs h.1)

  different_same : (fs : List X) → AllByRecursion Good fs → different eq p (map a fs) ≡ different eq' p' fs
  different_same [] h = refl
  different_same (f ∷ fs) h =
      ap (λ (b : Bool). cond b 0 (cond (p (a f)) 1 0) + different eq p (map a fs)) (some_same f h.0 fs h.1)
      ∙ ap (λ (b : Bool). cond (some (eq' f) fs) 0 (cond b 1 0) + different eq p (map a fs)) (pass f h.0)
      ∙ ap (λ (n : ℕ). cond (some (eq' f) fs) 0 (cond (p' f) 1 0) + n) (different_same fs h.1)

map_keys : (j : ℕ) (fs : List Filed) → map (λ (x : Standing Pair). x.key) (map (at_node j) fs) ≡ map (key_at j) fs
map_keys j [] = refl
map_keys j (f ∷ fs) = ap (λ (ps : List Pair). key_at j f ∷ ps) (map_keys j fs)

all_swap : {X : Type 0} (Q : ℕ → X → Type 0) (n : ℕ) (xs : List X) → ((j : ℕ) → j < n → AllByRecursion (Q j) xs) → AllByRecursion (λ x. (j : ℕ) → j < n → Q j x) xs
all_swap Q n [] h = tt
all_swap Q n (x ∷ xs) h = (λ j l. (h j l).0, all_swap Q n xs (λ j l. (h j l).1))

module _ {S : Type 0} (shows : S → Meaning Pair → Type 0) (d : Board Pair S) (nodes : List (Board Pair S)) (fs : List Filed) (ns : List ℕ) (n : ℕ) (s : Nodes shows nodes fs ns n) where
  -- each of the nodes holds each filter's combination
  all_hold : AllByRecursion (λ f. (j : ℕ) → j < n → Holds (places_of d nodes) j f) fs
  all_hold =
      all_swap (λ j f. Holds (places_of d nodes) j f) n fs
      (λ j l.
      let slots = (get_or nodes j d).table.slots in
      all_turn (λ f. here same_pair (key_at j f) (get_or slots (get_or f.along (j + 1) 0) None) ≡ true) (λ f. Holds (places_of d nodes) j f)
      (λ f h. ap (at same_pair (key_at j f)) (keys_at slots (get_or f.along (j + 1) 0)) ∙ at_key same_pair (key_at j f) (get_or slots (get_or f.along (j + 1) 0) None) ∙ h)
      fs
      (all_unmap (at_node j) (λ x. here same_pair x.key (get_or slots x.label None) ≡ true) fs (s j d l).labelled.holds))

  -- each standing filter is found at the last node exactly if all its labels were found
  pub all_reached : (found : ℕ → List ℕ) (last : List ℕ) → last ≡ reached (places_of d nodes) found n
      → AllByRecursion (λ f. First f → member (get_or f.along n 0) last ≡ all_found found f n) fs
  all_reached found last e =
      all_turn (λ f. (j : ℕ) → j < n → Holds (places_of d nodes) j f) (λ f. First f → member (get_or f.along n 0) last ≡ all_found found f n)
      (λ f holds first. ap (member (get_or f.along n 0)) e ∙ found_iff (places_of d nodes) found f first n holds)
      fs all_hold

  -- no combination is at two labels of a node
  single : (m : ℕ) → m < n → (i j : ℕ) (k : Pair) → at same_pair k (get_or (places_of d nodes m) i None) ≡ true → at same_pair k (get_or (places_of d nodes m) j None) ≡ true → i ≡ j
  single m l i j k p q =
      let slots = (get_or nodes m d).table.slots in
      let same : (x : ℕ) → at same_pair k (get_or (keys slots) x None) ≡ here same_pair k (get_or slots x None) = λ x. ap (at same_pair k) (keys_at slots x) ∙ at_key same_pair k (get_or slots x None) in
      (s m d l).labelled.single i j k (sym (same i) ∙ p) (sym (same j) ∙ q)

  -- the filter begins with its first field, and each node holds its combination
  abbrev pub Good : Filed → Type 0
  Good f = First f × ((j : ℕ) → j < n → Holds (places_of d nodes) j f)

  pub label_same : (m : ℕ) → m ≤ n → (f g : Filed) → Good f → Good g → eqb (get_or f.along m 0) (get_or g.along m 0) ≡ alike m f g
  label_same zero l f g hf hg = ap (λ (x : ℕ). eqb x (get_or g.along 0 0)) hf.0 ∙ ap (eqb (get_or f.fields 0 0)) hg.0
  label_same (suc m) l f g hf hg =
      let f-here = hf.1 m (omega arith) in
      let g-here = hg.1 m (omega arith) in
      let x : ℕ = get_or f.along (m + 1) 0 in
      let y : ℕ = get_or g.along (m + 1) 0 in
      ap (λ (i : ℕ). eqb (get_or f.along i 0) (get_or g.along i 0)) (sym (add-one m))
      ∙ both_or_none (eqb x y) (same_pair (key_at m f) (key_at m g))
      (λ e. (pair_decides (key_at m f) (key_at m g)).1 (at_one same_pair pair_decides (key_at m f) (key_at m g) (get_or (places_of d nodes m) y None) (subst (λ (i : ℕ). at same_pair (key_at m f) (get_or (places_of d nodes m) i None) ≡ true) (eqb-true x y e) f-here) g-here))
      (λ e. eq-eqb x y (single m (omega arith) x y (key_at m g) (subst (λ (q : Pair). at same_pair q (get_or (places_of d nodes m) x None) ≡ true) ((pair_decides (key_at m f) (key_at m g)).0 e) f-here) g-here))
      ∙ ap (λ (b : Bool). b && eqb (get_or f.fields (m + 1) 0) (get_or g.fields (m + 1) 0)) (label_same m (omega arith) f g hf hg)

  module _ (first : AllByRecursion First fs) where
    pub all_good : AllByRecursion Good fs
    all_good = all_both First (λ f. (j : ℕ) → j < n → Holds (places_of d nodes) j f) fs first all_hold

    pub one_label : OneLabel fs n
    one_label i j x li lj m l = label_same m l (get_or fs i x) (get_or fs j x) (All-get_or Good fs i x li all_good) (All-get_or Good fs j x lj all_good)

    -- as many labels are found at a node as different label rows of the filters were found up to it
    many_rows : (found : ℕ → List ℕ) (m : ℕ) → m ≤ n → length (reached (places_of d nodes) found m) ≡ rows_found found fs m
    many_rows found zero l = refl
    many_rows found (suc m) l =
        let test = both_found (reached (places_of d nodes) found m) (found (m + 1)) in
        found_different same_pair pair_decides (get_or nodes m d).table.slots (map (at_node m) fs) (s m d (omega arith)).labelled test
        ∙ ap (different same_pair test) (map_keys m fs)
        ∙ different_same (key_at m) same_pair test (alike (suc m)) (λ f. all_found found f (suc m)) Good
        (λ f g hf hg. ap (λ (b : Bool). b && eqb (get_or f.fields (m + 1) 0) (get_or g.fields (m + 1) 0)) (label_same m (omega arith) f g hf hg))
        (λ f hf. ap (λ (b : Bool). b && member (get_or f.fields (m + 1) 0) (found (m + 1))) (found_iff (places_of d nodes) found f hf.0 m (λ j lj. hf.1 j (omega arith))))
        fs all_good

    pub by_rows : (found : ℕ → List ℕ) (m : ℕ) → m ≤ n → pairs (places_of d nodes) found m ≡ pairs_by_rows found fs m
    by_rows found zero l = refl
    by_rows found (suc m) l =
        ap (λ (x : ℕ). x + length (reached (places_of d nodes) found m) * length (found (m + 1))) (by_rows found m (omega arith))
        ∙ ap (λ (x : ℕ). pairs_by_rows found fs m + x * length (found (m + 1))) (many_rows found m (omega arith))

    -- as many keys stand at a node as the filters have different label rows up to it
    pub rows_at : (m : ℕ) → m < n → different same_pair (λ _. true) (map (λ (x : Standing Pair). x.key) (map (at_node m) fs)) ≡ different (alike (suc m)) (λ _. true) fs
    rows_at m l =
        ap (different same_pair (λ _. true)) (map_keys m fs)
        ∙ different_same (key_at m) same_pair (λ _. true) (alike (suc m)) (λ _. true) Good
        (λ f g hf hg. ap (λ (b : Bool). b && eqb (get_or f.fields (m + 1) 0) (get_or g.fields (m + 1) 0)) (label_same m (omega arith) f g hf hg))
        (λ f hf. refl)
        fs all_good
