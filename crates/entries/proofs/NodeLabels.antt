-- What the network counts in labels is what the filter list counts in rows of values, node by node.
use Rattle.std.proofs.Common.{◌≡◌, ℕ, zero, suc, ◌+◌, ◌-◌, ◌<◌, ◌≤◌, Bool, true, false, cond, ◌&&◌, eqb, List, [], ◌∷◌, ◌++◌, map, length, get_or, take, sym, refl, ap, ◌∙◌, add-one, arith}
use Rattle.std.specs.List.{AllByRecursion}
use Rattle.std.proofs.lemmas.List.{take_more}
use Rattle.std.proofs.ByRecursion.{All-get_or}
use Rattle.fields.specs.Orders.{field_count, is_field}
use Rattle.stores.specs.declared.pairs.Pair.{Pair}
use Rattle.stores.specs.Pairs.{same_pair}
use Rattle.filters.specs.Counting.{some, total, up_to}
use Rattle.filters.specs.Values.{Value, same_value, same_row}
use Rattle.filters.specs.Filters.{field, row}
use Rattle.filters.specs.Labels.{alone, node_fields}
use Rattle.labels.specs.Labels.{Standing, occurrences}
use Rattle.network.specs.Nodes.{key_at, at_node, alike, unused, fresh}
use Rattle.entries.specs.Entries.{Entry, row_of, in_network}
use Rattle.entries.proofs.Passing.{alone_alike, map_map, total_append, map_append_one, and_true}

-- rows with one value more
same_row_more : (vs ws : List Value) (v w : Value) → length vs ≡ length ws → same_row (vs ++ v ∷ []) (ws ++ w ∷ []) ≡ (same_row vs ws && same_value v w)
same_row_more [] [] v w e = and_true (same_value v w)
same_row_more [] (y ∷ ws) v w e = absurd (omega arith)
same_row_more (x ∷ vs) [] v w e = absurd (omega arith)
same_row_more (x ∷ vs) (y ∷ ws) v w e = ap (λ (b : Bool). same_value x y && b) (same_row_more vs ws v w (omega arith)) ∙ sym (and_assoc (same_value x y) (same_row vs ws) (same_value v w))
  where
    and_assoc : (a b c : Bool) → ((a && b) && c) ≡ (a && (b && c))
    and_assoc true b c = refl
    and_assoc false b c = refl

pub map_length : {X Y : Type 0} (f g : X → Y) (xs : List X) → length (map f xs) ≡ length (map g xs)
map_length f g [] = refl
map_length f g (x ∷ xs) = ap (λ (n : ℕ). suc n) (map_length f g xs)

pub map_get_or : {X Y : Type 0} (f : X → Y) (xs : List X) (i : ℕ) (d : X) (y : Y) → i < length xs → get_or (map f xs) i y ≡ f (get_or xs i d)
map_get_or f [] i d y l = absurd (omega arith)
map_get_or f (x ∷ xs) zero d y l = refl
map_get_or f (x ∷ xs) (suc i) d y l = map_get_or f xs i d y (omega arith)

-- entries whose labels tell values apart: in a field, and along the nodes
module _ (order : List ℕ) (fields : AllByRecursion (λ k. is_field field_count k ≡ true) order) (Good : Entry → Type 0)
    (field_same : (e g : Entry) → Good e → Good g → (k : ℕ) → is_field field_count k ≡ true → eqb (get_or e.labels.fields (k - 1) 0) (get_or g.labels.fields (k - 1) 0) ≡ same_value (field (row_of e) k) (field (row_of g) k))
    (n : ℕ) (size : length order ≡ n + 1)
    (node_same : (m : ℕ) → m ≤ n → (e g : Entry) → Good e → Good g → eqb (get_or e.labels.nodes m 0) (get_or g.labels.nodes m 0) ≡ alike m (in_network order e) (in_network order g)) where
  -- the labels at a position of the order
  position_same : (e g : Entry) → Good e → Good g → (m : ℕ) → m ≤ n → eqb (get_or (in_network order e).fields m 0) (get_or (in_network order g).fields m 0) ≡ same_value (field (row_of e) (get_or order m 0)) (field (row_of g) (get_or order m 0))
  position_same e g he hg m l =
      let in_order : m < length order = omega arith in
      ap (λ (x : ℕ). eqb x (get_or (in_network order g).fields m 0)) (map_get_or (λ f. get_or e.labels.fields (f - 1) 0) order m 0 0 in_order)
      ∙ ap (eqb (get_or e.labels.fields (get_or order m 0 - 1) 0)) (map_get_or (λ f. get_or g.labels.fields (f - 1) 0) order m 0 0 in_order)
      ∙ field_same e g he hg (get_or order m 0) (All-get_or (λ k. is_field field_count k ≡ true) order m 0 in_order fields)

  -- the same labels up to a position are the same values
  pub rows_same : (e g : Entry) → Good e → Good g → (m : ℕ) → m ≤ n → alike m (in_network order e) (in_network order g) ≡ same_row (row (take (m + 1) order) (row_of e)) (row (take (m + 1) order) (row_of g))
  rows_same e g he hg zero l =
      position_same e g he hg zero l
      ∙ sym (and_true (same_value (field (row_of e) (get_or order 0 0)) (field (row_of g) (get_or order 0 0))))
      ∙ sym (ap (λ (ks : List ℕ). same_row (row ks (row_of e)) (row ks (row_of g))) (take_more order 0 0 (omega arith)))
  rows_same e g he hg (suc m) l =
      let ks = take (suc m) order in
      ap (λ (b : Bool). b && eqb (get_or (in_network order e).fields (m + 1) 0) (get_or (in_network order g).fields (m + 1) 0)) (rows_same e g he hg m (omega arith))
      ∙ ap (λ (i : ℕ). same_row (row (take (m + 1) order) (row_of e)) (row (take (m + 1) order) (row_of g)) && eqb (get_or (in_network order e).fields i 0) (get_or (in_network order g).fields i 0)) (add-one m)
      ∙ ap (λ (i : ℕ). same_row (row (take i order) (row_of e)) (row (take i order) (row_of g)) && eqb (get_or (in_network order e).fields (suc m) 0) (get_or (in_network order g).fields (suc m) 0)) (add-one m)
      ∙ ap (λ (b : Bool). same_row (row ks (row_of e)) (row ks (row_of g)) && b) (position_same e g he hg (suc m) l)
      ∙ sym (same_row_more (row ks (row_of e)) (row ks (row_of g)) (field (row_of e) (get_or order (suc m) 0)) (field (row_of g) (get_or order (suc m) 0)) (map_length (field (row_of e)) (field (row_of g)) ks))
      ∙ sym (ap (λ (vs : List Value). same_row vs (row ks (row_of g) ++ field (row_of g) (get_or order (suc m) 0) ∷ [])) (map_append_one (field (row_of e)) ks (get_or order (suc m) 0)))
      ∙ sym (ap (λ (ws : List Value). same_row (row (ks ++ get_or order (suc m) 0 ∷ []) (row_of e)) ws) (map_append_one (field (row_of g)) ks (get_or order (suc m) 0)))
      ∙ sym (ap (λ (zs : List ℕ). same_row (row zs (row_of e)) (row zs (row_of g))) (take_more order (suc m) 0 (omega arith)))

  -- two combinations at a node are the same exactly if the rows of values up to it are
  pub keys_same : (e g : Entry) → Good e → Good g → (m : ℕ) → m < n → same_pair (key_at m (in_network order e)) (key_at m (in_network order g)) ≡ same_row (row (node_fields order (suc m)) (row_of e)) (row (node_fields order (suc m)) (row_of g))
  keys_same e g he hg m l =
      ap (λ (b : Bool). b && eqb (get_or (in_network order e).fields (m + 1) 0) (get_or (in_network order g).fields (m + 1) 0)) (node_same m (omega arith) e g he hg)
      ∙ rows_same e g he hg (suc m) (omega arith)

  -- no entry has the combination
  pub node_alone : (e : Entry) → Good e → (es : List Entry) → AllByRecursion Good es → (m : ℕ) → m < n → cond {A = ℕ} (unused (map (in_network order) es) (in_network order e) m) 1 0 ≡ alone (row_of e) (map row_of es) (node_fields order (suc m))
  node_alone e he es hs m l =
      let ks = node_fields order (suc m) in
      ap (λ (fs : List (Standing Pair)). cond {A = ℕ} (eqb (occurrences same_pair (key_at m (in_network order e)) fs) 0) 1 0) (map_map (at_node m) (in_network order) es)
      ∙ alone_alike (λ (s : Standing Pair). same_pair (key_at m (in_network order e)) s.key) (same_row (row ks (row_of e))) (λ (g : Entry). at_node m (in_network order g)) (λ (g : Entry). row ks (row_of g)) es (told es hs)
      ∙ sym (ap (λ (rs : List (List Value)). cond {A = ℕ} (some (same_row (row ks (row_of e))) rs) 0 1) (map_map (row ks) row_of es))
    where
      told : (gs : List Entry) → AllByRecursion Good gs → AllByRecursion (λ (g : Entry). same_pair (key_at m (in_network order e)) (key_at m (in_network order g)) ≡ same_row (row (node_fields order (suc m)) (row_of e)) (row (node_fields order (suc m)) (row_of g))) gs
      told [] h = tt
      told (g ∷ gs) h = (keys_same e g he h.0 m l, told gs h.1)

  -- over the first nodes
  pub nodes_alone : (e : Entry) → Good e → (es : List Entry) → AllByRecursion Good es → (m : ℕ) → m ≤ n → fresh (map (in_network order) es) (in_network order e) m ≡ total (alone (row_of e) (map row_of es)) (map (node_fields order) (up_to m))
  nodes_alone e he es hs zero l = refl
  nodes_alone e he es hs (suc m) l =
      let before = nodes_alone e he es hs m (omega arith) in
      let here = node_alone e he es hs m (omega arith) in
      let count = alone (row_of e) (map row_of es) in
      let parts = ap (total count) (map_append_one (node_fields order) (up_to m) (suc m)) ∙ total_append count (map (node_fields order) (up_to m)) (node_fields order (suc m) ∷ []) in
      omega (arith, before, here, parts)
