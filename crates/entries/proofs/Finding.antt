-- Search: what is found by labels is what the filter list finds by values.
use Rattle.std.proofs.Common.{◌≡◌, ℕ, zero, suc, ◌+◌, ◌-◌, ◌*◌, ◌<◌, ◌≤◌, Bool, true, false, cond, ◌&&◌, eqb, leb, List, [], ◌∷◌, ◌++◌, map, length, get_or, take, sym, refl, ap, ◌∙◌, ⊎_elim, add-one, arith}
use Rattle.std.specs.List.{AllByRecursion}
use Rattle.std.proofs.lemmas.List.{take_more}
use Rattle.std.proofs.ByRecursion.{All-get_or}
use Rattle.std.proofs.lemmas.Bool.{cases_eq, ne_eqb, both_ways, and_parts, and_from, leb-true}
use Rattle.fields.specs.Orders.{field_count, is_field, times, EachOnce}
use Rattle.fields.proofs.EachOnce.{all_from_once}
use Rattle.filters.specs.declared.rows.FilterRow.{FilterRow}
use Rattle.filters.specs.declared.rows.Header.{Header}
use Rattle.filters.specs.Counting.{every, total, different, up_to}
use Rattle.filters.specs.Values.{Value, value_takes, same_value, row_takes, same_row}
use Rattle.filters.specs.Filters.{field, row, number_in, numbers_in, matches}
use Rattle.filters.specs.Labels.{in_use, node_fields, found as found_rows, pairs_at}
use Rattle.labelling.specs.Boards.{member}
use Rattle.network.specs.Nodes.{alike, rows_in_use}
use Rattle.network.specs.Searches.{all_found, rows_found, pairs_by_rows}
use Rattle.entries.specs.Entries.{Entry, row_of, in_network}
use Rattle.entries.proofs.Passing.{map_map, total_append, map_append_one, and_true, different_alike}
use Rattle.entries.proofs.NodeLabels.{rows_same, map_get_or}

-- rows with one value more
row_takes_more : (vs : List Value) (ns : List ℕ) (v : Value) (n : ℕ) → length vs ≡ length ns → row_takes (vs ++ v ∷ []) (ns ++ n ∷ []) ≡ (row_takes vs ns && value_takes v n)
row_takes_more [] [] v n e = and_true (value_takes v n)
row_takes_more [] (m ∷ ns) v n e = absurd (omega arith)
row_takes_more (w ∷ vs) [] v n e = absurd (omega arith)
row_takes_more (w ∷ vs) (m ∷ ns) v n e = ap (λ (b : Bool). value_takes w m && b) (row_takes_more vs ns v n (omega arith)) ∙ sym (and_assoc (value_takes w m) (row_takes vs ns) (value_takes v n))
  where
    and_assoc : (a b c : Bool) → ((a && b) && c) ≡ (a && (b && c))
    and_assoc true b c = refl
    and_assoc false b c = refl

-- a row is taken if each of its values is
takes_every : (f : FilterRow) (h : Header) (ks : List ℕ) → row_takes (row ks f) (numbers_in ks h) ≡ every (λ k. value_takes (field f k) (number_in h k)) ks
takes_every f h [] = refl
takes_every f h (k ∷ ks) = ap (λ (b : Bool). value_takes (field f k) (number_in h k) && b) (takes_every f h ks)

-- an order has every field, so it does not matter in which order the values are taken
every_at : (q : ℕ → Bool) (ks : List ℕ) (k : ℕ) → 1 ≤ times k ks → every q ks ≡ true → q k ≡ true
every_at q [] k l h = absurd (omega arith)
every_at q (x ∷ ks) k l h =
    ⊎_elim (λ (e : k ≡ x). ap q e ∙ (and_parts (q x) (every q ks) h).0)
    (λ (ne : k ≡ x → ⊥). every_at q ks k (omega (arith, ap (λ (b : Bool). cond {A = ℕ} b 1 0) (ne_eqb k x ne))) (and_parts (q x) (every q ks) h).1)
    (cases_eq k x)

every_from : (q : ℕ → Bool) (P : ℕ → Type 0) → ((k : ℕ) → P k → q k ≡ true) → (ks : List ℕ) → AllByRecursion P ks → every q ks ≡ true
every_from q P g [] h = refl
every_from q P g (k ∷ ks) h = and_from (q k) (every q ks) (g k h.0) (every_from q P g ks h.1)

both_or_none : (x y : Bool) → (x ≡ true → y ≡ true) → (y ≡ true → x ≡ true) → x ≡ y
both_or_none true true f g = refl
both_or_none true false f g = sym (f refl)
both_or_none false true f g = g refl
both_or_none false false f g = refl

once_up_to : (k : ℕ) → is_field field_count k ≡ true → 1 ≤ times k (up_to field_count)
once_up_to zero h = absurd (both_ways false refl h)
once_up_to (suc zero) h = omega arith
once_up_to (suc (suc zero)) h = omega arith
once_up_to (suc (suc (suc zero))) h = omega arith
once_up_to (suc (suc (suc (suc zero)))) h = omega arith
once_up_to (suc (suc (suc (suc (suc zero))))) h = omega arith
once_up_to (suc (suc (suc (suc (suc (suc zero)))))) h = omega arith
once_up_to (suc (suc (suc (suc (suc (suc (suc k))))))) h =
    absurd (omega (arith, leb-true (suc (suc (suc (suc (suc (suc (suc k))))))) 6 (and_parts (leb 1 (suc (suc (suc (suc (suc (suc (suc k)))))))) (leb (suc (suc (suc (suc (suc (suc (suc k))))))) 6) h).1))

any_order : (q : ℕ → Bool) (order : List ℕ) → length order ≡ field_count → EachOnce field_count order → every q order ≡ every q (up_to field_count)
any_order q order size once =
    both_or_none (every q order) (every q (up_to field_count))
    (λ h. every_from q (λ k. 1 ≤ times k order) (λ k l. every_at q order k l h) (up_to field_count)
    (let at : (k : ℕ) → 1 ≤ k → k ≤ 6 → 1 ≤ times k order = λ k l m. omega (arith, once k l m) in
    (at 1 (omega arith) (omega arith), (at 2 (omega arith) (omega arith), (at 3 (omega arith) (omega arith), (at 4 (omega arith) (omega arith), (at 5 (omega arith) (omega arith), (at 6 (omega arith) (omega arith), tt))))))))
    (λ h. every_from q (λ k. is_field field_count k ≡ true) (λ k l. every_at q (up_to field_count) k (once_up_to k l) h) order (all_from_once field_count order size once))

pub matches_any : (f : FilterRow) (h : Header) (order : List ℕ) → length order ≡ field_count → EachOnce field_count order → row_takes (row order f) (numbers_in order h) ≡ matches f h
matches_any f h order size once =
    takes_every f h order ∙ any_order (λ k. value_takes (field f k) (number_in h k)) order size once ∙ sym (takes_every f h (up_to field_count))

-- the labels found tell which values the header satisfies
module _ (order : List ℕ) (fields : AllByRecursion (λ k. is_field field_count k ≡ true) order) (n : ℕ) (size : length order ≡ n + 1) (h : Header) (found : ℕ → List ℕ) where
  -- an entry's label in a field is found exactly if its value there is satisfied
  abbrev pub ToldBy : Entry → Type 0
  ToldBy e = (k : ℕ) → is_field field_count k ≡ true → member (get_or e.labels.fields (k - 1) 0) (found (k - 1)) ≡ value_takes (field (row_of e) k) (number_in h k)

  abbrev at_position : ℕ → List ℕ
  at_position j = found (get_or order j 0 - 1)

  position_found : (e : Entry) → ToldBy e → (m : ℕ) → m ≤ n → member (get_or (in_network order e).fields m 0) (at_position m) ≡ value_takes (field (row_of e) (get_or order m 0)) (number_in h (get_or order m 0))
  position_found e t m l =
      let in_order : m < length order = omega arith in
      ap (λ (x : ℕ). member x (at_position m)) (map_get_or (λ f. get_or e.labels.fields (f - 1) 0) order m 0 0 in_order)
      ∙ t (get_or order m 0) (All-get_or (λ k. is_field field_count k ≡ true) order m 0 in_order fields)

  pub found_row : (e : Entry) → ToldBy e → (m : ℕ) → m ≤ n → all_found at_position (in_network order e) m ≡ row_takes (row (take (m + 1) order) (row_of e)) (numbers_in (take (m + 1) order) h)
  found_row e t zero l =
      position_found e t zero l
      ∙ sym (and_true (value_takes (field (row_of e) (get_or order 0 0)) (number_in h (get_or order 0 0))))
      ∙ sym (ap (λ (ks : List ℕ). row_takes (row ks (row_of e)) (numbers_in ks h)) (take_more order 0 0 (omega arith)))
  found_row e t (suc m) l =
      let ks = take (suc m) order in
      let f = row_of e in
      ap (λ (b : Bool). b && member (get_or (in_network order e).fields (m + 1) 0) (at_position (m + 1))) (found_row e t m (omega arith))
      ∙ ap (λ (i : ℕ). row_takes (row (take (m + 1) order) f) (numbers_in (take (m + 1) order) h) && member (get_or (in_network order e).fields i 0) (at_position i)) (add-one m)
      ∙ ap (λ (i : ℕ). row_takes (row (take i order) f) (numbers_in (take i order) h) && member (get_or (in_network order e).fields (suc m) 0) (at_position (suc m))) (add-one m)
      ∙ ap (λ (b : Bool). row_takes (row ks f) (numbers_in ks h) && b) (position_found e t (suc m) l)
      ∙ sym (row_takes_more (row ks f) (numbers_in ks h) (field f (get_or order (suc m) 0)) (number_in h (get_or order (suc m) 0)) (lengths ks))
      ∙ sym (ap (λ (vs : List Value). row_takes vs (numbers_in ks h ++ number_in h (get_or order (suc m) 0) ∷ [])) (map_append_one (field f) ks (get_or order (suc m) 0)))
      ∙ sym (ap (λ (ns : List ℕ). row_takes (row (ks ++ get_or order (suc m) 0 ∷ []) f) ns) (map_append_one (number_in h) ks (get_or order (suc m) 0)))
      ∙ sym (ap (λ (zs : List ℕ). row_takes (row zs f) (numbers_in zs h)) (take_more order (suc m) 0 (omega arith)))
    where
      lengths : (ks : List ℕ) → length (map (field (row_of e)) ks) ≡ length (map (number_in h) ks)
      lengths [] = refl
      lengths (k ∷ ks) = ap (λ (i : ℕ). suc i) (lengths ks)

  -- how many labels are found in each field
  module _ (es : List Entry) (Good : Entry → Type 0)
      (field_same : (e g : Entry) → Good e → Good g → (k : ℕ) → is_field field_count k ≡ true → eqb (get_or e.labels.fields (k - 1) 0) (get_or g.labels.fields (k - 1) 0) ≡ same_value (field (row_of e) k) (field (row_of g) k))
      (node_same : (m : ℕ) → m ≤ n → (e g : Entry) → Good e → Good g → eqb (get_or e.labels.nodes m 0) (get_or g.labels.nodes m 0) ≡ alike m (in_network order e) (in_network order g))
      (good : AllByRecursion (λ e. Good e × ToldBy e) es)
      (many : (k : ℕ) → is_field field_count k ≡ true → length (found (k - 1)) ≡ found_rows (k ∷ []) h (map row_of es)) where
    pub many_at : (j : ℕ) → j ≤ n → length (at_position j) ≡ found_rows (get_or order j 0 ∷ []) h (map row_of es)
    many_at j l = many (get_or order j 0) (All-get_or (λ k. is_field field_count k ≡ true) order j 0 (omega arith) fields)

    rows_found_same : (m : ℕ) → m ≤ n → rows_found at_position (map (in_network order) es) m ≡ found_rows (take (m + 1) order) h (map row_of es)
    rows_found_same zero l = many_at zero l ∙ ap (λ (ks : List ℕ). found_rows ks h (map row_of es)) (sym (take_more order 0 0 (omega arith)))
    rows_found_same (suc m) l =
        let ks = take (suc m + 1) order in
        different_alike (in_network order) (λ (e : Entry). row ks (row_of e)) (alike (suc m)) (λ f. all_found at_position f (suc m)) same_row (λ vs. row_takes vs (numbers_in ks h)) (λ e. Good e × ToldBy e)
        (λ e g he hg. rows_same order fields Good field_same n size node_same e g he.0 hg.0 (suc m) l)
        (λ e he. found_row e he.1 (suc m) l)
        es good
        ∙ ap (different same_row (λ vs. row_takes vs (numbers_in ks h))) (sym (map_map (row ks) row_of es))

    pub pairs_same : (m : ℕ) → m ≤ n → pairs_by_rows at_position (map (in_network order) es) m ≡ total (pairs_at order h (map row_of es)) (up_to m)
    pairs_same zero l = refl
    pairs_same (suc m) l =
        let before = pairs_same m (omega arith) in
        let fs = map row_of es in
        let left : rows_found at_position (map (in_network order) es) m ≡ found_rows (take (suc m) order) h fs = rows_found_same m (omega arith) ∙ ap (λ (i : ℕ). found_rows (take i order) h fs) (add-one m) in
        let right : length (at_position (m + 1)) ≡ found_rows (get_or order (suc m) 0 ∷ []) h fs = ap (λ (i : ℕ). length (at_position i)) (add-one m) ∙ many_at (suc m) l in
        let product : rows_found at_position (map (in_network order) es) m * length (at_position (m + 1)) ≡ pairs_at order h fs (suc m) = ap (λ (x : ℕ). x * length (at_position (m + 1))) left ∙ ap (λ (x : ℕ). found_rows (take (suc m) order) h fs * x) right in
        let parts = total_append (pairs_at order h fs) (up_to m) (suc m ∷ []) in
        omega (arith, before, product, parts)

-- labels in use at the nodes are different rows of values
module _ (order : List ℕ) (fields : AllByRecursion (λ k. is_field field_count k ≡ true) order) (n : ℕ) (size : length order ≡ n + 1) (es : List Entry) (Good : Entry → Type 0)
    (field_same : (e g : Entry) → Good e → Good g → (k : ℕ) → is_field field_count k ≡ true → eqb (get_or e.labels.fields (k - 1) 0) (get_or g.labels.fields (k - 1) 0) ≡ same_value (field (row_of e) k) (field (row_of g) k))
    (node_same : (m : ℕ) → m ≤ n → (e g : Entry) → Good e → Good g → eqb (get_or e.labels.nodes m 0) (get_or g.labels.nodes m 0) ≡ alike m (in_network order e) (in_network order g))
    (good : AllByRecursion Good es) where
  pub nodes_in_use : (m : ℕ) → m ≤ n → rows_in_use (map (in_network order) es) m ≡ total (in_use (map row_of es)) (map (node_fields order) (up_to m))
  nodes_in_use zero l = refl
  nodes_in_use (suc m) l =
      let before = nodes_in_use m (omega arith) in
      let ks = take (suc m + 1) order in
      let here = different_alike (in_network order) (λ (e : Entry). row ks (row_of e)) (alike (suc m)) (λ _. true) same_row (λ _. true) Good
      (λ e g he hg. rows_same order fields Good field_same n size node_same e g he hg (suc m) l) (λ e he. refl) es good
      ∙ ap (different same_row (λ _. true)) (sym (map_map (row ks) row_of es)) in
      let count = in_use (map row_of es) in
      let parts = ap (total count) (map_append_one (node_fields order) (up_to m) (suc m)) ∙ total_append count (map (node_fields order) (up_to m)) (node_fields order (suc m) ∷ []) in
      omega (arith, before, here, parts)
