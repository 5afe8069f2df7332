-- A prefix loses its label and then, from the last up, the nodes that nothing needs.
use Rattle.std.proofs.Common.{◌≡◌, ℕ, ◌+◌, ◌*◌, ◌<◌, ◌≤◌, Bool, true, false, cond, eqb, zero, suc, ◌⊎◌, List, [], ◌∷◌, ◌++◌, length, get_or, set, Some, None, Option, sym, refl, ap, ◌∙◌, subst, inl, inr, ⊎_elim, arith, length-set, length-append}
use mathlib.Core.Logic.{∥∥₁_elim, ∥∥₁_map}
use native.Mathlib.Bridge.{le_prop}
use Rattle.std.proofs.lemmas.Bool.{cases_lt, cond-true, cond-false, eqb-true, eq-eqb, and_parts, and_cases}
use Rattle.std.specs.List.{list_all}
use Rattle.std.specs.Prelude.{is_none}
use Rattle.arrayvec.specs.ArrayVec.{ArrayVec}
use Rattle.fields.specs.declared.prefixes.Prefix.{Prefix}
use Rattle.fields.specs.declared.prefixes.PrefixRow.{PrefixRow}
use Rattle.trie.specs.declared.nodes.Node.{Node}
use Rattle.trie.specs.declared.nodes.Tables.{Tables}
use Rattle.trie.specs.Strings.{string, bit_after, code, codes, first_strings, beginnings, Among, Begins}
use Rattle.trie.specs.Trees.{at, present, child, linked, labelled, is, bare, Stack, Listed, Good, Walked, Trimming}
use Rattle.trie.specs.Bitstrings.{shift_none, string_pos, bit_below, string_more, same_length, among_strings, strings_among}
use Rattle.trie.specs.Counting.{without}
use Rattle.trie.specs.Uses.{some_or_none}
use Rattle.trie.proofs.Walks.{along_value, passing_within, reaches}
use Rattle.trie.proofs.Begun.{shorter_begins, parent_begins, own_begins, none_longer, row_at, row_off, begins_off}
use Rattle.trie.proofs.Freed.{pruned, pruned_names, pruned_still, pruned_keeps, pruned_listed, pruned_stack}
use Rattle.trie.specs.Relabelled.{relabelled, wiped_names}

wiped : (t : Tables) (value : Prefix) (path : List ℕ) (p : ℕ) → Walked t value.row.address value.row.length path → p < 96 → get_or t.places p None ≡ Some value
    → Trimming record { places = set t.places p None; nodes = set t.nodes (get_or path value.row.length 0) (labelled (at t.nodes (get_or path value.row.length 0)) None); free = t.free } value path value.row.length
wiped t value path p w lp held =
    let g = w.good in
    let long = reaches t value path p w held in
    let node = get_or path value.row.length 0 in
    let own : g.key node ≡ string value.row.address value.row.length = w.passed value.row.length long in
    let li : 0 < g.key node = subst (λ (x : ℕ). 0 < x) (sym own) (string_pos value.row.address value.row.length) in
    let few : p < length t.places = omega (arith, g.frame.size) in
    let c = codes t.places in
    let c' = codes (set t.places p None) in
    record {
      key = g.key;
      ks = g.ks;
      frame = record {
        shape = relabelled g.key t.nodes node None g.frame.shape li;
        stack = g.frame.stack;
        named = wiped_names g.key t.nodes node None g.frame.shape li c c' p g.frame.named (λ l ne. ap code (row_off t.places p None few l ne)) refl (own ∙ sym (ap code held)) (ap code (row_at t.places p None few));
        listed = g.frame.listed;
        size = length-set t.places p None ∙ g.frame.size;
      };
      nearly = λ j pj lj. ⊎_elim
          (λ (x : Begins (set t.places p None) (g.key j)). inl x)
          (λ (y : Among (g.key j) (beginnings (get_or t.places p None))). inr (subst (λ (o : Option Prefix). Among (g.key j) (beginnings o)) held y))
          (begins_off t.places p None few (g.key j) (g.needed j pj lj));
      long = long;
      passed = λ j lj. w.passed j (omega arith);
    }

-- the path of a held prefix
module _ (t : Tables) (value : Prefix) (row : PrefixRow) (p : ℕ) (path shown : List ℕ) (own : row ≡ value.row) (same : shown ≡ path) (walk : ∥ Walked t row.address row.length path ∥₁) (held : get_or t.places p None ≡ Some value) where
  walk_own : ∥ Walked t value.row.address value.row.length shown ∥₁
  walk_own = along_value t value row path shown own same walk

  pub held_reached : row.length < length shown
  held_reached = ∥∥₁_elim walk_own le_prop (λ w. subst (λ (r : PrefixRow). r.length < length shown) (sym own) (reaches t value shown p w held))

  pub held_within : get_or shown row.length 0 < 3073
  held_within = ∥∥₁_elim walk_own le_prop (λ w. subst (λ (r : PrefixRow). get_or shown r.length 0 < 3073) (sym own) (passing_within t value.row.address value.row.length shown value.row.length w (reaches t value shown p w held)))

  pub held_wiped : p < 96 → ∥ Trimming record { places = set t.places p None; nodes = set t.nodes (get_or shown row.length 0) (labelled (at t.nodes (get_or shown row.length 0)) None); free = t.free } value shown value.row.length ∥₁
  held_wiped lp = ∥∥₁_map walk_own (λ w.
      subst (λ (r : PrefixRow). Trimming record { places = set t.places p None; nodes = set t.nodes (get_or shown r.length 0) (labelled (at t.nodes (get_or shown r.length 0)) None); free = t.free } value shown value.row.length) (sym own)
      (wiped t value shown p w lp held))

-- nothing is left to free
pub trimmed : (t : Tables) (value : Prefix) (path : List ℕ) → Trimming t value path 0 → Good t
trimmed t value path g = record {
  key = g.key;
  ks = g.ks;
  frame = g.frame;
  needed = λ j pj lj. ⊎_elim
      (λ (x : Begins t.places (g.key j)). x)
      (λ (y : Among (g.key j) (first_strings value.row.address 0)). let r = among_strings value.row.address 0 (g.key j) y in absurd (omega (arith, r.1, r.2)))
      (g.nearly j pj lj);
}

-- what a bare node lacks, and another has
none_is : (o : Option ℕ) → is_none o ≡ true → o ≡ None
none_is None h = refl
none_is (Some x) h = absurd (let z : ◌≡◌ {A = ℕ} 0 1 = cc in omega arith)

some_is : (o : Option ℕ) → is_none o ≡ false → (x : ℕ) × (o ≡ Some x)
some_is None h = absurd (let z : ◌≡◌ {A = ℕ} 0 1 = cc in omega arith)
some_is (Some x) h = (x, refl)

abbrev no_child : ℕ → Bool
no_child c = eqb c 0

all_none_at : (xs : List ℕ) → list_all no_child xs ≡ true → (d : ℕ) → present (get_or xs d 0) ≡ None
all_none_at [] h d = refl
all_none_at (x ∷ xs) h zero = cond-true (no_child x) None (Some x) (and_parts (no_child x) (list_all no_child xs) h).0
all_none_at (x ∷ xs) h (suc d) = all_none_at xs (and_parts (no_child x) (list_all no_child xs) h).1 d

some_at : (xs : List ℕ) → list_all no_child xs ≡ false → (d c : ℕ) × (d < length xs) × (present (get_or xs d 0) ≡ Some c)
some_at [] h = absurd (let z : ◌≡◌ {A = ℕ} 0 1 = cc in omega arith)
some_at (x ∷ xs) h = ⊎_elim
    (λ (e : no_child x ≡ false). (0, x, omega arith, cond-false (no_child x) None (Some x) e))
    (λ (e : list_all no_child xs ≡ false). let r = some_at xs e in (suc r.0, r.1, omega (arith, r.2), r.3))
    (and_cases (no_child x) (list_all no_child xs) h)

bare_leaf : (m : Node) → bare m ≡ true → (m.label ≡ None) × ((d : ℕ) → child m d ≡ None)
bare_leaf m h =
    let r = and_parts (is_none m.label) (list_all no_child m.children) h in
    (none_is m.label r.0, all_none_at m.children r.1)

not_bare : (m : Node) → length m.children ≡ 2 → bare m ≡ false → ((l : ℕ) × (m.label ≡ Some l)) ⊎ ((d c : ℕ) × (d < 2) × (child m d ≡ Some c))
not_bare m two h = ⊎_elim
    (λ (x : is_none m.label ≡ false). inl (some_is m.label x))
    (λ (y : list_all no_child m.children ≡ false). let r = some_at m.children y in inr (r.0, r.1, omega (arith, r.2), r.3))
    (and_cases (is_none m.label) (list_all no_child m.children) h)

none_listed : (ks : List ℕ) (v : ℕ) → length ks ≡ 0 → Among v ks → ⊥
none_listed [] v e h = h
none_listed (k ∷ ks) v e h = omega arith

-- the node of the first k + 1 bits
module _ (t : Tables) (value : Prefix) (path : List ℕ) (k : ℕ) (g : Trimming t value path (k + 1)) (less : k < value.row.length) where
  abbrev a : ℕ
  a = value.row.address

  abbrev i : ℕ
  i = get_or path k 0

  abbrev b : ℕ
  b = bit_after a k

  abbrev n : ℕ
  n = get_or path (k + 1) 0

  few : k < 32
  few = omega (arith, value.short)

  i_is : g.key i ≡ string a k
  i_is = g.passed k (omega arith)

  parent_used : 0 < g.key i
  parent_used = subst (λ (x : ℕ). 0 < x) (sym i_is) (string_pos a k)

  pub parent_within : i < 3073
  parent_within = g.frame.shape.bound i parent_used

  next_is : string a (k + 1) ≡ 2 * g.key i + b
  next_is = string_more a k few ∙ ap (λ (x : ℕ). 2 * x + b) (sym i_is)

  -- a longer string than the root's
  below_root : (c : ℕ) → 1 < g.key c → 0 < c
  below_root c more = ⊎_elim
      (λ (h : 0 < c). h)
      (λ (h : c ≤ 0). let z : c ≡ 0 = omega arith in absurd (omega (arith, ap g.key z, g.frame.shape.root)))
      (cases_lt 0 c)

  node_is : g.key n ≡ string a (k + 1)
  node_is = g.passed (k + 1) (omega arith)

  node_used : 0 < g.key n
  node_used = subst (λ (x : ℕ). 0 < x) (sym node_is) (string_pos a (k + 1))

  pub last_within : n < 3073
  last_within = g.frame.shape.bound n node_used

  link : child (at t.nodes i) b ≡ Some n
  link = ⊎_elim
      (λ (gap : child (at t.nodes i) b ≡ None). absurd (g.frame.shape.whole n node_used i b 0 parent_used (bit_below a k) gap (shift_none (g.key n) ∙ node_is ∙ next_is)))
      (λ (c : (x : ℕ) × (child (at t.nodes i) b ≡ Some x)).
      let c-is : g.key c.0 ≡ g.key n = g.frame.shape.next i b c.0 (bit_below a k) parent_used c.1 ∙ sym next_is ∙ sym node_is in
      c.1 ∙ ap Some (g.frame.shape.single c.0 n (subst (λ (x : ℕ). 0 < x) (sym c-is) node_used) node_used c-is))
      (some_or_none (child (at t.nodes i) b))

  -- if a held prefix begins with its string, every node is needed
  all_needed : Begins t.places (string a (k + 1)) → Good t
  all_needed h = record {
    key = g.key;
    ks = g.ks;
    frame = g.frame;
    needed = λ j pj lj. ⊎_elim
        (λ (x : Begins t.places (g.key j)). x)
        (λ (y : Among (g.key j) (first_strings a (k + 1))).
        let r = among_strings a (k + 1) (g.key j) y in
        (h.0, subst (λ (x : ℕ). Among x (beginnings (get_or t.places h.0 None))) (sym r.3) (shorter_begins (get_or t.places h.0 None) a (k + 1) r.0 value.fits (omega (arith, few)) r.1 r.2 h.1)))
        (g.nearly j pj lj);
  }

  label_needed : (l : ℕ) → (at t.nodes n).label ≡ Some l → Good t
  label_needed l e =
      let same : codes t.places l ≡ g.key n = eqb-true (codes t.places l) (g.key n) (sym (g.frame.named.names n l node_used) ∙ ap (λ (o : Option ℕ). is o l) e ∙ eq-eqb l l refl) in
      all_needed (l, own_begins (get_or t.places l None) a (k + 1) value.fits (omega arith) (omega (arith, few)) (same ∙ node_is))

  child_needed : (d c : ℕ) → d < 2 → child (at t.nodes n) d ≡ Some c → Good t
  child_needed d c ld e =
      let c-is : g.key c ≡ 2 * string a (k + 1) + d = g.frame.shape.next n d c ld node_used e ∙ ap (λ (x : ℕ). 2 * x + d) node_is in
      let used : 0 < g.key c = omega (arith, c-is, string_pos a (k + 1)) in
      ⊎_elim
      (λ (x : Begins t.places (g.key c)). all_needed (x.0, parent_begins (get_or t.places x.0 None) a (k + 1) d value.fits (omega arith) (omega (arith, few)) ld (subst (λ (z : ℕ). Among z (beginnings (get_or t.places x.0 None))) c-is x.1)))
      (λ (m : Among (g.key c) (first_strings a (k + 1))). absurd (none_longer a (k + 1) d value.fits (omega (arith, few)) (subst (λ (z : ℕ). Among z (first_strings a (k + 1))) c-is m)))
      (g.nearly c (below_root c (omega (arith, c-is, string_pos a (k + 1)))) used)

  pub spare_room : length t.free.items < 3072
  spare_room = ⊎_elim
      (λ (h : length t.free.items < 3072). h)
      (λ (h : 3072 ≤ length t.free.items). absurd (none_listed g.ks (g.key n) (omega (arith, g.frame.listed.many)) (g.frame.listed.each n (below_root n (omega (arith, node_is, next_is, parent_used))) node_used)))
      (cases_lt (length t.free.items) 3072)

  -- a bare leaf goes
  pub snipped : (free : ArrayVec ℕ) → free.items ≡ t.free.items ++ n ∷ [] → bare (at t.nodes n) ≡ true
      → Trimming record { places = t.places; nodes = set t.nodes i (linked (at t.nodes i) b None); free = free } value path k
  snipped free pushed is-bare =
      let s = g.frame.shape in
      let lb = bit_below a k in
      let q = bare_leaf (at t.nodes n) is-bare in
      let leaf = q.1 in
      let other : (j m : ℕ) → j < k + 1 → g.key m ≡ string a j → cond (eqb m n) 0 (g.key m) ≡ g.key m = λ j m lj e. pruned_keeps g.key t.nodes n i b s parent_used lb link leaf m (λ q. let z : j ≡ k + 1 = same_length a a j (k + 1) value.fits value.fits (omega (arith, few)) (omega (arith, few)) (sym e ∙ q ∙ node_is) in omega arith) in
      let more : length t.free.items + 1 ≡ length free.items = sym (ap length pushed ∙ length-append t.free.items (n ∷ [])) in
      record {
        key = λ j. cond (eqb j n) 0 (g.key j);
        ks = without (g.key n) g.ks;
        frame = record {
          shape = pruned g.key t.nodes n i b s parent_used lb link leaf;
          stack = subst (Stack (λ j. cond (eqb j n) 0 (g.key j))) (sym pushed) (pruned_stack g.key t.nodes n i b s parent_used lb link leaf t.free.items g.frame.stack);
          named = pruned_names g.key t.nodes n i b s parent_used lb link leaf (codes t.places) g.frame.named q.0;
          listed = subst (Listed (λ j. cond (eqb j n) 0 (g.key j)) (without (g.key n) g.ks)) more (pruned_listed g.key t.nodes n i b s parent_used lb link leaf g.ks (length t.free.items) g.frame.listed);
          size = g.frame.size;
        };
        nearly = λ j pj lj.
            let w = pruned_still g.key t.nodes n i b s parent_used lb link leaf j lj in
            let q : Begins t.places (g.key j) ⊎ Among (g.key j) (first_strings a k) = ⊎_elim
            (λ (x : Begins t.places (g.key j)). inl x)
            (λ (y : Among (g.key j) (first_strings a (k + 1))).
            let r = among_strings a (k + 1) (g.key j) y in
            ⊎_elim
            (λ (h : r.0 < k + 1). inr (strings_among a k (g.key j) r.0 r.1 (omega arith) r.3))
            (λ (h : k + 1 ≤ r.0). let z : r.0 ≡ k + 1 = omega (arith, r.2) in absurd (w.2 (r.3 ∙ ap (string a) z ∙ sym node_is)))
            (cases_lt r.0 (k + 1)))
            (g.nearly j pj w.1) in
            subst (λ (x : ℕ). Begins t.places x ⊎ Among x (first_strings a k)) (sym w.0) q;
        long = omega (arith, g.long);
        passed = λ j lj. other j (get_or path j 0) (omega arith) (g.passed j (omega arith)) ∙ g.passed j (omega arith);
      }

  -- a node that is not bare is needed, and so are those above it
  pub kept : bare (at t.nodes n) ≡ false → Good t
  kept h = ⊎_elim
      (λ (x : (l : ℕ) × ((at t.nodes n).label ≡ Some l)). label_needed x.0 x.1)
      (λ (y : (d c : ℕ) × (d < 2) × (child (at t.nodes n) d ≡ Some c)). child_needed y.0 y.1 y.2 y.3)
      (not_bare (at t.nodes n) (g.frame.shape.both n node_used) h)
