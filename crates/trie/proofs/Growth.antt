-- A prefix gets its nodes: there is always room for them, and each node stays needed.
use Rattle.std.proofs.Common.{◌≡◌, ℕ, ◌+◌, ◌*◌, ◌<◌, ◌≤◌, cond, eqb, ◌⊎◌, List, [], ◌∷◌, ◌++◌, length, get_or, set, Some, None, sym, refl, ap, ◌∙◌, subst, inl, inr, ⊎_elim, arith, length-set, length-append}
use Rattle.std.proofs.lemmas.List.{get_or-set_other}
use Rattle.arrayvec.specs.ArrayVec.{ArrayVec}
use Rattle.fields.specs.declared.prefixes.Prefix.{Prefix}
use Rattle.trie.specs.declared.nodes.Node.{Node}
use Rattle.trie.specs.declared.nodes.Tables.{Tables}
use Rattle.trie.specs.Strings.{string, bit_after, code, codes, first_strings, all_beginnings, Among, Distinct, Begins}
use Rattle.trie.specs.Trees.{blank, no_node, at, linked, labelled, Stack, Listed, Good, Walked, Growing}
use Rattle.trie.specs.Bitstrings.{shift_none, string_pos, bit_below, string_more, strings_among}
use Rattle.trie.specs.Counting.{part_length, begins_among, all_few, among_last}
use Rattle.trie.proofs.Begun.{row_at, row_off, filled_begins}
use Rattle.trie.proofs.Grown.{grown, grown_names, grown_listed, grown_each, leaf, key_new, grown_stack}
use Rattle.trie.specs.Relabelled.{relabelled, set_names}

-- a walk's end is where growth starts
pub starts : (t : Tables) (value : Prefix) (path : List ℕ) (d p : ℕ) → Walked t value.row.address value.row.length path → length path ≡ d + 1 → p < 96 → get_or t.places p None ≡ None → Growing t value (get_or path d 0) d
starts t value path d p w long lp vacant = record {
  key = w.good.key;
  ks = w.good.ks;
  frame = w.good.frame;
  nearly = λ i pi li. inl (w.good.needed i pi li);
  for = w.passed d (omega arith);
  stops = w.stops d long;
  vacant = (p, lp, vacant);
}

pub in_use : (t : Tables) (value : Prefix) (i k : ℕ) (g : Growing t value i k) → 0 < g.key i
in_use t value i k g = subst (λ (x : ℕ). 0 < x) (sym g.for) (string_pos value.row.address k)

pub within : (t : Tables) (value : Prefix) (i k : ℕ) → Growing t value i k → i < 3073
within t value i k g = g.frame.shape.bound i (in_use t value i k g)

module _ (t : Tables) (value : Prefix) (i k : ℕ) (g : Growing t value i k) (less : k < value.row.length) where
  abbrev b : ℕ
  b = bit_after value.row.address k

  pub next_string : string value.row.address (k + 1) ≡ 2 * g.key i + b
  next_string = string_more value.row.address k (omega (arith, value.short)) ∙ ap (λ (x : ℕ). 2 * x + b) (sym g.for)

  -- 96 prefixes begin with at most 96 * 32 strings
  pub room : 0 < length t.free.items
  room =
      let v = g.vacant in
      let places' = set t.places v.0 (Some value) in
      let few : v.0 < length t.places = omega (arith, g.frame.size, v.1) in
      let f : (x : ℕ) → Begins t.places x ⊎ Among x (first_strings value.row.address value.row.length) → Among x (all_beginnings places') = λ x h. let r = filled_begins t.places v.0 value few v.2 x h in begins_among places' x r.0 r.1 in
      let once : Distinct (string value.row.address (k + 1) ∷ g.ks) = ((λ m. let r = g.frame.listed.only (string value.row.address (k + 1)) m in g.frame.shape.whole r.0 r.2 i b 0 (in_use t value i k g) (bit_below value.row.address k) (g.stops less) (shift_none (g.key r.0) ∙ r.3 ∙ next_string)), g.frame.listed.once) in
      let all : (x : ℕ) → Among x (string value.row.address (k + 1) ∷ g.ks) → Among x (all_beginnings places') = λ x m. ⊎_elim
      (λ (e : x ≡ string value.row.address (k + 1)). f x (inr (strings_among value.row.address value.row.length x (k + 1) (omega arith) (omega arith) e)))
      (λ (q : Among x g.ks). let r = g.frame.listed.only x q in f x (subst (λ (y : ℕ). Begins t.places y ⊎ Among y (first_strings value.row.address value.row.length)) r.3 (g.nearly r.0 r.1 r.2)))
      m in
      let n : length g.ks + 1 ≤ length (all_beginnings places') = omega (arith, part_length (string value.row.address (k + 1) ∷ g.ks) (all_beginnings places') once all) in
      omega (arith, all_few places', length-set t.places v.0 (Some value), g.frame.size, g.frame.listed.many)

  -- the node on top of the stack of free ones becomes the next on the way
  module _ (n : ℕ) (free : ArrayVec ℕ) (top : t.free.items ≡ free.items ++ n ∷ []) where
    stack : Stack g.key (free.items ++ n ∷ [])
    stack = subst (Stack g.key) top g.frame.stack

    listed : Listed g.key g.ks (length free.items + 1)
    listed = let e : length t.free.items ≡ length free.items + 1 = ap length top ∙ length-append free.items (n ∷ []) in subst (Listed g.key g.ks) e g.frame.listed

    here : Among n (free.items ++ n ∷ [])
    here = among_last n free.items

    pub node_within : n < 3073
    node_within = stack.low n here

    li : 0 < g.key i
    li = in_use t value i k g

    parent_off : at (set t.nodes n blank) i ≡ at t.nodes i
    parent_off = get_or-set_other t.nodes n i blank no_node (λ e. omega (arith, ap g.key e, stack.idle n here, li))

    extended : Growing record { places = t.places; nodes = set (set t.nodes n blank) i (linked (at t.nodes i) b (Some n)); free = free } value n (k + 1)
    extended =
        let s = g.frame.shape in
        let pn = stack.some n here in
        let idle = stack.idle n here in
        let lb = bit_below value.row.address k in
        let gap = g.stops less in
        record {
          key = λ j. cond (eqb j n) (2 * g.key i + b) (g.key j);
          ks = (2 * g.key i + b) ∷ g.ks;
          frame = record {
            shape = grown g.key t.nodes n i b s li node_within pn idle lb gap;
            stack = grown_stack g.key t.nodes n i b s li node_within pn idle lb gap free.items stack;
            named = grown_names g.key t.nodes n i b s li node_within pn idle lb gap (codes t.places) g.frame.named;
            listed = grown_listed g.key t.nodes n i b s li node_within pn idle lb gap g.ks (length free.items) listed;
            size = g.frame.size;
          };
          nearly = grown_each g.key t.nodes n i b s li node_within pn idle lb gap (λ x. Begins t.places x ⊎ Among x (first_strings value.row.address value.row.length)) g.nearly (inr (strings_among value.row.address value.row.length (2 * g.key i + b) (k + 1) (omega arith) (omega arith) (sym next_string)));
          for = key_new g.key t.nodes n i b s li node_within pn idle lb gap ∙ sym next_string;
          stops = λ _. leaf g.key t.nodes n i b s li node_within pn idle lb gap (bit_after value.row.address (k + 1));
          vacant = g.vacant;
        }

    -- as it is wiped and linked
    pub extended_as : (d : ℕ) → d ≡ b → Growing record { places = t.places; nodes = set (set t.nodes n blank) i (linked (at (set t.nodes n blank) i) d (Some n)); free = free } value n (k + 1)
    extended_as d e =
        subst (λ (x : ℕ). Growing record { places = t.places; nodes = set (set t.nodes n blank) i (linked (at (set t.nodes n blank) i) x (Some n)); free = free } value n (k + 1)) (sym e)
        (subst (λ (x : Node). Growing record { places = t.places; nodes = set (set t.nodes n blank) i (linked x b (Some n)); free = free } value n (k + 1)) (sym parent_off) extended)

-- the last node gets the label
pub filled : (t : Tables) (value : Prefix) (i p : ℕ) → Growing t value i value.row.length → p < 96 → get_or t.places p None ≡ None → ((l : ℕ) → codes t.places l ≡ code (Some value) → ⊥)
    → Good record { places = set t.places p (Some value); nodes = set t.nodes i (labelled (at t.nodes i) (Some p)); free = t.free }
filled t value i p g lp vacant new =
    let few : p < length t.places = omega (arith, g.frame.size) in
    let li = in_use t value i value.row.length g in
    let c = codes t.places in
    let c' = codes (set t.places p (Some value)) in
    record {
      key = g.key;
      ks = g.ks;
      frame = record {
        shape = relabelled g.key t.nodes i (Some p) g.frame.shape li;
        stack = g.frame.stack;
        named = set_names g.key t.nodes i (Some p) g.frame.shape li c c' p g.frame.named (λ l ne. ap code (row_off t.places p (Some value) few l ne)) refl (ap code vacant) (ap code (row_at t.places p (Some value) few) ∙ sym g.for) (λ l e. new l (e ∙ g.for));
        listed = g.frame.listed;
        size = length-set t.places p (Some value) ∙ g.frame.size;
      };
      needed = λ j pj lj. filled_begins t.places p value few vacant (g.key j) (g.nearly j pj lj);
    }
