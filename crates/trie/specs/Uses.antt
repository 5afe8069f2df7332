-- The nodes in use, and the strings that held prefixes begin with.
use Rattle.std.specs.Prelude.{◌≡◌, ℕ, zero, suc, ◌+◌, ◌-◌, ◌*◌, ◌^◌, ◌<◌, ◌≤◌, ◌⊎◌, List, length, Some, None, Option, slice_index_or, refl}
use Rattle.std.proofs.Common.{sym, ap, subst, ◌∙◌, inl, inr, ⊎_elim, arith, add-one, pow_mono}
use Rattle.std.proofs.lemmas.Bool.{cases_lt, eq-eqb}
use Rattle.fields.specs.declared.prefixes.Prefix.{Prefix}
use Rattle.trie.specs.declared.nodes.Node.{Node}
use Rattle.trie.specs.declared.nodes.Tables.{Tables}
use Rattle.trie.specs.Strings.{string, bit_after, code, codes, beginnings, all_beginnings, string_count, Among}
use Rattle.trie.specs.Trees.{at, child, Whole, Shape, Good}
use Rattle.trie.specs.Bitstrings.{string_pos, string_none, string_more, string_shift, bit_below, among_strings}
use Rattle.trie.specs.Counting.{count_different, begins_among, among_begins}
use Rattle.trie.specs.Relabelled.{one_label}

pub some_or_none : (o : Option ℕ) → (o ≡ None) ⊎ ((x : ℕ) × (o ≡ Some x))
some_or_none None = inl refl
some_or_none (Some x) = inr (x, refl)

-- each beginning of a string that has its nodes has a node
pub node_for : (key : ℕ → ℕ) (nodes : List Node) (a n j : ℕ) → Shape key nodes → Whole key nodes (string a n) → a < 2 ^ 32 → n ≤ 32 → j ≤ n → (i : ℕ) × (key i ≡ string a j)
node_for key nodes a n zero s w la ln lj = (0, s.root ∙ sym (string_none a la))
node_for key nodes a n (suc j) s w la ln lj =
    let r = node_for key nodes a n j s w la ln (omega arith) in
    let i = r.0 in
    let b = bit_after a j in
    let li : 0 < key i = subst (λ (x : ℕ). 0 < x) (sym r.1) (string_pos a j) in
    let more : string a (j + 1) ≡ 2 * key i + b = string_more a j (omega arith) ∙ ap (λ (x : ℕ). 2 * x + b) (sym r.1) in
    ⊎_elim
    (λ (z : child (at nodes i) b ≡ None). absurd (w i b (n - (j + 1)) li (bit_below a j) z (string_shift a (j + 1) n (omega arith) ln ∙ more)))
    (λ (c : (x : ℕ) × (child (at nodes i) b ≡ Some x)). (c.0, s.next i b c.0 (bit_below a j) li c.1 ∙ sym more ∙ ap (string a) (add-one j)))
    (some_or_none (child (at nodes i) b))

not_root : (key : ℕ → ℕ) (nodes : List Node) (a i j : ℕ) → Shape key nodes → 0 < j → key i ≡ string a j → 0 < i
not_root key nodes a i j s pj e = ⊎_elim
    (λ (p : 0 < i). p)
    (λ (z : i ≤ 0).
    let q : i ≡ 0 = omega arith in
    let m : 2 ^ 1 ≤ 2 ^ j = pow_mono {i = 1} {j = j} (omega arith) in
    absurd (omega (arith, s.root, ap key q)))
    (cases_lt 0 i)

begins_listed : (t : Tables) (g : Good t) (o : Option Prefix) (v : ℕ) → Whole g.key t.nodes (code o) → Among v (beginnings o) → Among v g.ks
begins_listed t g None v w h = absurd h
begins_listed t g (Some q) v w h =
    let s = g.frame.shape in
    let r = among_strings q.row.address q.row.length v h in
    let n = node_for g.key t.nodes q.row.address q.row.length r.0 s w q.fits q.short r.2 in
    let li : 0 < g.key n.0 = subst (λ (x : ℕ). 0 < x) (sym n.1) (string_pos q.row.address r.0) in
    subst (λ (x : ℕ). Among x g.ks) (n.1 ∙ sym r.3) (g.frame.listed.each n.0 (not_root g.key t.nodes q.row.address n.0 r.0 s r.1 n.1) li)

pub used_count : (t : Tables) → Good t → (n : ℕ) → n + length t.free.items ≡ 3072 → n ≡ string_count t.places
used_count t g n h =
    let e : length g.ks ≡ string_count t.places = count_different g.ks (all_beginnings t.places) g.frame.listed.once
    (λ v m. let r = g.frame.listed.only v m in let b = g.needed r.0 r.1 r.2 in subst (λ (x : ℕ). Among x (all_beginnings t.places)) r.3 (begins_among t.places (g.key r.0) b.0 b.1))
    (λ v m. let b = among_begins t.places v m in begins_listed t g (slice_index_or t.places b.0 None) v (g.frame.named.reached b.0) b.1) in
    omega (arith, g.frame.listed.many)

-- a prefix is at one place
own_node : (t : Tables) (g : Good t) (o : Option Prefix) → Whole g.key t.nodes (code o) → 0 < code o → (i : ℕ) × (g.key i ≡ code o)
own_node t g None w p = absurd (omega arith)
own_node t g (Some q) w p = node_for g.key t.nodes q.row.address q.row.length q.row.length g.frame.shape w q.fits q.short (omega arith)

pub one_place : (t : Tables) → Good t → (l m : ℕ) → 0 < codes t.places l → codes t.places l ≡ codes t.places m → l ≡ m
one_place t g l m pos e =
    let n = own_node t g (slice_index_or t.places l None) (g.frame.named.reached l) pos in
    let i = n.0 in
    let li : 0 < g.key i = subst (λ (x : ℕ). 0 < x) (sym n.1) pos in
    one_label (at t.nodes i).label l m
    (g.frame.named.names i l li ∙ eq-eqb (codes t.places l) (g.key i) (sym n.1))
    (g.frame.named.names i m li ∙ eq-eqb (codes t.places m) (g.key i) (sym e ∙ sym n.1))
