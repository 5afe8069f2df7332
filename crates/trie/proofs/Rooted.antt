-- The trie that is only a root.
use Rattle.std.proofs.Common.{◌≡◌, ℕ, ◌+◌, ◌<◌, ◌≤◌, Bool, suc, cond, eqb, List, [], ◌∷◌, length, get_or, replicate, None, Option, sym, refl, ap, ◌∙◌, ⊎_elim, arith}
use Rattle.std.proofs.lemmas.List.{get_or-replicate, length-replicate, get_or_past}
use Rattle.std.proofs.lemmas.Nat.{shr_le}
use Rattle.std.proofs.lemmas.Bool.{ne_eqb, cases_eq, cases_lt}
use Rattle.std.proofs.lemmas.Option.{none-some}
use Rattle.fields.specs.declared.prefixes.Prefix.{Prefix}
use Rattle.trie.specs.declared.nodes.Node.{Node}
use Rattle.arrayvec.specs.ArrayVec.{ArrayVec}
use Rattle.trie.specs.Strings.{code, codes, Among, Distinct}
use Rattle.trie.specs.Trees.{blank, at, child, Shape, Stack, Named, Good, is}
use Rattle.trie.proofs.Grown.{blank_leaf}

abbrev first_only : ℕ → ℕ
first_only j = cond (eqb j 0) 1 0

only : (j : ℕ) → 0 < first_only j → j ≡ 0
only j h = ⊎_elim (λ (e : j ≡ 0). e) (λ (ne : j ≡ 0 → ⊥). absurd (omega (arith, ap (λ (x : Bool). cond {A = ℕ} x 1 0) (ne_eqb j 0 ne)))) (cases_eq j 0)

is_one : (j : ℕ) → 0 < first_only j → first_only j ≡ 1
is_one j h = ap first_only (only j h)

-- nodes that begin with a root
module _ (nodes : List Node) (size : length nodes ≡ 3073) (first : at nodes 0 ≡ blank) where
  leaf : (j d : ℕ) → 0 < first_only j → child (at nodes j) d ≡ None
  leaf j d h = ap (λ (k : ℕ). child (at nodes k) d) (only j h) ∙ ap (λ (n : Node). child n d) first ∙ blank_leaf d

  pub root_shape : Shape first_only nodes
  root_shape = record {
    size = size;
    both = λ j h. ap (λ (k : ℕ). length (at nodes k).children) (only j h) ∙ ap (λ (n : Node). length n.children) first;
    bound = λ j h. omega (arith, only j h);
    root = refl;
    next = λ j d c ld h p. absurd (none-some c (sym (leaf j d h) ∙ p));
    single = λ j m h g e. only j h ∙ sym (only m g);
    whole = λ j h a d m g ld z e. omega (arith, is_one j h, is_one a g, shr_le (first_only j) m);
  }

  pub root_names : (c : ℕ → ℕ) → ((l : ℕ) → c l ≡ 0) → Named first_only nodes c
  root_names c none = record {
    reached = λ l a d m g ld z e. omega (arith, none l, shr_le (c l) m, g);
    names = λ j l h.
        ap (λ (k : ℕ). is (at nodes k).label l) (only j h) ∙ ap (λ (n : Node). is n.label l) first ∙ sym (ne_eqb (c l) (first_only j) (λ e. omega (arith, is_one j h, none l)));
  }

-- numbers that count up from i
rising_within : (xs : List ℕ) (i : ℕ) → ((t : ℕ) → t < length xs → get_or xs t 0 ≡ i + t) → (v : ℕ) → Among v xs → (i ≤ v) × (v < i + length xs)
rising_within [] i h v m = absurd m
rising_within (x ∷ xs) i h v m = ⊎_elim
    (λ (e : v ≡ x). let f : x ≡ i + 0 = h 0 (omega arith) in (omega arith, omega arith))
    (λ (r : Among v xs). let q = rising_within xs (i + 1) (λ t l. omega (arith, h (suc t) (omega arith))) v r in (omega (arith, q.0), omega (arith, q.1)))
    m

rising_distinct : (xs : List ℕ) (i : ℕ) → ((t : ℕ) → t < length xs → get_or xs t 0 ≡ i + t) → Distinct xs
rising_distinct [] i h = tt
rising_distinct (x ∷ xs) i h =
    let rest : (t : ℕ) → t < length xs → get_or xs t 0 ≡ i + 1 + t = λ t l. omega (arith, h (suc t) (omega arith)) in
    let first : x ≡ i + 0 = h 0 (omega arith) in
    ((λ m. let q = rising_within xs (i + 1) rest x m in omega (arith, q.0)), rising_distinct xs (i + 1) rest)

root_stack : (free : List ℕ) → length free ≡ 3072 → ((t : ℕ) → t < 3072 → get_or free t 0 ≡ t + 1) → Stack first_only free
root_stack free deep full =
    let up : (t : ℕ) → t < length free → get_or free t 0 ≡ 1 + t = λ t h. omega (arith, full t (omega arith)) in
    let within = rising_within free 1 up in
    record {
      low = λ m a. omega (arith, (within m a).1);
      some = λ m a. (within m a).0;
      idle = λ m a. ap (λ (x : Bool). cond {A = ℕ} x 1 0) (ne_eqb m 0 (λ e. omega (arith, (within m a).0)));
      once = rising_distinct free 1 up;
    }

none_held : (l : ℕ) → get_or (replicate {A = Option Prefix} 96 None) l None ≡ None
none_held l = ⊎_elim
    (λ (h : l < 96). get_or-replicate 96 l None None h)
    (λ (h : 96 ≤ l). get_or_past (replicate {A = Option Prefix} 96 None) l None (omega (arith, length-replicate {A = Option Prefix} 96 None)))
    (cases_lt l 96)

pub rooted : (nodes : List Node) (free : ArrayVec ℕ) → length nodes ≡ 3073 → at nodes 0 ≡ blank → length free.items ≡ 3072 → ((t : ℕ) → t < 3072 → get_or free.items t 0 ≡ t + 1) → Good record { places = replicate 96 None; nodes = nodes; free = free }
rooted nodes free size first deep full = record {
  key = first_only;
  ks = [];
  frame = record {
    shape = root_shape nodes size first;
    stack = root_stack free.items deep full;
    named = root_names nodes size first (codes (replicate 96 None)) (λ l. ap code (none_held l));
    listed = record { once = tt; many = omega (arith, deep); each = λ i pi li. omega (arith, only i li); only = λ v h. absurd h };
    size = length-replicate {A = Option Prefix} 96 None;
  };
  needed = λ i pi li. absurd (omega (arith, only i li));
}
