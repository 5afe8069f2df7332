-- The bit strings that held prefixes begin with.
use Rattle.std.proofs.Common.{◌≡◌, ℕ, ◌+◌, ◌-◌, ◌*◌, ◌/◌, ◌^◌, ◌<◌, ◌≤◌, ◌⊎◌, List, length, get_or, set, Some, None, Option, sym, ap, ◌∙◌, subst, inl, inr, ⊎_elim, arith, pow_mono}
use Rattle.std.proofs.lemmas.List.{get_or-set_same, get_or-set_other}
use Rattle.std.proofs.lemmas.Bool.{cases_eq}
use Rattle.fields.specs.declared.prefixes.Prefix.{Prefix}
use Rattle.trie.specs.Strings.{string, bit_after, code, first_strings, beginnings, Among, Begins}
use Rattle.trie.specs.Bitstrings.{same_parent, doubled, rest_below, string_pos, bit_below, string_more, same_length, agree_shorter, among_strings, strings_among}

-- a prefix that begins with a string begins with what that begins with
pub shorter_begins : (o : Option Prefix) (a k j : ℕ) → a < 2 ^ 32 → k ≤ 32 → 0 < j → j ≤ k → Among (string a k) (beginnings o) → Among (string a j) (beginnings o)
shorter_begins None a k j la lk pj lj h = absurd h
shorter_begins (Some q) a k j la lk pj lj h =
    let r = among_strings q.row.address q.row.length (string a k) h in
    let few = q.short in
    let i : k ≡ r.0 = same_length a q.row.address k r.0 la q.fits lk (omega (arith, r.2)) r.3 in
    let e : string a k ≡ string q.row.address k = r.3 ∙ ap (string q.row.address) (sym i) in
    strings_among q.row.address q.row.length (string a j) j pj (omega (arith, r.2)) (agree_shorter a q.row.address k j lk lj e)

-- and with what one bit less leaves
pub parent_begins : (o : Option Prefix) (a k d : ℕ) → a < 2 ^ 32 → 0 < k → k ≤ 32 → d < 2 → Among (2 * string a k + d) (beginnings o) → Among (string a k) (beginnings o)
parent_begins None a k d la pk lk ld h = absurd h
parent_begins (Some q) a k d la pk lk ld h =
    let r = among_strings q.row.address q.row.length (2 * string a k + d) h in
    let few = q.short in
    let j = r.0 - 1 in
    let j-is : r.0 ≡ j + 1 = omega (arith, r.1) in
    let lj : j < 32 = omega (arith, r.2) in
    let e : 2 * string a k + d ≡ 2 * string q.row.address j + bit_after q.row.address j = r.3 ∙ ap (string q.row.address) j-is ∙ string_more q.row.address j lj in
    let s = same_parent (string a k) (string q.row.address j) (bit_after q.row.address j) d (bit_below q.row.address j) ld e in
    let i : k ≡ j = same_length a q.row.address k j la q.fits lk (omega arith) s.0 in
    strings_among q.row.address q.row.length (string a k) j (omega arith) (omega (arith, r.2)) s.0

-- and with itself
pub own_begins : (o : Option Prefix) (a k : ℕ) → a < 2 ^ 32 → 0 < k → k ≤ 32 → code o ≡ string a k → Among (string a k) (beginnings o)
own_begins None a k la pk lk e = absurd (omega (arith, string_pos a k))
own_begins (Some q) a k la pk lk e =
    let i : q.row.length ≡ k = same_length q.row.address a q.row.length k q.fits la q.short lk e in
    strings_among q.row.address q.row.length (string a k) q.row.length (omega arith) (omega arith) (sym e)

-- no string of up to k bits goes on from one of k bits
pub none_longer : (a k d : ℕ) → a < 2 ^ 32 → k ≤ 32 → Among (2 * string a k + d) (first_strings a k) → ⊥
none_longer a k d la lk h =
    let r = among_strings a k (2 * string a k + d) h in
    let m : 2 ^ (r.0 + 1) ≤ 2 ^ (k + 1) = pow_mono {i = r.0 + 1} {j = k + 1} (omega (arith, r.2)) in
    let b : a / 2 ^ (32 - r.0) < 2 ^ r.0 = rest_below a r.0 la (omega (arith, r.2)) in
    omega (arith, doubled k, doubled r.0, r.3)

-- one place is filled or emptied
module _ (places : List (Option Prefix)) (p : ℕ) (o : Option Prefix) (inside : p < length places) where
  pub row_at : get_or (set places p o) p None ≡ o
  row_at = get_or-set_same places p o None inside

  pub row_off : (l : ℕ) → (l ≡ p → ⊥) → get_or (set places p o) l None ≡ get_or places l None
  row_off l ne = get_or-set_other places p l o None ne

  pub begins_off : (v : ℕ) → Begins places v → Begins (set places p o) v ⊎ Among v (beginnings (get_or places p None))
  begins_off v b = ⊎_elim
      (λ (e : b.0 ≡ p). inr (subst (λ (k : ℕ). Among v (beginnings (get_or places k None))) e b.1))
      (λ (ne : b.0 ≡ p → ⊥). inl (b.0, subst (λ (x : Option Prefix). Among v (beginnings x)) (sym (row_off b.0 ne)) b.1))
      (cases_eq b.0 p)

  pub begins_at : (v : ℕ) → Among v (beginnings o) → Begins (set places p o) v
  begins_at v h = (p, subst (λ (x : Option Prefix). Among v (beginnings x)) (sym row_at) h)

-- what the places and one prefix begin with, the places begin with once an empty one has it
pub filled_begins : (places : List (Option Prefix)) (p : ℕ) (r : Prefix) → p < length places → get_or places p None ≡ None → (v : ℕ) → Begins places v ⊎ Among v (first_strings r.row.address r.row.length) → Begins (set places p (Some r)) v
filled_begins places p r inside vacant v h = ⊎_elim
    (λ (b : Begins places v). ⊎_elim
    (λ (x : Begins (set places p (Some r)) v). x)
    (λ (y : Among v (beginnings (get_or places p None))). absurd (subst (λ (x : Option Prefix). Among v (beginnings x)) vacant y))
    (begins_off places p (Some r) inside v b))
    (λ (m : Among v (first_strings r.row.address r.row.length)). begins_at places p (Some r) inside v m)
    h
