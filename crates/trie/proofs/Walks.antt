-- The walk of an address down the trie.
use Rattle.std.proofs.Common.{◌≡◌, ℕ, zero, suc, ◌+◌, ◌-◌, ◌*◌, ◌/◌, ◌^◌, ◌<◌, ◌≤◌, Bool, true, false, ◌||◌, eqb, List, [], ◌∷◌, ◌++◌, length, get_or, set, Some, None, Option, sym, refl, ap, ◌∙◌, subst, ⊎_elim, add-one, arith, length-append}
use mathlib.Core.Logic.{∥∥₁_elim}
use native.Mathlib.Bridge.{le_prop}
use Rattle.std.proofs.Math.Bool.{or-false, or-true, or_assoc}
use Rattle.std.proofs.Math.ListN.{get_or-append}
use Rattle.std.proofs.Math.Seq.{get_or-append_seam}
use Rattle.std.proofs.lemmas.List.{get_or-set_same, get_or-set_other}
use Rattle.std.proofs.lemmas.Bool.{cases_eq, cases_lt, eq-eqb, ne_eqb}
use Rattle.fields.specs.declared.prefixes.Prefix.{Prefix}
use Rattle.fields.specs.declared.prefixes.PrefixRow.{PrefixRow}
use Rattle.fields.specs.Prefixes.{prefix_takes}
use Rattle.parts.specs.Marks.{hit, mark_found}
use Rattle.trie.specs.declared.nodes.Tables.{Tables}
use Rattle.trie.specs.Strings.{string, bit_after, code, codes}
use Rattle.trie.specs.Trees.{at, child, is, Good, Walked, hits}
use Rattle.trie.specs.Bitstrings.{string_pos, string_none, string_more, string_shift, bit_below, same_length}

-- the walk is at the node of the first bits
pub record Standing (t : Tables) (a node depth : ℕ) : Type 0 where
  pub good : Good t
  pub for : good.key node ≡ string a depth

pub used : (t : Tables) (a i k : ℕ) (s : Standing t a i k) → 0 < s.good.key i
used t a i k s = subst (λ (x : ℕ). 0 < x) (sym s.for) (string_pos a k)

-- and that node is the last of its path
pub record Walking (t : Tables) (a : ℕ) (path : List ℕ) (node depth : ℕ) : Type 0 where
  pub good : Good t
  pub size : length path ≡ depth + 1
  pub last : get_or path depth 0 ≡ node
  pub passed : (j : ℕ) → j ≤ depth → good.key (get_or path j 0) ≡ string a j

abbrev pub standing : (t : Tables) (a : ℕ) (path : List ℕ) (i k : ℕ) → Walking t a path i k → Standing t a i k
standing t a path i k w = record { good = w.good; for = ap w.good.key (sym w.last) ∙ w.passed k (omega arith) }

pub inside : (t : Tables) (a : ℕ) (path : List ℕ) (i k : ℕ) → ∥ Walking t a path i k ∥₁ → i < 3073
inside t a path i k e = ∥∥₁_elim e le_prop (λ w. w.good.frame.shape.bound i (used t a i k (standing t a path i k w)))

pub at_root : (t : Tables) (a : ℕ) (path : List ℕ) → a < 2 ^ 32 → path ≡ 0 ∷ [] → Good t → Walking t a path 0 0
at_root t a path la e g = record {
  good = g;
  size = ap length e;
  last = ap (λ (xs : List ℕ). get_or xs 0 0) e;
  passed = λ j lj.
      let z : j ≡ 0 = omega arith in
      ap (λ (k : ℕ). g.key (get_or path k 0)) z ∙ ap (λ (xs : List ℕ). g.key (get_or xs 0 0)) e ∙ g.frame.shape.root ∙ sym (string_none a la) ∙ ap (string a) (sym z);
}

-- one step down
pub walks_on : (t : Tables) (a i k c : ℕ) (path more : List ℕ) → Walking t a path i k → k < 32 → child (at t.nodes i) (bit_after a k) ≡ Some c → more ≡ path ++ c ∷ [] → Walking t a more c (k + 1)
walks_on t a i k c path more w few e longer =
    let s = standing t a path i k w in
    let b = bit_after a k in
    let new : w.good.key c ≡ string a (k + 1) = w.good.frame.shape.next i b c (bit_below a k) (used t a i k s) e ∙ ap (λ (x : ℕ). 2 * x + b) s.for ∙ sym (string_more a k few) in
    let last : get_or more (k + 1) 0 ≡ c = ap (λ (xs : List ℕ). get_or xs (k + 1) 0) longer ∙ ap (λ (x : ℕ). get_or (path ++ c ∷ []) x 0) (sym w.size) ∙ get_or-append_seam path c [] 0 in
    record {
      good = w.good;
      size = omega (arith, ap length longer, length-append path (c ∷ []), w.size);
      last = last;
      passed = λ j lj. ⊎_elim
          (λ (l : j < k + 1). ap (λ (xs : List ℕ). w.good.key (get_or xs j 0)) longer ∙ ap w.good.key (get_or-append path (c ∷ []) 0 j (omega (arith, w.size))) ∙ w.passed j (omega arith))
          (λ (l : k + 1 ≤ j). let z : j ≡ k + 1 = omega arith in ap (λ (x : ℕ). w.good.key (get_or more x 0)) z ∙ ap w.good.key last ∙ new ∙ ap (string a) (sym z))
          (cases_lt j (k + 1));
    }

pub walked : (t : Tables) (a n : ℕ) (path : List ℕ) (i k : ℕ) → Walking t a path i k → k ≤ n → (k < n → child (at t.nodes i) (bit_after a k) ≡ None) → Walked t a n path
walked t a n path i k w within stops = record {
  good = w.good;
  some = omega (arith, w.size);
  within = omega (arith, w.size);
  passed = λ j lj. w.passed j (omega (arith, w.size));
  stops = λ d e less.
      let z : d ≡ k = omega (arith, w.size) in
      ap (λ (x : ℕ). child (at t.nodes (get_or path x 0)) (bit_after a x)) z ∙ ap (λ (x : ℕ). child (at t.nodes x) (bit_after a k)) w.last ∙ stops (omega arith);
}

-- the same path under another name
pub along : (t : Tables) (a n : ℕ) (path shown : List ℕ) → shown ≡ path → ∥ Walked t a n path ∥₁ → ∥ Walked t a n shown ∥₁
along t a n path shown e = subst (λ (xs : List ℕ). ∥ Walked t a n xs ∥₁) (sym e)

pub along_value : (t : Tables) (value : Prefix) (row : PrefixRow) (path shown : List ℕ) → row ≡ value.row → shown ≡ path → ∥ Walked t row.address row.length path ∥₁ → ∥ Walked t value.row.address value.row.length shown ∥₁
along_value t value row path shown own e w = subst (λ (r : PrefixRow). ∥ Walked t r.address r.length shown ∥₁) own (along t row.address row.length path shown e w)

-- the nodes of a path
abbrev pub passing : (t : Tables) (a n : ℕ) (path : List ℕ) (j : ℕ) → Walked t a n path → j < length path → Standing t a (get_or path j 0) j
passing t a n path j w lj = record { good = w.good; for = w.passed j lj }

pub passing_within : (t : Tables) (a n : ℕ) (path : List ℕ) (j : ℕ) → Walked t a n path → j < length path → get_or path j 0 < 3073
passing_within t a n path j w lj = w.good.frame.shape.bound (get_or path j 0) (used t a (get_or path j 0) j (passing t a n path j w lj))

-- where the walk stops early, no prefix goes on that way
pub none_further : (t : Tables) (value : Prefix) (path : List ℕ) (l : ℕ) → Walked t value.row.address value.row.length path → length path ≤ value.row.length → codes t.places l ≡ code (Some value) → ⊥
none_further t value path l w less e =
    let a = value.row.address in
    let n = value.row.length in
    let d = length path - 1 in
    let i = get_or path d 0 in
    let few = value.short in
    let long : length path ≡ d + 1 = omega (arith, w.some) in
    let s = string_shift a (d + 1) n (omega arith) few in
    let m = string_more a d (omega arith) in
    let for = w.passed d (omega arith) in
    w.good.frame.named.reached l i (bit_after a d) (n - (d + 1)) (subst (λ (x : ℕ). 0 < x) (sym for) (string_pos a d)) (bit_below a d) (w.stops d long (omega arith))
    (ap (λ (x : ℕ). x / 2 ^ (n - (d + 1))) e ∙ s ∙ m ∙ ap (λ (x : ℕ). 2 * x + bit_after a d) (sym for))

-- the walk towards a held prefix reaches its node
pub reaches : (t : Tables) (value : Prefix) (path : List ℕ) (p : ℕ) → Walked t value.row.address value.row.length path → get_or t.places p None ≡ Some value → value.row.length < length path
reaches t value path p w held = ⊎_elim
    (λ (h : value.row.length < length path). h)
    (λ (h : length path ≤ value.row.length). absurd (none_further t value path p w h (ap code held)))
    (cases_lt value.row.length (length path))

-- whether v is one of an address's strings with fewer than k bits
unfoldable pub met : ℕ → ℕ → ℕ → Bool
met v a zero = false
met v a (suc k) = met v a k || eqb v (string a k)

pub met_none : (v a : ℕ) (x : Bool) → x ≡ (x || met v a 0)
unfolding met
met_none v a x = sym (or-false x)

met_more : (v a k : ℕ) → met v a (suc k) ≡ (met v a k || eqb v (string a k))
unfolding met
met_more v a k = refl

-- the marks after the node of k bits
found_mark : (ms : List Bool) (o : Option ℕ) (l : ℕ) → l < length ms → get_or (mark_found ms o) l false ≡ (get_or ms l false || is o l)
found_mark ms None l h = sym (or-false (get_or ms l false))
found_mark ms (Some m) l h = ⊎_elim
    (λ (e : l ≡ m). ap (λ (x : ℕ). get_or (set ms m true) x false) e ∙ get_or-set_same ms m true false (omega arith) ∙ sym (ap (λ (b : Bool). get_or ms l false || b) (eq-eqb m l (sym e)) ∙ or-true (get_or ms l false)))
    (λ (ne : l ≡ m → ⊥). get_or-set_other ms m l true false ne ∙ sym (ap (λ (b : Bool). get_or ms l false || b) (ne_eqb m l (λ e. ne (sym e))) ∙ or-false (get_or ms l false)))
    (cases_eq l m)

pub marks_on : (t : Tables) (a i k l : ℕ) (was : Bool) (ms after : List Bool) → Standing t a i k → l < length ms → after ≡ mark_found ms (at t.nodes i).label → get_or ms l false ≡ (was || met (codes t.places l) a k) → get_or after l false ≡ (was || met (codes t.places l) a (k + 1))
marks_on t a i k l was ms after s lm e q =
    ap (λ (x : List Bool). get_or x l false) e
    ∙ found_mark ms (at t.nodes i).label l lm
    ∙ ap (λ (x : Bool). x || is (at t.nodes i).label l) q
    ∙ or_assoc was (met (codes t.places l) a k) (is (at t.nodes i).label l)
    ∙ ap (λ (x : Bool). was || (met (codes t.places l) a k || x)) (s.good.frame.named.names i l (used t a i k s) ∙ ap (eqb (codes t.places l)) s.for)
    ∙ ap (λ (x : Bool). was || x) (sym (met_more (codes t.places l) a k))
    ∙ ap (λ (x : ℕ). was || met (codes t.places l) a x) (sym (add-one k))

met_stops : (v a j k : ℕ) → j ≤ k → ((m : ℕ) → j ≤ m → m < k → v ≡ string a m → ⊥) → met v a k ≡ met v a j
met_stops v a j zero h q = let e : zero ≡ j = omega arith in ap (met v a) e
met_stops v a j (suc k) h q = ⊎_elim
    (λ (lt : j < suc k).
    met_more v a k ∙ ap (λ (x : Bool). met v a k || x) (ne_eqb v (string a k) (q k (omega arith) (omega arith))) ∙ or-false (met v a k) ∙ met_stops v a j k (omega arith) (λ m p r. q m p (omega arith)))
    (λ (ge : suc k ≤ j). let e : suc k ≡ j = omega arith in ap (met v a) e)
    (cases_lt j (suc k))

-- where there is no child, no held prefix is met any more
stops : (t : Tables) (a i k l : ℕ) → Standing t a i k → k < 32 → child (at t.nodes i) (bit_after a k) ≡ None → met (codes t.places l) a (k + 1) ≡ met (codes t.places l) a 33
stops t a i k l s few z = sym (met_stops (codes t.places l) a (k + 1) 33 (omega arith) (λ m p q e.
    s.good.frame.named.reached l i (bit_after a k) (m - (k + 1)) (used t a i k s) (bit_below a k) z
    (ap (λ (x : ℕ). x / 2 ^ (m - (k + 1))) e ∙ string_shift a (k + 1) m (omega arith) (omega arith) ∙ string_more a k few ∙ ap (λ (x : ℕ). 2 * x + bit_after a k) (sym s.for))))

-- nor behind the end of the path
pub all_passed : (t : Tables) (a l : ℕ) (path : List ℕ) → Walked t a 32 path → met (codes t.places l) a (length path) ≡ met (codes t.places l) a 33
all_passed t a l path w =
    let d = length path - 1 in
    let long : length path ≡ d + 1 = omega (arith, w.some) in
    ⊎_elim
    (λ (less : d < 32). ap (met (codes t.places l) a) long ∙ stops t a (get_or path d 0) d l (passing t a 32 path d w (omega arith)) less (w.stops d long less))
    (λ (all : 32 ≤ d). let z : length path ≡ 33 = omega (arith, w.within) in ap (met (codes t.places l) a) z)
    (cases_lt d 32)

same_rest : (x a b : ℕ) → eqb (x + a) (x + b) ≡ eqb b a
same_rest x a b = ⊎_elim
    (λ (e : a ≡ b). eq-eqb (x + a) (x + b) (ap (λ (y : ℕ). x + y) e) ∙ sym (eq-eqb b a (sym e)))
    (λ (ne : a ≡ b → ⊥). ne_eqb (x + a) (x + b) (λ e. ne (omega arith)) ∙ sym (ne_eqb b a (λ e. ne (sym e))))
    (cases_eq a b)

met_before : (v a k : ℕ) → ((m : ℕ) → m < k → v ≡ string a m → ⊥) → met v a k ≡ false
unfolding met
met_before v a zero h = refl
met_before v a (suc k) h = ap (λ (x : Bool). met v a k || x) (ne_eqb v (string a k) (h k (omega arith))) ∙ or-false (met v a k) ∙ met_before v a k (λ m l. h m (omega arith))

-- a prefix is met on the way of an address just if it takes the address
pub met_covers : (a : ℕ) (o : Option Prefix) → a < 2 ^ 32 → met (code o) a 33 ≡ hit (λ (v : Prefix). prefix_takes v.row a) o
met_covers a None la = met_before 0 a 33 (λ m l e. omega (arith, string_pos a m))
met_covers a (Some p) la =
    let n = p.row.length in
    let v = string p.row.address n in
    let few = p.short in
    let same : (m : ℕ) → m < 33 → v ≡ string a m → n ≡ m = λ m l e. same_length p.row.address a n m p.fits la few (omega arith) e in
    met_stops v a (suc n) 33 (omega arith) (λ m g l e. let z : n ≡ m = same m l e in omega arith)
    ∙ met_more v a n
    ∙ ap (λ (x : Bool). x || eqb v (string a n)) (met_before v a n (λ m l e. let z : n ≡ m = same m (omega arith) e in omega arith))
    ∙ same_rest (2 ^ n) (p.row.address / 2 ^ (32 - n)) (a / 2 ^ (32 - n))

pub all_met : (t : Tables) (a l : ℕ) (was : Bool) → Good t → a < 2 ^ 32 → (was || met (codes t.places l) a 33) ≡ (was || hits t.places a l)
all_met t a l was g la = ap (λ (x : Bool). was || x) (met_covers a (get_or t.places l None) la)
