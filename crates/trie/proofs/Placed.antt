-- What set and match answer, from the places.
use Rattle.std.proofs.Common.{◌≡◌, ℕ, ◌+◌, ◌%◌, ◌^◌, ◌<◌, Bool, true, false, cond, ◌||◌, eqb, ltb, List, [], ◌∷◌, map, length, get_or, replicate, Some, None, Ok, Err, Option, Result, sym, refl, ap, ◌∙◌, ⊎_elim, arith}
use Rattle.std.proofs.lemmas.List.{length-map, get_or-map, get_or-replicate, ext_get_or}
use Rattle.std.proofs.lemmas.Bool.{ltb-false, eq-eqb, eqb-true, both_ways}
use Rattle.fields.specs.declared.faults.Fault.{Fault}
use Rattle.fields.specs.declared.faults.Fault.TheVariants.{Label, Full}
use Rattle.fields.specs.Faults.{when, first_fault, answer}
use Rattle.fields.specs.declared.prefixes.Prefix.{Prefix}
use Rattle.fields.specs.Prefixes.{same_prefix, prefix_takes}
use Rattle.fields.proofs.Values.{prefix_decides}
use Rattle.parts.specs.Meaning.{find, full, label_fault, elsewhere, set_fault}
use Rattle.parts.specs.Checks.{set_refusal}
use Rattle.parts.specs.Marks.{hit}
use Rattle.trie.specs.Strings.{code, codes}
use Rattle.trie.specs.Trees.{is, hits}
use Rattle.trie.specs.Uses.{some_or_none}
use Rattle.trie.specs.Bitstrings.{same_code}
use Rattle.trie.specs.Meant.{find_none, find_some}

abbrev pub equal : Prefix → Prefix → Bool
equal a b = same_prefix a.row b.row

abbrev pub no_labels : Prefix → List ℕ
no_labels v = []

-- an answer that is no refusal
pub unfaulted : {A : Type 0} (f : Option Fault) (a b : A) → Ok b ≡ answer f a → f ≡ None
unfaulted None a b e = refl
unfaulted (Some x) a b e = absurd (let z : ◌≡◌ {A = ℕ} 0 1 = cc in omega arith)

-- what a call that is not refused, or is, was asked
pub refused : {A : Type 0} (f : Option Fault) (a : A) (e : Fault) → Err e ≡ answer f a → f ≡ Some e
refused None a e h = absurd (let z : ◌≡◌ {A = ℕ} 0 1 = cc in omega arith)
refused (Some x) a e h = ap Some (let q : x ≡ e = cc in q)

nothing_wrong : (b : Bool) (f g : Fault) (held : Option Prefix) (found : Option ℕ) → first_fault (cond b (Some f) None ∷ when (full held) g ∷ elsewhere found ∷ []) ≡ None → (b ≡ false) × (held ≡ None) × (found ≡ None)
nothing_wrong true f g held found e = absurd (let z : ◌≡◌ {A = ℕ} 0 1 = cc in omega arith)
nothing_wrong false f g (Some r) found e = absurd (let z : ◌≡◌ {A = ℕ} 0 1 = cc in omega arith)
nothing_wrong false f g None (Some l) e = absurd (let z : ◌≡◌ {A = ℕ} 0 1 = cc in omega arith)
nothing_wrong false f g None None e = (refl, refl, refl)

pub settable : (l : ℕ) (held read : Option Prefix) (found : Option ℕ) → read ≡ held → ◌≡◌ {A = Result (Unit {0}) Fault} (Ok tt) (answer (set_refusal l [] read found) tt) → (l < 96) × (held ≡ None) × (found ≡ None) × (set_refusal l [] held found ≡ None)
settable l held read found same e =
    let f = unfaulted {A = Unit {0}} (set_refusal l [] held found) tt tt (e ∙ ap (λ (o : Option Prefix). answer (set_refusal l [] o found) tt) same) in
    let r = nothing_wrong (ltb 95 l) (Label l) (Full l) held found f in
    (omega (arith, ltb-false 95 l r.0), r.1, r.2, f)

-- the label at the end of the walk is where the value is held
module _ (places : List (Option Prefix)) (v : Prefix) (o : Option ℕ) (tells : (l : ℕ) → is o l ≡ eqb (codes places l) (code (Some v))) where
  pub new_from : o ≡ None → (l : ℕ) → codes places l ≡ code (Some v) → ⊥
  new_from e l h = both_ways (is o l) (ap (λ (x : Option ℕ). is x l) e) (tells l ∙ eq-eqb (codes places l) (code (Some v)) h)

  found_none : o ≡ None → find equal places v ≡ None
  found_none e = find_none equal prefix_decides v places 0 (λ l h. new_from e l (ap code h))

  found_some : (k : ℕ) → o ≡ Some k → find equal places v ≡ Some k
  found_some k e =
      let here : is o k ≡ true = ap (λ (x : Option ℕ). is x k) e ∙ eq-eqb k k refl in
      let c : codes places k ≡ code (Some v) = eqb-true (codes places k) (code (Some v)) (sym (tells k) ∙ here) in
      let z : 0 + k ≡ k = omega arith in
      find_some equal prefix_decides v places 0 k
      (λ j h. sym (eqb-true k j (ap (λ (x : Option ℕ). is x j) (sym e) ∙ tells j ∙ eq-eqb (codes places j) (code (Some v)) (ap code h))))
      (same_code (get_or places k None) v c)
      ∙ ap Some z

  -- so set is refused as the meaning says
  pub same_refusal : (l : ℕ) → set_refusal l [] (get_or places l None) o ≡ set_fault equal no_labels places l v
  same_refusal l =
      let found-is : o ≡ find equal places v = ⊎_elim (λ (n : o ≡ None). n ∙ sym (found_none n)) (λ (s : (k : ℕ) × (o ≡ Some k)). s.1 ∙ sym (found_some s.0 s.1)) (some_or_none o) in
      ap (λ (f : Option ℕ). first_fault (label_fault (l ∷ []) ∷ when (full (get_or places l None)) (Full l) ∷ elsewhere f ∷ [])) found-is

-- the marks of a walk are the values that take the number
pub marks_from : (places : List (Option Prefix)) (a : ℕ) (ms : List Bool) → length places ≡ 96 → length ms ≡ 96 → ((l : ℕ) → l < 96 → get_or ms l false ≡ (get_or (replicate 96 false) l false || hits places a l)) → ms ≡ map (hit (λ v. prefix_takes v.row a)) places
marks_from places a ms size few h =
    ext_get_or false ms (map (hit (λ v. prefix_takes v.row a)) places) (few ∙ sym (length-map places (hit (λ v. prefix_takes v.row a)) ∙ size)) (λ l ll.
    let low : l < 96 = omega arith in
    let in-places : l < length places = omega arith in
    h l low
    ∙ ap (λ (b : Bool). b || hits places a l) (get_or-replicate 96 l false false low)
    ∙ sym (get_or-map (hit (λ v. prefix_takes v.row a)) places l None false in-places))

-- one question more
pub counts_on : (n a : ℕ) → n % 2 ^ 32 ≡ a → (n + 1) % 2 ^ 32 ≡ (a + 1) % 2 ^ 32
counts_on n a e = omega arith
