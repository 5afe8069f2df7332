-- Labels balance: what comes into use is freed again or still in use.
use Rattle.std.proofs.Common.{◌≡◌, ℕ, ◌+◌, Bool, true, false, cond, ◌||◌, List, [], ◌∷◌, map, Some, None, Decides, fold, Option, Result, sym, refl, ap, ◌∙◌, subst, arith}
use Rattle.std.proofs.lemmas.Bool.Decides.{same_from_decides, Decides-like}
use Rattle.fields.specs.declared.faults.Fault.{Fault}
use Rattle.fields.specs.Faults.{unless, answer as answer_or_fault}
use Rattle.filters.specs.declared.rows.FilterRow.{FilterRow}
use Rattle.filters.specs.declared.calls.Call.{Call}
use Rattle.filters.specs.declared.calls.Call.TheVariants.{Add, Remove, Inspect, Search}
use Rattle.filters.specs.Counting.{some, total, different}
use Rattle.filters.specs.Values.{same_row}
use Rattle.filters.specs.Filters.{row, same_identifier}
use Rattle.filters.specs.Standing.{refusal, put, without, after}
use Rattle.filters.specs.Labels.{fields, nodes, in_use, alone, if_any, of_identifier}
use Rattle.filters.specs.Answers.{Reply, replies, answer}
use Rattle.filter_laws.specs.Runs.{answers, new_in_fields, new_at_nodes, freed_in_fields, freed_at_nodes, Balanced}
use Rattle.filter_laws.proofs.Sameness.{row_decides}
use Rattle.filter_laws.proofs.Edits.{put_cases}

-- ys is xs with x put in somewhere
pub data Grown {X : Type 0} (x : X) : List X → List X → Type 0 where
  here : (xs : List X) → Grown x xs (x ∷ xs)
  there : (y : X) (xs ys : List X) → Grown x xs ys → Grown x (y ∷ xs) (y ∷ ys)

grown_map : {X Y : Type 0} (k : X → Y) (x : X) {xs ys : List X} → Grown x xs ys → Grown (k x) (map k xs) (map k ys)
grown_map k x (here xs) = here (map k xs)
grown_map k x (there y xs ys g) = there (k y) (map k xs) (map k ys) (grown_map k x g)

bits : (a a' b c : Bool) (m n : ℕ) → a ≡ a' → (a ≡ true → b ≡ c) → m ≡ cond c 0 1 + n → cond (a || b) 0 1 + m ≡ cond (a' || c) 0 1 + (cond b 0 1 + n)
bits a a' b c m n e same h = grind arith

module _ {K : Type 0} (eq : K → K → Bool) (law : (a b : K) → Decides (eq a b) (a ≡ b)) where
  turned : (a b : K) → eq a b ≡ eq b a
  turned a b = same_from_decides (eq a b) (eq b a) (law a b) (Decides-like (eq b a) sym sym (law b a))

  some_grown : (p : K → Bool) (x : K) {xs ys : List K} → Grown x xs ys → some p ys ≡ (p x || some p xs)
  some_grown p x (here xs) = refl
  some_grown p x (there y xs ys g) =
      grind (arith, some_grown p x g)

  -- an element counts if none of the others is the same
  different_grown : (x : K) {xs ys : List K} → Grown x xs ys → different eq (λ _. true) ys ≡ cond (some (eq x) xs) 0 1 + different eq (λ _. true) xs
  different_grown x (here xs) = refl
  different_grown x (there y xs ys g) =
      ap (λ (b : Bool). cond b 0 1 + different eq (λ _. true) ys) (some_grown (eq y) x g)
      ∙ bits (eq y x) (eq x y) (some (eq y) xs) (some (eq x) xs) (different eq (λ _. true) ys) (different eq (λ _. true) xs) (turned y x)
      (λ e. ap (λ (k : K). some (eq k) xs) ((law y x).0 e)) (different_grown x g)

put_grown : (f : FilterRow) (fs : List FilterRow) → Grown f fs (put f fs)
put_grown f [] = here []
put_grown f (g ∷ gs) = put_cases f g gs (Grown f (g ∷ gs)) (λ e. here (g ∷ gs)) (λ e. there g gs (put f gs) (put_grown f gs))

pub without_grown : (id : ℕ) (f : FilterRow) (fs : List FilterRow) → of_identifier id fs ≡ Some f → Grown f (without id fs) fs
without_grown id f [] h = grind arith
without_grown id f (g ∷ gs) h = by_test (same_identifier id g) h (without_grown id f gs)
  where
    by_test : (b : Bool) → cond b (Some g) (of_identifier id gs) ≡ Some f → (of_identifier id gs ≡ Some f → Grown f (without id gs) gs) → Grown f (cond b gs (g ∷ without id gs)) (g ∷ gs)
    by_test true e rest = let same : g ≡ f = cc in subst (λ (x : FilterRow). Grown x gs (g ∷ gs)) same (here gs)
    by_test false e rest = there g (without id gs) gs (rest e)

total_split : {X : Type 0} (a b c : X → ℕ) → ((x : X) → a x ≡ b x + c x) → (xs : List X) → total a xs ≡ total b xs + total c xs
total_split a b c h [] = refl
total_split a b c h (x ∷ xs) = let e = h x in let r = total_split a b c h xs in omega arith

-- labels in use, with one filter more
labels_grown : (kss : List (List ℕ)) (f : FilterRow) (fs gs : List FilterRow) → Grown f fs gs → total (in_use gs) kss ≡ total (alone f fs) kss + total (in_use fs) kss
labels_grown kss f fs gs g =
    total_split (in_use gs) (alone f fs) (in_use fs) (λ ks. different_grown same_row row_decides (row ks f) (grown_map (row ks) f g)) kss

-- labels in the fields of kss that a call brings into use, and frees
abbrev gained : List (List ℕ) → List FilterRow → Call → ℕ
gained kss fs (Add f) = unless (refusal fs (Add f)) 0 (total (alone f fs) kss)
gained kss fs (Remove id) = 0
gained kss fs (Inspect id p) = 0
gained kss fs (Search h r room) = 0

abbrev lost : List (List ℕ) → List FilterRow → Call → ℕ
lost kss fs (Add f) = 0
lost kss fs (Remove id) = unless (refusal fs (Remove id)) 0 (if_any (λ f. total (alone f (without id fs)) kss) (of_identifier id fs))
lost kss fs (Inspect id p) = 0
lost kss fs (Search h r room) = 0

unchanged : (id : ℕ) (fs : List FilterRow) → of_identifier id fs ≡ None → without id fs ≡ fs
unchanged id [] h = refl
unchanged id (g ∷ gs) h = grind (arith, unchanged id gs)

taken_out : (kss : List (List ℕ)) (id : ℕ) (fs : List FilterRow) (o : Option FilterRow) → of_identifier id fs ≡ o → total (in_use fs) kss ≡ if_any (λ f. total (alone f (without id fs)) kss) o + total (in_use (without id fs)) kss
taken_out kss id fs None h = let e = ap (λ (l : List FilterRow). total (in_use l) kss) (unchanged id fs h) in omega arith
taken_out kss id fs (Some f) h = labels_grown kss f (without id fs) fs (without_grown id f fs h)

step : (kss : List (List ℕ)) (fs : List FilterRow) (call : Call) → gained kss fs call + total (in_use fs) kss ≡ lost kss fs call + total (in_use (after fs call)) kss
step kss fs (Add f) = by_refusal (refusal fs (Add f))
  where
    by_refusal : (o : Option Fault) → unless o 0 (total (alone f fs) kss) + total (in_use fs) kss ≡ 0 + total (in_use (unless o fs (put f fs))) kss
    by_refusal o = grind (arith, labels_grown kss f fs (put f fs) (put_grown f fs))
step kss fs (Remove id) = grind (arith, taken_out kss id fs (of_identifier id fs) refl)
step kss fs (Inspect id p) = refl
step kss fs (Search h r room) = refl

-- over a run; up and down read the two counts off an answer
run : (kss : List (List ℕ)) (order : List ℕ) (up down : Result Reply Fault → ℕ) → ((fs : List FilterRow) (c : Call) → up (answer order fs c) ≡ gained kss fs c) → ((fs : List FilterRow) (c : Call) → down (answer order fs c) ≡ lost kss fs c)
    → (fs : List FilterRow) (calls : List Call) → total up (answers order fs calls) + total (in_use fs) kss ≡ total down (answers order fs calls) + total (in_use (fold after fs calls)) kss
run kss order up down is_up is_down fs [] = refl
run kss order up down is_up is_down fs (c ∷ cs) =
    let u = is_up fs c in
    let d = is_down fs c in
    let s = step kss fs c in
    let r = run kss order up down is_up is_down (after fs c) cs in
    omega arith

new_fields : (order : List ℕ) (fs : List FilterRow) (c : Call) → new_in_fields (answer order fs c) ≡ gained fields fs c
new_fields order fs (Add f) = by_refusal (refusal fs (Add f))
  where
    by_refusal : (o : Option Fault) → new_in_fields (answer_or_fault o (replies order fs (Add f))) ≡ unless o 0 (total (alone f fs) fields)
    by_refusal o = grind arith
new_fields order fs (Remove id) = grind arith
new_fields order fs (Inspect id p) = grind arith
new_fields order fs (Search h r room) = grind arith

new_nodes : (order : List ℕ) (fs : List FilterRow) (c : Call) → new_at_nodes (answer order fs c) ≡ gained (nodes order) fs c
new_nodes order fs c = grind arith

freed_fields : (order : List ℕ) (fs : List FilterRow) (c : Call) → freed_in_fields (answer order fs c) ≡ lost fields fs c
freed_fields order fs c = grind arith

freed_nodes : (order : List ℕ) (fs : List FilterRow) (c : Call) → freed_at_nodes (answer order fs c) ≡ lost (nodes order) fs c
freed_nodes order fs c = grind arith

-- at first nothing is in use
none_in_use : (kss : List (List ℕ)) → total (in_use []) kss ≡ 0
none_in_use [] = refl
none_in_use (ks ∷ kss) = let r = none_in_use kss in omega arith

pub balanced : (order : List ℕ) (calls : List Call) → Balanced order calls
balanced order calls =
    let f = run fields order new_in_fields freed_in_fields (new_fields order) (freed_fields order) [] calls in
    let n = run (nodes order) order new_at_nodes freed_at_nodes (new_nodes order) (freed_nodes order) [] calls in
    let e = none_in_use fields in
    let d = none_in_use (nodes order) in
    record { in_fields = omega arith; at_nodes = omega arith }
