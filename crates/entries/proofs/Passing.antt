-- Lists whose elements pass tests alike.
use Rattle.std.proofs.Common.{◌≡◌, ℕ, ◌+◌, Bool, true, false, cond, not, ◌&&◌, ◌||◌, eqb, List, [], ◌∷◌, ◌++◌, map, count_by, sym, refl, ap, ◌∙◌, ⊎_elim, arith}
use Rattle.std.specs.List.{AllByRecursion}
use Rattle.std.proofs.lemmas.List.Sums.{sum_by-cons}
use Rattle.std.proofs.lemmas.Bool.{cases_Bool, ne_eqb}
use Rattle.filters.specs.Counting.{some, total, different}

-- none is counted exactly if none passes
pub none_counted : {X : Type 0} (p : X → Bool) (xs : List X) → eqb (count_by p xs) 0 ≡ not (some p xs)
none_counted p [] = refl
none_counted p (x ∷ xs) =
    let s = sum_by-cons (λ (y : _). cond {A = ℕ} (p y) 1 0) x xs in
    ⊎_elim
    (λ (e : p x ≡ true). ne_eqb (count_by p (x ∷ xs)) 0 (λ z. omega (arith, s, ap (λ (b : Bool). cond {A = ℕ} b 1 0) e)) ∙ sym (ap (λ (b : Bool). not (b || some p xs)) e))
    (λ (e : p x ≡ false).
    let less : count_by p (x ∷ xs) ≡ count_by p xs = omega (arith, s, ap (λ (b : Bool). cond {A = ℕ} b 1 0) e) in
    ap (λ (n : ℕ). eqb n 0) less ∙ none_counted p xs ∙ sym (ap (λ (b : Bool). not (b || some p xs)) e))
    (cases_Bool (p x))

pub some_map : {X Y : Type 0} (p : Y → Bool) (a : X → Y) (xs : List X) → some p (map a xs) ≡ some (λ x. p (a x)) xs
some_map p a [] = refl
some_map p a (x ∷ xs) = ap (λ (b : Bool). p (a x) || b) (some_map p a xs)

pub some_same : {X : Type 0} (p q : X → Bool) (xs : List X) → AllByRecursion (λ x. p x ≡ q x) xs → some p xs ≡ some q xs
some_same p q [] h = refl
some_same p q (x ∷ xs) h = ap (λ (b : Bool). b || some p xs) h.0 ∙ ap (λ (b : Bool). q x || b) (some_same p q xs h.1)

pub all_of : {X : Type 0} (P : X → Type 0) → ((x : X) → P x) → (xs : List X) → AllByRecursion P xs
all_of P h [] = tt
all_of P h (x ∷ xs) = (h x, all_of P h xs)

pub bit_not : (b : Bool) → cond {A = ℕ} (not b) 1 0 ≡ cond b 0 1
bit_not true = refl
bit_not false = refl

pub and_true : (b : Bool) → (b && true) ≡ b
and_true true = refl
and_true false = refl

-- 1 where none of the elements, seen one way, is counted, is 1 where none, seen the other way, passes
pub alone_alike : {X Y Z : Type 0} (p : Y → Bool) (q : Z → Bool) (a : X → Y) (b : X → Z) (xs : List X) → AllByRecursion (λ x. p (a x) ≡ q (b x)) xs
    → cond {A = ℕ} (eqb (count_by p (map a xs)) 0) 1 0 ≡ cond (some q (map b xs)) 0 1
alone_alike p q a b xs h =
    ap (λ (t : Bool). cond {A = ℕ} t 1 0) (none_counted p (map a xs))
    ∙ bit_not (some p (map a xs))
    ∙ ap (λ (t : Bool). cond {A = ℕ} t 0 1) (some_map p a xs ∙ some_same (λ x. p (a x)) (λ x. q (b x)) xs h ∙ sym (some_map q b xs))

pub map_map : {X Y Z : Type 0} (g : Y → Z) (f : X → Y) (xs : List X) → map g (map f xs) ≡ map (λ x. g (f x)) xs
map_map g f [] = refl
map_map {Z = Z} g f (x ∷ xs) = ap (λ (zs : List Z). g (f x) ∷ zs) (map_map g f xs)

pub total_append : {X : Type 0} (n : X → ℕ) (xs ys : List X) → total n (xs ++ ys) ≡ total n xs + total n ys
total_append n [] ys = omega arith
total_append n (x ∷ xs) ys = let r = total_append n xs ys in omega arith

pub map_append_one : {X Y : Type 0} (f : X → Y) (xs : List X) (x : X) → map f (xs ++ x ∷ []) ≡ map f xs ++ f x ∷ []
map_append_one f [] x = refl
map_append_one {Y = Y} f (y ∷ xs) x = ap (λ (zs : List Y). f y ∷ zs) (map_append_one f xs x)

-- counting different elements, seen one way or the other, where both ways tell the same of them
module _ {X Y Z : Type 0} (a : X → Y) (b : X → Z) (eq : Y → Y → Bool) (p : Y → Bool) (eq' : Z → Z → Bool) (p' : Z → Bool) (Good : X → Type 0)
    (same : (x y : X) → Good x → Good y → eq (a x) (a y) ≡ eq' (b x) (b y)) (pass : (x : X) → Good x → p (a x) ≡ p' (b x)) where
  some_alike : (x : X) → Good x → (ys : List X) → AllByRecursion Good ys → some (eq (a x)) (map a ys) ≡ some (eq' (b x)) (map b ys)
  some_alike x hx [] h = refl
  some_alike x hx (y ∷ ys) h = ap (λ (t : Bool). t || some (eq (a x)) (map a ys)) (same x y hx h.0) ∙ ap (λ (t : Bool). eq' (b x) (b y) || t) (some_alike x hx ys h.1)

  pub different_alike : (xs : List X) → AllByRecursion Good xs → different eq p (map a xs) ≡ different eq' p' (map b xs)
  different_alike [] h = refl
  different_alike (x ∷ xs) h =
      ap (λ (t : Bool). cond t 0 (cond {A = ℕ} (p (a x)) 1 0) + different eq p (map a xs)) (some_alike x h.0 xs h.1)
      ∙ ap (λ (t : Bool). cond (some (eq' (b x)) (map b xs)) 0 (cond {A = ℕ} t 1 0) + different eq p (map a xs)) (pass x h.0)
      ∙ ap (λ (n : ℕ). cond (some (eq' (b x)) (map b xs)) 0 (cond {A = ℕ} (p' (b x)) 1 0) + n) (different_alike xs h.1)
