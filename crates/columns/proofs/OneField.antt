-- One field of the standing filters, for a value of any kind.
use Rattle.std.proofs.Common.{◌≡◌, ℕ, zero, suc, ◌+◌, ◌<◌, ◌≤◌, Bool, true, false, eqb, List, [], ◌∷◌, ◌++◌, map, length, get_or, replicate, None, Decides, Option, sym, refl, ap, ◌∙◌, subst, arith, length-append}
use mir.Val.{bool_byte}
use Rattle.std.specs.List.{AllByRecursion}
use Rattle.std.proofs.lemmas.List.{length-map, map-append}
use Rattle.filters.specs.declared.filter.Filter.{Filter}
use Rattle.labels.specs.declared.table.Used.{Used}
use Rattle.labels.specs.Labels.{Standing, standing, Labelled, here, occurrences, keys, key_of}
use Rattle.labels.proofs.Tables.{all_turn}
use Rattle.parts.specs.Meaning.{Meaning, meaning, nothing}
use Rattle.filters.specs.Counting.{different}
use Rattle.parts.specs.Marks.{hit, labels_of}
use Rattle.labelling.specs.Boards.{Stands, Labels, member}
use Rattle.labelling.proofs.Listed.{found_different, labels_tested, marked_labels}
use Rattle.columns.specs.Fields.{Placed, placed, in_field, unused, bit, ToldIf, Answered, Counted, values_of}

pub bits : (b : Bool) → bool_byte b ≡ bit b
bits true = refl
bits false = refl

pub bit_one : (b : Bool) → bool_byte b ≤ 1
bit_one true = omega arith
bit_one false = omega arith

pub labels_nil : Labels []
labels_nil i = omega arith

pub labels_cons : (x : ℕ) (xs : List ℕ) → x < 96 → Labels xs → Labels (x ∷ xs)
labels_cons x xs h t zero = omega arith
labels_cons x xs h t (suc i) = t i

module _ {V : Type 0} (value : Filter → V) (j : ℕ) (before after : List Placed) where
  pub few_too : length (before ++ after) < 96 → length (map (in_field value j) before ++ map (in_field value j) after) < 96
  few_too h = omega (arith, length-append (map (in_field value j) before) (map (in_field value j) after), length-map before (in_field value j), length-map after (in_field value j), length-append before after)

  pub said_of_all : (eq : V → V → Bool) (f : Filter) → eqb (occurrences eq (value f) (map (in_field value j) before ++ map (in_field value j) after)) 0 ≡ unused eq value j f (before ++ after)
  said_of_all eq f = ap (λ (fs : List (Standing V)). eqb (occurrences eq (value f) fs) 0) (sym (map-append (in_field value j) before after))

  module _ {P : Type 0} {eq : V → V → Bool} {shows : P → Meaning V → Type 0} {slots : List (Option (Used V))} {part : P} {n : ℕ} where
    pub split : Stands eq shows slots part (map (in_field value j) (before ++ after)) n → Stands eq shows slots part (map (in_field value j) before ++ map (in_field value j) after) n
    split = subst (λ (fs : List (Standing V)). Stands eq shows slots part fs n) (map-append (in_field value j) before after)

    pub merged : Stands eq shows slots part (map (in_field value j) before ++ map (in_field value j) after) n → Stands eq shows slots part (map (in_field value j) (before ++ after)) n
    merged = subst (λ (fs : List (Standing V)). Stands eq shows slots part fs n) (sym (map-append (in_field value j) before after))

    pub joined : (f : Filter) (labels : List ℕ) → Stands eq shows slots part (map (in_field value j) before ++ standing (value f) (get_or labels j 0) ∷ map (in_field value j) after) n → Stands eq shows slots part (map (in_field value j) (before ++ placed f labels ∷ after)) n
    joined f labels = subst (λ (fs : List (Standing V)). Stands eq shows slots part fs n) (sym (map-append (in_field value j) before (placed f labels ∷ after)))

    pub parted : (f : Filter) (labels : List ℕ) → Stands eq shows slots part (map (in_field value j) (before ++ placed f labels ∷ after)) n → Stands eq shows slots part (map (in_field value j) before ++ standing (value f) (get_or labels j 0) ∷ map (in_field value j) after) n
    parted f labels = subst (λ (fs : List (Standing V)). Stands eq shows slots part fs n) (map-append (in_field value j) before (placed f labels ∷ after))

  -- the engine of a field, told or not
  pub told_if : {P : Type 0} (eq : V → V → Bool) (agrees : P → List ℕ → Type 0) (old new : P) (f : Filter) (b : Bool) → b ≡ eqb (occurrences eq (value f) (map (in_field value j) before ++ map (in_field value j) after)) 0
      → (b ≡ false → new ≡ old) → ((l : List ℕ) → agrees old l → agrees new l) → ToldIf eq agrees value j old new f (before ++ after)
  told_if eq agrees old new f b e u a = record { untold = λ h. u (e ∙ said_of_all eq f ∙ h); asked = a }

-- a field where no filter stands
pub none_stand : {V P : Type 0} (eq : V → V → Bool) (shows : P → Meaning V → Type 0) (slots : List (Option (Used V))) (part : P) → Labelled eq slots [] → slots ≡ replicate 96 None → shows part nothing → Stands eq shows slots part [] 0
none_stand {V} eq shows slots part labelled none held = record {
  labelled = labelled;
  shown = subst (λ (ss : List (Option (Used V))). shows part (meaning (keys ss) 0)) (sym none) held;
}

-- a sum of six, each known
pub six : (a b c d e f : Bool) (u v w x y z : Bool) → a ≡ u → b ≡ v → c ≡ w → d ≡ x → e ≡ y → f ≡ z
    → bool_byte a + bool_byte b + bool_byte c + bool_byte d + bool_byte e + bool_byte f ≡ bit u + bit v + bit w + bit x + bit y + bit z
six a b c d e f u v w x y z p q r s t o = omega (arith, bits a ∙ ap bit p, bits b ∙ ap bit q, bits c ∙ ap bit r, bits d ∙ ap bit s, bits e ∙ ap bit t, bits f ∙ ap bit o)

all_unmap : {X Y : Type 0} (f : X → Y) (P : Y → Type 0) (xs : List X) → AllByRecursion P (map f xs) → AllByRecursion (λ x. P (f x)) xs
all_unmap f P [] h = tt
all_unmap f P (x ∷ xs) h = (h.0, all_unmap f P xs h.1)

map_values : {V : Type 0} (value : Filter → V) (j : ℕ) (ps : List Placed) → map (λ (x : Standing V). x.key) (map (in_field value j) ps) ≡ map (λ (p : Placed). value p.filter) ps
map_values value j [] = refl
map_values {V} value j (p ∷ ps) = ap (λ (vs : List V). value p.filter ∷ vs) (map_values value j ps)

-- what one engine found, said of the standing filters
pub answered : {V P : Type 0} (eq : V → V → Bool) (law : (a b : V) → Decides (eq a b) (a ≡ b)) (takes : V → Bool) (shows : P → Meaning V → Type 0) (agrees : P → List ℕ → Type 0) (value : Filter → V) (j number : ℕ) (old new : P) (ps : List Placed) (found : List ℕ) (slots : List (Option (Used V))) (n : ℕ)
    → Stands eq shows slots old (map (in_field value j) ps) n → found ≡ labels_of takes (keys slots) → ((l : List ℕ) → agrees old l → agrees new (l ++ number ∷ []))
    → Answered eq takes agrees value j number old new ps found
answered {V} eq law takes shows agrees value j number old new ps found slots n s e a =
    let fs : List (Standing V) = map (in_field value j) ps in
    record {
      found_in = record {
        many = ap length e ∙ found_different eq law slots fs s.labelled takes ∙ ap (different eq takes) (map_values value j ps);
        matching = subst (λ (ls : List ℕ). AllByRecursion (λ p. member (get_or p.labels j 0) ls ≡ takes (value p.filter)) ps) (sym e)
            (all_unmap (in_field value j) (λ f. member f.label (labels_of takes (keys slots)) ≡ takes f.key) ps (labels_tested eq law slots fs s.labelled takes));
      };
      below = subst Labels (sym e) (marked_labels (map (hit takes) (keys slots)) (omega (arith, length-map (keys slots) (hit takes), length-map slots (key_of {K = V}), s.labelled.size)));
      asked = a;
    }

-- what a field's table counts, said of the standing filters
pub counted : {V P : Type 0} (eq : V → V → Bool) (shows : P → Meaning V → Type 0) (value : Filter → V) (j : ℕ) (part : P) (ps : List Placed) (slots : List (Option (Used V))) (n label count : ℕ)
    → Stands eq shows slots part (map (in_field value j) ps) n
    → ((fs : List (Standing V)) (key : V) → Labelled eq slots fs → here eq key (get_or slots label None) ≡ true → count ≡ occurrences eq key fs)
    → Counted eq value j label count ps
counted eq shows value j part ps slots n label count s h =
    all_turn (λ p. here eq (value p.filter) (get_or slots (get_or p.labels j 0) None) ≡ true)
    (λ p. get_or p.labels j 0 ≡ label → count ≡ occurrences eq (value p.filter) (map (in_field value j) ps))
    (λ p q e. h (map (in_field value j) ps) (value p.filter) s.labelled (subst (λ (i : ℕ). here eq (value p.filter) (get_or slots i None) ≡ true) e q))
    ps
    (all_unmap (in_field value j) (λ x. here eq x.key (get_or slots x.label None) ≡ true) ps s.labelled.holds)

-- how many labels a field's table has in use, said of the standing filters
pub in_use_of : {V P : Type 0} (eq : V → V → Bool) (shows : P → Meaning V → Type 0) (value : Filter → V) (j : ℕ) (part : P) (ps : List Placed) (slots : List (Option (Used V))) (n count : ℕ)
    → Stands eq shows slots part (map (in_field value j) ps) n
    → ((fs : List (Standing V)) → Labelled eq slots fs → count ≡ different eq (λ _. true) (map (λ f. f.key) fs))
    → count ≡ values_of eq value ps
in_use_of eq shows value j part ps slots n count s h = h (map (in_field value j) ps) s.labelled ∙ ap (different eq (λ _. true)) (map_values value j ps)

pub sum_six : (a b c d e f u v w x y z : ℕ) → a ≡ u → b ≡ v → c ≡ w → d ≡ x → e ≡ y → f ≡ z → a + b + c + d + e + f ≡ u + v + w + x + y + z
sum_six a b c d e f u v w x y z p q r s t o = omega (arith, p, q, r, s, t, o)
