-- Stores that are asked one pair after another.
use Rattle.std.proofs.Common.{◌≡◌, ℕ, suc, ◌+◌, ◌<◌, Bool, List, [], ◌∷◌, ◌++◌, length, get_or, take, Option, sym, refl, ap, ◌∙◌, subst, append_assoc, append-nil}
use Rattle.std.proofs.lemmas.List.{take_more}
use Rattle.parts.specs.Meaning.{Meaning, asked_once}
use Rattle.parts.specs.Marks.{mark_found}
use Rattle.parts.specs.Asked.{after_questions, Questioned}
use Rattle.stores.specs.declared.pairs.Pair.{Pair}
use Rattle.stores.specs.Pairs.{pair}
use Rattle.network.specs.Products.{row, product, marks_after}

pub row_push : (a : ℕ) (bs : List ℕ) (b : ℕ) → row a (bs ++ b ∷ []) ≡ row a bs ++ pair a b ∷ []
row_push a [] b = refl
row_push a (x ∷ bs) b = ap (λ (ps : List Pair). pair a x ∷ ps) (row_push a bs b)

pub row_more : (a : ℕ) (bs : List ℕ) (i : ℕ) → i < length bs → row a (take (i + 1) bs) ≡ row a (take i bs) ++ pair a (get_or bs i 0) ∷ []
row_more a bs i h = ap (row a) (take_more bs i 0 h) ∙ row_push a (take i bs) (get_or bs i 0)

pub product_push : (rest bs : List ℕ) (a : ℕ) → product (rest ++ a ∷ []) bs ≡ product rest bs ++ row a bs
product_push [] bs a = append-nil (row a bs)
product_push (x ∷ rest) bs a = ap (λ (ps : List Pair). row x bs ++ ps) (product_push rest bs a) ∙ sym (append_assoc (row x bs) (product rest bs) (row a bs))

pub product_more : (ls bs : List ℕ) (i : ℕ) → i < length ls → product (take (i + 1) ls) bs ≡ product (take i ls) bs ++ row (get_or ls i 0) bs
product_more ls bs i h = ap (λ (xs : List ℕ). product xs bs) (take_more ls i 0 h) ∙ product_push (take i ls) bs (get_or ls i 0)

pub length_row : (a : ℕ) (bs : List ℕ) → length (row a bs) ≡ length bs
length_row a [] = refl
length_row a (b ∷ bs) = ap suc (length_row a bs)

pub after_append : {V Q : Type 0} (m : Meaning V) (ps qs : List Q) → after_questions m (ps ++ qs) ≡ after_questions (after_questions m ps) qs
after_append m [] qs = refl
after_append m (p ∷ ps) qs = after_append (asked_once m) ps qs

pub after_places : {V Q : Type 0} (m : Meaning V) (qs : List Q) → (after_questions m qs).places ≡ m.places
after_places m [] = refl
after_places m (q ∷ qs) = after_places (asked_once m) qs

pub marks_append : (φ : Pair → Option ℕ) (ms : List Bool) (ps qs : List Pair) → marks_after φ ms (ps ++ qs) ≡ marks_after φ (marks_after φ ms ps) qs
marks_append φ ms [] qs = refl
marks_append φ ms (p ∷ ps) qs = marks_append φ (mark_found ms (φ p)) ps qs

module _ {V Q P : Type 0} (shows : P → Meaning V → Type 0) (agrees : P → List Q → Type 0) where
  pub questioned_none : (x : P) (m : Meaning V) → shows x m → Questioned shows agrees x x m []
  questioned_none x m s = record { shown = s; lists = λ l a. subst (agrees x) (sym (append-nil l)) a }

  pub questioned_append : (x y z : P) (m : Meaning V) (ps qs : List Q) → Questioned shows agrees x y m ps → Questioned shows agrees y z (after_questions m ps) qs → Questioned shows agrees x z m (ps ++ qs)
  questioned_append x y z m ps qs p q = record {
    shown = subst (shows z) (sym (after_append m ps qs)) q.shown;
    lists = λ l a. subst (agrees z) (append_assoc l ps qs) (q.lists (l ++ ps) (p.lists l a));
  }
