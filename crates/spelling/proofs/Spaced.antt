-- A word, a space and what follows it.
use Rattle.std.proofs.Common.{ℕ, List, refl}
use Rattle.words.specs.Reading.{Free}
use Rattle.words.proofs.Joins.{Join}

unfoldable pub spaced-join : {A B : Type 0} (text_a : A → List ℕ) (FitsA : A → Type 0) (text_b : B → List ℕ) (FitsB : B → Type 0) → ((a : A) → FitsA a → Free 32 (text_a a)) → Join (A × B) A B
spaced-join text_a FitsA text_b FitsB free = record {
  text_a = text_a;
  FitsA = FitsA;
  text_b = text_b;
  FitsB = FitsB;
  separator = 32;
  front = free;
  make = λ x y. (x, y);
  left = λ p. p.0;
  right = λ p. p.1;
  whole = λ v. refl;
  left_made = λ x y. refl;
  right_made = λ x y. refl;
}
