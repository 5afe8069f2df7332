use Rattle.std.proofs.Common.{◌≡◌, ℕ, ◌+◌, ◌<◌, List, ◌∷◌, ◌++◌, length, take, drop, Option, sym, ap, ◌∙◌, subst, arith, rules, tests, length-take-le}
use Rattle.std.specs.List.{AllWithin, HoldsAt}
use Rattle.std.specs.Option.{MatchOption}
use Rattle.std.proofs.ByRecursion.{All-from_get_or}
use Rattle.std.proofs.lemmas.Iterator.{IsFirst-from_position}
use Rattle.std.proofs.lemmas.Iterator.{YieldsList-from_slice}
use Rattle.std.proofs.lemmas.List.{take-append-drop, drop_more, take_rest, get_or-take}
use Rattle.words.specs.Texts.{joined}
use Rattle.words.proofs.cuts.cut.Goals as goal

pub returns : goal.returns
returns c =
    let xs = c.args.bytes.now in
    let s = c.args.separator in
    let p = c.in_ok-place.place in
    let found = IsFirst-from_position _ _ _ (λ (b : ℕ). b ≡ s) (λ (b : ℕ). b ≡ s → ⊥) c.position.ensures.ran (YieldsList-from_slice xs cc) (λ x q k. search (rules, tests)) (λ x q k. search (rules, tests)) in
    let first : (p < length xs) × HoldsAt (λ (b : ℕ). b ≡ s) xs p × AllWithin (λ (b : ℕ). b ≡ s → ⊥) xs 0 p = subst (λ (r : Option ℕ). MatchOption r (AllWithin (λ (b : ℕ). b ≡ s → ⊥) xs 0 (length xs)) (λ i. (i < length xs) × HoldsAt (λ (b : ℕ). b ≡ s) xs i × AllWithin (λ (b : ℕ). b ≡ s → ⊥) xs 0 i)) c.in_ok-place.was found in (
      sym (take-append-drop p xs) ∙ ap (λ (l : List ℕ). take p xs ++ l) (drop_more xs p 0 first.0)
          ∙ ap (λ (b : ℕ). take p xs ++ b ∷ drop (p + 1) xs) (first.1 0)
          ∙ ap (joined (take p xs) s) (sym (take_rest xs (p + 1))),
      All-from_get_or (λ (b : ℕ). b ≡ s → ⊥) (take p xs) 0 (λ i l. let few = length-take-le p xs (omega (arith, first.0)) in subst (λ (b : ℕ). b ≡ s → ⊥) (sym (get_or-take p xs i 0 (omega arith))) (first.2 i 0 (omega arith) (omega arith))),
    )
