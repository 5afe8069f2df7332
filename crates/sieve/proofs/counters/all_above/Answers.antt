use Rattle.std.proofs.Common.{◌≡◌, ℕ, Bool, true, false, ltb, [], ◌∷◌, get_or, None, Option, refl, arith, rules}
use Rattle.std.proofs.lemmas.Bool.{MatchBool-at_true, MatchBool-at_false}
use Rattle.std.proofs.lemmas.Iterator.{YieldsList-from_slice, cases_from_all}
use Rattle.std.proofs.lemmas.List.Recursion.{and_is}
use borrow.Author.Tests.{tests}
use Rattle.sieve.specs.Touched.{every, listed}
use Rattle.sieve.proofs.Counting.{slot_first}
use Rattle.sieve.proofs.counters.all_above.Goals as goal

pub returns : goal.returns
returns c =
    let os = c.args.slots.now in
    let t : ℕ → Bool = λ i. ltb 0 (get_or c.args.counters.now i 0) in
    let test : Option ℕ → Bool = λ o. every t (listed (o ∷ [])) in
    let cases = cases_from_all _ _ c.all.result (λ o. test o ≡ true) (λ o. test o ≡ false) c.all.ensures.ran (YieldsList-from_slice os cc) (λ x q k. search (rules, tests)) (λ x q k. search (rules, tests)) in
    and_is (λ xs. every t (listed xs)) test refl (slot_first t) os None c.all.result
    (λ e i w. MatchBool-at_true _ _ e cases i None (omega arith) w)
    (λ e. let h = MatchBool-at_false _ _ e cases in (h.0, h.1, h.2 None))
