use Rattle.std.proofs.Common.{◌≡◌, ℕ, ◌-◌, ◌<◌, ◌≤◌, true, false, get_or, Some, None, Option, sym, ap, ◌∙◌, subst, ⊎_elim, inl, inr, arith, rules}
use Rattle.std.proofs.lemmas.Option.{MatchOption-at_some, MatchOption-at_none}
use Rattle.std.specs.Option.{IsSomeAnd, option_map}
use Rattle.std.proofs.lemmas.Bool.{cases_lt}
use Rattle.parts.proofs.Finding.{split}
use Rattle.stores.proofs.Steps.{Walk, if_some, with_item, there, found_at, none_at}
use Rattle.stores.proofs.chains.Chains.first_passing.Goals as goal

pub returns-clause-found : goal.returns-clause-found
returns-clause-found g c ps t l few says =
    let ns = c.args.self.now.nexts in
    let run = c.find.ensures.runs in
    let p = run.0 in
    let taken = c.take.ensures.runs p p.seen run.1 in
    let q = taken.1.0 in
    let s = c.successors.ensures.runs q q.seen taken.1.1 in
    let same = taken.1.2 in
    let kept = s.2 (λ a r f e. search rules) in
    let walk : Walk ns c.args.first q.at = record {
      first = s.0;
      next = λ k h. if_some _ _ (q.at k) (λ y. with_item _ _ (q.at (k - 1)) (λ x d. search rules)) (kept.0 k h);
    } in
    ⊎_elim
    (λ (e : c.find.result ≡ None).
    let n = MatchOption-at_none _ _ e run.2 in
    let miss = n.1 (λ a r f e. search rules) in
    e ∙ sym (none_at ns t c.args.first ps q.at q.len l walk
    (λ k h. subst (λ (o : Option ℕ). IsSomeAnd o (λ y. t y ≡ false)) (sym (same.0.2 k)) (there _ (p.at k) (get_or q.items k 0) (ap (option_map (λ x. x)) (sym (same.0.2 k)) ∙ q.reads k 0 h) (if_some _ _ (p.at k) (λ x d. sym (says x false (search rules))) (miss k))))
    (⊎_elim
    (λ (h : q.len < 96).
    let whole = same.1 n.0 (omega (arith, same.0.0)) in
    inr (λ z. s.1 whole z, λ k z. with_item _ _ (q.at k) (λ x d. search rules) (kept.1 k whole z)))
    (λ (h : 96 ≤ q.len). inl (omega arith))
    (cases_lt q.len 96))))
    (λ (r : (x : ℕ) × (c.find.result ≡ Some x)).
    let m = MatchOption-at_some _ _ r.0 r.1 run.2 in
    let hit = m.3 (λ a r f e. search rules) in
    r.1 ∙ sym (found_at ns t c.args.first ps q.at m.0 r.0 l walk (same.0.2 m.0 ∙ m.2) (sym (says r.0 true (search rules)))
    (λ k h. subst (λ (o : Option ℕ). IsSomeAnd o (λ y. t y ≡ false)) (sym (same.0.2 k)) (with_item _ _ (p.at k) (λ x d. sym (says x false (search rules))) (hit.1 k h)))))
    (split c.find.result)
