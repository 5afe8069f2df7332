use Rattle.std.proofs.Common.{◌≡◌, ℕ, ◌≤◌, List, length, get_or, set, Some, None, Option, nat_eq, sym, ap, ◌∙◌, subst, rules}
use Rattle.std.proofs.lemmas.Option.{none-some}
use Rattle.std.specs.List.{find as find_in}
use Rattle.parts.specs.Meaning.{at}
use Rattle.stores.specs.Chains.{Linked, Chained}
use Rattle.stores.proofs.Chaining.{unlinked_first, unlinked_later}
use Rattle.stores.proofs.chains.Chains.unlink.Goals as goal

pub returns-then-eq : goal.returns-then-eq
returns-then-eq c keys h held =
    let hs = c.args.self.now.heads in
    let ns = c.args.self.now.nexts in
    let k = c.args.key in
    let p = c.args.place in
    let first : get_or hs k None ≡ Some p = search rules in
    subst (λ (xs : List (Option ℕ)). Chained xs ns (set keys p None)) (sym (c.put_at.ensures ∙ ap (λ (o : Option ℕ). set hs k o) c.entry_at-after.ensures)) (unlinked_first hs ns keys k p h held first)

pub returns-in-Some : goal.returns-in-Some
returns-in-Some c keys h held =
    let hs = c.args.self.now.heads in
    let ns = c.args.self.now.nexts in
    let k = c.args.key in
    let p = c.args.place in
    let other : (get_or hs k None ≡ Some p → ⊥) = λ e. search rules in
    let found : (ps : List ℕ) → Linked ns (get_or hs k None) ps → length ps ≤ 96 → c.first_passing-prior.result ≡ find_in (λ n. at nat_eq p (get_or ns n None)) ps
    = λ ps l few. c.first_passing-prior.ensures.found ps (λ n. at nat_eq p (get_or ns n None)) (subst (λ (o : Option ℕ). Linked ns o ps) (sym c.entry_at-first.ensures) l) few (λ n b w. search rules) in
    let r = unlinked_later hs ns keys k p h held other c.first_passing-prior.result found in
    let s : Some c.in-Some.prior ≡ Some r.0 = sym c.in-Some.is ∙ r.1 in
    let t : r.0 ≡ c.in-Some.prior = cc in
    subst (λ (xs : List (Option ℕ)). Chained hs xs (set keys p None)) (sym (c.put_at-in-Some.ensures ∙ ap (λ (o : Option ℕ). set ns c.in-Some.prior o) c.entry_at-after.ensures))
    (subst (λ (n : ℕ). Chained hs (set ns n (get_or ns p None)) (set keys p None)) t r.2)

pub returns-in_default : goal.returns-in_default
returns-in_default c keys h held =
    let hs = c.args.self.now.heads in
    let ns = c.args.self.now.nexts in
    let k = c.args.key in
    let p = c.args.place in
    let other : (get_or hs k None ≡ Some p → ⊥) = λ e. search rules in
    let found : (ps : List ℕ) → Linked ns (get_or hs k None) ps → length ps ≤ 96 → c.first_passing-prior.result ≡ find_in (λ n. at nat_eq p (get_or ns n None)) ps
    = λ ps l few. c.first_passing-prior.ensures.found ps (λ n. at nat_eq p (get_or ns n None)) (subst (λ (o : Option ℕ). Linked ns o ps) (sym c.entry_at-first.ensures) l) few (λ n b w. search rules) in
    let r = unlinked_later hs ns keys k p h held other c.first_passing-prior.result found in
    absurd (none-some r.0 (sym c.in_default.is ∙ r.1))
