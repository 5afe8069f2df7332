use Rattle.std.proofs.Common.{◌≡◌, ℕ, ◌<◌, Bool, true, get_or, Some, None, sym, ap, ◌∙◌, ⊎_elim, rules}
use Rattle.std.proofs.lemmas.Option.{MatchOption-at_some, MatchOption-at_none}
use borrow.Author.Tests.{tests}
use Rattle.std.specs.Bool.{then_some}
use Rattle.stores.specs.Pairs.{code}
use Rattle.parts.proofs.Finding.{split}
use Rattle.stores.proofs.Celling.{celled_below}
use Rattle.stores.proofs.grid.GridIndex.find.Goals as goal

-- no cell holds a label past the last place, so the test drops none
pub returns-clause-found : goal.returns-clause-found
returns-clause-found c s h w =
    let v = c.args.pair in
    let cells = c.args.self.now.cells in
    let read : c.entry_at.result ≡ get_or cells (code v) None = c.entry_at.ensures ∙ ap (λ (i : ℕ). get_or cells i None) c.code.ensures in
    ⊎_elim
    (λ (e : c.entry_at.result ≡ None). MatchOption-at_none _ _ e c.filter.ensures ∙ sym e)
    (λ (r : (l : ℕ) × (c.entry_at.result ≡ Some l)).
    let m = MatchOption-at_some _ _ r.0 r.1 c.filter.ensures in
    let small : r.0 < 96 = celled_below cells c.args._pairs.now s h v r.0 w (sym read ∙ r.1) in
    let yes : m.0 ≡ true = search (rules, tests) in
    m.2 ∙ ap (λ (b : Bool). then_some b r.0) yes ∙ sym r.1)
    (split c.entry_at.result) ∙ read ∙ h.cell v w
