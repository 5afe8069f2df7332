use Rattle.std.proofs.Common.{ℕ, List, set, None, Option, sym, ap, ◌∙◌, subst}
use Rattle.stores.specs.Cells.{Celled}
use Rattle.stores.proofs.Celling.{celled_clear}
use Rattle.stores.proofs.grid.GridIndex.leave.Goals as goal

pub returns : goal.returns
returns c places s h full =
    let cells = c.args.self.now.cells in
    subst (λ (xs : List (Option ℕ)). Celled xs (set places c.args._place None)) (sym (c.put_at.ensures ∙ ap (λ (i : ℕ). set cells i None) c.code.ensures)) (celled_clear cells places s h c.args._place c.args.pair full)
