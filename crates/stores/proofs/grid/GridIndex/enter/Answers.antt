use Rattle.std.proofs.Common.{ℕ, List, set, Some, Option, sym, ap, ◌∙◌, subst}
use Rattle.stores.specs.Cells.{Celled}
use Rattle.stores.proofs.Celling.{celled_set}
use Rattle.stores.proofs.grid.GridIndex.enter.Goals as goal

pub returns : goal.returns
returns c places s h f =
    let v = c.args.pair in
    let l = c.args.place in
    let cells = c.args.self.now.cells in
    subst (λ (xs : List (Option ℕ)). Celled xs (set places l (Some v))) (sym (c.put_at.ensures ∙ ap (λ (i : ℕ). set cells i (Some l)) c.code.ensures)) (celled_set cells places s h l v f)
