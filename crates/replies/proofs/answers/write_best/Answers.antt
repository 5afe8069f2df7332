use Rattle.std.proofs.Common.{◌∷◌, Option, sym, ap, ◌∙◌}
use Rattle.filters.specs.declared.calls.Best.{Best}
use Rattle.replies.specs.Answers.{decimals, best_numbers}
use Rattle.replies.proofs.Texts.{as_text, zeros}
use Rattle.replies.proofs.answers.write_best.Goals as goal

pub returns-in-None : goal.returns-in-None
returns-in-None c =
    as_text c.write-in-None.result _ _ _ _
    (zeros ∙ ap (λ (o : Option Best). 61 ∷ decimals (best_numbers o)) (sym c.in-None.is))
    c.write-in-None.ensures.bytes
