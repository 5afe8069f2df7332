use Rattle.std.proofs.Common.{◌<◌, List, [], ◌∷◌, ◌++◌, length, take, sym, ap, ◌∙◌, subst, rules}
use Rattle.std.proofs.lemmas.List.Sums.{fold_more}
use Rattle.parts.specs.Meaning.{Meaning, nothing}
use Rattle.stores.specs.declared.pairs.Pair.{Pair}
use Rattle.stores.specs.Pairs.{pair}
use Rattle.store_runs.specs.declared.calls.StoreCall.TheVariants.{Set}
use Rattle.store_runs.specs.declared.calls.Reply.{Reply}
use Rattle.store_runs.specs.Replies.{next, after, replies}
use Rattle.store_runs.proofs.Running.{replies_more}
use Rattle.store_runs.proofs.runs.run.Goals as goal

pub loop-call-preserved : goal.loop-call-preserved
loop-call-preserved g c =
    let calls = c.args.calls.now in
    let i = c.loop-call.call-index in
    let l : i < length calls = search rules in
    let m = after (take i calls) in
    let inv = c.loop-call.invariant in
    let told = c.perform-reply.ensures in (
      subst (λ (n : Meaning Pair). g.S.Told.shows c.perform-reply.new.store n) (sym (fold_more next nothing calls i (Set 0 (pair 0 0)) l)) (told.held m inv.0),
      c.in_ok-push.ensures.items ∙ ap (λ (rs : List Reply). rs ++ c.perform-reply.result ∷ []) inv.1
          ∙ ap (λ (r : Reply). replies (take i calls) ++ r ∷ []) (told.answered m inv.0) ∙ sym (replies_more calls i (Set 0 (pair 0 0)) l),
    )
