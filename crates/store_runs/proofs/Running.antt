-- One call more at the end of a list.
use Rattle.std.proofs.Common.{◌≡◌, ℕ, ◌+◌, ◌<◌, List, [], ◌∷◌, ◌++◌, length, get_or, take, fold, refl, ap, ◌∙◌}
use Rattle.std.proofs.lemmas.List.{take_more}
use Rattle.parts.specs.Meaning.{Meaning, nothing}
use Rattle.stores.specs.declared.pairs.Pair.{Pair}
use Rattle.store_runs.specs.declared.calls.StoreCall.{StoreCall}
use Rattle.store_runs.specs.declared.calls.Reply.{Reply}
use Rattle.store_runs.specs.Replies.{reply, next, after, replies, replies_from}

replies_push : (m : Meaning Pair) (cs : List StoreCall) (c : StoreCall) → replies_from m (cs ++ c ∷ []) ≡ replies_from m cs ++ reply (fold next m cs) c ∷ []
replies_push m [] c = refl
replies_push m (x ∷ cs) c = ap (λ (rs : List Reply). reply m x ∷ rs) (replies_push (next m x) cs c)

pub replies_more : (calls : List StoreCall) (i : ℕ) (d : StoreCall) → i < length calls → replies (take (i + 1) calls) ≡ replies (take i calls) ++ reply (after (take i calls)) (get_or calls i d) ∷ []
replies_more calls i d l = ap replies (take_more calls i d l) ∙ replies_push nothing (take i calls) (get_or calls i d)
