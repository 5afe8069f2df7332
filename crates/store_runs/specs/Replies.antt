-- What a store answers to a list of calls, by its meaning alone.
use Rattle.std.specs.Prelude.{List, [], ◌∷◌, fold}
use Rattle.fields.specs.Faults.{answer, unless}
use Rattle.parts.specs.Meaning.{Meaning, nothing, find, label_fault, set_fault, after_set, cleared, after_clear, asked_once}
use Rattle.stores.specs.declared.pairs.Pair.{Pair}
use Rattle.stores.specs.Pairs.{pair, same_pair, pair_labels}
use Rattle.store_runs.specs.declared.calls.StoreCall.{StoreCall}
use Rattle.store_runs.specs.declared.calls.StoreCall.TheVariants.{Set, Clear, Find}
use Rattle.store_runs.specs.declared.calls.Reply.{Reply}
use Rattle.store_runs.specs.declared.calls.Reply.TheVariants.{Placed, Cleared, Found}

-- the answer to one call
abbrev pub reply : Meaning Pair → StoreCall → Reply
reply m (Set l p) = Placed (answer (set_fault same_pair pair_labels m.places l p) tt)
reply m (Clear l) = Cleared (cleared m.places l)
reply m (Find a b) = Found (answer (label_fault (a ∷ b ∷ [])) (find same_pair m.places (pair a b)))

-- the meaning after one call
abbrev pub next : Meaning Pair → StoreCall → Meaning Pair
next m (Set l p) = after_set same_pair pair_labels m l p
next m (Clear l) = after_clear m l
next m (Find a b) = unless (label_fault (a ∷ b ∷ [])) m (asked_once m)

-- the meaning after a list of calls on an emptied store, and all the answers
abbrev pub after : List StoreCall → Meaning Pair
after calls = fold next nothing calls

abbrev pub replies_from : Meaning Pair → List StoreCall → List Reply
replies_from m [] = []
replies_from m (c ∷ cs) = reply m c ∷ replies_from (next m c) cs

abbrev pub replies : List StoreCall → List Reply
replies calls = replies_from nothing calls
