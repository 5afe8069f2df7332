use Rattle.std.proofs.Common.{◌≡◌, ℕ, List, get_or, Some, None, Option, sym, ap, ◌∙◌, subst}
use Rattle.parts.specs.Meaning.{Meaning, meaning, find, set_fault, put}
use Rattle.stores.specs.declared.pairs.Pair.{Pair}
use Rattle.stores.specs.Pairs.{same_pair, pair_labels}
use Rattle.stores.proofs.Checked.{answer_ok, accepted, set_done}
use Rattle.sieve.specs.Touched.{slots}
use Rattle.sieve.specs.Counted.{one_more, change_all}
use Rattle.sieve.specs.Sieved.{Sieved}
use Rattle.sieve.proofs.Sieving.{sieved_set}
use Rattle.sieve.proofs.sieve_store.SieveToldPair.set.Goals as goal

pub returns-clause-held : goal.returns-clause-held
returns-clause-held g c m h =
    let shows = g.S.Told.shows in
    let s = c.args.self.now in
    let l = c.args.place in
    let v = c.args.value in
    let f = c.in_ok-set.ensures in
    let b = c.set.new.self in
    let below = meaning m.places h.asked_below in
    let counters-is : c.count_pair.new.counters ≡ change_all one_more (slots v) s.counters = c.count_pair.ensures ∙ ap (λ (os : List (Option ℕ)). change_all one_more os s.counters) c.touched-slots.ensures.slots in
    let none = answer_ok (set_fault same_pair pair_labels m.places l v) tt tt (sym (f.result below h.holds)) in
    let ok = accepted l v (get_or m.places l None) (find same_pair m.places v) none in
    subst (λ (n : Meaning Pair). Sieved shows b c.count_pair.new.counters s.asked n) (sym (set_done m l v none))
    (subst (λ (cs : List ℕ). Sieved shows b cs s.asked (put m l (Some v))) (sym counters-is)
    (sieved_set shows g.met.S.Told.proper s.below b s.counters s.asked m h l v ok.0 ok.2 (subst (λ (n : Meaning Pair). shows b n) (set_done below l v none) (f.held below h.holds))))
