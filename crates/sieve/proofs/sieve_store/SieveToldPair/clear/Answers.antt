use Rattle.std.proofs.Common.{◌≡◌, ℕ, List, get_or, None, Option, sym, ap, ◌∙◌, subst}
use Rattle.parts.specs.Meaning.{meaning, put}
use Rattle.stores.proofs.Checked.{taken_ok}
use Rattle.sieve.specs.Touched.{slots}
use Rattle.sieve.specs.Counted.{one_fewer, change_all}
use Rattle.sieve.specs.Sieved.{Sieved}
use Rattle.sieve.proofs.Sieving.{sieved_clear}
use Rattle.sieve.proofs.sieve_store.SieveToldPair.clear.Goals as goal

pub returns-clause-held : goal.returns-clause-held
returns-clause-held g c m h =
    let shows = g.S.Told.shows in
    let s = c.args.self.now in
    let l = c.args.place in
    let v = c.in_ok-pair.pair in
    let f = c.in_ok-pair.ensures in
    let b = c.clear.new.self in
    let counters-is : c.count_pair.new.counters ≡ change_all one_fewer (slots v) s.counters = c.count_pair.ensures ∙ ap (λ (os : List (Option ℕ)). change_all one_fewer os s.counters) c.touched-slots.ensures.slots in
    let ok = taken_ok l (get_or m.places l None) v (sym (f.result (meaning m.places h.asked_below) h.holds)) in
    subst (λ (cs : List ℕ). Sieved shows b cs s.asked (put m l None)) (sym counters-is)
    (sieved_clear shows g.met.S.Told.proper s.below b s.counters s.asked m h l v ok.1 (f.held (meaning m.places h.asked_below) h.holds))
