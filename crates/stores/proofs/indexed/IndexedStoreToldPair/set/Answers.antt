use Rattle.std.proofs.Common.{◌≡◌, List, get_or, Some, None, Option, sym, ap, ◌∙◌, subst}
use Rattle.parts.specs.Meaning.{Meaning, find, set_fault, put}
use Rattle.stores.specs.declared.pairs.Pair.{Pair}
use Rattle.stores.specs.Pairs.{same_pair, pair_labels}
use Rattle.parts.specs.Checks.{set_refusal}
use Rattle.stores.specs.Places.{Free}
use Rattle.stores.specs.Stored.{Stored}
use Rattle.stores.proofs.Checked.{answer_ok, accepted, refusal_is, set_done}
use Rattle.stores.proofs.Storing.{stored_set}
use Rattle.stores.proofs.indexed.IndexedStoreToldPair.set.Goals as goal

pub returns-clause-held : goal.returns-clause-held
returns-clause-held g c m h =
    let s = c.args.self.now in
    let l = c.args.place in
    let v = c.args.value in
    let leads = g.I.Index.leads in
    let none : set_refusal l (pair_labels v) c.entry_at-held.result c.look_up-found.result ≡ None = answer_ok (set_refusal l (pair_labels v) c.entry_at-held.result c.look_up-found.result) tt tt (sym c.check_set.ensures ∙ c.in_ok-check_set.was) in
    let ok = accepted l v c.entry_at-held.result c.look_up-found.result none in
    let is : set_fault same_pair pair_labels m.places l v ≡ None
    = sym (refusal_is m.places l v c.entry_at-held.result c.look_up-found.result (c.entry_at-held.ensures ∙ ap (λ (xs : List (Option Pair)). get_or xs l None) h.places) (c.look_up-found.ensures.found m h)) ∙ none in
    let free : Free s.pairs l v = record {
      inside = ok.0;
      within = ok.1;
      empty = sym c.entry_at-held.ensures ∙ ok.2;
      new = ap (λ (xs : List (Option Pair)). find same_pair xs v) h.places ∙ sym (c.look_up-found.ensures.found m h ok.1) ∙ ok.3;
    } in
    subst (λ (n : Meaning Pair). Stored (leads c.enter.new.self) c.put_at.new.list s.asked n) (sym (set_done m l v is))
    (subst (λ (xs : List (Option Pair)). Stored (leads c.enter.new.self) xs s.asked (put m l (Some v))) (sym c.put_at.ensures)
    (stored_set (leads s.index) s.pairs s.asked m h (leads c.enter.new.self) l v free (c.enter.ensures s.pairs h.placed h.led free)))
