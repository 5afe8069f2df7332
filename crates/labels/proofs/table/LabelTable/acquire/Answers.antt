use Rattle.std.proofs.Common.{◌≡◌, ℕ, ◌+◌, not, ◌∷◌, ◌++◌, get_or, set, Some, None, sym, ap, ◌∙◌, subst, arith, rules}
use Rattle.std.specs.List.{position}
use Rattle.std.proofs.lemmas.List.{get_or_default}
use Rattle.std.proofs.lemmas.List.Quantifiers.{position-Some}
use Rattle.std.proofs.lemmas.Bool.{ne_eqb, eq-eqb, both_ways, not-false}
use Rattle.labels.specs.Labels.{standing, here, used, occurrences, Labelled}
use Rattle.labels.proofs.Tables.{raised, absent, present, no_room, entered, came, kept_keys, gone_all, none_passes, free_slot}
use Rattle.labels.proofs.table.LabelTable.acquire.Goals as goal

-- the slot that has the key
pub returns-in_err-used-clause-room : goal.returns-in_err-used-clause-room
returns-in_err-used-clause-room g c fs h few =
    let eq = g.K.Key.eq in
    let slots = c.args.self.now.slots in
    let i = c.in-Some.i in
    let place : position (here eq c.args.key) slots ≡ Some i = search rules in
    let hit = position-Some (here eq c.args.key) slots i None place in
    let at : get_or slots i None ≡ None = get_or_default slots i None c.index-self-i.result hit.0 ∙ c.in_err-used.was in
    absurd (both_ways (here eq c.args.key (get_or slots i None)) (ap (here eq c.args.key) at) hit.1)

pub returns-in-Some-clause-labelled : goal.returns-in-Some-clause-labelled
returns-in-Some-clause-labelled g c before after h =
    let eq = g.K.Key.eq in
    let law = g.met.K.Key.laws.decides in
    let slots = c.args.self.now.slots in
    let i = c.in-Some.i in
    let u = c.in_ok-used.used in
    let place : position (here eq c.args.key) slots ≡ Some i = search rules in
    let hit = position-Some (here eq c.args.key) slots i None place in
    let at : get_or slots i None ≡ Some u = get_or_default slots i None c.index-self-i.result hit.0 ∙ c.in_ok-used.was in
    let same : u.key ≡ c.args.key = sym ((law c.args.key u.key).0 (ap (here eq c.args.key) (sym at) ∙ hit.1)) in
    let made = raised eq law slots before after i u h hit.0 at in
    subst
    (λ (n : ℕ). Labelled eq (set slots i (Some record { key = u.key; count = n })) (before ++ standing c.args.key i ∷ after))
    (sym c.in_ok-count.ensures.1)
    (subst (λ (k : g.row.K.Denot). Labelled eq (set slots i (Some record { key = u.key; count = u.count + 1 })) (before ++ standing k i ∷ after)) same made)

pub returns-in-Some-clause-fresh : goal.returns-in-Some-clause-fresh
returns-in-Some-clause-fresh g c fs h =
    let eq = g.K.Key.eq in
    let slots = c.args.self.now.slots in
    let i = c.in-Some.i in
    let place : position (here eq c.args.key) slots ≡ Some i = search rules in
    let hit = position-Some (here eq c.args.key) slots i None place in
    sym (ne_eqb (occurrences eq c.args.key fs) 0 (λ z. omega (arith, present eq g.met.K.Key.laws.decides slots fs c.args.key i h hit.0 hit.1)))

pub returns-in-Some-clause-keyed : goal.returns-in-Some-clause-keyed
returns-in-Some-clause-keyed g c =
    let eq = g.K.Key.eq in
    let slots = c.args.self.now.slots in
    let i = c.in-Some.i in
    let place : position (here eq c.args.key) slots ≡ Some i = search rules in
    let hit = position-Some (here eq c.args.key) slots i None place in
    let at : get_or slots i None ≡ Some c.in_ok-used.used = get_or_default slots i None c.index-self-i.result hit.0 ∙ c.in_ok-used.was in
    (omega (arith, hit.0, c.args.self.now.size), kept_keys slots i c.in_ok-used.used c.in_ok-count.count at)

pub returns-in_err-i-clause-room : goal.returns-in_err-i-clause-room
returns-in_err-i-clause-room g c fs h few =
    let slots = c.args.self.now.slots in
    let full : position (λ s. not (used s)) slots ≡ None = search rules in
    absurd (omega (arith, h.size, no_room g.K.Key.eq g.met.K.Key.laws.decides slots fs h (λ i l. not-false (used (get_or slots i None)) (none_passes (λ s. not (used s)) slots None full i l))))

-- a free slot, where none has the key
pub returns-clause-labelled : goal.returns-clause-labelled
returns-clause-labelled g c before after h =
    let eq = g.K.Key.eq in
    let slots = c.args.self.now.slots in
    let place : position (here eq c.args.key) slots ≡ None = search rules in
    let free : position (λ s. not (used s)) slots ≡ Some c.in_ok-i.i = search rules in
    let at = free_slot slots c.in_ok-i.i free in
    entered eq g.met.K.Key.laws.decides slots before after c.in_ok-i.i c.args.key h at.0 at.1 (none_passes (here eq c.args.key) slots None place)

pub returns-clause-fresh : goal.returns-clause-fresh
returns-clause-fresh g c fs h =
    let eq = g.K.Key.eq in
    let slots = c.args.self.now.slots in
    let place : position (here eq c.args.key) slots ≡ None = search rules in
    sym (eq-eqb (occurrences eq c.args.key fs) 0 (absent eq g.met.K.Key.laws.decides slots fs c.args.key h (none_passes (here eq c.args.key) slots None place)))

pub returns-clause-keyed : goal.returns-clause-keyed
returns-clause-keyed g c =
    let eq = g.K.Key.eq in
    let slots = c.args.self.now.slots in
    let place : position (here eq c.args.key) slots ≡ None = search rules in
    let free : position (λ s. not (used s)) slots ≡ Some c.in_ok-i.i = search rules in
    let at = free_slot slots c.in_ok-i.i free in
    (omega (arith, at.0, c.args.self.now.size), came eq slots c.in_ok-i.i c.args.key 1 at.1 (gone_all eq g.met.K.Key.laws.decides slots c.args.key (none_passes (here eq c.args.key) slots None place)))
