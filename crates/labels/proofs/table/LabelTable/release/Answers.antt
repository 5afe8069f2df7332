use Rattle.std.proofs.Common.{◌≡◌, ◌-◌, Bool, ◌++◌, leb, eqb, get_or, Some, None, Option, ap, ◌∙◌, rules}
use Rattle.std.proofs.lemmas.List.{map-set}
use Rattle.std.proofs.lemmas.Bool.{both_ways, le-leb, lt-leb}
use Rattle.labels.specs.declared.table.Released.{Released}
use Rattle.labels.specs.Labels.{here, occurrences, key_of, keys}
use Rattle.labels.proofs.Tables.{given_back, without_one, own, within, kept_keys, keys_at}
use Rattle.labels.proofs.table.LabelTable.release.Goals as goal
use Rattle.labels.proofs.table.LabelTable.release.Goals.{then-freed, else-freed}

-- the answer of a release, by its parts
released : {K : Type 0} (k l : K) (a b : Bool) → k ≡ l → a ≡ b → ◌≡◌ {A = Option (Released K)} (Some record { key = k; freed = a }) (Some record { key = l; freed = b })
released k l a b p q = λ i. Some record { key = p i; freed = q i }

pub returns-in_err-key-clause-labelled : goal.returns-in_err-key-clause-labelled
returns-in_err-key-clause-labelled g c before after key h =
    let eq = g.K.Key.eq in
    let slots = c.args.self.now.slots in
    let at : get_or slots c.args.label None ≡ None = search rules in
    absurd (both_ways (here eq key (get_or slots c.args.label None)) (ap (here eq key) at) (own eq g.met.K.Key.laws.decides slots before after c.args.label key h))

pub returns-clause-labelled : goal.returns-clause-labelled
returns-clause-labelled g c before after key h =
    let eq = g.K.Key.eq in
    let law = g.met.K.Key.laws.decides in
    let slots = c.args.self.now.slots in
    let u = c.in_ok-key.field-0 in
    let own_slot : get_or slots c.args.label None ≡ Some u = search rules in
    let left : c.if-freed.self ≡ without_one u = elim c.if-freed.branch [
      | then-freed w ↦ rw (le-leb u.count 1 w.if-freed.true) w.self-is
      | else-freed w ↦ rw (lt-leb u.count 1 w.if-freed.false) w.self-is
    ] in
    let given = given_back eq law slots before after c.args.label u key h (within eq law slots key c.args.label (own eq law slots before after c.args.label key h)) own_slot in
    (released u.key key (leb u.count 1) (eqb (occurrences eq key (before ++ after)) 0) given.0 given.1, rw left given.2)

pub returns-clause-keyed : goal.returns-clause-keyed
returns-clause-keyed g c =
    let slots = c.args.self.now.slots in
    let u = c.in_ok-key.field-0 in
    let own_slot : get_or slots c.args.label None ≡ Some u = search rules in
    let at : get_or (keys slots) c.args.label None ≡ Some u.key = keys_at slots c.args.label ∙ ap key_of own_slot in
    elim c.if-freed.branch [
      | then-freed w ↦ rw (le-leb u.count 1 w.if-freed.true, w.self-is) (at, map-set key_of slots c.args.label None)
      | else-freed w ↦ rw (lt-leb u.count 1 w.if-freed.false, w.self-is) (at, kept_keys slots c.args.label u (u.count - 1) own_slot)
    ]
