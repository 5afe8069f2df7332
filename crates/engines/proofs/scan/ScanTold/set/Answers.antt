use Rattle.std.proofs.Common.{◌≡◌, Bool, true, List, [], drop, set, Some, Option, refl, sym, ap, ◌∙◌, subst}
use Rattle.std.proofs.lemmas.List.{drop-set-lt}
use Rattle.fields.specs.declared.faults.Fault.{Fault}
use Rattle.fields.specs.Faults.{answer, unless}
use Rattle.parts.specs.Meaning.{find, put}
use Rattle.parts.specs.Checks.{set_refusal}
use Rattle.engines.specs.Tables.{Lies}
use Rattle.engines.specs.Scans.{Shows}
use Rattle.engines.proofs.Lying.{lies_set}
use Rattle.engines.proofs.Meanings.{not_refused, proper_set, refused_unfound, set_allowed, set_told, unless_refused}
use Rattle.engines.proofs.scan.ScanTold.set.Goals as goal

pub returns-in_err-check_set-clause-held : goal.returns-in_err-check_set-clause-held
returns-in_err-check_set-clause-held g c m h =
    let lies = subst (λ (rows : List g.row.R.Denot). Lies g.V.Kind.plain rows c.args.self.now.used.full m.places) (sym c.rows-rows.ensures) h.lies in
    let found = find g.V.Key.eq m.places c.args.value in
    let same = set_told g.V.Key.eq g.V.Key.labels m.places c.args.place c.args.value (g.met.V.Kind.unlabelled c.args.value) c.held-held.result found (c.held-held.ensures m.places lies) refl in
    subst (Shows g.V.Kind.plain g.T.Rows.items c.args.self.now) (sym (unless_refused _ tt _ (ap (λ (o : Option Fault). answer o tt) (sym same) ∙ refused_unfound c.args.place c.held-held.result found tt _ (sym c.check_set.ensures ∙ c.in_err-check_set.was)) m _)) h

pub returns-in_err-check_set-2-clause-held : goal.returns-in_err-check_set-2-clause-held
returns-in_err-check_set-2-clause-held g c m h =
    let lies = subst (λ (rows : List g.row.R.Denot). Lies g.V.Kind.plain rows c.args.self.now.used.full m.places) (sym c.rows-rows.ensures) h.lies in
    let same = set_told g.V.Key.eq g.V.Key.labels m.places c.args.place c.args.value (g.met.V.Kind.unlabelled c.args.value) c.held-held.result c.place_of.result (c.held-held.ensures m.places lies) (c.place_of.ensures m.places lies) in
    subst (Shows g.V.Kind.plain g.T.Rows.items c.args.self.now) (sym (unless_refused _ tt _ (ap (λ (o : Option Fault). answer o tt) (sym same) ∙ sym c.check_set-2.ensures ∙ c.in_err-check_set-2.was) m _)) h

pub returns-clause-held : goal.returns-clause-held
returns-clause-held g c m h =
    let s = c.args.self.now in
    let l = c.args.place in
    let v = c.args.value in
    let plain = g.V.Kind.plain in
    let eq = g.V.Key.eq in
    let old = g.T.Rows.items s.table in
    let new = g.T.Rows.items c.put.new.self in
    let lies = subst (λ (rows : List g.row.R.Denot). Lies plain rows s.used.full m.places) (sym c.rows-rows.ensures) h.lies in
    let found = c.place_of.ensures m.places lies in
    let none = not_refused (set_refusal l [] c.held-held.result c.place_of.result) tt tt (sym c.check_set-2.ensures ∙ c.in_ok-check_set-2.was) in
    let told = set_told eq g.V.Key.labels m.places l v (g.met.V.Kind.unlabelled v) c.held-held.result c.place_of.result (c.held-held.ensures m.places lies) found in
    let allowed = set_allowed l c.held-held.result c.place_of.result none in
    let rows : new ≡ set old l (plain v) = c.put.ensures ∙ ap (set old l) c.row.ensures in
    subst (λ (o : Option Fault). Shows plain g.T.Rows.items (record s { table = c.put.new.self; used = c.fill.new.self }) (unless o m (put m l (Some v)))) (sym none ∙ told) record {
      lies = subst (λ (f : List Bool). Lies plain new f (set m.places l (Some v))) (sym c.fill.ensures)
          (subst (λ (r : List g.row.R.Denot). Lies plain r (set s.used.full l true) (set m.places l (Some v))) (sym rows) (lies_set plain old s.used.full m.places h.lies s.used.idle.size l v allowed.0));
      proper = proper_set eq g.met.V.Key.laws.decides m h.proper l v allowed.0 (sym found ∙ allowed.2);
      counted = h.counted;
    }

pub returns-clause-rest : goal.returns-clause-rest
returns-clause-rest g c =
    let none = not_refused (set_refusal c.args.place [] c.held-held.result c.place_of.result) tt tt (sym c.check_set-2.ensures ∙ c.in_ok-check_set-2.was) in
    let allowed = set_allowed c.args.place c.held-held.result c.place_of.result none in
    ap (drop 96) c.put.ensures ∙ drop-set-lt 96 (g.T.Rows.items c.args.self.now.table) c.args.place c.row.result allowed.0
