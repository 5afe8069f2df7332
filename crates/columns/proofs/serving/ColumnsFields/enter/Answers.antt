use Rattle.std.proofs.Common.{ℕ, List, [], ◌∷◌, map, refl, ◌∙◌}
use Rattle.filters.specs.declared.filter.Filter.{Filter}
use Rattle.columns.specs.Fields.{in_field, prefix_eq, range_eq, protocol_eq, flags_eq}
use Rattle.columns.proofs.OneField.{split, few_too, joined, said_of_all, told_if, six, labels_nil, labels_cons}
use Rattle.columns.proofs.serving.ColumnsFields.enter.Goals as goal

pub returns-in_err-a : goal.returns-in_err-a
returns-in_err-a g c = λ before after ns few s. absurd (c.in_err-a.ensures.entered (map (in_field (λ (x : Filter). x.source) 0) before) (map (in_field (λ (x : Filter). x.source) 0) after) (ns 0) (split (λ (x : Filter). x.source) 0 before after s.source) (few_too (λ (x : Filter). x.source) 0 before after few) refl)

pub returns-in_err-b : goal.returns-in_err-b
returns-in_err-b g c = λ before after ns few s. absurd (c.in_err-b.ensures.entered (map (in_field (λ (x : Filter). x.destination) 1) before) (map (in_field (λ (x : Filter). x.destination) 1) after) (ns 1) (split (λ (x : Filter). x.destination) 1 before after s.destination) (few_too (λ (x : Filter). x.destination) 1 before after few) refl)

pub returns-in_err-c : goal.returns-in_err-c
returns-in_err-c g c = λ before after ns few s. absurd (c.in_err-c.ensures.entered (map (in_field (λ (x : Filter). x.source_port) 2) before) (map (in_field (λ (x : Filter). x.source_port) 2) after) (ns 2) (split (λ (x : Filter). x.source_port) 2 before after s.source_port) (few_too (λ (x : Filter). x.source_port) 2 before after few) refl)

pub returns-in_err-d : goal.returns-in_err-d
returns-in_err-d g c = λ before after ns few s. absurd (c.in_err-d.ensures.entered (map (in_field (λ (x : Filter). x.destination_port) 3) before) (map (in_field (λ (x : Filter). x.destination_port) 3) after) (ns 3) (split (λ (x : Filter). x.destination_port) 3 before after s.destination_port) (few_too (λ (x : Filter). x.destination_port) 3 before after few) refl)

pub returns-in_err-e : goal.returns-in_err-e
returns-in_err-e g c = λ before after ns few s. absurd (c.in_err-e.ensures.entered (map (in_field (λ (x : Filter). x.protocol) 4) before) (map (in_field (λ (x : Filter). x.protocol) 4) after) (ns 4) (split (λ (x : Filter). x.protocol) 4 before after s.protocol) (few_too (λ (x : Filter). x.protocol) 4 before after few) refl)

pub returns-in_err-f : goal.returns-in_err-f
returns-in_err-f g c = λ before after ns few s. absurd (c.in_err-f.ensures.entered (map (in_field (λ (x : Filter). x.flags) 5) before) (map (in_field (λ (x : Filter). x.flags) 5) after) (ns 5) (split (λ (x : Filter). x.flags) 5 before after s.flags) (few_too (λ (x : Filter). x.flags) 5 before after few) refl)

pub returns : goal.returns
returns g c = λ before after ns few s.
    let filter = c.args.filter in
    let qa = c.in_ok-a.ensures in
    let ea = qa.entered (map (in_field (λ (x : Filter). x.source) 0) before) (map (in_field (λ (x : Filter). x.source) 0) after) (ns 0) (split (λ (x : Filter). x.source) 0 before after s.source) (few_too (λ (x : Filter). x.source) 0 before after few) refl in
    let na = c.in_ok-a.a in
    let qb = c.in_ok-b.ensures in
    let eb = qb.entered (map (in_field (λ (x : Filter). x.destination) 1) before) (map (in_field (λ (x : Filter). x.destination) 1) after) (ns 1) (split (λ (x : Filter). x.destination) 1 before after s.destination) (few_too (λ (x : Filter). x.destination) 1 before after few) refl in
    let nb = c.in_ok-b.b in
    let qc = c.in_ok-c.ensures in
    let ec = qc.entered (map (in_field (λ (x : Filter). x.source_port) 2) before) (map (in_field (λ (x : Filter). x.source_port) 2) after) (ns 2) (split (λ (x : Filter). x.source_port) 2 before after s.source_port) (few_too (λ (x : Filter). x.source_port) 2 before after few) refl in
    let nc = c.in_ok-c.c in
    let qd = c.in_ok-d.ensures in
    let ed = qd.entered (map (in_field (λ (x : Filter). x.destination_port) 3) before) (map (in_field (λ (x : Filter). x.destination_port) 3) after) (ns 3) (split (λ (x : Filter). x.destination_port) 3 before after s.destination_port) (few_too (λ (x : Filter). x.destination_port) 3 before after few) refl in
    let nd = c.in_ok-d.d in
    let qe = c.in_ok-e.ensures in
    let ee = qe.entered (map (in_field (λ (x : Filter). x.protocol) 4) before) (map (in_field (λ (x : Filter). x.protocol) 4) after) (ns 4) (split (λ (x : Filter). x.protocol) 4 before after s.protocol) (few_too (λ (x : Filter). x.protocol) 4 before after few) refl in
    let ne = c.in_ok-e.e in
    let qf = c.in_ok-f.ensures in
    let ef = qf.entered (map (in_field (λ (x : Filter). x.flags) 5) before) (map (in_field (λ (x : Filter). x.flags) 5) after) (ns 5) (split (λ (x : Filter). x.flags) 5 before after s.flags) (few_too (λ (x : Filter). x.flags) 5 before after few) refl in
    let nf = c.in_ok-f.f in
    let labels : List ℕ = na.label ∷ nb.label ∷ nc.label ∷ nd.label ∷ ne.label ∷ nf.label ∷ [] in (
      record {
        source = joined (λ (x : Filter). x.source) 0 before after filter labels ea.2;
        destination = joined (λ (x : Filter). x.destination) 1 before after filter labels eb.2;
        source_port = joined (λ (x : Filter). x.source_port) 2 before after filter labels ec.2;
        destination_port = joined (λ (x : Filter). x.destination_port) 3 before after filter labels ed.2;
        protocol = joined (λ (x : Filter). x.protocol) 4 before after filter labels ee.2;
        flags = joined (λ (x : Filter). x.flags) 5 before after filter labels ef.2;
      },
      six na.new nb.new nc.new nd.new ne.new nf.new _ _ _ _ _ _
          (ea.1 ∙ said_of_all (λ (x : Filter). x.source) 0 before after prefix_eq filter)
          (eb.1 ∙ said_of_all (λ (x : Filter). x.destination) 1 before after prefix_eq filter)
          (ec.1 ∙ said_of_all (λ (x : Filter). x.source_port) 2 before after range_eq filter)
          (ed.1 ∙ said_of_all (λ (x : Filter). x.destination_port) 3 before after range_eq filter)
          (ee.1 ∙ said_of_all (λ (x : Filter). x.protocol) 4 before after protocol_eq filter)
          (ef.1 ∙ said_of_all (λ (x : Filter). x.flags) 5 before after flags_eq filter),
      labels_cons na.label (nb.label ∷ nc.label ∷ nd.label ∷ ne.label ∷ nf.label ∷ []) ea.0 (labels_cons nb.label (nc.label ∷ nd.label ∷ ne.label ∷ nf.label ∷ []) eb.0 (labels_cons nc.label (nd.label ∷ ne.label ∷ nf.label ∷ []) ec.0 (labels_cons nd.label (ne.label ∷ nf.label ∷ []) ed.0 (labels_cons ne.label (nf.label ∷ []) ee.0 (labels_cons nf.label [] ef.0 (labels_nil)))))),
      record {
        source = told_if (λ (x : Filter). x.source) 0 before after prefix_eq g.A.Told.agrees _ _ filter na.new ea.1 qa.untold qa.asked;
        destination = told_if (λ (x : Filter). x.destination) 1 before after prefix_eq g.B.Told.agrees _ _ filter nb.new eb.1 qb.untold qb.asked;
        source_port = told_if (λ (x : Filter). x.source_port) 2 before after range_eq g.C.Told.agrees _ _ filter nc.new ec.1 qc.untold qc.asked;
        destination_port = told_if (λ (x : Filter). x.destination_port) 3 before after range_eq g.D.Told.agrees _ _ filter nd.new ed.1 qd.untold qd.asked;
        protocol = told_if (λ (x : Filter). x.protocol) 4 before after protocol_eq g.E.Told.agrees _ _ filter ne.new ee.1 qe.untold qe.asked;
        flags = told_if (λ (x : Filter). x.flags) 5 before after flags_eq g.F.Told.agrees _ _ filter nf.new ef.1 qf.untold qf.asked;
      },
    )
