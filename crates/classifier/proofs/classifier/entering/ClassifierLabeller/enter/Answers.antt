use Rattle.std.proofs.Common.{List, map, length, take, drop, sym, ◌∙◌, arith}
use Rattle.std.proofs.lemmas.Bool.{eqb-true}
use Rattle.columns.specs.Fields.{Placed, Stand}
use Rattle.network.specs.Nodes.{Filed, Nodes}
use Rattle.entries.specs.declared.filter_labels.FilterLabels.{FilterLabels}
use Rattle.entries.specs.Entries.{Entry, in_columns, in_network}
use Rattle.classifier.proofs.Served.{came, few_cut, cut_by, labels_length}
use Rattle.classifier.proofs.classifier.entering.ClassifierLabeller.enter.Goals as goal
use Rattle.classifier.proofs.classifier.entering.ClassifierLabeller.enter.Goals.{then-is_full-via-then-is_full, then-is_full-via-else-is_full+then-position-len}

pub returns-then-is_full-clause-entered : goal.returns-then-is_full-clause-entered
returns-then-is_full-clause-entered g c es asked h few le =
    let many = labels_length c.args.self.now.labels.items es h.labels in
    absurd (elim c.then-is_full.branch [
      | then-is_full-via-then-is_full w ↦ omega (arith, many, few, eqb-true (length c.args.self.now.labels.items) 96 (sym c.is_full.ensures.value ∙ w.if-is_full.true))
      | then-is_full-via-else-is_full+then-position-len w ↦ omega (arith, many, le, w.len.ensures.value, w.if-position-len.true)
    ])

pub returns-in_err-fields-clause-entered : goal.returns-in_err-fields-clause-entered
returns-in_err-fields-clause-entered g c es asked h few le =
    let p = c.args.position in
    absurd (c.in_err-fields.ensures (map in_columns (take p es)) (map in_columns (drop p es)) asked.engines (few_cut in_columns p es few)
    (cut_by (λ (ps : List Placed). Stand g.A.Told.shows g.B.Told.shows g.C.Told.shows g.D.Told.shows g.E.Told.shows g.F.Told.shows c.args.self.now.columns ps asked.engines) in_columns p es h.fields))

pub returns-in_err-nodes-clause-entered : goal.returns-in_err-nodes-clause-entered
returns-in_err-nodes-clause-entered g c es asked h few le =
    let p = c.args.position in
    let net : Entry → Filed = in_network c.args.self.now.network.order.fields in
    let q = c.in_ok-fields.ensures (map in_columns (take p es)) (map in_columns (drop p es)) asked.engines (few_cut in_columns p es few)
    (cut_by (λ (ps : List Placed). Stand g.A.Told.shows g.B.Told.shows g.C.Told.shows g.D.Told.shows g.E.Told.shows g.F.Told.shows c.args.self.now.columns ps asked.engines) in_columns p es h.fields) in
    absurd (c.in_err-nodes.ensures.entered (map net (take p es)) (map net (drop p es)) asked.stores
    (cut_by (λ (fs : List Filed). Nodes g.S.Told.shows c.args.self.now.network.nodes fs asked.stores 5) net p es h.nodes)
    (few_cut net p es few) q.2)

pub returns-clause-entered : goal.returns-clause-entered
returns-clause-entered g c es asked h few le =
    let p = c.args.position in
    let net : Entry → Filed = in_network c.args.self.now.network.order.fields in
    let labels : FilterLabels = record { fields = c.in_ok-fields.fields.labels; nodes = c.in_ok-nodes.nodes.labels } in
    let q = c.in_ok-fields.ensures (map in_columns (take p es)) (map in_columns (drop p es)) asked.engines (few_cut in_columns p es few)
    (cut_by (λ (ps : List Placed). Stand g.A.Told.shows g.B.Told.shows g.C.Told.shows g.D.Told.shows g.E.Told.shows g.F.Told.shows c.args.self.now.columns ps asked.engines) in_columns p es h.fields) in
    let r = c.in_ok-nodes.ensures.entered (map net (take p es)) (map net (drop p es)) asked.stores
    (cut_by (λ (fs : List Filed). Nodes g.S.Told.shows c.args.self.now.network.nodes fs asked.stores 5) net p es h.nodes)
    (few_cut net p es few) q.2 in
    came g.A.Told.shows g.B.Told.shows g.C.Told.shows g.D.Told.shows g.E.Told.shows g.F.Told.shows g.S.Told.shows g.A.Told.agrees g.B.Told.agrees g.C.Told.agrees g.D.Told.agrees g.E.Told.agrees g.F.Told.agrees g.S.Told.agrees _ _ asked c.in_ok-nodes.ensures.order c.args.filter labels p es _ h
    q.0 q.1 q.3 r.0 r.1 r.3 r.4 c.in_ok-nodes.ensures.asked c.insert.ensures.items
