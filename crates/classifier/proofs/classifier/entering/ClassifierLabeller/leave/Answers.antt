use Rattle.std.proofs.Common.{◌≡◌, List, ◌∷◌, ◌++◌, map, ap, ◌∙◌, sym, subst}
use Rattle.std.specs.List.{remove}
use Rattle.columns.specs.Fields.{Placed, placed, Stand}
use Rattle.network.specs.Nodes.{Filed, filed, arranged, Nodes, Untold, fresh as fresh_nodes}
use Rattle.entries.specs.declared.filter_labels.FilterLabels.{FilterLabels}
use Rattle.entries.specs.Entries.{Entry, in_columns, in_network}
use Rattle.classifier.proofs.Served.{gone, labels_at, parted_by}
use Rattle.classifier.proofs.classifier.entering.ClassifierLabeller.leave.Goals as goal

pub returns-in_err-fields-clause-left : goal.returns-in_err-fields-clause-left
returns-in_err-fields-clause-left g c before after x asked h at =
    let e : c.remove-labels.result ≡ x.labels = c.remove-labels.ensures.value ∙ labels_at c.args.self.now.labels.items before after x c.args.position c.remove-labels.result h.labels at in
    absurd (c.in_err-fields.ensures (map in_columns before) (map in_columns after) x.filter asked.engines
    (subst (λ (l : FilterLabels). Stand g.A.Told.shows g.B.Told.shows g.C.Told.shows g.D.Told.shows g.E.Told.shows g.F.Told.shows c.args.self.now.columns (map in_columns before ++ placed x.filter l.fields ∷ map in_columns after) asked.engines) (sym e)
    (parted_by (λ (ps : List Placed). Stand g.A.Told.shows g.B.Told.shows g.C.Told.shows g.D.Told.shows g.E.Told.shows g.F.Told.shows c.args.self.now.columns ps asked.engines) in_columns before after x h.fields)))

pub returns-in_err-nodes-clause-left : goal.returns-in_err-nodes-clause-left
returns-in_err-nodes-clause-left g c before after x asked h at =
    let e : c.remove-labels.result ≡ x.labels = c.remove-labels.ensures.value ∙ labels_at c.args.self.now.labels.items before after x c.args.position c.remove-labels.result h.labels at in
    let order = c.args.self.now.network.order.fields in
    let net : Entry → Filed = in_network order in
    absurd (c.in_err-nodes.ensures.left (map net before) (map net after) (arranged order x.labels.fields) asked.stores
    (subst (λ (l : FilterLabels). Nodes g.S.Told.shows c.args.self.now.network.nodes (map net before ++ filed (arranged order x.labels.fields) l.nodes ∷ map net after) asked.stores 5) (sym e)
    (parted_by (λ (fs : List Filed). Nodes g.S.Told.shows c.args.self.now.network.nodes fs asked.stores 5) net before after x h.nodes)))

pub returns-clause-left : goal.returns-clause-left
returns-clause-left g c before after x asked h at =
    let e : c.remove-labels.result ≡ x.labels = c.remove-labels.ensures.value ∙ labels_at c.args.self.now.labels.items before after x c.args.position c.remove-labels.result h.labels at in
    let order = c.args.self.now.network.order.fields in
    let net : Entry → Filed = in_network order in
    let q = c.in_ok-fields.ensures (map in_columns before) (map in_columns after) x.filter asked.engines
    (subst (λ (l : FilterLabels). Stand g.A.Told.shows g.B.Told.shows g.C.Told.shows g.D.Told.shows g.E.Told.shows g.F.Told.shows c.args.self.now.columns (map in_columns before ++ placed x.filter l.fields ∷ map in_columns after) asked.engines) (sym e)
    (parted_by (λ (ps : List Placed). Stand g.A.Told.shows g.B.Told.shows g.C.Told.shows g.D.Told.shows g.E.Told.shows g.F.Told.shows c.args.self.now.columns ps asked.engines) in_columns before after x h.fields)) in
    let r = c.in_ok-nodes.ensures.left (map net before) (map net after) (arranged order x.labels.fields) asked.stores
    (subst (λ (l : FilterLabels). Nodes g.S.Told.shows c.args.self.now.network.nodes (map net before ++ filed (arranged order x.labels.fields) l.nodes ∷ map net after) asked.stores 5) (sym e)
    (parted_by (λ (fs : List Filed). Nodes g.S.Told.shows c.args.self.now.network.nodes fs asked.stores 5) net before after x h.nodes)) in
    gone g.A.Told.shows g.B.Told.shows g.C.Told.shows g.D.Told.shows g.E.Told.shows g.F.Told.shows g.S.Told.shows g.A.Told.agrees g.B.Told.agrees g.C.Told.agrees g.D.Told.agrees g.E.Told.agrees g.F.Told.agrees g.S.Told.agrees _ _ asked c.in_ok-nodes.ensures.order before after x _ h
    q.0 q.1 q.2 r.0
    (subst (λ (l : FilterLabels). c.in_ok-nodes.nodes ≡ fresh_nodes (map net before ++ map net after) (filed (arranged order x.labels.fields) l.nodes) 5) e r.1)
    (subst (λ (l : FilterLabels). Untold c.args.self.now.network.nodes c.leave-2.new.self.nodes (map net before ++ map net after) (filed (arranged order x.labels.fields) l.nodes) 5) e r.2)
    c.in_ok-nodes.ensures.asked
    (c.remove-labels.ensures.items ∙ ap (remove c.args.self.now.labels.items) at)
