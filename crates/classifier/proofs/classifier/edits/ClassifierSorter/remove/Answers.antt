use Rattle.std.proofs.Common.{◌≡◌, ℕ, Bool, true, false, List, ◌∷◌, ◌++◌, map, Some, None, sym, refl, ap, ◌∙◌, subst, arith, rules}
use Rattle.std.specs.Result.{result_unwrap_or}
use Rattle.std.proofs.lemmas.Result.{err_from_is_err_and}
use Rattle.fields.specs.Faults.{answer_by}
use Rattle.filters.specs.declared.rows.FilterRow.{FilterRow}
use Rattle.filters.specs.declared.calls.Call.TheVariants.{Remove}
use Rattle.filters.specs.Standing.{refusal, after, without, place_of}
use Rattle.filters.specs.Labels.{new_field_labels, new_node_labels, freed_field_labels, freed_node_labels, if_any}
use Rattle.filters.specs.Answers.{removed}
use Rattle.filters.proofs.Checks.{accepted_removal}
use Rattle.filter_table.specs.declared.table.FilterTable.{FilterTable}
use Rattle.filter_table.specs.Tables.{held}
use Rattle.entries.specs.Entries.{Entry, row_of}
use Rattle.labelling.proofs.Tells.{some_same}
use Rattle.classifier.specs.declared.classifier.Classifier.{Classifier}
use Rattle.classifier.specs.Standing.{Asked, Serves, Stands}
use Rattle.classifier.specs.Telling.{Told, Gone}
use Rattle.classifier.proofs.Answered.{refused_answer, accepted_answer, refused_remove, accepted_remove_list, answered_err, answered_ok, some_or_none, Parted, parted, given}
use Rattle.classifier.proofs.classifier.edits.ClassifierSorter.remove.Goals as goal

pub returns-in_err-position : goal.returns-in_err-position
returns-in_err-position g c =
    let p = err_from_is_err_and c.from_residual.result c.from_residual.ensures.1 in
    let q = p.2 in
    let is : c.in_err-position.field-0.0 ≡ p.0 = cc in
    let id = c.args.identifier in
    let t = c.args.self.now.table in
    let fault : refusal (held t) (Remove id) ≡ Some p.0 = answered_err (refusal (held t) (Remove id)) (place_of id (held t)) c.in_err-position.field-0.0 c.in_err-position.ensures.result ∙ ap Some is in
    let with-table : FilterTable → Classifier g.row.A.Denot g.row.B.Denot g.row.C.Denot g.row.D.Denot g.row.E.Denot g.row.F.Denot g.row.S.Denot = λ x. record { table = x; labels = c.args.self.now.labels; columns = c.args.self.now.columns; network = c.args.self.now.network } in
    let same : with-table c.remove.new.self ≡ c.args.self.now = ap with-table (c.in_err-position.ensures.kept refl) in
    record {
      answer = λ fs asked h. ap (answer_by (λ (n : ℕ × ℕ). removed n.0 n.1)) p.1 ∙ refused_answer (λ (n : ℕ × ℕ). removed n.0 n.1) c.args.self.now.network.order.fields fs (Remove id) p.0 (ap (λ (gs : List FilterRow). refusal gs (Remove id)) (sym h.table) ∙ fault);
      stands = λ fs asked h. subst (λ (gs : List FilterRow). Stands g.A.Told.shows g.B.Told.shows g.C.Told.shows g.D.Told.shows g.E.Told.shows g.F.Told.shows g.S.Told.shows (with-table c.remove.new.self) gs asked) (refused_remove fs id p.0 (ap (λ (gs : List FilterRow). refusal gs (Remove id)) (sym h.table) ∙ fault)) (subst (λ (k : Classifier g.row.A.Denot g.row.B.Denot g.row.C.Denot g.row.D.Denot g.row.E.Denot g.row.F.Denot g.row.S.Denot). Stands g.A.Told.shows g.B.Told.shows g.C.Told.shows g.D.Told.shows g.E.Told.shows g.F.Told.shows g.S.Told.shows k fs asked) (sym same) h);
      told = λ fs asked gone h none named. absurd (some_or_none (refusal fs (Remove id)) p.0 none (ap (λ (gs : List FilterRow). refusal gs (Remove id)) (sym h.table) ∙ fault));
      order = refl;
      kept = λ _. same;
    }

pub returns : goal.returns
returns g c =
    let id = c.args.identifier in
    let t = c.args.self.now.table in
    let position = c.in_ok-position.position in
    let order = c.args.self.now.network.order.fields in
    let ok = answered_ok (refusal (held t) (Remove id)) (place_of id (held t)) position c.in_ok-position.ensures.result in
    let new = c.leave.new.self in
    let split : (fs : List FilterRow) (asked : Asked) (h : Stands g.A.Told.shows g.B.Told.shows g.C.Told.shows g.D.Told.shows g.E.Told.shows g.F.Told.shows g.S.Told.shows c.args.self.now fs asked) → Parted id fs h.entries = λ fs asked h.
    subst (λ (gs : List FilterRow). Parted id gs h.entries) h.filters (parted id h.entries (accepted_removal (map row_of h.entries) id (ap (λ (gs : List FilterRow). refusal gs (Remove id)) (h.filters ∙ sym h.table) ∙ ok.0))) in
    let left : (fs : List FilterRow) (asked : Asked) (h : Stands g.A.Told.shows g.B.Told.shows g.C.Told.shows g.D.Told.shows g.E.Told.shows g.F.Told.shows g.S.Told.shows c.args.self.now fs asked) → (q : Parted id fs h.entries) → Gone g.A.Told.shows g.B.Told.shows g.C.Told.shows g.D.Told.shows g.E.Told.shows g.F.Told.shows g.S.Told.shows g.A.Told.agrees g.B.Told.agrees g.C.Told.agrees g.D.Told.agrees g.E.Told.agrees g.F.Told.agrees g.S.Told.agrees c.args.self.now new q.gone (q.front ++ q.back) asked c.unwrap_or.result = λ fs asked h q.
    let s = h.parts in
    let whole = q.whole in
    let parts : Serves g.A.Told.shows g.B.Told.shows g.C.Told.shows g.D.Told.shows g.E.Told.shows g.F.Told.shows g.S.Told.shows c.args.self.now (q.front ++ q.gone ∷ q.back) asked = subst (λ (es : List Entry). Serves g.A.Told.shows g.B.Told.shows g.C.Told.shows g.D.Told.shows g.E.Told.shows g.F.Told.shows g.S.Told.shows c.args.self.now es asked) whole s in
    let r = given c.leave.result (0, 0) _ (c.leave.ensures.left q.front q.back q.gone asked (record { labels = parts.labels; fields = parts.fields; nodes = parts.nodes; first = parts.first; spare = parts.spare }) (ok.1 ∙ ap (place_of id) h.table ∙ q.place)) in
    let t = r.told in
    let read : c.unwrap_or.result ≡ result_unwrap_or c.leave.result (0, 0) = search rules in
    record { serves = r.serves; field_labels = ap (λ (n : ℕ × ℕ). n.0) read ∙ r.field_labels; node_labels = ap (λ (n : ℕ × ℕ). n.1) read ∙ r.node_labels; told = record { source = t.source; destination = t.destination; source_port = t.source_port; destination_port = t.destination_port; protocol = t.protocol; flags = t.flags; stores = t.stores } } in
    let none : (fs : List FilterRow) (asked : Asked) → Stands g.A.Told.shows g.B.Told.shows g.C.Told.shows g.D.Told.shows g.E.Told.shows g.F.Told.shows g.S.Told.shows c.args.self.now fs asked → refusal fs (Remove id) ≡ None = λ fs asked h. ap (λ (gs : List FilterRow). refusal gs (Remove id)) (sym h.table) ∙ ok.0 in
    record {
      answer = λ fs asked h.
          let q = split fs asked h in
          let k = left fs asked h q in
          let e : c.unwrap_or.result.0 ≡ freed_field_labels id fs = k.field_labels ∙ ap (new_field_labels (row_of q.gone)) q.rest ∙ sym (ap (if_any (λ f. new_field_labels f (without id fs))) q.named) in
          let e' : c.unwrap_or.result.1 ≡ freed_node_labels order id fs = k.node_labels ∙ ap (new_node_labels order (row_of q.gone)) q.rest ∙ sym (ap (if_any (λ f. new_node_labels order f (without id fs))) q.named) in
          accepted_answer (λ (n : ℕ × ℕ). removed n.0 n.1) order fs (Remove id) c.unwrap_or.result (none fs asked h) (ap (λ (n : ℕ). removed n c.unwrap_or.result.1) e ∙ ap (removed (freed_field_labels id fs)) e');
      stands = λ fs asked h.
          let q = split fs asked h in
          let k = left fs asked h q in
          record {
            table = ap held c.leave.ensures.table ∙ c.in_ok-position.ensures.list ∙ ap (λ (gs : List FilterRow). after gs (Remove id)) h.table;
            entries = q.front ++ q.back;
            filters = q.rest ∙ sym (accepted_remove_list fs id (none fs asked h));
            parts = k.serves;
          };
      told = λ fs asked gone h ok-too named.
          let q = split fs asked h in
          let k = left fs asked h q in
          let is : row_of q.gone ≡ gone = some_same (sym q.named ∙ named) in
          subst (λ (gs : List FilterRow). Told g.A.Told.agrees g.B.Told.agrees g.C.Told.agrees g.D.Told.agrees g.E.Told.agrees g.F.Told.agrees g.S.Told.agrees c.args.self.now new gone gs) q.rest
          (subst (λ (y : FilterRow). Told g.A.Told.agrees g.B.Told.agrees g.C.Told.agrees g.D.Told.agrees g.E.Told.agrees g.F.Told.agrees g.S.Told.agrees c.args.self.now new y (map row_of (q.front ++ q.back))) is k.told);
      order = c.leave.ensures.order;
      kept = λ e. absurd (let z : ◌≡◌ {A = Bool} false true = e in let w : ◌≡◌ {A = ℕ} 0 1 = cc in omega arith);
    }
