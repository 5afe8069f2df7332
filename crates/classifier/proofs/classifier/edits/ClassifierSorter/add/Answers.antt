use Rattle.std.proofs.Common.{◌≡◌, ℕ, ◌<◌, Bool, true, false, List, map, length, Some, None, sym, refl, ap, ◌∙◌, subst, arith, rules}
use Rattle.std.specs.List.{insert}
use Rattle.std.proofs.lemmas.List.{length-map}
use Rattle.std.specs.Result.{result_unwrap_or}
use Rattle.std.proofs.lemmas.Result.{err_from_is_err_and}
use Rattle.fields.specs.Faults.{answer_by}
use Rattle.filters.specs.declared.rows.FilterRow.{FilterRow}
use Rattle.filters.specs.declared.calls.Call.TheVariants.{Add}
use Rattle.filters.specs.Standing.{refusal, after, put, rank_place}
use Rattle.filters.specs.Labels.{new_field_labels, new_node_labels}
use Rattle.filters.specs.Answers.{added}
use Rattle.filters.specs.Filters.{row_fault}
use Rattle.filters.specs.Formed.{plain}
use Rattle.filters.proofs.Checks.{formed_ok, formed_err, accepted_add}
use Rattle.filter_table.specs.declared.table.FilterTable.{FilterTable}
use Rattle.filter_table.specs.Tables.{held}
use Rattle.entries.specs.Entries.{Entry, entry, row_of}
use Rattle.classifier.specs.declared.classifier.Classifier.{Classifier}
use Rattle.classifier.specs.Standing.{Asked, Stands}
use Rattle.classifier.specs.Telling.{Told, Came}
use Rattle.classifier.proofs.Answered.{refused_answer, accepted_answer, refused_add, accepted_add_list, answered_err, answered_ok, some_or_none, unformed, rank_within, put_entry, given}
use Rattle.classifier.proofs.classifier.edits.ClassifierSorter.add.Goals as goal

pub returns-in_err-filter : goal.returns-in_err-filter
returns-in_err-filter g c =
    let p = err_from_is_err_and c.from_residual.result c.from_residual.ensures.1 in
    let q = p.2 in
    let is : c.in_err-filter.field-0.0 ≡ p.0 = cc in
    let row = c.args.row in
    let fault : row_fault row ≡ Some p.0 = formed_err plain (row_fault row) c.in_err-filter.field-0.0 row c.in_err-filter.ensures ∙ ap Some is in
    record {
      answer = λ fs asked h. ap (answer_by (λ (n : ℕ × ℕ). added n.0 n.1)) p.1 ∙ refused_answer (λ (n : ℕ × ℕ). added n.0 n.1) c.args.self.now.network.order.fields fs (Add row) p.0 (unformed fs row p.0 fault);
      stands = λ fs asked h. subst (λ (gs : List FilterRow). Stands g.A.Told.shows g.B.Told.shows g.C.Told.shows g.D.Told.shows g.E.Told.shows g.F.Told.shows g.S.Told.shows c.args.self.now gs asked) (refused_add fs row p.0 (unformed fs row p.0 fault)) h;
      told = λ fs asked h none. absurd (some_or_none (refusal fs (Add row)) p.0 none (unformed fs row p.0 fault));
      order = refl;
      kept = λ _. refl;
    }

pub returns-in_err-position : goal.returns-in_err-position
returns-in_err-position g c =
    let p = err_from_is_err_and c.from_residual-in_err-position.result c.from_residual-in_err-position.ensures.1 in
    let q = p.2 in
    let is : c.in_err-position.field-0.0 ≡ p.0 = cc in
    let row = c.args.row in
    let t = c.args.self.now.table in
    let fault : refusal (held t) (Add row) ≡ Some p.0 = answered_err (refusal (held t) (Add row)) (rank_place row (held t)) c.in_err-position.field-0.0 c.in_err-position.ensures.result ∙ ap Some is in
    let with-table : FilterTable → Classifier g.row.A.Denot g.row.B.Denot g.row.C.Denot g.row.D.Denot g.row.E.Denot g.row.F.Denot g.row.S.Denot = λ x. record { table = x; labels = c.args.self.now.labels; columns = c.args.self.now.columns; network = c.args.self.now.network } in
    let same : with-table c.add.new.self ≡ c.args.self.now = ap with-table (c.in_err-position.ensures.kept refl) in
    record {
      answer = λ fs asked h. ap (answer_by (λ (n : ℕ × ℕ). added n.0 n.1)) p.1 ∙ refused_answer (λ (n : ℕ × ℕ). added n.0 n.1) c.args.self.now.network.order.fields fs (Add row) p.0 (ap (λ (gs : List FilterRow). refusal gs (Add row)) (sym h.table) ∙ fault);
      stands = λ fs asked h. subst (λ (gs : List FilterRow). Stands g.A.Told.shows g.B.Told.shows g.C.Told.shows g.D.Told.shows g.E.Told.shows g.F.Told.shows g.S.Told.shows (with-table c.add.new.self) gs asked) (refused_add fs row p.0 (ap (λ (gs : List FilterRow). refusal gs (Add row)) (sym h.table) ∙ fault)) (subst (λ (k : Classifier g.row.A.Denot g.row.B.Denot g.row.C.Denot g.row.D.Denot g.row.E.Denot g.row.F.Denot g.row.S.Denot). Stands g.A.Told.shows g.B.Told.shows g.C.Told.shows g.D.Told.shows g.E.Told.shows g.F.Told.shows g.S.Told.shows k fs asked) (sym same) h);
      told = λ fs asked h none. absurd (some_or_none (refusal fs (Add row)) p.0 none (ap (λ (gs : List FilterRow). refusal gs (Add row)) (sym h.table) ∙ fault));
      order = refl;
      kept = λ _. same;
    }

pub returns : goal.returns
returns g c =
    let row = c.args.row in
    let t = c.args.self.now.table in
    let filter = c.in_ok-filter.filter in
    let position = c.in_ok-position.position in
    let order = c.args.self.now.network.order.fields in
    let is_row : plain filter ≡ row = (formed_ok plain (row_fault row) filter row c.in_ok-filter.ensures).1 in
    let ok = answered_ok (refusal (held t) (Add row)) (rank_place row (held t)) position c.in_ok-position.ensures.result in
    let room : length (held t) < 96 = (accepted_add (held t) row ok.0).room in
    let new = c.enter.new.self in
    let came : (fs : List FilterRow) (asked : Asked) (h : Stands g.A.Told.shows g.B.Told.shows g.C.Told.shows g.D.Told.shows g.E.Told.shows g.F.Told.shows g.S.Told.shows c.args.self.now fs asked) → Came g.A.Told.shows g.B.Told.shows g.C.Told.shows g.D.Told.shows g.E.Told.shows g.F.Told.shows g.S.Told.shows g.A.Told.agrees g.B.Told.agrees g.C.Told.agrees g.D.Told.agrees g.E.Told.agrees g.F.Told.agrees g.S.Told.agrees c.args.self.now new filter position h.entries asked c.unwrap_or.result = λ fs asked h.
    let s = h.parts in
    let long = ap length h.filters in
    let same = ap length h.table in
    let mapped = length-map h.entries row_of in
    let within = rank_within row (held t) in
    let r = given c.enter.result (0, 0) _ (c.enter.ensures.entered h.entries asked (record { labels = s.labels; fields = s.fields; nodes = s.nodes; first = s.first; spare = s.spare }) (omega arith) (omega (arith, ok.1))) in
    let t = r.told in
    let read : c.unwrap_or.result ≡ result_unwrap_or c.enter.result (0, 0) = search rules in
    record { labels = r.labels; serves = r.serves; field_labels = ap (λ (n : ℕ × ℕ). n.0) read ∙ r.field_labels; node_labels = ap (λ (n : ℕ × ℕ). n.1) read ∙ r.node_labels; told = record { source = t.source; destination = t.destination; source_port = t.source_port; destination_port = t.destination_port; protocol = t.protocol; flags = t.flags; stores = t.stores } } in
    let none : (fs : List FilterRow) (asked : Asked) → Stands g.A.Told.shows g.B.Told.shows g.C.Told.shows g.D.Told.shows g.E.Told.shows g.F.Told.shows g.S.Told.shows c.args.self.now fs asked → refusal fs (Add row) ≡ None = λ fs asked h. ap (λ (gs : List FilterRow). refusal gs (Add row)) (sym h.table) ∙ ok.0 in
    record {
      answer = λ fs asked h.
          let k = came fs asked h in
          let e : c.unwrap_or.result.0 ≡ new_field_labels row fs = k.field_labels ∙ ap (λ (x : FilterRow). new_field_labels x (map row_of h.entries)) is_row ∙ ap (new_field_labels row) h.filters in
          let e' : c.unwrap_or.result.1 ≡ new_node_labels order row fs = k.node_labels ∙ ap (λ (x : FilterRow). new_node_labels order x (map row_of h.entries)) is_row ∙ ap (new_node_labels order row) h.filters in
          accepted_answer (λ (n : ℕ × ℕ). added n.0 n.1) order fs (Add row) c.unwrap_or.result (none fs asked h) (ap (λ (n : ℕ). added n c.unwrap_or.result.1) e ∙ ap (added (new_field_labels row fs)) e');
      stands = λ fs asked h.
          let k = came fs asked h in
          let x : Entry = entry filter k.labels in
          let at : position ≡ rank_place (plain filter) fs = ok.1 ∙ ap (rank_place row) h.table ∙ ap (λ (y : FilterRow). rank_place y fs) (sym is_row) in
          record {
            table = ap held c.enter.ensures.table ∙ c.in_ok-position.ensures.list ∙ ap (λ (gs : List FilterRow). after gs (Add row)) h.table;
            entries = insert h.entries position x;
            filters = ap (λ (n : ℕ). map row_of (insert h.entries n x)) at ∙ put_entry fs h.entries x h.filters ∙ ap (λ (y : FilterRow). put y fs) is_row ∙ sym (accepted_add_list fs row (none fs asked h));
            parts = k.serves;
          };
      told = λ fs asked h ok-too.
          subst (λ (gs : List FilterRow). Told g.A.Told.agrees g.B.Told.agrees g.C.Told.agrees g.D.Told.agrees g.E.Told.agrees g.F.Told.agrees g.S.Told.agrees c.args.self.now new row gs) h.filters
          (subst (λ (y : FilterRow). Told g.A.Told.agrees g.B.Told.agrees g.C.Told.agrees g.D.Told.agrees g.E.Told.agrees g.F.Told.agrees g.S.Told.agrees c.args.self.now new y (map row_of h.entries)) is_row (came fs asked h).told);
      order = c.enter.ensures.order;
      kept = λ e. absurd (let z : ◌≡◌ {A = Bool} false true = e in let w : ◌≡◌ {A = ℕ} 0 1 = cc in omega arith);
    }
