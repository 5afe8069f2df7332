use Rattle.std.proofs.Common.{◌≡◌, ◌<◌, Bool, List, [], ◌∷◌, length, get_or, take, Ok, Option, Result, sym, ap, ◌∙◌, subst, rules}
use Rattle.fields.specs.declared.faults.Fault.{Fault}
use Rattle.fields.specs.Faults.{answer, unless}
use Rattle.stores.specs.declared.pairs.Pair.{Pair}
use Rattle.stores.specs.Pairs.{pair, same_pair}
use Rattle.parts.specs.Meaning.{find, asked_once}
use Rattle.parts.specs.Marks.{mark_found}
use Rattle.parts.specs.Asked.{Questioned, after_questions}
use Rattle.network.specs.Products.{row, marks_after}
use Rattle.network.proofs.Asking.{row_more, after_places, marks_append, questioned_append}
use Rattle.network.proofs.Entering.{none_over}
use Rattle.network.proofs.asks.ask_row.Goals as goal

ok_same : {A : Type 0} {a b : A} → ◌≡◌ {A = Result A Fault} (Ok a) (Ok b) → a ≡ b
ok_same {A} {a} {b} e = cc

pub loop-b-preserved : goal.loop-b-preserved
loop-b-preserved g c =
    let i = c.loop-b.b-index in
    let a = c.args.a in
    let right = c.args.right.now in
    let b = get_or right i 0 in
    let l : i < length right = search rules in
    let old = row a (take i right) in
    let shows = g.S.Told.shows in
    let agrees = g.S.Told.agrees in
    let f = c.in_ok-label.ensures in
    λ m s la lr.
    let inv = c.loop-b.invariant m s la lr in
    let none = none_over a b la (lr i) in
    let M = after_questions m old in
    let one : Questioned shows agrees c.loop-b.store c.find.new.self M (pair a b ∷ []) = record {
      shown = subst (λ (x : Option Fault). shows c.find.new.self (unless x M (asked_once M))) none (f.held M inv.0.shown);
      lists = f.asked;
    } in
    let label : c.in_ok-label.label ≡ find same_pair m.places (pair a b) = ok_same (f.result M inv.0.shown ∙ ap (λ (x : Option Fault). answer x (find same_pair M.places (pair a b))) none) ∙ ap (λ (xs : List (Option Pair)). find same_pair xs (pair a b)) (after_places m old) in
    let e = row_more a right i l in (
      subst (Questioned shows agrees c.args.store.now c.find.new.self m) (sym e) (questioned_append shows agrees c.args.store.now c.loop-b.store c.find.new.self m old (pair a b ∷ []) inv.0 one),
      c.mark.ensures ∙ ap (mark_found c.loop-b.marks) label ∙ ap (λ (ms : List Bool). mark_found ms (find same_pair m.places (pair a b))) inv.1
          ∙ sym (marks_append (find same_pair m.places) c.args.marks.now old (pair a b ∷ []))
          ∙ ap (marks_after (find same_pair m.places) c.args.marks.now) (sym e),
    )
