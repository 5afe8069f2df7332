use Rattle.std.proofs.Common.{◌≡◌, ℕ, ◌<◌, Bool, false, List, map, length, get_or, take, replicate, Ok, Option, Result, sym, refl, ap, ◌∙◌, subst, mul-le-mul, rules}
use Rattle.fields.specs.declared.faults.Fault.{Fault}
use Rattle.stores.specs.declared.pairs.Pair.{Pair}
use Rattle.stores.specs.Pairs.{same_pair}
use Rattle.std.proofs.lemmas.List.{take_all}
use Rattle.parts.specs.Meaning.{find}
use Rattle.parts.specs.Marks.{marked, hit}
use Rattle.parts.specs.Asked.{Questioned, after_questions}
use Rattle.network.specs.Products.{row, product, both_found, marks_after}
use Rattle.network.proofs.Asking.{product_more, after_places, marks_append, questioned_append}
use Rattle.network.proofs.Marking.{crossed}
use Rattle.labelling.proofs.Listed.{take_over}
use Rattle.network.proofs.Times.{product_times}
use Rattle.network.proofs.asks.ask_pairs.Goals as goal

ok_same : {A : Type 0} {a b : A} → ◌≡◌ {A = Result A Fault} (Ok a) (Ok b) → a ≡ b
ok_same {A} {a} {b} e = cc

pub loop-a-preserved : goal.loop-a-preserved
loop-a-preserved g c =
    let i = c.loop-a.a-index in
    let left = c.args.left.now in
    let right = c.args.right.now in
    let a = get_or left i 0 in
    let l : i < length left = search rules in
    let old = product (take i left) right in
    let shows = g.S.Told.shows in
    let agrees = g.S.Told.agrees in
    let none : List Bool = replicate 96 false in
    λ m s ll lr.
    let inv = c.loop-a.invariant m s ll lr in
    let r = c.in_ok-ask_row.ensures (after_questions m old) inv.0.shown (ll i) lr in
    let e = product_more left right i l in (
      subst (Questioned shows agrees c.args.store.now c.ask_row.new.store m) (sym e) (questioned_append shows agrees c.args.store.now c.loop-a.store c.ask_row.new.store m old (row a right) inv.0 r.0),
      r.1 ∙ ap (λ (xs : List (Option Pair)). marks_after (find same_pair xs) c.loop-a.marks (row a right)) (after_places m old)
          ∙ ap (λ (ms : List Bool). marks_after (find same_pair m.places) ms (row a right)) inv.1
          ∙ sym (marks_append (find same_pair m.places) none old (row a right))
          ∙ ap (marks_after (find same_pair m.places) none) (sym e),
    )

pub returns : goal.returns
returns g c =
    let left = c.args.left.now in
    let right = c.args.right.now in
    let all : take c.loop-a.a-index left ≡ left = take_all c.loop-a.a-index left (search rules) in
    let w = c.in_ok-count.ensures in
    record {
      crossed = λ m s ll lr.
          let inv = c.loop-a.invariant m s ll lr in
          let p = g.met.S.Told.proper c.args.store.now m s in
          let marks : c.loop-a.marks ≡ map (hit (both_found left right)) m.places = inv.1 ∙ ap (λ (ls : List ℕ). marks_after (find same_pair m.places) (replicate 96 false) (product ls right)) all ∙ crossed m.places left right p.size p.single in
          record {
            questioned = subst (λ (ls : List ℕ). Questioned g.S.Told.shows g.S.Told.agrees c.args.store.now c.loop-a.store m (product ls right)) all inv.0;
            each_pair = λ q. product_times q left right;
            labels_found = take_over (marked c.loop-a.marks) (replicate 96 0) _ _ w.written (ok_same w.result) ∙ ap marked marks;
            pairs_asked = refl;
          };
      few = mul-le-mul c.requires.left c.requires.right;
    }
