use Rattle.std.proofs.Common.{◌≡◌, ◌+◌, ◌-◌, ◌<◌, map, length, get_or, take, sym, refl, ap, ◌∙◌, subst, arith, rules}
use Rattle.stores.specs.declared.pairs.Pair.{Pair}
use Rattle.stores.specs.Pairs.{same_pair}
use native.Mathlib.Nat.{sub-zero}
use Rattle.std.proofs.lemmas.List.{length-map, get_or-set_other, get_or_default}
use Rattle.labels.specs.Labels.{key_of}
use Rattle.labelling.specs.declared.board.Board.{Board}
use Rattle.labelling.specs.Boards.{Stands, Labels}
use Rattle.network.specs.Nodes.{at_node}
use Rattle.labelling.specs.Lists.{found_in}
use Rattle.network.specs.Searches.{found_at, places_of, reached, pairs}
use Rattle.network.proofs.Entering.{next_is}
use Rattle.network.proofs.Searching.{labels_at, turn}
use Rattle.network.proofs.Reached.{all_reached, one_label, by_rows}
use Rattle.network.proofs.network.Network.ask.Goals as goal

pub loop-k-preserved : goal.loop-k-preserved
loop-k-preserved g c =
    let k = c.loop-k.k in
    let inv = c.loop-k.invariant in
    let nodes = c.loop-k.node-items in
    let old = c.args.self.now.nodes in
    let order = c.args.self.now.order in
    let fields = c.args.fields.now in
    let found = found_at order.fields fields in
    let ln : k < length nodes = search rules in
    let next = c.field_index-next.result in
    let other = get_or fields next c.index-fields-next.result in
    let o = get_or nodes k c.node-item.result in
    let x = c.in_ok-searched.searched in
    let at : next ≡ get_or order.fields (k + 1) 0 - 1 = next_is order order k next refl (c.field_index-next.ensures.value (omega arith) (omega arith)) in (
      x.found.few,
      x.found.size,
      omega (arith, c.in_ok-searched.ensures.few),
      λ j d l. get_or-set_other nodes k j _ d (omega arith) ∙ inv.3 j d (omega arith),
      λ fs ns d s lf.
          let i = inv.4 fs ns d s lf in
          let l : take (c.loop-k.found.count - 0) c.loop-k.found.labels ≡ reached (places_of d old) found k = rw sub-zero i.1 in
          let r : take (other.count - 0) other.labels ≡ found (k + 1) = rw sub-zero (labels_at fields next c.index-fields-next.result (search rules) ∙ ap (found_in fields) at) in
          let same : o ≡ get_or old k d = get_or_default nodes k c.node-item.result d ln ∙ inv.3 k d (omega arith) in
          let here = s k d (omega arith) in
          let y = c.in_ok-searched.ensures.crossed (map (at_node k) fs) (get_or ns k 0)
          (subst (λ (b : Board Pair g.row.S.Denot). Stands same_pair g.S.Told.shows b.table.slots b.part (map (at_node k) fs) (get_or ns k 0)) (sym same) here)
          (subst Labels (sym l) i.3) (subst Labels (sym r) (lf (get_or order.fields (k + 1) 0 - 1))) in
          turn g.S.Told.shows g.S.Told.agrees d old found ns nodes k o c.ask_node.new.node (take (c.loop-k.found.count - 0) c.loop-k.found.labels) (take (other.count - 0) other.labels) _ x.asked c.loop-k.asked ln
          (length-map (get_or old k d).table.slots key_of ∙ here.labelled.size) same l r c.in_ok-searched.ensures.kept y i.0 i.2,
    )

pub returns-in_err-searched : goal.returns-in_err-searched
returns-in_err-searched g c =
    let k = c.loop-k.k in
    let inv = c.loop-k.invariant in
    let nodes = c.loop-k.node-items in
    let old = c.args.self.now.nodes in
    let order = c.args.self.now.order in
    let fields = c.args.fields.now in
    let found = found_at order.fields fields in
    let ln : k < length nodes = search rules in
    let next = c.field_index-next.result in
    let other = get_or fields next c.index-fields-next.result in
    let o = get_or nodes k c.node-item.result in
    let at : next ≡ get_or order.fields (k + 1) 0 - 1 = next_is order order k next refl (c.field_index-next.ensures.value (omega arith) (omega arith)) in
    record {
      asked = λ fs ns d s lf.
          let i = inv.4 fs ns d s lf in
          let l : take (c.loop-k.found.count - 0) c.loop-k.found.labels ≡ reached (places_of d old) found k = rw sub-zero i.1 in
          let r : take (other.count - 0) other.labels ≡ found (k + 1) = rw sub-zero (labels_at fields next c.index-fields-next.result (search rules) ∙ ap (found_in fields) at) in
          let same : o ≡ get_or old k d = get_or_default nodes k c.node-item.result d ln ∙ inv.3 k d (omega arith) in
          let here = s k d (omega arith) in
          absurd (c.in_err-searched.ensures.crossed (map (at_node k) fs) (get_or ns k 0)
          (subst (λ (b : Board Pair g.row.S.Denot). Stands same_pair g.S.Told.shows b.table.slots b.part (map (at_node k) fs) (get_or ns k 0)) (sym same) here)
          (subst Labels (sym l) i.3) (subst Labels (sym r) (lf (get_or order.fields (k + 1) 0 - 1))));
      laws = λ fs ns d s first. (one_label g.S.Told.shows d c.args.self.now.nodes fs ns 5 s first, λ found. by_rows g.S.Told.shows d c.args.self.now.nodes fs ns 5 s first found 5 (omega arith));
      order = refl;
    }

pub returns : goal.returns
returns g c =
    let five : c.loop-k.k ≡ 5 = omega arith in
    record {
      asked = λ fs ns d s lf.
          let i = c.loop-k.invariant.4 fs ns d s lf in
          let old = c.args.self.now.nodes in
          let found = found_at c.args.self.now.order.fields c.args.fields.now in
          let last : take c.loop-k.found.count c.loop-k.found.labels ≡ reached (places_of d old) found 5 = i.1 ∙ ap (reached (places_of d old) found) five in
          (λ j l. i.0 j (omega arith), last, i.2 ∙ ap (pairs (places_of d old) found) five, all_reached g.S.Told.shows d old fs ns 5 s found (take c.loop-k.found.count c.loop-k.found.labels) last);
      laws = λ fs ns d s first. (one_label g.S.Told.shows d c.args.self.now.nodes fs ns 5 s first, λ found. by_rows g.S.Told.shows d c.args.self.now.nodes fs ns 5 s first found 5 (omega arith));
      order = refl;
    }
