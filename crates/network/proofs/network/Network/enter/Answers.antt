use Rattle.std.proofs.Common.{◌≡◌, ◌+◌, ◌<◌, ◌++◌, map, length, get_or, set, refl, ap, ◌∙◌, arith, length-set, rules}
use Rattle.std.proofs.lemmas.List.{get_or-set_other}
use Rattle.network.specs.Nodes.{filed, at_node, fresh, arranged, unused}
use Rattle.network.proofs.Entering.{set_below, none_over, key_is, next_is, map_length, node_before, chained, bit_one, fresh_more, unused_split, untold_more, keys_kept, asks_more}
use Rattle.network.proofs.network.Network.enter.Goals as goal

pub returns-in_err-acquired : goal.returns-in_err-acquired
returns-in_err-acquired g c =
    let k = c.loop-k.k in
    let inv = c.loop-k.invariant in
    let nodes = c.loop-k.node-items in
    let fields = c.args.fields in
    let labels = c.loop-k.labels in
    let ln : k < length nodes = search rules in
    record {
      entered = λ before after ns s few lf.
          let old = inv.4 before after ns s few lf in
          absurd (c.in_err-acquired.ensures.entered (map (at_node k) before) (map (at_node k) after) (get_or ns k 0)
          (node_before g.S.Told.shows nodes c.args.self.now.nodes k c.node-item.result before after ns (omega arith) inv.2 s)
          (map_length k before after few) (none_over (get_or labels k 0) (get_or fields c.field_index-next.result 0) (old.1 k) (lf c.field_index-next.result)));
      asked = asks_more g.S.Told.agrees c.args.self.now.nodes nodes k c.enter.new.self c.node-item.result ln c.in_err-acquired.ensures.asked inv.3;
      order = refl;
    }

pub loop-k-preserved : goal.loop-k-preserved
loop-k-preserved g c =
    let k = c.loop-k.k in
    let inv = c.loop-k.invariant in
    let nodes = c.loop-k.node-items in
    let nodes₀ = c.args.self.now.nodes in
    let order = c.args.self.now.order in
    let shows = g.S.Told.shows in
    let fields = c.args.fields in
    let F = arranged order.fields fields in
    let labels = c.loop-k.labels in
    let next = c.field_index-next.result in
    let ln : k < length nodes = search rules in
    let h = c.in_ok-acquired.acquired in
    let b = c.enter.new.self in
    let d₀ = c.node-item.result in
    let key = key_is order.fields fields labels k next (omega (arith, order.size)) (next_is order order k next refl (c.field_index-next.ensures.value (omega arith) (omega arith))) in (
      omega (arith, bit_one h.new),
      length-set labels (k + 1) h.label ∙ inv.1,
      λ j d l. get_or-set_other nodes k j _ d (omega arith) ∙ inv.2 j d (omega arith),
      asks_more g.S.Told.agrees nodes₀ nodes k b d₀ ln c.in_ok-acquired.ensures.asked inv.3,
      λ before after ns s few lf.
          let old = inv.4 before after ns s few lf in
          let e = c.in_ok-acquired.ensures.entered (map (at_node k) before) (map (at_node k) after) (get_or ns k 0)
          (node_before shows nodes nodes₀ k d₀ before after ns (omega arith) inv.2 s)
          (map_length k before after few) (none_over (get_or labels k 0) (get_or fields next 0) (old.1 k) (lf next)) in
          let came : h.new ≡ unused (before ++ after) (filed F labels) k = e.1 ∙ unused_split before after (filed F labels) k _ key in (
            chained shows nodes k b before after F labels h.label ns _ ln (omega arith) key old.0 e.2,
            set_below labels (k + 1) h.label (omega (arith, e.0)) old.1 (omega arith),
            fresh_more (before ++ after) F labels k h.label c.loop-k.new h.new old.2 came,
            get_or-set_other labels (k + 1) 0 h.label 0 (omega arith) ∙ old.3,
            untold_more nodes₀ nodes k b (before ++ after) (filed F labels) (filed F (set labels (k + 1) h.label)) d₀ ln inv.2 (keys_kept F labels k h.label) (λ u. c.in_ok-acquired.ensures.untold (came ∙ u)) old.4,
          ),
    )

pub returns : goal.returns
returns g c =
    let five : c.loop-k.k ≡ 5 = omega arith in
    let F = arranged c.args.self.now.order.fields c.args.fields in
    record {
      entered = λ before after ns s few lf.
          let r = c.loop-k.invariant.4 before after ns s few lf in
          (λ j d l. r.0 j d (omega arith), r.2 ∙ ap (fresh (before ++ after) (filed F c.loop-k.labels)) five, r.1, r.3, λ j d l u. r.4 j d (omega arith) u);
      asked = c.loop-k.invariant.3;
      order = refl;
    }
