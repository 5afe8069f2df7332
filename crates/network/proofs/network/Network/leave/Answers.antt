use Rattle.std.proofs.Common.{◌≡◌, ℕ, ◌<◌, ◌≤◌, List, ◌∷◌, ◌++◌, map, length, get_or, sym, refl, ap, ◌∙◌, subst, arith, rules}
use Rattle.stores.specs.declared.pairs.Pair.{Pair}
use Rattle.stores.specs.Pairs.{same_pair}
use Rattle.std.proofs.lemmas.List.{get_or-set_other}
use Rattle.labels.specs.Labels.{Standing}
use Rattle.parts.specs.Meaning.{Meaning}
use Rattle.labelling.specs.declared.board.Board.{Board}
use Rattle.labelling.specs.Boards.{Stands}
use Rattle.network.specs.Nodes.{Filed, filed, key_at, at_node, Nodes, fresh, unused}
use Rattle.network.proofs.Entering.{map_split, bit_one, fresh_same, unused_split, unchained, untold_more, asks_more}
use Rattle.network.proofs.network.Network.leave.Goals as goal

-- the node as the loop reaches it
here : {S : Type 0} (shows : S → Meaning Pair → Type 0) (nodes nodes₀ : List (Board Pair S)) (k : ℕ) (d : Board Pair S) (before after : List Filed) (f : Filed) (ns : List ℕ) → k < 5
    → ((j : ℕ) (d : Board Pair S) → k ≤ j → get_or nodes j d ≡ get_or nodes₀ j d)
    → Nodes shows nodes₀ (before ++ f ∷ after) ns 5
    → Stands same_pair shows (get_or nodes k d).table.slots (get_or nodes k d).part (map (at_node k) before ++ at_node k f ∷ map (at_node k) after) (get_or ns k 0)
here {S} shows nodes nodes₀ k d before after f ns l kept s =
    subst (λ (fs : List (Standing Pair)). Stands same_pair shows (get_or nodes k d).table.slots (get_or nodes k d).part fs (get_or ns k 0)) (map_split k before after f)
    (subst (λ (x : Board Pair S). Stands same_pair shows x.table.slots x.part (map (at_node k) (before ++ f ∷ after)) (get_or ns k 0)) (sym (kept k d (omega arith)))
    (s k d l))

pub returns-in_err-last : goal.returns-in_err-last
returns-in_err-last g c =
    let k = c.loop-k.k in
    let inv = c.loop-k.invariant in
    let nodes = c.loop-k.node-items in
    let labels = c.args.labels in
    let ln : k < length nodes = search rules in
    record {
      left = λ before after fields ns s.
          absurd (c.in_err-last.ensures.left (map (at_node k) before) (map (at_node k) after) (key_at k (filed fields labels)) (get_or ns k 0)
          (here g.S.Told.shows nodes c.args.self.now.nodes k c.node-item.result before after (filed fields labels) ns (omega arith) inv.1 s));
      asked = asks_more g.S.Told.agrees c.args.self.now.nodes nodes k c.leave.new.self c.node-item.result ln c.in_err-last.ensures.asked inv.2;
      order = refl;
    }

pub loop-k-preserved : goal.loop-k-preserved
loop-k-preserved g c =
    let k = c.loop-k.k in
    let inv = c.loop-k.invariant in
    let nodes = c.loop-k.node-items in
    let nodes₀ = c.args.self.now.nodes in
    let shows = g.S.Told.shows in
    let labels = c.args.labels in
    let ln : k < length nodes = search rules in
    let last = c.in_ok-last.last in
    let b = c.leave.new.self in
    let d₀ = c.node-item.result in (
      omega (arith, bit_one last),
      λ j d l. get_or-set_other nodes k j _ d (omega arith) ∙ inv.1 j d (omega arith),
      asks_more g.S.Told.agrees nodes₀ nodes k b d₀ ln c.in_ok-last.ensures.asked inv.2,
      λ before after fields ns s.
          let f = filed fields labels in
          let old = inv.3 before after fields ns s in
          let e = c.in_ok-last.ensures.left (map (at_node k) before) (map (at_node k) after) (key_at k f) (get_or ns k 0)
          (here shows nodes nodes₀ k d₀ before after f ns (omega arith) inv.1 s) in
          let went : last ≡ unused (before ++ after) f k = e.0 ∙ unused_split before after f k (key_at k f) refl in (
            unchained shows nodes k b before after ns ln old.0 e.1,
            fresh_same (before ++ after) f k c.loop-k.freed last old.1 went,
            untold_more nodes₀ nodes k b (before ++ after) f f d₀ ln inv.1 (λ j l. refl) (λ u. c.in_ok-last.ensures.untold (went ∙ u)) old.2,
          ),
    )

pub returns : goal.returns
returns g c =
    let five : c.loop-k.k ≡ 5 = omega arith in
    record {
      left = λ before after fields ns s.
          let r = c.loop-k.invariant.3 before after fields ns s in
          (λ j d l. r.0 j d (omega arith), r.1 ∙ ap (fresh (before ++ after) (filed fields c.args.labels)) five, λ j d l u. r.2 j d (omega arith) u);
      asked = c.loop-k.invariant.2;
      order = refl;
    }
