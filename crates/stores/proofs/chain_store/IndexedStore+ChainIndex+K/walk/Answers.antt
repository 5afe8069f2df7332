use Rattle.std.proofs.Common.{List, Option, ap, ◌∙◌, sym, subst}
use Rattle.parts.specs.Meaning.{find}
use Rattle.stores.specs.declared.pairs.Pair.{Pair}
use Rattle.stores.specs.Pairs.{same_pair}
use Rattle.stores.specs.Held.{Walked}
use Rattle.stores.proofs.Walking.{walked_find}
use Rattle.stores.proofs.chain_store.IndexedStore+ChainIndex+K.walk.Goals as goal

pub returns-clause-walked : goal.returns-clause-walked
returns-clause-walked g c m h = c.look_up.ensures.reached m h

pub returns-clause-found : goal.returns-clause-found
returns-clause-found g c m h =
    let s = c.args.self.now in
    walked_find g.K.ChainKey.key s.index.chains s.pairs c.args.pair c.look_up.result h.placed (subst (λ (xs : List (Option Pair)). Walked g.K.ChainKey.key s.index.chains xs c.args.pair c.look_up.result) (sym h.places) (c.look_up.ensures.reached m h)) ∙ ap (λ (xs : List (Option Pair)). find same_pair xs c.args.pair) h.places
