use Rattle.std.proofs.Common.{ℕ, get_or, None, sym, subst}
use Rattle.stores.specs.Chains.{Linked}
use Rattle.stores.proofs.Walking.{chained_walk, walked_find}
use Rattle.stores.proofs.chain_store.ChainIndexIndex.find.Goals as goal

pub returns-clause-reached : goal.returns-clause-reached
returns-clause-reached g c _ h =
    let s = c.args.self.now.chains in
    chained_walk g.K.ChainKey.key s c.args.pairs.now c.args.pair c.find.result h (λ o l few. c.find.ensures.walked o (subst (λ (k : ℕ). Linked s.nexts (get_or s.heads k None) o) (sym c.key_of.ensures) l) few)

pub returns-clause-found : goal.returns-clause-found
returns-clause-found g c p h _ = walked_find g.K.ChainKey.key c.args.self.now.chains c.args.pairs.now c.args.pair c.find.result p (returns-clause-reached g c p h)
