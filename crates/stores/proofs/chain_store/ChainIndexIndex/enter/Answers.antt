use Rattle.std.proofs.Common.{◌≡◌, ℕ, ◌<◌, List, get_or, set, Some, None, Option, sym, subst}
use Rattle.stores.specs.Chains.{Chained}
use Rattle.stores.proofs.Walking.{chained_set}
use Rattle.stores.proofs.chain_store.ChainIndexIndex.enter.Goals as goal

pub returns : goal.returns
returns g c places s h f =
    let key = g.K.ChainKey.key in
    let v = c.args.pair in
    let l = c.args.place in
    let hs = c.args.self.now.chains.heads in
    let ns = c.args.self.now.chains.nexts in
    let hs' = c.link.new.self.heads in
    let ns' = c.link.new.self.nexts in
    let link : (keys : List (Option ℕ)) → Chained hs ns keys → key v < 96 → l < 96 → get_or keys l None ≡ None → Chained hs' ns' (set keys l (Some (key v)))
    = λ keys h kb pb free. subst (λ (k : ℕ). Chained hs' ns' (set keys l (Some k))) c.key_of.ensures (c.link.ensures.chained keys h (subst (λ (k : ℕ). k < 96) (sym c.key_of.ensures) kb) pb free) in
    chained_set key hs ns places h hs' ns' l v (g.met.K.ChainKey.within v f.within.0 f.within.1) f link
