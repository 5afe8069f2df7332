use Rattle.std.proofs.Common.{◌≡◌, ℕ, List, get_or, set, Some, None, Option, sym, ap, ◌∙◌}
use Rattle.stores.specs.Chains.{Chained}
use Rattle.stores.proofs.Walking.{chained_clear}
use Rattle.stores.proofs.chain_store.ChainIndexIndex.leave.Goals as goal

pub returns : goal.returns
returns g c places s h full =
    let key = g.K.ChainKey.key in
    let v = c.args.pair in
    let l = c.args.place in
    let hs = c.args.self.now.chains.heads in
    let ns = c.args.self.now.chains.nexts in
    let unlink : (keys : List (Option ℕ)) → Chained hs ns keys → get_or keys l None ≡ Some (key v) → Chained c.unlink.new.self.heads c.unlink.new.self.nexts (set keys l None)
    = λ keys h e. c.unlink.ensures keys h (e ∙ ap Some (sym c.key_of.ensures)) in
    chained_clear key hs ns places h c.unlink.new.self.heads c.unlink.new.self.nexts l v full unlink
