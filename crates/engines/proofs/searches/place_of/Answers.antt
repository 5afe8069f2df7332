use Rattle.std.proofs.Common.{ℕ, Bool, get_or, None, sym, ◌∙◌, arith, rules, tests}
use Rattle.std.proofs.lemmas.Iterator.{YieldsList-from_range}
use Rattle.std.proofs.lemmas.Iterator.Search.{find_from_yields_List}
use Rattle.std.proofs.lemmas.Iterator.Adapters.{option_map_id}
use Rattle.parts.specs.Meaning.{at}
use Rattle.engines.proofs.Searching.{first_holds}
use Rattle.engines.proofs.searches.place_of.Goals as goal

pub returns : goal.returns
returns g c xs lies =
    let used = c.args.used.now in
    let holds : ℕ → Bool = λ l. at g.V.Key.eq c.args.value (get_or xs l None) in
    let s = lies.size in
    let t = used.idle in
    sym (option_map_id c.find.result)
    ∙ find_from_yields_List holds _ _ c.find.result c.find.ensures.ran (YieldsList-from_range 0 used.top used.top (cc) (omega arith)) (λ x b q k. search (rules, tests))
    ∙ first_holds g.V.Key.eq c.args.value xs 0 used.top (omega arith) (λ l h. lies.vacant l (used.idle.idle l (omega arith)))
