-- What a chaining store finds its pairs by: each place chained under its pair's key.
use Rattle.std.specs.Prelude.{◌≡◌, ℕ, List, map, Option}
use Rattle.std.specs.Option.{option_map}
use Rattle.stores.specs.declared.chain_store.ChainIndex.{ChainIndex}
use Rattle.stores.specs.declared.chains.Chains.{Chains}
use Rattle.stores.specs.declared.pairs.Pair.{Pair}
use Rattle.stores.specs.Pairs.{same_pair}
use Rattle.stores.specs.Chains.{Chain, Chained, first_holding}

-- the key of what a place holds
abbrev pub keys_of : (Pair → ℕ) → List (Option Pair) → List (Option ℕ)
keys_of key places = map (option_map key) places

abbrev pub ChainLeads : {K : Type 0} → (Pair → ℕ) → ChainIndex K → List (Option Pair) → Type 0
ChainLeads key i pairs = Chained i.chains.heads i.chains.nexts (keys_of key pairs)

-- a pair is looked for along one chain only, and that chain holds exactly the places whose pair has the asked pair's key, each once
pub record Walked (key : Pair → ℕ) (chains : Chains) (places : List (Option Pair)) (asked : Pair) (found : Option ℕ) : Type 0 where
  pub chain : Chain chains.heads chains.nexts (keys_of key places) (key asked)
  pub answer : found ≡ first_holding same_pair places asked chain.order
