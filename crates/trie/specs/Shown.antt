-- What a trie engine shows: the values that the places hold, and how often it was asked.
use Rattle.std.specs.Prelude.{◌≡◌, ℕ, ◌^◌, ◌<◌, List, Option}
use Rattle.fields.specs.declared.prefixes.Prefix.{Prefix}
use Rattle.parts.specs.Meaning.{Meaning}
use Rattle.trie.specs.declared.tries.Trie.{Trie}

pub record Shown (places : List (Option Prefix)) (asked : ℕ) (m : Meaning Prefix) : Type 0 where
  pub held : places ≡ m.places
  pub counted : asked ≡ m.asked
  pub small : asked < 2 ^ 32

abbrev pub Shows : Trie → Meaning Prefix → Type 0
Shows t m = Shown t.tree.tables.places t.asked m
