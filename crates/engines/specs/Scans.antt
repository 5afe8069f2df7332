-- What a scan engine shows, and what it leaves alone.
use Rattle.std.specs.Prelude.{◌≡◌, List, drop}
use Rattle.parts.specs.Meaning.{Meaning, Proper, place_count}
use Rattle.engines.specs.declared.scan.Scan.{Scan}
use Rattle.engines.specs.Tables.{Lies}

-- the table shows a meaning, and was asked as often
pub record Shows {R T V : Type 0} (plain : V → R) (items : T → List R) (s : Scan R T) (m : Meaning V) : Type 0 where
  pub lies : Lies plain (items s.table) s.used.full m.places
  pub proper : Proper m
  pub counted : s.asked ≡ m.asked

-- the rows past the 96th are as they were
abbrev pub RestKept : {R T : Type 0} → (T → List R) → Scan R T → Scan R T → Type 0
RestKept items entry exit = drop place_count (items exit.table) ≡ drop place_count (items entry.table)
