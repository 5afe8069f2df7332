-- Reading is said by writing: bytes are read as a value exactly if they are its text. So no value has two spellings, and
-- none is what reading answers exactly if the bytes are the text of no value.
use Rattle.std.specs.Prelude.{◌≡◌, ℕ, List, Some, Option, ◌≢◌}
use Rattle.std.specs.List.{AllByRecursion}

-- r is the value of those that fit whose text the bytes are
pub record Reads {V : Type 0} (text : V → List ℕ) (Fits : V → Type 0) (bytes : List ℕ) (r : Option V) : Type 0 where
  pub back : (v : V) → r ≡ Some v → Fits v × (bytes ≡ text v)
  pub every : (v : V) → Fits v → bytes ≡ text v → r ≡ Some v

-- no byte is the separator
abbrev pub Free : ℕ → List ℕ → Type 0
Free separator bytes = AllByRecursion (λ b. b ≢ separator) bytes
