-- The law of matching: exactly the labels of the satisfied values, rising, so each once.
use Rattle.std.specs.Prelude.{◌≡◌, ℕ, ◌<◌, Bool, true, List, length, take, Some, None, Ok, Err, Option, slice_index, slice_index_or}
use Rattle.std.specs.List.{ContainsAt as Has}
use Rattle.parts.specs.Meaning.{Meaning}
use Rattle.engine_runs.specs.declared.calls.Call.{Call}
use Rattle.engine_runs.specs.declared.calls.Call.TheVariants as call
use Rattle.engine_runs.specs.declared.calls.Answer.{Answer}
use Rattle.engine_runs.specs.declared.calls.Answer.TheVariants as told

-- a label is listed exactly if its place holds a value that passes the test
pub record ListsSatisfied {V : Type 0} (test : V → Bool) (xs : List (Option V)) (ls : List ℕ) : Type 0 where
  pub rising : (i j : ℕ) → i < j → j < length ls → slice_index ls i < slice_index ls j
  pub only : (l : ℕ) → Has ls l → (v : V) × (slice_index_or xs l None ≡ Some v) × (test v ≡ true)
  pub all : (l : ℕ) (v : V) → slice_index_or xs l None ≡ Some v → test v ≡ true → Has ls l

-- a match is never refused here, and what it wrote is just that
abbrev pub Matches : {V : Type 0} → (V → Bool) → List (Option V) → Answer V → Type 0
Matches test xs told.Emptied = ⊥
Matches test xs (told.Set r) = ⊥
Matches test xs (told.Cleared r) = ⊥
Matches test xs (told.Matched (Ok n) list) = ListsSatisfied test xs (take n list)
Matches test xs (told.Matched (Err f) list) = ⊥

abbrev pub Exactly : {V : Type 0} → (V → ℕ → Bool) → Meaning V → Call V → Answer V → Type 0
Exactly satisfied m call.Empty a = Unit {0}
Exactly satisfied m (call.Set l v) a = Unit {0}
Exactly satisfied m (call.Clear l) a = Unit {0}
Exactly satisfied m (call.Match n) a = Matches (λ v. satisfied v n) m.places a
