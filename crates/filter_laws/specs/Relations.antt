-- Relations: what a scan gives, in terms of rank alone; and that what stands decides everything.
use Rattle.std.specs.Prelude.{◌≡◌, ℕ, min, true, false, List, length, Some, None}
use Rattle.filters.specs.declared.rows.FilterRow.{FilterRow}
use Rattle.filters.specs.declared.rows.Header.{Header}
use Rattle.filters.specs.declared.calls.Call.{Call}
use Rattle.filters.specs.Counting.{Among, Pairwise, how_many}
use Rattle.filters.specs.Filters.{ranks_ahead}
use Rattle.filters.specs.Standing.{refusal, standing}
use Rattle.filters.specs.Scans.{wins, joins, Scan, scan}
use Rattle.filters.specs.Answers.{answer}

pub record Scans (fs : List FilterRow) (h : Header) (r : ℕ) (s : Scan) : Type 0 where
  -- the winner is an exclusive match, and no exclusive match ranks ahead of it
  pub top : (f : FilterRow) → s.winner ≡ Some f → Among f fs × (wins h f ≡ true) × ((g : FilterRow) → Among g fs → wins h g ≡ true → ranks_ahead g f ≡ false)
  -- there is none exactly if no exclusive filter matches
  pub nobody : s.winner ≡ None → (g : FilterRow) → Among g fs → wins h g ≡ false
  pub somebody : ((g : FilterRow) → Among g fs → wins h g ≡ false) → s.winner ≡ None
  -- the list is in rank order, of non-exclusive matches, as many as r and the matches allow
  pub in_order : Pairwise (λ f g. ranks_ahead f g ≡ true) s.list
  pub members : (f : FilterRow) → Among f s.list → Among f fs × (joins h f ≡ true)
  pub many : length s.list ≡ min r (how_many (joins h) fs)
  -- no match that is left out ranks ahead of a listed one
  pub ahead : (f g : FilterRow) → Among f s.list → Among g fs → joins h g ≡ true → (Among g s.list → ⊥) → ranks_ahead g f ≡ false

-- the same filters stand after both: each filter stands after one exactly if it does after the other
abbrev pub SameFilters : List Call → List Call → Type 0
SameFilters cs ds = (f : FilterRow) → (Among f (standing cs) → Among f (standing ds)) × (Among f (standing ds) → Among f (standing cs))

-- the lists are equal, and so are refusals, scans and, under one order, answers
pub record Alike (cs ds : List Call) : Type 0 where
  pub lists : standing cs ≡ standing ds
  pub refusals : (call : Call) → refusal (standing cs) call ≡ refusal (standing ds) call
  pub scans : (h : Header) (r : ℕ) → scan (standing cs) h r ≡ scan (standing ds) h r
  pub answers : (order : List ℕ) (call : Call) → answer order (standing cs) call ≡ answer order (standing ds) call
