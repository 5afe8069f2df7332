-- The nodes in a row: the first combines the first two fields of the order, each later one the node before it and the next field.
use Rattle.std.specs.Prelude.{◌≡◌, ℕ, zero, suc, ◌+◌, ◌-◌, ◌<◌, ◌≤◌, Bool, true, false, cond, ◌&&◌, List, map, length, get_or, ◌==◌, slice_index, slice_index_or}
use Rattle.filters.specs.Counting.{different}
use Rattle.labels.specs.Labels.{Standing, standing, occurrences}
use Rattle.parts.specs.Meaning.{Meaning}
use Rattle.stores.specs.declared.pairs.Pair.{Pair}
use Rattle.stores.specs.Pairs.{pair, same_pair}
use Rattle.labelling.specs.declared.board.Board.{Board}
use Rattle.labelling.specs.Boards.{Stands}

-- labels of the fields, 1 and on, put in network order
abbrev pub arranged : List ℕ → List ℕ → List ℕ
arranged order labels = map (λ f. slice_index labels (f - 1)) order

-- a standing filter, as the network has it: its labels in the fields, in network order,
-- and its labels along the nodes, before which its first field's label stands
pub record Filed : Type 0 where
  pub fields : List ℕ
  pub along : List ℕ

abbrev pub filed : List ℕ → List ℕ → Filed
filed fs ls = record { fields = fs; along = ls }

-- its labels along the nodes begin with its first field
abbrev pub First : Filed → Type 0
First f = slice_index f.along 0 ≡ slice_index f.fields 0

-- what node j, from 0, combines for it, and its label there
abbrev pub key_at : ℕ → Filed → Pair
key_at j f = pair (slice_index f.along j) (slice_index f.fields (j + 1))

abbrev pub at_node : ℕ → Filed → Standing Pair
at_node j f = standing (key_at j f) (slice_index f.along (j + 1))

-- each of the first k nodes labels the filters' combinations, and its store holds exactly those in use, at their labels;
-- asked has how often each store was asked
abbrev pub Nodes : {S : Type 0} → (S → Meaning Pair → Type 0) → List (Board Pair S) → List Filed → List ℕ → ℕ → Type 0
Nodes {S} shows nodes fs asked k = (j : ℕ) (d : Board Pair S) → j < k → Stands same_pair shows (get_or nodes j d).table.slots (get_or nodes j d).part (map (at_node j) fs) (slice_index asked j)

-- no filter has the combination that node j makes for f
abbrev pub unused : List Filed → Filed → ℕ → Bool
unused fs f j = occurrences same_pair (key_at j f) (map (at_node j) fs) == 0

-- at how many of the first k nodes that is so
abbrev pub fresh : List Filed → Filed → ℕ → ℕ
fresh fs f zero = 0
fresh fs f (suc k) = fresh fs f k + cond (unused fs f k) 1 0

-- each of the first k stores is the same value as before, unless no other filter has f's combination at its node
abbrev pub Untold : {S : Type 0} → List (Board Pair S) → List (Board Pair S) → List Filed → Filed → ℕ → Type 0
Untold {S} old new fs f k = (j : ℕ) (d : Board Pair S) → j < k → unused fs f j ≡ false → (get_or new j d).part ≡ (get_or old j d).part

-- what a store may have been asked before, it may have been asked now
abbrev pub AsksKept : {S : Type 0} → (S → List Pair → Type 0) → List (Board Pair S) → List (Board Pair S) → Type 0
AsksKept {S} agrees old new = (j : ℕ) (d : Board Pair S) (l : List Pair) → agrees (get_or old j d).part l → agrees (get_or new j d).part l

-- whether two filters have the same labels in the first fields of the order, up to position k, from 0
abbrev pub alike : ℕ → Filed → Filed → Bool
alike zero f g = slice_index f.fields 0 == slice_index g.fields 0
alike (suc k) f g = alike k f g && slice_index f.fields (k + 1) == slice_index g.fields (k + 1)

-- two filters have one label at a node exactly if they have the same labels in all fields combined up to it
abbrev pub OneLabel : List Filed → ℕ → Type 0
OneLabel fs k = (i j : ℕ) (d : Filed) → i < length fs → j < length fs → (n : ℕ) → n ≤ k
    → (slice_index (get_or fs i d).along n == slice_index (get_or fs j d).along n) ≡ alike n (slice_index_or fs i d) (slice_index_or fs j d)

-- how many different label rows the filters have in the fields combined up to a node, summed over the first k nodes
abbrev pub rows_in_use : List Filed → ℕ → ℕ
rows_in_use fs zero = 0
rows_in_use fs (suc k) = rows_in_use fs k + different (alike (suc k)) (λ _. true) fs
