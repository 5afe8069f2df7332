-- A search along the nodes, from the labels found in the fields.
use Rattle.std.specs.Prelude.{◌≡◌, ℕ, zero, suc, ◌+◌, ◌-◌, ◌*◌, ◌<◌, Bool, ◌&&◌, List, length, Option, slice_index, slice_index_or}
use Rattle.labels.specs.Labels.{keys}
use Rattle.parts.specs.Meaning.{Meaning, meaning}
use Rattle.parts.specs.Marks.{labels_of}
use Rattle.parts.specs.Asked.{Questioned}
use Rattle.filters.specs.Counting.{different}
use Rattle.stores.specs.declared.pairs.Pair.{Pair}
use Rattle.labelling.specs.declared.board.Board.{Board}
use Rattle.labelling.specs.declared.found.Found.{Found}
use Rattle.labelling.specs.Boards.{member}
use Rattle.labelling.specs.Lists.{found_in}
use Rattle.network.specs.Products.{product, both_found, EachPair}
use Rattle.network.specs.Nodes.{Filed, alike}

-- the labels found in the field at position j of an order, from 0
abbrev pub found_at : List ℕ → List Found → ℕ → List ℕ
found_at order fs j = found_in fs (slice_index order j - 1)

-- what the table of node j has in use
abbrev pub places_of : {S : Type 0} → Board Pair S → List (Board Pair S) → ℕ → List (Option Pair)
places_of d nodes j = keys (slice_index_or nodes j d).table.slots

-- the labels that the search has after k nodes: those of the combinations in use whose two labels it had
abbrev pub reached : (ℕ → List (Option Pair)) → (ℕ → List ℕ) → ℕ → List ℕ
reached places found zero = found 0
reached places found (suc k) = labels_of (both_found (reached places found k) (found (k + 1))) (places k)

-- the pairs asked at the first k nodes
abbrev pub pairs : (ℕ → List (Option Pair)) → (ℕ → List ℕ) → ℕ → ℕ
pairs places found zero = 0
pairs places found (suc k) = pairs places found k + length (reached places found k) * length (found (k + 1))

-- whether the filter's labels in the first fields of the order, up to k, were all found
abbrev pub all_found : (ℕ → List ℕ) → Filed → ℕ → Bool
all_found found f zero = member (slice_index f.fields 0) (found 0)
all_found found f (suc k) = all_found found f k && member (slice_index f.fields (k + 1)) (found (k + 1))

-- how many different label rows of the filters were found up to position k; at the first, how many labels were
abbrev pub rows_found : (ℕ → List ℕ) → List Filed → ℕ → ℕ
rows_found found fs zero = length (found 0)
rows_found found fs (suc k) = different (alike (suc k)) (λ f. all_found found f (suc k)) fs

-- the pairs that the first k nodes ask, told by the filters' label rows alone
abbrev pub pairs_by_rows : (ℕ → List ℕ) → List Filed → ℕ → ℕ
pairs_by_rows found fs zero = 0
pairs_by_rows found fs (suc k) = pairs_by_rows found fs k + rows_found found fs k * length (found (k + 1))

-- each of the first k nodes keeps its table, and its store was asked each pair of a label that the search had before it
-- and a label found in its field, once
abbrev pub AskedAlong : {S : Type 0} → (S → Meaning Pair → Type 0) → (S → List Pair → Type 0) → Board Pair S → List (Board Pair S) → List (Board Pair S) → (ℕ → List ℕ) → List ℕ → ℕ → Type 0
AskedAlong shows agrees d old new found ns k = (j : ℕ) → j < k →
    let left = reached (places_of d old) found j in
    ((slice_index_or new j d).table ≡ (slice_index_or old j d).table)
    × Questioned shows agrees (slice_index_or old j d).part (slice_index_or new j d).part (meaning (places_of d old j) (slice_index ns j)) (product left (found (j + 1)))
    × EachPair left (found (j + 1)) (product left (found (j + 1)))
