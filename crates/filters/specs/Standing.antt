-- The filter list: which filters stand after a list of calls, told by the arguments of the calls alone.
use Rattle.std.specs.Prelude.{ℕ, ◌+◌, ◌-◌, Bool, cond, not, ◌&&◌, List, [], ◌∷◌, ◌++◌, length, Some, None, fold, Option, ◌==◌, nat_le, nat_lt}
use Rattle.fields.specs.declared.faults.Fault.{Fault}
use Rattle.fields.specs.declared.faults.Fault.TheVariants.{Identifier, Limit, Answers, Place, Stands, Unknown, Twin, Crowded}
use Rattle.fields.specs.Faults.{when, first_fault, unless}
use Rattle.fields.specs.Orders.{field_count}
use Rattle.filters.specs.declared.rows.FilterRow.{FilterRow}
use Rattle.filters.specs.declared.calls.Call.{Call}
use Rattle.filters.specs.declared.calls.Call.TheVariants.{Add, Remove, Inspect, Search}
use Rattle.filters.specs.Counting.{some, before}
use Rattle.filters.specs.Filters.{same_values, same_identifier, ranks_ahead, row_checks}

-- at most so many filters stand
abbrev pub capacity : ℕ
capacity = 96

-- a search lists at most so many
abbrev pub most_listed : ℕ
most_listed = 16

-- the first node combines two fields, and each further node one more
abbrev pub node_count : ℕ
node_count = field_count - 1

-- places are the fields and, counted on behind them, the nodes
abbrev pub is_place : ℕ → Bool
is_place p = nat_le 1 p && nat_le p (field_count + node_count)

-- the refusal of f by the first standing filter that has its values
abbrev pub twin : List FilterRow → FilterRow → Option Fault
twin [] f = None
twin (g ∷ gs) f = cond (same_values g f) (Some (Twin g.identifier)) (twin gs f)

-- what an add checks against the standing filters: identifier, values, room
abbrev pub adding_checks : List FilterRow → FilterRow → List (Option Fault)
adding_checks fs f = when (some (same_identifier f.identifier) fs) (Stands f.identifier)
    ∷ twin fs f
    ∷ when (nat_le capacity (length fs)) Crowded ∷ []

-- an identifier that must stand
abbrev pub standing_check : List FilterRow → ℕ → Option Fault
standing_check fs id = when (not (some (same_identifier id) fs)) (Unknown id)

-- a search may list r filters, and its answer list has room for so many
abbrev pub search_checks : ℕ → ℕ → List (Option Fault)
search_checks r room = when (nat_lt most_listed r) (Limit r) ∷ when (nat_lt room r) (Answers room) ∷ []

-- all checks of a call, in their order; an add first checks its row by itself
abbrev pub checks : List FilterRow → Call → List (Option Fault)
checks fs (Add f) = row_checks f ++ adding_checks fs f
checks fs (Remove id) = when (id == 0) Identifier ∷ standing_check fs id ∷ []
checks fs (Inspect id p) = when (id == 0) Identifier ∷ when (not (is_place p)) (Place p) ∷ standing_check fs id ∷ []
checks fs (Search h r room) = search_checks r room

-- why a call is refused while the filters fs stand, if it is
abbrev pub refusal : List FilterRow → Call → Option Fault
refusal fs call = first_fault (checks fs call)

-- f put in before the first filter that it ranks ahead of
abbrev pub put : FilterRow → List FilterRow → List FilterRow
put f [] = f ∷ []
put f (g ∷ gs) = cond (ranks_ahead f g) (f ∷ g ∷ gs) (g ∷ put f gs)

-- the filter of an identifier taken out
abbrev pub without : ℕ → List FilterRow → List FilterRow
without id [] = []
without id (g ∷ gs) = cond (same_identifier id g) gs (g ∷ without id gs)

-- the same places as numbers, from 0: where a filter goes in, and where the filter of an identifier stands
abbrev pub rank_place : FilterRow → List FilterRow → ℕ
rank_place f fs = before (ranks_ahead f) fs

abbrev pub place_of : ℕ → List FilterRow → ℕ
place_of id fs = before (same_identifier id) fs

abbrev pub position : ℕ → List FilterRow → Option ℕ
position id fs = cond (some (same_identifier id) fs) (Some (place_of id fs)) None

-- what stands after a call: a refused call leaves the list alone, and so do inspect and search
abbrev pub after : List FilterRow → Call → List FilterRow
after fs (Add f) = unless (refusal fs (Add f)) fs (put f fs)
after fs (Remove id) = unless (refusal fs (Remove id)) fs (without id fs)
after fs (Inspect id p) = fs
after fs (Search h r room) = fs

-- what stands after a list of calls; at first nothing does
abbrev pub standing : List Call → List FilterRow
standing calls = fold after [] calls
