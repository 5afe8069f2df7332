-- The fields of the standing filters: each has an engine that holds exactly the values in use, at their labels.
use Rattle.std.specs.Prelude.{◌≡◌, ℕ, ◌+◌, ◌%◌, ◌^◌, Bool, true, false, cond, List, [], ◌∷◌, ◌++◌, map, length, Option, ◌==◌, slice_index}
use Rattle.std.specs.List.{AllByRecursion}
use Rattle.fields.specs.declared.prefixes.Prefix.{Prefix}
use Rattle.fields.specs.declared.ranges.PortRange.{PortRange}
use Rattle.fields.specs.declared.protocols.Protocol.{Protocol}
use Rattle.fields.specs.declared.flags.FlagMask.{FlagMask}
use Rattle.fields.specs.Prefixes.{same_prefix, prefix_takes}
use Rattle.fields.specs.Ranges.{same_range, range_takes}
use Rattle.fields.specs.Protocols.{same_protocol, protocol_takes}
use Rattle.fields.specs.Flags.{same_flags, flag_takes}
use Rattle.filters.specs.declared.filter.Filter.{Filter}
use Rattle.filters.specs.declared.rows.Header.{Header}
use Rattle.filters.specs.Counting.{different}
use Rattle.labels.specs.declared.table.Used.{Used}
use Rattle.labels.specs.Labels.{Standing, standing, occurrences}
use Rattle.parts.specs.Meaning.{Meaning}
use Rattle.labelling.specs.Boards.{Stands, member, Labels}
use Rattle.columns.specs.declared.columns.Columns.{Columns}

-- a standing filter, with its labels in the fields
pub record Placed : Type 0 where
  pub filter : Filter
  pub labels : List ℕ

abbrev pub placed : Filter → List ℕ → Placed
placed f ls = record { filter = f; labels = ls }

-- the value of field j, from 0, and its label there
abbrev pub in_field : {V : Type 0} → (Filter → V) → ℕ → Placed → Standing V
in_field value j p = standing (value p.filter) (slice_index p.labels j)

-- the field's table labels the filters' values, and its engine holds exactly those in use, at their labels
abbrev pub Column : {V P : Type 0} → (V → V → Bool) → (P → Meaning V → Type 0) → (Filter → V) → ℕ → List (Option (Used V)) → P → List Placed → (ℕ → ℕ) → Type 0
Column eq shows value j slots engine ps asked = Stands eq shows slots engine (map (in_field value j) ps) (asked j)

-- no filter has f's value in the field
abbrev pub unused : {V : Type 0} → (V → V → Bool) → (Filter → V) → ℕ → Filter → List Placed → Bool
unused eq value j f ps = occurrences eq (value f) (map (in_field value j) ps) == 0

-- the engine is the same value as before, unless no other filter has f's value; what it may have been asked, it may have been asked now
pub record ToldIf {V P : Type 0} (eq : V → V → Bool) (agrees : P → List ℕ → Type 0) (value : Filter → V) (j : ℕ) (old new : P) (f : Filter) (ps : List Placed) : Type 0 where
  pub untold : unused eq value j f ps ≡ false → new ≡ old
  pub asked : (l : List ℕ) → agrees old l → agrees new l

-- the labels found in a field: one for each different value that the number satisfies, and each filter's exactly if its value is satisfied
pub record FoundIn {V : Type 0} (eq : V → V → Bool) (takes : V → Bool) (value : Filter → V) (j : ℕ) (ps : List Placed) (found : List ℕ) : Type 0 where
  pub many : length found ≡ different eq takes (map (λ p. value p.filter) ps)
  pub matching : AllByRecursion (λ p. member (slice_index p.labels j) found ≡ takes (value p.filter)) ps

-- equality in each kind
abbrev pub prefix_eq : Prefix → Prefix → Bool
prefix_eq a b = same_prefix a.row b.row

abbrev pub range_eq : PortRange → PortRange → Bool
range_eq a b = same_range a.row b.row

abbrev pub protocol_eq : Protocol → Protocol → Bool
protocol_eq a b = same_protocol a.row b.row

abbrev pub flags_eq : FlagMask → FlagMask → Bool
flags_eq a b = same_flags a.row b.row

-- how many of f's values no filter has
abbrev pub bit : Bool → ℕ
bit b = cond b 1 0

abbrev pub fresh : Filter → List Placed → ℕ
fresh f ps =
    bit (unused prefix_eq (λ g. g.source) 0 f ps)
    + bit (unused prefix_eq (λ g. g.destination) 1 f ps)
    + bit (unused range_eq (λ g. g.source_port) 2 f ps)
    + bit (unused range_eq (λ g. g.destination_port) 3 f ps)
    + bit (unused protocol_eq (λ g. g.protocol) 4 f ps)
    + bit (unused flags_eq (λ g. g.flags) 5 f ps)

-- how many different values the filters have in a field, and in all six together
abbrev pub values_of : {V : Type 0} → (V → V → Bool) → (Filter → V) → List Placed → ℕ
values_of eq value ps = different eq (λ _. true) (map (λ p. value p.filter) ps)

abbrev pub values_in_use : List Placed → ℕ
values_in_use ps =
    values_of prefix_eq (λ g. g.source) ps
    + values_of prefix_eq (λ g. g.destination) ps
    + values_of range_eq (λ g. g.source_port) ps
    + values_of range_eq (λ g. g.destination_port) ps
    + values_of protocol_eq (λ g. g.protocol) ps
    + values_of flags_eq (λ g. g.flags) ps

-- all six columns stand for the filters
pub record Stand {A B C D E F : Type 0} (a : A → Meaning Prefix → Type 0) (b : B → Meaning Prefix → Type 0) (c : C → Meaning PortRange → Type 0) (d : D → Meaning PortRange → Type 0) (e : E → Meaning Protocol → Type 0) (f : F → Meaning FlagMask → Type 0) (columns : Columns A B C D E F) (ps : List Placed) (asked : ℕ → ℕ) : Type 0 where
  pub source : Column prefix_eq a (λ g. g.source) 0 columns.source.table.slots columns.source.part ps asked
  pub destination : Column prefix_eq b (λ g. g.destination) 1 columns.destination.table.slots columns.destination.part ps asked
  pub source_port : Column range_eq c (λ g. g.source_port) 2 columns.source_port.table.slots columns.source_port.part ps asked
  pub destination_port : Column range_eq d (λ g. g.destination_port) 3 columns.destination_port.table.slots columns.destination_port.part ps asked
  pub protocol : Column protocol_eq e (λ g. g.protocol) 4 columns.protocol.table.slots columns.protocol.part ps asked
  pub flags : Column flags_eq f (λ g. g.flags) 5 columns.flags.table.slots columns.flags.part ps asked

-- each engine was told only if it had to be
pub record ToldColumns {A B C D E F : Type 0} (a : A → List ℕ → Type 0) (b : B → List ℕ → Type 0) (c : C → List ℕ → Type 0) (d : D → List ℕ → Type 0) (e : E → List ℕ → Type 0) (f : F → List ℕ → Type 0) (old new : Columns A B C D E F) (x : Filter) (ps : List Placed) : Type 0 where
  pub source : ToldIf prefix_eq a (λ g. g.source) 0 old.source.part new.source.part x ps
  pub destination : ToldIf prefix_eq b (λ g. g.destination) 1 old.destination.part new.destination.part x ps
  pub source_port : ToldIf range_eq c (λ g. g.source_port) 2 old.source_port.part new.source_port.part x ps
  pub destination_port : ToldIf range_eq d (λ g. g.destination_port) 3 old.destination_port.part new.destination_port.part x ps
  pub protocol : ToldIf protocol_eq e (λ g. g.protocol) 4 old.protocol.part new.protocol.part x ps
  pub flags : ToldIf flags_eq f (λ g. g.flags) 5 old.flags.part new.flags.part x ps

-- one engine was asked one number: the labels found, and every list that it may have been asked grows by the number
pub record Answered {V P : Type 0} (eq : V → V → Bool) (takes : V → Bool) (agrees : P → List ℕ → Type 0) (value : Filter → V) (j number : ℕ) (old new : P) (ps : List Placed) (found : List ℕ) : Type 0 where
  pub found_in : FoundIn eq takes value j ps found
  pub below : Labels found
  pub asked : (l : List ℕ) → agrees old l → agrees new (l ++ number ∷ [])

-- each engine was asked the header's number in its field, once
pub record AnsweredColumns {A B C D E F : Type 0} (a : A → List ℕ → Type 0) (b : B → List ℕ → Type 0) (c : C → List ℕ → Type 0) (d : D → List ℕ → Type 0) (e : E → List ℕ → Type 0) (f : F → List ℕ → Type 0) (old new : Columns A B C D E F) (h : Header) (ps : List Placed) (found : ℕ → List ℕ) : Type 0 where
  pub source : Answered prefix_eq (λ v. prefix_takes v.row h.source) a (λ g. g.source) 0 h.source old.source.part new.source.part ps (found 0)
  pub destination : Answered prefix_eq (λ v. prefix_takes v.row h.destination) b (λ g. g.destination) 1 h.destination old.destination.part new.destination.part ps (found 1)
  pub source_port : Answered range_eq (λ v. range_takes v.row h.source_port) c (λ g. g.source_port) 2 h.source_port old.source_port.part new.source_port.part ps (found 2)
  pub destination_port : Answered range_eq (λ v. range_takes v.row h.destination_port) d (λ g. g.destination_port) 3 h.destination_port old.destination_port.part new.destination_port.part ps (found 3)
  pub protocol : Answered protocol_eq (λ v. protocol_takes v.row h.protocol) e (λ g. g.protocol) 4 h.protocol old.protocol.part new.protocol.part ps (found 4)
  pub flags : Answered flags_eq (λ v. flag_takes v.row h.flags) f (λ g. g.flags) 5 h.flags old.flags.part new.flags.part ps (found 5)

-- each was asked once more
abbrev pub once_more : (ℕ → ℕ) → ℕ → ℕ
once_more asked j = (asked j + 1) % 2 ^ 32

-- count is how many filters have the value of each filter that has the label in the field
abbrev pub Counted : {V : Type 0} → (V → V → Bool) → (Filter → V) → ℕ → ℕ → ℕ → List Placed → Type 0
Counted eq value j label count ps = AllByRecursion (λ p. slice_index p.labels j ≡ label → count ≡ occurrences eq (value p.filter) (map (in_field value j) ps)) ps

pub record CountedColumns (field label count : ℕ) (ps : List Placed) : Type 0 where
  pub source : field ≡ 0 → Counted prefix_eq (λ g. g.source) 0 label count ps
  pub destination : field ≡ 1 → Counted prefix_eq (λ g. g.destination) 1 label count ps
  pub source_port : field ≡ 2 → Counted range_eq (λ g. g.source_port) 2 label count ps
  pub destination_port : field ≡ 3 → Counted range_eq (λ g. g.destination_port) 3 label count ps
  pub protocol : field ≡ 4 → Counted protocol_eq (λ g. g.protocol) 4 label count ps
  pub flags : field ≡ 5 → Counted flags_eq (λ g. g.flags) 5 label count ps
