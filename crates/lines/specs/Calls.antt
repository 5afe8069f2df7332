-- The text of a call: the one definition of the forms of a line. A byte is its ASCII code.
use Rattle.std.specs.Prelude.{◌≡◌, ℕ, ◌^◌, ◌<◌, ◌≤◌, List, [], ◌∷◌, length, Ok, Err, decimal, Result}
use Rattle.fields.specs.declared.faults.Fault.{Fault}
use Rattle.fields.specs.declared.faults.Fault.TheVariants.{Line}
use Rattle.filters.specs.declared.rows.FilterRow.{FilterRow}
use Rattle.filters.specs.declared.rows.Header.{Header}
use Rattle.filters.specs.declared.calls.Call.{Call}
use Rattle.filters.specs.declared.calls.Call.TheVariants.{Add, Remove, Inspect, Search}
use Rattle.spelling.specs.Classes.{class_text}
use Rattle.words.specs.Texts.{joined, hex, prefix_text, range_text, protocol_text, flag_text, PrefixFits, RangeFits, ProtocolFits, FlagFits}

-- words with one space between them
abbrev pub spaced : List (List ℕ) → List ℕ
spaced [] = []
spaced (w ∷ []) = w
spaced (w ∷ (v ∷ ws)) = joined w 32 (spaced (v ∷ ws))

-- each command has its letter: A to add, R to remove, L to inspect, F to find
abbrev pub letter : Call → ℕ
letter (Add f) = 65
letter (Remove id) = 82
letter (Inspect id place) = 76
letter (Search h r room) = 70

-- the words behind the letter
abbrev pub arguments : Call → List (List ℕ)
arguments (Add f) = decimal f.identifier
    ∷ prefix_text f.source ∷ prefix_text f.destination
    ∷ range_text f.source_port ∷ range_text f.destination_port
    ∷ protocol_text f.protocol ∷ flag_text f.flags
    ∷ decimal f.tag ∷ class_text f.class ∷ decimal f.flow ∷ []
arguments (Remove id) = decimal id ∷ []
arguments (Inspect id place) = decimal id ∷ decimal place ∷ []
arguments (Search h r room) = hex 8 h.source ∷ hex 8 h.destination
    ∷ decimal h.source_port ∷ decimal h.destination_port
    ∷ decimal h.protocol ∷ hex 2 h.flags ∷ decimal r ∷ []

abbrev pub call_text : Call → List ℕ
call_text call = spaced ((letter call ∷ []) ∷ arguments call)

-- each number fits its width, and a search has an answer list of 16 places
abbrev pub FilterFits : FilterRow → Type 0
FilterFits f = (f.identifier < 2 ^ 16)
    × PrefixFits f.source × PrefixFits f.destination
    × RangeFits f.source_port × RangeFits f.destination_port
    × ProtocolFits f.protocol × FlagFits f.flags
    × (f.tag < 2 ^ 8) × (f.flow < 2 ^ 16)

abbrev pub HeaderFits : Header → Type 0
HeaderFits h = (h.source < 2 ^ 32) × (h.destination < 2 ^ 32)
    × (h.source_port < 2 ^ 16) × (h.destination_port < 2 ^ 16)
    × (h.protocol < 2 ^ 8) × (h.flags < 2 ^ 8)

abbrev pub CallFits : Call → Type 0
CallFits (Add f) = FilterFits f
CallFits (Remove id) = id < 2 ^ 16
CallFits (Inspect id place) = (id < 2 ^ 16) × (place < 2 ^ 8)
CallFits (Search h r room) = HeaderFits h × (r < 2 ^ 8) × (room ≡ 16)

-- a line of the console has at most 120 bytes
pub record IsLine (line : List ℕ) (call : Call) : Type 0 where
  pub short : length line ≤ 120
  pub fits : CallFits call
  pub written : line ≡ call_text call

-- a line is read as the call whose text it is, and refused if it is no call's
pub record LineReads (line : List ℕ) (r : Result Call Fault) : Type 0 where
  pub back : (call : Call) → r ≡ Ok call → IsLine line call
  pub every : (call : Call) → IsLine line call → r ≡ Ok call
  pub refused : (fault : Fault) → r ≡ Err fault → fault ≡ Line
