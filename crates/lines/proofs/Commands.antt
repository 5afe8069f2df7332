-- The commands with several words.
use Rattle.std.proofs.Common.{◌≡◌, ℕ, ◌^◌, ◌<◌, sym, refl, ap, arith}
use Rattle.fields.specs.declared.prefixes.PrefixRow.{PrefixRow}
use Rattle.fields.specs.declared.ranges.RangeRow.{RangeRow}
use Rattle.fields.specs.declared.protocols.ProtocolRow.{ProtocolRow}
use Rattle.fields.specs.declared.flags.FlagRow.{FlagRow}
use Rattle.filters.specs.declared.rows.Class.{Class}
use Rattle.filters.specs.declared.calls.Call.{Call}
use Rattle.filters.specs.declared.calls.Call.TheVariants.{Add, Remove, Inspect, Search}
use Rattle.words.specs.Texts.{PrefixFits, RangeFits, ProtocolFits, FlagFits}
use Rattle.spelling.specs.declared.numbers.Address.{Address}
use Rattle.spelling.specs.declared.numbers.Flags.{Flags}
use Rattle.lines.specs.Calls.{letter, CallFits}
use Rattle.lines.proofs.Forms.{Form}

abbrev InspectFits : ℕ × ℕ → Type 0
InspectFits p = (p.0 < 2 ^ 16) × (p.1 < 2 ^ 8)

abbrev inspect : ℕ × ℕ → Call
inspect p = Inspect p.0 p.1

pub inspect_parts : (v : Call) → CallFits v → 76 ≡ letter v → (p : ℕ × ℕ) × (inspect p ≡ v) × InspectFits p
inspect_parts (Add f) fits e = absurd (omega arith)
inspect_parts (Remove id) fits e = absurd (omega arith)
inspect_parts (Inspect id place) fits e = ((id, place), refl, fits)
inspect_parts (Search h r room) fits e = absurd (omega arith)

unfoldable pub inspect-form : Form (ℕ × ℕ)
inspect-form = record { sign = 76; Fits = InspectFits; make = inspect; signed = λ p. refl; fits = λ p f. f; parts = inspect_parts }

abbrev pub FilterWords : Type 0
FilterWords = ℕ × (PrefixRow × (PrefixRow × (RangeRow × (RangeRow × (ProtocolRow × (FlagRow × (ℕ × (Class × ℕ))))))))

abbrev WordsFit : FilterWords → Type 0
WordsFit w = (w.0 < 2 ^ 16)
    × (PrefixFits w.1.0 × (PrefixFits w.1.1.0
    × (RangeFits w.1.1.1.0 × (RangeFits w.1.1.1.1.0
    × (ProtocolFits w.1.1.1.1.1.0 × (FlagFits w.1.1.1.1.1.1.0
    × ((w.1.1.1.1.1.1.1.0 < 2 ^ 8) × (Unit {0} × (w.1.1.1.1.1.1.1.1.1 < 2 ^ 16)))))))))

abbrev add : FilterWords → Call
add w = Add (record {
  identifier = w.0;
  source = w.1.0;
  destination = w.1.1.0;
  source_port = w.1.1.1.0;
  destination_port = w.1.1.1.1.0;
  protocol = w.1.1.1.1.1.0;
  flags = w.1.1.1.1.1.1.0;
  tag = w.1.1.1.1.1.1.1.0;
  class = w.1.1.1.1.1.1.1.1.0;
  flow = w.1.1.1.1.1.1.1.1.1;
})

pub add_parts : (v : Call) → CallFits v → 65 ≡ letter v → (w : FilterWords) × (add w ≡ v) × WordsFit w
add_parts (Add f) h e = (
  (f.identifier, (f.source, (f.destination, (f.source_port, (f.destination_port, (f.protocol, (f.flags, (f.tag, (f.class, f.flow))))))))),
  refl,
  (h.0, (h.1, (h.2, (h.3, (h.4, (h.5, (h.6, (h.7, (tt, h.8))))))))),
)
add_parts (Remove id) fits e = absurd (omega arith)
add_parts (Inspect id place) fits e = absurd (omega arith)
add_parts (Search h r room) fits e = absurd (omega arith)

pub add_fits : (w : FilterWords) → WordsFit w → CallFits (add w)
add_fits w h = (h.0, h.1.0, h.1.1.0, h.1.1.1.0, h.1.1.1.1.0, h.1.1.1.1.1.0, h.1.1.1.1.1.1.0, h.1.1.1.1.1.1.1.0, h.1.1.1.1.1.1.1.1.1)

unfoldable pub add-form : Form FilterWords
add-form = record { sign = 65; Fits = WordsFit; make = add; signed = λ w. refl; fits = add_fits; parts = add_parts }

abbrev pub SearchWords : Type 0
SearchWords = Address × (Address × (ℕ × (ℕ × (ℕ × (Flags × ℕ)))))

abbrev SearchFits : SearchWords → Type 0
SearchFits w = (w.0.0 < 2 ^ 32) × ((w.1.0.0 < 2 ^ 32) × ((w.1.1.0 < 2 ^ 16) × ((w.1.1.1.0 < 2 ^ 16) × ((w.1.1.1.1.0 < 2 ^ 8) × ((w.1.1.1.1.1.0.0 < 2 ^ 8) × (w.1.1.1.1.1.1 < 2 ^ 8))))))

abbrev search_call : SearchWords → Call
search_call w = Search
    (record {
      source = w.0.0;
      destination = w.1.0.0;
      source_port = w.1.1.0;
      destination_port = w.1.1.1.0;
      protocol = w.1.1.1.1.0;
      flags = w.1.1.1.1.1.0.0;
    })
    w.1.1.1.1.1.1 16

pub search_parts : (v : Call) → CallFits v → 70 ≡ letter v → (w : SearchWords) × (search_call w ≡ v) × SearchFits w
search_parts (Add f) fits e = absurd (omega arith)
search_parts (Remove id) fits e = absurd (omega arith)
search_parts (Inspect id place) fits e = absurd (omega arith)
search_parts (Search h r room) f e = (
  (record { 0 = h.source }, (record { 0 = h.destination }, (h.source_port, (h.destination_port, (h.protocol, (record { 0 = h.flags }, r)))))),
  ap (Search h r) (sym f.2),
  (f.0.0, (f.0.1, (f.0.2, (f.0.3, (f.0.4, (f.0.5, f.1)))))),
)

pub search_fits : (w : SearchWords) → SearchFits w → CallFits (search_call w)
search_fits w h = ((h.0, h.1.0, h.1.1.0, h.1.1.1.0, h.1.1.1.1.0, h.1.1.1.1.1.0), h.1.1.1.1.1.1, refl)

unfoldable pub search-form : Form SearchWords
search-form = record { sign = 70; Fits = SearchFits; make = search_call; signed = λ w. refl; fits = search_fits; parts = search_parts }
