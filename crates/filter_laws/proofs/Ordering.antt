-- After every list of calls the filters stand in order.
use Rattle.std.proofs.Common.{◌≡◌, ℕ, true, List, [], ◌∷◌, None, fold, sym, ap, arith}
use Rattle.std.proofs.ByRecursion.{All-weaker}
use Rattle.filters.specs.declared.rows.FilterRow.{FilterRow}
use Rattle.filters.specs.declared.calls.Call.{Call}
use Rattle.filters.specs.declared.calls.Call.TheVariants.{Add, Remove, Inspect, Search}
use Rattle.filters.specs.Filters.{values, same_values, accepted, lawful}
use Rattle.filters.specs.Standing.{refusal, put, without, after, standing}
use Rattle.filters.proofs.Checks.{accepted_add}
use Rattle.filter_laws.specs.Histories.{Ordered}
use Rattle.filter_laws.proofs.Sameness.{row_decides}
use Rattle.filter_laws.proofs.Edits.{unless_cases, length_put, length_without, all_put, all_without, pairwise_put, pairwise_without, ranked_put, fresh_all, untwinned}

pub same_turned : (f g : FilterRow) → same_values f g ≡ true → same_values g f ≡ true
same_turned f g h = (row_decides (values g) (values f)).1 (sym ((row_decides (values f) (values g)).0 h))

ordered_put : (f : FilterRow) (fs : List FilterRow) → refusal fs (Add f) ≡ None → Ordered fs → Ordered (put f fs)
ordered_put f fs ok o =
    let a = accepted_add fs f ok in
    let room = a.room in
    let n = length_put f fs in
    let apart = fresh_all f.identifier fs a.fresh in
    record {
      few = omega arith;
      formed = all_put (λ g. lawful g ≡ true) f fs (ap accepted a.formed) o.formed;
      ranked = ranked_put f fs apart o.ranked;
      identifiers = pairwise_put (λ g h. g.identifier ≡ h.identifier → ⊥) (λ g h ne e. ne (sym e)) f fs apart o.identifiers;
      rows = pairwise_put (λ g h. same_values g h ≡ true → ⊥) (λ g h ne e. ne (same_turned h g e)) f fs
          (All-weaker (λ g. same_values g f ≡ true → ⊥) (λ g. same_values f g ≡ true → ⊥) (λ g ne e. ne (same_turned f g e)) fs (untwinned f fs a.no_twin)) o.rows;
    }

ordered_without : (id : ℕ) (fs : List FilterRow) → Ordered fs → Ordered (without id fs)
ordered_without id fs o =
    let few = o.few in
    let n = length_without id fs in
    record {
      few = omega arith;
      formed = all_without (λ g. lawful g ≡ true) id fs o.formed;
      ranked = pairwise_without _ id fs o.ranked;
      identifiers = pairwise_without _ id fs o.identifiers;
      rows = pairwise_without _ id fs o.rows;
    }

pub ordered_after : (fs : List FilterRow) (call : Call) → Ordered fs → Ordered (after fs call)
ordered_after fs (Add f) o = unless_cases (refusal fs (Add f)) fs (put f fs) Ordered (λ ok. ordered_put f fs ok o) (λ e h. o)
ordered_after fs (Remove id) o = unless_cases (refusal fs (Remove id)) fs (without id fs) Ordered (λ ok. ordered_without id fs o) (λ e h. o)
ordered_after fs (Inspect id p) o = o
ordered_after fs (Search h r room) o = o

ordered_run : (fs : List FilterRow) (calls : List Call) → Ordered fs → Ordered (fold after fs calls)
ordered_run fs [] o = o
ordered_run fs (c ∷ cs) o = ordered_run (after fs c) cs (ordered_after fs c o)

pub ordered_standing : (calls : List Call) → Ordered (standing calls)
ordered_standing calls = ordered_run [] calls (record { few = omega arith; formed = tt; ranked = tt; identifiers = tt; rows = tt })
