use Rattle.std.proofs.Common.{◌≡◌, ℕ, List, length, get_or, None, Option, sym, ap, ◌∙◌}
use Rattle.fields.specs.declared.protocols.Protocol.{Protocol}
use Rattle.fields.specs.Faults.{answer, unless}
use Rattle.fields.specs.Protocols.{protocol_takes}
use Rattle.parts.specs.Meaning.{Meaning, list_fault}
use Rattle.parts.specs.Marks.{labels_of, over_start}
use Rattle.engines.specs.declared.direct.Direct.{Direct}
use Rattle.engines.specs.Rising.{rising}
use Rattle.engines.specs.Numbers.{Reached}
use Rattle.engines.proofs.Reaching.{reached}
use Rattle.engines.proofs.direct.DirectEngineProtocol.matches.Goals as goal

-- the labels written are those of the meaning
found : (s : Direct) (n : ℕ) (o : Option ℕ) (m : Meaning Protocol) → Reached s m → o ≡ get_or s.numbered n None → rising s.any o ≡ labels_of (λ v. protocol_takes v.row n) m.places
found s n o m h e = ap (rising s.any) e ∙ reached s h.names n ∙ ap (labels_of (λ (v : Protocol). protocol_takes v.row n)) (sym h.places)

pub returns-clause-result : goal.returns-clause-result
returns-clause-result c m h =
    let s = c.args.self.now in
    sym c.in_ok-count.was ∙ c.write_rising.ensures.result ∙ ap (λ (xs : List ℕ). answer (list_fault (length c.args.list.now)) (length xs)) (found s c.args.number c.numbered_label.result m h c.numbered_label.ensures)

pub returns-clause-written : goal.returns-clause-written
returns-clause-written c m h =
    let s = c.args.self.now in
    let old = c.args.list.now in
    c.write_rising.ensures.written ∙ ap (λ (xs : List ℕ). unless (list_fault (length old)) old (over_start xs old)) (found s c.args.number c.numbered_label.result m h c.numbered_label.ensures)
