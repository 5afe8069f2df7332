use Rattle.std.proofs.Common.{◌≡◌, ◌<◌, cond, List, get_or, length, set, Some, None, Err, Option, sym, ap, ◌∙◌, subst, arith}
use Rattle.fields.specs.declared.protocols.Protocol.{Protocol}
use Rattle.fields.specs.declared.protocols.ProtocolRow.{ProtocolRow}
use Rattle.fields.specs.Protocols.{same_protocol}
use Rattle.parts.specs.Meaning.{cleared}
use Rattle.parts.specs.Checks.{taken_from}
use Rattle.engines.specs.Numbers.{Reached, kept_label}
use Rattle.engines.proofs.Meanings.{clear_allowed, clear_refused, proper_clear}
use Rattle.engines.proofs.Reaching.{names_clear}
use Rattle.engines.proofs.direct.DirectToldProtocol.clear.Goals as goal

pub returns-in_err-value-clause-held : goal.returns-in_err-value-clause-held
returns-in_err-value-clause-held c m h =
    let s = c.args.self.now in
    let l = c.args.place in
    let there : c.entry_at.result ≡ get_or m.places l None = c.entry_at.ensures ∙ ap (λ (xs : List (Option Protocol)). get_or xs l None) (sym h.places) in
    let refused : cleared m.places l ≡ Err c.in_err-value.field-0.0 = ap (taken_from l) (sym there) ∙ sym c.check_clear.ensures ∙ c.in_err-value.was in
    subst (Reached s) (clear_refused m l c.in_err-value.field-0.0 h.proper.size refused) h

pub returns-clause-held : goal.returns-clause-held
returns-clause-held c m h =
    let s = c.args.self.now in
    let l = c.args.place in
    let v = c.in_ok-value.value in
    let allowed = clear_allowed l c.entry_at.result v (sym c.check_clear.ensures ∙ c.in_ok-value.was) in
    let there : get_or s.held l None ≡ Some v = sym c.entry_at.ensures ∙ allowed.1 in
    let size : l < length s.held = let n = ap length h.places in let p = h.proper.size in omega (arith, allowed.0) in
    record {
      places = ap (λ (xs : List (Option Protocol)). set xs l None) h.places ∙ sym c.point.ensures.held;
      names = names_clear s h.names c.point.new.self l v size there c.point.ensures.held c.point.ensures.size
          (λ r f. c.point.ensures.label h.names.numbers r f ∙ ap (λ (w : ProtocolRow). cond (same_protocol r w) None (kept_label s r)) c.row.ensures);
      proper = proper_clear m h.proper l allowed.0;
      counted = c.point.ensures.asked ∙ h.counted;
    }
