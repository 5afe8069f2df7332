-- A refusal is what its number and its detail tell.
use Rattle.std.proofs.Common.{◌≡◌, ℕ, cond, eqb, refl, ap, ◌∙◌, sym}
use Rattle.fields.specs.declared.faults.Fault.{Fault}
use Rattle.fields.specs.declared.faults.Fault.TheVariants.{Line, Identifier, Prefix, Range, Flags, Order, Limit, Answers, Place, Label, Full, Elsewhere, Vacant, Short, Stands, Unknown, Twin, Crowded}
use Rattle.fields.specs.Faults.{number, detail}

-- the refusal of a number, with a detail
told : ℕ → ℕ → Fault
told n d =
    cond (eqb n 1) Line (
    cond (eqb n 2) Identifier (
    cond (eqb n 3) (Prefix d) (
    cond (eqb n 4) (Range d) (
    cond (eqb n 5) (Flags d) (
    cond (eqb n 6) (Order d) (
    cond (eqb n 7) (Limit d) (
    cond (eqb n 8) (Answers d) (
    cond (eqb n 9) (Place d) (
    cond (eqb n 10) (Label d) (
    cond (eqb n 11) (Full d) (
    cond (eqb n 12) (Elsewhere d) (
    cond (eqb n 13) (Vacant d) (
    cond (eqb n 14) (Short d) (
    cond (eqb n 15) (Stands d) (
    cond (eqb n 16) (Unknown d) (
    cond (eqb n 17) (Twin d) (Crowded)))))))))))))))))

told_back : (f : Fault) → told (number f) (detail f) ≡ f
unfolding told
told_back Line = refl
told_back Identifier = refl
told_back (Prefix d) = refl
told_back (Range d) = refl
told_back (Flags d) = refl
told_back (Order d) = refl
told_back (Limit d) = refl
told_back (Answers d) = refl
told_back (Place d) = refl
told_back (Label d) = refl
told_back (Full d) = refl
told_back (Elsewhere d) = refl
told_back (Vacant d) = refl
told_back (Short d) = refl
told_back (Stands d) = refl
told_back (Unknown d) = refl
told_back (Twin d) = refl
told_back Crowded = refl

pub told_apart : (f g : Fault) → number f ≡ number g → detail f ≡ detail g → f ≡ g
told_apart f g n d = sym (told_back f) ∙ ap (λ (k : ℕ). told k (detail f)) n ∙ ap (told (number g)) d ∙ told_back g
