use Rattle.std.proofs.Common.{◌≡◌, ℕ, ◌^◌, ◌<◌, take, Some, decimal, sym, ap, ◌∙◌, subst, arith}
use Rattle.std.specs.Str.Parse.{digits_value, AllDigits}
use Rattle.std.proofs.lemmas.List.{take_all}
use Rattle.words.specs.Reading.{Reads}
use Rattle.words.proofs.DecimalWords.{read_decimal, stuck_read, digits_turn}
use Rattle.words.proofs.decimals.read_u16.Goals as goal

pub returns-in_err-number : goal.returns-in_err-number
returns-in_err-number c =
    rw c.from_residual.ensures
    (stuck_read c.args.word.now c.loop-byte.byte-index c.loop-byte.number c.loop-byte-test.true c.loop-byte.invariant.1 c.in_err-number.ensures)

pub loop-byte-preserved : goal.loop-byte-preserved
loop-byte-preserved c =
    let d = c.in_ok-number.ensures in
    let t = digits_turn c.args.word.now c.loop-byte.byte-index c.loop-byte.number c.in_ok-number.number c.loop-byte-test.true c.loop-byte.invariant.0 c.loop-byte.invariant.1 d.0.0 d.0.1 d.1 in
    (t.0, t.1, omega (arith, d.0.2, d.1))

pub returns : goal.returns
returns c =
    let word = c.args.word.now in
    let all : take c.loop-byte.byte-index word ≡ word = take_all c.loop-byte.byte-index word c.loop-byte-test.false in
    let is : c.loop-byte.number ≡ digits_value 10 word = c.loop-byte.invariant.1 ∙ ap (digits_value 10) all in
    let begins = c.if-not-begins_decimal.ensures in
    subst (λ (n : ℕ). Reads decimal (λ m. m < 2 ^ 16) word (Some n)) (sym is)
    (read_decimal word (subst (AllDigits 10) all c.loop-byte.invariant.0) begins.0 begins.1 (omega (arith, c.loop-byte.invariant.2)))
