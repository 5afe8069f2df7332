use Rattle.std.proofs.Common.{◌≡◌, ℕ, ◌^◌, ◌<◌, take, sym, ap, ◌∙◌, subst, arith}
use Rattle.std.proofs.lemmas.List.{take_all}
use Rattle.words.specs.Texts.{hex}
use Rattle.words.proofs.HexWords.{unequal_read, stuck_read, read_hex, hex_turn, hex_room}
use Rattle.words.proofs.hexadecimals.read_hex.Goals as goal

pub returns-then-word-digits : goal.returns-then-word-digits
returns-then-word-digits c = unequal_read c.args.digits c.args.word.now c.if-word-digits.true

pub overflow_mul-number : goal.overflow_mul-number
overflow_mul-number c =
    let r = hex_room c.loop-byte.byte-index c.loop-byte.number (omega arith) c.loop-byte.invariant.1 in
    omega arith

pub returns-in_err-number : goal.returns-in_err-number
returns-in_err-number c =
    rw c.from_residual.ensures
    (stuck_read c.args.digits c.args.word.now c.loop-byte.byte-index c.loop-byte-test.true c.in_err-number.ensures)

pub overflow_add-number : goal.overflow_add-number
overflow_add-number c =
    let r = hex_room c.loop-byte.byte-index c.loop-byte.number (omega arith) c.loop-byte.invariant.1 in
    let d = c.in_ok-number.ensures in
    omega (arith, d.0)

pub loop-byte-preserved : goal.loop-byte-preserved
loop-byte-preserved c =
    let d = c.in_ok-number.ensures in
    hex_turn c.args.word.now c.loop-byte.byte-index c.loop-byte.number c.in_ok-number.field-0 c.loop-byte-test.true c.loop-byte.invariant.0 c.loop-byte.invariant.1 d.0 d.1

pub returns : goal.returns
returns c =
    let word = c.args.word.now in
    let all : take c.loop-byte.byte-index word ≡ word = take_all c.loop-byte.byte-index word c.loop-byte-test.false in
    let end : c.loop-byte.byte-index ≡ c.args.digits = omega arith in
    read_hex c.args.digits word c.loop-byte.number
    (sym all ∙ c.loop-byte.invariant.0 ∙ ap (λ (k : ℕ). hex k c.loop-byte.number) end)
    (subst (λ (k : ℕ). c.loop-byte.number < 16 ^ k) end c.loop-byte.invariant.1)
