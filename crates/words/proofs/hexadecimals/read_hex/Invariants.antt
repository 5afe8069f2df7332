use Rattle.std.proofs.Common.{◌≡◌, ◌^◌, ◌<◌, take}
use Rattle.words.specs.Texts.{hex}
use Rattle.words.proofs.hexadecimals.read_hex.Given as goal

abbrev pub invariant-loop-byte : goal.invariant-loop-byte
invariant-loop-byte l = (take l.byte-index l.word ≡ hex l.byte-index l.number) × (l.number < 16 ^ l.byte-index)
