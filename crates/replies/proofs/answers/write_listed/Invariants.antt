use Rattle.std.proofs.Common.{◌≡◌, ◌++◌, take, string_bytes}
use Rattle.replies.specs.Answers.{decimals}
use Rattle.replies.proofs.answers.write_listed.Given as goal

abbrev pub invariant-loop-identifier : goal.invariant-loop-identifier
invariant-loop-identifier l = string_bytes l.out ≡ string_bytes l.initial.out ++ decimals (take l.identifier-index l.listed)
