use Rattle.std.proofs.Common.{string_bytes}
use Rattle.replies.proofs.Texts.{listed_turn}
use Rattle.replies.proofs.answers.write_listed.Goals as goal

pub loop-identifier-preserved : goal.loop-identifier-preserved
loop-identifier-preserved c =
    listed_turn (string_bytes c.write.new.self) (string_bytes c.loop-identifier.out) (string_bytes c.args.out.now) c.args.listed.now c.loop-identifier.identifier-index
    c.loop-identifier-test.true c.loop-identifier.invariant c.in_ok-write.ensures.bytes
