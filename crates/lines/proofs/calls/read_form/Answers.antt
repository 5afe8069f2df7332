use Rattle.std.proofs.Common.{arith}
use Rattle.lines.proofs.Forms.{long_command}
use Rattle.lines.proofs.calls.read_form.Goals as goal

pub returns-in_default-3 : goal.returns-in_default-3
returns-in_default-3 c = long_command c.args.line.now c.in_ok-command.command.now c.in_ok-command.arguments.now c.in_ok-command.ensures (λ e. omega arith)
