use Rattle.std.proofs.Common.{◌≡◌, subst, arith}
use mathlib.Core.Logic.{∥∥₁_map}
use Rattle.trie.specs.Trees.{Trimming}
use Rattle.trie.proofs.Trimmed.{trimmed}
use Rattle.trie.proofs.nodes.Tables.trim.Goals as goal

pub returns : goal.returns
returns c =
    let t = c.loop-depth.self in
    let e : c.loop-depth.depth ≡ 0 = omega arith in
    record {
      sound = ∥∥₁_map c.loop-depth.invariant.0 (λ g. trimmed t c.args.value c.args.path.now (subst (Trimming t c.args.value c.args.path.now) e g));
      places = c.loop-depth.invariant.1;
    }
