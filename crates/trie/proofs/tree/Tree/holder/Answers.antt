use Rattle.std.proofs.Common.{◌≡◌, ℕ, ◌<◌, ◌≤◌, length, eqb, get_or, Some, Option, sym, ap, ◌∙◌, subst, arith}
use mathlib.Core.Logic.{∥∥₁_elim}
use mathlib.Core.Bool.{Bool-set}
use native.Mathlib.Bridge.{le_prop}
use Rattle.std.proofs.lemmas.Bool.{ne_eqb, ltb-false}
use Rattle.fields.specs.declared.prefixes.PrefixRow.{PrefixRow}
use Rattle.trie.specs.Strings.{code, codes}
use Rattle.trie.specs.Trees.{is, at}
use Rattle.trie.proofs.Walks.{used, passing, passing_within, none_further}
use Rattle.trie.proofs.tree.Tree.holder.Goals as goal

pub returns-in_err-node : goal.returns-in_err-node
returns-in_err-node c =
    let t = c.args.self.now.tables in
    let path = c.args.path.now in
    let short : length path ≤ c.row.result.length = ltb-false c.row.result.length (length path) (sym c.in_err-node.ensures.lookup.0) in
    let own = subst (λ (r : PrefixRow). length path ≤ r.length) c.row.ensures short in
    λ l. ap (λ (o : Option ℕ). is o l) c.from_residual.ensures ∙ ∥∥₁_elim c.requires (Bool-set _ _) (λ w. sym (ne_eqb (codes t.places l) (code (Some c.args.value)) (none_further t c.args.value path l w own)))

pub bounds-self-node : goal.bounds-self-node
bounds-self-node c =
    let t = c.args.self.now.tables in
    let row = c.args.value.row in
    let path = c.args.path.now in
    let found = c.in_ok-node.ensures.lookup.3 in
    let long : row.length < length path = subst (λ (r : PrefixRow). r.length < length path) c.row.ensures found.0 in
    let node-is : c.in_ok-node.field-0.now ≡ get_or path row.length 0 = found.1 0 ∙ ap (λ (r : PrefixRow). get_or path r.length 0) c.row.ensures in
    let within : get_or path row.length 0 < 3073 = ∥∥₁_elim c.requires le_prop (λ w. passing_within t row.address row.length path row.length w long) in
    omega arith

pub returns : goal.returns
returns c =
    let t = c.args.self.now.tables in
    let row = c.args.value.row in
    let path = c.args.path.now in
    let found = c.in_ok-node.ensures.lookup.3 in
    let long : row.length < length path = subst (λ (r : PrefixRow). r.length < length path) c.row.ensures found.0 in
    let node-is : c.in_ok-node.field-0.now ≡ get_or path row.length 0 = found.1 0 ∙ ap (λ (r : PrefixRow). get_or path r.length 0) c.row.ensures in
    λ l. ap (λ (i : ℕ). is (at t.nodes i).label l) node-is ∙ ∥∥₁_elim c.requires (Bool-set _ _) (λ w.
    let node = get_or path row.length 0 in
    let here = passing t row.address row.length path row.length w long in
    w.good.frame.named.names node l (used t row.address node row.length here) ∙ ap (eqb (codes t.places l)) (w.passed row.length long))
