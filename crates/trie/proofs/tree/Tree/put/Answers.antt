use Rattle.std.proofs.Common.{◌≡◌, ◌-◌, List, length, get_or, None, Option, sym, ap, ◌∙◌, arith}
use mathlib.Core.Logic.{∥∥₁_elim, ∥∥₁_map}
use native.Mathlib.Bridge.{le_prop}
use Rattle.fields.specs.declared.prefixes.Prefix.{Prefix}
use Rattle.trie.specs.Strings.{codes}
use Rattle.trie.proofs.Growth.{starts, within, filled}
use Rattle.trie.proofs.tree.Tree.put.Goals as goal

pub grow-last-requires : goal.grow-last-requires
grow-last-requires c =
    let path = c.args.path.now in
    record {
      within = ∥∥₁_elim c.requires.walked le_prop (λ w. omega (arith, w.within));
      growing = ∥∥₁_map c.requires.walked (λ w. starts c.args.self.now.tables c.args.value path (length path - 1) c.args.place w (omega (arith, w.some)) c.requires.within c.requires.vacant);
    }

pub bounds-self-last : goal.bounds-self-last
bounds-self-last c = ∥∥₁_elim c.grow-last.ensures.grown le_prop (within c.grow-last.new.self c.args.value c.grow-last.result c.args.value.row.length)

pub invariant_of-self : goal.invariant_of-self
invariant_of-self c =
    let t = c.grow-last.new.self in
    let p = c.args.place in
    let same : t.places ≡ c.args.self.now.tables.places = c.grow-last.ensures.places in
    let vacant : get_or t.places p None ≡ None = ap (λ (xs : List (Option Prefix)). get_or xs p None) same ∙ c.requires.vacant in
    record {
      sound = ∥∥₁_map c.grow-last.ensures.grown (λ g. filled t c.args.value c.grow-last.result p g c.requires.within vacant (λ l e. c.requires.new l (ap (λ (xs : List (Option Prefix)). codes xs l) (sym same) ∙ e)));
    }
