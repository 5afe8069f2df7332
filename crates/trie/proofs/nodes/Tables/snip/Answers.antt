use Rattle.std.proofs.Common.{ℕ, get_or, set, None, sym, ap, ◌∙◌, subst, arith}
use mathlib.Core.Logic.{∥∥₁_elim, ∥∥₁_map}
use native.Mathlib.Bridge.{le_prop}
use Rattle.fields.specs.declared.prefixes.PrefixRow.{PrefixRow}
use Rattle.trie.specs.Strings.{bit_after}
use Rattle.trie.specs.Trees.{at, linked, Trimming}
use Rattle.trie.proofs.Trimmed.{parent_within, last_within, spare_room, snipped, kept}
use Rattle.trie.proofs.nodes.Tables.snip.Goals as goal

pub bounds-self-last : goal.bounds-self-last
bounds-self-last c = ∥∥₁_elim c.requires.trimming le_prop (λ g. last_within c.args.self.now c.args.value c.args.path.now c.args.depth g c.requires.within)

pub returns-then-not-is_bare-clause-kept : goal.returns-then-not-is_bare-clause-kept
returns-then-not-is_bare-clause-kept c = λ _. ∥∥₁_map c.requires.trimming (λ g. kept c.args.self.now c.args.value c.args.path.now c.args.depth g c.requires.within (sym c.is_bare.ensures ∙ c.if-not-is_bare.true))

pub bounds-self-parent : goal.bounds-self-parent
bounds-self-parent c = ∥∥₁_elim c.requires.trimming le_prop (λ g. parent_within c.args.self.now c.args.value c.args.path.now c.args.depth g c.requires.within)

pub push-requires : goal.push-requires
push-requires c = (omega arith, ∥∥₁_elim c.requires.trimming le_prop (λ g. spare_room c.args.self.now c.args.value c.args.path.now c.args.depth g c.requires.within))

pub returns-clause-freed : goal.returns-clause-freed
returns-clause-freed c =
    let t = c.args.self.now in
    let i = get_or c.args.path.now c.args.depth 0 in
    λ _. ∥∥₁_map c.requires.trimming (λ g.
    subst (λ (d : ℕ). Trimming record { places = t.places; nodes = set t.nodes i (linked (at t.nodes i) d None); free = c.push.new.self } c.args.value c.args.path.now c.args.depth) (sym (c.bit_after.ensures.bit ∙ ap (λ (r : PrefixRow). bit_after r.address c.args.depth) c.row.ensures))
    (snipped t c.args.value c.args.path.now c.args.depth g c.requires.within c.push.new.self c.push.ensures.items (sym c.is_bare.ensures ∙ c.if-not-is_bare.false)))
