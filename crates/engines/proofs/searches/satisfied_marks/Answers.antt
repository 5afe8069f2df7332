use Rattle.std.proofs.Common.{◌≡◌, ℕ, ◌<◌, ◌≤◌, Bool, false, length, get_or, map, None, refl, sym, ap, ◌∙◌, ⊎_elim, arith, length-set}
use Rattle.std.proofs.lemmas.List.{ext_get_or, length-map, get_or-map}
use Rattle.std.proofs.lemmas.Bool.{cases_lt}
use Rattle.parts.specs.Marks.{hit}
use Rattle.engines.proofs.Lying.{none_full}
use Rattle.engines.proofs.Meanings.{set_at}
use Rattle.engines.proofs.searches.satisfied_marks.Goals as goal

pub loop-place-init : goal.loop-place-init
loop-place-init g c = (refl, λ xs lies k h. absurd (omega arith), λ k h. none_full 96 k)

pub loop-place-preserved : goal.loop-place-preserved
loop-place-preserved g c =
    let i = c.loop-place.place in
    let marks = c.loop-place.marks in
    let inv = c.loop-place.invariant in
    let b = c.is_some_and.result in
    let top = c.args.used.now.idle.within in
    let few : i < length marks = omega (arith, inv.0, c.top-place-end.ensures, c.loop-place-test.true) in (
      length-set marks i b ∙ inv.0,
      λ xs lies k h. grind (arith, set_at marks i k b false few, inv.1 xs lies k, c.held.ensures xs lies, c.is_some_and.ensures),
      λ k h. grind (arith, set_at marks i k b false few, inv.2 k),
    )

pub returns : goal.returns
returns g c xs lies =
    let p : g.row.V.Denot → Bool = λ v. g.V.Kind.satisfied v c.args.number in
    let marks = c.loop-place.marks in
    let i = c.loop-place.place in
    let inv = c.loop-place.invariant in
    let used = c.args.used.now in
    let each : (k : ℕ) → get_or marks k false ≡ hit p (get_or xs k None) = λ k.
    ⊎_elim
    (λ (b : k < i). inv.1 xs lies k b)
    (λ (a : i ≤ k). inv.2 k a ∙ ap (hit p) (sym (lies.vacant k (used.idle.idle k (omega (arith, c.top-place-end.ensures, c.loop-place-test.false))))))
    (cases_lt k i) in
    ext_get_or false marks (map (hit p) xs) (inv.0 ∙ sym (length-map xs (hit p) ∙ lies.size)) (λ k h. each k ∙ sym (get_or-map (hit p) xs k None false (let s = lies.size in omega (arith, inv.0))))
