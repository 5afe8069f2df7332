use Rattle.std.proofs.Common.{◌≡◌, ℕ, List, [], get_or, set, Some, None, Err, Option, sym, refl, ap, ◌∙◌, subst, arith, rules}
use Rattle.fields.specs.declared.faults.Fault.{Fault}
use Rattle.fields.specs.declared.prefixes.Prefix.{Prefix}
use Rattle.fields.specs.Faults.{answer, unless}
use Rattle.parts.specs.Meaning.{Meaning, find, set_fault, put}
use Rattle.parts.specs.Checks.{set_refusal}
use Rattle.trie.specs.Shown.{Shown}
use Rattle.engines.proofs.Meanings.{refused_unfound}
use Rattle.trie.proofs.Placed.{equal, no_labels, refused, settable, same_refusal}
use Rattle.trie.proofs.tries.TrieToldPrefix.set.Goals as goal

pub returns-in_err-check_set : goal.returns-in_err-check_set
returns-in_err-check_set c =
    let places = c.args.self.now.tree.tables.places in
    let p = c.args.place in
    let v = c.args.value in
    let e = c.in_err-check_set.field-0.0 in
    let is : c.from_residual.result ≡ Err e = search rules in
    let checked : Err e ≡ answer (set_refusal p [] (get_or places p None) None) tt = sym c.in_err-check_set.was ∙ c.check_set.ensures ∙ ap (λ (o : Option Prefix). answer (set_refusal p [] o None) tt) c.held.ensures in
    let fault : (m : Meaning Prefix) → Shown places c.args.self.now.asked m → set_fault equal no_labels m.places p v ≡ Some e = λ m s. ap (λ (xs : List (Option Prefix)). set_fault equal no_labels xs p v) (sym s.held) ∙ refused (set_refusal p [] (get_or places p None) (find equal places v)) tt e (sym (refused_unfound p (get_or places p None) (find equal places v) tt e (sym checked))) in
    record {
      result = λ m s. is ∙ sym (ap (λ (f : Option Fault). answer f tt) (fault m s));
      held = λ m s. subst (λ (f : Option Fault). Shown places c.args.self.now.asked (unless f m (put m p (Some v)))) (sym (fault m s)) s;
      kept = λ _. refl;
      asked = λ l h. h;
    }

pub returns-in_err-check_set-2 : goal.returns-in_err-check_set-2
returns-in_err-check_set-2 c =
    let places = c.args.self.now.tree.tables.places in
    let p = c.args.place in
    let v = c.args.value in
    let found = c.holder.result in
    let e = c.in_err-check_set-2.field-0.0 in
    let is : c.from_residual-in_err-check_set-2.result ≡ Err e = search rules in
    let checked : Err e ≡ answer (set_refusal p [] (get_or places p None) found) tt = sym c.in_err-check_set-2.was ∙ c.check_set-2.ensures ∙ ap (λ (o : Option Prefix). answer (set_refusal p [] o found) tt) c.held-2.ensures in
    let fault : (m : Meaning Prefix) → Shown places c.args.self.now.asked m → set_fault equal no_labels m.places p v ≡ Some e = λ m s. ap (λ (xs : List (Option Prefix)). set_fault equal no_labels xs p v) (sym s.held) ∙ sym (same_refusal places v found c.holder.ensures p) ∙ refused (set_refusal p [] (get_or places p None) found) tt e checked in
    record {
      result = λ m s. is ∙ sym (ap (λ (f : Option Fault). answer f tt) (fault m s));
      held = λ m s. subst (λ (f : Option Fault). Shown places c.args.self.now.asked (unless f m (put m p (Some v)))) (sym (fault m s)) s;
      kept = λ _. refl;
      asked = λ l h. h;
    }

pub returns : goal.returns
returns c =
    let places = c.args.self.now.tree.tables.places in
    let p = c.args.place in
    let v = c.args.value in
    let found = c.holder.result in
    let ok = settable p (get_or places p None) c.held-2.result found c.held-2.ensures (sym c.in_ok-check_set-2.was ∙ c.check_set-2.ensures) in
    let fault : (m : Meaning Prefix) → Shown places c.args.self.now.asked m → set_fault equal no_labels m.places p v ≡ None = λ m s. ap (λ (xs : List (Option Prefix)). set_fault equal no_labels xs p v) (sym s.held) ∙ sym (same_refusal places v found c.holder.ensures p) ∙ ok.3 in
    record {
      result = λ m s. sym (ap (λ (f : Option Fault). answer f tt) (fault m s));
      held = λ m s. subst (λ (f : Option Fault). Shown c.put.new.self.tables.places c.args.self.now.asked (unless f m (put m p (Some v)))) (sym (fault m s)) record {
        held = c.put.ensures ∙ ap (λ (xs : List (Option Prefix)). set xs p (Some v)) s.held;
        counted = s.counted;
        small = s.small;
      };
      kept = λ h. absurd (let z : ◌≡◌ {A = ℕ} 0 1 = cc in omega arith);
      asked = λ l h. h;
    }
