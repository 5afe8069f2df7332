use Rattle.std.proofs.Common.{◌≡◌, ℕ, ◌+◌, ◌%◌, ◌^◌, ltb, List, [], ◌∷◌, length, Some, None, Option, refl, sym, ap, ◌∙◌, subst, mod-lt, arith, length-append, rules}
use Rattle.std.proofs.lemmas.Bool.{lt-ltb, cond-true}
use Rattle.fields.specs.declared.faults.Fault.{Fault}
use Rattle.fields.specs.declared.prefixes.Prefix.{Prefix}
use Rattle.fields.specs.Faults.{answer, unless}
use Rattle.parts.specs.Meaning.{Meaning}
use Rattle.trie.specs.Shown.{Shown}
use Rattle.fields.specs.Prefixes.{prefix_takes}
use Rattle.fields.specs.declared.faults.Fault.TheVariants.{Short}
use Rattle.parts.specs.Meaning.{list_fault, asked_once}
use Rattle.parts.specs.Marks.{marked, labels_of, over_start}
use Rattle.trie.specs.Meant.{size_from}
use Rattle.trie.proofs.Placed.{marks_from, unfaulted, counts_on}
use Rattle.trie.proofs.tries.TrieEnginePrefix.matches.Goals as goal

pub returns : goal.returns
returns c =
    let t = c.args.self.now.tree.tables in
    let a = c.args.number in
    let old = c.args.list.now in
    let ms = c.mark_path.new.marks in
    let size : length ms ≡ 96 = search rules in
    let r = unfaulted (list_fault (length old)) (length (marked ms)) c.in_ok-count.count (sym c.in_ok-count.was ∙ c.write_marked.ensures.result) in
    let found : (m : Meaning Prefix) → Shown t.places c.args.self.now.asked m → marked ms ≡ labels_of (λ v. prefix_takes v.row a) m.places = λ m s. ap marked (marks_from t.places a ms (size_from t t.places c.args.self.now.tree.sound refl) size c.mark_path.ensures) ∙ ap (labels_of (λ (v : Prefix). prefix_takes v.row a)) s.held in
    record {
      result = λ m s. sym c.in_ok-count.was ∙ c.write_marked.ensures.result ∙ ap (λ (ls : List ℕ). answer (list_fault (length old)) (length ls)) (found m s);
      written = λ m s. c.write_marked.ensures.written ∙ ap (λ (ls : List ℕ). unless (list_fault (length old)) old (over_start ls old)) (found m s);
      held = λ m s. subst (λ (f : Option Fault). Shown t.places ((c.args.self.now.asked + 1) % 2 ^ 32) (unless f m (asked_once m))) (sym r) record {
        held = s.held;
        counted = ap (λ (x : ℕ). (x + 1) % 2 ^ 32) s.counted;
        small = mod-lt (c.args.self.now.asked + 1) (omega arith);
      };
      asked = λ l h. sym (ap (λ (x : ℕ). x % 2 ^ 32) (length-append l (a ∷ [])) ∙ counts_on (length l) c.args.self.now.asked (sym h));
      short = λ h. absurd (let e = cond-true (ltb (length old) 96) (Some (Short (length old))) None (lt-ltb (length old) 96 h) in let z : ◌≡◌ {A = ℕ} 0 1 = cc r in omega arith);
      kept = λ h. absurd (let z : ◌≡◌ {A = ℕ} 0 1 = cc in omega arith);
      few = c.in_ok-count.ensures.few;
    }
