-- The labels that the direct engine keeps.
use Rattle.std.proofs.Common.{◌≡◌, ℕ, ◌<◌, Bool, true, false, cond, ◌⊎◌, List, map, length, get_or, set, replicate, Some, None, Option, sym, refl, ap, ◌∙◌, inl, inr, ⊎_elim, arith}
use Rattle.std.proofs.lemmas.List.{get_or_past}
use Rattle.std.proofs.lemmas.Bool.{cases_Bool, cases_order, eq-eqb}
use Rattle.std.proofs.lemmas.Bool.Decides.{nat_tests}
use Rattle.fields.specs.declared.protocols.Protocol.{Protocol}
use Rattle.fields.specs.declared.protocols.ProtocolRow.{ProtocolRow}
use Rattle.fields.specs.declared.protocols.ProtocolRow.TheVariants.{Any, Only}
use Rattle.fields.specs.Protocols.{fits_byte, protocol_takes, same_protocol}
use Rattle.fields.proofs.Values.{protocol_decides, protocol_from_row}
use Rattle.parts.specs.Meaning.{find}
use Rattle.parts.specs.Marks.{hit, labels_of}
use Rattle.engines.specs.declared.direct.Direct.{Direct}
use Rattle.engines.specs.Rising.{rising}
use Rattle.engines.specs.Numbers.{kept_label, Names}
use Rattle.engines.proofs.Finding.{find_index}
use Rattle.engines.proofs.Marking.{hit_at, marked_none, marked_one, marked_two}
use Rattle.engines.proofs.Meanings.{none_held, set_at}

same_true : (r s : ProtocolRow) → same_protocol r s ≡ true → r ≡ s
same_true Any Any e = refl
same_true Any (Only q) e = cc
same_true (Only p) Any e = cc
same_true (Only p) (Only q) e = grind (arith, nat_tests)

same_itself : (r : ProtocolRow) → same_protocol r r ≡ true
same_itself Any = refl
same_itself (Only p) = eq-eqb p p refl

-- whether a number satisfies a value
abbrev taking : ℕ → Protocol → Bool
taking n v = protocol_takes v.row n

-- nothing is held, and no label is kept
pub names_none : (s : Direct) → s.held ≡ replicate 96 None → s.any ≡ None → s.numbered ≡ replicate 256 None → Names s
names_none s h a n = record {
  numbers = ap length n;
  there = λ l r f e. absurd (by l r e);
  named = λ l v e. absurd (cc (ap (λ (xs : List (Option Protocol)). get_or xs l None) h, none_held {V = Protocol} 96 l));
} where
  by : (l : ℕ) (r : ProtocolRow) → kept_label s r ≡ Some l → ⊥
  by l Any e = cc
  by l (Only p) e = cc (none_held {V = ℕ} 256 p)

module _ (s : Direct) (names : Names s) where
  -- the label kept for a value is where it is found
  pub found : (v : Protocol) → find (λ a b. same_protocol a.row b.row) s.held v ≡ kept_label s v.row
  found v = find_index (λ a b. same_protocol a.row b.row) protocol_decides v s.held (kept_label s v.row)
      (λ l e. let t = names.there l v.row v.fits e in t.1 ∙ ap Some (protocol_from_row t.0 v t.2))
      (λ l e. names.named l v e)

  -- a new value is held, and its label kept
  pub names_set : (t : Direct) (l : ℕ) (v : Protocol) → l < length s.held → get_or s.held l None ≡ None → kept_label s v.row ≡ None → t.held ≡ set s.held l (Some v) → length t.numbered ≡ length s.numbered
      → ((r : ProtocolRow) → fits_byte r ≡ true → kept_label t r ≡ cond (same_protocol r v.row) (Some l) (kept_label s r)) → Names t
  names_set t l v h free new held size keeps =
      let at : (k : ℕ) → get_or t.held k None ≡ get_or (set s.held l (Some v)) k None = λ k. ap (λ (xs : List (Option Protocol)). get_or xs k None) held in
      record {
        numbers = size ∙ names.numbers;
        there = λ k r f e. ⊎_elim
            (λ (y : same_protocol r v.row ≡ true). (v, grind (arith, keeps r f, at k, set_at s.held l k (Some v) None), sym (same_true r v.row y)))
            (λ (n : same_protocol r v.row ≡ false). let u = names.there k r f (grind (arith, keeps r f)) in (u.0, grind (arith, at k, set_at s.held l k (Some v) None, u.1), u.2))
            (cases_Bool (same_protocol r v.row));
        named = λ k w e. ⊎_elim
            (λ (y : same_protocol w.row v.row ≡ true). let z = same_true w.row v.row y in grind (arith, keeps w.row w.fits, at k, set_at s.held l k (Some v) None, names.named k w, ap (kept_label s) z))
            (λ (n : same_protocol w.row v.row ≡ false). grind (arith, keeps w.row w.fits, at k, set_at s.held l k (Some v) None, names.named k w, same_itself v.row))
            (cases_Bool (same_protocol w.row v.row));
      }

  -- a value is held no more, and its label is given up
  pub names_clear : (t : Direct) (l : ℕ) (v : Protocol) → l < length s.held → get_or s.held l None ≡ Some v → t.held ≡ set s.held l None → length t.numbered ≡ length s.numbered
      → ((r : ProtocolRow) → fits_byte r ≡ true → kept_label t r ≡ cond (same_protocol r v.row) None (kept_label s r)) → Names t
  names_clear t l v h holds held size keeps =
      let at : (k : ℕ) → get_or t.held k None ≡ get_or (set s.held l None) k None = λ k. ap (λ (xs : List (Option Protocol)). get_or xs k None) held in
      record {
        numbers = size ∙ names.numbers;
        there = λ k r f e. ⊎_elim
            (λ (y : same_protocol r v.row ≡ true). absurd (grind (arith, keeps r f)))
            (λ (n : same_protocol r v.row ≡ false). let u = names.there k r f (grind (arith, keeps r f)) in (u.0, grind (arith, at k, set_at s.held l k None None, u.1, u.2, same_itself v.row), u.2))
            (cases_Bool (same_protocol r v.row));
        named = λ k w e. ⊎_elim
            (λ (y : same_protocol w.row v.row ≡ true). let z = same_true w.row v.row y in grind (arith, at k, set_at s.held l k None None, names.named k w, names.named l v holds, ap (kept_label s) z))
            (λ (n : same_protocol w.row v.row ≡ false). grind (arith, keeps w.row w.fits, at k, set_at s.held l k None None, names.named k w))
            (cases_Bool (same_protocol w.row v.row));
      }

  -- a place holds a satisfied value exactly if it is one of the two labels
  satisfied_only : (n l : ℕ) → get_or (map (hit (taking n)) s.held) l false ≡ true → (s.any ≡ Some l) ⊎ (get_or s.numbered n None ≡ Some l)
  satisfied_only n l t = by (get_or s.held l None) refl where
    by : (o : Option Protocol) → get_or s.held l None ≡ o → (s.any ≡ Some l) ⊎ (get_or s.numbered n None ≡ Some l)
    by None e = absurd (cc (hit_at (taking n) s.held l))
    by (Some v) e = by_row v.row refl where
      by_row : (r : ProtocolRow) → v.row ≡ r → (s.any ≡ Some l) ⊎ (get_or s.numbered n None ≡ Some l)
      by_row Any w = inl (cc (names.named l v e))
      by_row (Only q) w = inr (grind (arith, nat_tests, hit_at (taking n) s.held l, names.named l v e))

  number_there : (n l : ℕ) → get_or s.numbered n None ≡ Some l → (v : Protocol) × (get_or s.held l None ≡ Some v) × (v.row ≡ Only n)
  number_there n l e = names.there l (Only n) (grind (arith, nat_tests, names.numbers, get_or_past s.numbered n None)) e

  satisfied_any : (n l : ℕ) → s.any ≡ Some l → get_or (map (hit (taking n)) s.held) l false ≡ true
  satisfied_any n l e = let t = names.there l Any refl e in cc (hit_at (taking n) s.held l, t.1, t.2)

  satisfied_number : (n l : ℕ) → get_or s.numbered n None ≡ Some l → get_or (map (hit (taking n)) s.held) l false ≡ true
  satisfied_number n l e = let t = number_there n l e in cc (hit_at (taking n) s.held l, t.1, t.2, eq-eqb n n refl)

  -- one place does not hold both
  differ : (n a b : ℕ) → s.any ≡ Some a → get_or s.numbered n None ≡ Some b → a ≡ b → ⊥
  differ n a b e f w = let t = names.there a Any refl e in let u = number_there n b f in cc

  -- the labels kept for any and for a number are those of the values that the number satisfies
  by_labels : (n : ℕ) (x y : Option ℕ) → s.any ≡ x → get_or s.numbered n None ≡ y → rising x y ≡ labels_of (taking n) s.held
  by_labels n None None e f = sym (marked_none 0 (map (hit (taking n)) s.held) (λ l t. let w = satisfied_only n l t in grind arith))
  by_labels n None (Some b) e f = let one = marked_one 0 (map (hit (taking n)) s.held) b (satisfied_number n b f) (λ l t. let w = satisfied_only n l t in grind arith) in grind (arith, one)
  by_labels n (Some a) None e f = let one = marked_one 0 (map (hit (taking n)) s.held) a (satisfied_any n a e) (λ l t. let w = satisfied_only n l t in grind arith) in grind (arith, one)
  by_labels n (Some a) (Some b) e f = ⊎_elim (λ (w : a ≡ b). absurd (differ n a b e f w)) (⊎_elim
      (λ (o : a < b). let two = marked_two 0 (map (hit (taking n)) s.held) a b o (satisfied_any n a e) (satisfied_number n b f) (λ l t. let w = satisfied_only n l t in grind arith) in grind (arith, two))
      (λ (o : b < a). let two = marked_two 0 (map (hit (taking n)) s.held) b a o (satisfied_number n b f) (satisfied_any n a e) (λ l t. let w = satisfied_only n l t in grind arith) in grind (arith, two)))
      (cases_order a b)

  pub reached : (n : ℕ) → rising s.any (get_or s.numbered n None) ≡ labels_of (taking n) s.held
  reached n = by_labels n s.any (get_or s.numbered n None) refl refl
