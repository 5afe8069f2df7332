-- Tables of rows: what a table holds after an edit.
use Rattle.std.proofs.Common.{◌≡◌, ℕ, ◌≤◌, ◌<◌, Bool, true, false, List, length, get_or, set, replicate, Some, None, Option, refl, ap, ◌∙◌, ⊎_elim, arith, length-set}
use Rattle.std.proofs.lemmas.Bool.{cases_eq}
use Rattle.std.proofs.lemmas.Grind.{common_steps}
use Rattle.engines.specs.Tables.{Idle, Lies}
use Rattle.engines.proofs.Meanings.{none_held, set_at}

pub none_full : (n l : ℕ) → get_or (replicate n false) l false ≡ false
none_full n l = grind (arith, common_steps)

pub idle_none : Idle (replicate 96 false) 0
idle_none = record { size = refl; within = omega arith; idle = λ l h. none_full 96 l }

module _ {R V : Type 0} (plain : V → R) where
  -- a value put at a place, with its row
  pub lies_set : (rows : List R) (full : List Bool) (xs : List (Option V)) → Lies plain rows full xs → length full ≡ 96 → (l : ℕ) (v : V) → l < 96 → Lies plain (set rows l (plain v)) (set full l true) (set xs l (Some v))
  lies_set rows full xs lies size l v h =
      let w = lies.wide in
      let s = lies.size in
      record {
        wide = omega (arith, length-set rows l (plain v));
        size = length-set xs l (Some v) ∙ lies.size;
        vacant = λ k e. grind (arith, set_at full l k true false, set_at xs l k (Some v) None, lies.vacant k);
        filled = λ k e. ⊎_elim
            (λ (s : k ≡ l). (v, grind (arith, set_at xs l k (Some v) None), λ d. grind (arith, set_at rows l k (plain v) d)))
            (λ (o : k ≡ l → ⊥). let f = lies.filled k (grind (arith, set_at full l k true false)) in (f.0, grind (arith, set_at xs l k (Some v) None), λ d. grind (arith, set_at rows l k (plain v) d, f.2 d)))
            (cases_eq k l);
      }

  -- a place made empty
  pub lies_clear : (rows : List R) (full : List Bool) (xs : List (Option V)) → Lies plain rows full xs → length full ≡ 96 → (l : ℕ) → l < 96 → Lies plain rows (set full l false) (set xs l None)
  lies_clear rows full xs lies size l h =
      let s = lies.size in
      record {
        wide = lies.wide;
        size = length-set xs l None ∙ lies.size;
        vacant = λ k e. grind (arith, set_at full l k false false, set_at xs l k None None, lies.vacant k);
        filled = λ k e. let f = lies.filled k (grind (arith, set_at full l k false false)) in (f.0, grind (arith, set_at full l k false false, set_at xs l k None None), f.2);
      }

  -- an empty table
  pub lies_none : (rows : List R) (full : List Bool) → 96 ≤ length rows → full ≡ replicate 96 false → Lies plain rows full (replicate 96 None)
  lies_none rows full w e = record {
    wide = w;
    size = refl;
    vacant = λ l h. none_held 96 l;
    filled = λ l h. absurd (cc (ap (λ (f : List Bool). get_or f l false) e, none_full 96 l));
  }
