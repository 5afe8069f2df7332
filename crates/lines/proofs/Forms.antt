-- A command: a letter, a space, and the spelling of its arguments.
use Rattle.std.proofs.Common.{◌≡◌, ℕ, List, [], ◌∷◌, length, Some, None, Option, sym, refl, ap, ◌∙◌, subst, arith}
use Rattle.filters.specs.declared.calls.Call.{Call}
use Rattle.filters.specs.declared.calls.Call.TheVariants.{Add, Remove, Inspect, Search}
use Rattle.words.specs.Texts.{joined}
use Rattle.words.specs.Reading.{Reads, Free}
use Rattle.words.proofs.Joins.{one_cut}
use Rattle.lines.specs.Calls.{spaced, letter, arguments, call_text, CallFits}

abbrev CallReads : List ℕ → Option Call → Type 0
CallReads line r = Reads call_text CallFits line r

none_read : (line : List ℕ) → ((v : Call) → line ≡ call_text v → ⊥) → CallReads line None
none_read line h = record {
  back = λ v e. absurd (let z : ◌≡◌ {A = ℕ} 0 1 = cc in omega arith);
  every = λ v f e. absurd (h v e);
}

begins : (v : Call) → call_text v ≡ joined (letter v ∷ []) 32 (spaced (arguments v))
begins (Add f) = refl
begins (Remove id) = refl
begins (Inspect id place) = refl
begins (Search h r room) = refl

-- the values of a command's words, and the call that they make
pub record Form (P : Type 0) : Type 1 where
  pub sign : ℕ
  pub Fits : P → Type 0
  pub make : P → Call
  pub signed : (p : P) → sign ≡ letter (make p)
  pub fits : (p : P) → Fits p → CallFits (make p)
  -- any call with the letter is such a command
  pub parts : (v : Call) → CallFits v → sign ≡ letter v → (p : P) × (make p ≡ v) × Fits p

heads : (x y : ℕ) (xs ys : List ℕ) → x ∷ 32 ∷ xs ≡ y ∷ 32 ∷ ys → (x ≡ y) × (xs ≡ ys)
heads x y xs ys e = (cc, cc)

module _ {P : Type 0} (form : Form P) (rest : List ℕ) where
  abbrev line : List ℕ
  line = form.sign ∷ 32 ∷ rest

  abbrev text : P → List ℕ
  text p = spaced (arguments (form.make p))

  found : (v : Call) → CallFits v → line ≡ call_text v → (p : P) × (form.make p ≡ v) × form.Fits p × (rest ≡ text p)
  found v f e =
      let h = heads form.sign (letter v) rest (spaced (arguments v)) (e ∙ begins v) in
      let q = form.parts v f h.0 in
      (q.0, q.1, q.2, h.1 ∙ ap (λ (u : Call). spaced (arguments u)) (sym q.1))

  pub no_words : Reads text form.Fits rest None → CallReads line None
  no_words r = record {
    back = λ v e. absurd (let z : ◌≡◌ {A = ℕ} 0 1 = cc in omega arith);
    every = λ v f e.
        let q = found v f e in
        let h : None ≡ Some q.0 = r.every q.0 q.2 q.3 in
        absurd (let z : ◌≡◌ {A = ℕ} 0 1 = cc in omega arith);
  }

  pub words_read : (p : P) → Reads text form.Fits rest (Some p) → CallReads line (Some (form.make p))
  words_read p r =
      let b = r.back p refl in
      let written : line ≡ call_text (form.make p) =
      ap (λ (l : List ℕ). form.sign ∷ 32 ∷ l) b.1 ∙ ap (λ (n : ℕ). n ∷ 32 ∷ text p) (form.signed p) ∙ sym (begins (form.make p)) in
      record {
        back = λ v e.
            let m : form.make p ≡ v = cc in
            subst (λ (u : Call). CallFits u × (line ≡ call_text u)) m (form.fits p b.0, written);
        every = λ v f e.
            let q = found v f e in
            let h : Some p ≡ Some q.0 = r.every q.0 q.2 q.3 in
            let i : p ≡ q.0 = cc in
            ap Some (ap form.make i ∙ q.1);
      }

-- no letter is a space
unspaced : (v : Call) → Free 32 (letter v ∷ [])
unspaced (Add f) = (λ e. omega arith, tt)
unspaced (Remove id) = (λ e. omega arith, tt)
unspaced (Inspect id place) = (λ e. omega arith, tt)
unspaced (Search h r room) = (λ e. omega arith, tt)

module _ (line command rest : List ℕ) (cut : (line ≡ joined command 32 rest) × Free 32 command) where
  front : (v : Call) → line ≡ call_text v → command ≡ letter v ∷ []
  front v e = (one_cut 32 command rest (letter v ∷ []) (spaced (arguments v)) cut.1 (unspaced v) (sym cut.0 ∙ e ∙ begins v)).0

  pub long_command : (length command ≡ 1 → ⊥) → CallReads line None
  long_command ne = none_read line (λ v e. ne (ap length (front v e)))
