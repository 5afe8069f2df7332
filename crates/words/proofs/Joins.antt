-- Two words with a separator between them: where neither front has the separator, there is one way to cut.
use Rattle.std.proofs.Common.{◌≡◌, ℕ, List, [], ◌∷◌, ◌++◌, Some, None, sym, refl, ap, ◌∙◌, subst, arith}
use Rattle.words.specs.Texts.{joined}
use Rattle.words.specs.Reading.{Reads, Free}

heads : (x y : ℕ) (xs ys : List ℕ) → x ∷ xs ≡ y ∷ ys → (x ≡ y) × (xs ≡ ys)
heads x y xs ys e = (cc, cc)

pub one_cut : (s : ℕ) (a b c d : List ℕ) → Free s a → Free s c → joined a s b ≡ joined c s d → (a ≡ c) × (b ≡ d)
one_cut s [] b [] d f g e = (refl, (heads s s b d e).1)
one_cut s [] b (y ∷ c) d f g e = absurd (g.0 (sym (heads s y b (c ++ s ∷ d) e).0))
one_cut s (x ∷ a) b [] d f g e = absurd (f.0 (heads x s (a ++ s ∷ b) d e).0)
one_cut s (x ∷ a) b (y ∷ c) d f g e =
    let h = heads x y (a ++ s ∷ b) (c ++ s ∷ d) e in
    let r = one_cut s a b c d f.1 g.1 h.1 in
    let p = h.0 in
    let q = r.0 in
    (cc, r.1)

free_of : (s : ℕ) (a b : List ℕ) → Free s (joined a s b) → ⊥
free_of s [] b f = f.0 refl
free_of s (x ∷ a) b f = free_of s a b f.1

-- a value of two parts, each with a word of its own, and a separator that the first never has
pub record Join (V A B : Type 0) : Type 1 where
  pub text_a : A → List ℕ
  pub FitsA : A → Type 0
  pub text_b : B → List ℕ
  pub FitsB : B → Type 0
  pub separator : ℕ
  pub front : (a : A) → FitsA a → Free separator (text_a a)
  pub make : A → B → V
  pub left : V → A
  pub right : V → B
  pub whole : (v : V) → make (left v) (right v) ≡ v
  pub left_made : (x : A) (y : B) → left (make x y) ≡ x
  pub right_made : (x : A) (y : B) → right (make x y) ≡ y

module _ {V A B : Type 0} (j : Join V A B) (word : List ℕ) where
  abbrev text : V → List ℕ
  text v = joined (j.text_a (j.left v)) j.separator (j.text_b (j.right v))

  abbrev Fits : V → Type 0
  Fits v = j.FitsA (j.left v) × j.FitsB (j.right v)

  none_read : ((v : V) → Fits v → word ≡ text v → ⊥) → Reads text Fits word None
  none_read h = record {
    back = λ v e. absurd (let z : ◌≡◌ {A = ℕ} 0 1 = cc in omega arith);
    every = λ v f e. absurd (h v f e);
  }

  pub uncut_read : Free j.separator word → Reads text Fits word None
  uncut_read free = none_read (λ v f e. free_of j.separator (j.text_a (j.left v)) (j.text_b (j.right v)) (subst (Free j.separator) e free))

  module _ (a b : List ℕ) (cut : (word ≡ joined a j.separator b) × Free j.separator a) where
    parts : (v : V) → Fits v → word ≡ text v → (a ≡ j.text_a (j.left v)) × (b ≡ j.text_b (j.right v))
    parts v f e = one_cut j.separator a b (j.text_a (j.left v)) (j.text_b (j.right v)) cut.1 (j.front (j.left v) f.0) (sym cut.0 ∙ e)

    pub no_left : Reads j.text_a j.FitsA a None → Reads text Fits word None
    no_left r = none_read (λ v f e. let q = r.every (j.left v) f.0 (parts v f e).0 in let z : ◌≡◌ {A = ℕ} 0 1 = cc in omega arith)

    pub no_right : Reads j.text_b j.FitsB b None → Reads text Fits word None
    no_right r = none_read (λ v f e. let q = r.every (j.right v) f.1 (parts v f e).1 in let z : ◌≡◌ {A = ℕ} 0 1 = cc in omega arith)

    pub both_read : (x : A) (y : B) → Reads j.text_a j.FitsA a (Some x) → Reads j.text_b j.FitsB b (Some y) → Reads text Fits word (Some (j.make x y))
    both_read x y p q =
        let px = p.back x refl in
        let qy = q.back y refl in
        let lx = j.left_made x y in
        let ry = j.right_made x y in
        let made : word ≡ text (j.make x y) =
        cut.0 ∙ ap (λ (l : List ℕ). joined l j.separator b) px.1 ∙ ap (joined (j.text_a x) j.separator) qy.1
        ∙ ap (λ (u : A). joined (j.text_a u) j.separator (j.text_b y)) (sym lx) ∙ ap (λ (u : B). joined (j.text_a (j.left (j.make x y))) j.separator (j.text_b u)) (sym ry) in
        record {
          back = λ v e.
              let w : j.make x y ≡ v = cc in
              subst (λ (u : V). Fits u × (word ≡ text u)) w ((subst j.FitsA (sym lx) px.0, subst j.FitsB (sym ry) qy.0), made);
          every = λ v f e.
              let w = parts v f e in
              let g : Some x ≡ Some (j.left v) = p.every (j.left v) f.0 w.0 in
              let h : Some y ≡ Some (j.right v) = q.every (j.right v) f.1 w.1 in
              let g' : x ≡ j.left v = cc in
              let h' : y ≡ j.right v = cc in
              ap Some (ap (λ (u : A). j.make u y) g' ∙ ap (j.make (j.left v)) h' ∙ j.whole v);
        }
