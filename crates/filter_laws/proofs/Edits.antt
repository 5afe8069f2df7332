-- Edits of a list of filters: one put in by its rank, and one taken out by its identifier.
use Rattle.std.proofs.Common.{◌≡◌, ℕ, suc, ◌≤◌, Bool, true, false, cond, ◌⊎◌, List, [], ◌∷◌, length, Some, None, Option, refl, subst, inl, inr, arith}
use Rattle.std.specs.List.{AllByRecursion}
use Rattle.std.proofs.ByRecursion.{All-weaker}
use Rattle.std.proofs.lemmas.Bool.Decides.{nat_tests}
use Rattle.fields.specs.declared.faults.Fault.{Fault}
use Rattle.fields.specs.Faults.{unless}
use Rattle.filters.specs.declared.rows.FilterRow.{FilterRow}
use Rattle.filters.specs.Counting.{Among, Pairwise, some}
use Rattle.filters.specs.Filters.{ranks_ahead, same_identifier, same_values}
use Rattle.filters.specs.Standing.{put, without, twin}
use Rattle.filter_laws.proofs.Ranks.{Ranked, ahead_total, ahead_transitive}

-- what a call leaves, by its refusal
pub unless_cases : {A : Type 0} (o : Option Fault) (a b : A) (P : A → Type 0) → (o ≡ None → P b) → ((e : Fault) → o ≡ Some e → P a) → P (unless o a b)
unless_cases None a b P taken left = taken refl
unless_cases (Some e) a b P taken left = left e refl

-- put goes by the test
pub put_cases : (f g : FilterRow) (gs : List FilterRow) (P : List FilterRow → Type 0) → (ranks_ahead f g ≡ true → P (f ∷ g ∷ gs)) → (ranks_ahead f g ≡ false → P (g ∷ put f gs)) → P (put f (g ∷ gs))
put_cases f g gs P front back = by_test (ranks_ahead f g) front back
  where
    by_test : (b : Bool) → (b ≡ true → P (f ∷ g ∷ gs)) → (b ≡ false → P (g ∷ put f gs)) → P (cond b (f ∷ g ∷ gs) (g ∷ put f gs))
    by_test true x y = x refl
    by_test false x y = y refl

pub length_put : (f : FilterRow) (fs : List FilterRow) → length (put f fs) ≡ suc (length fs)
length_put f [] = refl
length_put f (g ∷ gs) = grind (arith, length_put f gs)

pub length_without : (id : ℕ) (fs : List FilterRow) → length (without id fs) ≤ length fs
length_without id [] = omega arith
length_without id (g ∷ gs) = grind (arith, length_without id gs)

pub all_put : (P : FilterRow → Type 0) (f : FilterRow) (fs : List FilterRow) → P f → AllByRecursion P fs → AllByRecursion P (put f fs)
all_put P f [] new old = (new, tt)
all_put P f (g ∷ gs) new old = grind (arith, all_put P f gs new old.1)

pub all_without : (P : FilterRow → Type 0) (id : ℕ) (fs : List FilterRow) → AllByRecursion P fs → AllByRecursion P (without id fs)
all_without P id [] old = tt
all_without P id (g ∷ gs) old = grind (arith, all_without P id gs old.1)

pub pairwise_without : (R : FilterRow → FilterRow → Type 0) (id : ℕ) (fs : List FilterRow) → Pairwise R fs → Pairwise R (without id fs)
pairwise_without R id [] old = tt
pairwise_without R id (g ∷ gs) old = grind (arith, all_without (R g) id gs old.0, pairwise_without R id gs old.1)

-- a relation that goes both ways
pub pairwise_put : (R : FilterRow → FilterRow → Type 0) → ((f g : FilterRow) → R f g → R g f) → (f : FilterRow) (fs : List FilterRow) → AllByRecursion (R f) fs → Pairwise R fs → Pairwise R (put f fs)
pairwise_put R turned f [] new old = (tt, tt)
pairwise_put R turned f (g ∷ gs) new old = grind (arith, all_put (R g) f gs (turned f g new.0) old.0, pairwise_put R turned f gs new.1 old.1)

pub ranked_put : (f : FilterRow) (fs : List FilterRow) → AllByRecursion (λ g. f.identifier ≡ g.identifier → ⊥) fs → Ranked fs → Ranked (put f fs)
ranked_put f [] new old = (tt, tt)
ranked_put f (g ∷ gs) new old =
    put_cases f g gs Ranked
    (λ e. ((e, All-weaker (λ h. ranks_ahead g h ≡ true) (λ h. ranks_ahead f h ≡ true) (λ h t. ahead_transitive f g h e t) gs old.0), old))
    (λ e. (all_put (λ h. ranks_ahead g h ≡ true) f gs (ahead_total f g new.0 e) old.0, ranked_put f gs new.1 old.1))

-- what the checks of an add tell of every standing filter
pub fresh_all : (id : ℕ) (fs : List FilterRow) → some (same_identifier id) fs ≡ false → AllByRecursion (λ g. id ≡ g.identifier → ⊥) fs
fresh_all id [] h = tt
fresh_all id (g ∷ gs) h = grind (arith, nat_tests, fresh_all id gs)

pub untwinned : (f : FilterRow) (fs : List FilterRow) → twin fs f ≡ None → AllByRecursion (λ g. same_values g f ≡ true → ⊥) fs
untwinned f [] h = tt
untwinned f (g ∷ gs) h = grind (arith, untwinned f gs)

-- who is among the filters afterwards
pub all_among : (P : FilterRow → Type 0) (x : FilterRow) (fs : List FilterRow) → AllByRecursion P fs → Among x fs → P x
all_among P x [] h z = absurd z
all_among P x (g ∷ gs) h (inl e) = subst P e h.0
all_among P x (g ∷ gs) h (inr m) = all_among P x gs h.1 m

pub put_new : (f : FilterRow) (fs : List FilterRow) → Among f (put f fs)
put_new f [] = inl refl
put_new f (g ∷ gs) = grind (arith, put_new f gs)

pub put_old : (f x : FilterRow) (fs : List FilterRow) → Among x fs → Among x (put f fs)
put_old f x [] z = absurd z
put_old f x (g ∷ gs) m = grind (arith, put_old f x gs)

pub put_either : (f x : FilterRow) (fs : List FilterRow) → Among x (put f fs) → (f ≡ x) ⊎ Among x fs
put_either f x [] m = grind arith
put_either f x (g ∷ gs) m = grind (arith, put_either f x gs)

pub without_old : (id : ℕ) (x : FilterRow) (fs : List FilterRow) → Among x (without id fs) → Among x fs
without_old id x [] z = absurd z
without_old id x (g ∷ gs) m = grind (arith, without_old id x gs)

pub without_other : (id : ℕ) (x : FilterRow) (fs : List FilterRow) → (id ≡ x.identifier → ⊥) → Among x fs → Among x (without id fs)
without_other id x [] ne z = absurd z
without_other id x (g ∷ gs) ne m = grind (arith, nat_tests, without_other id x gs ne)

pub without_gone : (id : ℕ) (x : FilterRow) (fs : List FilterRow) → Pairwise (λ f g. f.identifier ≡ g.identifier → ⊥) fs → Among x (without id fs) → id ≡ x.identifier → ⊥
without_gone id x [] apart z n = z
without_gone id x (g ∷ gs) apart m n = grind (arith, nat_tests, all_among (λ f. g.identifier ≡ f.identifier → ⊥) x gs, without_gone id x gs)
