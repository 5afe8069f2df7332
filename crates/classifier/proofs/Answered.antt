-- Calls as the filter list answers them: refused, or accepted with what the labels tell.
use Rattle.std.proofs.Common.{◌≡◌, ℕ, zero, suc, ◌≤◌, Bool, true, false, cond, ◌||◌, List, [], ◌∷◌, ◌++◌, map, length, Some, None, Ok, Err, Option, sym, refl, ap, ◌∙◌, arith, Result}
use Rattle.std.specs.List.{insert}
use Rattle.std.proofs.lemmas.Bool.{both_ways}
use Rattle.fields.specs.declared.faults.Fault.{Fault}
use Rattle.fields.specs.Faults.{answer, answer_by, unless}
use Rattle.filters.specs.declared.rows.FilterRow.{FilterRow}
use Rattle.filters.specs.declared.calls.Call.{Call}
use Rattle.filters.specs.declared.calls.Call.TheVariants.{Add, Remove}
use Rattle.filters.specs.Counting.{some}
use Rattle.filters.specs.Filters.{row_checks, row_fault, same_identifier, ranks_ahead}
use Rattle.filters.specs.Standing.{refusal, adding_checks, after, put, without, rank_place, place_of}
use Rattle.filters.specs.Labels.{of_identifier}
use Rattle.filters.specs.Answers.{Reply, replies, answer as list_answer}
use Rattle.filters.proofs.Checks.{fault_append}
use Rattle.filter_table.proofs.Places.{before_le, put_is}
use Rattle.entries.specs.Entries.{Entry, row_of}
use Rattle.std.specs.Result.{result_unwrap_or}
use Rattle.parts.specs.Asked.{Succeeds}

-- a refused call
pub refused_answer : {X : Type 0} (show : X → Reply) (order : List ℕ) (fs : List FilterRow) (call : Call) (e : Fault) → refusal fs call ≡ Some e → answer_by show (Err e) ≡ list_answer order fs call
refused_answer show order fs call e h = sym (ap (λ (o : Option Fault). answer o (replies order fs call)) h)

pub accepted_answer : {X : Type 0} (show : X → Reply) (order : List ℕ) (fs : List FilterRow) (call : Call) (x : X) → refusal fs call ≡ None → show x ≡ replies order fs call → answer_by show (Ok x) ≡ list_answer order fs call
accepted_answer show order fs call x h e = ap Ok e ∙ sym (ap (λ (o : Option Fault). answer o (replies order fs call)) h)

pub refused_add : (fs : List FilterRow) (f : FilterRow) (e : Fault) → refusal fs (Add f) ≡ Some e → fs ≡ after fs (Add f)
refused_add fs f e h = sym (ap (λ (o : Option Fault). unless o fs (put f fs)) h)

pub accepted_add_list : (fs : List FilterRow) (f : FilterRow) → refusal fs (Add f) ≡ None → after fs (Add f) ≡ put f fs
accepted_add_list fs f h = ap (λ (o : Option Fault). unless o fs (put f fs)) h

pub refused_remove : (fs : List FilterRow) (id : ℕ) (e : Fault) → refusal fs (Remove id) ≡ Some e → fs ≡ after fs (Remove id)
refused_remove fs id e h = sym (ap (λ (o : Option Fault). unless o fs (without id fs)) h)

pub accepted_remove_list : (fs : List FilterRow) (id : ℕ) → refusal fs (Remove id) ≡ None → after fs (Remove id) ≡ without id fs
accepted_remove_list fs id h = ap (λ (o : Option Fault). unless o fs (without id fs)) h

-- what a result says of the refusal
pub answered_err : {X : Type 0} (o : Option Fault) (x : X) (e : Fault) → Err e ≡ answer o x → o ≡ Some e
answered_err None x e h = absurd (let z : ◌≡◌ {A = ℕ} 0 1 = cc in omega arith)
answered_err (Some d) x e h = cc

pub answered_ok : {X : Type 0} (o : Option Fault) (x y : X) → Ok y ≡ answer o x → (o ≡ None) × (y ≡ x)
answered_ok None x y h = (refl, cc)
answered_ok (Some d) x y h = absurd (let z : ◌≡◌ {A = ℕ} 0 1 = cc in omega arith)

pub some_or_none : (o : Option Fault) (e : Fault) → o ≡ None → o ≡ Some e → ⊥
some_or_none o e n s = let z : ◌≡◌ {A = ℕ} 0 1 = cc in omega arith

-- a row that is no filter's is refused so by every list
pub unformed : (fs : List FilterRow) (f : FilterRow) (e : Fault) → row_fault f ≡ Some e → refusal fs (Add f) ≡ Some e
unformed fs f e h = fault_append (row_checks f) (adding_checks fs f) e h

pub rank_within : (f : FilterRow) (fs : List FilterRow) → rank_place f fs ≤ length fs
rank_within f fs = before_le (ranks_ahead f) fs

-- entries with one put in where its filter ranks
pub put_entry : (fs : List FilterRow) (es : List Entry) (x : Entry) → map row_of es ≡ fs → map row_of (insert es (rank_place (row_of x) fs) x) ≡ put (row_of x) fs
put_entry fs es x e =
    map_inserted row_of (rank_place (row_of x) fs) es x
    ∙ ap (λ (gs : List FilterRow). insert gs (rank_place (row_of x) fs) (row_of x)) e
    ∙ put_is (row_of x) fs
  where
    map_inserted : {X Y : Type 0} (g : X → Y) (p : ℕ) (xs : List X) (y : X) → map g (insert xs p y) ≡ insert (map g xs) p (g y)
    map_inserted g zero xs y = refl
    map_inserted g (suc p) [] y = refl
    map_inserted {Y = Y} g (suc p) (z ∷ xs) y = ap (λ (ys : List Y). g z ∷ ys) (map_inserted g p xs y)

-- entries parted at the filter of an identifier
pub record Parted (id : ℕ) (fs : List FilterRow) (es : List Entry) : Type 0 where
  pub front : List Entry
  pub gone : Entry
  pub back : List Entry
  pub whole : es ≡ front ++ gone ∷ back
  pub place : place_of id fs ≡ length front
  pub named : of_identifier id fs ≡ Some (row_of gone)
  pub rest : map row_of (front ++ back) ≡ without id fs

pub parted : (id : ℕ) (es : List Entry) → some (same_identifier id) (map row_of es) ≡ true → Parted id (map row_of es) es
parted id [] h = absurd (both_ways false refl h)
parted id (x ∷ es) h =
    by_test (same_identifier id (row_of x)) refl (λ t. parted id es (sym (ap (λ (b : Bool). b || some (same_identifier id) (map row_of es)) t) ∙ h))
  where
    by_test : (b : Bool) → same_identifier id (row_of x) ≡ b → (same_identifier id (row_of x) ≡ false → Parted id (map row_of es) es) → Parted id (map row_of (x ∷ es)) (x ∷ es)
    by_test true t later = record {
      front = [];
      gone = x;
      back = es;
      whole = refl;
      place = ap (λ (b : Bool). cond {A = ℕ} b 0 (suc (place_of id (map row_of es)))) t;
      named = ap (λ (b : Bool). cond b (Some (row_of x)) (of_identifier id (map row_of es))) t;
      rest = sym (ap (λ (b : Bool). cond b (map row_of es) (row_of x ∷ without id (map row_of es))) t);
    }
    by_test false t later =
        let r = later t in
        record {
          front = x ∷ r.front;
          gone = r.gone;
          back = r.back;
          whole = ap (λ (ys : List Entry). x ∷ ys) r.whole;
          place = ap (λ (b : Bool). cond {A = ℕ} b 0 (suc (place_of id (map row_of es)))) t ∙ ap (λ (n : ℕ). suc n) r.place;
          named = ap (λ (b : Bool). cond b (Some (row_of x)) (of_identifier id (map row_of es))) t ∙ r.named;
          rest = ap (λ (ys : List FilterRow). row_of x ∷ ys) r.rest ∙ sym (ap (λ (b : Bool). cond b (map row_of es) (row_of x ∷ without id (map row_of es))) t);
        }

-- what is said of the value that a call gives holds of the value read from it
pub given : {A E : Type 0} (r : Result A E) (d : A) (P : A → Type 0) → Succeeds r P → P (result_unwrap_or r d)
given (Ok a) d P h = h
given (Err e) d P h = absurd h
