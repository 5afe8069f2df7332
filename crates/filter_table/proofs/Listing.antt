-- Listing: the loop that writes the identifiers of the listed filters, one after another.
use Rattle.std.proofs.Common.{◌≡◌, ℕ, ◌+◌, ◌<◌, ◌≤◌, Bool, true, ◌&&◌, List, [], ◌∷◌, ◌++◌, map, length, get_or, take, drop, set, filter, sym, refl, ap, ◌∙◌, arith}
use Rattle.std.proofs.lemmas.List.{append_assoc, length-map, length_push, map_push, set_at, drop_more, take_more, take_all, length-take-le}
use Rattle.filters.specs.declared.rows.FilterRow.{FilterRow}
use Rattle.filters.specs.Counting.{every}
use Rattle.filters.specs.Scans.{written}

-- filtering elements that all pass another test
pub filter_is : {X : Type 0} (p q : X → Bool) (xs : List X) → every q xs ≡ true → filter (λ x. q x && p x) xs ≡ filter p xs
filter_is p q [] h = refl
filter_is p q (x ∷ xs) h = grind (arith, filter_is p q xs)

abbrev identifier_of : FilterRow → ℕ
identifier_of f = f.identifier

pub write_more : (fs : List FilterRow) (ids list : List ℕ) (f : FilterRow) → length fs < length ids → list ≡ written fs ids → set list (length fs) f.identifier ≡ written (fs ++ f ∷ []) ids
write_more fs ids list f l e =
    ap (λ (q : List ℕ). set q (length fs) f.identifier) (e ∙ ap (λ (q : List ℕ). map identifier_of fs ++ q) (drop_more ids (length fs) 0 l))
    ∙ set_at (map identifier_of fs) (get_or ids (length fs) 0) (drop (length fs + 1) ids) f.identifier (length fs) (length-map fs identifier_of)
    ∙ sym (append_assoc (map identifier_of fs) (f.identifier ∷ []) (drop (length fs + 1) ids))
    ∙ ap (λ (q : List ℕ). q ++ drop (length fs + 1) ids) (sym (map_push identifier_of fs f))
    ∙ ap (λ (k : ℕ). map identifier_of (fs ++ f ∷ []) ++ drop k ids) (sym (length_push fs f))

-- one turn, which writes the n-th of the filters fs; gs is how the code reads them
pub turn : (gs fs : List FilterRow) (ids list : List ℕ) (n k : ℕ) (f : FilterRow) → gs ≡ fs → n ≡ k → (k < length gs) × (f ≡ get_or gs k f) → length fs ≤ length ids → list ≡ written (take n fs) ids → set list n f.identifier ≡ written (take (n + 1) fs) ids
turn gs fs ids list n k f e same next room done =
    let l : n < length fs = omega (arith, ap (λ (q : List FilterRow). length q) e, next.0) in
    let size = length-take-le n fs (omega arith) in
    let is : f ≡ get_or fs n f = next.1 ∙ ap (λ (q : List FilterRow). get_or q k f) e ∙ ap (λ (j : ℕ). get_or fs j f) (sym same) in
    ap (λ (j : ℕ). set list j f.identifier) (sym size)
    ∙ write_more (take n fs) ids list f (omega arith) done
    ∙ ap (λ (q : List FilterRow). written q ids) (ap (λ (g : FilterRow). take n fs ++ g ∷ []) is ∙ sym (take_more fs n f l))

-- after the last turn all are written
pub written_all : (gs fs : List FilterRow) (ids list : List ℕ) (n k : ℕ) → gs ≡ fs → n ≡ k → k ≡ length gs → list ≡ written (take n fs) ids → (n ≡ length fs) × (list ≡ written fs ids)
written_all gs fs ids list n k e same end done =
    let l : n ≡ length fs = same ∙ end ∙ ap (λ (q : List FilterRow). length q) e in
    (l, done ∙ ap (λ (q : List FilterRow). written q ids) (take_all n fs (omega arith)))
