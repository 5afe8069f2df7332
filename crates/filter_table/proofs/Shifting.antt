-- Rows that have moved by one place, from what each place holds.
use Rattle.std.proofs.Common.{◌≡◌, ℕ, ◌+◌, ◌-◌, ◌<◌, ◌≤◌, List, ◌++◌, length, get_or, take, drop, set, sym, ap, ◌∙◌, subst, inl, inr, arith, length-drop, length-set}
use Rattle.std.specs.List.{insert, remove}
use Rattle.std.proofs.lemmas.List.{same_lists, take-append-drop, get_or-take, get_or-drop, get_or-set_same, get_or-set_other, drop-set-lt, length-take-le, take_at, length-append}
use Rattle.std.proofs.lemmas.List.Edits.{length-insert, get_or-insert_below, get_or-insert_at, get_or-insert_above, length-remove, get_or-remove_below, get_or-remove_above}
use Rattle.std.proofs.lemmas.Bool.{cases_order, cases_lt}

back : (k i : ℕ) → i < k → k - 1 + 1 ≡ k
back k i h = omega arith

same_tails : {X : Type 0} (xs ys : List X) (n : ℕ) → length ys ≡ length xs → ((j : ℕ) (d : X) → n ≤ j → get_or ys j d ≡ get_or xs j d) → drop n ys ≡ drop n xs
same_tails xs ys n same past =
    same_lists (drop n ys) (drop n xs) (simp length-drop (omega arith))
    (λ k d h. get_or-drop n ys k d ∙ past (n + k) d (omega arith) ∙ sym (get_or-drop n xs k d))

opened_front : {X : Type 0} (xs ys : List X) (n i : ℕ) (row : X) → n < length xs → i ≤ n → length ys ≡ length xs
    → ((j : ℕ) (d : X) → j < i → get_or ys j d ≡ get_or xs j d)
    → ((j : ℕ) (d : X) → i ≤ j → j < n → get_or ys (j + 1) d ≡ get_or xs j d)
    → take (n + 1) (set ys i row) ≡ insert (take n xs) i row
opened_front {X} xs ys n i row ln li same low high =
    let size : length (take n xs) ≡ n = length-take-le n xs (omega arith) in
    let fits : i ≤ length (take n xs) = omega arith in
    let count : length (take (n + 1) (set ys i row)) ≡ n + 1 = length-take-le (n + 1) (set ys i row) (simp length-set (omega arith)) in
    same_lists (take (n + 1) (set ys i row)) (insert (take n xs) i row) (count ∙ sym (length-insert (take n xs) i row fits ∙ ap (λ (k : ℕ). k + 1) size))
    (λ k d h.
    let hk : k < n + 1 = omega arith in
    get_or-take (n + 1) (set ys i row) k d hk ∙
    elim (cases_order k i) [
      | inl e ↦ subst (λ (m : ℕ). get_or (set ys i row) m d ≡ get_or (insert (take n xs) i row) m d) (sym e) (get_or-set_same ys i row d (omega arith) ∙ sym (get_or-insert_at (take n xs) i row d fits))
      | inr o ↦ elim o [
        | inl b ↦ get_or-set_other ys i k row d (λ e. omega arith) ∙ low k d b ∙ sym (get_or-insert_below (take n xs) i row d k b fits ∙ get_or-take n xs k d (omega arith))
        | inr a ↦ get_or-set_other ys i k row d (λ e. omega arith)
            ∙ subst (λ (m : ℕ). get_or ys m d ≡ get_or (insert (take n xs) i row) m d) (back k i a) (high (k - 1) d (omega arith) (omega arith) ∙ sym (get_or-insert_above (take n xs) i row d (k - 1) (omega arith) fits ∙ get_or-take n xs (k - 1) d (omega arith)))
      ]
    ])

pub moved_up : {X : Type 0} (xs ys : List X) (n i : ℕ) (row : X) → n < length xs → i ≤ n → length ys ≡ length xs
    → ((j : ℕ) (d : X) → j < i → get_or ys j d ≡ get_or xs j d)
    → ((j : ℕ) (d : X) → i ≤ j → j < n → get_or ys (j + 1) d ≡ get_or xs j d)
    → ((j : ℕ) (d : X) → n < j → get_or ys j d ≡ get_or xs j d)
    → set ys i row ≡ insert (take n xs) i row ++ drop (n + 1) xs
moved_up {X} xs ys n i row ln li same low high past =
    sym (take-append-drop (n + 1) (set ys i row))
    ∙ ap (λ (f : List X). f ++ drop (n + 1) (set ys i row)) (opened_front xs ys n i row ln li same low high)
    ∙ ap (λ (b : List X). insert (take n xs) i row ++ b) (drop-set-lt (n + 1) ys i row (omega arith) ∙ same_tails xs ys (n + 1) same (λ j d h. past j d (omega arith)))

closed_front : {X : Type 0} (xs ys : List X) (n i : ℕ) → n ≤ length xs → i < n → length ys ≡ length xs
    → ((j : ℕ) (d : X) → j < i → get_or ys j d ≡ get_or xs j d)
    → ((j : ℕ) (d : X) → i ≤ j → j < n - 1 → get_or ys j d ≡ get_or xs (j + 1) d)
    → take (n - 1) ys ≡ remove (take n xs) i
closed_front {X} xs ys n i ln li same low high =
    let size : length (take n xs) ≡ n = length-take-le n xs ln in
    let fits : i < length (take n xs) = omega arith in
    let count : length (take (n - 1) ys) ≡ n - 1 = length-take-le (n - 1) ys (omega arith) in
    same_lists (take (n - 1) ys) (remove (take n xs) i) (omega (arith, count, length-remove (take n xs) i fits))
    (λ k d h.
    let hk : k < n - 1 = omega arith in
    get_or-take (n - 1) ys k d hk ∙
    elim (cases_lt k i) [
      | inl b ↦ low k d b ∙ sym (get_or-remove_below (take n xs) i d k b fits ∙ get_or-take n xs k d (omega arith))
      | inr a ↦ high k d a hk ∙ sym (get_or-remove_above (take n xs) i d k a fits ∙ get_or-take n xs (k + 1) d (omega arith))
    ])

pub moved_down : {X : Type 0} (xs ys : List X) (n i : ℕ) → n ≤ length xs → i < n → length ys ≡ length xs
    → ((j : ℕ) (d : X) → j < i → get_or ys j d ≡ get_or xs j d)
    → ((j : ℕ) (d : X) → i ≤ j → j < n - 1 → get_or ys j d ≡ get_or xs (j + 1) d)
    → ((j : ℕ) (d : X) → n - 1 ≤ j → get_or ys j d ≡ get_or xs j d)
    → ys ≡ remove (take n xs) i ++ drop (n - 1) xs
moved_down {X} xs ys n i ln li same low high past =
    sym (take-append-drop (n - 1) ys)
    ∙ ap (λ (f : List X). f ++ drop (n - 1) ys) (closed_front xs ys n i ln li same low high)
    ∙ ap (λ (b : List X). remove (take n xs) i ++ b) (same_tails xs ys (n - 1) same past)

-- the rows in use afterwards, and how many places there are
pub opened_held : {X : Type 0} (xs : List X) (n i : ℕ) (row : X) → n < length xs → i ≤ n → take (n + 1) (insert (take n xs) i row ++ drop (n + 1) xs) ≡ insert (take n xs) i row
opened_held xs n i row ln li =
    let size : length (take n xs) ≡ n = length-take-le n xs (omega arith) in
    take_at (insert (take n xs) i row) (drop (n + 1) xs) (n + 1) (length-insert (take n xs) i row (omega arith) ∙ ap (λ (k : ℕ). k + 1) size)

pub opened_size : {X : Type 0} (xs : List X) (n i : ℕ) (row : X) → n < length xs → i ≤ n → length (insert (take n xs) i row ++ drop (n + 1) xs) ≡ length xs
opened_size xs n i row ln li =
    let size : length (take n xs) ≡ n = length-take-le n xs (omega arith) in
    omega (arith, length-append (insert (take n xs) i row) (drop (n + 1) xs), length-insert (take n xs) i row (omega arith), length-drop (n + 1) xs)

pub closed_held : {X : Type 0} (xs : List X) (n i : ℕ) → n ≤ length xs → i < n → take (n - 1) (remove (take n xs) i ++ drop (n - 1) xs) ≡ remove (take n xs) i
closed_held xs n i ln li =
    let size : length (take n xs) ≡ n = length-take-le n xs ln in
    take_at (remove (take n xs) i) (drop (n - 1) xs) (n - 1) (omega (arith, length-remove (take n xs) i (omega arith)))

pub closed_size : {X : Type 0} (xs : List X) (n i : ℕ) → n ≤ length xs → i < n → length (remove (take n xs) i ++ drop (n - 1) xs) ≡ length xs
closed_size xs n i ln li =
    let size : length (take n xs) ≡ n = length-take-le n xs ln in
    omega (arith, length-append (remove (take n xs) i) (drop (n - 1) xs), length-remove (take n xs) i (omega arith), length-drop (n - 1) xs)
