-- The marks that are set, and lists written from their start.
use Rattle.std.proofs.Common.{◌≡◌, ℕ, zero, suc, ◌+◌, ◌<◌, ◌≤◌, Bool, true, false, cond, List, [], ◌∷◌, ◌++◌, length, get_or, take, drop, set, sym, refl, ap, ◌∙◌, subst, append_assoc, append-nil, arith, length-append, drop-cons}
use Rattle.std.specs.List.{AllByRecursion}
use Rattle.std.proofs.ByRecursion.{All-get_or, All-weaker}
use Rattle.std.proofs.lemmas.List.{take_more, take_at, set_at, length-take-le, get_or_default}
use Rattle.parts.specs.Marks.{marked, marked_from, over_start, ListsMarked}

-- one more at the end
marked_push : (k : ℕ) (ms : List Bool) (m : Bool) → marked_from k (ms ++ m ∷ []) ≡ marked_from k ms ++ cond m ((k + length ms) ∷ []) []
marked_push k [] true = ap (λ (n : ℕ). n ∷ []) (omega arith)
marked_push k [] false = refl
marked_push k (true ∷ ms) m = ap (λ (l : List ℕ). k ∷ l) (marked_push (k + 1) ms m ∙ ap (λ (n : ℕ). marked_from (k + 1) ms ++ cond m (n ∷ []) []) (omega arith))
marked_push k (false ∷ ms) m = marked_push (k + 1) ms m ∙ ap (λ (n : ℕ). marked_from (k + 1) ms ++ cond m (n ∷ []) []) (omega arith)

marked_more : (ms : List Bool) (i : ℕ) → i < length ms → marked (take (i + 1) ms) ≡ marked (take i ms) ++ cond (get_or ms i false) (i ∷ []) []
marked_more ms i h =
    let l : length (take i ms) ≡ i = length-take-le i ms (omega arith) in
    ap marked (take_more ms i false h) ∙ marked_push 0 (take i ms) (get_or ms i false) ∙ ap (λ (n : ℕ). marked (take i ms) ++ cond (get_or ms i false) (n ∷ []) []) (omega arith)

-- writing one more
over_more : (xs ys : List ℕ) (x : ℕ) → length xs < length ys → set (over_start xs ys) (length xs) x ≡ over_start (xs ++ x ∷ []) ys
over_more xs ys x h =
    ap (λ (zs : List ℕ). set (xs ++ zs) (length xs) x) (drop-cons ys (length xs) 0 h)
    ∙ set_at xs (get_or ys (length xs) 0) (drop (suc (length xs)) ys) x (length xs) refl
    ∙ sym (append_assoc xs (x ∷ []) (drop (suc (length xs)) ys))
    ∙ (let e : suc (length xs) ≡ length (xs ++ x ∷ []) = omega (arith, length-append xs (x ∷ [])) in ap (λ (n : ℕ). (xs ++ x ∷ []) ++ drop n ys) e)

-- the turn of a loop that writes the labels that are marked
pub turn_set : (ms : List Bool) (i n : ℕ) (old list : List ℕ) → i < length ms → get_or ms i false ≡ true → n ≡ length (marked (take i ms)) → n < length old → list ≡ over_start (marked (take i ms)) old
    → (n + 1 ≡ length (marked (take (i + 1) ms))) × (set list n i ≡ over_start (marked (take (i + 1) ms)) old)
turn_set ms i n old list l m e few w =
    let X = marked (take i ms) in
    let more : marked (take (i + 1) ms) ≡ X ++ i ∷ [] = marked_more ms i l ∙ ap (λ (b : Bool). X ++ cond b (i ∷ []) []) m in (
      omega (arith, ap length more, length-append X (i ∷ [])),
      ap (λ (zs : List ℕ). set zs n i) w ∙ ap (λ (k : ℕ). set (over_start X old) k i) e ∙ over_more X old i (omega arith) ∙ ap (λ (zs : List ℕ). over_start zs old) (sym more),
    )

pub turn_kept : (ms : List Bool) (i : ℕ) → i < length ms → get_or ms i false ≡ false → marked (take (i + 1) ms) ≡ marked (take i ms)
turn_kept ms i l m = marked_more ms i l ∙ ap (λ (b : Bool). marked (take i ms) ++ cond b (i ∷ []) []) m ∙ append-nil (marked (take i ms))

-- every label that is written is at least the first place's
above : (i : ℕ) (ms : List Bool) → AllByRecursion (λ l. i ≤ l) (marked_from i ms)
above i [] = tt
above i (true ∷ ms) = (omega arith, All-weaker (λ l. i + 1 ≤ l) (λ l. i ≤ l) (λ l h. omega arith) (marked_from (i + 1) ms) (above (i + 1) ms))
above i (false ∷ ms) = All-weaker (λ l. i + 1 ≤ l) (λ l. i ≤ l) (λ l h. omega arith) (marked_from (i + 1) ms) (above (i + 1) ms)

rising : (k : ℕ) (ms : List Bool) (i j : ℕ) → i < j → j < length (marked_from k ms) → get_or (marked_from k ms) i 0 < get_or (marked_from k ms) j 0
rising k [] i j l w = absurd (omega arith)
rising k (false ∷ ms) i j l w = rising (k + 1) ms i j l w
rising k (true ∷ ms) i zero l w = absurd (omega arith)
rising k (true ∷ ms) zero (suc j) l w = let h = All-get_or (λ n. k + 1 ≤ n) (marked_from (k + 1) ms) j 0 (omega arith) (above (k + 1) ms) in omega arith
rising k (true ∷ ms) (suc i) (suc j) l w = rising (k + 1) ms i j (omega arith) (omega arith)

-- the label at a place of the list is marked
reads : (k : ℕ) (ms : List Bool) (i : ℕ) → i < length (marked_from k ms) → (l : ℕ) × (get_or (marked_from k ms) i 0 ≡ k + l) × (get_or ms l false ≡ true)
reads k [] i w = absurd (omega arith)
reads k (false ∷ ms) i w = let r = reads (k + 1) ms i w in (suc r.0, omega (arith, r.1), r.2)
reads k (true ∷ ms) zero w = (0, omega arith, refl)
reads k (true ∷ ms) (suc i) w = let r = reads (k + 1) ms i (omega arith) in (suc r.0, omega (arith, r.1), r.2)

-- a label that is marked is at a place of the list
finds : (k : ℕ) (ms : List Bool) (l : ℕ) → get_or ms l false ≡ true → (i : ℕ) × (i < length (marked_from k ms)) × (get_or (marked_from k ms) i 0 ≡ k + l)
finds k [] l e = absurd (let z : ◌≡◌ {A = ℕ} 0 1 = cc in omega arith)
finds k (true ∷ ms) zero e = (0, omega arith, omega arith)
finds k (false ∷ ms) zero e = absurd (let z : ◌≡◌ {A = ℕ} 0 1 = cc in omega arith)
finds k (true ∷ ms) (suc l) e = let r = finds (k + 1) ms l e in (suc r.0, omega (arith, r.1), omega (arith, r.2))
finds k (false ∷ ms) (suc l) e = let r = finds (k + 1) ms l e in (r.0, r.1, omega (arith, r.2))

at_any : (xs : List ℕ) (i l : ℕ) → i < length xs → get_or xs i 0 ≡ l → (d : ℕ) → get_or xs i d ≡ l
at_any xs i l w e d = get_or_default xs i d 0 w ∙ e

pub marked_exactly : (ms : List Bool) → ListsMarked ms (marked ms)
marked_exactly ms = record {
  rising = rising 0 ms;
  only = λ l h. let r = reads 0 ms h.0 h.1 in subst (λ (n : ℕ). get_or ms n false ≡ true) (omega (arith, r.1, h.2 0)) r.2;
  all = λ l e. let r = finds 0 ms l e in (r.0, r.1, at_any (marked ms) r.0 l r.1 (omega (arith, r.2)));
}

-- what is read back from the start of a written list
pub take_over : (ls xs : List ℕ) → take (length ls) (over_start ls xs) ≡ ls
take_over ls xs = take_at ls (drop (length ls) xs) (length ls) refl
