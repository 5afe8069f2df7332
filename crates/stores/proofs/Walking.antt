-- Chains lead to the pairs that places hold.
use Rattle.std.specs.Prelude.{◌≡◌, ℕ, zero, suc, ◌<◌, ◌≤◌, List, [], ◌∷◌, length, replicate, Some, None, Option, slice_index_or, slice_set, refl}
use Rattle.std.proofs.Common.{sym, ap, subst, ◌∙◌}
use Rattle.std.specs.Option.{option_map}
use Rattle.std.proofs.lemmas.List.{map-set}
use Rattle.parts.specs.Meaning.{find}
use Rattle.stores.specs.declared.chains.Chains.{Chains}
use Rattle.stores.specs.declared.pairs.Pair.{Pair}
use Rattle.stores.specs.Pairs.{same_pair}
use Rattle.stores.specs.Alike.{pair_decides}
use Rattle.stores.specs.Places.{Placed, Free}
use Rattle.stores.specs.Chains.{Linked, Chained, first_holding}
use Rattle.stores.specs.Held.{Walked, keys_of}
use Rattle.stores.proofs.Chaining.{chain_short, chain_finds, at_some}

keys_at : (key : Pair → ℕ) (xs : List (Option Pair)) (p : ℕ) → slice_index_or (keys_of key xs) p None ≡ option_map key (slice_index_or xs p None)
keys_at key [] p = refl
keys_at key (x ∷ xs) zero = refl
keys_at key (x ∷ xs) (suc p) = keys_at key xs p

keys_none : (key : Pair → ℕ) (n : ℕ) → keys_of key (replicate n None) ≡ replicate n None
keys_none key zero = refl
keys_none key (suc n) = ap (λ (xs : List (Option ℕ)). None ∷ xs) (keys_none key n)

module _ (key : Pair → ℕ) (hs ns : List (Option ℕ)) where
  pub chained_none : Chained hs ns (replicate 96 None) → Chained hs ns (keys_of key (replicate 96 None))
  chained_none c = subst (λ (ks : List (Option ℕ)). Chained hs ns ks) (sym (keys_none key 96)) c

  module _ (pairs : List (Option Pair)) (c : Chained hs ns (keys_of key pairs)) where
    pub chained_set : (hs' ns' : List (Option ℕ)) (place : ℕ) (v : Pair) → key v < 96 → Free pairs place v
        → ((keys : List (Option ℕ)) → Chained hs ns keys → key v < 96 → place < 96 → slice_index_or keys place None ≡ None → Chained hs' ns' (slice_set keys place (Some (key v))))
        → Chained hs' ns' (keys_of key (slice_set pairs place (Some v)))
    chained_set hs' ns' place v kb f link = subst (λ (ks : List (Option ℕ)). Chained hs' ns' ks) (sym (map-set (option_map key) pairs place (Some v)))
        (link (keys_of key pairs) c kb f.inside (keys_at key pairs place ∙ ap (option_map key) f.empty))

    pub chained_clear : (hs' ns' : List (Option ℕ)) (place : ℕ) (v : Pair) → slice_index_or pairs place None ≡ Some v
        → ((keys : List (Option ℕ)) → Chained hs ns keys → slice_index_or keys place None ≡ Some (key v) → Chained hs' ns' (slice_set keys place None))
        → Chained hs' ns' (keys_of key (slice_set pairs place None))
    chained_clear hs' ns' place v full unlink = subst (λ (ks : List (Option ℕ)). Chained hs' ns' ks) (sym (map-set (option_map key) pairs place None))
        (unlink (keys_of key pairs) c (keys_at key pairs place ∙ ap (option_map key) full))

-- the walk finds what all places together would
pub walked_find : (key : Pair → ℕ) (s : Chains) (pairs : List (Option Pair)) (v : Pair) (r : Option ℕ) → Placed pairs → Walked key s pairs v r → r ≡ find same_pair pairs v
walked_find key s pairs v r h w =
    w.answer ∙ chain_finds same_pair pair_decides pairs v w.chain.order h.single
    (λ l e. w.chain.exact l ∙ at_some (key v) (key v) (slice_index_or (keys_of key pairs) l None) (keys_at key pairs l ∙ ap (option_map key) e) refl)

pub chained_walk : (key : Pair → ℕ) (s : Chains) (pairs : List (Option Pair)) (v : Pair) (r : Option ℕ) → Chained s.heads s.nexts (keys_of key pairs)
    → ((ps : List ℕ) → Linked s.nexts (slice_index_or s.heads (key v) None) ps → length ps ≤ 96 → r ≡ first_holding same_pair pairs v ps) → Walked key s pairs v r
chained_walk key s pairs v r h w =
    let c = h.chain (key v) in
    record { chain = c; answer = w c.order c.linked (chain_short s.heads s.nexts (keys_of key pairs) (key v) h.keys_size c) }
