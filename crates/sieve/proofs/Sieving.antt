-- A sieve's calls keep what it holds.
use Rattle.std.specs.Prelude.{◌≡◌, ℕ, ◌+◌, ◌%◌, ◌^◌, ◌<◌, List, length, replicate, Some, None, Ok, Option, slice_index_or, refl}
use Rattle.std.proofs.Common.{ap, ◌∙◌, arith}
use Rattle.std.proofs.lemmas.List.{length-replicate}
use Rattle.fields.specs.declared.faults.Fault.{Fault}
use Rattle.fields.specs.Faults.{answer}
use Rattle.parts.specs.Meaning.{Meaning, meaning, Proper, nothing, put, asked_once}
use Rattle.stores.specs.declared.pairs.Pair.{Pair}
use Rattle.sieve.specs.Touched.{slots}
use Rattle.sieve.specs.Counted.{one_more, one_fewer, change_all}
use Rattle.sieve.specs.Sieved.{Sieved}
use Rattle.sieve.proofs.Counting.{counts_set, counts_clear, length_changed, nothing_counted}

pub answer_value : {A : Type 0} (o : Option Fault) (a b : A) → Ok b ≡ answer o a → b ≡ a
answer_value None a b e = cc
answer_value (Some f) a b e = cc

module _ {B : Type 0} (shows : B → Meaning Pair → Type 0) (proper : (s : B) (m : Meaning Pair) → shows s m → Proper m) where
  pub nothing_sieved : (below : B) → shows below nothing → Sieved shows below (replicate 512 0) 0 nothing
  nothing_sieved below h = record {
    asked_below = 0;
    holds = h;
    counters_size = length-replicate {A = ℕ} 512 0;
    counts = nothing_counted;
    asked_is = refl;
    counted = omega arith;
  }

  pub sieved_size : (below : B) (cs : List ℕ) (asked : ℕ) (m : Meaning Pair) → Sieved shows below cs asked m → length m.places ≡ 96
  sieved_size below cs asked m h = (proper below (meaning m.places h.asked_below) h.holds).size

  pub sieved_set : (below below' : B) (cs : List ℕ) (asked : ℕ) (m : Meaning Pair) (h : Sieved shows below cs asked m) (l : ℕ) (v : Pair) → l < 96 → slice_index_or m.places l None ≡ None
      → shows below' (put (meaning m.places h.asked_below) l (Some v)) → Sieved shows below' (change_all one_more (slots v) cs) asked (put m l (Some v))
  sieved_set below below' cs asked m h l v b free s = record {
    asked_below = h.asked_below;
    holds = s;
    counters_size = length_changed one_more (slots v) cs ∙ h.counters_size;
    counts = counts_set cs m.places h.counters_size h.counts l v (sieved_size below cs asked m h) b free;
    asked_is = h.asked_is;
    counted = h.counted;
  }

  pub sieved_clear : (below below' : B) (cs : List ℕ) (asked : ℕ) (m : Meaning Pair) (h : Sieved shows below cs asked m) (l : ℕ) (v : Pair) → slice_index_or m.places l None ≡ Some v
      → shows below' (put (meaning m.places h.asked_below) l None) → Sieved shows below' (change_all one_fewer (slots v) cs) asked (put m l None)
  sieved_clear below below' cs asked m h l v full s = record {
    asked_below = h.asked_below;
    holds = s;
    counters_size = length_changed one_fewer (slots v) cs ∙ h.counters_size;
    counts = counts_clear cs m.places h.counters_size h.counts l v full;
    asked_is = h.asked_is;
    counted = h.counted;
  }

  -- one question more, whether or not the store below was asked
  pub sieved_asked : (below below' : B) (cs : List ℕ) (asked : ℕ) (m : Meaning Pair) → Sieved shows below cs asked m → (n : ℕ) → shows below' (meaning m.places n) → Sieved shows below' cs ((asked + 1) % 2 ^ 32) (asked_once m)
  sieved_asked below below' cs asked m h n s = record {
    asked_below = n;
    holds = s;
    counters_size = h.counters_size;
    counts = h.counts;
    asked_is = ap (λ (k : ℕ). (k + 1) % 2 ^ 32) h.asked_is;
    counted = omega arith;
  }
