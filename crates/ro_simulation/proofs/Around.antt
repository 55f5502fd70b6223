-- A thread's steps among those that a replica has run ahead.
use Rattle.std.specs.Prelude.{◌≡◌, ◌≢◌, ℕ, zero, suc, ◌+◌, ◌<◌, List, [], ◌∷◌, ◌++◌, replicate, Some, None, slice_get, slice_set}
use Rattle.std.proofs.Common.{refl, sym, ap, ◌∙◌, arith, append_assoc}
use Rattle.ro_thread.specs.declared.Thread.{Thread}
use Rattle.ro_plain.proofs.Ahead.{Without, Without-append}
use Rattle.ro_legal.specs.Ideal.{ahead_from}

-- the steps of another thread are not the thread's
pub Without-replicate : (t n x : ℕ) → x ≢ t → Without t (replicate n x)
Without-replicate t zero x h = tt
Without-replicate t (suc n) x h = (h, Without-replicate t n x h)

-- threads of higher numbers run other steps
Without-later : (t k : ℕ) (threads : List Thread) → t < k → Without t (ahead_from k threads)
Without-later t k [] h = tt
Without-later t k (thread ∷ threads) h =
    Without-append t (replicate thread.since k) _ (Without-replicate t thread.since k (λ e. omega arith)) (Without-later t (suc k) threads (omega arith))

-- The steps of thread t, whose number is the last argument, and those before and after them.
pub record Around (k : ℕ) (threads : List Thread) (t number : ℕ) : Type 0 where
  pub front : List ℕ
  pub back : List ℕ
  pub with_set : (thread : Thread) → ahead_from k (slice_set threads t thread) ≡ front ++ (replicate thread.since number ++ back)
  pub front_without : Without number front
  pub back_without : Without number back

-- the steps round those of a thread that was made
pub around : (k : ℕ) (threads : List Thread) (t number : ℕ) (thread : Thread) → slice_get threads t ≡ Some thread → k + t ≡ number → Around k threads t number
around k [] t number thread h e = absurd (let f : None ≡ Some thread = h in cc)
around k (x ∷ threads) zero number thread h e = let same : k ≡ number = omega arith in record {
  front = [];
  back = ahead_from (suc k) threads;
  with_set = λ changed. ap (λ (n : ℕ). replicate changed.since n ++ ahead_from (suc k) threads) same;
  front_without = tt;
  back_without = Without-later number (suc k) threads (omega arith);
}
around k (x ∷ threads) (suc t) number thread h e =
    let later = around (suc k) threads t number thread h (omega arith) in record {
      front = replicate x.since k ++ later.front;
      back = later.back;
      with_set = λ changed. ap (λ (r : List ℕ). replicate x.since k ++ r) (later.with_set changed) ∙ sym (append_assoc (replicate x.since k) later.front _);
      front_without = Without-append number (replicate x.since k) later.front (Without-replicate number x.since k (λ f. omega arith)) later.front_without;
      back_without = later.back_without;
    }

-- what a thread ran last can stand first: its copies before the steps behind them
pub replicate-last : (n t : ℕ) → replicate (suc n) t ≡ replicate n t ++ t ∷ []
replicate-last zero t = refl
replicate-last (suc n) t = ap {B = List _} (λ r. t ∷ r) (replicate-last n t)
