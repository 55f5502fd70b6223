-- What a replica has run ahead depends on its threads' counts alone.
use Rattle.std.specs.Prelude.{◌≡◌, ℕ, zero, suc, List, [], ◌∷◌, ◌++◌, map, replicate}
use Rattle.std.proofs.Common.{refl, sym, ap, ap₂, ◌∙◌}
use Rattle.ro_thread.specs.declared.Thread.{Thread}
use Rattle.ro_replica.specs.Replica.{changed_at}
use Rattle.ro_legal.specs.Ideal.{ahead_from}

-- how far each thread has run ahead
abbrev pub counts : List Thread → List ℕ
counts threads = map (λ t. t.since) threads

-- the steps of so many counts
ahead_by : ℕ → List ℕ → List ℕ
ahead_by number [] = []
ahead_by number (count ∷ rest) = replicate count number ++ ahead_by (suc number) rest

-- what was run ahead is given by the counts
by-counts : (number : ℕ) (threads : List Thread) → ahead_from number threads ≡ ahead_by number (counts threads)
unfolding ahead_by
by-counts number [] = refl
by-counts number (thread ∷ threads) = ap (λ (r : List ℕ). replicate thread.since number ++ r) (by-counts (suc number) threads)

-- threads with the same counts have run ahead the same steps
pub same-counts-ahead : (threads others : List Thread) → counts threads ≡ counts others → ahead_from 0 threads ≡ ahead_from 0 others
same-counts-ahead threads others e = by-counts 0 threads ∙ (ap (ahead_by 0) e ∙ sym (by-counts 0 others))

-- a change that keeps its thread's count keeps all
pub counts-changed : (f : Thread → Thread) → ((x : Thread) → (f x).since ≡ x.since) → (threads : List Thread) (t : ℕ) → counts (changed_at f threads t) ≡ counts threads
counts-changed f h [] t = refl
counts-changed f h (x ∷ threads) zero = ap (λ (n : ℕ). n ∷ counts threads) (h x)
counts-changed f h (x ∷ threads) (suc t) = ap {B = List ℕ} (λ (r : List ℕ). x.since ∷ r) (counts-changed f h threads t)

-- a change of every thread that keeps its count keeps all
pub counts-mapped : (f : Thread → Thread) → ((x : Thread) → (f x).since ≡ x.since) → (threads : List Thread) → counts (map f threads) ≡ counts threads
counts-mapped f h [] = refl
counts-mapped f h (x ∷ threads) = ap₂ (λ (n : ℕ) (r : List ℕ). n ∷ r) (h x) (counts-mapped f h threads)

-- a thread that has not run yet adds nothing
pub ahead-new : (number : ℕ) (threads : List Thread) (made : Thread) → made.since ≡ 0 → ahead_from number (threads ++ made ∷ []) ≡ ahead_from number threads
ahead-new number [] made e = ap (λ (n : ℕ). replicate n number ++ []) e
ahead-new number (thread ∷ threads) made e = ap (λ (r : List ℕ). replicate thread.since number ++ r) (ahead-new (suc number) threads made e)
