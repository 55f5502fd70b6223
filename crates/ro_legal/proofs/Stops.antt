-- Where a thread stands, as its replica is copied and is given effects.
use Rattle.std.specs.Prelude.{◌≡◌, ◌≢◌, ℕ, zero, suc, ◌≤◌, Bool, true, false, ◌&&◌, if◌then◌else◌, List, [], ◌∷◌, ◌++◌, length, map, Option, Some, None, is_some, slice_get}
use Rattle.std.specs.Option.{option_and_then}
use Rattle.std.proofs.Common.{refl, ap, ◌∙◌, arith}
use Rattle.std.proofs.lemmas.Option.{slice_get_past}
use Rattle.ro_event.specs.declared.effects.Made.{Made}
use Rattle.ro_event.specs.declared.stops.Stop.{Stop}
use Rattle.ro_event.specs.Effects.{Effect}
use Rattle.ro_exec.specs.Next.{Backed}
use Rattle.ro_thread.specs.declared.Thread.{Thread}
use Rattle.ro_replica.specs.Replica.{Replica, changed_at, thread_after, with_made, applied, is_cancelled, without_cancelled, cancelled, copied_threads, stop_of}
use Rattle.ro_legal.proofs.Lists.{changed-other}

-- the stop of a thread in a list
abbrev pub stop_in : List Thread → (thread : ℕ) → Option Stop
stop_in threads thread = option_and_then (λ t. t.stop) (slice_get threads thread)

-- a thread that was not made does not stand still
pub past-none : (replica : Replica) (thread : ℕ) → length replica.threads ≤ thread → is_some (stop_of replica thread) ≡ false
past-none replica thread past = ap (λ (o : Option Thread). is_some (option_and_then (λ (t : Thread). t.stop) o)) (slice_get_past replica.threads thread past)

pub copied-stop : (winners losers : List Thread) (thread : ℕ) → length winners ≡ length losers → stop_in (copied_threads winners losers) thread ≡ stop_in winners thread
copied-stop [] losers thread n = refl
copied-stop (w ∷ winners) [] thread n = absurd (omega arith)
copied-stop (w ∷ winners) (l ∷ losers) zero n = refl
copied-stop (w ∷ winners) (l ∷ losers) (suc thread) n = copied-stop winners losers thread (omega arith)

made-stop : (made : Option Made) (threads : List Thread) (thread : ℕ) → stop_in (with_made made threads) thread ≡ stop_in threads thread
made-stop None threads thread = refl
made-stop (Some made) [] thread = refl
made-stop (Some made) (t ∷ threads) thread = behind (t ∷ threads) thread _ refl
  where
    behind : (threads : List Thread) (thread : ℕ) (last : Thread) → last.stop ≡ None → stop_in (threads ++ last ∷ []) thread ≡ stop_in threads thread
    behind [] zero last e = e
    behind [] (suc thread) last e = refl
    behind (x ∷ threads) zero last e = refl
    behind (x ∷ threads) (suc thread) last e = behind threads thread last e

-- the thread of an effect
own-stop : (effect : Effect) (threads : List Thread) (place : ℕ) → stop_in (changed_at (thread_after effect) threads place) place ≡ (if effect.releases then None else stop_in threads place)
own-stop effect [] place = same effect.releases None refl
  where
    same : (b : Bool) (o : Option Stop) → o ≡ None → o ≡ (if b then None else o)
    same true o e = e
    same false o e = refl
own-stop effect (t ∷ threads) zero = refl
own-stop effect (t ∷ threads) (suc place) = own-stop effect threads place

pub applied-stop : (effect : Effect) (replica : Replica) (thread : ℕ) → stop_of (applied effect replica) thread ≡ stop_in (changed_at (thread_after effect) replica.threads effect.thread) thread
unfolding applied
applied-stop effect replica thread = made-stop effect.made (changed_at (thread_after effect) replica.threads effect.thread) thread

-- another thread stands as it did
pub applied-other : (effect : Effect) (replica : Replica) (thread : ℕ) → thread ≢ effect.thread → stop_of (applied effect replica) thread ≡ stop_of replica thread
applied-other effect replica thread differs =
    applied-stop effect replica thread ∙ ap (λ (o : Option Thread). option_and_then (λ (t : Thread). t.stop) o) (changed-other (thread_after effect) replica.threads effect.thread thread differs)

pub applied-own : (effect : Effect) (replica : Replica) → stop_of (applied effect replica) effect.thread ≡ (if effect.releases then None else stop_of replica effect.thread)
applied-own effect replica = applied-stop effect replica effect.thread ∙ own-stop effect replica.threads effect.thread

-- a page fault that is settled was a stop
cancelled-stop : (backed : Backed) (threads : List Thread) (thread : ℕ) → (is_some (stop_in threads thread) && is_some (stop_in (map (without_cancelled backed) threads) thread)) ≡ is_some (stop_in (map (without_cancelled backed) threads) thread)
cancelled-stop backed [] thread = refl
cancelled-stop backed (t ∷ threads) zero = by t.stop
  where
    by : (o : Option Stop) → (is_some o && is_some (if is_cancelled backed o then None else o)) ≡ is_some (if is_cancelled backed o then None else o)
    by None = refl
    by (Some stop) = refl
cancelled-stop backed (t ∷ threads) (suc thread) = cancelled-stop backed threads thread

pub settled-stop : (replica : Replica) (thread : ℕ) → (is_some (stop_of replica thread) && is_some (stop_of (cancelled replica) thread)) ≡ is_some (stop_of (cancelled replica) thread)
unfolding cancelled
settled-stop replica thread = cancelled-stop replica.backed replica.threads thread
