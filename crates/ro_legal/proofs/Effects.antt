-- What an effect leaves of a replica.
use Rattle.std.specs.Prelude.{◌≡◌, ℕ, ◌+◌, ◌<◌, ◌≤◌, ◌⊎◌, ◌||◌, List, [], ◌∷◌, length, map, Option, Some, None, slice_get}
use Rattle.std.proofs.Common.{sym, ap, ◌∙◌, subst, arith, inl, inr, length-append}
use Rattle.ro_event.specs.declared.effects.Made.{Made}
use Rattle.ro_event.specs.Effects.{Effect}
use Rattle.ro_pages.specs.Bytes.{covers_page}
use Rattle.ro_exec.specs.Next.{Backed}
use Rattle.ro_exec.specs.Threads.{made_cpu}
use Rattle.ro_thread.specs.declared.Thread.{Thread}
use Rattle.ro_replica.specs.Replica.{Replica, unstopped, changed_at, thread_after, creator_of, with_made, is_page, applied, without_cancelled, cancelled}
use Rattle.ro_legal.specs.Core.{Job, Core}
use Rattle.ro_legal.specs.Sound.{IsSound}
use Rattle.ro_legal.proofs.Lists.{ChangedFrom, unchanged, changed_here, get-changed, length-changed, MappedFrom, get-map, length-mapped, get-append-cases}
use Rattle.ro_legal.proofs.Served.{made_count}

-- the pages that are backed after an effect
abbrev pub backed_after : Effect → Backed → Backed
backed_after effect backed = λ page. backed page || is_page effect.page page || covers_page (record { place = effect.place; count = length effect.bytes }) page

-- the threads after an effect, before page faults are forgotten
abbrev pub threads_after : Effect → List Thread → List Thread
threads_after effect threads = with_made effect.made (changed_at (thread_after effect) threads effect.thread)

-- an effect makes one thread or none
length-made : (made : Option Made) (threads : List Thread) → 0 < length threads → length (with_made made threads) ≡ length threads + made_count made
length-made None threads h = omega arith
length-made (Some made) [] h = absurd (omega arith)
length-made (Some made) (thread ∷ threads) h = length-append (thread ∷ threads) _

-- an effect keeps what holds of every replica
pub sound-applied : (job : Job) (core after : Core) (backed : Backed) (number : ℕ) (replica : Replica) (effect : Effect) → length after.kernel.lives ≡ length core.kernel.lives + made_count effect.made → 0 < length core.kernel.lives → IsSound job core backed number replica → IsSound job after (backed_after effect backed) number (cancelled (applied effect replica))
unfolding applied cancelled
sound-applied job core after backed number replica effect lives some h = record {
  same_backed = ap (backed_after effect) h.same_backed;
  all_made = all;
  within_watch = λ place thread e. watch place thread (get-map _ (threads_after effect replica.threads) place thread e);
  own_faults = h.own_faults;
}
  where
    same_length : length (changed_at (thread_after effect) replica.threads effect.thread) ≡ length core.kernel.lives
    same_length = length-changed (thread_after effect) replica.threads effect.thread ∙ h.all_made

    all : length (map (without_cancelled (backed_after effect replica.backed)) (threads_after effect replica.threads)) ≡ length after.kernel.lives
    all = length-mapped _ (threads_after effect replica.threads)
        ∙ (length-made effect.made (changed_at (thread_after effect) replica.threads effect.thread) (subst (λ (n : ℕ). 0 < n) (sym same_length) some)
        ∙ (ap (λ (n : ℕ). n + made_count effect.made) same_length ∙ sym lives))

    in_changed : (place : ℕ) (thread : Thread) → ChangedFrom (thread_after effect) replica.threads effect.thread place thread → thread.since ≤ job.settings.watchdog
    in_changed place thread (unchanged d e) = h.within_watch place thread e
    in_changed place thread (changed_here x d e g) = subst (λ (y : Thread). y.since ≤ job.settings.watchdog) g (omega arith)

    in_made : (made : Option Made) (threads : List Thread) → ((place : ℕ) (thread : Thread) → slice_get threads place ≡ Some thread → thread.since ≤ job.settings.watchdog) → (place : ℕ) (thread : Thread) → slice_get (with_made made threads) place ≡ Some thread → thread.since ≤ job.settings.watchdog
    in_made None threads all place thread e = all place thread e
    in_made (Some made) [] all place thread e = absurd (let f : None ≡ Some thread = e in cc)
    in_made (Some made) (x ∷ threads) all place thread e = by (get-append-cases (x ∷ threads) (unstopped (made_cpu made (creator_of made (x ∷ threads) x) (length (x ∷ threads)))) place thread e)
      where
        by : (slice_get (x ∷ threads) place ≡ Some thread) ⊎ ((place ≡ length (x ∷ threads)) × (unstopped (made_cpu made (creator_of made (x ∷ threads) x) (length (x ∷ threads))) ≡ thread)) → thread.since ≤ job.settings.watchdog
        by (inl f) = all place thread f
        by (inr f) = subst (λ (y : Thread). y.since ≤ job.settings.watchdog) f.1 (omega arith)

    watch : (place : ℕ) (thread : Thread) → MappedFrom (without_cancelled (backed_after effect replica.backed)) (threads_after effect replica.threads) place thread → thread.since ≤ job.settings.watchdog
    watch place thread m = subst (λ (y : Thread). y.since ≤ job.settings.watchdog) m.gives
        (in_made effect.made (changed_at (thread_after effect) replica.threads effect.thread) (λ p y e. in_changed p y (get-changed _ replica.threads effect.thread p y e)) place m.from m.there)
