-- What an effect does to a replica's threads.
use Rattle.std.specs.Prelude.{◌≡◌, ℕ, zero, suc, ◌<◌, ◌≤◌, ◌||◌, Bool, List, [], ◌∷◌, length, map, Option, Some, None}
use Rattle.std.specs.List.{All}
use Rattle.std.specs.Option.{IfSome}
use Rattle.std.proofs.Common.{refl, subst, sym, ap, ◌∙◌, arith, get_or, set}
use Rattle.std.proofs.lemmas.List.{length-map, length_push}
use Rattle.std.proofs.lemmas.List.Elements.{All-same, All-set, All-push, All-map, All-cons, All-head, All-tail}
use Rattle.ro_event.specs.declared.effects.Made.{Made}
use Rattle.ro_event.specs.Effects.{Effect}
use Rattle.ro_faults.specs.declared.Fault.{Fault}
use Rattle.ro_pages.specs.Bytes.{stored, covers_page}
use Rattle.ro_thread.specs.declared.Thread.{Thread}
use Rattle.ro_exec.specs.Threads.{made_cpu}
use Rattle.ro_replica.specs.Replica.{Replica, unstopped, creator_of, changed_at, thread_after, with_made, without_cancelled, is_page, applied, cancelled}
use Rattle.ro_replica.specs.Seen.{IsReplica}

-- one element is changed
changed_at-set : {X : Type 0} (f : X → X) (xs : List X) (i : ℕ) (x y : X) → i < length xs → x ≡ get_or xs i x → y ≡ f x → set xs i y ≡ changed_at f xs i
changed_at-set f [] i x y l e h = absurd (omega arith)
changed_at-set f (z ∷ xs) zero x y l e h = ap (λ v. v ∷ xs) (h ∙ ap f e)
changed_at-set f (z ∷ xs) (suc i) x y l e h = ap (λ vs. z ∷ vs) (changed_at-set f xs i x y (omega arith) e h)

-- the threads after an effect
abbrev pub threads_after : Effect → (ℕ → Bool) → List Thread → List Thread
threads_after effect backed threads = map (without_cancelled backed) (with_made effect.made (changed_at (thread_after effect) threads effect.thread))

-- the threads as they are left when each step was done in turn
pub threads_left : (effect : Effect) (backed : ℕ → Bool) (old made mid new left : List Thread) (i : ℕ) (x y : Thread) (o : Option Made) → i < length old → x ≡ get_or old i x → y ≡ thread_after effect x → i ≡ effect.thread → o ≡ effect.made
    → made ≡ with_made o (set old i y) → mid ≡ made → new ≡ map (without_cancelled backed) mid → left ≡ new → left ≡ threads_after effect backed old
threads_left effect backed old made mid new left i x y o l e changed number maker makes is settles stays =
    stays ∙ settles
    ∙ ap (map (without_cancelled backed)) (is ∙ makes ∙ ap (with_made o) (changed_at-set (thread_after effect) old i x y l e changed ∙ ap (changed_at (thread_after effect) old) number) ∙ ap (λ m. with_made m (changed_at (thread_after effect) old effect.thread)) maker)

length-changed_at : (f : Thread → Thread) (threads : List Thread) (i : ℕ) → length (changed_at f threads i) ≡ length threads
length-changed_at f [] i = refl
length-changed_at f (t ∷ threads) zero = refl
length-changed_at f (t ∷ threads) (suc i) = ap (λ n. suc n) (length-changed_at f threads i)

watched_changed : (watchdog : ℕ) (effect : Effect) (threads : List Thread) (i : ℕ) → All (λ t. t.since ≤ watchdog) threads → All (λ t. t.since ≤ watchdog) (changed_at (thread_after effect) threads i)
watched_changed watchdog effect [] i h = h
watched_changed watchdog effect (t ∷ threads) zero h = All-set (λ t. t.since ≤ watchdog) (t ∷ threads) 0 (thread_after effect t) (omega arith) h
watched_changed watchdog effect (t ∷ threads) (suc i) h =
    All-cons (λ t. t.since ≤ watchdog) t _ (All-head (λ t. t.since ≤ watchdog) t threads h) (watched_changed watchdog effect threads i (All-tail (λ t. t.since ≤ watchdog) t threads h))

watched_made : (watchdog : ℕ) (made : Option Made) (threads : List Thread) → All (λ t. t.since ≤ watchdog) threads → All (λ t. t.since ≤ watchdog) (with_made made threads)
watched_made watchdog None threads h = h
watched_made watchdog (Some made) [] h = h
watched_made watchdog (Some made) (t ∷ threads) h = All-push (λ t. t.since ≤ watchdog) (t ∷ threads) _ h (omega arith)

count_made : (made : Option Made) (threads : List Thread) → length threads ≤ 16 → IfSome made (λ m. (m.creator < length threads) × (length threads < 16)) → (length threads ≤ length (with_made made threads)) × (length (with_made made threads) ≤ 16)
count_made None threads few h = (omega arith, few)
count_made (Some made) [] few h = (omega arith, few)
count_made (Some made) (t ∷ threads) few h =
    let long = length_push (t ∷ threads) (unstopped (made_cpu made (creator_of made (t ∷ threads) t) (length (t ∷ threads)))) in
    (omega (arith, long), omega (arith, long, h.1))

-- what holds of a replica holds of it after an effect
pub holds_after : (watchdog places more : ℕ) (waiting : List Fault) (effect : Effect) (backed : ℕ → Bool) (old new : List Thread) → new ≡ threads_after effect backed old → places ≤ more → IfSome effect.made (λ m. (m.creator < length old) × (length old < 16)) → IsReplica watchdog old places waiting → IsReplica watchdog new more waiting
holds_after watchdog places more waiting effect backed old new e room made h =
    let changed : List Thread = changed_at (thread_after effect) old effect.thread in
    let long : length changed ≡ length old = length-changed_at (thread_after effect) old effect.thread in
    let counts = count_made effect.made changed (omega (arith, h.few)) (subst (λ (n : ℕ). IfSome effect.made (λ m. (m.creator < n) × (n < 16))) (sym long) made) in
    let same : length new ≡ length (with_made effect.made changed) = ap length e ∙ length-map (with_made effect.made changed) (without_cancelled backed) in
    record {
      first = omega (arith, h.first, counts.0);
      few = omega (arith, counts.1);
      room = omega (arith, h.room);
      watched = All-same (λ t. t.since ≤ watchdog) new _ e (All-map (λ t. t.since ≤ watchdog) (without_cancelled backed) (with_made effect.made changed) (watched_made watchdog effect.made changed (watched_changed watchdog effect old effect.thread h.watched)));
      faults = h.faults;
    }

-- a replica of such parts is as the effect leaves it
pub applies : (effect : Effect) (old new : Replica) → new.memory ≡ stored old.memory effect.place effect.bytes → new.backed ≡ (λ page. old.backed page || is_page effect.page page || covers_page (record { place = effect.place; count = length effect.bytes }) page) → new.threads ≡ threads_after effect new.backed old.threads → new.waiting ≡ old.waiting → new ≡ cancelled (applied effect old)
unfolding applied cancelled
applies effect old new memory backed threads waiting =
    let same = threads ∙ ap (λ b. threads_after effect b old.threads) backed in
    λ i. record { memory = memory i; backed = backed i; threads = same i; waiting = waiting i }
