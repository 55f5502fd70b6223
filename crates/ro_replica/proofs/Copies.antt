-- Threads that are copied one by one.
use Rattle.std.specs.Prelude.{◌≡◌, ℕ, ◌+◌, ◌<◌, ◌≤◌, List, [], ◌∷◌, ◌++◌, length, take, drop}
use Rattle.std.specs.Prelude.{None}
use Rattle.std.specs.List.{All}
use Rattle.std.proofs.Common.{refl, subst, sym, ap, ap₂, ◌∙◌, arith, get_or, set, append-nil}
use Rattle.std.proofs.lemmas.List.Elements.{All-nil, All-cons, All-head, All-tail, All-same}
use Rattle.std.proofs.lemmas.List.{append_assoc, drop_all, drop_more, drop-set-lt, take_all, take_more_set}
use Rattle.ro_thread.specs.declared.Thread.{Thread}
use Rattle.ro_faults.specs.declared.Fault.{Fault}
use Rattle.ro_pages.specs.Held.{memory_of, has_page}
use Rattle.ro_replica.specs.Replica.{copied_threads, recovered}
use Rattle.ro_replica.specs.Seen.{ReplicaOf, SameProgram, IsReplica, Recovers}

abbrev pub copied : (winner loser : Thread) → Thread
copied winner loser = record winner { done = loser.done }

-- the threads so far, and those that are left
abbrev pub AreCopied : (winners losers so_far : List Thread) → (count : ℕ) → Type 0
AreCopied winners losers so_far count = take count so_far ++ copied_threads (drop count winners) (drop count so_far) ≡ copied_threads winners losers

pub copied_more : (winners losers so_far : List Thread) (i : ℕ) (w l d e : Thread) → i < length winners → i < length so_far → w ≡ get_or winners i d → l ≡ get_or so_far i e → AreCopied winners losers so_far i → AreCopied winners losers (set so_far i (copied w l)) (i + 1)
copied_more winners losers so_far i w l d e m n is was h =
    ap₂ (λ (us vs : List Thread). us ++ copied_threads (drop (i + 1) winners) vs) (take_more_set so_far i (copied w l) n) (drop-set-lt (i + 1) so_far i (copied w l) (omega arith))
    ∙ append_assoc (take i so_far) (copied w l ∷ []) _
    ∙ ap₂ (λ (u v : Thread). take i so_far ++ (copied u v ∷ copied_threads (drop (i + 1) winners) (drop (i + 1) so_far))) is was
    ∙ ap₂ (λ (us vs : List Thread). take i so_far ++ copied_threads us vs) (sym (drop_more winners i d m)) (sym (drop_more so_far i e n))
    ∙ h

pub copied_all : (winners losers so_far : List Thread) (i : ℕ) → length winners ≤ i → length so_far ≤ i → AreCopied winners losers so_far i → so_far ≡ copied_threads winners losers
copied_all winners losers so_far i m n h =
    sym (append-nil so_far)
    ∙ ap (λ us. us ++ []) (sym (take_all i so_far n))
    ∙ ap (λ us. take i so_far ++ copied_threads us (drop i so_far)) (sym (drop_all i winners m))
    ∙ h

-- a thread that stands where none is read
abbrev pub no_thread : Thread
no_thread = record { cpu = record { registers = []; pc = 0 }; since = 0; done = 0; stop = None }

pub length-copied_threads : (winners losers : List Thread) → length winners ≡ length losers → length (copied_threads winners losers) ≡ length losers
length-copied_threads [] [] h = refl
length-copied_threads [] (l ∷ losers) h = h
length-copied_threads (w ∷ winners) [] h = refl
length-copied_threads (w ∷ winners) (l ∷ losers) h = let e = length-copied_threads winners losers (omega arith) in omega (arith, e)

-- no copied thread has run further than the winner's
pub watched_copies : (watchdog : ℕ) (winners losers : List Thread) → All (λ t. t.since ≤ watchdog) winners → All (λ t. t.since ≤ watchdog) (copied_threads winners losers)
watched_copies watchdog [] losers h = All-nil (λ t. t.since ≤ watchdog)
watched_copies watchdog (w ∷ winners) [] h = All-nil (λ t. t.since ≤ watchdog)
watched_copies watchdog (w ∷ winners) (l ∷ losers) h =
    All-cons (λ t. t.since ≤ watchdog) (copied w l) (copied_threads winners losers) (All-head (λ t. t.since ≤ watchdog) w winners h) (watched_copies watchdog winners losers (All-tail (λ t. t.since ≤ watchdog) w winners h))

-- what holds of a replica holds of it with copied threads
pub copied_holds : (watchdog watchdog_too places places_too : ℕ) (waiting waiting_too : List Fault) (winners losers threads : List Thread) → threads ≡ copied_threads winners losers → watchdog_too ≡ watchdog → length winners ≡ length losers → IsReplica watchdog_too winners places_too waiting_too → IsReplica watchdog losers places waiting → IsReplica watchdog threads places waiting
copied_holds watchdog watchdog_too places places_too waiting waiting_too winners losers threads are same long w l =
    let count : length threads ≡ length losers = ap length are ∙ length-copied_threads winners losers long in
    let watched : All (λ t. t.since ≤ watchdog) winners = subst (λ (n : ℕ). All (λ t. t.since ≤ n) winners) same w.watched in
    record {
      first = omega (arith, l.first);
      few = omega (arith, l.few);
      room = l.room;
      watched = All-same (λ t. t.since ≤ watchdog) threads (copied_threads winners losers) are (watched_copies watchdog winners losers watched);
      faults = l.faults;
    }

-- a replica whose parts became the winner's
pub recovers : (winner old new : ReplicaOf) → SameProgram new old → new.held.pages ≡ winner.held.pages → new.held.spare ≡ old.held.spare → new.threads ≡ copied_threads winner.threads old.threads → new.waiting ≡ old.waiting → Recovers winner old new
unfolding recovered
recovers winner old new program pages spare threads waiting =
    record { program = program; recovered = λ i. record { memory = memory_of (pages i); backed = has_page (pages i); threads = threads i; waiting = waiting i }; spare = spare }
