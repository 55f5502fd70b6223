-- An answered call is a step, and why a lock waits.
use Rattle.std.specs.Prelude.{◌≡◌, ◌≢◌, ℕ, ◌<◌, Bool, true, false, cond, not, ◌&&◌, ◌==◌, List, [], ◌∷◌, length, Option, Some, None, is_some, slice_get, slice_set, slice_index_or}
use Rattle.std.specs.Option.{option_map_or, option_and_then}
use Rattle.std.proofs.Common.{refl, sym, ap, ◌∙◌, subst}
use Rattle.std.proofs.lemmas.Bool.{eq-eqb, eqb-true}
use Rattle.std.proofs.lemmas.Grind.{get_or-set_at}
use Rattle.std.proofs.lemmas.List.{get_or-set_other}
use mathlib.Core.Path.{fun_ext}
use Rattle.ro_event.specs.declared.calls.Call.{Call}
use Rattle.ro_event.specs.declared.calls.Which.{Which}
use Rattle.ro_event.specs.declared.calls.Which.TheVariants.{Function}
use Rattle.ro_event.specs.declared.functions.Function.TheVariants.{Lock, Unlock}
use Rattle.ro_event.specs.declared.stops.Stop.{Stop}
use Rattle.ro_event.specs.declared.stops.Stop.TheVariants.{Calls, Watchdog}
use Rattle.ro_exec.specs.Next.{Layout, Next, Stands, Executes, next, stop_in}
use Rattle.ro_thread.specs.declared.Thread.{Thread}
use Rattle.ro_replica.specs.Replica.{Replica, changed_at, went_on}
use Rattle.ro_replica.specs.Runs.{standing_in, standing_at}
use Rattle.ro_replica.specs.Seen.{ReplicaOf, replica_of}
use Rattle.ro_replica.proofs.Elements.{changed_is_set}
use Rattle.ro_orders.specs.Turns.{is_lock_or_unlock}
use Rattle.ro_orders.specs.Copies.{Rows}
use Rattle.ro_orders.specs.Answers.{Answers, Waits, answer_by}
use Rattle.ro_peer.specs.declared.answers.Answer.{Answer as Said}
use Rattle.ro_peer.specs.declared.answers.Answer.TheVariants.{Answers as SaysAnswers, Waits as SaysWaits}
use Rattle.ro_peer.specs.declared.mutexes.Mutex.{Mutex}
use Rattle.ro_peer.specs.declared.peers.Peer.{Peer as PeerOf}
use Rattle.ro_peer.specs.declared.running.Came.{Came}
use Rattle.ro_peer.specs.declared.running.Came.TheVariants.{Quantum, Stopped, Owned, Row, Full}
use Rattle.ro_peer.specs.Peers.{Peer, mutex_in, mutex_after, with_mutex, is_got, peer_after, leased_answer, leased_call, leased_next, leased_at, leased}
use Rattle.ro_peer.specs.Gets.{InRows, asker, get_answer, get_call, get_next, get_of, is_own_call}
use Rattle.ro_peer.specs.Seen.{peer_of, said, number_of, by_address}
use Rattle.ro_peer.specs.Leases.{IsAtLock, LockWaits, Meets, Permits}
use Rattle.ro_peer.proofs.Places.{at_its_number, without_number, changed_there}

-- ---- what an answer says

-- a thread that waits stands at a lock of a mutex that another one owns
pub waits_at_lock : (which : Which) (thread : ℕ) (owner : Option ℕ) → is_lock_or_unlock which ≡ true → answer_by which thread owner ≡ Waits → (which ≡ Function Lock) × (other : ℕ) × (owner ≡ Some other) × (other ≢ thread)
waits_at_lock (Function Lock) thread None is e = absurd (cc)
waits_at_lock (Function Lock) thread (Some other) is e = by (other == thread) refl e
  where
    by : (b : Bool) → (other == thread) ≡ b → cond b (Answers None 35) Waits ≡ Waits → (Function Lock ≡ Function Lock) × (x : ℕ) × (Some other ≡ Some x) × (x ≢ thread)
    by true h e = absurd (cc)
    by false h e = (refl, other, refl, λ same. let both : (other == thread) ≡ true = eq-eqb other thread same in let bad : true ≡ false = sym both ∙ h in cc)
waits_at_lock (Function Unlock) thread None is e = absurd (cc)
waits_at_lock (Function Unlock) thread (Some other) is e = absurd (by (other == thread) e)
  where
    by : (b : Bool) → cond b (Answers (Some None) 0) (Answers None 1) ≡ Waits → ⊥
    by true e = cc
    by false e = cc
waits_at_lock which thread owner is e = absurd (cc)

-- a thread that gets a mutex stands at a lock of it, and it is free
pub gets_by_lock : (which : Which) (thread : ℕ) (owner : Option ℕ) (change : Option (Option ℕ)) (value : ℕ) → answer_by which thread owner ≡ Answers change value → is_got change ≡ true → (which ≡ Function Lock) × (owner ≡ None)
gets_by_lock (Function Lock) thread None change value e got = (refl, refl)
gets_by_lock (Function Lock) thread (Some other) change value e got = absurd (by (other == thread) e)
  where
    by : (b : Bool) → cond b (Answers None 35) Waits ≡ Answers change value → ⊥
    by true e = let same : None ≡ change = cc in let bad : false ≡ true = ap is_got same ∙ got in cc
    by false e = cc
gets_by_lock (Function Unlock) thread None change value e got = absurd (let same : None ≡ change = cc in let bad : false ≡ true = ap is_got same ∙ got in cc)
gets_by_lock (Function Unlock) thread (Some other) change value e got = absurd (by (other == thread) e)
  where
    by : (b : Bool) → cond b (Answers (Some None) 0) (Answers None 1) ≡ Answers change value → ⊥
    by true e = let same : Some None ≡ change = cc in let bad : false ≡ true = ap is_got same ∙ got in cc
    by false e = let same : None ≡ change = cc in let bad : false ≡ true = ap is_got same ∙ got in cc
gets_by_lock which thread owner change value e got = absurd (cc)

-- ---- the step

-- a thread that stands at a call
stands_next : (layout : Layout) (watchdog thread : ℕ) (replica : Replica) (call : Call) → standing_at layout watchdog replica thread ≡ Some (Calls call)
    → (x : Thread) × (slice_get replica.threads thread ≡ Some x) × ((x.since == watchdog) ≡ false) × (next layout replica.backed replica.memory x.cpu ≡ Stands (Calls call))
stands_next layout watchdog thread replica call stands = by (slice_get replica.threads thread) refl stands
  where
    by : (o : Option Thread) → slice_get replica.threads thread ≡ o → option_and_then (standing_in layout watchdog replica) o ≡ Some (Calls call)
        → (x : Thread) × (slice_get replica.threads thread ≡ Some x) × ((x.since == watchdog) ≡ false) × (next layout replica.backed replica.memory x.cpu ≡ Stands (Calls call))
    by None there e = absurd (cc)
    by (Some x) there e = let parts = at (x.since == watchdog) (next layout replica.backed replica.memory x.cpu) e in (x, there, parts.0, parts.1)
      where
        at : (b : Bool) (n : Next) → cond b (Some Watchdog) (stop_in n) ≡ Some (Calls call) → (b ≡ false) × (n ≡ Stands (Calls call))
        at true n e = absurd (cc)
        at false (Stands stop) e = let same : stop ≡ Calls call = cc in (refl, ap Stands same)
        at false (Executes instr) e = absurd (cc)

-- whoever asks has the row
never_refused : (b : Bool) (number : ℕ) → (b && not (number == number)) ≡ false
never_refused b number = ap (λ (row : Bool). b && not row) (eq-eqb number number refl) ∙ by b
  where
    by : (c : Bool) → (c && false) ≡ false
    by true = refl
    by false = refl

pub answered_step : (layout : Layout) (watchdog thread : ℕ) (peer : Peer) (call : Call) (number : ℕ) (m : Mutex) (change : Option (Option ℕ)) (value : ℕ)
    → standing_at layout watchdog peer.replica thread ≡ Some (Calls call) → is_lock_or_unlock call.which ≡ true → number_of peer.mutexes call.a0 ≡ Some number → slice_get peer.mutexes number ≡ Some m → answer_by call.which thread m.owner ≡ Answers change value
    → (x : Thread) × (slice_get peer.replica.threads thread ≡ Some x) × (leased layout (asker thread) watchdog peer thread ≡ Some (peer_after peer thread x call change value)) × (get_of layout peer thread ≡ get_answer thread call m (Answers change value))
unfolding leased
answered_step layout watchdog thread peer call number m change value stands locks numbered there answers =
    let at = stands_next layout watchdog thread peer.replica call stands in
    let x : Thread = at.0 in
    let rows : Rows = asker thread in
    let own : mutex_in peer.mutexes call.a0 ≡ Some m = at_its_number peer.mutexes call.a0 number m numbered there in (
      x,
      at.1,
      ap (option_and_then (leased_at layout rows watchdog peer thread)) at.1
          ∙ ap (λ (b : Bool). cond b None (leased_next rows peer thread x (next layout peer.replica.backed peer.replica.memory x.cpu))) at.2
          ∙ ap (leased_next rows peer thread x) at.3
          ∙ ap (λ (b : Bool). cond b (leased_call rows peer thread x call (mutex_in peer.mutexes call.a0)) None) locks
          ∙ ap (leased_call rows peer thread x call) own
          ∙ ap (leased_answer rows peer thread x call m) answers
          ∙ ap (λ (b : Bool). cond b None (Some (peer_after peer thread x call change value))) (never_refused (is_got change) thread),
      ap (λ (o : Option Thread). option_map_or (λ t. get_next peer thread (next layout peer.replica.backed peer.replica.memory t.cpu)) o []) at.1
          ∙ ap (get_next peer thread) at.3
          ∙ ap (λ (b : Bool). cond b (get_call thread call (mutex_in peer.mutexes call.a0)) []) locks
          ∙ ap (get_call thread call) own
          ∙ ap (get_answer thread call m) answers,
    )

-- ---- what an answer changes

-- a place that is set to true
set_true : (xs : List Bool) (i t : ℕ) → i < length xs → slice_index_or (slice_set xs i true) t false ≡ cond (t == i) true (slice_index_or xs t false)
set_true xs i t within = by (t == i) refl
  where
    by : (b : Bool) → (t == i) ≡ b → slice_index_or (slice_set xs i true) t false ≡ cond b true (slice_index_or xs t false)
    by true e = get_or-set_at xs i t true false (eqb-true t i e) within
    by false e = get_or-set_other xs i t true false (λ same. let both : (t == i) ≡ true = eq-eqb t i same in let bad : true ≡ false = sym both ∙ e in cc)

pub changed_peer : (old : PeerOf) (replica : ReplicaOf) (mutexes : List Mutex) (thread number : ℕ) (x : Thread) (call : Call) (change : Option (Option ℕ)) (value : ℕ)
    → slice_get old.replica.threads thread ≡ Some x → number_of old.mutexes call.a0 ≡ Some number → thread < length old.answered
    → replica_of replica ≡ record (replica_of old.replica) { threads = changed_at (went_on call thread value) old.replica.threads thread } → mutexes ≡ changed_at (mutex_after change) old.mutexes number
    → peer_after (peer_of old) thread x call change value ≡ peer_of (record { replica = replica; mutexes = mutexes; answered = slice_set old.answered thread true })
changed_peer old replica mutexes thread number x call change value there numbered within is changes =
    let one : record (replica_of old.replica) { threads = slice_set old.replica.threads thread (went_on call thread value x) } ≡ replica_of replica =
    ap (λ (ts : List Thread). record (replica_of old.replica) { threads = ts }) (sym (changed_is_set (went_on call thread value) old.replica.threads thread x there)) ∙ sym is in
    let two : with_mutex old.mutexes call.a0 change ≡ mutexes = sym (changed_there change old.mutexes call.a0 number numbered) ∙ sym changes in
    let answered : ℕ → Bool = λ t. cond (t == thread) true (slice_index_or old.answered t false) in
    let three : answered ≡ (λ t. slice_index_or (slice_set old.answered thread true) t false) = fun_ext (λ t. sym (set_true old.answered thread t within)) in
    ap (λ (r : Replica). record { replica = r; mutexes = with_mutex old.mutexes call.a0 change; answered = answered }) one
    ∙ ap (λ (ms : List Mutex). record { replica = replica_of replica; mutexes = ms; answered = answered }) two
    ∙ ap (λ (f : ℕ → Bool). record { replica = replica_of replica; mutexes = mutexes; answered = f }) three

-- what is got is known to be the thread's
got_rows : (mutexes : List Mutex) (rows : Rows) (thread number : ℕ) (call : Call) (m : Mutex) (change : Option (Option ℕ)) (value : ℕ) → number_of mutexes call.a0 ≡ Some number → Permits rows change number m.rank thread None → InRows (by_address mutexes rows) (get_answer thread call m (Answers change value))
got_rows mutexes rows thread number call m change value numbered permits = by (is_got change) refl
  where
    by : (b : Bool) → is_got change ≡ b → InRows (by_address mutexes rows) (cond b (record { mutex = call.a0; rank = m.rank; thread = thread } ∷ []) [])
    by true got = (ap (option_and_then (λ number. rows number m.rank)) numbered ∙ (permits got).1, tt)
    by false got = tt

pub meets_answered : (layout : Layout) (watchdog thread : ℕ) (rows : Rows) (old : PeerOf) (replica : ReplicaOf) (mutexes : List Mutex) (call : Call) (number : ℕ) (m : Mutex) (change : Option (Option ℕ)) (value : ℕ)
    → standing_at layout watchdog (replica_of old.replica) thread ≡ Some (Calls call) → is_lock_or_unlock call.which ≡ true → number_of old.mutexes call.a0 ≡ Some number → slice_get old.mutexes number ≡ Some m → answer_by call.which thread m.owner ≡ Answers change value
    → thread < length old.answered → Permits rows change number m.rank thread None
    → replica_of replica ≡ record (replica_of old.replica) { threads = changed_at (went_on call thread value) old.replica.threads thread } → mutexes ≡ changed_at (mutex_after change) old.mutexes number
    → Meets layout watchdog thread rows (peer_of old) (peer_of (record { replica = replica; mutexes = mutexes; answered = slice_set old.answered thread true })) None
meets_answered layout watchdog thread rows old replica mutexes call number m change value stands locks numbered there answers within permits is changes =
    let step = answered_step layout watchdog thread (peer_of old) call number m change value stands locks numbered there answers in (
      step.2 ∙ ap Some (changed_peer old replica mutexes thread number step.0 call change value step.1 numbered within is changes),
      subst (InRows (by_address old.mutexes rows)) (sym step.3) (got_rows old.mutexes rows thread number call m change value numbered permits),
    )

-- ---- locks that wait

pub meets_owned : (layout : Layout) (watchdog thread : ℕ) (peer : Peer) (call : Call) (number : ℕ) (m : Mutex)
    → standing_at layout watchdog peer.replica thread ≡ Some (Calls call) → is_lock_or_unlock call.which ≡ true → number_of peer.mutexes call.a0 ≡ Some number → slice_get peer.mutexes number ≡ Some m → answer_by call.which thread m.owner ≡ Waits
    → LockWaits layout watchdog thread peer (Owned number)
meets_owned layout watchdog thread peer call number m stands locks numbered there waits =
    let why = waits_at_lock call.which thread m.owner locks waits in
    (m, record { call = call; standing = stands; locks = why.0; own = at_its_number peer.mutexes call.a0 number m numbered there; numbered = numbered }, why.1, why.2, why.3)

pub meets_refused : (layout : Layout) (watchdog thread : ℕ) (rows : Rows) (peer : Peer) (call : Call) (number : ℕ) (m : Mutex) (change : Option (Option ℕ)) (value : ℕ) (came : Option Came)
    → standing_at layout watchdog peer.replica thread ≡ Some (Calls call) → number_of peer.mutexes call.a0 ≡ Some number → slice_get peer.mutexes number ≡ Some m → answer_by call.which thread m.owner ≡ Answers change value
    → Permits rows change number m.rank thread came → is_some came ≡ true → Meets layout watchdog thread rows peer peer came
meets_refused layout watchdog thread rows peer call number m change value came stands numbered there answers permits some = by came permits some
  where
    at_lock : is_got change ≡ true → IsAtLock layout watchdog thread peer number m
    at_lock got = record { call = call; standing = stands; locks = (gets_by_lock call.which thread m.owner change value answers got).0; own = at_its_number peer.mutexes call.a0 number m numbered there; numbered = numbered }

    free : is_got change ≡ true → m.owner ≡ None
    free got = (gets_by_lock call.which thread m.owner change value answers got).1

    by : (came : Option Came) → Permits rows change number m.rank thread came → is_some came ≡ true → Meets layout watchdog thread rows peer peer came
    by None permits some = absurd (cc)
    by (Some (Row at)) permits some = (refl, subst (λ (n : ℕ). LockWaits layout watchdog thread peer (Row n)) (sym permits.0) (m, at_lock permits.1, free permits.1, permits.2))
    by (Some (Full at)) permits some = (refl, subst (λ (n : ℕ). LockWaits layout watchdog thread peer (Full n)) (sym permits.0) (m, at_lock permits.1, free permits.1, permits.2))
    by (Some Quantum) permits some = absurd permits
    by (Some (Stopped stop)) permits some = absurd permits
    by (Some (Owned at)) permits some = absurd permits

-- an answer that is none waits
pub says_waits : (s : Said) → ((change : Option (Option ℕ)) (value : ℕ) → s ≡ SaysAnswers change value → ⊥) → said s ≡ Waits
says_waits SaysWaits other = refl
says_waits (SaysAnswers change value) other = absurd (other change value refl)

-- a call on a mutex without a number is none of the peer's own
pub not_own : (mutexes : List Mutex) (stop : Stop) (call : Call) → stop ≡ Calls call → number_of mutexes call.a0 ≡ None → is_own_call mutexes stop ≡ false
not_own mutexes stop call is none = ap (is_own_call mutexes) is ∙ ap (λ (o : Option Mutex). is_lock_or_unlock call.which && is_some o) (without_number mutexes call.a0 none) ∙ by (is_lock_or_unlock call.which)
  where
    by : (b : Bool) → (b && false) ≡ false
    by true = refl
    by false = refl

pub none_is : (came : Option Came) → is_some came ≡ false → came ≡ None
none_is None e = refl
none_is (Some came) e = absurd (cc)
