-- No address stands twice in the mutex table of a legal cooperative journal, so that a mutex's rank is that of its address.
use Rattle.std.specs.Prelude.{◌≡◌, ℕ, zero, suc, Bool, true, false, ◌||◌, ◌==◌, cond, if◌then◌else◌, List, [], ◌∷◌, ◌++◌, Option, Some, None, is_some, slice_get}
use Rattle.std.specs.List.{list_any}
use Rattle.std.specs.Option.{option_map, option_map_or}
use Rattle.std.proofs.Common.{refl, sym, ap, ◌∙◌, subst}
use Rattle.std.proofs.lemmas.Bool.{true≢false, eqb-true, eq-eqb}
use Rattle.std.proofs.lemmas.List.{map-append}
use Rattle.ro_event.specs.declared.calls.Call.{Call}
use Rattle.ro_event.specs.declared.stops.Stop.{Stop}
use Rattle.ro_event.specs.declared.stops.Stop.TheVariants.{Calls, Trap, PageFault, Watchdog}
use Rattle.ro_journal.specs.declared.Entry.{Entry}
use Rattle.ro_journal.specs.declared.Entry.TheVariants.{Take, Put, Part, Vote, Free, Scrub, End}
use Rattle.ro_event.specs.Functions.{functions}
use Rattle.ro_mutex.specs.Owners.{Owners, owner_of}
use Rattle.ro_kernel.specs.Kernel.{released}
use Rattle.ro_kernel.specs.Serve.{serve}
use Rattle.ro_plain.specs.Machine.{Program, setup_of}
use Rattle.ro_plain.proofs.Calls.{some-injective}
use Rattle.ro_orders.specs.Choices.{has_otherwise}
use Rattle.ro_peer.specs.declared.mutexes.Mutex.{Mutex}
use Rattle.ro_peer.specs.Peers.{Peer, mutex_in}
use Rattle.ro_peer.specs.Seen.{number_of}
use Rattle.ro_legal.specs.Sides.{Side, rank_in}
use Rattle.ro_legal.specs.Core.{Job, Core}
use Rattle.ro_legal.specs.Core.{opening_core as opening_voted}
use Rattle.ro_legal.specs.Event.{Event, call_event}
use Rattle.ro_legal.specs.Cooperative.{opening_core, core_after_put, core_after_part, kernel_for, settled, voted_event, freed_event, core_after_event, after, IsAllowed, LegalFrom, Legal, replay_from, replay}
use Rattle.ro_legal.specs.Kept.{table_of, addresses_of, cooperative_in}
use Rattle.ro_legal.proofs.Ordered.{event-parts, free-parts, freed-is}
use Rattle.ro_legal.proofs.MutexEvents.{TableAfter, same_table, one_more, StopTable, serve-table, call-table, event-table}

-- ---- lists of addresses

-- none stands twice
abbrev pub AreDistinct : List ℕ → Type 0
AreDistinct [] = Unit {0}
AreDistinct (n ∷ ns) = (list_any (λ m. m == n) ns ≡ false) × AreDistinct ns

-- one that is new comes last
distinct-push : (ns : List ℕ) (a : ℕ) → list_any (λ n. n == a) ns ≡ false → AreDistinct ns → AreDistinct (ns ++ a ∷ [])
distinct-push [] a new h = (refl, tt)
distinct-push (n ∷ ns) a new h = by (n == a) refl new (λ f. distinct-push ns a f h.1)
  where
    another : (ms : List ℕ) → (n == a) ≡ false → list_any (λ m. m == n) ms ≡ false → list_any (λ m. m == n) (ms ++ a ∷ []) ≡ false
    another [] e f = ap (λ (b : Bool). b || false) (by-other (a == n) refl e)
      where
        by-other : (b : Bool) → (a == n) ≡ b → (n == a) ≡ false → b ≡ false
        by-other false g k = refl
        by-other true g k = absurd (true≢false (sym (eq-eqb n a (sym (eqb-true a n g))) ∙ k))
    another (m ∷ ms) e f = rest (m == n) f (another ms e)
      where
        rest : (b : Bool) → (b || list_any (λ m. m == n) ms) ≡ false → (list_any (λ m. m == n) ms ≡ false → list_any (λ m. m == n) (ms ++ a ∷ []) ≡ false) → (b || list_any (λ m. m == n) (ms ++ a ∷ [])) ≡ false
        rest true g k = absurd (true≢false g)
        rest false g k = k g

    by : (b : Bool) → (n == a) ≡ b → (b || list_any (λ m. m == a) ns) ≡ false → (list_any (λ m. m == a) ns ≡ false → AreDistinct (ns ++ a ∷ [])) → AreDistinct (n ∷ ns ++ a ∷ [])
    by true e f more = absurd (true≢false f)
    by false e f more = (another ns e h.0, more f)

-- one that stands there is not another
stands-there : (mutexes : List Mutex) (number a : ℕ) (mutex : Mutex) → slice_get mutexes number ≡ Some mutex → list_any (λ n. n == a) (addresses_of mutexes) ≡ false → (mutex.address == a) ≡ false
stands-there [] number a mutex e f = absurd (let g : None ≡ Some mutex = e in cc)
stands-there (m ∷ mutexes) zero a mutex e f = first (mutex.address == a) (ap (λ (x : Mutex). (x.address == a) || list_any (λ n. n == a) (addresses_of mutexes)) (sym (some-injective e)) ∙ f)
  where
    first : (b : Bool) → (b || list_any (λ n. n == a) (addresses_of mutexes)) ≡ false → b ≡ false
    first true g = absurd (true≢false g)
    first false g = refl
stands-there (m ∷ mutexes) (suc number) a mutex e f = stands-there mutexes number a mutex e (second (m.address == a) f)
  where
    second : (b : Bool) → (b || list_any (λ n. n == a) (addresses_of mutexes)) ≡ false → list_any (λ n. n == a) (addresses_of mutexes) ≡ false
    second true g = absurd (true≢false g)
    second false g = g

other-address : (a b : ℕ) → (b == a) ≡ false → (a == b) ≡ false
other-address a b e = by (a == b) refl
  where
    by : (c : Bool) → (a == b) ≡ c → c ≡ false
    by false f = refl
    by true f = absurd (true≢false (sym (eq-eqb b a (sym (eqb-true a b f))) ∙ e))

-- so each mutex is the one at its address
pub its-rank : (mutexes : List Mutex) (number : ℕ) (mutex : Mutex) → AreDistinct (addresses_of mutexes) → slice_get mutexes number ≡ Some mutex → rank_in mutexes mutex.address ≡ mutex.rank
its-rank [] number mutex h e = absurd (let f : None ≡ Some mutex = e in cc)
its-rank (m ∷ mutexes) zero mutex h e =
    ap (λ (b : Bool). option_map_or (λ (x : Mutex). x.rank) (cond b (Some m) (mutex_in mutexes mutex.address)) 0) (eq-eqb m.address mutex.address (ap (λ (x : Mutex). x.address) (some-injective e)))
    ∙ ap (λ (x : Mutex). x.rank) (some-injective e)
its-rank (m ∷ mutexes) (suc number) mutex h e =
    ap (λ (b : Bool). option_map_or (λ (x : Mutex). x.rank) (cond b (Some m) (mutex_in mutexes mutex.address)) 0) (other-address m.address mutex.address (stands-there mutexes number m.address mutex e h.0))
    ∙ its-rank mutexes number mutex h.1 e

-- and has its place as its number
pub own-number : (mutexes : List Mutex) (number : ℕ) (mutex : Mutex) → AreDistinct (addresses_of mutexes) → slice_get mutexes number ≡ Some mutex → number_of mutexes mutex.address ≡ Some number
own-number [] number mutex h e = absurd (let f : None ≡ Some mutex = e in cc)
own-number (m ∷ mutexes) zero mutex h e =
    ap (λ (b : Bool). cond b (Some 0) (option_map suc (number_of mutexes mutex.address))) (eq-eqb m.address mutex.address (ap (λ (x : Mutex). x.address) (some-injective e)))
own-number (m ∷ mutexes) (suc number) mutex h e =
    ap (λ (b : Bool). cond b (Some 0) (option_map suc (number_of mutexes mutex.address))) (other-address m.address mutex.address (stands-there mutexes number m.address mutex e h.0))
    ∙ ap (option_map suc) (own-number mutexes number mutex h.1 e)

-- ---- the table

in-table : (owners : Owners) (a : ℕ) → is_some (owner_of owners a) ≡ list_any (λ (n : ℕ). n == a) (table_of owners)
in-table [] a = refl
in-table (e ∷ owners) a = by (e.0 == a) (in-table owners a)
  where
    by : (b : Bool) → is_some (owner_of owners a) ≡ list_any (λ (n : ℕ). n == a) (table_of owners) → is_some (cond b (Some e.1) (owner_of owners a)) ≡ (b || list_any (λ (n : ℕ). n == a) (table_of owners))
    by true rest = refl
    by false rest = rest

distinct-call : (before after : Owners) (a : ℕ) → TableAfter before a after → AreDistinct (table_of before) → AreDistinct (table_of after)
distinct-call before after a (same_table e) h = subst AreDistinct (sym e) h
distinct-call before after a (one_more none place owner e) h =
    subst AreDistinct (sym (ap table_of e ∙ map-append (λ (x : ℕ × Option ℕ). x.0) before ((a, owner) ∷ []))) (distinct-push (table_of before) a (sym (in-table before a) ∙ ap is_some none) h)

distinct-stop : (before after : Owners) (stop : Option Stop) → StopTable before stop after → AreDistinct (table_of before) → AreDistinct (table_of after)
distinct-stop before after (Some (Calls call)) table h = distinct-call before after call.a0 table h
distinct-stop before after (Some (PageFault page)) table h = subst (λ (o : Owners). AreDistinct (table_of o)) (sym table) h
distinct-stop before after (Some Watchdog) table h = subst (λ (o : Owners). AreDistinct (table_of o)) (sym table) h
distinct-stop before after (Some (Trap code)) table h = subst (λ (o : Owners). AreDistinct (table_of o)) (sym table) h
distinct-stop before after None table h = subst (λ (o : Owners). AreDistinct (table_of o)) (sym table) h

-- the kernel that serves has the core's table
same-owners : (core : Core) (thread : ℕ) → (kernel_for core thread).owners ≡ core.kernel.owners
same-owners core thread = by (slice_get core.sides 0)
  where
    bit : (b : Bool) → (if b then released core.kernel thread else core.kernel).owners ≡ core.kernel.owners
    bit true = refl
    bit false = refl

    by : (o : Option Side) → (option_map_or (λ (side : Side). if side.answered thread then released core.kernel thread else core.kernel) o core.kernel).owners ≡ core.kernel.owners
    by None = refl
    by (Some side) = bit (side.answered thread)

-- ---- along a journal

abbrev HasDistinct : Core → Type 0
HasDistinct core = AreDistinct (table_of core.kernel.owners)

module _ (job : Job) (core : Core) (h : HasDistinct core) where
  put-distinct : (entry : Option Peer → Core) → ((o : Option Peer) → (entry o).kernel.owners ≡ core.kernel.owners) → (o : Option Peer) → HasDistinct (entry o)
  put-distinct entry same o = subst (λ (w : Owners). AreDistinct (table_of w)) (sym (same o)) h

  from-table : (thread : ℕ) (stop : Option Stop) (event : Event) → StopTable (kernel_for core thread).owners stop event.kernel.owners → AreDistinct (table_of event.kernel.owners)
  from-table thread stop event table = distinct-stop (kernel_for core thread).owners event.kernel.owners stop table (subst (λ (w : Owners). AreDistinct (table_of w)) (sym (same-owners core thread)) h)

  event-distinct : (thread : ℕ) (stop : Option Stop) (o : Option Event) → ((event : Event) → o ≡ Some event → AreDistinct (table_of event.kernel.owners)) → HasDistinct (core_after_event job core thread stop o)
  event-distinct thread stop None each = h
  event-distinct thread stop (Some event) each = each event refl

  vote-distinct : (thread : ℕ) (event : Event) → voted_event job core thread ≡ Some event → AreDistinct (table_of event.kernel.owners)
  vote-distinct thread event comes =
      let p = event-parts job (settled core thread) thread 0 event comes in
      from-table thread (Some p.stop) event (subst (λ (e : Event). StopTable (kernel_for core thread).owners (Some p.stop) e.kernel.owners) p.is (event-table (setup_of job.program) (kernel_for core thread) thread p.stop _))

  free-distinct : (thread : ℕ) (call : Call) → core.blocked thread ≡ Some call → (event : Event) → freed_event job core thread ≡ Some event → AreDistinct (table_of event.kernel.owners)
  free-distinct thread call blocked event e =
      let own : Event = call_event (kernel_for core thread) thread call [] (serve (setup_of job.program) (kernel_for core thread) thread call) in
      let same : own ≡ event = some-injective (sym (freed-is job (settled core thread) thread call blocked) ∙ e) in
      subst (λ (x : Event). AreDistinct (table_of x.kernel.owners)) same
      (from-table thread (Some (Calls call)) own (call-table (kernel_for core thread) thread call [] (serve (setup_of job.program) (kernel_for core thread) thread call) (serve-table (setup_of job.program) (kernel_for core thread) thread call)))

  entry-distinct : (entry : Entry) → IsAllowed job core entry → HasDistinct (after job core entry)
  unfolding after
  entry-distinct (Take lease) may = h
  entry-distinct (Put lease count hit) may = put-distinct (core_after_put job core lease count) put-same _
    where
      put-same : (o : Option Peer) → (core_after_put job core lease count o).kernel.owners ≡ core.kernel.owners
      put-same None = refl
      put-same (Some peer) = refl
  entry-distinct (Part lease count hit) may = put-distinct (core_after_part job core lease count) part-same _
    where
      part-same : (o : Option Peer) → (core_after_part job core lease count o).kernel.owners ≡ core.kernel.owners
      part-same None = refl
      part-same (Some peer) = refl
  entry-distinct (Vote thread count won lost did) may = event-distinct thread _ (voted_event job core thread) (vote-distinct thread)
  entry-distinct (Free thread) may = let p = free-parts job core thread may.may in event-distinct thread _ (freed_event job core thread) (free-distinct thread p.call p.blocked_on)
  entry-distinct (Scrub won lost) may = absurd may
  entry-distinct (End how) may = h

distinct-along : (job : Job) (core : Core) (journal : List Entry) → LegalFrom job core journal → HasDistinct core → HasDistinct (replay_from job core journal)
distinct-along job core [] legal h = h
distinct-along job core (entry ∷ journal) legal h = distinct-along job (after job core entry) journal legal.1 (entry-distinct job core h entry legal.0)

-- in a legal journal no address stands twice
pub table-distinct : (job : Job) (journal : List Entry) → Legal job journal → AreDistinct (table_of (replay job journal).kernel.owners)
unfolding opening_core opening_voted
table-distinct job journal legal = distinct-along job (opening_core job) journal legal tt

pub cooperative-distinct : (program : Program) (owners : Owners) → AreDistinct (table_of owners) → AreDistinct (cooperative_in program owners)
cooperative-distinct program owners h = by (has_otherwise program.image.calls.addresses functions)
  where
    by : (b : Bool) → AreDistinct (if b then [] else table_of owners)
    by true = tt
    by false = h
