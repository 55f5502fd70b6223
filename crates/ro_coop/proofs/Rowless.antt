-- A journal is legal with rows where it is without them and all that was got has its row.
use Rattle.std.specs.Prelude.{◌≡◌, ℕ, zero, suc, Bool, true, false, not, ◌&&◌, cond, ◌==◌, List, [], ◌∷◌, ◌++◌, Option, Some, None, slice_get}
use Rattle.std.specs.Option.{option_and_then, option_map_or}
use Rattle.std.proofs.Common.{refl, sym, ap, ◌∙◌, subst}
use Rattle.std.proofs.lemmas.Bool.{eqb-true, eq-eqb}
use Rattle.std.proofs.lemmas.Option.{option_and_then_some}
use Rattle.ro_event.specs.declared.calls.Call.{Call}
use Rattle.ro_event.specs.declared.stops.Stop.TheVariants.{Calls, Trap, PageFault, Watchdog}
use Rattle.ro_journal.specs.declared.Lease.{Lease}
use Rattle.ro_journal.specs.declared.Entry.{Entry}
use Rattle.ro_journal.specs.declared.Entry.TheVariants.{Take, Put, Part, Vote, Free, Scrub, End}
use Rattle.ro_exec.specs.Next.{Layout, Next, Stands, Executes, next}
use Rattle.ro_thread.specs.declared.Thread.{Thread}
use Rattle.ro_orders.specs.Turns.{is_lock_or_unlock}
use Rattle.ro_orders.specs.Answers.{Answer, Answers, Waits}
use Rattle.ro_orders.specs.Copies.{Rows}
use Rattle.ro_peer.specs.declared.mutexes.Mutex.{Mutex}
use Rattle.ro_peer.specs.Peers.{Peer, mutex_in, is_row, is_got, leased_answer, leased_call, leased_next, leased_at, leased, leased_run}
use Rattle.ro_peer.specs.Gets.{Get, get_answer, get_call, get_next, get_of, asker, got_in, InRows}
use Rattle.ro_coop.specs.Core.{Job, Core, layout_here, run_in, after_put, after, IsAllowed, LegalFrom}
use Rattle.ro_coop.specs.Rowless.{rows_for, got_by, RowlessFrom, got_from}

pub in-front : (rows : Rows) (xs ys : List Get) → InRows rows (xs ++ ys) → InRows rows xs × InRows rows ys
in-front rows [] ys h = (tt, h)
in-front rows (x ∷ xs) ys h = let rest = in-front rows xs ys h.1 in ((h.0, rest.0), rest.1)

pub in-both : (rows : Rows) (xs ys : List Get) → InRows rows xs → InRows rows ys → InRows rows (xs ++ ys)
in-both rows [] ys h k = k
in-both rows (x ∷ xs) ys h k = (h.0, in-both rows xs ys h.1 k)

-- ---- a step

module _ (layout : Layout) (rows : Rows) (watchdog : ℕ) (peer : Peer) (number : ℕ) where
  is-own-row : is_row (Some number) number ≡ true
  is-own-row = eq-eqb number number refl

  -- with the rows as without, where what is got has its row
  bit-so : (b : Bool) (get : Get) (o : Option Peer) (after : Peer) → get.thread ≡ number → cond (b && not (is_row (Some number) number)) None o ≡ Some after → InRows rows (cond b (get ∷ []) []) → cond (b && not (is_row (rows get.mutex get.rank) number)) None o ≡ Some after
  bit-so true get o after e f k =
      ap (λ (r : Option ℕ). cond (not (is_row r number)) None o) (k.0 ∙ ap Some e) ∙ f
  bit-so false get o after e f k = f

  answer-so : (thread : Thread) (call : Call) (m : Mutex) (answer : Answer) (after : Peer) → leased_answer (asker number) peer number thread call m answer ≡ Some after → InRows rows (get_answer number call m answer) → leased_answer rows peer number thread call m answer ≡ Some after
  answer-so thread call m Waits after e h = e
  answer-so thread call m (Answers change value) after e h = bit-so (is_got change) (record { mutex = call.a0; rank = m.rank; thread = number }) _ after refl e h

  call-so : (thread : Thread) (call : Call) (o : Option Mutex) (after : Peer) → leased_call (asker number) peer number thread call o ≡ Some after → InRows rows (get_call number call o) → leased_call rows peer number thread call o ≡ Some after
  call-so thread call None after e h = e
  call-so thread call (Some m) after e h = answer-so thread call m _ after e h

  which-so : (b : Bool) (thread : Thread) (call : Call) (o : Option Mutex) (after : Peer) → cond b (leased_call (asker number) peer number thread call o) None ≡ Some after → InRows rows (cond b (get_call number call o) []) → cond b (leased_call rows peer number thread call o) None ≡ Some after
  which-so true thread call o after e h = call-so thread call o after e h
  which-so false thread call o after e h = e

  next-so : (thread : Thread) (n : Next) (after : Peer) → leased_next (asker number) peer number thread n ≡ Some after → InRows rows (get_next peer number n) → leased_next rows peer number thread n ≡ Some after
  next-so thread (Executes instr) after e h = e
  next-so thread (Stands (Calls call)) after e h = which-so (is_lock_or_unlock call.which) thread call (mutex_in peer.mutexes call.a0) after e h
  next-so thread (Stands (Trap code)) after e h = e
  next-so thread (Stands (PageFault page)) after e h = e
  next-so thread (Stands Watchdog) after e h = e

  at-so : (thread : Thread) (b : Bool) (n : Next) (after : Peer) → cond b None (leased_next (asker number) peer number thread n) ≡ Some after → InRows rows (get_next peer number n) → cond b None (leased_next rows peer number thread n) ≡ Some after
  at-so thread true n after e h = e
  at-so thread false n after e h = next-so thread n after e h

  thread-so : (o : Option Thread) (after : Peer) → option_and_then (leased_at layout (asker number) watchdog peer number) o ≡ Some after
      → InRows rows (option_map_or (λ thread. get_next peer number (next layout peer.replica.backed peer.replica.memory thread.cpu)) o []) → option_and_then (leased_at layout rows watchdog peer number) o ≡ Some after
  thread-so None after e h = e
  thread-so (Some thread) after e h = at-so thread (thread.since == watchdog) _ after e h

  pub step-so : (after : Peer) → leased layout (asker number) watchdog peer number ≡ Some after → InRows rows (get_of layout peer number) → leased layout rows watchdog peer number ≡ Some after
  unfolding leased
  step-so after e h = thread-so (slice_get peer.replica.threads number) after e h

  -- and the other way
  bit-back : (b : Bool) (get : Get) (o : Option Peer) (after : Peer) → get.thread ≡ number → cond (b && not (is_row (rows get.mutex get.rank) number)) None o ≡ Some after → (cond (b && not (is_row (Some number) number)) None o ≡ Some after) × InRows rows (cond b (get ∷ []) [])
  bit-back true get o after e f = by (rows get.mutex get.rank) refl f
    where
      at : (u : ℕ) → rows get.mutex get.rank ≡ Some u → (c : Bool) → (u == number) ≡ c → cond (not c) None o ≡ Some after → (cond (not (is_row (Some number) number)) None o ≡ Some after) × InRows rows (get ∷ [])
      at u r true q g = (ap (λ (c : Bool). cond (not c) None o) is-own-row ∙ g, (r ∙ ap Some (eqb-true u number q ∙ sym e), tt))
      at u r false q g = absurd (let i : None ≡ Some after = g in cc)

      by : (r : Option ℕ) → rows get.mutex get.rank ≡ r → cond (not (is_row r number)) None o ≡ Some after → (cond (not (is_row (Some number) number)) None o ≡ Some after) × InRows rows (get ∷ [])
      by None r g = absurd (let i : None ≡ Some after = g in cc)
      by (Some u) r g = at u r (u == number) refl g
  bit-back false get o after e f = (f, tt)

  answer-back : (thread : Thread) (call : Call) (m : Mutex) (answer : Answer) (after : Peer) → leased_answer rows peer number thread call m answer ≡ Some after → (leased_answer (asker number) peer number thread call m answer ≡ Some after) × InRows rows (get_answer number call m answer)
  answer-back thread call m Waits after e = (e, tt)
  answer-back thread call m (Answers change value) after e = bit-back (is_got change) (record { mutex = call.a0; rank = m.rank; thread = number }) _ after refl e

  call-back : (thread : Thread) (call : Call) (o : Option Mutex) (after : Peer) → leased_call rows peer number thread call o ≡ Some after → (leased_call (asker number) peer number thread call o ≡ Some after) × InRows rows (get_call number call o)
  call-back thread call None after e = (e, tt)
  call-back thread call (Some m) after e = answer-back thread call m _ after e

  which-back : (b : Bool) (thread : Thread) (call : Call) (o : Option Mutex) (after : Peer) → cond b (leased_call rows peer number thread call o) None ≡ Some after → (cond b (leased_call (asker number) peer number thread call o) None ≡ Some after) × InRows rows (cond b (get_call number call o) [])
  which-back true thread call o after e = call-back thread call o after e
  which-back false thread call o after e = (e, tt)

  next-back : (thread : Thread) (n : Next) (after : Peer) → leased_next rows peer number thread n ≡ Some after → (leased_next (asker number) peer number thread n ≡ Some after) × InRows rows (get_next peer number n)
  next-back thread (Executes instr) after e = (e, tt)
  next-back thread (Stands (Calls call)) after e = which-back (is_lock_or_unlock call.which) thread call (mutex_in peer.mutexes call.a0) after e
  next-back thread (Stands (Trap code)) after e = (e, tt)
  next-back thread (Stands (PageFault page)) after e = (e, tt)
  next-back thread (Stands Watchdog) after e = (e, tt)

  at-back : (thread : Thread) (b : Bool) (n : Next) (after : Peer) → cond b None (leased_next rows peer number thread n) ≡ Some after → (cond b None (leased_next (asker number) peer number thread n) ≡ Some after) × InRows rows (get_next peer number n)
  at-back thread true n after e = absurd (let i : None ≡ Some after = e in cc)
  at-back thread false n after e = next-back thread n after e

  thread-back : (o : Option Thread) (after : Peer) → option_and_then (leased_at layout rows watchdog peer number) o ≡ Some after
      → (option_and_then (leased_at layout (asker number) watchdog peer number) o ≡ Some after) × InRows rows (option_map_or (λ thread. get_next peer number (next layout peer.replica.backed peer.replica.memory thread.cpu)) o [])
  thread-back None after e = (e, tt)
  thread-back (Some thread) after e = at-back thread (thread.since == watchdog) _ after e

  pub step-back : (after : Peer) → leased layout rows watchdog peer number ≡ Some after → (leased layout (asker number) watchdog peer number ≡ Some after) × InRows rows (get_of layout peer number)
  unfolding leased
  step-back after e = thread-back (slice_get peer.replica.threads number) after e

-- ---- a lease

pub run-so : (layout : Layout) (rows : Rows) (watchdog n : ℕ) (peer last : Peer) (number : ℕ) → leased_run layout (asker number) watchdog n peer number ≡ Some last → InRows rows (got_in layout watchdog n peer number) → leased_run layout rows watchdog n peer number ≡ Some last
run-so layout rows watchdog zero peer last number e h = e
run-so layout rows watchdog (suc n) peer last number e h =
    option_and_then_some (λ mid. leased_run layout (asker number) watchdog n mid number) (leased layout (asker number) watchdog peer number) last e (λ mid f g.
    let parts = in-front rows (get_of layout peer number) _ h in
    let rest : InRows rows (got_in layout watchdog n mid number) = subst (λ (o : Option Peer). InRows rows (option_map_or (λ after. got_in layout watchdog n after number) o [])) f parts.1 in
    ap (option_and_then (λ mid. leased_run layout rows watchdog n mid number)) (step-so layout rows watchdog peer number mid f parts.0) ∙ run-so layout rows watchdog n mid last number g rest)

run-back : (layout : Layout) (rows : Rows) (watchdog n : ℕ) (peer last : Peer) (number : ℕ) → leased_run layout rows watchdog n peer number ≡ Some last → (leased_run layout (asker number) watchdog n peer number ≡ Some last) × InRows rows (got_in layout watchdog n peer number)
run-back layout rows watchdog zero peer last number e = (e, tt)
run-back layout rows watchdog (suc n) peer last number e =
    option_and_then_some (λ mid. leased_run layout rows watchdog n mid number) (leased layout rows watchdog peer number) last e (λ mid f g.
    let one = step-back layout rows watchdog peer number mid f in
    let rest = run-back layout rows watchdog n mid last number g in (
      ap (option_and_then (λ mid. leased_run layout (asker number) watchdog n mid number)) one.0 ∙ rest.0,
      in-both rows (get_of layout peer number) _ one.1 (subst (λ (o : Option Peer). InRows rows (option_map_or (λ after. got_in layout watchdog n after number) o [])) (sym one.0) rest.1),
    ))

-- ---- a journal

module _ (job : Job) (rows : Rows) where
  put-so : (core : Core) (lease : Lease) (n : ℕ) (last : Peer) → run_in job (asker lease.thread) core lease n ≡ Some last → InRows rows (option_map_or (λ peer. got_in (layout_here job core) job.settings.watchdog n peer lease.thread) (slice_get core.peers lease.replica) []) → run_in job rows core lease n ≡ Some last
  put-so core lease n last e h = by (slice_get core.peers lease.replica) e h
    where
      by : (o : Option Peer) → option_and_then (λ peer. leased_run (layout_here job core) (asker lease.thread) job.settings.watchdog n peer lease.thread) o ≡ Some last → InRows rows (option_map_or (λ peer. got_in (layout_here job core) job.settings.watchdog n peer lease.thread) o []) → option_and_then (λ peer. leased_run (layout_here job core) rows job.settings.watchdog n peer lease.thread) o ≡ Some last
      by None f k = f
      by (Some peer) f k = run-so (layout_here job core) rows job.settings.watchdog n peer last lease.thread f k

  put-back : (core : Core) (lease : Lease) (n : ℕ) (last : Peer) → run_in job rows core lease n ≡ Some last → (run_in job (asker lease.thread) core lease n ≡ Some last) × InRows rows (option_map_or (λ peer. got_in (layout_here job core) job.settings.watchdog n peer lease.thread) (slice_get core.peers lease.replica) [])
  put-back core lease n last e = by (slice_get core.peers lease.replica) e
    where
      by : (o : Option Peer) → option_and_then (λ peer. leased_run (layout_here job core) rows job.settings.watchdog n peer lease.thread) o ≡ Some last → (option_and_then (λ peer. leased_run (layout_here job core) (asker lease.thread) job.settings.watchdog n peer lease.thread) o ≡ Some last) × InRows rows (option_map_or (λ peer. got_in (layout_here job core) job.settings.watchdog n peer lease.thread) o [])
      by None f = (f, tt)
      by (Some peer) f = run-back (layout_here job core) rows job.settings.watchdog n peer last lease.thread f

  -- an entry, and that it does the same
  pub entry-so : (core : Core) (entry : Entry) → IsAllowed job (rows_for entry) core entry → InRows rows (got_by job core entry) → IsAllowed job rows core entry × (after job (rows_for entry) core entry ≡ after job rows core entry)
  entry-so core (Take lease) m h = (m, refl)
  entry-so core (Put lease n hit) m h =
      let runs = put-so core lease n m.peer m.runs h in
      (record { not_ended = m.not_ended; out = m.out; peer = m.peer; runs = runs }, ap (after_put job core lease n) (m.runs ∙ sym runs))
  entry-so core (Part lease n hit) m h = absurd m
  entry-so core (Vote t n won lost did) m h = (m, refl)
  entry-so core (Free t) m h = (m, refl)
  entry-so core (Scrub won lost) m h = (m, refl)
  entry-so core (End how) m h = (m, refl)

  pub entry-back : (core : Core) (entry : Entry) → IsAllowed job rows core entry → IsAllowed job (rows_for entry) core entry × InRows rows (got_by job core entry) × (after job (rows_for entry) core entry ≡ after job rows core entry)
  entry-back core (Take lease) m = (m, tt, refl)
  entry-back core (Put lease n hit) m =
      let b = put-back core lease n m.peer m.runs in
      (record { not_ended = m.not_ended; out = m.out; peer = m.peer; runs = b.0 }, b.1, ap (after_put job core lease n) (b.0 ∙ sym m.runs))
  entry-back core (Part lease n hit) m = absurd m
  entry-back core (Vote t n won lost did) m = (m, tt, refl)
  entry-back core (Free t) m = (m, tt, refl)
  entry-back core (Scrub won lost) m = (m, tt, refl)
  entry-back core (End how) m = (m, tt, refl)

  pub rows-join : (core : Core) (journal : List Entry) → RowlessFrom job core journal → InRows rows (got_from job core journal) → LegalFrom job rows core journal
  rows-join core [] legal h = tt
  rows-join core (entry ∷ journal) legal h =
      let parts = in-front rows (got_by job core entry) _ h in
      let one = entry-so core entry legal.0 parts.0 in
      (one.0, subst (λ (c : Core). LegalFrom job rows c journal) one.1 (rows-join (after job (rows_for entry) core entry) journal legal.1 parts.1))

  pub rows-split : (core : Core) (journal : List Entry) → LegalFrom job rows core journal → RowlessFrom job core journal × InRows rows (got_from job core journal)
  rows-split core [] legal = (tt, tt)
  rows-split core (entry ∷ journal) legal =
      let one = entry-back core entry legal.0 in
      let rest = rows-split (after job (rows_for entry) core entry) journal (subst (λ (c : Core). LegalFrom job rows c journal) (sym one.2) legal.1) in
      ((one.0, rest.0), in-both rows (got_by job core entry) _ one.1 rest.1)
