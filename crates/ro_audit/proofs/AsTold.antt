-- A run that was as long as it is told: it comes back so, or stands where it is not told; and what it got is known.
use Rattle.std.specs.Prelude.{◌≡◌, ◌≢◌, ◌⊎◌, ◌<◌, ◌≤◌, ◌+◌, ℕ, zero, suc, Bool, true, false, not, if◌then◌else◌, min, IsTrue, IsSome, List, [], ◌∷◌, ◌++◌, length, Option, Some, None, is_some, slice_get}
use Rattle.std.specs.List.{list_all}
use Rattle.std.specs.Option.{option_and_then, option_map}
use mathlib.Core.Logic.{inl, inr}
use Rattle.std.proofs.Common.{refl, sym, ap, ◌∙◌, subst, arith}
use Rattle.std.proofs.lemmas.Bool.{ne_eqb}
use Rattle.ro_exec.specs.Next.{Layout}
use Rattle.ro_journal.specs.declared.Entry.{Entry}
use Rattle.ro_journal.specs.declared.Entry.TheVariants.{Put, Part}
use Rattle.ro_journal.specs.declared.Lease.{Lease}
use Rattle.ro_thread.specs.declared.Thread.{Thread}
use Rattle.ro_plain.specs.Machine.{layout_in}
use Rattle.ro_plain.proofs.Calls.{some-injective}
use Rattle.ro_replica.specs.Runs.{standing_at}
use Rattle.ro_replica.specs.Seen.{CanCount, replica_of}
use Rattle.ro_replica.specs.Views.{is_unstopped}
use Rattle.ro_peer.specs.declared.mutexes.Mutex.{Mutex}
use Rattle.ro_peer.specs.declared.running.Came.{Came}
use Rattle.ro_peer.specs.declared.running.Came.TheVariants.{Quantum, Stopped, Owned, Row, Full}
use Rattle.ro_peer.specs.Peers.{Peer, leased, leased_run}
use Rattle.ro_peer.specs.Gets.{Get, asker, got_in, voted}
use Rattle.ro_peer.specs.Seen.{peer_of, by_address}
use Rattle.ro_peer.specs.Leases.{PeerRuns, CameBy, IsAmong, waiting_at}
use Rattle.ro_peer.specs.Leases.{stopped as came_back}
use Rattle.ro_peer.proofs.Joining.{in_more_rows, in_rows_both}
use Rattle.ro_peer.proofs.Parts.{room_left}
use Rattle.ro_peer.proofs.Steps.{Kept, run_kept, run_then}
use Rattle.ro_peer.proofs.Winning.{among_first, among_second}
use Rattle.ro_locking.specs.Asking.{below}
use Rattle.ro_locking.specs.Got.{KeepsNumbers}
use Rattle.ro_locking.proofs.Adding.{rows_later, same_mutexes}
use Rattle.ro_locking.proofs.Below.{in_all_rows}
use Rattle.ro_legal.specs.Core.{Job, Core}
use Rattle.ro_legal.specs.Sides.{is_ahead}
use Rattle.ro_legal.specs.Lent.{IsOfJob}
use Rattle.ro_legal.specs.Cooperative.{Ran, MayPut, MayPart, IsAllowed, Legal, lease_run, lease_gets, parking_of, arrival, gets_from, opening_core, replay}
use Rattle.ro_legal.proofs.Lists.{length-mapped}
use Rattle.ro_legal.proofs.MutexRuns.{run-keeps}
use Rattle.ro_legal.proofs.Mutexes.{mutexes-kept}
use Rattle.ro_legal.proofs.TogetherJournals.{replay_more}
use Rattle.ro_coop_core.specs.Seen.{MayReturn, return_of}
use Rattle.ro_coop_lease.specs.declared.Lent.{Lent}
use Rattle.ro_coop_lease.specs.declared.Back.{Back}
use Rattle.ro_coop_lease.proofs.Returns.{Returned, gets-are}
use Rattle.ro_cores.specs.Loans.{plain_run, mutexes_in}
use Rattle.ro_cores.proofs.Numbers.{first_of, numbers-along, numbers-both, same-numbers, same-as-first}
use Rattle.ro_audit.specs.declared.ranks.Rank.{Rank}
use Rattle.ro_audit.specs.declared.returning.Told.{Told}
use Rattle.ro_audit.specs.Audits.{GoesOn, RunsSoFar}
use Rattle.ro_audit.specs.Following.{AreGot}
use Rattle.ro_audit.specs.Ranks.{rows_in, won_in}
use Rattle.ro_audit.specs.Returning.{SameLoan, RunsFor, Looks, StandsBy, StandsAsTold, IsUntold, told_entry}
use Rattle.ro_audit.proofs.Gets.{among-later}
use Rattle.ro_audit.proofs.Bounded.{IsBounded, IsRun, as-job, is-out, within, may-come, came-whole}
use Rattle.ro_audit.proofs.Short.{told-unstruck, told-gets, gets-more}
use Rattle.ro_audit.proofs.Standing.{IsVoted, IsParked, is-voted, is-parked, moved, moves-no-vote, moves-no-lock, waits-no-vote, stops-no-lock}

-- the entry with which it comes back is that which is told
pub return-told : (lease : Lease) (told : Told) (came : Came) → told.hit ≡ 0 → is_some (waiting_at came) ≡ told.waits → return_of lease told.count came ≡ told_entry lease told
return-told lease told came none waits = by came waits
  where
    part : true ≡ told.waits → Part lease told.count 0 ≡ told_entry lease told
    part e = ap (λ (n : ℕ). Part lease told.count n) (sym none) ∙ ap (λ (b : Bool). if b then Part lease told.count told.hit else Put lease told.count told.hit) e

    put : false ≡ told.waits → Put lease told.count 0 ≡ told_entry lease told
    put e = ap (λ (n : ℕ). Put lease told.count n) (sym none) ∙ ap (λ (b : Bool). if b then Part lease told.count told.hit else Put lease told.count told.hit) e

    by : (c : Came) → is_some (waiting_at c) ≡ told.waits → return_of lease told.count c ≡ told_entry lease told
    by Quantum e = put e
    by (Stopped stop) e = put e
    by (Owned number) e = part e
    by (Row number) e = part e
    by (Full number) e = part e

-- the other entry of the same counts
abbrev pub other_entry : Lease → Told → Entry
other_entry lease told = if told.waits then Put lease told.count told.hit else Part lease told.count told.hit

-- it runs so far, or comes back by the other entry, and not as it is told
abbrev pub RunsOtherwise : Job → Core → Lease → Told → Type 0
RunsOtherwise job core lease told =
    (IsAllowed job core (told_entry lease told) → ⊥) × (IsAllowed job core (other_entry lease told) ⊎ RunsSoFar job core lease told.count told.hit)

module _ {job : Job} {journal : List Entry} {lent new : Lent} {told : Told} {before after : List (Rank × ℕ)} {most count : ℕ} {came : Came}
    (run : IsRun job journal lent new told before after most count came) (long : told.count ≤ count) where
  abbrev is : IsBounded job (replay job journal) lent
  is = run.loan

  abbrev ran : RunsFor most lent new before after count came
  ran = run.runs

  abbrev few : most ≡ min told.count job.settings.quantum
  few = run.most_is

  abbrev core : Core
  core = replay job journal

  abbrev layout : Layout
  layout = layout_in job.program core.kernel

  abbrev watchdog : ℕ
  watchdog = job.settings.watchdog

  abbrev lease : Lease
  lease = lent.lease

  abbrev peer : Peer
  peer = peer_of lent.partner.peer

  abbrev runs-by : PeerRuns layout watchdog most lease.thread (below lent.partner.ceilings.items (rows_in after)) peer (peer_of new.partner.peer) count came
  runs-by = as-job job core lent.partner.peer.replica most lease.thread (below lent.partner.ceilings.items (rows_in after)) peer (peer_of new.partner.peer) count came is.lends.program ran.runs

  abbrev end : Peer
  end = runs-by.end

  whole : (came ≡ Quantum) × (count ≡ told.count) × (told.count ≤ job.settings.quantum)
  whole = came-whole layout watchdog job.settings.quantum told.count most lease.thread count end came few long runs-by.came_by

  same-end : peer_of new.partner.peer ≡ end
  same-end = runs-by.new_is ∙ ap (λ (c : Came). came_back lease.thread c end) whole.0

  kept : Kept lease.thread count peer end
  kept = run_kept layout (asker lease.thread) watchdog count peer end lease.thread runs-by.runs

  -- ---- what is asked of it then

  same-quantum : new.quantum ≡ job.settings.quantum
  same-quantum = ran.same.quantum ∙ is.lends.quantum_is

  -- the thread goes on
  pub still-going : IsTrue (is_unstopped new.lease.thread (replica_of new.partner.peer.replica))
  still-going =
      subst (λ (l : Lease). IsTrue (is_unstopped l.thread (replica_of new.partner.peer.replica))) (sym ran.same.lease)
      (subst (λ (p : Peer). IsTrue (is_unstopped lease.thread p.replica)) (sym same-end) (kept.going ∙ is.lends.going))

  -- and can be counted
  pub still-counts : told.count < new.quantum → CanCount 1 new.partner.peer.replica new.lease.thread
  still-counts less =
      subst (λ (l : Lease). CanCount 1 new.partner.peer.replica l.thread) (sym ran.same.lease)
      (room_left lease.thread count 1 job.settings.quantum peer.replica.threads new.partner.peer.replica.threads
      (subst (λ (p : Peer). option_map (λ (t : Thread). t.done) (slice_get p.replica.threads lease.thread) ≡ option_map (λ done. done + count) (option_map (λ (t : Thread). t.done) (slice_get peer.replica.threads lease.thread))) (sym same-end) kept.done)
      (let counts = whole.1 in omega (arith, same-quantum, counts, less))
      is.lends.countable)

  program-new : IsOfJob job core.kernel new.partner.peer.replica
  program-new = record {
    layout = ran.same.program.layout ∙ is.lends.program.layout;
    given = ran.same.program.given ∙ is.lends.program.given;
    watchdog = ran.same.program.watchdog ∙ is.lends.program.watchdog;
  }

  -- one more instruction, as one of the job's
  look : (last : Lent) (steps : ℕ) (by : Came) → Looks new last steps by → PeerRuns layout watchdog 1 lease.thread (λ number rank. None) end (peer_of last.partner.peer) steps by
  look last steps by looks =
      subst (λ (p : Peer). PeerRuns layout watchdog 1 lease.thread (λ number rank. None) p (peer_of last.partner.peer) steps by) same-end
      (subst (λ (l : Lease). PeerRuns layout watchdog 1 l.thread (λ number rank. None) (peer_of new.partner.peer) (peer_of last.partner.peer) steps by) ran.same.lease
      (as-job job core new.partner.peer.replica 1 new.lease.thread (λ number rank. None) (peer_of new.partner.peer) (peer_of last.partner.peer) steps by program-new looks.runs))

  -- ---- where it stands otherwise

  same-ran : (other : Ran job core lease told.count) → other.peer ≡ end
  same-ran other =
      some-injective (sym other.runs
      ∙ (ap (option_and_then (λ (p : Peer). leased_run layout (asker lease.thread) watchdog told.count p lease.thread)) is.lends.there
      ∙ (ap (λ (n : ℕ). leased_run layout (asker lease.thread) watchdog n peer lease.thread) (sym whole.1)
      ∙ runs-by.runs)))

  its-stop : told.count < job.settings.quantum → (hit : ℕ) → MayPut job core lease told.count hit → IsVoted layout watchdog lease.thread end
  its-stop less hit may = by may.arrives
    where
      by : (told.count ≡ job.settings.quantum) ⊎ ((told.count < job.settings.quantum) × IsSome (arrival job core.kernel lease.thread told.count may.ran.peer)) → IsVoted layout watchdog lease.thread end
      by (inl all) = absurd (omega arith)
      by (inr (early, some)) =
          is-voted layout watchdog lease.thread end
          (subst (λ (p : Peer). IsSome (voted p.mutexes (standing_at layout watchdog p.replica lease.thread))) (same-ran may.ran)
          (subst (λ (b : Bool). IsSome (if b then None else voted may.ran.peer.mutexes (standing_at layout watchdog may.ran.peer.replica lease.thread))) (ne_eqb told.count job.settings.quantum (λ all. omega arith)) some))

  its-lock : (hit : ℕ) → MayPart job core lease told.count hit → IsParked layout watchdog lease.thread end
  its-lock hit may = is-parked layout watchdog lease.thread end (subst (λ (p : Peer). IsSome (parking_of job core.kernel lease.thread p)) (same-ran may.ran) may.waits)

  module _ (less : told.count < job.settings.quantum) (last : Lent) (steps : ℕ) (by : Came) (looks : Looks new last steps by) where
    no-part : (hit : ℕ) → MayPart job core lease told.count hit → (steps ≢ 0) ⊎ (is_some (waiting_at by) ≢ true) → ⊥
    no-part hit may (inl more) = moves-no-lock layout watchdog lease.thread end (peer_of last.partner.peer) steps by (look last steps by looks) more (its-lock hit may)
    no-part hit may (inr other) = at steps refl
      where
        not-true : (b : Bool) → b ≢ true → b ≡ false
        not-true true h = absurd (h refl)
        not-true false h = refl

        at : (n : ℕ) → steps ≡ n → ⊥
        at zero none = stops-no-lock layout watchdog lease.thread end (peer_of last.partner.peer) steps by (look last steps by looks) none (not-true (is_some (waiting_at by)) other) (its-lock hit may)
        at (suc n) more = moves-no-lock layout watchdog lease.thread end (peer_of last.partner.peer) steps by (look last steps by looks) (λ e. omega arith) (its-lock hit may)

    no-put : (hit : ℕ) → MayPut job core lease told.count hit → (steps ≢ 0) ⊎ (is_some (waiting_at by) ≢ false) → ⊥
    no-put hit may (inl more) = moves-no-vote layout watchdog lease.thread end (peer_of last.partner.peer) steps by (look last steps by looks) more (its-stop less hit may)
    no-put hit may (inr other) = at steps refl
      where
        not-false : (b : Bool) → b ≢ false → b ≡ true
        not-false false h = absurd (h refl)
        not-false true h = refl

        at : (n : ℕ) → steps ≡ n → ⊥
        at zero none = waits-no-vote layout watchdog lease.thread end (peer_of last.partner.peer) steps by (look last steps by looks) none (not-false (is_some (waiting_at by)) other) (its-stop less hit may)
        at (suc n) more = moves-no-vote layout watchdog lease.thread end (peer_of last.partner.peer) steps by (look last steps by looks) (λ e. omega arith) (its-stop less hit may)

    no-other : (waits : Bool) → IsAllowed job core (if waits then Part lease told.count told.hit else Put lease told.count told.hit) → (steps ≢ 0) ⊎ (is_some (waiting_at by) ≢ waits) → ⊥
    no-other true may odd = no-part told.hit may odd
    no-other false may odd = no-put told.hit may odd

    -- it goes on there, where it takes a step
    goes-on : steps ≢ 0 → GoesOn job core lease told.count
    goes-on more = record {
      early = less;
      next = ap (λ (o : Option Peer). is_some o) runs-on;
      no_put = λ hit may. no-put hit may (inl more);
      no_part = λ hit may. no-part hit may (inl more);
    }
      where
        step : (after : Peer) × (leased layout (asker lease.thread) watchdog end lease.thread ≡ Some after)
        step = moved layout watchdog lease.thread end (peer_of last.partner.peer) steps by (look last steps by looks) more

        runs-on : lease_run job core lease (told.count + 1) ≡ Some step.0
        runs-on =
            ap (option_and_then (λ (p : Peer). leased_run layout (asker lease.thread) watchdog (told.count + 1) p lease.thread)) is.lends.there
            ∙ (ap (λ (n : ℕ). leased_run layout (asker lease.thread) watchdog (n + 1) peer lease.thread) (sym whole.1)
            ∙ ((run_then layout watchdog count 1 peer end lease.thread runs-by.runs).0
            ∙ ap (option_and_then (λ (p : Peer). leased_run layout (asker lease.thread) watchdog 0 p lease.thread)) step.1))

  -- what is not so told is not allowed
  untold : IsUntold told new → IsAllowed job core (told_entry lease told) → ⊥
  untold (inl struck) may = struck (told-unstruck job core lease told may)
  untold (inr (inl (all, waits))) may =
      let part = subst (λ (b : Bool). IsAllowed job core (if b then Part lease told.count told.hit else Put lease told.count told.hit)) waits may in
      let less : told.count < job.settings.quantum = part.below in
      omega (arith, same-quantum, all, less)
  untold (inr (inr (less, last, steps, by, looks, odd))) may = no-other (omega (arith, same-quantum, less)) last steps by looks told.waits may odd

  -- ---- it comes back so

  came-so : (last : Lent) (by : Came) → StandsBy told.count new last by → CameBy layout watchdog job.settings.quantum lease.thread count end by × (peer_of last.partner.peer ≡ came_back lease.thread by end) × SameLoan new last
  came-so last Quantum (all, same) = (
    (let counts = whole.1 in omega (arith, same-quantum, counts, all)),
    ap (λ (l : Lent). peer_of l.partner.peer) same ∙ same-end,
    subst (SameLoan new) (sym same) (record { lease = refl; quantum = refl; program = record { layout = refl; given = refl; watchdog = refl }; faultless = ran.same.faultless; ceilings = refl }),
  )
  came-so last by (less, looks) = (
    now by (subst (λ (p : Peer). CameBy layout watchdog 1 lease.thread 0 p by) (sym same-peer) its.came_by),
    its.new_is ∙ ap (λ (p : Peer). came_back lease.thread by p) (sym same-peer),
    looks.same,
  )
    where
      its : PeerRuns layout watchdog 1 lease.thread (λ number rank. None) end (peer_of last.partner.peer) 0 by
      its = look last 0 by looks

      same-peer : end ≡ its.end
      same-peer = some-injective its.runs

      early : count < job.settings.quantum
      early = (let counts = whole.1 in omega (arith, same-quantum, counts, less))

      now : (c : Came) → CameBy layout watchdog 1 lease.thread 0 end c → CameBy layout watchdog job.settings.quantum lease.thread count end c
      now Quantum all = absurd (omega arith)
      now (Stopped stop) at = (early, at.1, at.2)
      now (Owned number) at = (early, at.1)
      now (Row number) at = (early, at.1)
      now (Full number) at = (early, at.1)

  -- by what it comes back where it is
  came-back : (last : Lent) (by : Came) → StandsBy told.count new last by → Returned job core lease (peer_of last.partner.peer) told.count by
  came-back last by stands =
      let so = came-so last by stands in
      subst (λ (n : ℕ). Returned job core lease (peer_of last.partner.peer) n by) whole.1
      (subst (λ (p : Peer). Returned job core lease p count by) (sym so.1)
      (may-come job core lent is most (rows_in after) (peer_of new.partner.peer) count came runs-by by so.0))

  -- ---- it comes back otherwise

  -- so far it runs
  so-far : Ran job core lease told.count
  so-far = record {
    not_ended = is.lends.not_ended;
    out = is-out job core lent is;
    peer = end;
    runs =
        ap (option_and_then (λ (p : Peer). leased_run layout (asker lease.thread) watchdog told.count p lease.thread)) is.lends.there
        ∙ (ap (λ (n : ℕ). leased_run layout (asker lease.thread) watchdog n peer lease.thread) (sym whole.1) ∙ runs-by.runs);
    within = subst (λ (n : ℕ). list_all (λ get. not (is_ahead core.sides get.mutex get.rank)) (lease_gets job core lease n) ≡ true) whole.1 (within job core lent is most (rows_in after) (peer_of new.partner.peer) count came runs-by);
  }

  -- by the other entry, where it comes back where it is
  by-other : (last : Lent) (by : Came) → told.hit ≡ 0 → StandsBy told.count new last by → is_some (waiting_at by) ≡ not told.waits → IsAllowed job core (other_entry lease told)
  by-other last by none stands waits =
      subst (IsAllowed job core) (return-told lease (record { count = told.count; hit = told.hit; waits = not told.waits }) by none waits ∙ not-told told.waits) (came-back last by stands).allowed
    where
      not-told : (b : Bool) → (if not b then Part lease told.count told.hit else Put lease told.count told.hit) ≡ (if b then Put lease told.count told.hit else Part lease told.count told.hit)
      not-told true = refl
      not-told false = refl

  unlike : (b c : Bool) → b ≢ c → b ≡ not c
  unlike true true h = absurd (h refl)
  unlike true false h = refl
  unlike false true h = refl
  unlike false false h = absurd (h refl)

  -- what is not so told runs so far, and comes back otherwise
  pub untold-runs : IsUntold told new → RunsOtherwise job core lease told
  untold-runs odd = (untold odd, by told.hit refl)
    where
      -- its thread stands there, or goes on
      standing : told.hit ≡ 0 → told.count < job.settings.quantum → told.count < new.quantum → (last : Lent) (steps : ℕ) (came_by : Came) → Looks new last steps came_by → (steps ≢ 0) ⊎ (is_some (waiting_at came_by) ≢ told.waits)
          → IsAllowed job core (other_entry lease told) ⊎ RunsSoFar job core lease told.count told.hit
      standing none less early last steps came_by looks (inl more) = inr (record { ran = so-far; within = whole.2; odd = inr (goes-on less last steps came_by looks more) })
      standing none less early last zero Quantum looks (inr other) = absurd (let at = (look last 0 Quantum looks).came_by in omega arith)
      standing none less early last zero came_by looks (inr other) = inl (by-other last came_by none (early, looks) (unlike (is_some (waiting_at came_by)) told.waits other))
      standing none less early last (suc n) came_by looks (inr other) = inr (record { ran = so-far; within = whole.2; odd = inr (goes-on less last (suc n) came_by looks (λ e. omega arith)) })

      unstruck : told.hit ≡ 0 → IsUntold told new → IsAllowed job core (other_entry lease told) ⊎ RunsSoFar job core lease told.count told.hit
      unstruck none (inl struck) = absurd (struck none)
      unstruck none (inr (inl (all, waits))) = inl (by-other new Quantum none (all, refl) (ap (λ (b : Bool). not b) (sym waits)))
      unstruck none (inr (inr (early, last, steps, came_by, looks, other))) = standing none (omega (arith, same-quantum, early)) early last steps came_by looks other

      by : (n : ℕ) → told.hit ≡ n → IsAllowed job core (other_entry lease told) ⊎ RunsSoFar job core lease told.count told.hit
      by zero none = unstruck none odd
      by (suc n) some = inr (record { ran = so-far; within = whole.2; odd = inl (λ none. omega arith) })

  module _ (last : Lent) (by : Came) (stands : StandsAsTold told new last by) where
    its-return : Returned job core lease (peer_of last.partner.peer) told.count by
    its-return = came-back last by stands.stands

    same-loan : SameLoan new last
    same-loan = (came-so last by stands.stands).2

    same-lease : last.lease ≡ lease
    same-lease = same-loan.lease ∙ ran.same.lease

    -- it has as many mutexes as before
    as-many : length last.partner.peer.mutexes ≡ length lent.partner.peer.mutexes
    as-many =
        let so = came-so last by stands.stands in
        ap (λ (p : Peer). length p.mutexes) so.1
        ∙ (ap (λ (ms : List Mutex). length ms) (same_mutexes lease.thread by end)
        ∙ (sym (length-mapped (λ (mutex : Mutex). mutex.address) end.mutexes)
        ∙ (ap (λ (addresses : List ℕ). length addresses) (run-keeps layout watchdog count peer end lease.thread runs-by.runs).addresses_are
        ∙ length-mapped (λ (mutex : Mutex). mutex.address) lent.partner.peer.mutexes)))

    may-return : MayReturn (plain_run job journal) lease.driver last.partner told.count by
    may-return = record {
      lease = lease;
      held = is.lends.held;
      allowed = its-return.allowed;
      program = record {
        layout = same-loan.program.layout ∙ program-new.layout;
        given = same-loan.program.given ∙ program-new.given;
        watchdog = same-loan.program.watchdog ∙ program-new.watchdog;
      };
      became = its-return.became;
      ceilings = ap (λ (xs : List ℕ). length xs) (same-loan.ceilings ∙ ran.same.ceilings) ∙ (is.lends.ceilings ∙ sym as-many);
      within = its-return.within;
      waits = its-return.waits;
    }

    -- what is put back
    pub comes-back : (back : Back) → back ≡ record { lease = last.lease; partner = last.partner; took = record { count = told.count; came = by } }
        → ((m : MayReturn (plain_run job journal) back.lease.driver back.partner back.took.count back.took.came) × (m.lease ≡ back.lease)) × (return_of back.lease back.took.count back.took.came ≡ told_entry lease told)
    unfolding may-return
    comes-back back back_is =
        subst (λ (b : Back). ((m : MayReturn (plain_run job journal) b.lease.driver b.partner b.took.count b.took.came) × (m.lease ≡ b.lease)) × (return_of b.lease b.took.count b.took.came ≡ told_entry lease told)) (sym back_is)
        (subst (λ (l : Lease). ((m : MayReturn (plain_run job journal) l.driver last.partner told.count by) × (m.lease ≡ l)) × (return_of l told.count by ≡ told_entry lease told)) (sym same-lease)
        ((may-return, refl), return-told lease told by stands.unstruck stands.waits))

  -- ---- what it got is known

  module _ (legal : Legal job journal) (knows : AreGot (mutexes_in job journal) (gets_from job (opening_core job) journal) (rows_in before)) where
    abbrev entry : Entry
    entry = told_entry lease told

    abbrev gets : List Get
    gets = gets_from job (opening_core job) journal

    abbrev got : List Get
    got = got_in lent.partner.peer.replica.layout lent.partner.peer.replica.watchdog count peer lease.thread

    abbrev numbered-before : List Mutex
    numbered-before = mutexes_in job journal

    abbrev numbered-now : List Mutex
    numbered-now = mutexes_in job (journal ++ entry ∷ [])

    numbers-stay : KeepsNumbers numbered-before numbered-now
    numbers-stay = subst (λ (c : Core). KeepsNumbers numbered-before (first_of c.sides)) (sym (replay_more job journal entry)) (numbers-along job core (entry ∷ []))

    its-numbers : KeepsNumbers lent.partner.peer.mutexes numbered-now
    its-numbers =
        numbers-both lent.partner.peer.mutexes numbered-before numbered-now
        (same-numbers lent.partner.peer.mutexes numbered-before (same-as-first job core (mutexes-kept job journal legal) lease.replica peer is.lends.there))
        numbers-stay

    got-is : lease_gets job core lease told.count ≡ got
    got-is =
        ap (λ (n : ℕ). lease_gets job core lease n) (sym whole.1)
        ∙ (gets-are job core lease peer count is.lends.there
        ∙ (ap (λ (l : Layout). got_in l watchdog count peer lease.thread) (sym is.lends.program.layout)
        ∙ ap (λ (w : ℕ). got_in lent.partner.peer.replica.layout w count peer lease.thread) (sym is.lends.program.watchdog)))

    all-gets : gets_from job (opening_core job) (journal ++ entry ∷ []) ≡ gets ++ got
    all-gets = gets-more job (opening_core job) journal entry ∙ ap (λ (more : List Get). gets ++ more) (told-gets job core lease told ∙ got-is)

    among-all : (number rank thread : ℕ) → won_in before number rank thread ⊎ IsAmong lent.partner.peer.mutexes got number rank thread → IsAmong numbered-now (gets ++ got) number rank thread
    among-all number rank thread (inl was) = among_first numbered-now gets got number rank thread (among-later numbered-before numbered-now gets number rank thread numbers-stay (knows.among number rank thread was))
    among-all number rank thread (inr won) = among_second numbered-now gets got number rank thread (among-later lent.partner.peer.mutexes numbered-now got number rank thread its-numbers won)

    -- so the rows are just what was got, its own with it
    pub knows-more : AreGot numbered-now (gets_from job (opening_core job) (journal ++ entry ∷ [])) (rows_in after)
    knows-more = subst (λ (all : List Get). AreGot numbered-now all (rows_in after)) (sym all-gets) (record {
      in_rows = in_rows_both (by_address numbered-now (rows_in after)) gets got
          (in_more_rows (by_address numbered-before (rows_in before)) (by_address numbered-now (rows_in after)) gets (rows_later numbered-before numbered-now (rows_in before) (rows_in after) numbers-stay ran.keeps) knows.in_rows)
          (in_more_rows (by_address lent.partner.peer.mutexes (rows_in after)) (by_address numbered-now (rows_in after)) got (rows_later lent.partner.peer.mutexes numbered-now (rows_in after) (rows_in after) its-numbers (λ number rank thread e. e))
          (in_all_rows lent.partner.peer.mutexes lent.partner.ceilings.items (rows_in after) got ran.runs.gets));
      among = λ number rank thread e. among-all number rank thread (ran.wins number rank thread e);
    })
