-- A run that was too short does not come back as its entry tells; and why.
use Rattle.std.specs.Prelude.{◌≡◌, ◌≢◌, ◌⊎◌, ◌<◌, ◌≤◌, ◌+◌, ◌^◌, ℕ, suc, Bool, true, false, not, min, if◌then◌else◌, IfSome, List, [], ◌∷◌, ◌++◌, length, Contains, Some, None, slice_get, slice_index_or}
use Rattle.std.specs.List.{list_all}
use Rattle.std.specs.Option.{option_and_then}
use mathlib.Core.Logic.{inl, inr}
use Rattle.std.proofs.Common.{refl, sym, ap, ◌∙◌, subst, arith, append_assoc, append-nil}
use Rattle.std.proofs.lemmas.Bool.{ltb-true, cases_order}
use Rattle.ro_exec.specs.Next.{Layout}
use Rattle.ro_journal.specs.declared.Entry.{Entry}
use Rattle.ro_journal.specs.declared.Entry.TheVariants.{Put, Part}
use Rattle.ro_journal.specs.declared.Lease.{Lease}
use Rattle.ro_plain.specs.Machine.{layout_in}
use Rattle.ro_plain.proofs.Calls.{some-injective}
use Rattle.ro_orders.specs.Copies.{Rows}
use Rattle.ro_peer.specs.declared.mutexes.Mutex.{Mutex}
use Rattle.ro_peer.specs.declared.running.Came.{Came}
use Rattle.ro_peer.specs.declared.running.Came.TheVariants.{Quantum, Stopped, Owned, Row, Full}
use Rattle.ro_peer.specs.Peers.{Peer, leased, leased_run}
use Rattle.ro_peer.specs.Gets.{Get, InRows, asker, got_in}
use Rattle.ro_peer.specs.Seen.{peer_of, number_of}
use Rattle.ro_peer.specs.Leases.{PeerRuns, CameBy, LockWaits, IsAtLock, IsAmong, waiting_at}
use Rattle.ro_peer.specs.Leases.{stopped as came_back}
use Rattle.ro_peer.proofs.Places.{at_its_number}
use Rattle.ro_peer.proofs.Steps.{run_kept}
use Rattle.ro_locking.specs.Asking.{below}
use Rattle.ro_legal.specs.Sides.{is_ahead}
use Rattle.ro_legal.specs.Core.{Job, Core}
use Rattle.ro_legal.specs.Cooperative.{Ran, IsAllowed, Legal, lease_run, lease_gets, gets_of, gets_from, opening_core, after, replay, replay_from}
use Rattle.ro_legal.proofs.Mutexes.{mutexes-kept}
use Rattle.ro_coop_core.specs.Seen.{return_of}
use Rattle.ro_coop_lease.specs.declared.Lent.{Lent}
use Rattle.ro_coop_lease.proofs.Ceilings.{numbered}
use Rattle.ro_coop_lease.proofs.Returns.{Returned, gets-are}
use Rattle.ro_cores.specs.Loans.{mutexes_in}
use Rattle.ro_cores.proofs.Numbers.{same-numbers, same-as-first}
use Rattle.ro_audit.specs.declared.follower.Why.{Why}
use Rattle.ro_audit.specs.declared.follower.Why.TheVariants as why
use Rattle.ro_audit.specs.declared.ranks.Rank.{Rank}
use Rattle.ro_audit.specs.declared.returning.Told.{Told}
use Rattle.ro_audit.specs.Audits.{OtherHas}
use Rattle.ro_audit.specs.Following.{AreGot}
use Rattle.ro_audit.specs.Ranks.{rows_in, won_in}
use Rattle.ro_audit.specs.Returning.{RunsFor, IsShort, IsAbove, IsOthers, told_entry}
use Rattle.ro_audit.proofs.Onward.{no-longer, got-on, stays-at-stop, stays-at-owned, gets-free}
use Rattle.ro_audit.proofs.Gets.{by-run, none-by-other, IsGet, its-get, one-address, its-row, rows-parts, in-middle, all-middle}
use Rattle.ro_audit.proofs.Bounded.{IsBounded, IsRun, as-job, may-come, came-early}

-- ---- an entry as it is told

module _ (job : Job) (core : Core) (lease : Lease) (told : Told) where
  -- if it is allowed, there is such a run
  pub told-ran : IsAllowed job core (told_entry lease told) → Ran job core lease told.count
  told-ran = by told.waits
    where
      by : (waits : Bool) → IsAllowed job core (if waits then Part lease told.count told.hit else Put lease told.count told.hit) → Ran job core lease told.count
      by true may = may.ran
      by false may = may.ran

  -- within the quantum
  pub told-within : IsAllowed job core (told_entry lease told) → told.count ≤ job.settings.quantum
  told-within = by told.waits
    where
      by : (waits : Bool) → IsAllowed job core (if waits then Part lease told.count told.hit else Put lease told.count told.hit) → told.count ≤ job.settings.quantum
      by true may = let less = may.below in omega arith
      by false may = at may.arrives
        where
          at : {X : Type 0} → (told.count ≡ job.settings.quantum) ⊎ ((told.count < job.settings.quantum) × X) → told.count ≤ job.settings.quantum
          at (inl all) = omega arith
          at (inr (less, some)) = omega arith

  -- no faults were struck
  pub told-unstruck : IsAllowed job core (told_entry lease told) → told.hit ≡ 0
  told-unstruck = by told.waits
    where
      by : (waits : Bool) → IsAllowed job core (if waits then Part lease told.count told.hit else Put lease told.count told.hit) → told.hit ≡ 0
      by true may = may.unstruck
      by false may = may.unstruck

  -- what it says that the lease got
  pub told-gets : gets_of job core (told_entry lease told) ≡ lease_gets job core lease told.count
  told-gets = by told.waits
    where
      by : (waits : Bool) → gets_of job core (if waits then Part lease told.count told.hit else Put lease told.count told.hit) ≡ lease_gets job core lease told.count
      by true = refl
      by false = refl

-- what was got by one entry more
pub gets-more : (job : Job) (core : Core) (journal : List Entry) (entry : Entry) → gets_from job core (journal ++ entry ∷ []) ≡ gets_from job core journal ++ gets_of job (replay_from job core journal) entry
gets-more job core [] entry = append-nil (gets_of job core entry)
gets-more job core (first ∷ journal) entry =
    ap (λ (gets : List Get). gets_of job core first ++ gets) (gets-more job (after job core first) journal entry)
    ∙ sym (append_assoc (gets_of job core first) (gets_from job (after job core first) journal) (gets_of job (replay_from job (after job core first) journal) entry))

-- ---- an entry that is turned down

-- why it is: another run comes back, and none that is longer; or another thread got what it gets
abbrev pub Comes : Job → Core → Lease → (count hit : ℕ) → Type 0
Comes job core lease count hit = IsAllowed job core (Put lease count hit) ⊎ IsAllowed job core (Part lease count hit)

abbrev pub Because : Job → Core → List Get → Lease → Told → Why → Type 0
Because job core got lease told (why.Ran other struck) =
    Comes job core lease other struck × ((later faults : ℕ) → Comes job core lease later faults → later ≤ other) × ((other ≡ told.count) × (struck ≡ told.hit) → ⊥)
Because job core got lease told why.OtherGot = OtherHas job core got lease told.count
Because job core got lease told why = ⊥

pub record IsTurnedDown (job : Job) (journal : List Entry) (lease : Lease) (told : Told) (why : Why) : Type 0 where
  pub refuses : IsAllowed job (replay job journal) (told_entry lease told) → (rows : Rows) → InRows rows (gets_from job (opening_core job) (journal ++ told_entry lease told ∷ [])) → ⊥
  pub reason : Because job (replay job journal) (gets_from job (opening_core job) journal) lease told why

-- a return is a put or a part
either-return : (job : Job) (core : Core) (lease : Lease) (count : ℕ) (came : Came) → IsAllowed job core (return_of lease count came) → Comes job core lease count 0
either-return job core lease count Quantum may = inl may
either-return job core lease count (Stopped stop) may = inl may
either-return job core lease count (Owned number) may = inr may
either-return job core lease count (Row number) may = inr may
either-return job core lease count (Full number) may = inr may

-- the run of what comes back, within the quantum
record IsWithin (job : Job) (core : Core) (lease : Lease) (count : ℕ) : Type 0 where
  ran : Ran job core lease count
  most : count ≤ job.settings.quantum

told-run : (job : Job) (core : Core) (lease : Lease) (told : Told) → IsAllowed job core (told_entry lease told) → IsWithin job core lease told.count
told-run job core lease told may = record { ran = told-ran job core lease told may; most = told-within job core lease told may }

its-run : (job : Job) (core : Core) (lease : Lease) (count hit : ℕ) → Comes job core lease count hit → IsWithin job core lease count
its-run job core lease count hit (inl may) = told-run job core lease (record { count = count; hit = hit; waits = false }) may
its-run job core lease count hit (inr may) = told-run job core lease (record { count = count; hit = hit; waits = true }) may

module _ {job : Job} {journal : List Entry} {lent new : Lent} {told : Told} {before after : List (Rank × ℕ)} {most count : ℕ} {came : Came}
    (run : IsRun job journal lent new told before after most count came) (short : count < told.count) where
  abbrev is : IsBounded job (replay job journal) lent
  is = run.loan

  abbrev ran : RunsFor most lent new before after count came
  ran = run.runs

  abbrev few : most ≡ min told.count job.settings.quantum
  few = run.most_is

  abbrev core : Core
  core = replay job journal

  abbrev layout : Layout
  layout = layout_in job.program core.kernel

  abbrev watchdog : ℕ
  watchdog = job.settings.watchdog

  abbrev lease : Lease
  lease = lent.lease

  abbrev peer : Peer
  peer = peer_of lent.partner.peer

  abbrev runs-by : PeerRuns layout watchdog most lease.thread (below lent.partner.ceilings.items (rows_in after)) peer (peer_of new.partner.peer) count came
  runs-by = as-job job core lent.partner.peer.replica most lease.thread (below lent.partner.ceilings.items (rows_in after)) peer (peer_of new.partner.peer) count came is.lends.program ran.runs

  abbrev end : Peer
  end = runs-by.end

  -- what the run comes back as
  its-return : Returned job core lease (came_back lease.thread came end) count came
  its-return = may-come job core lent is most (rows_in after) (peer_of new.partner.peer) count came runs-by came
      (came-early layout watchdog job.settings.quantum told.count most lease.thread count end came few short runs-by.came_by)

  -- where it waits there is a mutex of its number
  pub within-mutexes : IfSome (waiting_at came) (λ number. number < length new.partner.peer.mutexes)
  within-mutexes = subst (λ (p : Peer). IfSome (waiting_at came) (λ number. number < length p.mutexes)) (sym runs-by.new_is) its-return.within

  -- no run that is longer comes back
  abbrev NoneLater : Type 0
  NoneLater = (later : ℕ) → count < later → IsWithin job core lease later → ⊥

  -- it comes back so, and none that is longer does
  turned : (other struck : ℕ) → other ≡ count → struck ≡ 0 → NoneLater → IsTurnedDown job journal lease told (why.Ran other struck)
  turned other struck counts none over = record {
    refuses = λ may rows in_rows. over told.count short (told-run job core lease told may);
    reason = (
      subst (λ (n : ℕ). Comes job core lease other n) (sym none) (subst (λ (n : ℕ). Comes job core lease n 0) (sym counts) (either-return job core lease count came its-return.allowed)),
      λ later faults comes. by later (its-run job core lease later faults comes) (cases_order later count),
      λ same. (let all : other ≡ told.count = same.0 in omega arith),
    );
  }
    where
      by : (later : ℕ) → IsWithin job core lease later → (later ≡ count) ⊎ ((later < count) ⊎ (count < later)) → later ≤ other
      by later its (inl equal) = omega arith
      by later its (inr (inl less)) = omega arith
      by later its (inr (inr more)) = absurd (over later more its)

  -- and no run is so long
  none-so-long : leased layout (asker lease.thread) watchdog end lease.thread ≡ None → NoneLater
  none-so-long none later more its =
      let runs : lease_run job core lease later ≡ None =
      ap (option_and_then (λ (p : Peer). leased_run layout (asker lease.thread) watchdog later p lease.thread)) is.lends.there
      ∙ no-longer layout watchdog lease.thread count later peer end runs-by.runs more none in
      (let f : None ≡ Some its.ran.peer = sym runs ∙ its.ran.runs in cc)

  -- where its thread takes no step more
  stands : (other struck : ℕ) → other ≡ count → struck ≡ 0 → leased layout (asker lease.thread) watchdog end lease.thread ≡ None → IsTurnedDown job journal lease told (why.Ran other struck)
  stands other struck counts none still = turned other struck counts none (none-so-long still)

  -- a whole quantum is over
  is-over : (other struck : ℕ) → other ≡ count → struck ≡ 0 → came ≡ Quantum → IsTurnedDown job journal lease told (why.Ran other struck)
  is-over other struck counts none whole = turned other struck counts none (λ later more its. (
      let all : count ≡ most = subst (λ (c : Came). CameBy layout watchdog most lease.thread count end c) whole runs-by.came_by in
      let most_of = its.most in
      omega arith
      ))

  -- ---- at the lock of a free mutex

  module _ (number : ℕ) (row : came ≡ Row number) where
    same-end : peer_of new.partner.peer ≡ end
    same-end = runs-by.new_is ∙ ap (λ (c : Came). came_back lease.thread c end) row

    waits : (count < most) × LockWaits layout watchdog lease.thread end (Row number)
    waits = subst (λ (c : Came). CameBy layout watchdog most lease.thread count end c) row runs-by.came_by

    abbrev mutex : Mutex
    mutex = waits.1.0

    abbrev at : IsAtLock layout watchdog lease.thread end number mutex
    at = waits.1.1

    abbrev next-get : Get
    next-get = record { mutex = at.call.a0; rank = mutex.rank; thread = lease.thread }

    -- what it would get there, it gets in any longer run
    got-there : (longer : ℕ) → count < longer → (rest : List Get) × (lease_gets job core lease longer ≡ got_in layout watchdog count peer lease.thread ++ next-get ∷ rest)
    got-there longer less =
        let on = got-on layout watchdog lease.thread count longer peer end runs-by.runs less in (
          on.0,
          gets-are job core lease peer longer is.lends.there
              ∙ (on.1
              ∙ ap (λ (gets : List Get). got_in layout watchdog count peer lease.thread ++ (gets ++ on.0)) (gets-free layout watchdog lease.thread end at.call mutex at.standing at.locks at.own waits.1.2)),
        )

    -- the mutex had its number before the run
    its-number : number_of lent.partner.peer.mutexes at.call.a0 ≡ Some number
    its-number = sym ((run_kept layout (asker lease.thread) watchdog count peer end lease.thread runs-by.runs).numbers at.call.a0) ∙ at.numbered

    -- it is that which the peer has by its number
    its-mutex : (other : Mutex) → slice_get new.partner.peer.mutexes number ≡ Some other → other ≡ mutex
    its-mutex other there =
        some-injective (sym (at_its_number end.mutexes at.call.a0 number other at.numbered (ap (λ (p : Peer). slice_get p.mutexes number) (sym same-end) ∙ there)) ∙ at.own)

    -- its rank is too far ahead
    none-above : IsAbove new number → NoneLater
    none-above (found, there, above) later more its =
        let got = got-there later more in
        let near = all-middle (λ get. not (is_ahead core.sides get.mutex get.rank)) (got_in layout watchdog count peer lease.thread) next-get got.0
        (subst (λ (gets : List Get). list_all (λ get. not (is_ahead core.sides get.mutex get.rank)) gets ≡ true) got.1 its.ran.within) in
        let known = numbered lent.partner.peer.mutexes at.call.a0 number its-number in
        let small : mutex.rank + 1 < 2 ^ 32 = waits.1.3 in
        let less = ltb-true mutex.rank (slice_index_or lent.partner.ceilings.items number 0)
        (is.limits number mutex.rank known.mutex known.there (omega arith)
        ∙ (ap (λ (address : ℕ). not (is_ahead core.sides address mutex.rank)) known.address_is ∙ near)) in
        let same : found.rank ≡ mutex.rank = ap (λ (m : Mutex). m.rank) (its-mutex found there) in
        let over = subst (λ (ceilings : List ℕ). min (slice_index_or ceilings number 0) (2 ^ 32) ≤ found.rank) ran.same.ceilings above in
        omega arith

    is-above : (other struck : ℕ) → other ≡ count → struck ≡ 0 → IsAbove new number → IsTurnedDown job journal lease told (why.Ran other struck)
    is-above other struck counts none above = turned other struck counts none (none-above above)

    -- another thread got it
    module _ (legal : Legal job journal) (knows : AreGot (mutexes_in job journal) (gets_from job (opening_core job) journal) (rows_in before)) (others : IsOthers after new number) where
      abbrev other : ℕ
      other = others.2

      row-is : rows_in after number mutex.rank ≡ Some other
      row-is = ap (λ (m : Mutex). rows_in after number m.rank) (sym (its-mutex others.0 others.1)) ∙ others.3

      differs : other ≢ lease.thread
      differs e = others.4 (e ∙ ap (λ (l : Lease). l.thread) (sym ran.same.lease))

      -- by an entry before
      earlier : IsGet (mutexes_in job journal) (gets_from job (opening_core job) journal) number mutex.rank other
      earlier = its-get (mutexes_in job journal) (gets_from job (opening_core job) journal) number mutex.rank other (knows.among number mutex.rank other (by (ran.wins number mutex.rank other row-is)))
        where
          by : won_in before number mutex.rank other ⊎ IsAmong lent.partner.peer.mutexes (got_in lent.partner.peer.replica.layout lent.partner.peer.replica.watchdog count peer lease.thread) number mutex.rank other → rows_in before number mutex.rank ≡ Some other
          by (inl was) = was
          by (inr among) = absurd (none-by-other lent.partner.peer.mutexes _ number mutex.rank other lease.thread (by-run lent.partner.peer.replica.layout lent.partner.peer.replica.watchdog count peer lease.thread) differs among)

      same-address : earlier.get.mutex ≡ at.call.a0
      same-address =
          one-address (mutexes_in job journal) earlier.get.mutex at.call.a0 number earlier.numbered
          (same-numbers lent.partner.peer.mutexes (mutexes_in job journal) (same-as-first job core (mutexes-kept job journal legal) lease.replica peer is.lends.there) at.call.a0 number its-number)

      pub is-others : IsTurnedDown job journal lease told why.OtherGot
      is-others = record {
        refuses = λ may rows in_rows. (
            let all = rows-parts rows (gets_from job (opening_core job) journal) (lease_gets job core lease told.count)
            (subst (InRows rows) (gets-more job (opening_core job) journal (told_entry lease told) ∙ ap (λ (gets : List Get). gets_from job (opening_core job) journal ++ gets) (told-gets job core lease told)) in_rows) in
            let got = got-there told.count short in
            let inside = in-middle (got_in layout watchdog count peer lease.thread) next-get got.0 in
            let mine = its-row rows (got_in layout watchdog count peer lease.thread ++ next-get ∷ got.0) next-get inside.0 (subst (InRows rows) got.1 all.1) inside.1 inside.2 in
            let its = its-row rows (gets_from job (opening_core job) journal) earlier.get earlier.inside.0 all.0 earlier.inside.1 earlier.inside.2 in
            differs (some-injective (ap Some (sym earlier.thread_is) ∙ (sym its ∙ (ap (λ (address : ℕ). rows address earlier.get.rank) same-address ∙ (ap (λ (r : ℕ). rows at.call.a0 r) earlier.rank_is ∙ mine)))))
            );
        reason = record {
          by = suc count;
          within = omega arith;
          not_ended = is.lends.not_ended;
          get = next-get;
          gets = (let got = got-there (suc count) (omega arith) in subst (λ (gets : List Get). Contains gets next-get) (sym got.1) (in-middle (got_in layout watchdog count peer lease.thread) next-get got.0));
          before = earlier.get;
          had = earlier.inside;
          same_mutex = same-address;
          same_rank = earlier.rank_is;
          other_thread = λ e. differs (sym earlier.thread_is ∙ e);
        };
      }

  -- ---- however it came back

  -- the reason that is told is one
  pub turned-down : Legal job journal → AreGot (mutexes_in job journal) (gets_from job (opening_core job) journal) (rows_in before) → (reason : Why) → IsShort after new count came reason → IsTurnedDown job journal lease told reason
  turned-down legal knows reason so = by came refl runs-by.came_by reason so
    where
      by : (c : Came) → came ≡ c → CameBy layout watchdog most lease.thread count end c → (reason : Why) → IsShort after new count c reason → IsTurnedDown job journal lease told reason
      by Quantum same here (why.Ran instead struck) (counts, none) = is-over instead struck counts none same
      by (Stopped stop) same here (why.Ran instead struck) (counts, none) = stands instead struck counts none (stays-at-stop layout watchdog lease.thread end stop here.1 here.2)
      by (Owned number) same (less, (waited, lock, owner, owned, distinct)) (why.Ran instead struck) (counts, none) =
          stands instead struck counts none (stays-at-owned layout watchdog lease.thread end lock.call waited lock.standing lock.locks lock.own owner owned distinct)
      by (Row number) same here (why.Ran instead struck) (counts, none, above) = is-above number same instead struck counts none above
      by (Row number) same here why.OtherGot gained = is-others number same legal knows gained
      by c same here reason so = absurd so
