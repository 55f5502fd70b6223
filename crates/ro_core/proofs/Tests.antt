-- What the core's tests say, from its fields.
use Rattle.std.proofs.Common.{◌≡◌, ℕ, zero, suc, ◌<◌, Bool, true, false, true≢false, not, ◌&&◌, List, [], ◌∷◌, length, Option, Some, None, refl, sym, ap, ◌∙◌, subst, arith, inl, inr}
use Rattle.std.specs.Prelude.{IsSome, ◌==◌, is_none, is_some, slice_get, slice_index_or}
use Rattle.std.proofs.lemmas.Bool.{and_parts, and_left, and_right, leb-true}
use Rattle.std.proofs.lemmas.Option.{slice_get-get_or, slice_get_within}
use Rattle.std.specs.List.{list_all, list_any}
use Rattle.std.specs.Option.{option_and_then, option_map_or}
use Rattle.ro_event.specs.declared.calls.Call.{Call}
use Rattle.ro_event.specs.declared.stops.Stop.{Stop}
use Rattle.ro_thread.specs.declared.Thread.{Thread}
use Rattle.ro_kernel.specs.declared.Life.{Life}
use Rattle.ro_kernel.specs.Kernel.{Setup, Kernel, live_option, lives_on}
use Rattle.ro_kernel.specs.Serve.{serves}
use Rattle.ro_plain.specs.Machine.{setup_of}
use Rattle.ro_replica.specs.Replica.{Replica, stop_of}
use Rattle.ro_replica.specs.Views.{is_unstopped}
use Rattle.ro_replica.specs.Seen.{ReplicaOf, replica_of}
use Rattle.ro_legal.specs.declared.actions.Action.{Action}
use Rattle.ro_journal.specs.declared.Lease.{Lease}
use Rattle.ro_legal.specs.Core.{Job, Core, is_going, nothing_lent, is_home, offers, is_awake, is_lendable, may_vote, may_free}
use Rattle.ro_legal.specs.Waits.{is_overdue}
use Rattle.ro_legal.specs.Action.{lowest_below, threads_made, turn_of, has_turn, is_urgent, urgent_next}
use Rattle.ro_core.specs.Seen.{IsOfJob}
use Rattle.ro_core.specs.Fields.{Seated, AreSeated, AreHome, seat_unstopped, Fields, core_in, blocked_at, is_unblocked, Holds}
use Rattle.ro_core.specs.Grouped.{seat_stopped}
use Rattle.ro_group.specs.Groups.{is_ready}
use Rattle.ro_core.proofs.Grouped.{ready-all}
use Rattle.ro_core.proofs.Away.{home-stays, left-unoffered, whole-there, there-whole}
use Rattle.ro_legal.proofs.Leases.{lendable-is, asleep-unlent, awake-lendable}
use Rattle.ro_legal.proofs.Ordered.{ordered, vote-parts}
use Rattle.ro_legal.proofs.Lowest.{lowest-never, lowest-same}
use Rattle.ro_legal.proofs.Lists.{get-within}
use Rattle.ro_legal.proofs.Nexts.{TurnIs, is_voted, is_lent_in, has_none, turn_is, none_most}
use Rattle.ro_legal.proofs.Blocked.{AllAtCall, BlockedStand}
use Rattle.ro_legal.proofs.Misses.{blocked-stand}
use Rattle.ro_core.proofs.Sitting.{home-count}

told : (b : Bool) → not b ≡ false → b ≡ true
told true e = refl
told false e = absurd (true≢false e)

-- ---- a core that is busy

-- a core that does not go on, or has lent something, frees nobody, and votes on nobody
pub none-freed : (job : Job) (core : Core) (n : ℕ) → (is_going core && nothing_lent core) ≡ false → lowest_below n (may_free job core) ≡ None
none-freed job core n busy =
    lowest-never (may_free job core) n (λ k. ap (λ (b : Bool). b && option_map_or (λ call. serves (setup_of job.program) core.kernel k call) (core.blocked k) false) busy)

pub none-voted : (core : Core) (n : ℕ) → (is_going core && nothing_lent core) ≡ false → lowest_below n (may_vote core) ≡ None
none-voted core n busy =
    lowest-never (may_vote core) n (λ k. ap (λ (b : Bool). b && lives_on core.kernel k && is_none (core.blocked k) && list_all (λ replica. is_some (stop_of replica k)) core.replicas) busy)

-- ---- seats

-- at a place there is a replica of the program, and the core's
abbrev HomeAt : Job → Kernel → Option (Option ReplicaOf) → Option Replica → Type 0
HomeAt job kernel None o = Unit {0}
HomeAt job kernel (Some None) o = ⊥
HomeAt job kernel (Some (Some value)) o = IsOfJob job kernel value × (o ≡ Some (replica_of value))

home-at : (job : Job) (kernel : Kernel) (seats : List (Option ReplicaOf)) (replicas : List Replica) → length seats ≡ length replicas → ((n : ℕ) → HomeAt job kernel (slice_get seats n) (slice_get replicas n)) → AreHome job kernel seats replicas
home-at job kernel [] [] same each = tt
home-at job kernel [] (r ∷ replicas) same each = absurd (omega arith)
home-at job kernel (seat ∷ seats) [] same each = absurd (omega arith)
home-at job kernel (None ∷ seats) (r ∷ replicas) same each = absurd (each 0)
home-at job kernel (Some value ∷ seats) (r ∷ replicas) same each =
    let first = each 0 in (first.0, (let e : Some r ≡ Some (replica_of value) = first.1 in cc), home-at job kernel seats replicas (omega arith) (λ n. each (suc n)))

-- where nothing is lent every replica is in its seat
pub all-home : (job : Job) (core : Core) (seats : List (Option ReplicaOf)) → AreSeated job core seats → core.leases ≡ [] → AreHome job core.kernel seats core.replicas
all-home job core seats h none = home-at job core.kernel seats core.replicas h.count (λ n. by n (slice_get seats n) (h.each n))
  where
    home : (n : ℕ) → is_home core n ≡ true
    home n = ap (λ (ls : List Lease). not (list_any (λ lease. lease.replica == n) ls)) none

    by : (n : ℕ) (o : Option (Option ReplicaOf)) → Seated job core n o → HomeAt job core.kernel o (slice_get core.replicas n)
    by n None s = tt
    by n (Some None) s = true≢false (sym s ∙ home-stays core n (home n))
    by n (Some (Some value)) s = (s.own, whole-there job core n value s (home n))

-- and the other way round
pub seated-home : (job : Job) (core : Core) (seats : List (Option ReplicaOf)) → AreHome job core.kernel seats core.replicas → core.leases ≡ [] → AreSeated job core seats
seated-home job core seats h none = record { count = home-count job core.kernel seats core.replicas h; each = λ n. by n seats core.replicas h n (λ m e. e) }
  where
    home : (n : ℕ) → is_home core n ≡ true
    home n = ap (λ (ls : List Lease). not (list_any (λ lease. lease.replica == n) ls)) none

    by : (number : ℕ) (seats : List (Option ReplicaOf)) (replicas : List Replica) → AreHome job core.kernel seats replicas → (n : ℕ) → ((r : Option Replica) → slice_get replicas n ≡ r → slice_get core.replicas number ≡ r) → Seated job core number (slice_get seats n)
    by number [] [] h n same = tt
    by number (Some value ∷ seats) (r ∷ replicas) h zero same = there-whole job core number value r (home-stays core number (home number)) h.0 (same (Some r) refl) h.1
    by number (Some value ∷ seats) (r ∷ replicas) h (suc n) same = by number seats replicas h.2 n same
    by number seats replicas h n same = absurd h

pub stopped-home : (job : Job) (kernel : Kernel) (thread : ℕ) (seats : List (Option ReplicaOf)) (replicas : List Replica) → AreHome job kernel seats replicas → list_all (seat_stopped thread) seats ≡ list_all (λ replica. is_some (stop_of replica thread)) replicas
stopped-home job kernel thread [] [] h = refl
stopped-home job kernel thread (Some value ∷ seats) (r ∷ replicas) h =
    ap (λ (x : Replica). is_some (stop_of x thread) && list_all (seat_stopped thread) seats) h.1 ∙ ap (λ (b : Bool). is_some (stop_of r thread) && b) (stopped-home job kernel thread seats replicas h.2)
stopped-home job kernel thread seats replicas h = absurd h

-- ---- the tests

module _ (f : Fields) (h : Holds f) where
  pub leases-are : (core_in f).leases ≡ f.leases
  leases-are = sym h.leases_are

  pub kernel-is : (core_in f).kernel ≡ f.kernel.kernel
  kernel-is = sym h.kernel_is

  pub blocked-is : (thread : ℕ) → (core_in f).blocked thread ≡ blocked_at f.blocked thread
  blocked-is thread = sym (h.blocked_are thread)

  -- no replica answers calls by itself
  no-sides : (core_in f).sides ≡ []
  no-sides = (ordered f.job f.journal h.legal).no_sides

  -- what is left of the test of a vote where the rest holds
  pub vote-test : (thread : ℕ) → (is_going (core_in f) && nothing_lent (core_in f)) ≡ true → lives_on f.kernel.kernel thread ≡ true → (core_in f).blocked thread ≡ None → is_ready f.groups thread ≡ may_vote (core_in f) thread
  vote-test thread idle lives unblocked =
      let stopped : Bool = list_all (λ replica. is_some (stop_of replica thread)) (core_in f).replicas in
      let same : is_ready f.groups thread ≡ stopped = ready-all (core_in f).replicas f.groups thread h.groups_are in
      same
      ∙ sym (ap (λ (b : Bool). b && lives_on (core_in f).kernel thread && is_none ((core_in f).blocked thread) && stopped) idle
      ∙ ap (λ (b : Bool). true && b && is_none ((core_in f).blocked thread) && stopped) (ap (λ (k : Kernel). lives_on k thread) kernel-is ∙ lives)
      ∙ ap (λ (o : Option Call). true && true && is_none o && stopped) unblocked)

  -- and that of a free
  abbrev free-test : (thread : ℕ) → Bool → ℕ → Kernel → Option Call → Bool
  free-test thread going lent kernel call = going && (lent == 0) && option_map_or (λ c. serves (setup_of f.job.program) kernel thread c) call false

  -- a replica of the core has a seat
  pub seat-within : (replica : ℕ) → replica < length (core_in f).replicas → replica < length f.seats
  seat-within replica less = let c = h.seats_are.count in omega arith

  -- and that of a lease, by the seat in its place
  pub is-lendable-is : (replica thread : ℕ) (seat : Option ReplicaOf) → slice_get f.seats replica ≡ Some seat → (seat_unstopped thread seat && (lives_on f.kernel.kernel thread && offers (core_in f) replica thread)) ≡ is_lendable (core_in f) replica thread
  is-lendable-is replica thread seat there = by seat (subst (λ (o : Option (Option ReplicaOf)). Seated f.job (core_in f) replica o) there (h.seats_are.each replica)) ∙ awake-lendable (core_in f) replica thread no-sides
    where
      swap : (a b c : Bool) → (a && (b && c)) ≡ (c && b && a)
      swap true true true = refl
      swap true true false = refl
      swap true false true = refl
      swap true false false = refl
      swap false true true = refl
      swap false true false = refl
      swap false false true = refl
      swap false false false = refl

      by : (seat : Option ReplicaOf) → Seated f.job (core_in f) replica (Some seat) → (seat_unstopped thread seat && (lives_on f.kernel.kernel thread && offers (core_in f) replica thread)) ≡ is_awake (core_in f) replica thread
      by None away = sym (ap (λ (b : Bool). b && lives_on (core_in f).kernel thread && option_map_or (is_unstopped thread) (slice_get (core_in f).replicas replica) false) (left-unoffered (core_in f) replica thread away))
      by (Some value) s =
          swap (is_unstopped thread (replica_of value)) (lives_on f.kernel.kernel thread) (offers (core_in f) replica thread)
          ∙ ap (λ (k : Kernel). offers (core_in f) replica thread && lives_on k thread && is_unstopped thread (replica_of value)) (sym kernel-is)
          ∙ ap (λ (ts : List Thread). offers (core_in f) replica thread && lives_on (core_in f).kernel thread && option_map_or (λ (t : Thread). is_none t.stop) (slice_get ts thread) false) s.home.threads
          ∙ ap (λ (o : Option Replica). offers (core_in f) replica thread && lives_on (core_in f).kernel thread && option_map_or (is_unstopped thread) o false) (sym s.there)

  -- the run is over where its fields say so
  pub over-is : (b : Bool) → b ≡ is_some f.ended → is_some (core_in f).ended ≡ b
  over-is b e = ap is_some (sym h.ended_is) ∙ sym e

  pub made-is : threads_made (core_in f) ≡ length f.kernel.kernel.lives
  made-is = ap (λ (k : Kernel). length k.lives) kernel-is

  -- what is left of the test of a free where the core goes on and has lent nothing
  free-same : (is_going (core_in f) && nothing_lent (core_in f)) ≡ true → (thread : ℕ) → is_unblocked f.kernel.setup f.kernel.kernel f.blocked thread ≡ may_free f.job (core_in f) thread
  free-same idle thread =
      ap (λ (s : Setup). option_map_or (λ call. serves s f.kernel.kernel thread call) (blocked_at f.blocked thread) false) h.setup_is
      ∙ ap (λ (k : Kernel). option_map_or (λ call. serves (setup_of f.job.program) k thread call) (blocked_at f.blocked thread) false) h.kernel_is
      ∙ ap (λ (o : Option Call). option_map_or (λ call. serves (setup_of f.job.program) (core_in f).kernel thread call) o false) (h.blocked_are thread)
      ∙ ap (λ (b : Bool). b && option_map_or (λ call. serves (setup_of f.job.program) (core_in f).kernel thread call) ((core_in f).blocked thread) false) (sym idle)

  pub freed-is : (is_going (core_in f) && nothing_lent (core_in f)) ≡ true → f.unblocked ≡ lowest_below (threads_made (core_in f)) (may_free f.job (core_in f))
  freed-is idle =
      h.unblocked_is ∙ lowest-same (is_unblocked f.kernel.setup f.kernel.kernel f.blocked) (may_free f.job (core_in f)) (length f.kernel.kernel.lives) (free-same idle)
      ∙ ap (λ (n : ℕ). lowest_below n (may_free f.job (core_in f))) (sym made-is)

  -- and of a lease, by the seat in its place
  pub lendable-at : (replica thread : ℕ) → replica < length (core_in f).replicas → (seat_unstopped thread (slice_index_or f.seats replica None) && (lives_on f.kernel.kernel thread && offers (core_in f) replica thread)) ≡ is_lendable (core_in f) replica thread
  lendable-at replica thread less = is-lendable-is replica thread (slice_index_or f.seats replica None) (slice_get-get_or f.seats replica None (seat-within replica less))

  -- a thread that has exited, or stands still in every replica, can be lent in none
  pub gone : (thread : ℕ) → lives_on f.kernel.kernel thread ≡ false → (replica : ℕ) → is_lendable (core_in f) replica thread ≡ false
  gone thread dead replica = asleep-unlent (core_in f) replica thread
      (and_left (offers (core_in f) replica thread && lives_on (core_in f).kernel thread) (option_map_or (is_unstopped thread) (slice_get (core_in f).replicas replica) false)
      (and_right (offers (core_in f) replica thread) (lives_on (core_in f).kernel thread) (ap (λ (k : Kernel). lives_on k thread) kernel-is ∙ dead)))

  pub standing : (thread : ℕ) → not (is_ready f.groups thread) ≡ false → (replica : ℕ) → is_lendable (core_in f) replica thread ≡ false
  standing thread ready replica = asleep-unlent (core_in f) replica thread
      (and_right (offers (core_in f) replica thread && lives_on (core_in f).kernel thread) (option_map_or (is_unstopped thread) (slice_get (core_in f).replicas replica) false)
      (unstopped (core_in f).replicas replica (sym (ready-all (core_in f).replicas f.groups thread h.groups_are) ∙ told (is_ready f.groups thread) ready)))
    where
      one : (r : Replica) → is_some (stop_of r thread) ≡ true → is_unstopped thread r ≡ false
      one r e = by (slice_get r.threads thread) e
        where
          stop : (s : Option Stop) → is_some s ≡ true → is_none s ≡ false
          stop None e = absurd (true≢false (sym e))
          stop (Some x) e = refl

          by : (o : Option Thread) → is_some (option_and_then (λ (t : Thread). t.stop) o) ≡ true → option_map_or (λ (t : Thread). is_none t.stop) o false ≡ false
          by None e = refl
          by (Some t) e = stop t.stop e

      unstopped : (rs : List Replica) (n : ℕ) → list_all (λ (r : Replica). is_some (stop_of r thread)) rs ≡ true → option_map_or (is_unstopped thread) (slice_get rs n) false ≡ false
      unstopped [] n all = refl
      unstopped (r ∷ rs) zero all = one r (and_parts (is_some (stop_of r thread)) (list_all (λ (x : Replica). is_some (stop_of x thread)) rs) all).0
      unstopped (r ∷ rs) (suc n) all = unstopped rs n (and_parts (is_some (stop_of r thread)) (list_all (λ (x : Replica). is_some (stop_of x thread)) rs) all).1

  -- a thread that is blocked, or has exited, can't be voted on
  pub blocked-unvoted : (thread : ℕ) (call : Call) → (core_in f).blocked thread ≡ Some call → may_vote (core_in f) thread ≡ false
  blocked-unvoted thread call e =
      and_left (is_going (core_in f) && nothing_lent (core_in f) && lives_on (core_in f).kernel thread && is_none ((core_in f).blocked thread)) (list_all (λ replica. is_some (stop_of replica thread)) (core_in f).replicas)
      (and_right (is_going (core_in f) && nothing_lent (core_in f) && lives_on (core_in f).kernel thread) (is_none ((core_in f).blocked thread)) (ap is_none e))

  pub gone-unvoted : (thread : ℕ) → lives_on f.kernel.kernel thread ≡ false → may_vote (core_in f) thread ≡ false
  gone-unvoted thread dead =
      and_left (is_going (core_in f) && nothing_lent (core_in f) && lives_on (core_in f).kernel thread && is_none ((core_in f).blocked thread)) (list_all (λ replica. is_some (stop_of replica thread)) (core_in f).replicas)
      (and_left (is_going (core_in f) && nothing_lent (core_in f) && lives_on (core_in f).kernel thread) (is_none ((core_in f).blocked thread))
      (and_right (is_going (core_in f) && nothing_lent (core_in f)) (lives_on (core_in f).kernel thread) (ap (λ (k : Kernel). lives_on k thread) kernel-is ∙ dead)))

  -- there are as many replicas as settings say
  pub count-is : length (core_in f).replicas ≡ f.job.settings.replicas
  count-is = (ordered f.job f.journal h.legal).replica_count

-- ---- who may be urgent

-- a live thread was made
pub lives-within : (kernel : Kernel) (thread : ℕ) → lives_on kernel thread ≡ true → thread < length kernel.lives
lives-within kernel thread e = by (slice_get kernel.lives thread) refl e
  where
    by : (o : Option Life) → slice_get kernel.lives thread ≡ o → live_option o ≡ true → thread < length kernel.lives
    by None f g = absurd (true≢false (sym g))
    by (Some life) f g = slice_get_within kernel.lives thread life f

-- so was one that can be lent
pub lent-made : (core : Core) (replica thread : ℕ) → is_lendable core replica thread ≡ true → thread < threads_made core
lent-made core replica thread e = lives-within core.kernel thread (lendable-is core replica thread e).lives

-- a thread that stands at a call in a replica can't be lent in it
stands-unlent : (core : Core) (replica thread : ℕ) → AllAtCall thread core.replicas → is_lendable core replica thread ≡ true → ⊥
stands-unlent core replica thread stands e =
    let there = lendable-is core replica thread e in
    let at = stands replica there.value there.there in
    true≢false (sym there.unstopped ∙ ap (λ (o : Option Thread). option_map_or (λ (t : Thread). is_none t.stop) o false) at.there ∙ ap is_none at.at)

-- a thread that has a turn lives, and is not blocked
turn-open : (job : Job) (core : Core) (thread : ℕ) → BlockedStand core → is_some (turn_of core thread) ≡ true → (lives_on core.kernel thread ≡ true) × (core.blocked thread ≡ None)
turn-open job core thread stand some = by (turn_of core thread) (turn_is core thread) some
  where
    unblocked : (replica : ℕ) → is_lendable core replica thread ≡ true → (o : Option Call) → core.blocked thread ≡ o → core.blocked thread ≡ None
    unblocked replica may None e = e
    unblocked replica may (Some call) e = absurd (stands-unlent core replica thread (stand thread call e) may)

    by : (o : Option Action) → TurnIs core thread o → is_some o ≡ true → (lives_on core.kernel thread ≡ true) × (core.blocked thread ≡ None)
    by _ (is_voted may) e = ((vote-parts core thread may).live, (vote-parts core thread may).unblocked)
    by _ (is_lent_in {replica = r} under may) e = ((lendable-is core r thread may).lives, unblocked r may (core.blocked thread) refl)
    by _ (has_none unvoted unlent) e = absurd (true≢false (sym e))

-- before the votes that were noted none is urgent
module _ (f : Fields) (h : Holds f) (early : f.waits.votes < f.calm) where
  none-urgent : (t : ℕ) → t < threads_made (core_in f) → is_urgent (core_in f) t ≡ false
  none-urgent t less = by (is_urgent (core_in f) t) refl
    where
      low : t < 16
      low = let few = (ordered f.job f.journal h.legal).few_lives in omega arith

      by : (b : Bool) → is_urgent (core_in f) t ≡ b → is_urgent (core_in f) t ≡ false
      by false e = e
      by true e =
          let parts = and_parts (is_overdue ((core_in f).waited t)) (is_some (turn_of (core_in f) t)) e in
          let goes = turn-open f.job (core_in f) t (blocked-stand f.job f.journal h.legal) parts.1 in
          let noted = get-within f.waits.since t (let n = h.waits_are.are.count in let l = low in omega arith) in
          let since = h.waits_are.are.each t noted.0 noted.1 in
          let soon = h.calm_is.each t noted.0 noted.1 (ap (λ (k : Kernel). lives_on k t) (sym (kernel-is f h)) ∙ goes.0) (sym (blocked-is f h t) ∙ goes.1) in
          let long = leb-true 64 ((core_in f).waited t) parts.0 in
          absurd (omega arith)

  pub calm-none : urgent_next (core_in f) ≡ None
  calm-none = ap (option_and_then (turn_of (core_in f))) (none_most (core_in f) (has_turn (core_in f)) (threads_made (core_in f)) none-urgent)
