-- A legal journal of a cooperative run's rules is a legal journal of this theory.
use Rattle.std.specs.Prelude.{◌≡◌, ◌≢◌, ◌⊎◌, ℕ, zero, suc, Bool, true, false, ◌&&◌, ◌||◌, not, cond, ◌==◌, List, [], ◌∷◌, ◌++◌, length, map, take, replicate, Option, Some, None, is_some, is_none, slice_get, slice_set}
use Rattle.std.specs.List.{list_all, filter_map, cons_option}
use Rattle.std.specs.Option.{option_and_then, option_map, option_map_or}
use Rattle.std.proofs.Common.{refl, sym, ap, ◌∙◌, subst, inl, inr, ⊎_elim, arith}
use Rattle.std.proofs.lemmas.Bool.{false≢true, and_parts, and_from, ne_eqb}
use Rattle.std.proofs.lemmas.Option.{option_and_then_some, slice_get_within}
use Rattle.ro_event.specs.declared.calls.Call.{Call}
use Rattle.ro_event.specs.declared.calls.Which.{Which}
use Rattle.ro_event.specs.declared.calls.Which.TheVariants.{System, Function, Atomic}
use Rattle.ro_event.specs.declared.stops.Stop.{Stop}
use Rattle.ro_event.specs.Effects.{Effect}
use Rattle.ro_event.specs.Views.{View}
use Rattle.ro_region.specs.declared.Range.{Range}
use Rattle.ro_journal.specs.declared.Did.{Did}
use Rattle.ro_journal.specs.declared.How.{How}
use Rattle.ro_journal.specs.declared.How.TheVariants.{Deadlock, Limit, Differ, Sink}
use Rattle.ro_journal.specs.declared.losers.Lost.{Lost}
use Rattle.ro_journal.specs.declared.Lease.{Lease}
use Rattle.ro_journal.specs.declared.Entry.{Entry}
use Rattle.ro_journal.specs.declared.Entry.TheVariants.{Take, Put, Part, Vote, Free, Scrub, End}
use Rattle.ro_kernel.specs.declared.reservations.Reservation.{Reservation}
use Rattle.ro_kernel.specs.Kernel.{Setup, Kernel, lives_on, ranges_in, released}
use Rattle.ro_kernel.specs.Reserved.{reservation_of}
use Rattle.ro_kernel.proofs.Kept.{IsServed, atomic-served}
use Rattle.ro_kernel.specs.Serve.{Served, Done, Parked, Blocked, Ends, serve_by, serve_which, serve, is_blocked, is_served, blocks}
use Rattle.ro_thread.specs.declared.Thread.{Thread}
use Rattle.ro_replica.specs.Replica.{Replica, opening_replica, stop_of}
use Rattle.ro_replica.specs.Views.{is_unstopped, view_with, view_of}
use Rattle.ro_plain.specs.Machine.{setup_of, opening, run}
use Rattle.ro_plain.specs.Order.{RaceFree}
use Rattle.ro_plain.proofs.Calls.{some-injective}
use Rattle.ro_orders.specs.Turns.{OfMutex, order_of}
use Rattle.ro_orders.specs.Choices.{chosen_of}
use Rattle.ro_orders.specs.Copies.{Rows}
use Rattle.ro_orders.proofs.Tables.{chosen-by-locks}
use Rattle.ro_peer.specs.declared.mutexes.Mutex.{Mutex}
use Rattle.ro_peer.specs.Peers.{Peer}
use Rattle.ro_peer.specs.Gets.{InRows}
use Rattle.ro_settings.specs.declared.Settings.{Settings}
use Rattle.ro_settings.specs.Ranges.{InRange}
use Rattle.ro_legal.specs.Core.{Job as Asked, Core as Run, is_going, nothing_lent, is_home, offers, may_vote, may_free, opening_replicas, opening_core as opening_voted}
use Rattle.ro_legal.specs.Event.{Event}
use Rattle.ro_legal.specs.Sides.{Side, opening_side, peer_with, peers_of}
use Rattle.ro_legal.specs.Cooperative as rules
use Rattle.ro_legal.proofs.Leases.{lendable-awake, offers-home}
use Rattle.ro_legal.proofs.Ordered.{VoteParts, length-opening, vote-parts, free-parts, going-parts}
use Rattle.std.proofs.lemmas.List.{length-set, length-replicate}
use Rattle.ro_legal.proofs.Lists.{length-changed, length-mapped, get-all, get-within}
use Rattle.ro_coop.specs.Core.{Core, opening_peer, opening_core, ranges_here, after, is_outcome, MayTake, MayVote, MayFree, IsAllowed, LegalFrom, Steps, lease_steps, steps_after, steps_from, first_of}
use Rattle.ro_coop.specs.Rowless.{rows_for, got_by}
use Rattle.ro_coop.specs.Sound.{core_behind}
use Rattle.ro_coop.specs.Runs.{IsExecutionOf}
use Rattle.ro_coop.proofs.Rowless.{in-front, entry-so}
use Rattle.ro_coop.proofs.Ended.{kept_one}
use Rattle.ro_coop.proofs.Journal.{legal-sound, legal-views, legal-lapse}
use Rattle.ro_coop.specs.Stuck.{Stopped}
use Rattle.ro_coop.proofs.Seen.{as-job, seen, as-put, peers-get, peer-parts, gets-same, may-put, put-same, part-same, peer-of, kernel-same, event-same, voted-same, freed-same}

-- what there is
some-from : {X : Type 0} (o : Option X) → is_some o ≡ true → (x : X) × (o ≡ Some x)
some-from (Some x) e = (x, refl)
some-from None e = absurd (false≢true e)

-- ---- views

shown-some : (ranges : List Range) (thread : ℕ) (r : Replica) → is_some (stop_of r thread) ≡ true → is_some (view_of ranges thread r) ≡ true
shown-some ranges thread r e = by (slice_get r.threads thread) e
  where
    one : (x : Thread) (o : Option Stop) → is_some o ≡ true → is_some (option_map (view_with ranges r x) o) ≡ true
    one x None f = f
    one x (Some stop) f = refl

    by : (o : Option Thread) → is_some (option_and_then (λ (x : Thread). x.stop) o) ≡ true → is_some (option_and_then (λ (x : Thread). option_map (view_with ranges r x) x.stop) o) ≡ true
    by None f = f
    by (Some x) f = one x x.stop f

-- where all views are one, each replica's is
pub shown-one : (ranges : List Range) (thread : ℕ) (view : View) (replicas : List Replica) → rules.AreAll view (filter_map (view_of ranges thread) replicas) → (n : ℕ) (r : Replica) → slice_get replicas n ≡ Some r → is_some (stop_of r thread) ≡ true → view_of ranges thread r ≡ Some view
shown-one ranges thread view [] all n r e some = absurd (let f : None ≡ Some r = e in cc)
shown-one ranges thread view (x ∷ replicas) all zero r e some =
    by (view_of ranges thread x) refl all (ap (λ (y : Replica). is_some (view_of ranges thread y)) (some-injective e) ∙ shown-some ranges thread r some)
  where
    by : (o : Option View) → view_of ranges thread x ≡ o → rules.AreAll view (cons_option o (filter_map (view_of ranges thread) replicas)) → is_some o ≡ true → view_of ranges thread r ≡ Some view
    by None f h s = absurd (false≢true s)
    by (Some v) f h s = ap (view_of ranges thread) (sym (some-injective e)) ∙ (f ∙ ap (λ (w : View). Some w) h.0)
shown-one ranges thread view (x ∷ replicas) all (suc n) r e some = shown-one ranges thread view replicas (rest (view_of ranges thread x) all) n r e some
  where
    rest : (o : Option View) → rules.AreAll view (cons_option o (filter_map (view_of ranges thread) replicas)) → rules.AreAll view (filter_map (view_of ranges thread) replicas)
    rest None h = h
    rest (Some v) h = h.1

-- and the other way
all-shown : (ranges : List Range) (thread : ℕ) (view : View) (replicas : List Replica) → ((n : ℕ) (r : Replica) → slice_get replicas n ≡ Some r → view_of ranges thread r ≡ Some view) → rules.AreAll view (filter_map (view_of ranges thread) replicas)
all-shown ranges thread view [] each = tt
all-shown ranges thread view (x ∷ replicas) each =
    subst (λ (o : Option View). rules.AreAll view (cons_option o (filter_map (view_of ranges thread) replicas))) (sym (each 0 x refl)) (refl, all-shown ranges thread view replicas (λ n r e. each (suc n) r e))

-- ---- answers

-- a reservation that both leave alike is ended by both or by none
kept-same : (x : Reservation) (one other : Bool) → kept_one one (Some x) ≡ kept_one other (Some x) → one ≡ other
kept-same x true true e = refl
kept-same x false false e = refl
kept-same x true false e = absurd (let f : None ≡ Some x = e in cc)
kept-same x false true e = absurd (let f : None ≡ Some x = sym e in cc)

all-as : (told : Bool → Bool) (thread : ℕ) (b : Bool) (sides : List Side) → ((n : ℕ) (side : Side) → slice_get sides n ≡ Some side → side.answered thread ≡ b) → told b ≡ true → list_all (λ (side : Side). told (side.answered thread)) sides ≡ true
all-as told thread b [] each so = refl
all-as told thread b (s ∷ sides) each so = and_from _ _ (ap told (each 0 s refl) ∙ so) (all-as told thread b sides (λ n side e. each (suc n) side e) so)

or-right : (a b : Bool) → b ≡ true → (a || b) ≡ true
or-right true b e = refl
or-right false b e = e

alike-sides : (thread : ℕ) (sides : List Side) → ((n m : ℕ) (one other : Side) → slice_get sides n ≡ Some one → slice_get sides m ≡ Some other → one.answered thread ≡ other.answered thread) → rules.answered_alike thread sides ≡ true
alike-sides thread [] same = refl
alike-sides thread (s ∷ sides) same = by (s.answered thread) refl
  where
    by : (b : Bool) → s.answered thread ≡ b → rules.answered_alike thread (s ∷ sides) ≡ true
    by true is = ap (λ (c : Bool). c || list_all (λ (side : Side). not (side.answered thread)) (s ∷ sides)) (all-as (λ b. b) thread true (s ∷ sides) (λ n side e. same n 0 side s e refl ∙ is) refl)
    by false is = or-right (list_all (λ (side : Side). side.answered thread) (s ∷ sides)) _ (all-as not thread false (s ∷ sides) (λ n side e. same n 0 side s e refl ∙ is) refl)

-- ---- a call that is served blocks neither in the kernel that serves it

twice : {X : Type 0} (xs : List X) (n : ℕ) (x : X) → slice_set (slice_set xs n x) n x ≡ slice_set xs n x
twice [] n x = refl
twice (y ∷ ys) zero x = refl
twice (y ∷ ys) (suc n) x = ap (λ zs. y ∷ zs) (twice ys n x)

pub released-twice : (kernel : Kernel) (thread : ℕ) → released (released kernel thread) thread ≡ released kernel thread
released-twice kernel thread = ap (λ rs. record kernel { reserved = rs }) (twice kernel.reserved thread None)

is-open : (served : Served) → IsServed served → is_blocked served ≡ false
is-open (Done kernel effect) h = refl
is-open (Parked kernel) h = refl
is-open Blocked h = elim h [ ]
is-open (Ends kernel how) h = refl

blocks-released : (setup : Setup) (kernel : Kernel) (thread : ℕ) (call : Call) → blocks setup kernel thread call ≡ false → blocks setup (released kernel thread) thread call ≡ false
unfolding serve
blocks-released setup kernel thread call e = by call.which refl e
  where
    by : (which : Which) → call.which ≡ which → is_blocked (serve_which setup kernel thread call which) ≡ false → is_blocked (serve_which setup (released kernel thread) thread call which) ≡ false
    by (System number) w f = ap (λ (k : Kernel). is_blocked (serve_by setup k thread call None (System number))) (released-twice kernel thread) ∙ f
    by (Function function) w f = ap (λ (k : Kernel). is_blocked (serve_by setup k thread call None (Function function))) (released-twice kernel thread) ∙ f
    by (Atomic word) w f = ap (λ (x : Which). is_blocked (serve_which setup (released kernel thread) thread call x)) (sym w) ∙ is-open _ (atomic-served setup (released kernel thread) thread call word w)

-- one that blocks does so there too
pub released-blocks : (setup : Setup) (kernel : Kernel) (thread : ℕ) (call : Call) → blocks setup kernel thread call ≡ true → blocks setup (released kernel thread) thread call ≡ true
unfolding serve
released-blocks setup kernel thread call e = by call.which refl e
  where
    by : (which : Which) → call.which ≡ which → is_blocked (serve_which setup kernel thread call which) ≡ true → is_blocked (serve_which setup (released kernel thread) thread call which) ≡ true
    by (System number) w f = ap (λ (k : Kernel). is_blocked (serve_by setup k thread call None (System number))) (released-twice kernel thread) ∙ f
    by (Function function) w f = ap (λ (k : Kernel). is_blocked (serve_by setup k thread call None (Function function))) (released-twice kernel thread) ∙ f
    by (Atomic word) w f = absurd (false≢true (sym (ap (λ (x : Which). is_blocked (serve_which setup kernel thread call x)) (sym w) ∙ is-open _ (atomic-served setup kernel thread call word w)) ∙ f))

served-open : (served : Served) → is_served served ≡ true → is_blocked served ≡ false
served-open (Done kernel effect) e = refl
served-open (Parked kernel) e = absurd (false≢true e)
served-open Blocked e = absurd (false≢true e)
served-open (Ends kernel how) e = refl

-- ---- what is allowed

module _ (job : Asked) (core : Run) (as_many : length core.sides ≡ length core.replicas) where
  take-may : core.sharing ≡ None → (lease : Lease) → rules.IsAllowed job core (Take lease) → MayTake (seen core) lease
  take-may whole lease m = record {
    going = m.going;
    lives = offered.1;
    unstopped = there (slice_get core.replicas lease.replica) refl parts.1;
    home = home;
  }
    where
      parts : ((offers core lease.replica lease.thread && lives_on core.kernel lease.thread) ≡ true) × (option_map_or (is_unstopped lease.thread) (slice_get core.replicas lease.replica) false ≡ true)
      parts = and_parts _ _ (lendable-awake core lease.replica lease.thread m.lendable)

      offered : (offers core lease.replica lease.thread ≡ true) × (lives_on core.kernel lease.thread ≡ true)
      offered = and_parts _ _ parts.0

      home : is_home core lease.replica ≡ true
      home = sym (offers-home core lease.replica lease.thread whole) ∙ offered.0

      there : (o : Option Replica) → slice_get core.replicas lease.replica ≡ o → option_map_or (is_unstopped lease.thread) o false ≡ true → option_map_or (λ (peer : Peer). is_unstopped lease.thread peer.replica) (slice_get (peers_of core.replicas core.sides) lease.replica) false ≡ true
      there None e f = absurd (false≢true f)
      there (Some replica) e f = let p = peer-of job core as_many lease.thread lease.replica replica e in ap (λ (o : Option Peer). option_map_or (λ (peer : Peer). is_unstopped lease.thread peer.replica) o false) p.2 ∙ f

  -- a vote on which all agree, whether the limit leaves room for it or not
  pub vote-open : (thread : ℕ) → may_vote core thread ≡ true → (view : View) → rules.AgreeOn job core thread view → (event : Event) → rules.voted_event job core thread ≡ Some event → (did : Did) → event.did ≡ did → MayVote (as-job job) (seen core) thread did
  vote-open thread may view agreed event comes did did_is =
      let p = vote-parts core thread may in
      record {
        going = p.going;
        nothing_lent = p.alone;
        lives = p.live;
        not_blocked = p.unblocked;
        view = view;
        agreed = λ n peer e.
            let q = peer-parts core n peer (sym (peers-get core.replicas core.sides n) ∙ e) in
            let stopped = get-all (λ (r : Replica). is_some (stop_of r thread)) core.replicas (and_parts _ _ may).1 n q.replica q.here in
            ap (λ (x : Peer). view_of (ranges_here (as-job job) (seen core)) thread x.replica) (sym q.is) ∙ shown-one _ thread view core.replicas agreed.0 n q.replica q.here stopped;
        event = event;
        comes = event-same job core as_many thread ∙ comes;
        did_is = did_is;
      }

  vote-may : (thread count won : ℕ) (lost : Lost) (did : Did) → rules.MayVote job core thread count won lost did → MayVote (as-job job) (seen core) thread did
  vote-may thread count won lost did m = vote-open thread m.may m.view m.agreed m.event m.comes did m.did_is

  -- the same of a free
  pub free-open : (thread : ℕ) → may_free job core thread ≡ true → MayFree (as-job job) (seen core) thread
  free-open thread may =
      let p = free-parts job core thread may in
      record {
        going = p.going;
        nothing_lent = p.alone;
        call = p.call;
        is_blocked = p.blocked_on;
        frees = ap (λ (k : Kernel). blocks (setup_of job.program) k thread p.call) (kernel-same job core as_many thread) ∙ in-either (slice_get core.sides 0) p.call (served-open _ p.goes_on);
      }
    where
      bit : (b : Bool) (call : Call) → blocks (setup_of job.program) core.kernel thread call ≡ false → blocks (setup_of job.program) (cond b (released core.kernel thread) core.kernel) thread call ≡ false
      bit true call e = blocks-released (setup_of job.program) core.kernel thread call e
      bit false call e = e

      in-either : (o : Option Side) (call : Call) → blocks (setup_of job.program) core.kernel thread call ≡ false → blocks (setup_of job.program) (option_map_or (λ (side : Side). cond (side.answered thread) (released core.kernel thread) core.kernel) o core.kernel) thread call ≡ false
      in-either None call e = e
      in-either (Some side) call e = bit (side.answered thread) call e

  free-may : (thread : ℕ) → rules.MayFree job core thread → MayFree (as-job job) (seen core) thread
  free-may thread m = free-open thread m.may

  end-may : (how : How) → rules.MayEnd job core how → (core.due ≡ Some how) ⊎ ((core.due ≡ None) × (is_outcome how ≡ false))
  end-may how (rules.due e) = inl e
  end-may Deadlock (rules.alone e) = inr ((going-parts core (and_parts _ _ (and_parts _ _ e).0).0).0, refl)
  end-may (Sink bytes) (rules.alone e) = inr ((going-parts core e.0).0, refl)
  end-may how (rules.alone e) = absurd e
  end-may Differ (rules.for_vote thread may e) = inr ((vote-parts core thread may).not_due, refl)
  end-may (Limit steps next) (rules.for_vote thread may e) = inr ((vote-parts core thread may).not_due, refl)
  end-may how (rules.for_vote thread may e) = absurd e
  end-may (Limit steps next) (rules.for_free thread may e) = inr ((free-parts job core thread may).not_due, refl)
  end-may how (rules.for_free thread may e) = absurd e

  -- an entry that is no end
  pub entry-may : core.sharing ≡ None → (entry : Entry) → ((how : How) → entry ≢ End how) → rules.IsAllowed job core entry → IsAllowed (as-job job) (rows_for (as-put entry)) (seen core) (as-put entry)
  entry-may whole (Take lease) never m = take-may whole lease m
  entry-may whole (Put lease count hit) never m = may-put job core lease count m.ran
  entry-may whole (Part lease count hit) never m = may-put job core lease count m.ran
  entry-may whole (Vote thread count won lost did) never m = vote-may thread count won lost did m
  entry-may whole (Free thread) never m = free-may thread m
  entry-may whole (Scrub won lost) never m = absurd m
  entry-may whole (End how) never m = absurd (never how refl)

  pub entry-same : (entry : Entry) → ((how : How) → entry ≢ End how) → rules.IsAllowed job core entry → after (as-job job) (rows_for (as-put entry)) (seen core) (as-put entry) ≡ seen (rules.after job core entry)
  unfolding rules.after
  entry-same (Take lease) never m = refl
  entry-same (Put lease count hit) never m = put-same job core lease count m.ran
  entry-same (Part lease count hit) never m = part-same job core lease count m.ran m.waits
  entry-same (Vote thread count won lost did) never m = voted-same job core as_many thread
  entry-same (Free thread) never m = freed-same job core as_many thread
  entry-same (Scrub won lost) never m = refl
  entry-same (End how) never m = absurd (never how refl)

  pub got-same : (entry : Entry) → got_by (as-job job) (seen core) (as-put entry) ≡ rules.gets_of job core entry
  got-same (Take lease) = refl
  got-same (Put lease count hit) = gets-same job core lease count
  got-same (Part lease count hit) = gets-same job core lease count
  got-same (Vote thread count won lost did) = refl
  got-same (Free thread) = refl
  got-same (Scrub won lost) = refl
  got-same (End how) = refl

-- ---- each replica has what it has beside

length-after : (effect : Effect) (entered : List Mutex) (replicas : List Replica) (sides : List Side) → length sides ≡ length replicas → length (rules.replicas_after effect entered replicas sides) ≡ length replicas
length-after effect entered [] sides e = refl
length-after effect entered (r ∷ replicas) [] e = absurd (omega arith)
length-after effect entered (r ∷ replicas) (s ∷ sides) e = let rest = length-after effect entered replicas sides (omega arith) in omega arith

pub event-many : (job : Asked) (core : Run) (thread : ℕ) (stop : Option Stop) (o : Option Event) → length core.sides ≡ length core.replicas → length (rules.core_after_event job core thread stop o).sides ≡ length (rules.core_after_event job core thread stop o).replicas
event-many job core thread stop None e = e
event-many job core thread stop (Some event) e = length-mapped _ core.sides ∙ (e ∙ sym (length-after event.effect _ core.replicas core.sides e))

event-count : (job : Asked) (core : Run) (thread : ℕ) (stop : Option Stop) (o : Option Event) → length core.sides ≡ length core.replicas → length (rules.core_after_event job core thread stop o).replicas ≡ length core.replicas
event-count job core thread stop None e = refl
event-count job core thread stop (Some event) e = length-after event.effect _ core.replicas core.sides e

pub as-many-after : (job : Asked) (core : Run) (entry : Entry) → length core.sides ≡ length core.replicas → length (rules.after job core entry).sides ≡ length (rules.after job core entry).replicas
unfolding rules.after
as-many-after job core (Take lease) e = e
as-many-after job core (Put lease count hit) e = by (rules.lease_run job core lease count)
  where
    by : (o : Option Peer) → length (rules.core_after_put job core lease count o).sides ≡ length (rules.core_after_put job core lease count o).replicas
    by None = e
    by (Some peer) = length-changed _ core.sides lease.replica ∙ (e ∙ sym (length-set core.replicas lease.replica _))
as-many-after job core (Part lease count hit) e = by (rules.lease_run job core lease count)
  where
    by : (o : Option Peer) → length (rules.core_after_part job core lease count o).sides ≡ length (rules.core_after_part job core lease count o).replicas
    by None = e
    by (Some peer) = length-changed _ core.sides lease.replica ∙ (e ∙ sym (length-set core.replicas lease.replica _))
as-many-after job core (Vote thread count won lost did) e = event-many job core thread (rules.voted_stop core thread) (rules.voted_event job core thread) e
as-many-after job core (Free thread) e = event-many job core thread _ (rules.freed_event job core thread) e
as-many-after job core (Scrub won lost) e = e
as-many-after job core (End how) e = e

-- ---- each lease is of a whole replica

event-sharing : (job : Asked) (core : Run) (thread : ℕ) (stop : Option Stop) (o : Option Event) → (rules.core_after_event job core thread stop o).sharing ≡ core.sharing
event-sharing job core thread stop None = refl
event-sharing job core thread stop (Some event) = refl

pub sharing-after : (job : Asked) (core : Run) (entry : Entry) → (rules.after job core entry).sharing ≡ core.sharing
unfolding rules.after
sharing-after job core (Take lease) = refl
sharing-after job core (Put lease count hit) = by (rules.lease_run job core lease count)
  where
    by : (o : Option Peer) → (rules.core_after_put job core lease count o).sharing ≡ core.sharing
    by None = refl
    by (Some peer) = refl
sharing-after job core (Part lease count hit) = by (rules.lease_run job core lease count)
  where
    by : (o : Option Peer) → (rules.core_after_part job core lease count o).sharing ≡ core.sharing
    by None = refl
    by (Some peer) = refl
sharing-after job core (Vote thread count won lost did) = event-sharing job core thread (rules.voted_stop core thread) (rules.voted_event job core thread)
sharing-after job core (Free thread) = event-sharing job core thread _ (rules.freed_event job core thread)
sharing-after job core (Scrub won lost) = refl
sharing-after job core (End how) = refl

-- ---- a journal

-- nothing is allowed behind an end
pub over-none : (job : Asked) (core : Run) (how : How) → core.ended ≡ Some how → (entry : Entry) → rules.IsAllowed job core entry → ⊥
over-none job core how over entry m = ended-not (by entry m)
  where
    ended-not : core.ended ≡ None → ⊥
    ended-not e = let f : None ≡ Some how = sym e ∙ over in cc

    by : (entry : Entry) → rules.IsAllowed job core entry → core.ended ≡ None
    by (Take lease) m = (going-parts core m.going).1
    by (Put lease count hit) m = m.ran.not_ended
    by (Part lease count hit) m = m.ran.not_ended
    by (Vote thread count won lost did) m = (vote-parts core thread m.may).not_ended
    by (Free thread) m = (free-parts job core thread m.may).not_ended
    by (Scrub won lost) m = absurd m
    by (End how) m = m.0

-- the core behind a journal as this theory's core, which keeps what a failing sink did not take
pub record IsSeen (core : Run) (c : Core) : Type 0 where
  pub same : c ≡ record (seen core) { output = c.output }
  pub prefix : (count : ℕ) × (core.output ≡ take count c.output)
  pub whole : ((bytes : ℕ) → core.ended ≢ Some (Sink bytes)) → core.output ≡ c.output

all-taken : (xs : List ℕ) → xs ≡ take (length xs) xs
all-taken [] = refl
all-taken (x ∷ xs) = ap (λ (ys : List ℕ). x ∷ ys) (all-taken xs)

is-seen : (core : Run) → IsSeen core (seen core)
is-seen core = record { same = refl; prefix = (length core.output, all-taken core.output); whole = λ never. refl }

end-seen : (job : Asked) (rows : Rows) (core : Run) (how : How) → IsSeen (rules.after job core (End how)) (after (as-job job) rows (seen core) (End how))
unfolding rules.after
end-seen job rows core (Sink bytes) = record { same = refl; prefix = (_, refl); whole = λ never. absurd (never bytes refl) }
end-seen job rows core how = record { same = refl; prefix = (length core.output, all-taken core.output); whole = λ never. refl }

-- what a legal journal is here
pub record IsTheirs (job : Asked) (rows : Rows) (core : Run) (journal : List Entry) : Type 0 where
  pub legal : LegalFrom (as-job job) rows (seen core) (map as-put journal)
  pub behind : IsSeen (rules.replay_from job core journal) (core_behind (as-job job) rows (seen core) (map as-put journal))

pub is-end : (entry : Entry) → ((how : How) × (entry ≡ End how)) ⊎ ((how : How) → entry ≢ End how)
is-end (End how) = inl (how, refl)
is-end (Take lease) = inr (λ how e. cc)
is-end (Put lease count hit) = inr (λ how e. cc)
is-end (Part lease count hit) = inr (λ how e. cc)
is-end (Vote thread count won lost did) = inr (λ how e. cc)
is-end (Free thread) = inr (λ how e. cc)
is-end (Scrub won lost) = inr (λ how e. cc)

over-is : (job : Asked) (core : Run) (entry : Entry) (how : How) → entry ≡ End how → (rules.after job core entry).ended ≡ Some how
unfolding rules.after
over-is job core entry how e = ap (λ (x : Entry). (rules.after job core x).ended) e

pub theirs : (job : Asked) (rows : Rows) (core : Run) → length core.sides ≡ length core.replicas → core.sharing ≡ None → (journal : List Entry) → rules.LegalFrom job core journal → InRows rows (rules.gets_from job core journal) → IsTheirs job rows core journal
theirs job rows core as_many whole [] legal h = record { legal = tt; behind = is-seen core }
theirs job rows core as_many whole (entry ∷ journal) legal h = ⊎_elim ended (goes_on (theirs job rows (rules.after job core entry) (as-many-after job core entry as_many) (sharing-after job core entry ∙ whole) journal)) (is-end entry)
  where
    goes_on : (rules.LegalFrom job (rules.after job core entry) journal → InRows rows (rules.gets_from job (rules.after job core entry) journal) → IsTheirs job rows (rules.after job core entry) journal) → ((how : How) → entry ≢ End how) → IsTheirs job rows core (entry ∷ journal)
    goes_on later never =
        let parts = in-front rows (rules.gets_of job core entry) _ h in
        let one = entry-so (as-job job) rows (seen core) (as-put entry) (entry-may job core as_many whole entry never legal.0) (subst (InRows rows) (sym (got-same job core as_many entry)) parts.0) in
        let same : after (as-job job) rows (seen core) (as-put entry) ≡ seen (rules.after job core entry) = sym one.1 ∙ entry-same job core as_many entry never legal.0 in
        let rest = later legal.1 parts.1 in
        record {
          legal = (one.0, subst (λ (c : Core). LegalFrom (as-job job) rows c (map as-put journal)) (sym same) rest.legal);
          behind = subst (λ (c : Core). IsSeen (rules.replay_from job (rules.after job core entry) journal) (core_behind (as-job job) rows c (map as-put journal))) (sym same) rest.behind;
        }

    nothing-behind : (how : How) → entry ≡ End how → (later : List Entry) → rules.LegalFrom job (rules.after job core entry) later → later ≡ []
    nothing-behind how e [] l = refl
    nothing-behind how e (next ∷ later) l = absurd (over-none job (rules.after job core entry) how (over-is job core entry how e) next l.0)

    ended : (how : How) × (entry ≡ End how) → IsTheirs job rows core (entry ∷ journal)
    ended (how, e) = subst (λ (later : List Entry). IsTheirs job rows core (entry ∷ later)) (sym (nothing-behind how e journal legal.1))
        (subst (λ (x : Entry). IsTheirs job rows core (x ∷ [])) (sym e) (last how (subst (rules.IsAllowed job core) e legal.0)))
      where
        last : (how : How) → rules.IsAllowed job core (End how) → IsTheirs job rows core (End how ∷ [])
        last how m = record { legal = ((m.0, end-may job core as_many how m.1), tt); behind = end-seen job rows core how }

-- ---- the opening

one-more : {X : Type 0} (n : ℕ) (x : X) → replicate n x ++ x ∷ [] ≡ replicate (suc n) x
one-more zero x = refl
one-more (suc n) x = ap (λ xs. x ∷ xs) (one-more n x)

opened-one : (job : Asked) → job.faults ≡ [] → (n : ℕ) → opening_replica job.program.image job.faults n ≡ (opening_peer job.program).replica
unfolding opening_replica
opened-one job none n = ap (λ faults. opening_replica job.program.image faults n) none

opened : (job : Asked) → job.faults ≡ [] → (n : ℕ) → opening_replicas job n ≡ replicate n (opening_peer job.program).replica
opened job none zero = refl
opened job none (suc n) =
    ap (λ (rs : List Replica). rs ++ opening_replica job.program.image job.faults n ∷ []) (opened job none n)
    ∙ (ap (λ (r : Replica). replicate n (opening_peer job.program).replica ++ r ∷ []) (opened-one job none n)
    ∙ one-more n (opening_peer job.program).replica)

paired : (n : ℕ) (r : Replica) (s : Side) → peers_of (replicate n r) (replicate n s) ≡ replicate n (peer_with r s)
paired zero r s = refl
paired (suc n) r s = ap (λ (ps : List Peer). peer_with r s ∷ ps) (paired n r s)

pub seen-opening : (job : Asked) → job.faults ≡ [] → seen (rules.opening_core job) ≡ opening_core (as-job job)
unfolding rules.opening_core opening_voted
seen-opening job none =
    ap (λ (ps : List Peer). record (opening_core (as-job job)) { peers = ps })
    (ap (λ (rs : List Replica). peers_of rs (replicate job.settings.replicas opening_side)) (opened job none job.settings.replicas)
    ∙ paired job.settings.replicas (opening_peer job.program).replica opening_side)

-- as many replicas as at the opening
pub count-after : (job : Asked) (core : Run) (entry : Entry) → length core.sides ≡ length core.replicas → length (rules.after job core entry).replicas ≡ length core.replicas
unfolding rules.after
count-after job core (Take lease) e = refl
count-after job core (Put lease count hit) e = by (rules.lease_run job core lease count)
  where
    by : (o : Option Peer) → length (rules.core_after_put job core lease count o).replicas ≡ length core.replicas
    by None = refl
    by (Some peer) = length-set core.replicas lease.replica _
count-after job core (Part lease count hit) e = by (rules.lease_run job core lease count)
  where
    by : (o : Option Peer) → length (rules.core_after_part job core lease count o).replicas ≡ length core.replicas
    by None = refl
    by (Some peer) = length-set core.replicas lease.replica _
count-after job core (Vote thread count won lost did) e = event-count job core thread (rules.voted_stop core thread) (rules.voted_event job core thread) e
count-after job core (Free thread) e = event-count job core thread _ (rules.freed_event job core thread) e
count-after job core (Scrub won lost) e = refl
count-after job core (End how) e = refl

pub count-kept : (job : Asked) (core : Run) → length core.sides ≡ length core.replicas → (journal : List Entry) → length (rules.replay_from job core journal).replicas ≡ length core.replicas
count-kept job core e [] = refl
count-kept job core e (entry ∷ journal) = count-kept job (rules.after job core entry) (as-many-after job core entry e) journal ∙ count-after job core entry e

pub many-kept : (job : Asked) (core : Run) → length core.sides ≡ length core.replicas → (journal : List Entry) → length (rules.replay_from job core journal).sides ≡ length (rules.replay_from job core journal).replicas
many-kept job core e [] = e
many-kept job core e (entry ∷ journal) = many-kept job (rules.after job core entry) (as-many-after job core entry e) journal

pub opening-count : (job : Asked) → length (rules.opening_core job).replicas ≡ job.settings.replicas
unfolding rules.opening_core opening_voted
opening-count job = length-opening job job.settings.replicas

pub opening-many : (job : Asked) → length (rules.opening_core job).sides ≡ length (rules.opening_core job).replicas
unfolding rules.opening_core opening_voted
opening-many job = length-replicate job.settings.replicas opening_side ∙ sym (length-opening job job.settings.replicas)

pub opening-whole : (job : Asked) → (rules.opening_core job).sharing ≡ None
unfolding rules.opening_core opening_voted
opening-whole job = refl

-- ---- what a legal journal says

abbrev pub nothing : Steps
nothing = record { taken = λ r. []; first = [] }

pub steps-same : (s : Steps) (journal : List Entry) → steps_from s (map as-put journal) ≡ steps_from s journal
steps-same s [] = refl
steps-same s (Part lease count hit ∷ journal) = steps-same (lease_steps lease count s) journal
steps-same s (Put lease count hit ∷ journal) = steps-same (lease_steps lease count s) journal
steps-same s (entry ∷ journal) = steps-same (steps_after s entry) journal

-- how many replicas there are
pub some-replica : (settings : Settings) → InRange settings → (others : ℕ) × (settings.replicas ≡ suc others)
some-replica settings range = ⊎_elim (λ e. (1, e)) (λ (rest : (settings.replicas ≡ 3) ⊎ (settings.replicas ≡ 5)). ⊎_elim (λ e. (2, e)) (λ e. (4, e)) rest) range.replicas

-- the watchdog lets a thread run
pub is-watched : (job : Asked) → InRange job.settings → (0 == job.settings.watchdog) ≡ false
is-watched job range = ne_eqb 0 job.settings.watchdog (λ e. let least = range.watchdog.0 in absurd (omega (arith, least, e)))

module _ (job : Asked) (rows : Rows) (free : RaceFree job.program) (range : InRange job.settings) (unstruck : job.faults ≡ []) (journal : List Entry) (legal : rules.Legal job journal) (in_rows : InRows rows (rules.gets_from job (rules.opening_core job) journal)) where
  its : IsTheirs job rows (rules.opening_core job) journal
  its = theirs job rows (rules.opening_core job) (opening-many job) (opening-whole job) journal legal in_rows

  pub its-legal : LegalFrom (as-job job) rows (opening_core (as-job job)) (map as-put journal)
  its-legal = subst (λ (c : Core). LegalFrom (as-job job) rows c (map as-put journal)) (seen-opening job unstruck) its.legal

  pub its-behind : IsSeen (rules.replay job journal) (core_behind (as-job job) rows (opening_core (as-job job)) (map as-put journal))
  its-behind = subst (λ (c : Core). IsSeen (rules.replay job journal) (core_behind (as-job job) rows c (map as-put journal))) (seen-opening job unstruck) its.behind

  watched : (0 == job.settings.watchdog) ≡ false
  watched = is-watched job range

  count : (others : ℕ) × (job.settings.replicas ≡ suc others)
  count = some-replica job.settings range

  pub is-execution : IsExecutionOf job rows (first_of journal) (rules.replay job journal)
  is-execution =
      let sound = legal-sound (as-job job) rows free (chosen-by-locks job.program) watched count.0 count.1 (map as-put journal) its-legal in
      let same = its-behind.same in
      record {
        machine = sound.machine;
        reached = ap (λ (s : Steps). run job.program (opening job.program) s.first) (sym (steps-same nothing journal)) ∙ sound.reached;
        prefix = (its-behind.prefix.0, its-behind.prefix.1 ∙ ap (take its-behind.prefix.0) (sym sound.output));
        whole = λ never. its-behind.whole never ∙ sym sound.output;
        goes_on = λ due ended. sound.goes_on (ap (λ (c : Core). c.due) same ∙ due) (ap (λ (c : Core). c.ended) same ∙ ended);
        ends = λ how outcome ended. sound.ends how outcome (ap (λ (c : Core). c.ended) same ∙ ended);
        in_rows = λ mutex rank thread e. sound.in_rows mutex rank thread (ap (λ (s : Steps). slice_get (order_of job.program (chosen_of job.program) (OfMutex mutex) (opening job.program) s.first) rank) (steps-same nothing journal) ∙ e);
      }

  -- a vote finds equal views, and one reservation
  pub views-agree : (thread : ℕ) → may_vote (rules.replay job journal) thread ≡ true → (view : View) × rules.AgreeOn job (rules.replay job journal) thread view
  views-agree thread may = (first.1.0, (all-shown ranges thread first.1.0 last.replicas (λ n r e. same n r e), lapses (reservation_of last.kernel.reserved thread) refl))
    where
      last : Run
      last = rules.replay job journal

      ranges : List Range
      ranges = ranges_in (setup_of job.program) last.kernel

      p : VoteParts last thread
      p = vote-parts last thread may

      many : length last.sides ≡ length last.replicas
      many = many-kept job (rules.opening_core job) (opening-many job) journal

      -- each replica has stopped it
      stopped : (n : ℕ) (r : Replica) → slice_get last.replicas n ≡ Some r → is_some (stop_of r thread) ≡ true
      stopped n r e = get-all (λ (r : Replica). is_some (stop_of r thread)) last.replicas (and_parts (is_going last && nothing_lent last && lives_on last.kernel thread && is_none (last.blocked thread)) (list_all (λ (r : Replica). is_some (stop_of r thread)) last.replicas) may).1 n r e

      first : (r : Replica) × ((view : View) × (view_of ranges thread r ≡ Some view)) × (slice_get last.replicas 0 ≡ Some r)
      first =
          let there = get-within last.replicas 0 (let c = count-kept job (rules.opening_core job) (opening-many job) journal in let o = opening-count job in let k = count.1 in omega arith) in
          (there.0, some-from (view_of ranges thread there.0) (shown-some ranges thread there.0 (stopped 0 there.0 there.1)), there.1)

      behind : Core
      behind = core_behind (as-job job) rows (opening_core (as-job job)) (map as-put journal)

      peers-are : behind.peers ≡ peers_of last.replicas last.sides
      peers-are = ap (λ (c : Core). c.peers) its-behind.same

      peer-at : (n : ℕ) (r : Replica) → slice_get last.replicas n ≡ Some r → (peer : Peer) × (peer.replica ≡ r) × (slice_get behind.peers n ≡ Some peer)
      peer-at n r e = let q = peer-of job last many thread n r e in (peer_with r q.0, refl, ap (λ (ps : List Peer). slice_get ps n) peers-are ∙ q.2)

      all-stopped : (n : ℕ) (peer : Peer) → slice_get behind.peers n ≡ Some peer → Stopped peer thread
      all-stopped n peer e =
          let q = peer-parts last n peer (sym (peers-get last.replicas last.sides n) ∙ (ap (λ (ps : List Peer). slice_get ps n) (sym peers-are) ∙ e)) in
          subst (λ (x : Peer). Stopped x thread) q.is (stopped-in q.replica q.side (stopped n q.replica q.here))
        where
          stopped-in : (r : Replica) (side : Side) → is_some (stop_of r thread) ≡ true → Stopped (peer_with r side) thread
          stopped-in r side f =
              let stop = some-from (stop_of r thread) f in
              option_and_then_some (λ (x : Thread). x.stop) (slice_get r.threads thread) stop.0 stop.1 (λ x there g. (x, there, stop.0, g))

      kernels : behind.kernel ≡ last.kernel
      kernels = ap (λ (c : Core). c.kernel) its-behind.same

      going : (is_none behind.due && is_none behind.ended) ≡ true
      going = ap (λ (c : Core). is_none c.due && is_none c.ended) its-behind.same ∙ p.going

      lives : lives_on behind.kernel thread ≡ true
      lives = ap (λ (k : Kernel). lives_on k thread) kernels ∙ p.live

      -- a replica with what it has beside
      beside : (n : ℕ) (side : Side) → slice_get last.sides n ≡ Some side → (r : Replica) × (slice_get behind.peers n ≡ Some (peer_with r side))
      beside n side e =
          let r = get-within last.replicas n (let w = slice_get_within last.sides n side e in let m = many in omega arith) in
          let q = peer-of job last many thread n r.0 r.1 in
          (r.0, ap (λ (ps : List Peer). slice_get ps n) peers-are ∙ (q.2 ∙ ap (λ (s : Side). Some (peer_with r.0 s)) (some-injective (sym q.1 ∙ e))))

      -- where the thread has a reservation, either all have answered a call of it or none has
      answered : (x : Reservation) → reservation_of last.kernel.reserved thread ≡ Some x → (n m : ℕ) (one other : Side) → slice_get last.sides n ≡ Some one → slice_get last.sides m ≡ Some other → one.answered thread ≡ other.answered thread
      answered x is n m one other e f =
          let a = beside n one e in
          let b = beside m other f in
          kept-same x (one.answered thread) (other.answered thread)
          (subst (λ (o : Option Reservation). kept_one (one.answered thread) o ≡ kept_one (other.answered thread) o) (ap (λ (k : Kernel). reservation_of k.reserved thread) kernels ∙ is)
          (legal-lapse (as-job job) rows free (chosen-by-locks job.program) watched count.0 count.1 (map as-put journal) its-legal going (ap (λ (c : Core). c.leases) its-behind.same ∙ p.alone) thread lives all-stopped n m (peer_with a.0 one) (peer_with b.0 other) a.1 b.1))

      lapses : (o : Option Reservation) → reservation_of last.kernel.reserved thread ≡ o → (is_none o || rules.answered_alike thread last.sides) ≡ true
      lapses None is = refl
      lapses (Some x) is = alike-sides thread last.sides (answered x is)

      same : (n : ℕ) (r : Replica) → slice_get last.replicas n ≡ Some r → view_of ranges thread r ≡ Some first.1.0
      same n r e =
          let one = peer-at n r e in
          let zero = peer-at 0 first.0 first.2 in
          let equal = legal-views (as-job job) rows free (chosen-by-locks job.program) watched count.0 count.1 (map as-put journal) its-legal going thread lives all-stopped n 0 one.0 zero.0 one.2 zero.2 in
          ap (λ (x : Replica). view_of ranges thread x) (sym one.1)
          ∙ (ap (λ (k : Kernel). view_of (ranges_in (setup_of job.program) k) thread one.0.replica) (sym kernels)
          ∙ (equal
          ∙ (ap (λ (k : Kernel). view_of (ranges_in (setup_of job.program) k) thread zero.0.replica) kernels
          ∙ (ap (λ (x : Replica). view_of ranges thread x) zero.1 ∙ first.1.1))))
