-- A lease of a cooperative run stays out, and its peer and the kernel as they were, until its own driver brings it back.
use Rattle.std.specs.Prelude.{◌≡◌, ◌≢◌, ℕ, ◌<◌, ◌==◌, ◌||◌, Bool, true, false, not, cond, List, [], ◌∷◌, ◌++◌, Option, Some, None, slice_get, slice_set}
use Rattle.std.specs.List.{filter, find}
use Rattle.std.specs.Option.{option_and_then, option_map}
use Rattle.std.proofs.Common.{refl, sym, ap, ◌∙◌, subst, arith, eqb-true, ne_eqb}
use Rattle.std.proofs.lemmas.Bool.{and_parts}
use Rattle.ro_event.specs.declared.stops.Stop.{Stop}
use Rattle.ro_journal.specs.declared.Entry.{Entry}
use Rattle.ro_journal.specs.declared.Entry.TheVariants.{Take, Put, Part, Vote, Free, Scrub, End}
use Rattle.ro_journal.specs.declared.How.{How}
use Rattle.ro_journal.specs.declared.How.TheVariants.{Deadlock, Sink}
use Rattle.ro_journal.specs.declared.Lease.{Lease}
use Rattle.ro_kernel.specs.Kernel.{Kernel}
use Rattle.ro_kernel.proofs.Kept.{slice_get-set_other}
use Rattle.ro_replica.specs.Replica.{Replica}
use Rattle.ro_peer.specs.Peers.{Peer}
use Rattle.ro_peer.specs.Gets.{Get}
use Rattle.ro_legal.specs.Sides.{Parking, Side, peer_with}
use Rattle.ro_legal.specs.Core.{Job, Core, is_idle, is_lease, is_out}
use Rattle.ro_legal.specs.Core.{opening_core as opening_voted}
use Rattle.ro_legal.specs.Event.{Event}
use Rattle.ro_legal.specs.Legal.{MayTake, core_after_take, stopped}
use Rattle.ro_legal.specs.Laws.{Names}
use Rattle.ro_legal.specs.Kept.{KeepsReplicas, HasPeer}
use Rattle.ro_legal.specs.Cooperative.{opening_core, lease_gets, arrival, parking_of, side_after, core_after_lease, core_after_put, core_after_part, lease_run, voted_stop, voted_event, freed_event, core_after_event, after, MayEnd, due, alone, for_vote, for_free, IsAllowed, Legal, replay_from, replay}
use Rattle.ro_legal.proofs.Lists.{changed-other}
use Rattle.ro_legal.proofs.Leases.{has_driver, has-filter, not_false, Apart, OneEach, same-lease, differ-filter, gone_number, apart_take, one_take}
use Rattle.ro_legal.proofs.Beside.{LendsWhole, whole-take}
use Rattle.ro_legal.proofs.Lasting.{none_found, found_in_rest, other_replica, AreBelow, below-filter, none_left}
use Rattle.ro_legal.proofs.Ordered.{none-lent-is, vote-parts, free-parts}
use Rattle.ro_legal.proofs.Together.{keeps-replicas}
use Rattle.ro_legal.proofs.TogetherJournals.{LegalFrom-parts, legal-keeps, replay_more}

-- ---- the leases that are out

-- those after an event are those before it
pub event-leases : (job : Job) (core : Core) (thread : ℕ) (stop : Option Stop) (event : Option Event) → (core_after_event job core thread stop event).leases ≡ core.leases
event-leases job core thread stop None = refl
event-leases job core thread stop (Some event) = refl

-- what fewer leases keep, and a take keeps, each entry keeps
leases-keep : (job : Job) (Q : List Lease → Type 0) → ((p : Lease → Bool) (leases : List Lease) → Q leases → Q (filter p leases))
    → (core : Core) → ((lease : Lease) → MayTake job core lease → Q core.leases → Q (lease ∷ core.leases))
    → (entry : Entry) → IsAllowed job core entry → Q core.leases → Q (after job core entry).leases
unfolding after
leases-keep job Q fewer core takes (Take lease) m h = takes lease m h
leases-keep job Q fewer core takes (Put lease count hit) m h =
    subst (λ (o : Option Peer). Q (core_after_put job core lease count o).leases) (sym m.ran.runs) (fewer (λ other. not (is_lease lease other)) core.leases h)
leases-keep job Q fewer core takes (Part lease count hit) m h =
    subst (λ (o : Option Peer). Q (core_after_part job core lease count o).leases) (sym m.ran.runs) (fewer (λ other. not (is_lease lease other)) core.leases h)
leases-keep job Q fewer core takes (Vote thread count won lost did) m h = subst Q (sym (event-leases job core thread (voted_stop core thread) (voted_event job core thread))) h
leases-keep job Q fewer core takes (Free thread) m h = subst Q (sym (event-leases job core thread _ (freed_event job core thread))) h
leases-keep job Q fewer core takes (Scrub won lost) m h = absurd m
leases-keep job Q fewer core takes (End how) m h = h

-- what fewer leases keep, and a take keeps, holds of those that a legal journal leaves
leases-kept : (job : Job) (Q : List Lease → Type 0) → ((p : Lease → Bool) (leases : List Lease) → Q leases → Q (filter p leases))
    → ((core : Core) (lease : Lease) → MayTake job core lease → Q core.leases → Q (lease ∷ core.leases))
    → Q [] → (journal : List Entry) → Legal job journal → Q (replay job journal).leases
unfolding opening_core opening_voted
leases-kept job Q fewer takes none journal legal = legal-keeps job (λ core. Q core.leases) (λ core. leases-keep job Q fewer core (takes core)) (opening_core job) journal legal none

-- each is of a whole replica
whole-put : (job : Job) (core : Core) (lease : Lease) (count : ℕ) (o : Option Peer) → LendsWhole core → LendsWhole (core_after_put job core lease count o)
whole-put job core lease count None h = h
whole-put job core lease count (Some peer) h = record { none = h.none; whole = h.whole }

whole-part : (job : Job) (core : Core) (lease : Lease) (count : ℕ) (o : Option Peer) → LendsWhole core → LendsWhole (core_after_part job core lease count o)
whole-part job core lease count None h = h
whole-part job core lease count (Some peer) h = record { none = h.none; whole = h.whole }

whole-event : (job : Job) (core : Core) (thread : ℕ) (stop : Option Stop) (event : Option Event) → LendsWhole core → LendsWhole (core_after_event job core thread stop event)
whole-event job core thread stop None h = h
whole-event job core thread stop (Some event) h = record { none = h.none; whole = h.whole }

whole-after : (job : Job) (core : Core) (entry : Entry) → LendsWhole core → LendsWhole (after job core entry)
unfolding after
whole-after job core (Take lease) h = whole-take core lease h
whole-after job core (Put lease count hit) h = whole-put job core lease count (lease_run job core lease count) h
whole-after job core (Part lease count hit) h = whole-part job core lease count (lease_run job core lease count) h
whole-after job core (Vote thread count won lost did) h = whole-event job core thread (voted_stop core thread) (voted_event job core thread) h
whole-after job core (Free thread) h = whole-event job core thread _ (freed_event job core thread) h
whole-after job core (Scrub won lost) h = h
whole-after job core (End how) h = record { none = h.none; whole = h.whole }

whole-from : (job : Job) (core : Core) (journal : List Entry) → LendsWhole core → LendsWhole (replay_from job core journal)
whole-from job core [] h = h
whole-from job core (entry ∷ journal) h = whole-from job (after job core entry) journal (whole-after job core entry h)

whole-opening : (job : Job) → LendsWhole (opening_core job)
unfolding opening_core opening_voted
whole-opening job = record { none = refl; whole = λ driver. refl }

pub lends-whole : (job : Job) (journal : List Entry) → LendsWhole (replay job journal)
lends-whole job journal = whole-from job (opening_core job) journal (whole-opening job)

-- so no two are of one replica
apart-opening : (job : Job) → Apart (opening_core job).leases
unfolding opening_core opening_voted
apart-opening job = tt

leases-apart : (job : Job) (journal : List Entry) → Legal job journal → Apart (replay job journal).leases
leases-apart job journal legal = (legal-keeps job (λ core. LendsWhole core × Apart core.leases) keeps (opening_core job) journal legal (whole-opening job, apart-opening job)).1
  where
    keeps : (core : Core) (entry : Entry) → IsAllowed job core entry → LendsWhole core × Apart core.leases → LendsWhole (after job core entry) × Apart (after job core entry).leases
    keeps core entry may h = (whole-after job core entry h.0, leases-keep job (λ leases. Apart leases) (differ-filter (λ lease. lease.replica)) core (λ lease m. apart_take job core lease h.0.none m) entry may h.1)

-- nor of one driver
one-each : (job : Job) (journal : List Entry) → Legal job journal → OneEach (replay job journal).leases
one-each job journal legal = leases-kept job (λ leases. OneEach leases) (differ-filter (λ lease. lease.driver)) (one_take job) tt journal legal

-- all are of drivers that there are
leases-below : (job : Job) (journal : List Entry) → Legal job journal → AreBelow job.settings.drivers (replay job journal).leases
leases-below job journal legal = leases-kept job (λ leases. AreBelow job.settings.drivers leases) (below-filter job.settings.drivers) (λ core lease m h. (m.driver_exists, h)) tt journal legal

-- where every driver is idle nothing is lent
pub all-idle : (job : Job) (journal : List Entry) → Legal job journal → ((driver : ℕ) → driver < job.settings.drivers → is_idle (replay job journal) driver ≡ true) → (replay job journal).leases ≡ []
all-idle job journal legal idle = none_left job.settings.drivers (replay job journal).leases (leases-below job journal legal) idle

-- ---- a driver whose lease came back holds none

none-held : (core : Core) (lease : Lease) → OneEach core.leases → is_out core lease ≡ true → not (has_driver lease.driver (filter (λ other. not (is_lease lease other)) core.leases)) ≡ true
none-held core lease one out = ap not (gone_number (λ lease. lease.driver) lease core.leases one out)

pub put-idles : (job : Job) (journal : List Entry) (lease : Lease) (count hit : ℕ) → Legal job (journal ++ Put lease count hit ∷ []) → is_idle (replay job (journal ++ Put lease count hit ∷ [])) lease.driver ≡ true
unfolding after
put-idles job journal lease count hit legal =
    let parts = LegalFrom-parts job (opening_core job) journal (Put lease count hit ∷ []) legal in
    let core : Core = replay job journal in
    ap (λ (c : Core). is_idle c lease.driver) (replay_more job journal (Put lease count hit))
    ∙ (ap (λ (o : Option Peer). is_idle (core_after_put job core lease count o) lease.driver) parts.1.0.ran.runs
    ∙ none-held core lease (one-each job journal parts.0) parts.1.0.ran.out)

pub part-idles : (job : Job) (journal : List Entry) (lease : Lease) (count hit : ℕ) → Legal job (journal ++ Part lease count hit ∷ []) → is_idle (replay job (journal ++ Part lease count hit ∷ [])) lease.driver ≡ true
unfolding after
part-idles job journal lease count hit legal =
    let parts = LegalFrom-parts job (opening_core job) journal (Part lease count hit ∷ []) legal in
    let core : Core = replay job journal in
    ap (λ (c : Core). is_idle c lease.driver) (replay_more job journal (Part lease count hit))
    ∙ (ap (λ (o : Option Peer). is_idle (core_after_part job core lease count o) lease.driver) parts.1.0.ran.runs
    ∙ none-held core lease (one-each job journal parts.0) parts.1.0.ran.out)

-- ---- what another driver's entry leaves

idle-put : (job : Job) (core : Core) (driver : ℕ) (other : Lease) (count : ℕ) → is_idle core driver ≡ true → (o : Option Peer) → is_idle (core_after_put job core other count o) driver ≡ true
idle-put job core driver other count idle None = idle
idle-put job core driver other count idle (Some peer) = ap not (has-filter (λ lease. lease.driver) (λ l. not (is_lease other l)) driver core.leases (not_false (has_driver driver core.leases) idle))

idle-part : (job : Job) (core : Core) (driver : ℕ) (other : Lease) (count : ℕ) → is_idle core driver ≡ true → (o : Option Peer) → is_idle (core_after_part job core other count o) driver ≡ true
idle-part job core driver other count idle None = idle
idle-part job core driver other count idle (Some peer) = ap not (has-filter (λ lease. lease.driver) (λ l. not (is_lease other l)) driver core.leases (not_false (has_driver driver core.leases) idle))

-- an entry that doesn't name the driver lends it nothing
pub idle-after : (job : Job) (core : Core) (driver by : ℕ) (entry : Entry) → Names by entry → by ≢ driver → is_idle core driver ≡ true → is_idle (after job core entry) driver ≡ true
unfolding after
idle-after job core driver by (Take other) names ne idle = ap (λ (b : Bool). not (b || has_driver driver core.leases)) (ne_eqb other.driver driver (λ e. ne (sym names ∙ e))) ∙ idle
idle-after job core driver by (Put other count hit) names ne idle = idle-put job core driver other count idle (lease_run job core other count)
idle-after job core driver by (Part other count hit) names ne idle = idle-part job core driver other count idle (lease_run job core other count)
idle-after job core driver by (Vote thread count won lost did) names ne idle = ap (λ (ls : List Lease). not (has_driver driver ls)) (event-leases job core thread (voted_stop core thread) (voted_event job core thread)) ∙ idle
idle-after job core driver by (Free thread) names ne idle = ap (λ (ls : List Lease). not (has_driver driver ls)) (event-leases job core thread _ (freed_event job core thread)) ∙ idle
idle-after job core driver by (Scrub won lost) names ne idle = idle
idle-after job core driver by (End how) names ne idle = idle

-- nothing is lent where an end comes
pub end-alone : (job : Job) (core : Core) (how : How) → MayEnd job core how → KeepsReplicas job core → core.leases ≡ []
end-alone job core how (due e) h = h.due_alone how e
end-alone job core Deadlock (alone e) h = none-lent-is core (and_parts _ _ (and_parts _ _ e).0).1
end-alone job core (Sink bytes) (alone e) h = h.wrote_alone (let less : bytes < core.wrote = e.1 in omega arith)
end-alone job core how (alone e) h = absurd e
end-alone job core how (for_vote thread may e) h = (vote-parts core thread may).alone
end-alone job core how (for_free thread may e) h = (free-parts job core thread may).alone

module _ (job : Job) (core : Core) (driver : ℕ) (lease : Lease) (kernel : Kernel) (peer : Peer) (out : HasPeer core driver lease kernel peer) where
  none-out : core.leases ≡ [] → ⊥
  none-out none = none_found driver lease core.leases none out.held

  out-take : (other : Lease) → other.driver ≢ driver → HasPeer (core_after_take core other) driver lease kernel peer
  out-take other differs = record {
    held = ap (λ (b : Bool). cond b (Some other) (find (λ (l : Lease). l.driver == driver) core.leases)) (ne_eqb other.driver driver differs) ∙ out.held;
    there = out.there;
    kernel_is = out.kernel_is;
    not_ended = out.not_ended;
  }

  module _ (other : Lease) (differs : other.driver ≢ driver) (apart : other.replica ≢ lease.replica) (last : Peer) (gets : List Get) (stop : Option Stop) (parking : Option Parking) where
    not-other : (l : Lease) → (l.driver == driver) ≡ true → (b : Bool) → is_lease other l ≡ b → not b ≡ true
    not-other l is false k = refl
    not-other l is true k = absurd (differs (ap (λ (x : Lease). x.driver) (sym (same-lease other l k)) ∙ eqb-true l.driver driver is))

    out-back : HasPeer (core_after_lease core other last gets stop parking) driver lease kernel peer
    out-back = record {
      held = found_in_rest driver lease (λ l. not (is_lease other l)) core.leases (λ l is. not-other l is (is_lease other l) refl) out.held;
      there =
          let replicas : List Replica = slice_set core.replicas other.replica (stopped other.thread stop last.replica) in
          let sides = changed-other (side_after other.thread last gets parking) core.sides other.replica lease.replica (λ e. apart (sym e)) in
          ap (λ (o : Option Side). option_and_then (λ replica. option_map (peer_with replica) o) (slice_get replicas lease.replica)) sides
          ∙ (ap (option_and_then (λ (replica : Replica). option_map (peer_with replica) (slice_get core.sides lease.replica))) (slice_get-set_other core.replicas other.replica lease.replica _ apart)
          ∙ out.there);
      kernel_is = out.kernel_is;
      not_ended = out.not_ended;
    }

-- an entry of another driver leaves the lease
out-after : (job : Job) (core : Core) (driver : ℕ) (lease : Lease) (kernel : Kernel) (peer : Peer) (by : ℕ) (entry : Entry) → KeepsReplicas job core → Apart core.leases → IsAllowed job core entry → Names by entry → by ≢ driver
    → HasPeer core driver lease kernel peer → HasPeer (after job core entry) driver lease kernel peer
unfolding after
out-after job core driver lease kernel peer by (Take other) keeps apart m names ne out = out-take job core driver lease kernel peer out other (λ e. ne (sym names ∙ e))
out-after job core driver lease kernel peer by (Put other count hit) keeps apart m names ne out =
    let differs : other.driver ≢ driver = λ e. ne (sym names ∙ e) in
    subst (λ (o : Option Peer). HasPeer (core_after_put job core other count o) driver lease kernel peer) (sym m.ran.runs)
    (out-back job core driver lease kernel peer out other differs (other_replica driver other lease core.leases apart differs out.held m.ran.out) m.ran.peer (lease_gets job core other count) (arrival job core.kernel other.thread count m.ran.peer) None)
out-after job core driver lease kernel peer by (Part other count hit) keeps apart m names ne out =
    let differs : other.driver ≢ driver = λ e. ne (sym names ∙ e) in
    subst (λ (o : Option Peer). HasPeer (core_after_part job core other count o) driver lease kernel peer) (sym m.ran.runs)
    (out-back job core driver lease kernel peer out other differs (other_replica driver other lease core.leases apart differs out.held m.ran.out) m.ran.peer (lease_gets job core other count) None (parking_of job core.kernel other.thread m.ran.peer))
out-after job core driver lease kernel peer by (Vote thread count won lost did) keeps apart m names ne out = absurd (none-out job core driver lease kernel peer out (vote-parts core thread m.may).alone)
out-after job core driver lease kernel peer by (Free thread) keeps apart m names ne out = absurd (none-out job core driver lease kernel peer out (free-parts job core thread m.may).alone)
out-after job core driver lease kernel peer by (Scrub won lost) keeps apart m names ne out = absurd m
out-after job core driver lease kernel peer by (End how) keeps apart m names ne out = absurd (none-out job core driver lease kernel peer out (end-alone job core how m.1 keeps))

-- and so in a legal journal
pub lease-lasts : (job : Job) (journal : List Entry) (entry : Entry) → job.faults ≡ [] → Legal job (journal ++ entry ∷ []) → (driver by : ℕ) → Names by entry → by ≢ driver → (lease : Lease) (kernel : Kernel) (peer : Peer)
    → HasPeer (replay job journal) driver lease kernel peer → HasPeer (replay job (journal ++ entry ∷ [])) driver lease kernel peer
lease-lasts job journal entry unstruck legal driver by names ne lease kernel peer out =
    let parts = LegalFrom-parts job (opening_core job) journal (entry ∷ []) legal in
    subst (λ (c : Core). HasPeer c driver lease kernel peer) (sym (replay_more job journal entry))
    (out-after job (replay job journal) driver lease kernel peer by entry (keeps-replicas job journal unstruck parts.0) (leases-apart job journal parts.0) parts.1.0 names ne out)
