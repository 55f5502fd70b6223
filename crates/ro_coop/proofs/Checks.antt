-- A test of cooperative journals by computation: what passes is legal.
use Rattle.std.specs.Prelude.{◌≡◌, ◌⊎◌, ℕ, zero, suc, Bool, true, false, not, ◌&&◌, ◌==◌, List, [], ◌∷◌, ◌++◌, Option, Some, None, is_none, is_some, slice_get}
use Rattle.std.specs.List.{list_any}
use Rattle.std.specs.Option.{option_map_or, option_and_then}
use Rattle.std.proofs.Common.{refl, sym, ap, ◌∙◌, inl, inr}
use Rattle.std.proofs.lemmas.Bool.{false≢true, eqb-true, and_parts}
use Rattle.ro_event.specs.declared.calls.Call.{Call}
use Rattle.ro_event.specs.Views.{View, same_view}
use Rattle.ro_event.proofs.Same.{view-true}
use Rattle.ro_journal.specs.declared.Did.{Did}
use Rattle.ro_journal.specs.declared.Did.TheVariants.{Served, Blocked, Parked, PageBacked, Watch, Trapped}
use Rattle.ro_journal.specs.declared.How.{How}
use Rattle.ro_journal.specs.declared.How.TheVariants.{Exit}
use Rattle.ro_journal.specs.declared.Entry.{Entry}
use Rattle.ro_journal.specs.declared.Entry.TheVariants.{Take, Put, Part, Vote, Free, Scrub, End}
use Rattle.ro_region.specs.declared.Range.{Range}
use Rattle.ro_kernel.specs.Kernel.{lives_on}
use Rattle.ro_kernel.specs.Serve.{blocks}
use Rattle.ro_replica.specs.Views.{is_unstopped, view_of}
use Rattle.ro_plain.specs.Machine.{setup_of}
use Rattle.ro_plain.proofs.Calls.{some-injective}
use Rattle.ro_legal.specs.Event.{Event}
use Rattle.ro_journal.specs.declared.Lease.{Lease}
use Rattle.ro_orders.specs.Copies.{Rows}
use Rattle.ro_peer.specs.Peers.{Peer}
use Rattle.ro_coop.specs.Core.{Job, Core, ranges_here, kernel_for, vote_event, run_in, after, is_going, is_out, is_outcome, IsAllowed, LegalFrom}
use Rattle.ro_coop.specs.Sound.{core_behind}

abbrev pub test_take : Core → Lease → Bool
test_take core lease =
    is_going core && lives_on core.kernel lease.thread && option_map_or (λ peer. is_unstopped lease.thread peer.replica) (slice_get core.peers lease.replica) false && not (list_any (λ other. other.replica == lease.replica) core.leases)

abbrev pub test_put : Job → Rows → Core → Lease → (count : ℕ) → Bool
test_put job rows core lease count = is_none core.ended && is_out core lease && is_some (run_in job rows core lease count)

abbrev pub is_nothing : List Lease → Bool
is_nothing [] = true
is_nothing (lease ∷ leases) = false

abbrev pub same_some : View → Option View → Bool
same_some view None = false
same_some view (Some other) = same_view view other

abbrev pub all_views : List Range → (thread : ℕ) → View → List Peer → Bool
all_views ranges thread view [] = true
all_views ranges thread view (peer ∷ peers) = same_some view (view_of ranges thread peer.replica) && all_views ranges thread view peers

abbrev pub test_views : List Range → (thread : ℕ) → Option View → List Peer → Bool
test_views ranges thread None peers = false
test_views ranges thread (Some view) peers = all_views ranges thread view peers

abbrev pub same_did : Did → Did → Bool
same_did Served Served = true
same_did Blocked Blocked = true
same_did Parked Parked = true
same_did PageBacked PageBacked = true
same_did Watch Watch = true
same_did Trapped Trapped = true
same_did _ _ = false

abbrev pub test_event : Did → Option Event → Bool
test_event did None = false
test_event did (Some event) = same_did event.did did

abbrev pub zeroth_view : Job → Core → (thread : ℕ) → Option View
zeroth_view job core thread = option_and_then (λ peer. view_of (ranges_here job core) thread peer.replica) (slice_get core.peers 0)

abbrev pub test_vote : Job → Core → (thread : ℕ) → Did → Bool
test_vote job core thread did =
    is_going core && is_nothing core.leases && lives_on core.kernel thread && is_none (core.blocked thread) && test_views (ranges_here job core) thread (zeroth_view job core thread) core.peers && test_event did (vote_event job core thread)

abbrev pub test_blocked : Job → Core → (thread : ℕ) → Option Call → Bool
test_blocked job core thread None = false
test_blocked job core thread (Some call) = not (blocks (setup_of job.program) (kernel_for core thread) thread call)

-- of the program's own ends only an exit
abbrev pub test_due : Option How → How → Bool
test_due None how = not (is_outcome how)
test_due (Some (Exit m)) (Exit n) = m == n
test_due _ _ = false

abbrev pub test_entry : Job → Rows → Core → Entry → Bool
test_entry job rows core (Take lease) = test_take core lease
test_entry job rows core (Put lease count hit) = test_put job rows core lease count
test_entry job rows core (Part lease count hit) = false
test_entry job rows core (Vote thread count won lost did) = test_vote job core thread did
test_entry job rows core (Free thread) = is_going core && is_nothing core.leases && test_blocked job core thread (core.blocked thread)
test_entry job rows core (Scrub won lost) = false
test_entry job rows core (End how) = is_none core.ended && test_due core.due how

abbrev pub test_legal : Job → Rows → Core → List Entry → Bool
test_legal job rows core [] = true
test_legal job rows core (entry ∷ journal) = test_entry job rows core entry && test_legal job rows (after job rows core entry) journal

-- ---- what passes is allowed

pub none-of : {X : Type 0} (o : Option X) → is_none o ≡ true → o ≡ None
none-of None e = refl
none-of (Some x) e = absurd (false≢true e)

some-of : {X : Type 0} (o : Option X) → is_some o ≡ true → (x : X) × (o ≡ Some x)
some-of None e = absurd (false≢true e)
some-of (Some x) e = (x, refl)

nothing-of : (leases : List Lease) → is_nothing leases ≡ true → leases ≡ []
nothing-of [] e = refl
nothing-of (lease ∷ leases) e = absurd (false≢true e)

did-of : (a b : Did) → same_did a b ≡ true → a ≡ b
did-of Served Served e = refl
did-of Blocked Blocked e = refl
did-of Parked Parked e = refl
did-of PageBacked PageBacked e = refl
did-of Watch Watch e = refl
did-of Trapped Trapped e = refl
did-of a b e = absurd (false≢true e)

pub event-of : (did : Did) (o : Option Event) → test_event did o ≡ true → (event : Event) × (o ≡ Some event) × (event.did ≡ did)
event-of did None e = absurd (false≢true e)
event-of did (Some event) e = (event, refl, did-of event.did did e)

same-of : (view : View) (o : Option View) → same_some view o ≡ true → o ≡ Some view
same-of view None e = absurd (false≢true e)
same-of view (Some other) e = ap Some (sym (view-true view other e))

views-of : (ranges : List Range) (thread : ℕ) (view : View) (peers : List Peer) → all_views ranges thread view peers ≡ true → (number : ℕ) (peer : Peer) → slice_get peers number ≡ Some peer → view_of ranges thread peer.replica ≡ Some view
views-of ranges thread view [] e number peer f = absurd (let g : None ≡ Some peer = f in cc)
views-of ranges thread view (r ∷ peers) e zero peer f =
    ap (λ (x : Peer). view_of ranges thread x.replica) (sym (some-injective f)) ∙ same-of view (view_of ranges thread r.replica) (and_parts (same_some view (view_of ranges thread r.replica)) (all_views ranges thread view peers) e).0
views-of ranges thread view (r ∷ peers) e (suc number) peer f = views-of ranges thread view peers (and_parts (same_some view (view_of ranges thread r.replica)) (all_views ranges thread view peers) e).1 number peer f

all-of : (ranges : List Range) (thread : ℕ) (o : Option View) (peers : List Peer) → test_views ranges thread o peers ≡ true → (view : View) × ((number : ℕ) (peer : Peer) → slice_get peers number ≡ Some peer → view_of ranges thread peer.replica ≡ Some view)
all-of ranges thread None peers e = absurd (false≢true e)
all-of ranges thread (Some view) peers e = (view, views-of ranges thread view peers e)

blocked-of : (job : Job) (core : Core) (thread : ℕ) (o : Option Call) → test_blocked job core thread o ≡ true → (call : Call) × (o ≡ Some call) × (blocks (setup_of job.program) (kernel_for core thread) thread call ≡ false)
blocked-of job core thread None e = absurd (false≢true e)
blocked-of job core thread (Some call) e = (call, refl, not-true (blocks (setup_of job.program) (kernel_for core thread) thread call) e)
  where
    not-true : (b : Bool) → not b ≡ true → b ≡ false
    not-true false f = refl
    not-true true f = absurd (false≢true f)

due-of : (o : Option How) (how : How) → test_due o how ≡ true → (o ≡ Some how) ⊎ ((o ≡ None) × (is_outcome how ≡ false))
due-of None how e = inr (refl, not-true (is_outcome how) e)
  where
    not-true : (b : Bool) → not b ≡ true → b ≡ false
    not-true false f = refl
    not-true true f = absurd (false≢true f)
due-of (Some (Exit m)) (Exit n) e = inl (ap (λ (k : ℕ). Some (Exit k)) (eqb-true m n e))
due-of (Some w) how e = absurd (false≢true e)

entry-of : (job : Job) (rows : Rows) (core : Core) (entry : Entry) → test_entry job rows core entry ≡ true → IsAllowed job rows core entry
entry-of job rows core (Take lease) e =
    let a = and_parts (is_going core && lives_on core.kernel lease.thread && option_map_or (λ peer. is_unstopped lease.thread peer.replica) (slice_get core.peers lease.replica) false) (not (list_any (λ other. other.replica == lease.replica) core.leases)) e in
    let b = and_parts (is_going core && lives_on core.kernel lease.thread) (option_map_or (λ peer. is_unstopped lease.thread peer.replica) (slice_get core.peers lease.replica) false) a.0 in
    let c = and_parts (is_going core) (lives_on core.kernel lease.thread) b.0 in
    record { going = c.0; lives = c.1; unstopped = b.1; home = a.1 }
entry-of job rows core (Put lease count hit) e =
    let a = and_parts (is_none core.ended && is_out core lease) (is_some (run_in job rows core lease count)) e in
    let b = and_parts (is_none core.ended) (is_out core lease) a.0 in
    let s = some-of (run_in job rows core lease count) a.1 in
    record { not_ended = none-of core.ended b.0; out = b.1; peer = s.0; runs = s.1 }
entry-of job rows core (Part lease count hit) e = absurd (false≢true e)
entry-of job rows core (Vote thread count won lost did) e =
    let a = and_parts (is_going core && is_nothing core.leases && lives_on core.kernel thread && is_none (core.blocked thread) && test_views (ranges_here job core) thread (zeroth_view job core thread) core.peers) (test_event did (vote_event job core thread)) e in
    let b = and_parts (is_going core && is_nothing core.leases && lives_on core.kernel thread && is_none (core.blocked thread)) (test_views (ranges_here job core) thread (zeroth_view job core thread) core.peers) a.0 in
    let c = and_parts (is_going core && is_nothing core.leases && lives_on core.kernel thread) (is_none (core.blocked thread)) b.0 in
    let d = and_parts (is_going core && is_nothing core.leases) (lives_on core.kernel thread) c.0 in
    let f = and_parts (is_going core) (is_nothing core.leases) d.0 in
    let v = all-of (ranges_here job core) thread (zeroth_view job core thread) core.peers b.1 in
    let w = event-of did (vote_event job core thread) a.1 in
    record { going = f.0; nothing_lent = nothing-of core.leases f.1; lives = d.1; not_blocked = none-of (core.blocked thread) c.1; view = v.0; agreed = v.1; event = w.0; comes = w.1; did_is = w.2 }
entry-of job rows core (Free thread) e =
    let a = and_parts (is_going core && is_nothing core.leases) (test_blocked job core thread (core.blocked thread)) e in
    let b = and_parts (is_going core) (is_nothing core.leases) a.0 in
    let c = blocked-of job core thread (core.blocked thread) a.1 in
    record { going = b.0; nothing_lent = nothing-of core.leases b.1; call = c.0; is_blocked = c.1; frees = c.2 }
entry-of job rows core (Scrub won lost) e = absurd (false≢true e)
entry-of job rows core (End how) e =
    let a = and_parts (is_none core.ended) (test_due core.due how) e in (none-of core.ended a.0, due-of core.due how a.1)

pub legal-of : (job : Job) (rows : Rows) (core : Core) (journal : List Entry) → test_legal job rows core journal ≡ true → LegalFrom job rows core journal
legal-of job rows core [] e = tt
legal-of job rows core (entry ∷ journal) e =
    let a = and_parts (test_entry job rows core entry) (test_legal job rows (after job rows core entry) journal) e in
    (entry-of job rows core entry a.0, legal-of job rows (after job rows core entry) journal a.1)

-- what is legal in two parts is legal in the second, behind the first
pub legal-back : (job : Job) (rows : Rows) (core : Core) (front back : List Entry) → LegalFrom job rows core (front ++ back) → LegalFrom job rows (core_behind job rows core front) back
legal-back job rows core [] back legal = legal
legal-back job rows core (entry ∷ front) back legal = legal-back job rows (after job rows core entry) front back legal.1
