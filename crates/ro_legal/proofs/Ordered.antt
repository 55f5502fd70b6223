-- What each entry of a legal journal keeps of the core.
use Rattle.std.specs.Prelude.{◌≡◌, ◌≢◌, ℕ, zero, suc, ◌+◌, ◌≤◌, ◌<◌, ◌⊎◌, Bool, true, false, cond, ◌&&◌, ◌==◌, IfSome, List, [], ◌∷◌, length, Option, Some, None, slice_get}
use Rattle.std.specs.List.{filter}
use Rattle.std.specs.Option.{option_map, option_map_or}
use Rattle.std.proofs.Common.{refl, sym, ap, ◌∙◌, subst, arith, inl, inr, length-append}
use Rattle.std.proofs.lemmas.Bool.{true≢false, false≢true, eqb-true, eq-eqb, and_parts}
use Rattle.std.proofs.lemmas.List.{length-set, nil_from_length}
use Rattle.std.proofs.lemmas.Option.{option_and_then_some}
use Rattle.ro_event.specs.declared.calls.Call.{Call}
use Rattle.ro_event.specs.declared.calls.Which.TheVariants.{Function}
use Rattle.ro_event.specs.declared.functions.Function.TheVariants.{Wait}
use Rattle.ro_event.specs.declared.effects.Made.{Made}
use Rattle.ro_event.specs.declared.stops.Stop.{Stop}
use Rattle.ro_image.specs.Image.{holds_file_byte}
use Rattle.ro_journal.specs.Losers.{numbers}
use Rattle.ro_journal.specs.declared.losers.Lost.{Lost}
use Rattle.ro_journal.specs.declared.Did.{Did}
use Rattle.ro_journal.specs.declared.Did.TheVariants.{Served as WasServed}
use Rattle.ro_journal.specs.declared.How.{How}
use Rattle.ro_journal.specs.declared.How.TheVariants.{Deadlock, Sink}
use Rattle.ro_journal.specs.declared.Entry.{Entry}
use Rattle.ro_journal.specs.declared.Entry.TheVariants.{Take, Put, Part, Vote, Free, Scrub, End}
use Rattle.ro_journal.specs.Plan.{event_steps}
use Rattle.ro_condition.proofs.Whose.{is_waiting}
use Rattle.ro_kernel.specs.Kernel.{Kernel, lives_on}
use Rattle.ro_kernel.specs.Serve.{Served, Done, Parked, Blocked, Ends, is_served, serves, serve}
use Rattle.ro_exec.specs.Next.{Backed}
use Rattle.ro_thread.specs.declared.Thread.{Thread}
use Rattle.ro_replica.specs.Replica.{Replica, opening_replica, applied, cancelled, stop_of}
use Rattle.ro_replica.specs.Runs.{RanTo, run_of, with_stop}
use Rattle.ro_replica.specs.Snapshots.{snapshot_of}
use Rattle.ro_plain.specs.Machine.{setup_of, layout_in}
use Rattle.ro_plain.proofs.Ahead.{is-none-from}
use Rattle.ro_plain.proofs.Calls.{some-injective}
use Rattle.ro_journal.specs.declared.Lease.{Lease}
use Rattle.ro_legal.specs.Core.{Job, Core, opening_replicas, opening_core, is_going, nothing_lent, may_vote, may_free}
use Rattle.ro_legal.specs.Event.{Event, call_event, with_copy, with_recovered, core_after}
use Rattle.ro_legal.specs.Parts.{run_with}
use Rattle.ro_legal.specs.Legal.{lease_run, stopped, core_after_lease, event_with, event_in, freed_event, core_after_event, after, IsAllowed, MayTake, Returns, MayPut, MayPart, MayVote, MayFree, may_scrub, MayScrub, MayEnd, due, alone, for_vote, for_free, for_scrub, Legal, replay}
use Rattle.ro_legal.specs.Sound.{IsSound, IsOrdered}
use Rattle.ro_legal.proofs.Lists.{get-set-cases, listed-filter, MappedFrom, get-map, length-mapped, get-append-cases}
use Rattle.ro_legal.proofs.PageRuns.{run-with-is-run}
use Rattle.ro_legal.proofs.Leases.{put-by, part-by}
use Rattle.ro_legal.proofs.Sound.{sound-changed, run-well}
use Rattle.ro_legal.proofs.Copies.{AfterCopy, not_lost, is_copy, after-copy, length-with-copy, still-there, sound-recovered}
use Rattle.ro_legal.proofs.Effects.{backed_after, sound-applied}
use Rattle.ro_legal.proofs.Journals.{legal-keeps}
use Rattle.ro_legal.proofs.Served.{made_count}
use Rattle.ro_legal.proofs.Happens.{Happens, event-happens, call-happens}

-- what holds of a replica depends on the kernel's lives alone
pub sound-with : (job : Job) (core other : Core) (backed : Backed) (number : ℕ) (r : Replica) → core.kernel ≡ other.kernel → IsSound job core backed number r → IsSound job other backed number r
sound-with job core other backed number r e h = record {
  same_backed = h.same_backed;
  all_made = h.all_made ∙ ap (λ (k : Kernel). length k.lives) e;
  within_watch = h.within_watch;
  own_faults = h.own_faults;
}

-- ---- a take

ordered-take : (job : Job) (core : Core) (lease : Lease) → MayTake job core lease → IsOrdered job core → IsOrdered job (after job core (Take lease))
unfolding after
ordered-take job core lease may h = record {
  replica_count = h.replica_count;
  no_sides = h.no_sides;
  backed = h.backed;
  sound = λ number r e. sound-with job core (after job core (Take lease)) h.backed number r refl (h.sound number r e);
  some_life = h.some_life;
  few_lives = h.few_lives;
  within_limit = h.within_limit;
  blocked_live = h.blocked_live;
  waits_begun = h.waits_begun;
  due_alone = λ how e. absurd (let none : core.due ≡ None = is-none-from core.due (and_parts _ _ may.going).0 in let f : None ≡ Some how = sym none ∙ e in cc);
  due_over = h.due_over;
  wrote_alone = λ (some : 0 < 0). absurd (omega arith);
}

-- ---- a put

-- the lent replica of a run
pub record PutParts (job : Job) (core : Core) (lease : Lease) (count : ℕ) (ran : RanTo) : Type 0 where
  pub lent : Replica
  pub there : slice_get core.replicas lease.replica ≡ Some lent
  pub runs : run_of (layout_in job.program core.kernel) job.settings.watchdog count lent lease.thread ≡ Some ran

pub put-parts : (job : Job) (core : Core) (lease : Lease) (count : ℕ) (ran : RanTo) → lease_run job core lease count ≡ Some ran → PutParts job core lease count ran
put-parts job core lease count ran e =
    option_and_then_some (λ r. run_with (layout_in job.program core.kernel) job.settings.watchdog (core.lent lease.driver) count r lease.thread) (slice_get core.replicas lease.replica) ran e
    (λ lent there runs. record { lent = lent; there = there; runs = run-with-is-run (layout_in job.program core.kernel) job.settings.watchdog (core.lent lease.driver) count lent lease.thread ran runs })

-- no lease is left where none was
pub none-left : (p : Lease → Bool) (leases : List Lease) → leases ≡ [] → filter p leases ≡ []
none-left p leases e = ap (filter p) e

module _ (job : Job) (core : Core) (lease : Lease) (count hit : ℕ) (back : Returns job core lease count hit) (h : IsOrdered job core) (stop : Option Stop) (wishes : (replica thread : ℕ) → List ℕ) (misses : (replica thread : ℕ) → ℕ) where
  parts : PutParts job core lease count back.ran
  parts = put-parts job core lease count back.ran back.runs

  abbrev behind : Core
  behind = core_after_lease core lease stop wishes misses back.ran.replica

  came : IsSound job core h.backed lease.replica (stopped lease.thread stop back.ran.replica)
  came = sound-changed job core h.backed lease.replica back.ran.replica (with_stop stop) lease.thread (λ x k. k)
      (run-well job core h.backed lease.replica (layout_in job.program core.kernel) count lease.thread parts.lent back.ran parts.runs (h.sound lease.replica parts.lent parts.there)).sound

  by : (number : ℕ) (r : Replica) → ((number ≢ lease.replica) × (slice_get core.replicas number ≡ Some r)) ⊎ ((number ≡ lease.replica) × (stopped lease.thread stop back.ran.replica ≡ r)) → IsSound job behind h.backed number r
  by number r (inl e) = sound-with job core behind h.backed number r refl (h.sound number r e.1)
  by number r (inr e) = subst (λ (n : ℕ). IsSound job behind h.backed n r) (sym e.0) (subst (IsSound job behind h.backed lease.replica) e.1 (sound-with job core behind h.backed lease.replica (stopped lease.thread stop back.ran.replica) refl came))

  ordered-back : IsOrdered job (core_after_lease core lease stop wishes misses back.ran.replica)
  ordered-back = record {
    replica_count = length-set core.replicas lease.replica _ ∙ h.replica_count;
    no_sides = h.no_sides;
    backed = h.backed;
    sound = λ number r e. by number r (get-set-cases core.replicas lease.replica number (stopped lease.thread stop back.ran.replica) r e);
    some_life = h.some_life;
    few_lives = h.few_lives;
    within_limit = h.within_limit;
    blocked_live = h.blocked_live;
    waits_begun = h.waits_begun;
    due_alone = λ how e. none-left _ core.leases (h.due_alone how e);
    due_over = h.due_over;
    wrote_alone = λ (some : 0 < 0). absurd (omega arith);
  }

ordered-put : (job : Job) (core : Core) (lease : Lease) (count hit : ℕ) → MayPut job core lease count hit → IsOrdered job core → IsOrdered job (after job core (Put lease count hit))
ordered-put job core lease count hit may h = put-by job core lease count hit may (IsOrdered job) (ordered-back job core lease count hit may.returns h)

ordered-part : (job : Job) (core : Core) (lease : Lease) (count hit : ℕ) → MayPart job core lease count hit → IsOrdered job core → IsOrdered job (after job core (Part lease count hit))
ordered-part job core lease count hit may h = part-by job core lease count hit may (IsOrdered job) (ordered-back job core lease count hit may.returns h)

-- ---- an event

-- the replicas of the event, each with what holds of all
abbrev pub AreSound : Job → Core → Backed → List Replica → Type 0
AreSound job core backed replicas = (number : ℕ) (replica : Replica) → slice_get replicas number ≡ Some replica → IsSound job core backed number replica

module _ (job : Job) (core : Core) (h : IsOrdered job core) (thread count : ℕ) (live : lives_on core.kernel thread ≡ true) (alone : core.leases ≡ []) (going : core.due ≡ None) (still : core.ended ≡ None) (event : Event) (happens : Happens core.kernel thread event)
    (replicas : List Replica) (as_many : length replicas ≡ length core.replicas) (sound : AreSound job core h.backed replicas) (fits : core.steps + count + event_steps event.did ≤ job.settings.limit) where
  new : Core
  new = core_after core thread count replicas event

  sound-after : (number : ℕ) (r : Replica) → MappedFrom (λ x. cancelled (applied event.effect x)) replicas number r → IsSound job new (backed_after event.effect h.backed) number r
  unfolding new
  sound-after number r m = subst (IsSound job new (backed_after event.effect h.backed) number) m.gives
      (sound-applied job core new h.backed number m.from event.effect happens.lives_are h.some_life (sound number m.from m.there))

  blocked-after : (u : ℕ) (call : Call) → event.due ≡ None → (b : Bool) → (u == thread) ≡ b → cond b event.blocked (core.blocked u) ≡ Some call → lives_on event.kernel u ≡ true
  blocked-after u call on true e f =
      ap (λ (n : ℕ). lives_on event.kernel n) (eqb-true u thread e) ∙ happens.blocks_live call f ∙ live
  blocked-after u call on false e f = happens.others_live on u (λ (same : u ≡ thread). true≢false (sym (eq-eqb u thread same) ∙ e)) (h.blocked_live going still u call f)

  begun-after : (u : ℕ) (call : Call) → event.due ≡ None → (b : Bool) → (u == thread) ≡ b → cond b event.blocked (core.blocked u) ≡ Some call → call.which ≡ Function Wait → is_waiting event.kernel.waiters u ≡ true
  begun-after u call on true e f w = ap (is_waiting event.kernel.waiters) (eqb-true u thread e) ∙ happens.waits_begun call f w
  begun-after u call on false e f w = happens.others_wait on u (λ (same : u ≡ thread). true≢false (sym (eq-eqb u thread same) ∙ e)) ∙ h.waits_begun going still u call f w

  few-after : (made : Option Made) → length event.kernel.lives ≡ length core.kernel.lives + made_count made → IfSome made (λ m. length core.kernel.lives < 16) → length event.kernel.lives ≤ 16
  few-after None e left = let few = h.few_lives in omega arith
  few-after (Some made) e left = omega arith

  pub ordered-event : IsOrdered job (core_after core thread count replicas event)
  unfolding new
  ordered-event = record {
    replica_count = length-mapped _ replicas ∙ (as_many ∙ h.replica_count);
    no_sides = h.no_sides;
    backed = backed_after event.effect h.backed;
    sound = λ number r e. sound-after number r (get-map _ replicas number r e);
    some_life = let more : length event.kernel.lives ≡ length core.kernel.lives + made_count event.effect.made = happens.lives_are in let some = h.some_life in omega arith;
    few_lives = few-after event.effect.made happens.lives_are happens.place_left;
    within_limit = fits;
    blocked_live = λ on ended u call e. blocked-after u call on (u == thread) refl e;
    waits_begun = λ on ended u call e w. begun-after u call on (u == thread) refl e w;
    due_alone = λ how e. alone;
    due_over = happens.ends_well;
    wrote_alone = λ some. alone;
  }

-- ---- a vote and a free

-- nothing is due, and nothing lent, where a vote may be held
pub record VoteParts (core : Core) (thread : ℕ) : Type 0 where
  pub going : is_going core ≡ true
  pub alone : core.leases ≡ []
  pub live : lives_on core.kernel thread ≡ true
  pub unblocked : core.blocked thread ≡ None
  pub not_due : core.due ≡ None
  pub not_ended : core.ended ≡ None

pub going-parts : (core : Core) → is_going core ≡ true → (core.due ≡ None) × (core.ended ≡ None)
going-parts core h = let p = and_parts _ _ h in (is-none-from core.due p.0, is-none-from core.ended p.1)

pub none-lent-is : (core : Core) → nothing_lent core ≡ true → core.leases ≡ []
none-lent-is core h = nil_from_length core.leases (eqb-true (length core.leases) 0 h)

pub vote-parts : (core : Core) (thread : ℕ) → may_vote core thread ≡ true → VoteParts core thread
vote-parts core thread may =
    let p = and_parts _ _ may in
    let q = and_parts _ _ p.0 in
    let r = and_parts _ _ q.0 in
    let s = and_parts _ _ r.0 in
    let g = going-parts core s.0 in
    record { going = s.0; alone = none-lent-is core s.1; live = r.1; unblocked = is-none-from (core.blocked thread) q.1; not_due = g.0; not_ended = g.1 }

-- the same where a blocked thread may be freed
pub record FreeParts (job : Job) (core : Core) (thread : ℕ) : Type 0 where
  pub going : is_going core ≡ true
  pub alone : core.leases ≡ []
  pub not_due : core.due ≡ None
  pub not_ended : core.ended ≡ None
  pub call : Call
  pub blocked_on : core.blocked thread ≡ Some call
  pub goes_on : serves (setup_of job.program) core.kernel thread call ≡ true

pub free-parts : (job : Job) (core : Core) (thread : ℕ) → may_free job core thread ≡ true → FreeParts job core thread
free-parts job core thread may = by (core.blocked thread) refl p.1
  where
    p : ((is_going core && nothing_lent core) ≡ true) × (option_map_or (λ call. serves (setup_of job.program) core.kernel thread call) (core.blocked thread) false ≡ true)
    p = and_parts _ _ may

    by : (o : Option Call) → core.blocked thread ≡ o → option_map_or (λ call. serves (setup_of job.program) core.kernel thread call) o false ≡ true → FreeParts job core thread
    by None e f = absurd (false≢true f)
    by (Some call) e f = let q = and_parts _ _ p.0 in let g = going-parts core q.0 in
        record { going = q.0; alone = none-lent-is core q.1; not_due = g.0; not_ended = g.1; call = call; blocked_on = e; goes_on = f }

-- the same where the replicas may be scrubbed
pub record ScrubParts (core : Core) : Type 0 where
  pub going : is_going core ≡ true
  pub alone : core.leases ≡ []
  pub not_due : core.due ≡ None
  pub not_ended : core.ended ≡ None

pub scrub-parts : (core : Core) → may_scrub core ≡ true → ScrubParts core
scrub-parts core may =
    let p = and_parts _ _ may in
    let q = and_parts _ _ p.0 in
    let g = going-parts core q.0 in
    record { going = q.0; alone = none-lent-is core q.1; not_due = g.0; not_ended = g.1 }

-- the winner of a scrub is there
pub scrub-winner : (core : Core) (won : ℕ) (lost : Lost) → MayScrub core won lost → (winner : Replica) × (slice_get core.replicas won ≡ Some winner)
scrub-winner core won lost may =
    let m = get-map (snapshot_of core.kernel) core.replicas won may.prevails.shown may.prevails.there in (m.from, m.there)

-- the event of a vote, and what it was
pub record EventParts (job : Job) (core : Core) (thread won : ℕ) (event : Event) : Type 0 where
  pub winner : Replica
  pub there : slice_get core.replicas won ≡ Some winner
  pub stop : Stop
  pub stands : stop_of winner thread ≡ Some stop
  pub is : event_with job core thread winner stop ≡ event

pub event-parts : (job : Job) (core : Core) (thread won : ℕ) (event : Event) → event_in job core thread won ≡ Some event → EventParts job core thread won event
event-parts job core thread won event e =
    option_and_then_some (λ winner. option_map (event_with job core thread winner) (stop_of winner thread)) (slice_get core.replicas won) event e (λ winner there f. by winner there (stop_of winner thread) refl f)
  where
    by : (winner : Replica) → slice_get core.replicas won ≡ Some winner → (o : Option Stop) → stop_of winner thread ≡ o → option_map (event_with job core thread winner) o ≡ Some event → EventParts job core thread won event
    by winner there None f g = absurd (let k : None ≡ Some event = g in cc)
    by winner there (Some stop) f g = record { winner = winner; there = there; stop = stop; stands = f; is = some-injective g }

-- after a copy the same holds of each replica
pub copied-sound : (job : Job) (core : Core) (backed : Backed) (replicas : List Replica) (won : ℕ) (winner : Replica) (lost : List ℕ) → slice_get replicas won ≡ Some winner → AreSound job core backed replicas → AreSound job core backed (with_recovered won lost replicas)
copied-sound job core backed replicas won winner [] there sound = sound
copied-sound job core backed replicas won winner (lost ∷ losers) there sound =
    let w = still-there won lost replicas winner there in
    copied-sound job core backed (with_copy won lost replicas) won w.0 losers w.1 (λ number r e. by number r (after-copy won lost replicas winner number r there e))
  where
    by : (number : ℕ) (r : Replica) → AfterCopy won lost replicas number r → IsSound job core backed number r
    by number r (not_lost d e) = sound number r e
    by number r (is_copy w l same a b e) =
        subst (λ (n : ℕ). IsSound job core backed n r) (sym same) (subst (IsSound job core backed lost) e (sound-recovered job core backed won lost w l (sound won w a) (sound lost l b)))

ordered-vote : (job : Job) (core : Core) (thread count won : ℕ) (lost : Lost) (did : Did) → MayVote job core thread count won lost did → IsOrdered job core → IsOrdered job (after job core (Vote thread count won lost did))
unfolding after
ordered-vote job core thread count won lost did may h =
    let p = vote-parts core thread may.may in
    let e = event-parts job core thread won may.event may.comes in
    subst (λ (o : Option Event). IsOrdered job (core_after_event core thread count (with_recovered won (numbers lost) core.replicas) o)) (sym may.comes)
    (ordered-event job core h thread count p.live p.alone p.not_due p.not_ended may.event (subst (Happens core.kernel thread) e.is (event-happens (setup_of job.program) core.kernel thread e.stop _))
    (with_recovered won (numbers lost) core.replicas) (length-with-copy won (numbers lost) core.replicas) (copied-sound job core h.backed core.replicas won e.winner (numbers lost) e.there h.sound)
    (let f : core.steps + count + event_steps did ≤ job.settings.limit = may.fits in subst (λ (d : Did). core.steps + count + event_steps d ≤ job.settings.limit) (sym may.did_is) f))

-- what a freed thread's event does in the plan
pub freed-is : (job : Job) (core : Core) (thread : ℕ) (call : Call) → core.blocked thread ≡ Some call → freed_event job core thread ≡ Some (call_event core.kernel thread call [] (serve (setup_of job.program) core.kernel thread call))
freed-is job core thread call e = ap (option_map (λ c. call_event core.kernel thread c [] (serve (setup_of job.program) core.kernel thread c))) e

-- a call that would be done is served
pub freed-steps : (job : Job) (kernel : Kernel) (thread : ℕ) (call : Call) → serves (setup_of job.program) kernel thread call ≡ true → (call_event kernel thread call [] (serve (setup_of job.program) kernel thread call)).did ≡ WasServed
freed-steps job kernel thread call e = by (serve (setup_of job.program) kernel thread call) e
  where
    by : (served : Served) → is_served served ≡ true → (call_event kernel thread call [] served).did ≡ WasServed
    by (Done after effect) f = refl
    by (Parked after) f = absurd (false≢true f)
    by Blocked f = absurd (false≢true f)
    by (Ends after how) f = refl

ordered-free : (job : Job) (core : Core) (thread : ℕ) → MayFree job core thread → IsOrdered job core → IsOrdered job (after job core (Free thread))
unfolding after
ordered-free job core thread may h =
    let p = free-parts job core thread may.may in
    let event : Event = call_event core.kernel thread p.call [] (serve (setup_of job.program) core.kernel thread p.call) in
    let fits : core.steps + 0 + event_steps event.did ≤ job.settings.limit =
    (let one : event_steps event.did ≡ 1 = ap event_steps (freed-steps job core.kernel thread p.call p.goes_on) in let f : core.steps + 1 ≤ job.settings.limit = may.fits in omega arith)
    in
    subst (λ (o : Option Event). IsOrdered job (core_after_event core thread 0 core.replicas o)) (sym (freed-is job core thread p.call p.blocked_on))
    (ordered-event job core h thread 0 (h.blocked_live p.not_due p.not_ended thread p.call p.blocked_on) p.alone p.not_due p.not_ended event (call-happens (setup_of job.program) core.kernel thread p.call []) core.replicas refl h.sound fits)

-- ---- a scrub

ordered-scrub : (job : Job) (core : Core) (won : ℕ) (lost : Lost) → MayScrub core won lost → IsOrdered job core → IsOrdered job (after job core (Scrub won lost))
unfolding after
ordered-scrub job core won lost may h = record {
  replica_count = length-with-copy won (numbers lost) core.replicas ∙ h.replica_count;
  no_sides = h.no_sides;
  backed = h.backed;
  sound = λ number r e. let w = scrub-winner core won lost may in
      sound-with job core (after job core (Scrub won lost)) h.backed number r refl (copied-sound job core h.backed core.replicas won w.0 (numbers lost) w.1 h.sound number r e);
  some_life = h.some_life;
  few_lives = h.few_lives;
  within_limit = h.within_limit;
  blocked_live = h.blocked_live;
  waits_begun = h.waits_begun;
  due_alone = h.due_alone;
  due_over = h.due_over;
  wrote_alone = λ (some : 0 < 0). absurd (omega arith);
}

-- ---- an end, and the opening

-- nothing is lent where an end comes
pub end-alone : (job : Job) (core : Core) (how : How) → MayEnd job core how → IsOrdered job core → core.leases ≡ []
end-alone job core how (due e) h = h.due_alone how e
end-alone job core Deadlock (alone e) h = none-lent-is core (and_parts _ _ (and_parts _ _ e).0).1
end-alone job core (Sink bytes) (alone e) h = h.wrote_alone (let less : bytes < core.wrote = e.1 in omega arith)
end-alone job core how (alone e) h = absurd e
end-alone job core how (for_vote thread may e) h = (vote-parts core thread may).alone
end-alone job core how (for_free thread may e) h = (free-parts job core thread may).alone
end-alone job core how (for_scrub may e) h = (scrub-parts core may).alone

ordered-end : (job : Job) (core : Core) (how : How) → MayEnd job core how → IsOrdered job core → IsOrdered job (after job core (End how))
unfolding after
ordered-end job core how may h = record {
  replica_count = h.replica_count;
  no_sides = h.no_sides;
  backed = h.backed;
  sound = λ number r e. sound-with job core (after job core (End how)) h.backed number r refl (h.sound number r e);
  some_life = h.some_life;
  few_lives = h.few_lives;
  within_limit = h.within_limit;
  blocked_live = λ e (f : Some how ≡ None) thread call g. absurd cc;
  waits_begun = λ e (f : Some how ≡ None) thread call g w. absurd cc;
  due_alone = λ other e. absurd (let f : None ≡ Some other = e in cc);
  due_over = λ other e. absurd (let f : None ≡ Some other = e in cc);
  wrote_alone = λ (some : 0 < 0). absurd (omega arith);
}

pub length-opening : (job : Job) (n : ℕ) → length (opening_replicas job n) ≡ n
length-opening job zero = refl
length-opening job (suc n) =
    length-append (opening_replicas job n) _ ∙ (let e = length-opening job n in omega arith)

-- each replica of the opening is its own
pub get-opening : (job : Job) (n number : ℕ) (r : Replica) → slice_get (opening_replicas job n) number ≡ Some r → opening_replica job.program.image job.faults number ≡ r
get-opening job zero number r e = absurd (let f : None ≡ Some r = e in cc)
get-opening job (suc n) number r e = opened-cases job n number r (get-opening job n number r) (get-append-cases (opening_replicas job n) (opening_replica job.program.image job.faults n) number r e)
  where
    opened-cases : (job : Job) (n number : ℕ) (r : Replica) → (slice_get (opening_replicas job n) number ≡ Some r → opening_replica job.program.image job.faults number ≡ r) → (slice_get (opening_replicas job n) number ≡ Some r) ⊎ ((number ≡ length (opening_replicas job n)) × (opening_replica job.program.image job.faults n ≡ r)) → opening_replica job.program.image job.faults number ≡ r
    opened-cases job n number r rec (inl f) = rec f
    opened-cases job n number r rec (inr f) = ap (opening_replica job.program.image job.faults) (f.0 ∙ length-opening job n) ∙ f.1

-- the only thread of the opening
pub one-thread : (x : Thread) (place : ℕ) (thread : Thread) → slice_get (x ∷ []) place ≡ Some thread → (place ≡ 0) × (x ≡ thread)
one-thread x zero thread e = (refl, some-injective e)
one-thread x (suc place) thread e = absurd (let f : None ≡ Some thread = e in cc)

opening-sound : (job : Job) (core : Core) (number : ℕ) → length core.kernel.lives ≡ 1 → IsSound job core (holds_file_byte job.program.image.pieces) number (opening_replica job.program.image job.faults number)
unfolding opening_replica
opening-sound job core number one = record {
  same_backed = refl;
  all_made = sym one;
  within_watch = λ place thread e. subst (λ (x : Thread). x.since ≤ job.settings.watchdog) (one-thread _ place thread e).1 (omega arith);
  own_faults = λ fault e. let l = listed-filter (λ f. f.replica == number) job.faults fault e in (eqb-true fault.replica number l.1, l.0);
}

pub ordered-opening : (job : Job) → IsOrdered job (opening_core job)
unfolding opening_core
ordered-opening job = record {
  replica_count = length-opening job job.settings.replicas;
  no_sides = refl;
  backed = holds_file_byte job.program.image.pieces;
  sound = λ number r e. subst (IsSound job (opening_core job) (holds_file_byte job.program.image.pieces) number) (get-opening job job.settings.replicas number r e) (opening-sound job (opening_core job) number refl);
  some_life = omega arith;
  few_lives = omega arith;
  within_limit = omega arith;
  blocked_live = λ on still thread call e. absurd (let f : None ≡ Some call = e in cc);
  waits_begun = λ on still thread call e w. absurd (let f : None ≡ Some call = e in cc);
  due_alone = λ how e. absurd (let f : None ≡ Some how = e in cc);
  due_over = λ how e. absurd (let f : None ≡ Some how = e in cc);
  wrote_alone = λ (some : 0 < 0). absurd (omega arith);
}

-- ---- all entries

pub ordered-after : (job : Job) (core : Core) (entry : Entry) → IsAllowed job core entry → IsOrdered job core → IsOrdered job (after job core entry)
ordered-after job core (Take lease) may h = ordered-take job core lease may h
ordered-after job core (Put lease count hit) may h = ordered-put job core lease count hit may h
ordered-after job core (Part lease count hit) may h = ordered-part job core lease count hit may h
ordered-after job core (Vote thread count won lost did) may h = ordered-vote job core thread count won lost did may h
ordered-after job core (Free thread) may h = ordered-free job core thread may h
ordered-after job core (Scrub won lost) may h = ordered-scrub job core won lost may h
ordered-after job core (End how) may h = ordered-end job core how may.1 h

-- what every legal journal keeps
pub ordered : (job : Job) (journal : List Entry) → Legal job journal → IsOrdered job (replay job journal)
ordered job journal legal = legal-keeps job (IsOrdered job) (ordered-after job) (opening_core job) journal legal (ordered-opening job)
