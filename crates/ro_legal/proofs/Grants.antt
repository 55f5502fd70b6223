-- A thread that stands at a call stands there until it is answered, or its replica becomes a copy.
use Rattle.std.specs.Prelude.{◌≡◌, ◌≢◌, ◌==◌, ℕ, ◌⊎◌, Bool, true, false, not, cond, ◌||◌, List, [], ◌∷◌, ◌++◌, Option, Some, None, is_none, slice_get}
use Rattle.std.specs.List.{filter, list_any}
use Rattle.std.specs.Option.{option_map_or, option_and_then}
use Rattle.std.proofs.Common.{refl, sym, ap, ◌∙◌, subst, inl, inr}
use Rattle.std.proofs.lemmas.Bool.{true≢false, false≢true, cases_Bool, cases_eq}
use Rattle.std.proofs.lemmas.Option.{option_and_then_some}
use Rattle.ro_event.specs.declared.calls.Call.{Call}
use Rattle.ro_event.specs.declared.effects.Made.{Made}
use Rattle.ro_event.specs.declared.stops.Stop.{Stop}
use Rattle.ro_event.specs.declared.stops.Stop.TheVariants.{Calls, Trap, PageFault, Watchdog}
use Rattle.ro_event.specs.Effects.{Effect}
use Rattle.ro_exec.specs.Next.{Backed}
use Rattle.ro_journal.specs.Losers.{numbers}
use Rattle.ro_journal.specs.declared.losers.Lost.{Lost}
use Rattle.ro_vote.specs.Numbers.{is_among}
use Rattle.ro_journal.specs.declared.Did.{Did}
use Rattle.ro_journal.specs.declared.How.{How}
use Rattle.ro_journal.specs.declared.Entry.{Entry}
use Rattle.ro_journal.specs.declared.Entry.TheVariants.{Take, Put, Part, Vote, Free, Scrub, End}
use Rattle.ro_kernel.proofs.Kept.{slice_get-set_other}
use Rattle.ro_region.specs.declared.Range.{Range}
use Rattle.ro_kernel.specs.Kernel.{Setup, Kernel, ranges_in}
use Rattle.ro_kernel.specs.Serve.{Served as Serving, Done, Parked as Parks, Blocked as Blocks, Ends, serve, put_out, asked}
use Rattle.ro_thread.specs.declared.Thread.{Thread}
use Rattle.ro_replica.specs.Replica.{Replica, changed_at, thread_after, with_made, without_cancelled, is_cancelled, applied, cancelled}
use Rattle.ro_replica.specs.Runs.{RanTo, run_of, with_stop}
use Rattle.ro_replica.specs.Views.{is_unstopped}
use Rattle.ro_plain.specs.Machine.{setup_of, layout_in}
use Rattle.ro_plain.proofs.Calls.{some-injective, slice_get-append}
use Rattle.ro_journal.specs.declared.Lease.{Lease}
use Rattle.ro_legal.specs.Core.{Job, Core, opening_core, is_lease, is_out, is_lendable}
use Rattle.ro_legal.specs.Event.{Event, quiet_effect, call_event, event_of, with_recovered}
use Rattle.ro_legal.specs.Legal.{lease_run, stopped, core_after_lease, core_after_event, event_in, freed_event, after, IsAllowed, Returns, MayVote, MayFree, Legal, replay}
use Rattle.ro_legal.specs.Laws.{AreBeside, elsewhere, sharing, thread_in, leaves_blocked, LeavesBlocked, LetsGoOn}
use Rattle.ro_legal.proofs.Lists.{get-map-there, get-set-same, changed-is-set, changed-other}
use Rattle.ro_legal.proofs.Copies.{copied-other}
use Rattle.ro_legal.proofs.Effects.{backed_after, threads_after}
use Rattle.ro_legal.proofs.Happens.{Happens, event-happens, call-happens}
use Rattle.ro_legal.proofs.Journals.{LegalFrom-parts, legal-keeps, replay_more}
use Rattle.ro_legal.proofs.Leases.{OneEach, lendable-is, same-lease, out_number, gone_number, event_leases, one-after, put-by, part-by}
use Rattle.ro_legal.proofs.Beside.{beside-both, LendsWell, lends-after, lends-opening}
use Rattle.ro_legal.proofs.Ordered.{put-parts, vote-parts, free-parts, scrub-parts, event-parts, freed-is}
use Rattle.ro_legal.proofs.Outcomes.{over_from}
use Rattle.ro_legal.proofs.Retired.{RunMeets, meets}

-- ---- what is lent can go on

-- the thread is there in the replica, and does not stand still
abbrev pub goes_in : Core → (replica thread : ℕ) → Bool
goes_in core replica thread = option_map_or (is_unstopped thread) (slice_get core.replicas replica) false

abbrev pub LentGo : Core → Type 0
LentGo core = (lease : Lease) → is_out core lease ≡ true → goes_in core lease.replica lease.thread ≡ true

-- what is in a filtered list is in the list
pub any-filter : {X : Type 0} (p q : X → Bool) (xs : List X) → list_any p (filter q xs) ≡ true → list_any p xs ≡ true
any-filter p q [] e = e
any-filter p q (x ∷ xs) e = by (any-filter p q xs) (q x) e
  where
    later : (b : Bool) → list_any p xs ≡ true → (b || list_any p xs) ≡ true
    later true f = refl
    later false f = f

    first : (list_any p (filter q xs) ≡ true → list_any p xs ≡ true) → (b : Bool) → (b || list_any p (filter q xs)) ≡ true → (b || list_any p xs) ≡ true
    first rest true f = refl
    first rest false f = rest f

    by : (list_any p (filter q xs) ≡ true → list_any p xs ≡ true) → (b : Bool) → list_any p (cond b (x ∷ filter q xs) (filter q xs)) ≡ true → (p x || list_any p xs) ≡ true
    by rest true f = first rest (p x) f
    by rest false f = later (p x) (rest f)

go-take : (job : Job) (core : Core) (lease : Lease) → is_lendable core lease.replica lease.thread ≡ true → LentGo core → LentGo (after job core (Take lease))
unfolding after
go-take job core lease lendable h other e = by (is_lease other lease) refl e
  where
    lent : goes_in core lease.replica lease.thread ≡ true
    lent = let is = lendable-is core lease.replica lease.thread lendable in ap (λ (o : Option Replica). option_map_or (is_unstopped lease.thread) o false) is.there ∙ is.unstopped

    by : (b : Bool) → is_lease other lease ≡ b → (b || is_out core other) ≡ true → goes_in core other.replica other.thread ≡ true
    by true is f = subst (λ (l : Lease). goes_in core l.replica l.thread ≡ true) (same-lease other lease is) lent
    by false is f = h other f

-- where nothing is lent
pub go-none : (core : Core) → core.leases ≡ [] → LentGo core
go-none core none lease e = absurd (true≢false (sym e ∙ ap (list_any (is_lease lease)) none))

-- the thread that a put gives back was there, and did not stand still
pub record LentThread (core : Core) (replica thread : ℕ) : Type 0 where
  pub lent : Replica
  pub in_core : slice_get core.replicas replica ≡ Some lent
  pub went : Thread
  pub in_lent : slice_get lent.threads thread ≡ Some went
  pub goes : went.stop ≡ None

pub lent-thread : (core : Core) (replica thread : ℕ) → goes_in core replica thread ≡ true → LentThread core replica thread
lent-thread core replica thread e = by (slice_get core.replicas replica) refl e
  where
    none : (o : Option Stop) → is_none o ≡ true → o ≡ None
    none None f = refl
    none (Some stop) f = absurd (true≢false (sym f))

    at : (r : Replica) → slice_get core.replicas replica ≡ Some r → (o : Option Thread) → slice_get r.threads thread ≡ o → option_map_or (λ (t : Thread). is_none t.stop) o false ≡ true → LentThread core replica thread
    at r there None f g = absurd (true≢false (sym g))
    at r there (Some t) f g = record { lent = r; in_core = there; went = t; in_lent = f; goes = none t.stop g }

    by : (o : Option Replica) → slice_get core.replicas replica ≡ o → option_map_or (is_unstopped thread) o false ≡ true → LentThread core replica thread
    by None f g = absurd (true≢false (sym g))
    by (Some r) f g = at r f (slice_get r.threads thread) refl g

-- what its run did to the replica
pub lent-meets : (job : Job) (core : Core) (lease : Lease) (count : ℕ) (ran : RanTo) (lent : LentThread core lease.replica lease.thread) → lease_run job core lease count ≡ Some ran → RunMeets lease.thread count lent.went lent.lent ran
lent-meets job core lease count ran lent runs =
    let parts = put-parts job core lease count ran runs in
    meets (layout_in job.program core.kernel) job.settings.watchdog count lease.thread lent.went lent.lent ran lent.in_lent
    (ap (λ (r : Replica). run_of (layout_in job.program core.kernel) job.settings.watchdog count r lease.thread) (some-injective (sym lent.in_core ∙ parts.there)) ∙ parts.runs)

-- ---- what is lent goes on

-- a lease that is still out behind another that came back
module _ (core : Core) (lease other : Lease) (one : OneEach core.leases) (back : is_out core lease ≡ true) (e : list_any (is_lease other) (filter (λ l. not (is_lease lease l)) core.leases) ≡ true) where
  -- it was out before
  pub was-out : is_out core other ≡ true
  was-out = any-filter (is_lease other) (λ l. not (is_lease lease l)) core.leases e

  -- it is not the lease that came back
  pub is-another : lease ≢ other
  is-another same =
      let gone_now : list_any (λ l. l.driver == lease.driver) (filter (λ l. not (is_lease lease l)) core.leases) ≡ false = gone_number (λ l. l.driver) lease core.leases one back in
      true≢false (sym (out_number (λ l. l.driver) other (filter (λ l. not (is_lease lease l)) core.leases) e) ∙ ap (λ (l : Lease). list_any (λ x. x.driver == l.driver) (filter (λ x. not (is_lease lease x)) core.leases)) (sym same) ∙ gone_now)

module _ (job : Job) (core : Core) (lease : Lease) (count hit : ℕ) (back : Returns job core lease count hit) (well : LendsWell job core) (one : OneEach core.leases) (h : LentGo core) (stop : Option Stop) (wishes : (replica thread : ℕ) → List ℕ) (misses : (replica thread : ℕ) → ℕ) where
  abbrev new : Core
  new = core_after_lease core lease stop wishes misses back.ran.replica

  lent : LentThread core lease.replica lease.thread
  lent = lent-thread core lease.replica lease.thread (h lease back.out)

  go-back : LentGo (core_after_lease core lease stop wishes misses back.ran.replica)
  go-back other e = by (beside-both ranges core.lent lease other core.leases well.beside back.out out (is-another core lease other one back.out e))
    where
      ranges : List Range
      ranges = ranges_in (setup_of job.program) core.kernel

      out : is_out core other ≡ true
      out = was-out core lease other one back.out e

      away : other.replica ≢ lease.replica → goes_in new other.replica other.thread ≡ true
      away apart =
          ap (λ (o : Option Replica). option_map_or (is_unstopped other.thread) o false) (slice_get-set_other core.replicas lease.replica other.replica (stopped lease.thread stop back.ran.replica) (λ k. apart (sym k)))
          ∙ h other out

      beside : other.thread ≢ lease.thread → (replica : ℕ) → other.replica ≡ replica → replica ≡ lease.replica → goes_in new replica other.thread ≡ true
      beside apart replica its same =
          let here : slice_get new.replicas replica ≡ Some (stopped lease.thread stop back.ran.replica) =
          ap (slice_get new.replicas) same ∙ get-set-same core.replicas lease.replica lent.lent (stopped lease.thread stop back.ran.replica) lent.in_core in
          let threads : slice_get (changed_at (with_stop stop) back.ran.replica.threads lease.thread) other.thread ≡ slice_get lent.lent.threads other.thread =
          changed-other (with_stop stop) back.ran.replica.threads lease.thread other.thread apart ∙ (lent-meets job core lease count back.ran lent back.runs).only.others other.thread apart in
          let before : is_unstopped other.thread lent.lent ≡ true =
          sym (ap (λ (o : Option Replica). option_map_or (is_unstopped other.thread) o false) (ap (slice_get core.replicas) (its ∙ same) ∙ lent.in_core)) ∙ h other out in
          ap (λ (o : Option Replica). option_map_or (is_unstopped other.thread) o false) here
          ∙ ap (λ (o : Option Thread). option_map_or (λ t. is_none t.stop) o false) threads ∙ before

      by : AreBeside ranges core.lent lease other → goes_in new other.replica other.thread ≡ true
      by (elsewhere apart) = away (λ e. apart (sym e))
      by (sharing ones others apart has have both) = either (cases_eq other.replica lease.replica)
        where
          either : (other.replica ≡ lease.replica) ⊎ (other.replica ≢ lease.replica) → goes_in new other.replica other.thread ≡ true
          either (inl same) = beside (λ e. apart (sym e)) other.replica refl same
          either (inr differs) = away differs

pub go-after : (job : Job) (core : Core) (entry : Entry) → IsAllowed job core entry → LendsWell job core → OneEach core.leases → LentGo core → LentGo (after job core entry)
unfolding after
go-after job core (Take lease) may well one h = go-take job core lease may.lendable h
go-after job core (Put lease count hit) may well one h = put-by job core lease count hit may LentGo (go-back job core lease count hit may.returns well one h)
go-after job core (Part lease count hit) may well one h = part-by job core lease count hit may LentGo (go-back job core lease count hit may.returns well one h)
go-after job core (Vote thread count won lost did) may well one h =
    go-none (core_after_event core thread count (with_recovered won (numbers lost) core.replicas) (event_in job core thread won)) (event_leases core thread count (with_recovered won (numbers lost) core.replicas) (event_in job core thread won) ∙ (vote-parts core thread may.may).alone)
go-after job core (Free thread) may well one h =
    go-none (core_after_event core thread 0 core.replicas (freed_event job core thread)) (event_leases core thread 0 core.replicas (freed_event job core thread) ∙ (free-parts job core thread may.may).alone)
go-after job core (Scrub won lost) may well one h = go-none (after job core (Scrub won lost)) (scrub-parts core may.may).alone
go-after job core (End how) may well one h = h

-- in a legal journal each thread that is lent can go on, and leases can be out at once
pub record GoesOn (job : Job) (core : Core) : Type 0 where
  pub well : LendsWell job core
  pub one : OneEach core.leases
  pub goes : LentGo core

pub goes-after : (job : Job) (core : Core) (entry : Entry) → IsAllowed job core entry → GoesOn job core → GoesOn job (after job core entry)
goes-after job core entry may h = record { well = lends-after job core entry may h.well; one = one-after job core entry may h.one; goes = go-after job core entry may h.well h.one h.goes }

pub goes-opening : (job : Job) → GoesOn job (opening_core job)
unfolding opening_core
goes-opening job = record { well = lends-opening job; one = tt; goes = go-none (opening_core job) refl }

pub lent-go : (job : Job) (journal : List Entry) → Legal job journal → LentGo (replay job journal)
lent-go job journal legal = (legal-keeps job (GoesOn job) (goes-after job) (opening_core job) journal legal (goes-opening job)).goes

-- ---- what stands at a call

-- where a thread is found
pub record Found (core : Core) (replica thread : ℕ) (stands : Thread) : Type 0 where
  pub value : Replica
  pub in_core : slice_get core.replicas replica ≡ Some value
  pub there : slice_get value.threads thread ≡ Some stands

found : (core : Core) (replica thread : ℕ) (stands : Thread) → thread_in core replica thread ≡ Some stands → Found core replica thread stands
found core replica thread stands e = option_and_then_some (λ r. slice_get r.threads thread) (slice_get core.replicas replica) stands e (λ r f g. record { value = r; in_core = f; there = g })

found-is : (core : Core) (replica thread : ℕ) (stands : Thread) → Found core replica thread stands → thread_in core replica thread ≡ Some stands
found-is core replica thread stands f = ap (option_and_then (λ r. slice_get r.threads thread)) f.in_core ∙ f.there

-- a call is not cancelled
not-cancelled : (backed : Backed) (stands : Thread) (call : Call) → stands.stop ≡ Some (Calls call) → without_cancelled backed stands ≡ stands
not-cancelled backed stands call e = ap (λ (o : Option Stop). record stands { stop = o }) (by stands.stop e)
  where
    by : (o : Option Stop) → o ≡ Some (Calls call) → cond (is_cancelled backed o) None o ≡ o
    by None f = refl
    by (Some stop) f = ap (λ (s : Stop). cond (is_cancelled backed (Some s)) None (Some s)) (some-injective f) ∙ sym f

-- a thread that is made stands behind the others
made-keeps : (made : Option Made) (threads : List Thread) (i : ℕ) (x : Thread) → slice_get threads i ≡ Some x → slice_get (with_made made threads) i ≡ Some x
made-keeps None threads i x e = e
made-keeps (Some made) [] i x e = e
made-keeps (Some made) (y ∷ threads) i x e = slice_get-append (y ∷ threads) _ i x e

-- an effect of another thread leaves it
pub effect-keeps : (effect : Effect) (replica : Replica) (thread : ℕ) (stands : Thread) (call : Call) → thread ≢ effect.thread → slice_get replica.threads thread ≡ Some stands → stands.stop ≡ Some (Calls call)
    → slice_get (cancelled (applied effect replica)).threads thread ≡ Some stands
unfolding applied cancelled
effect-keeps effect replica thread stands call other there at =
    get-map-there (without_cancelled (backed_after effect replica.backed)) (threads_after effect replica.threads) thread stands
    (made-keeps effect.made (changed_at (thread_after effect) replica.threads effect.thread) thread stands (changed-other (thread_after effect) replica.threads effect.thread thread other ∙ there))
    ∙ ap Some (not-cancelled (backed_after effect replica.backed) stands call at)

-- and so does an event of another thread
event-keeps : (core : Core) (voted count : ℕ) (replicas : List Replica) (event : Event) (replica thread : ℕ) (value : Replica) (stands : Thread) (call : Call)
    → event.effect.thread ≡ voted → thread ≢ voted → slice_get replicas replica ≡ Some value → slice_get value.threads thread ≡ Some stands → stands.stop ≡ Some (Calls call)
    → thread_in (core_after_event core voted count replicas (Some event)) replica thread ≡ Some stands
event-keeps core voted count replicas event replica thread value stands call own other in_core there at =
    found-is (core_after_event core voted count replicas (Some event)) replica thread stands (record {
      value = cancelled (applied event.effect value);
      in_core = get-map-there (λ r. cancelled (applied event.effect r)) replicas replica value in_core;
      there = effect-keeps event.effect value thread stands call (λ e. other (e ∙ own)) there at;
    })

-- what an event that blocks does to its thread: its count since the last vote begins anew
pub blocked-stands : (core : Core) (voted count : ℕ) (replicas : List Replica) (event : Event) (replica : ℕ) (value : Replica) (stands : Thread) (call : Call)
    → event.effect ≡ quiet_effect voted None false → slice_get replicas replica ≡ Some value → slice_get value.threads voted ≡ Some stands → stands.stop ≡ Some (Calls call)
    → thread_in (core_after_event core voted count replicas (Some event)) replica voted ≡ Some (record stands { since = 0 })
unfolding applied cancelled
blocked-stands core voted count replicas event replica value stands call quiet in_core there at =
    found-is (core_after_event core voted count replicas (Some event)) replica voted (record stands { since = 0 }) (record {
      value = cancelled (applied event.effect value);
      in_core = get-map-there (λ r. cancelled (applied event.effect r)) replicas replica value in_core;
      there = subst (λ (e : Effect). slice_get (cancelled (applied e value)).threads voted ≡ Some (record stands { since = 0 })) (sym quiet) new;
    })
  where
    effect : Effect
    effect = quiet_effect voted None false

    changed : slice_get (changed_at (thread_after effect) value.threads voted) voted ≡ Some (record stands { since = 0 })
    changed =
        ap (λ (xs : List Thread). slice_get xs voted) (changed-is-set (thread_after effect) value.threads voted stands there)
        ∙ get-set-same value.threads voted stands (thread_after effect stands) there

    new : slice_get (cancelled (applied effect value)).threads voted ≡ Some (record stands { since = 0 })
    new =
        get-map-there (without_cancelled (backed_after effect value.backed)) (threads_after effect value.threads) voted (record stands { since = 0 }) changed
        ∙ ap Some (not-cancelled (backed_after effect value.backed) (record stands { since = 0 }) call at)

-- an event that blocks changes nothing else of the replicas
blocked-quiet : (setup : Setup) (kernel : Kernel) (thread : ℕ) (stop : Stop) (payload : List ℕ) → leaves_blocked (event_of setup kernel thread stop payload).did ≡ true → (event_of setup kernel thread stop payload).effect ≡ quiet_effect thread None false
unfolding event_of
blocked-quiet setup kernel thread (PageFault page) payload e = absurd (false≢true e)
blocked-quiet setup kernel thread Watchdog payload e = absurd (false≢true e)
blocked-quiet setup kernel thread (Trap code) payload e = absurd (false≢true e)
blocked-quiet setup kernel thread (Calls call) payload e = by (serve setup kernel thread (asked call payload)) e
  where
    by : (s : Serving) → leaves_blocked (call_event kernel thread call (put_out call.which payload) s).did ≡ true → (call_event kernel thread call (put_out call.which payload) s).effect ≡ quiet_effect thread None false
    by (Done after effect) f = absurd (false≢true f)
    by (Parks after) f = refl
    by Blocks f = refl
    by (Ends after how) f = absurd (false≢true f)

-- what becomes of a thread that stands at a call
abbrev Goes : Core → Entry → (replica thread : ℕ) → Thread → Type 0
Goes new entry replica thread stands =
    (thread_in new replica thread ≡ Some stands) ⊎ (LeavesBlocked entry thread × (thread_in new replica thread ≡ Some (record stands { since = 0 }))) ⊎ LetsGoOn entry replica thread

module _ (job : Job) (core : Core) (lease : Lease) (count hit : ℕ) (back : Returns job core lease count hit) (go : LentGo core) (stop : Option Stop) (wishes : (replica thread : ℕ) → List ℕ) (misses : (replica thread : ℕ) → ℕ) (replica thread : ℕ) (stands : Thread) (call : Call) (f : Found core replica thread stands) (at : stands.stop ≡ Some (Calls call)) where
  abbrev behind : Core
  behind = core_after_lease core lease stop wishes misses back.ran.replica

  went : LentThread core lease.replica lease.thread
  went = lent-thread core lease.replica lease.thread (go lease back.out)

  here : replica ≡ lease.replica → thread_in behind replica thread ≡ Some stands
  here same =
      let is : went.lent ≡ f.value = some-injective (sym went.in_core ∙ ap (slice_get core.replicas) (sym same) ∙ f.in_core) in
      let there : slice_get went.lent.threads thread ≡ Some stands = ap (λ (r : Replica). slice_get r.threads thread) is ∙ f.there in
      let other : thread ≢ lease.thread = λ e. let both : went.went ≡ stands = some-injective (sym went.in_lent ∙ ap (slice_get went.lent.threads) (sym e) ∙ there) in
      (let g : None ≡ Some (Calls call) = sym went.goes ∙ ap (λ (x : Thread). x.stop) both ∙ at in cc)
      in
      found-is behind replica thread stands (record {
        value = stopped lease.thread stop back.ran.replica;
        in_core = ap (slice_get behind.replicas) same ∙ get-set-same core.replicas lease.replica went.lent (stopped lease.thread stop back.ran.replica) went.in_core;
        there = changed-other (with_stop stop) back.ran.replica.threads lease.thread thread other ∙ (lent-meets job core lease count back.ran went back.runs).only.others thread other ∙ there;
      })

  elsewhere_is : replica ≢ lease.replica → thread_in behind replica thread ≡ Some stands
  elsewhere_is differs = found-is behind replica thread stands (record {
    value = f.value;
    in_core = slice_get-set_other core.replicas lease.replica replica (stopped lease.thread stop back.ran.replica) (λ k. differs (sym k)) ∙ f.in_core;
    there = f.there;
  })

  pub back-keeps : thread_in (core_after_lease core lease stop wishes misses back.ran.replica) replica thread ≡ Some stands
  back-keeps = by (cases_eq replica lease.replica)
    where
      by : (replica ≡ lease.replica) ⊎ (replica ≢ lease.replica) → thread_in behind replica thread ≡ Some stands
      by (inl same) = here same
      by (inr differs) = elsewhere_is differs

vote-keeps : (job : Job) (core : Core) (voted count won : ℕ) (lost : Lost) (did : Did) → MayVote job core voted count won lost did → (replica thread : ℕ) (stands : Thread) (call : Call)
    → Found core replica thread stands → stands.stop ≡ Some (Calls call) → Goes (after job core (Vote voted count won lost did)) (Vote voted count won lost did) replica thread stands
unfolding after
vote-keeps job core voted count won lost did may replica thread stands call f at = by (cases_eq voted thread) (cases_Bool (leaves_blocked did)) (cases_Bool (is_among (numbers lost) replica))
  where
    new : Core
    new = core_after_event core voted count (with_recovered won (numbers lost) core.replicas) (event_in job core voted won)

    here : is_among (numbers lost) replica ≡ false → slice_get (with_recovered won (numbers lost) core.replicas) replica ≡ Some f.value
    here not_lost = copied-other won (numbers lost) core.replicas replica not_lost ∙ f.in_core

    kept : voted ≢ thread → is_among (numbers lost) replica ≡ false → thread_in new replica thread ≡ Some stands
    kept other not_lost =
        let e = event-parts job core voted won may.event may.comes in
        let own : may.event.effect.thread ≡ voted = (subst (Happens core.kernel voted) e.is (event-happens (setup_of job.program) core.kernel voted e.stop _)).thread_is in
        subst (λ (o : Option Event). thread_in (core_after_event core voted count (with_recovered won (numbers lost) core.replicas) o) replica thread ≡ Some stands) (sym may.comes)
        (event-keeps core voted count (with_recovered won (numbers lost) core.replicas) may.event replica thread f.value stands call own (λ k. other (sym k)) (here not_lost) f.there at)

    stays : voted ≡ thread → leaves_blocked did ≡ true → is_among (numbers lost) replica ≡ false → thread_in new replica thread ≡ Some (record stands { since = 0 })
    stays same blocks not_lost =
        let e = event-parts job core voted won may.event may.comes in
        let quiet : may.event.effect ≡ quiet_effect voted None false =
        subst (λ (v : Event). leaves_blocked v.did ≡ true → v.effect ≡ quiet_effect voted None false) e.is (blocked-quiet (setup_of job.program) core.kernel voted e.stop _) (ap leaves_blocked may.did_is ∙ blocks)
        in
        subst (λ (o : Option Event). thread_in (core_after_event core voted count (with_recovered won (numbers lost) core.replicas) o) replica thread ≡ Some (record stands { since = 0 })) (sym may.comes)
        (subst (λ (n : ℕ). thread_in (core_after_event core voted count (with_recovered won (numbers lost) core.replicas) (Some may.event)) replica n ≡ Some (record stands { since = 0 })) same
        (blocked-stands core voted count (with_recovered won (numbers lost) core.replicas) may.event replica f.value stands call quiet (here not_lost) (ap (slice_get f.value.threads) same ∙ f.there) at))

    by : (voted ≡ thread) ⊎ (voted ≢ thread) → (leaves_blocked did ≡ true) ⊎ (leaves_blocked did ≡ false) → (is_among (numbers lost) replica ≡ true) ⊎ (is_among (numbers lost) replica ≡ false) → Goes new (Vote voted count won lost did) replica thread stands
    by v d (inl e) = inr (inr (inr e))
    by (inr d) b (inr g) = inl (kept d g)
    by (inl e) (inl b) (inr g) = inr (inl ((e, b), stays e b g))
    by (inl e) (inr n) (inr g) = inr (inr (inl (e, n)))

free-keeps : (job : Job) (core : Core) (freed : ℕ) → MayFree job core freed → (replica thread : ℕ) (stands : Thread) (call : Call)
    → Found core replica thread stands → stands.stop ≡ Some (Calls call) → Goes (after job core (Free freed)) (Free freed) replica thread stands
unfolding after
free-keeps job core freed may replica thread stands call f at = by (cases_eq freed thread)
  where
    kept : freed ≢ thread → thread_in (core_after_event core freed 0 core.replicas (freed_event job core freed)) replica thread ≡ Some stands
    kept other =
        let p = free-parts job core freed may.may in
        let event : Event = call_event core.kernel freed p.call [] (serve (setup_of job.program) core.kernel freed p.call) in
        subst (λ (o : Option Event). thread_in (core_after_event core freed 0 core.replicas o) replica thread ≡ Some stands) (sym (freed-is job core freed p.call p.blocked_on))
        (event-keeps core freed 0 core.replicas event replica thread f.value stands call (call-happens (setup_of job.program) core.kernel freed p.call []).thread_is (λ k. other (sym k)) f.in_core f.there at)

    by : (freed ≡ thread) ⊎ (freed ≢ thread) → Goes (core_after_event core freed 0 core.replicas (freed_event job core freed)) (Free freed) replica thread stands
    by (inl e) = inr (inr e)
    by (inr d) = inl (kept d)

scrub-keeps : (job : Job) (core : Core) (won : ℕ) (lost : Lost) (replica thread : ℕ) (stands : Thread)
    → Found core replica thread stands → Goes (after job core (Scrub won lost)) (Scrub won lost) replica thread stands
unfolding after
scrub-keeps job core won lost replica thread stands f = by (cases_Bool (is_among (numbers lost) replica))
  where
    new : Core
    new = record core { replicas = with_recovered won (numbers lost) core.replicas; scrubbed = core.steps; wrote = 0 }

    by : (is_among (numbers lost) replica ≡ true) ⊎ (is_among (numbers lost) replica ≡ false) → Goes new (Scrub won lost) replica thread stands
    by (inl e) = inr (inr e)
    by (inr g) = inl (found-is new replica thread stands (record { value = f.value; in_core = copied-other won (numbers lost) core.replicas replica g ∙ f.in_core; there = f.there }))

entry-keeps : (job : Job) (core : Core) (entry : Entry) → IsAllowed job core entry → LentGo core → (replica thread : ℕ) (stands : Thread) (call : Call)
    → Found core replica thread stands → stands.stop ≡ Some (Calls call) → Goes (after job core entry) entry replica thread stands
unfolding after
entry-keeps job core (Take lease) may go replica thread stands call f at = inl (found-is core replica thread stands f)
entry-keeps job core (Put lease count hit) may go replica thread stands call f at = inl (put-by job core lease count hit may (λ c. thread_in c replica thread ≡ Some stands) (λ stop wishes misses. back-keeps job core lease count hit may.returns go stop wishes misses replica thread stands call f at))
entry-keeps job core (Part lease count hit) may go replica thread stands call f at = inl (part-by job core lease count hit may (λ c. thread_in c replica thread ≡ Some stands) (λ stop wishes misses. back-keeps job core lease count hit may.returns go stop wishes misses replica thread stands call f at))
entry-keeps job core (Vote voted count won lost did) may go replica thread stands call f at = vote-keeps job core voted count won lost did may replica thread stands call f at
entry-keeps job core (Free freed) may go replica thread stands call f at = free-keeps job core freed may replica thread stands call f at
entry-keeps job core (Scrub won lost) may go replica thread stands call f at = scrub-keeps job core won lost replica thread stands f
entry-keeps job core (End how) may go replica thread stands call f at = inl (found-is core replica thread stands f)

-- a legal journal with one entry more
pub record OneEntryMore (job : Job) (journal : List Entry) (entry : Entry) : Type 0 where
  pub legal : Legal job journal
  pub allowed : IsAllowed job (replay job journal) entry

pub last-entry : (job : Job) (journal : List Entry) (entry : Entry) → Legal job (journal ++ entry ∷ []) → OneEntryMore job journal entry
last-entry job journal entry legal = let p = LegalFrom-parts job (opening_core job) journal (entry ∷ []) legal in record { legal = p.0; allowed = p.1.0 }

pub one-grant : (job : Job) (journal : List Entry) (entry : Entry) → Legal job (journal ++ entry ∷ []) → (replica thread : ℕ) (stands : Thread) (call : Call)
    → thread_in (replay job journal) replica thread ≡ Some stands → stands.stop ≡ Some (Calls call)
    → Goes (replay job (journal ++ entry ∷ [])) entry replica thread stands
one-grant job journal entry legal replica thread stands call e at =
    let p = last-entry job journal entry legal in
    subst (λ (c : Core). Goes c entry replica thread stands) (sym (replay_more job journal entry))
    (entry-keeps job (replay job journal) entry p.allowed (lent-go job journal p.legal) replica thread stands call (found (replay job journal) replica thread stands e) at)

pub is-last : (job : Job) (before behind : List Entry) (how : How) → Legal job (before ++ End how ∷ behind) → behind ≡ []
unfolding after
is-last job before behind how legal = over_from job (after job (replay job before) (End how)) how behind refl (LegalFrom-parts job (opening_core job) before (End how ∷ behind) legal).1.1
