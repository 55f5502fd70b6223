-- What a driver that holds a lease may put back: what a run made of what was lent, into the core as it is by then.
use Rattle.std.specs.Prelude.{◌≡◌, ◌⊎◌, ◌<◌, ◌≤◌, ◌+◌, ◌^◌, ℕ, Bool, true, false, not, cond, ◌&&◌, ◌==◌, nat_le, if◌then◌else◌, IsSome, is_some, List, [], ◌∷◌, ◌++◌, Option, Some, None, slice_get}
use Rattle.std.specs.List.{find, list_any}
use Rattle.std.specs.Option.{option_and_then, option_map}
use Rattle.std.proofs.Common.{refl, sym, ap, ◌∙◌, subst, arith, inl, inr, eq-eqb}
use Rattle.std.proofs.lemmas.Bool.{true≢false, ne_eqb, and_parts, and_from, or_parts, or_from, le-leb, leb-true, false_from_ne_true}
use Rattle.ro_faults.specs.declared.Fault.{Fault}
use Rattle.ro_event.specs.declared.stops.Stop.{Stop}
use Rattle.ro_event.specs.declared.stops.Stop.TheVariants.{PageFault}
use Rattle.ro_journal.specs.declared.Entry.{Entry}
use Rattle.ro_journal.specs.declared.Entry.TheVariants.{Take, Put, Part}
use Rattle.ro_journal.specs.declared.Lease.{Lease}
use Rattle.ro_pages.specs.Bytes.{Memory, page_of}
use Rattle.ro_pages.specs.Held.{memory_of, has_page}
use Rattle.ro_exec.specs.Next.{Layout, Backed}
use Rattle.ro_exec.specs.Parts.{SameIn, with_part, IsMore}
use Rattle.ro_kernel.specs.Kernel.{Kernel}
use Rattle.ro_plain.specs.Machine.{layout_in}
use Rattle.ro_thread.specs.declared.Thread.{Thread}
use Rattle.ro_thread.specs.Stops.{standing}
use Rattle.ro_thread.specs.Runs.{IsRun, instructions}
use Rattle.ro_thread.specs.Parts.{missed, ComesBack, having_done_all, at_stop, wanting, IsLentRun}
use Rattle.ro_thread.proofs.Parts.{running, standing-in, lent-run}
use Rattle.ro_replica.specs.Replica.{Replica, stop_of}
use Rattle.ro_replica.specs.Runs.{RanTo, run_of, standing_in, with_stop}
use Rattle.ro_replica.specs.Seen.{ReplicaOf, replica_of, CanCount, Runs}
use Rattle.ro_replica.specs.Lent.{LaneOf, put_back}
use Rattle.ro_replica.proofs.Elements.{get_set, changed_of_set}
use Rattle.ro_lease.specs.declared.Loan.{Loan}
use Rattle.ro_lease.specs.declared.Loan.TheVariants as loans
use Rattle.ro_lease.specs.declared.Took.{Took}
use Rattle.ro_lease.specs.declared.Back.{Back}
use Rattle.ro_lease.specs.declared.Lent.{Lent as LentOf}
use Rattle.ro_lease.specs.Loans.{CanRun, CanGo, RunsWhole, RunsPart, Becomes, Gives}
use Rattle.ro_legal.specs.Parts.{Lent, Whole, Pages, seen_pages, is_calm, ran_to, calm_run, run_with}
use Rattle.ro_legal.specs.Core.{Job, Core, lent_to}
use Rattle.ro_legal.specs.Legal.{Returns, MayPut, MayPart, MayTake, HasArrived, IsAllowed, lease_run, wanted_by, arrival, stopped, faulted, wishing, after, replay}
use Rattle.ro_legal.specs.Laws.{IsKept, IsStill, HasLease}
use Rattle.ro_legal.proofs.FaultStops.{whole-wants}
use Rattle.ro_legal.proofs.Journals.{replay_more}
use Rattle.ro_legal.proofs.Leases.{out_found, put-is, part-is}
use Rattle.ro_legal.proofs.Lists.{get-set-same}
use Rattle.ro_legal.proofs.Ordered.{going-parts}
use Rattle.ro_legal.proofs.PageRuns.{seen-backed}
use Rattle.ro_core.specs.Seen.{CoreOf, state, IsOfJob, IsLaneOfJob, IsLent, wanted_of, MayReturn}

-- ---- a whole replica

module _ (job : Job) (core : Core) (lease : Lease) (lent value : ReplicaOf) (took : Took) (out : HasLease core lease.driver lease Whole (replica_of lent)) (program : IsOfJob job core.kernel lent) (run : RunsWhole job.settings.quantum lease.thread lent value took) where
  -- its run, by what the job says
  runs : Runs (layout_in job.program core.kernel) job.settings.watchdog job.settings.quantum lease.thread (replica_of lent) (replica_of value) took.count took.hit (stop_of (replica_of value) lease.thread)
  runs =
      subst (λ (w : ℕ). Runs (layout_in job.program core.kernel) w job.settings.quantum lease.thread (replica_of lent) (replica_of value) took.count took.hit (stop_of (replica_of value) lease.thread)) program.watchdog
      (subst (λ (l : Layout). Runs l lent.watchdog job.settings.quantum lease.thread (replica_of lent) (replica_of value) took.count took.hit (stop_of (replica_of value) lease.thread)) program.layout run.runs)

  there : slice_get core.replicas lease.replica ≡ Some (replica_of lent)
  there = out.there ∙ ap (λ (r : Replica). Some r) out.still

  lease_runs : lease_run job core lease took.count ≡ Some runs.end
  lease_runs =
      ap (λ (x : Lent). option_and_then (λ r. run_with (layout_in job.program core.kernel) job.settings.watchdog x took.count r lease.thread) (slice_get core.replicas lease.replica)) out.has
      ∙ ap (option_and_then (λ r. run_of (layout_in job.program core.kernel) job.settings.watchdog took.count r lease.thread)) there ∙ runs.runs

  may : MayPut job core lease took.count took.hit
  may = record {
    returns = record {
      not_ended = out.not_ended;
      out = out_found lease.driver lease core.leases out.held;
      ran = runs.end;
      runs = lease_runs;
      struck = runs.hit_is;
    };
    arrives = by runs.arrives;
  }
    where
      by : (took.count ≡ job.settings.quantum) ⊎ ((took.count < job.settings.quantum) × IsSome (stop_of (replica_of value) lease.thread)) → HasArrived job core lease took.count runs.end.replica
      by (inl all) = inl all
      by (inr early) = inr (early.0, subst (λ (o : Option Stop). IsSome o) runs.stop_is early.1, whole-wants job core lease runs.end.replica out.has)

  became : slice_get (after job core (Put lease took.count took.hit)).replicas lease.replica ≡ Some (replica_of value)
  unfolding may runs
  became =
      ap (λ (c : Core). slice_get c.replicas lease.replica) (put-is job core lease took.count took.hit may)
      ∙ get-set-same core.replicas lease.replica (replica_of lent) (stopped lease.thread (arrival job core.kernel lease.thread took.count runs.end.replica) runs.end.replica) there
      ∙ ap (λ (r : Replica). Some r) (sym (runs.new_is ∙ ap (λ (o : Option Stop). stopped lease.thread o runs.end.replica) runs.stop_is))

  wishes : (after job core (Put lease took.count took.hit)).wishes ≡ wishing lease.replica lease.thread (faulted (stop_of (replica_of value) lease.thread)) core.wishes
  unfolding may runs
  wishes =
      ap (λ (c : Core). c.wishes) (put-is job core lease took.count took.hit may)
      ∙ ap (λ (o : Option Stop). wishing lease.replica lease.thread (faulted o) core.wishes) (sym runs.stop_is)

-- a whole replica may be put back
pub whole-returns : (core : CoreOf) (lease : Lease) (lent value : ReplicaOf) (took : Took) → HasLease (state core) lease.driver lease Whole (replica_of lent) → IsOfJob core.job (state core).kernel lent
    → RunsWhole core.job.settings.quantum lease.thread lent value took → MayReturn core (record { lease = lease; loan = loans.Whole value; took = took })
whole-returns core lease lent value took out program run = record {
  held = out.held;
  allowed = may core.job (state core) lease lent value took out program run;
  wishes = wishes core.job (state core) lease lent value took out program run;
  brings = record {
    lent = out.has;
    program = record {
      layout = run.program.layout ∙ program.layout;
      given = run.program.given ∙ program.given;
      watchdog = run.program.watchdog ∙ program.watchdog;
    };
    became = became core.job (state core) lease lent value took out program run;
  };
}

-- ---- a thread with some pages

-- where no fault is due within so many instructions, none is within fewer
calm-fewer : (number first count most : ℕ) → count ≤ most → (faults : List Fault)
    → list_any (λ fault. (fault.thread == number) && (nat_le first fault.at && nat_le fault.at (first + most))) faults ≡ false
    → list_any (λ fault. (fault.thread == number) && (nat_le first fault.at && nat_le fault.at (first + count))) faults ≡ false
calm-fewer number first count most few [] e = refl
calm-fewer number first count most few (fault ∷ faults) e =
    let parts = or_parts ((fault.thread == number) && (nat_le first fault.at && nat_le fault.at (first + most))) _ e in
    or_from _ _ (false_from_ne_true _ (λ due. true≢false (sym (later due) ∙ parts.0))) (calm-fewer number first count most few faults parts.1)
  where
    later : ((fault.thread == number) && (nat_le first fault.at && nat_le fault.at (first + count))) ≡ true → ((fault.thread == number) && (nat_le first fault.at && nat_le fault.at (first + most))) ≡ true
    later due =
        let p = and_parts (fault.thread == number) (nat_le first fault.at && nat_le fault.at (first + count)) due in
        let q = and_parts (nat_le first fault.at) (nat_le fault.at (first + count)) p.1 in
        let within : fault.at ≤ first + count = leb-true fault.at (first + count) q.1 in
        and_from _ _ p.0 (and_from _ _ q.0 (le-leb fault.at (first + most) (omega arith)))

calm-still : (number count most : ℕ) (thread : Thread) (taken now : Replica) → count ≤ most → now.waiting ≡ taken.waiting → is_calm most number taken thread ≡ true → is_calm count number now thread ≡ true
calm-still number count most thread taken now few same calm =
    ap not (ap (list_any (λ fault. (fault.thread == number) && (nat_le thread.done fault.at && nat_le fault.at (thread.done + count)))) same
    ∙ calm-fewer number thread.done count most few taken.waiting (unnot _ calm))
  where
    unnot : (b : Bool) → not b ≡ true → b ≡ false
    unnot true f = absurd (true≢false (sym f))
    unnot false f = refl

-- the entry with which a lease comes back, by the page that it wants
abbrev entry_for : Lease → Took → (page : Option ℕ) → Entry
entry_for lease took page = if is_some page then Part lease took.count took.hit else Put lease took.count took.hit

module _ (job : Job) (core : Core) (lease : Lease) (pages : List ℕ) (taken : Replica) (lane new : LaneOf) (took : Took)
    (out : HasLease core lease.driver lease (Pages pages) taken) (program : IsLaneOfJob job core.kernel lane)
    (began : slice_get taken.threads lease.thread ≡ Some lane.thread)
    (has : has_page lane.held.pages ≡ seen_pages (Pages pages) taken.backed)
    (same : SameIn (has_page lane.held.pages) (memory_of lane.held.pages) taken.memory)
    (calm : is_calm job.settings.quantum lease.thread taken lane.thread ≡ true)
    (run : RunsPart job.settings.quantum lane new took) where
  abbrev layout : Layout
  layout = layout_in job.program core.kernel

  abbrev now : Replica
  now = out.now

  abbrev own : Backed
  own = has_page lane.held.pages

  -- the bytes of the replica with those of the pages that come back
  abbrev bytes : Memory
  bytes = with_part own (memory_of new.held.pages) now.memory

  kept : IsKept pages lease.thread taken now
  kept = out.still

  -- the pages that it sees by now
  seen : own ≡ seen_pages (Pages pages) now.backed
  seen = has ∙ ap (seen_pages (Pages pages)) (sym kept.backed)

  more : IsMore own now.backed
  more = subst (λ (b : Backed). IsMore b now.backed) (sym seen) (seen-backed (Pages pages) now.backed)

  inside : SameIn own (memory_of lane.held.pages) now.memory
  inside = record { same = λ a e. same.same a e ∙ kept.bytes.same a (subst (λ (b : Backed). b (page_of a) ≡ true) has e) }

  began_now : slice_get now.threads lease.thread ≡ Some lane.thread
  began_now = kept.same_thread ∙ began

  -- the thread as its run made it, at no stop
  abbrev ended : Thread
  ended = with_stop lane.thread.stop new.thread

  -- its run, by what the job says
  lane_runs : IsRun layout job.settings.watchdog own job.settings.quantum took.count new.thread.stop (running lane.thread (memory_of lane.held.pages)) (running ended (memory_of new.held.pages))
  lane_runs =
      subst (λ (w : ℕ). IsRun layout w own job.settings.quantum took.count new.thread.stop (running lane.thread (memory_of lane.held.pages)) (running ended (memory_of new.held.pages))) program.watchdog
      (subst (λ (l : Layout). IsRun l lane.watchdog own job.settings.quantum took.count new.thread.stop (running lane.thread (memory_of lane.held.pages)) (running ended (memory_of new.held.pages))) program.layout run.runs.runs)

  -- and in the replica as it is by now
  home : IsLentRun layout job.settings.watchdog own now.backed job.settings.quantum took.count new.thread.stop (running lane.thread now.memory) (running ended bytes)
  home = lent-run layout job.settings.watchdog own now.backed job.settings.quantum took.count new.thread.stop lane.thread ended (memory_of lane.held.pages) (memory_of new.held.pages) now.memory more inside lane_runs

  few : took.count ≤ job.settings.quantum
  few = by lane_runs.arrives
    where
      by : ((took.count ≡ job.settings.quantum) × (new.thread.stop ≡ None)) ⊎ ((took.count < job.settings.quantum) × IsSome new.thread.stop × (new.thread.stop ≡ standing layout job.settings.watchdog own (memory_of new.held.pages) ended.cpu ended.since)) → took.count ≤ job.settings.quantum
      by (inl all) = let e = all.0 in omega arith
      by (inr early) = let e = early.0 in omega arith

  -- where it stands with what was lent
  stands : took.count < job.settings.quantum → new.thread.stop ≡ standing layout job.settings.watchdog own bytes ended.cpu ended.since
  stands early = by lane_runs.arrives
    where
      in_part : SameIn own (memory_of new.held.pages) bytes
      in_part = record { same = λ a e. sym (ap (λ (b : Bool). cond b (memory_of new.held.pages a) (now.memory a)) e) }

      by : ((took.count ≡ job.settings.quantum) × (new.thread.stop ≡ None)) ⊎ ((took.count < job.settings.quantum) × IsSome new.thread.stop × (new.thread.stop ≡ standing layout job.settings.watchdog own (memory_of new.held.pages) ended.cpu ended.since)) → new.thread.stop ≡ standing layout job.settings.watchdog own bytes ended.cpu ended.since
      by (inl all) = let e = all.0 in absurd (omega arith)
      by (inr early) = early.2 ∙ standing-in layout job.settings.watchdog own (memory_of new.held.pages) bytes ended in_part

  abbrev ran : RanTo
  ran = ran_to lease.thread now (running ended bytes)

  lane_lease_runs : lease_run job core lease took.count ≡ Some ran
  lane_lease_runs =
      ap (λ (x : Lent). option_and_then (λ r. run_with layout job.settings.watchdog x took.count r lease.thread) (slice_get core.replicas lease.replica)) out.has
      ∙ ap (option_and_then (λ r. run_with layout job.settings.watchdog (Pages pages) took.count r lease.thread)) out.there
      ∙ ap (option_and_then (calm_run layout job.settings.watchdog (seen_pages (Pages pages) now.backed) took.count lease.thread now)) began_now
      ∙ ap (λ (b : Bool). cond b (option_map (ran_to lease.thread now) (instructions layout job.settings.watchdog (seen_pages (Pages pages) now.backed) took.count (running lane.thread now.memory))) None)
      (calm-still lease.thread took.count job.settings.quantum lane.thread taken now few kept.waiting calm)
      ∙ ap (option_map (ran_to lease.thread now)) (subst (λ (b : Backed). instructions layout job.settings.watchdog b took.count (running lane.thread now.memory) ≡ Some (running ended bytes)) seen home.within)

  returns : Returns job core lease took.count took.hit
  returns = record {
    not_ended = out.not_ended;
    out = out_found lease.driver lease core.leases out.held;
    ran = ran;
    runs = lane_lease_runs;
    struck = sym run.unstruck;
  }

  ended_there : slice_get ran.replica.threads lease.thread ≡ Some ended
  ended_there = get_set now.threads lease.thread lane.thread ended began_now

  -- the page that it wants, by what it sees where it stands
  wants : wanted_by job core lease ran.replica ≡ missed now.backed (standing layout job.settings.watchdog own bytes ended.cpu ended.since)
  wants =
      ap (λ (x : Lent). missed now.backed (option_and_then (λ (t : Thread). standing layout job.settings.watchdog (seen_pages x now.backed) bytes t.cpu t.since) (slice_get ran.replica.threads lease.thread))) out.has
      ∙ ap (λ (o : Option Thread). missed now.backed (option_and_then (λ (t : Thread). standing layout job.settings.watchdog (seen_pages (Pages pages) now.backed) bytes t.cpu t.since) o)) ended_there
      ∙ ap (λ (b : Backed). missed now.backed (standing layout job.settings.watchdog b bytes ended.cpu ended.since)) (sym seen)

  wants_missed : took.count < job.settings.quantum → wanted_by job core lease ran.replica ≡ missed now.backed new.thread.stop
  wants_missed early = wants ∙ ap (missed now.backed) (sym (stands early))

  -- the stop at which it arrives
  abbrev arrives_at : Option Stop
  arrives_at = arrival job core.kernel lease.thread took.count ran.replica

  arrives_early : took.count < job.settings.quantum → arrives_at ≡ standing layout job.settings.watchdog now.backed bytes ended.cpu ended.since
  arrives_early early =
      ap (λ (b : Bool). cond b None (option_and_then (standing_in layout job.settings.watchdog ran.replica) (slice_get ran.replica.threads lease.thread))) (ne_eqb took.count job.settings.quantum (λ e. omega arith))
      ∙ ap (option_and_then (standing_in layout job.settings.watchdog ran.replica)) ended_there

  arrives_last : took.count ≡ job.settings.quantum → arrives_at ≡ None
  arrives_last all =
      ap (λ (b : Bool). cond b None (option_and_then (standing_in layout job.settings.watchdog ran.replica) (slice_get ran.replica.threads lease.thread))) (eq-eqb took.count job.settings.quantum all)

  -- the replica behind it, with a stop
  behind : (o : Option Stop) → stopped lease.thread o ran.replica ≡ put_back lease.thread (has_page new.held.pages) (memory_of new.held.pages) new.thread o now
  behind o =
      ap (λ (threads : List Thread). record ran.replica { threads = threads }) (changed_of_set (with_stop o) now.threads lease.thread ended)
      ∙ ap (λ (b : Backed). put_back lease.thread b (memory_of new.held.pages) new.thread o now) (sym run.runs.pages)

  -- what comes back for the want of a page, or of none
  record Comes (page : Option ℕ) : Type 0 where
    pub allowed : IsAllowed job core (entry_for lease took page)
    pub wishes : (after job core (entry_for lease took page)).wishes ≡ wishing lease.replica lease.thread (faulted new.thread.stop) core.wishes
    pub became : slice_get (after job core (entry_for lease took page)).replicas lease.replica
        ≡ Some (put_back lease.thread (has_page new.held.pages) (memory_of new.held.pages) new.thread (if is_some page then None else new.thread.stop) now)

  as_put : new.thread.stop ≡ arrives_at → HasArrived job core lease took.count ran.replica → Comes None
  unfolding returns
  as_put stop_is arrives =
      let m : MayPut job core lease took.count took.hit = record { returns = returns; arrives = arrives } in
      record {
        allowed = m;
        wishes = ap (λ (c : Core). c.wishes) (put-is job core lease took.count took.hit m) ∙ ap (λ (o : Option Stop). wishing lease.replica lease.thread (faulted o) core.wishes) (sym stop_is);
        became = ap (λ (c : Core). slice_get c.replicas lease.replica) (put-is job core lease took.count took.hit m)
            ∙ get-set-same core.replicas lease.replica now (stopped lease.thread arrives_at ran.replica) out.there
            ∙ ap (λ (o : Option Stop). Some (stopped lease.thread o ran.replica)) (sym stop_is)
            ∙ ap (λ (r : Replica). Some r) (behind new.thread.stop);
      }

  as_part : (page : ℕ) → took.count < job.settings.quantum → new.thread.stop ≡ Some (PageFault page) → now.backed page ≡ true → Comes (Some page)
  unfolding returns
  as_part page early stop_is backed =
      let wanted_is : wanted_by job core lease ran.replica ≡ Some page = wants_missed early ∙ ap (missed now.backed) stop_is ∙ ap (λ (b : Bool). cond b (Some page) None) backed in
      let m : MayPart job core lease took.count took.hit = record { returns = returns; early = early; wants = ap is_some wanted_is } in
      record {
        allowed = m;
        wishes = ap (λ (c : Core). c.wishes) (part-is job core lease took.count took.hit m)
            ∙ ap (λ (o : Option ℕ). wishing lease.replica lease.thread o core.wishes) (wanted_is ∙ ap faulted (sym stop_is));
        became = ap (λ (c : Core). slice_get c.replicas lease.replica) (part-is job core lease took.count took.hit m)
            ∙ get-set-same core.replicas lease.replica now (stopped lease.thread None ran.replica) out.there
            ∙ ap (λ (r : Replica). Some r) (behind None);
      }

  comes : (o : Option Stop) → new.thread.stop ≡ o → ComesBack layout job.settings.watchdog own now.backed job.settings.quantum took.count (running ended bytes) o → Comes (missed now.backed o)
  comes None e (having_done_all all) = as_put (e ∙ sym (arrives_last all)) (inl all)
  comes o e (at_stop early some unmissed at) =
      subst (λ (page : Option ℕ). Comes page) (sym unmissed)
      (as_put (e ∙ at ∙ sym (arrives_early early)) (inr (early, subst IsSome (at ∙ sym (arrives_early early)) some, wants_missed early ∙ ap (missed now.backed) e ∙ unmissed)))
  comes (Some (PageFault page)) e (wanting early backed at) =
      subst (λ (page : Option ℕ). Comes page) (sym (ap (λ (b : Bool). cond b (Some page) None) backed)) (as_part page early e backed)

  -- the page for whose want it comes back
  wanted_is : wanted_of core lease.replica (loans.Part new) ≡ missed now.backed new.thread.stop
  wanted_is = ap (option_and_then (λ (r : Replica). missed r.backed new.thread.stop)) out.there

  came : Comes (wanted_of core lease.replica (loans.Part new))
  came = subst (λ (page : Option ℕ). Comes page) (sym wanted_is) (comes new.thread.stop refl home.comes)

-- a thread with some pages may be put back
pub part-returns : (core : CoreOf) (lease : Lease) (pages : List ℕ) (taken : Replica) (lane new : LaneOf) (took : Took) → HasLease (state core) lease.driver lease (Pages pages) taken → IsLaneOfJob core.job (state core).kernel lane
    → slice_get taken.threads lease.thread ≡ Some lane.thread → has_page lane.held.pages ≡ seen_pages (Pages pages) taken.backed → SameIn (has_page lane.held.pages) (memory_of lane.held.pages) taken.memory
    → ((page : ℕ) → has_page lane.held.pages page ≡ true → page < 2 ^ 20) → is_calm core.job.settings.quantum lease.thread taken lane.thread ≡ true → RunsPart core.job.settings.quantum lane new took
    → MayReturn core (record { lease = lease; loan = loans.Part new; took = took })
part-returns core lease pages taken lane new took out program began has same low calm run =
    let c = came core.job (state core) lease pages taken lane new took out program began has same calm run in
    record {
      held = out.held;
      allowed = c.allowed;
      wishes = c.wishes;
      brings = record {
        pages = pages;
        lent = out.has;
        program = record {
          layout = run.program.layout ∙ program.layout;
          given = run.program.given ∙ program.given;
          watchdog = run.program.watchdog ∙ program.watchdog;
        };
        replica = out.now;
        there = out.there;
        has = run.runs.pages ∙ has ∙ ap (seen_pages (Pages pages)) (sym out.still.backed);
        low = λ page e. low page (subst (λ (b : Backed). b page ≡ true) run.runs.pages e);
        became = c.became;
      };
    }

-- ---- what was just lent

-- a core of this job and journal, of which nothing else is said
abbrev pub core_at : Job → List Entry → CoreOf
core_at job journal = record { job = job; journal = journal; failed = None; room = 0; views = []; held = None; failures = 0; sure = 0 }

-- what is lent is of the replica as it was
still-itself : (lent : Lent) (thread : ℕ) (taken : Replica) → IsStill lent thread taken taken
still-itself Whole thread taken = refl
still-itself (Pages pages) thread taken = record { same_thread = refl; backed = refl; bytes = record { same = λ a e. refl }; waiting = refl }

has-taken : (job : Job) (core : Core) (lease : Lease) (lent : Lent) (taken : Replica) → MayTake job core lease → lent_to core lease.replica lease.thread ≡ lent → slice_get core.replicas lease.replica ≡ Some taken
    → HasLease (after job core (Take lease)) lease.driver lease lent taken
unfolding after
has-taken job core lease lent taken m is there = record {
  held = ap (λ (b : Bool). cond b (Some lease) (find (λ (l : Lease). l.driver == lease.driver) core.leases)) (eq-eqb lease.driver lease.driver refl);
  has = ap (λ (b : Bool). cond b (lent_to core lease.replica lease.thread) (core.lent lease.driver)) (eq-eqb lease.driver lease.driver refl) ∙ is;
  now = taken;
  there = there;
  still = still-itself lent lease.thread taken;
  not_ended = (going-parts core m.going).1;
}

-- what the lease of a loan has, and of which replica that is
abbrev pub lent_by : (core : CoreOf) (number thread : ℕ) (loan : Loan) → IsLent core number thread loan → Lent
lent_by core number thread (loans.Whole value) is = Whole
lent_by core number thread (loans.Part lane) is = Pages is.pages

abbrev pub taken_of : (core : CoreOf) (number thread : ℕ) (loan : Loan) → IsLent core number thread loan → Replica
taken_of core number thread (loans.Whole value) is = replica_of value
taken_of core number thread (loans.Part lane) is = is.replica

lent-to : (core : CoreOf) (number thread : ℕ) (loan : Loan) (is : IsLent core number thread loan) → lent_to (state core) number thread ≡ lent_by core number thread loan is
lent-to core number thread (loans.Whole value) is = is.lent
lent-to core number thread (loans.Part lane) is = is.lent

lent-there : (core : CoreOf) (number thread : ℕ) (loan : Loan) (is : IsLent core number thread loan) → slice_get (state core).replicas number ≡ Some (taken_of core number thread loan is)
lent-there core number thread (loans.Whole value) is = is.replica
lent-there core number thread (loans.Part lane) is = is.there

-- a lease has what was lent by its take
pub lent-has : (job : Job) (journal : List Entry) (lease : Lease) (loan : Loan) (is : IsLent (core_at job journal) lease.replica lease.thread loan) → MayTake job (replay job journal) lease
    → HasLease (replay job (journal ++ Take lease ∷ [])) lease.driver lease (lent_by (core_at job journal) lease.replica lease.thread loan is) (taken_of (core_at job journal) lease.replica lease.thread loan is)
lent-has job journal lease loan is m =
    subst (λ (c : Core). HasLease c lease.driver lease (lent_by (core_at job journal) lease.replica lease.thread loan is) (taken_of (core_at job journal) lease.replica lease.thread loan is)) (sym (replay_more job journal (Take lease)))
    (has-taken job (replay job journal) lease (lent_by (core_at job journal) lease.replica lease.thread loan is) (taken_of (core_at job journal) lease.replica lease.thread loan is) m
    (lent-to (core_at job journal) lease.replica lease.thread loan is) (lent-there (core_at job journal) lease.replica lease.thread loan is))

-- it can run
lent-runs : (core : CoreOf) (number thread quantum : ℕ) (loan : Loan) → quantum ≡ core.job.settings.quantum → IsLent core number thread loan → CanRun quantum thread loan
lent-runs core number thread quantum (loans.Whole value) e is = (is.going, subst (λ (n : ℕ). CanCount n value thread) (sym e) is.countable)
lent-runs core number thread quantum (loans.Part lane) e is = subst (λ (n : ℕ). lane.thread.done + n < 2 ^ 128) (sym e) is.countable

pub lent-goes : (core : CoreOf) (lent : LentOf) → lent.quantum ≡ core.job.settings.quantum → IsLent core lent.lease.replica lent.lease.thread lent.loan → CanGo lent
lent-goes core lent e is = lent-runs core lent.lease.replica lent.lease.thread lent.quantum lent.loan e is

-- What a run makes of a loan may be put back in any journal in which its lease is still out.
module _ (job : Job) (before now : List Entry) (lease : Lease) (kernel : (replay job now).kernel ≡ (replay job before).kernel) where
  became-returns : (loan new : Loan) (took : Took) (is : IsLent (core_at job before) lease.replica lease.thread loan)
      → HasLease (replay job now) lease.driver lease (lent_by (core_at job before) lease.replica lease.thread loan is) (taken_of (core_at job before) lease.replica lease.thread loan is)
      → Becomes job.settings.quantum lease.thread loan new took → MayReturn (core_at job now) (record { lease = lease; loan = new; took = took })
  became-returns (loans.Whole lent) (loans.Whole value) took is out run =
      whole-returns (core_at job now) lease lent value took out (subst (λ (k : Kernel). IsOfJob job k lent) (sym kernel) is.program) run
  became-returns (loans.Part lane) (loans.Part new) took is out run =
      part-returns (core_at job now) lease is.pages is.replica lane new took out (subst (λ (k : Kernel). IsLaneOfJob job k lane) (sym kernel) is.program) is.began is.has is.same is.low is.calm run
  became-returns (loans.Whole lent) (loans.Part new) took is out run = absurd run
  became-returns (loans.Part lane) (loans.Whole value) took is out run = absurd run

pub loan-returns : (job : Job) (before now : List Entry) (lent : LentOf) (back : Back) (is : IsLent (core_at job before) lent.lease.replica lent.lease.thread lent.loan) → lent.quantum ≡ job.settings.quantum
    → (replay job now).kernel ≡ (replay job before).kernel
    → HasLease (replay job now) lent.lease.driver lent.lease (lent_by (core_at job before) lent.lease.replica lent.lease.thread lent.loan is) (taken_of (core_at job before) lent.lease.replica lent.lease.thread lent.loan is)
    → Gives lent back → MayReturn (core_at job now) back
loan-returns job before now lent back is quantum kernel out gives =
    subst (λ (l : Lease). MayReturn (core_at job now) (record { lease = l; loan = back.loan; took = back.took })) (sym gives.lease)
    (became-returns job before now lent.lease kernel lent.loan back.loan back.took is out
    (subst (λ (n : ℕ). Becomes n lent.lease.thread lent.loan back.loan back.took) quantum gives.became))
