-- A take, in the fields of a run.
use Rattle.std.proofs.Common.{◌≡◌, ℕ, zero, suc, ◌+◌, ◌*◌, ◌^◌, ◌<◌, ◌≤◌, Bool, true, false, true≢false, not, cond, inl, inr, List, [], ◌∷◌, ◌++◌, length, Option, Some, None, refl, sym, ap, ap₂, ◌∙◌, subst, arith}
use Rattle.arrayvec.specs.ArrayVec.{ArrayVec}
use Rattle.std.specs.Prelude.{◌≢◌, ◌⊎◌, ◌==◌, ◌&&◌, ◌||◌, IfSome, is_none, nat_le, nat_lt, slice_get, slice_set}
use Rattle.std.specs.Option.{option_map_or}
use Rattle.std.specs.List.{All, filter, list_all, list_any}
use Rattle.std.proofs.lemmas.List.Elements.{All-filter}
use Rattle.std.proofs.lemmas.Bool.{and_parts, and_from, and_right, lt-ltb, or_parts, cases_eq, ne_eqb, eqb-true, eq-eqb}
use Rattle.std.proofs.lemmas.List.{length-set}
use Rattle.ro_journal.specs.declared.How.{How}
use Rattle.ro_journal.specs.declared.Entry.{Entry}
use Rattle.ro_journal.specs.declared.Entry.TheVariants.{Take}
use Rattle.ro_region.specs.declared.Range.{Range}
use Rattle.ro_region.specs.Permission.{is_writable}
use Rattle.ro_pages.specs.Bytes.{page_of}
use Rattle.ro_pages.specs.Directories.{is_listed}
use Rattle.ro_pages.specs.Held.{has_page, most_lent}
use Rattle.ro_exec.specs.Next.{Layout, Backed}
use Rattle.ro_kernel.specs.Kernel.{ranges_in}
use Rattle.ro_kernel.proofs.Kept.{slice_get-set_other}
use Rattle.ro_plain.specs.Machine.{setup_of}
use Rattle.ro_plain.proofs.Calls.{some-injective}
use Rattle.ro_replica.specs.Lent.{LaneOf, IsSpareLane}
use Rattle.ro_event.specs.declared.calls.Call.{Call}
use Rattle.ro_kernel.specs.State.{State}
use Rattle.ro_thread.specs.declared.Thread.{Thread}
use Rattle.ro_replica.specs.Replica.{Replica}
use Rattle.ro_replica.specs.Runs.{is_due}
use Rattle.ro_replica.specs.Views.{is_unstopped}
use Rattle.ro_replica.specs.Seen.{ReplicaOf, replica_of, CanCount}
use Rattle.ro_journal.specs.declared.Lease.{Lease}
use Rattle.ro_legal.specs.Parts.{Lent, Whole, Pages, Sharing, is_all, is_lent, is_calm, most_misses, seen_pages}
use Rattle.ro_legal.specs.Core.{Job, Core, is_home, is_taken, is_free, gains, shares, lent_by, lent_to}
use Rattle.ro_legal.specs.Legal.{core_after_take, after, MayTake, output_of}
use Rattle.ro_core.specs.Seen.{CoreOf, state, IsOfJob, IsLaneOfJob, IsLentWhole, IsLentPart}
use Rattle.ro_core.specs.Seated.{CanLend, LendsPages}
use Rattle.ro_group.specs.Groups.{Groups}
use Rattle.ro_core.specs.Fields.{spare_of, has_left, is_away, lent_at, AreNoted, IsAtHome, GoesThere, Seated, AreSeated, IsSeat, one_end, Fields, core_in, blocked_at, Holds}
use Rattle.ro_legal.proofs.Journals.{replay_more, outcome_of-append}
use Rattle.ro_legal.proofs.Beside.{listed-passes, sharing-is, sharing-stays}
use Rattle.ro_legal.proofs.PageRuns.{calm-due}
use Rattle.ro_legal.proofs.Lists.{get-set-same}
use Rattle.ro_legal.proofs.Leases.{IsThere, lendable-is, lendable-awake, not_false}
use Rattle.ro_core.proofs.Wished.{wishes-low}
use Rattle.ro_core.proofs.Away.{left-unoffered, whole-there, whole-offer}
use Rattle.ro_core.proofs.Homes.{seat_there, differ_by, same_seat}
use Rattle.ro_core.specs.Grouped.{AreGrouped}
use Rattle.ro_legal.proofs.Counted.{counted}
use Rattle.ro_core.proofs.Tests.{made-is, gone, standing, lent-made}
use Rattle.ro_core.proofs.Held.{Goes, goes, no-views, no-outcome, same-counts, same-unblocked, same-calm, same-waits, length-more, holds-step}

one-end-le : (o : Option How) → one_end o ≤ 1
one-end-le None = omega arith
one-end-le (Some how) = omega arith

-- room is in all places
pub spare_parts : (n places spare lanes : ℕ) → n + 3 ≤ spare_of places spare lanes → (n + 3 ≤ places) × (0 < spare) × (0 < lanes)
spare_parts n places zero lanes h = absurd (omega arith)
spare_parts n places (suc spare) zero h =
    let none : n + 3 ≤ 0 = subst (λ (b : Bool). n + 3 ≤ cond (b && nat_lt 0 0) places 0) (lt-ltb 0 (suc spare) (omega arith)) h in absurd (omega arith)
spare_parts n places (suc spare) (suc lanes) h = (
  subst (λ (b : Bool). n + 3 ≤ cond b places 0) (and_from (nat_lt 0 (suc spare)) (nat_lt 0 (suc lanes)) (lt-ltb 0 (suc spare) (omega arith)) (lt-ltb 0 (suc lanes) (omega arith))) h,
  omega arith,
  omega arith,
)

-- what neither a take nor a put changes
pub record Rest (f f' : Fields) : Type 0 where
  pub job : f'.job ≡ f.job
  pub kernel : f'.kernel ≡ f.kernel
  pub blocked : f'.blocked ≡ f.blocked
  pub unblocked : f'.unblocked ≡ f.unblocked
  pub calm : f'.calm ≡ f.calm
  pub steps : f'.steps ≡ f.steps
  pub scrubbed : f'.scrubbed ≡ f.scrubbed
  pub waits : f'.waits ≡ f.waits
  pub sent : f'.sent ≡ f.sent
  pub due : f'.due ≡ f.due
  pub ended : f'.ended ≡ f.ended
  pub views : f'.views ≡ f.views

times-le : (a b n : ℕ) → a ≤ b → a * n ≤ b * n
times-le a b n h = grind arith

-- a take writes nothing
pub take-output : (job : Job) (journal : List Entry) (lease : Lease) → output_of job (journal ++ Take lease ∷ []) ≡ output_of job journal
unfolding after
take-output job journal lease = ap (λ (c : Core). c.output) (replay_more job journal (Take lease))

module _ (f : Fields) (h : Holds f) (lease : Lease) (allowed : MayTake f.job (core_in f) lease) where
  pub take-goes : Goes f
  take-goes = goes f h allowed.going

  pub take-there : IsThere (core_in f) lease.replica lease.thread
  take-there = lendable-is (core_in f) lease.replica lease.thread allowed.lendable

  -- not all of the replica is out
  take-stays : has_left (core_in f) lease.replica ≡ false
  take-stays = by (has_left (core_in f) lease.replica) refl
    where
      by : (b : Bool) → has_left (core_in f) lease.replica ≡ b → has_left (core_in f) lease.replica ≡ false
      by true left = absurd (true≢false (sym take-there.offered ∙ left-unoffered (core_in f) lease.replica lease.thread left))
      by false stays = stays

  -- so it is in its seat
  pub take-home : (value : ReplicaOf) × (slice_get f.seats lease.replica ≡ Some (Some value)) × IsAtHome f.job (core_in f) lease.replica value
  take-home = seat_there f.job (core_in f) f.seats lease.replica take-there.value h.seats_are take-stays take-there.there

  pub take-seat : IsSeat f.seats lease.replica
  take-seat = (take-home.0, take-home.1)

  -- where it is as its seat says
  pub take-at : (value : ReplicaOf) → slice_get f.seats lease.replica ≡ Some (Some value) → IsAtHome f.job (core_in f) lease.replica value
  take-at value there = subst (λ (o : Option (Option ReplicaOf)). Seated f.job (core_in f) lease.replica o) there (h.seats_are.each lease.replica)

  -- and the thread is not stopped in it
  pub take-going : (value : ReplicaOf) → slice_get f.seats lease.replica ≡ Some (Some value) → is_unstopped lease.thread (replica_of value) ≡ true
  take-going value there =
      let s = take-at value there in
      ap (λ (ts : List Thread). option_map_or (λ (t : Thread). is_none t.stop) (slice_get ts lease.thread) false) s.home.threads
      ∙ ap (λ (o : Option Replica). option_map_or (is_unstopped lease.thread) o false) (sym s.there)
      ∙ (and_parts _ _ (lendable-awake (core_in f) lease.replica lease.thread allowed.lendable)).1

  pub take-goes-there : GoesThere f lease.replica lease.thread
  take-goes-there = (take-home.0, take-home.1, take-going take-home.0 take-home.1)

  -- ---- the seats

  -- what other leases have is what they had
  take-rest : (p : Lent → Bool) (number : ℕ) (leases : List Lease) → list_any (λ l. l.driver == lease.driver) leases ≡ false
      → list_any (λ l. (l.replica == number) && p ((core_after_take (core_in f) lease).lent l.driver)) leases ≡ list_any (λ l. (l.replica == number) && p ((core_in f).lent l.driver)) leases
  take-rest p number [] none = refl
  take-rest p number (l ∷ leases) none =
      let parts = or_parts (l.driver == lease.driver) (list_any (λ x. x.driver == lease.driver) leases) none in
      ap₂ (λ (b : Bool) (rest : Bool). ((l.replica == number) && p (cond b (lent_to (core_in f) lease.replica lease.thread) ((core_in f).lent l.driver))) || rest) parts.0 (take-rest p number leases parts.1)

  take-idle : list_any (λ l. l.driver == lease.driver) (core_in f).leases ≡ false
  take-idle = not_false (list_any (λ l. l.driver == lease.driver) (core_in f).leases) allowed.driver_is_idle

  own-lent : (core_after_take (core_in f) lease).lent lease.driver ≡ lent_to (core_in f) lease.replica lease.thread
  own-lent = ap (λ (b : Bool). cond b (lent_to (core_in f) lease.replica lease.thread) ((core_in f).lent lease.driver)) (eq-eqb lease.driver lease.driver refl)

  -- of another replica all is as it was
  other-seat : (number : ℕ) (seat : Option (Option ReplicaOf)) → (lease.replica == number) ≡ false → Seated f.job (core_in f) number seat → Seated f.job (core_after_take (core_in f) lease) number seat
  other-seat number seat differ s = same_seat f.job (core_in f) (core_after_take (core_in f) lease) number seat refl (same is_all) refl (λ page. same (λ l. is_lent l page)) s
    where
      same : (p : Lent → Bool) → list_any (λ l. (l.replica == number) && p ((core_after_take (core_in f) lease).lent l.driver)) (lease ∷ (core_in f).leases) ≡ list_any (λ l. (l.replica == number) && p ((core_in f).lent l.driver)) (core_in f).leases
      same p = ap (λ (b : Bool). (b && p ((core_after_take (core_in f) lease).lent lease.driver)) || list_any (λ l. (l.replica == number) && p ((core_after_take (core_in f) lease).lent l.driver)) (core_in f).leases) differ
          ∙ take-rest p number (core_in f).leases take-idle

  -- a whole replica leaves its seat
  pub whole-seated : lent_to (core_in f) lease.replica lease.thread ≡ Whole → AreSeated f.job (core_after_take (core_in f) lease) (slice_set f.seats lease.replica None)
  whole-seated whole = record {
    count = length-set f.seats lease.replica None ∙ h.seats_are.count;
    each = λ number. by number (lease.replica == number) refl;
  }
    where
      by : (number : ℕ) (b : Bool) → (lease.replica == number) ≡ b → Seated f.job (core_after_take (core_in f) lease) number (slice_get (slice_set f.seats lease.replica None) number)
      by number true e =
          let empty : slice_get (slice_set f.seats lease.replica None) number ≡ Some None = ap (slice_get (slice_set f.seats lease.replica None)) (sym (eqb-true lease.replica number e)) ∙ get-set-same f.seats lease.replica (Some take-home.0) None take-home.1 in
          let left : has_left (core_after_take (core_in f) lease) number ≡ true =
          ap₂ (λ (b : Bool) (x : Lent). (b && is_all x) || list_any (λ l. (l.replica == number) && is_all ((core_after_take (core_in f) lease).lent l.driver)) (core_in f).leases) e (own-lent ∙ whole) in
          subst (λ (o : Option (Option ReplicaOf)). Seated f.job (core_after_take (core_in f) lease) number o) (sym empty) left
      by number false e =
          subst (λ (o : Option (Option ReplicaOf)). Seated f.job (core_after_take (core_in f) lease) number o) (sym (slice_get-set_other f.seats lease.replica number None (differ_by lease.replica number e)))
          (other-seat number (slice_get f.seats number) e (h.seats_are.each number))

  -- a lane leaves it, and what stands in the places of its pages that may be written says nothing
  module _ (pages : List ℕ) (lent : lent_to (core_in f) lease.replica lease.thread ≡ Pages pages) (value after : ReplicaOf) (there : slice_get f.seats lease.replica ≡ Some (Some value)) (lane : LaneOf) (lends : LendsPages lease.thread pages value after lane) where
    abbrev at : IsAtHome f.job (core_in f) lease.replica value
    at = take-at value there

    new-lent : (core_after_take (core_in f) lease).lent lease.driver ≡ Pages pages
    new-lent = own-lent ∙ lent

    now-taken : (page : ℕ) → is_taken (core_after_take (core_in f) lease) lease.replica page ≡ (is_listed pages page || is_taken (core_in f) lease.replica page)
    now-taken page =
        ap₂ (λ (b : Bool) (x : Lent). (b && is_lent x page) || list_any (λ l. (l.replica == lease.replica) && is_lent ((core_after_take (core_in f) lease).lent l.driver) page) (core_in f).leases) (eq-eqb lease.replica lease.replica refl) new-lent
        ∙ ap (λ (b : Bool). is_listed pages page || b) (take-rest (λ l. is_lent l page) lease.replica (core_in f).leases take-idle)

    abbrev ranges : List Range
    ranges = ranges_in (setup_of f.job.program) (core_in f).kernel

    -- a page that is not away then was not away, and did not leave
    parts : (page : ℕ) → is_away f.job (core_after_take (core_in f) lease) lease.replica at.replica.backed page ≡ false → (is_away f.job (core_in f) lease.replica at.replica.backed page ≡ false) × (is_listed lane.moved page ≡ false)
    parts page none =
        let e : (at.replica.backed page && (is_writable ranges page && (is_listed pages page || is_taken (core_in f) lease.replica page))) ≡ false =
        ap (λ (b : Bool). at.replica.backed page && (is_writable ranges page && b)) (sym (now-taken page)) ∙ none in (
          less (at.replica.backed page) (is_writable ranges page) (is_listed pages page) (is_taken (core_in f) lease.replica page) e,
          lends.moved page
              ∙ ap₂ (λ (b : Bool) (w : Bool). b && w) (lends.pages page ∙ ap (λ (g : _). is_listed pages page && g page) at.home.backed) (ap (λ (l : Layout). is_writable l.ranges page) at.own.layout)
              ∙ left (at.replica.backed page) (is_writable ranges page) (is_listed pages page) (is_taken (core_in f) lease.replica page) e,
        )
      where
        less : (a b c d : Bool) → (a && (b && (c || d))) ≡ false → (a && (b && d)) ≡ false
        less true true true d g = absurd (true≢false g)
        less true true false d g = g
        less true false c d g = refl
        less false b c d g = refl

        left : (a b c d : Bool) → (a && (b && (c || d))) ≡ false → ((c && a) && b) ≡ false
        left true true true d g = absurd (true≢false g)
        left true true false d g = refl
        left true false true d g = refl
        left true false false d g = refl
        left false b true d g = refl
        left false b false d g = refl

    -- what stands in its seat
    pub part-home : IsAtHome f.job (core_after_take (core_in f) lease) lease.replica after
    part-home = record {
      stays = ap₂ (λ (b : Bool) (x : Lent). (b && is_all x) || list_any (λ l. (l.replica == lease.replica) && is_all ((core_after_take (core_in f) lease).lent l.driver)) (core_in f).leases) (eq-eqb lease.replica lease.replica refl) new-lent
          ∙ take-rest is_all lease.replica (core_in f).leases take-idle ∙ at.stays;
      own = record { layout = lends.program.layout ∙ at.own.layout; given = lends.program.given ∙ at.own.given; watchdog = lends.program.watchdog ∙ at.own.watchdog };
      replica = at.replica;
      there = at.there;
      home = record {
        threads = ap (λ (r : Replica). r.threads) lends.rest ∙ at.home.threads;
        waiting = ap (λ (r : Replica). r.waiting) lends.rest ∙ at.home.waiting;
        backed = ap (λ (r : Replica). r.backed) lends.rest ∙ at.home.backed;
        bytes = record { same = λ a none. at.home.bytes.same a (parts (page_of a) none).0 ∙ sym (lends.beside.same a (parts (page_of a) none).1) };
      };
    }

    pub part-seated : AreSeated f.job (core_after_take (core_in f) lease) (slice_set f.seats lease.replica (Some after))
    part-seated = record {
      count = length-set f.seats lease.replica (Some after) ∙ h.seats_are.count;
      each = λ number. by number (lease.replica == number) refl;
    }
      where
        by : (number : ℕ) (b : Bool) → (lease.replica == number) ≡ b → Seated f.job (core_after_take (core_in f) lease) number (slice_get (slice_set f.seats lease.replica (Some after)) number)
        by number true e =
            subst (λ (n : ℕ). Seated f.job (core_after_take (core_in f) lease) n (slice_get (slice_set f.seats lease.replica (Some after)) n)) (eqb-true lease.replica number e)
            (subst (λ (o : Option (Option ReplicaOf)). Seated f.job (core_after_take (core_in f) lease) lease.replica o) (sym (get-set-same f.seats lease.replica (Some value) (Some after) there)) part-home)
        by number false e =
            subst (λ (o : Option (Option ReplicaOf)). Seated f.job (core_after_take (core_in f) lease) number o) (sym (slice_get-set_other f.seats lease.replica number (Some after) (differ_by lease.replica number e)))
            (other-seat number (slice_get f.seats number) e (h.seats_are.each number))

  -- ---- the fields after the take

  -- it is noted what the lease has
  pub take-noted : (lent' : List (Option (ArrayVec ℕ))) → length lent' ≡ length f.lent → ((other : ℕ) → other ≢ lease.driver → lent_at lent' other ≡ lent_at f.lent other) → lent_at lent' lease.driver ≡ lent_to (core_in f) lease.replica lease.thread
      → AreNoted (core_after_take (core_in f) lease) f.job.settings.drivers lent' f.wishes
  take-noted lent' count others own = (
    λ driver less. by driver less (cases_eq driver lease.driver),
    λ lends.
        let noted = h.noted.1 lends in
        (record { count = noted.0.count; each = λ replica thread wish less there. let is = noted.0.each replica thread wish less there in record { pages = is.pages; misses = is.misses } }, count ∙ noted.1),
  )
    where
      by : (driver : ℕ) → driver < f.job.settings.drivers → (driver ≡ lease.driver) ⊎ (driver ≢ lease.driver) → lent_at lent' driver ≡ (core_after_take (core_in f) lease).lent driver
      by driver less (inl e) = ap (lent_at lent') e ∙ own ∙ sym own-lent ∙ ap (core_after_take (core_in f) lease).lent (sym e)
      by driver less (inr d) = others driver d ∙ h.noted.0 driver less ∙ sym (ap (λ (b : Bool). cond b (lent_to (core_in f) lease.replica lease.thread) ((core_in f).lent driver)) (ne_eqb driver lease.driver d))

  pub take-holds : (f' : Fields) → Rest f f' → f'.wrote ≡ 0 → f'.journal ≡ f.journal ++ Take lease ∷ [] → f'.leases ≡ lease ∷ f.leases
      → AreNoted (core_after_take (core_in f) lease) f.job.settings.drivers f'.lent f'.wishes → All (IsSpareLane f.job.program.image) f'.lanes
      → AreSeated f.job (core_after_take (core_in f) lease) f'.seats → length f'.seats ≡ length f.seats → f'.groups ≡ f.groups → length f.leases + 3 ≤ f'.places + 1 → Holds f'
  unfolding after
  take-holds f' r wrote journal leases noted lanes seats seat_count groups room = holds-step f f' (Take lease) h allowed (record {
    job = r.job;
    journal = journal;
    leases = leases ∙ ap (λ (ls : List Lease). lease ∷ ls) h.leases_are;
    noted = noted;
    lanes = lanes;
    setup = ap (λ (k : State). k.setup) r.kernel;
    kernel = ap (λ (k : State). k.kernel) r.kernel ∙ h.kernel_is;
    blocked_count = ap length r.blocked ∙ h.blocked_count;
    blocked = λ t. ap (λ (bs : List (Option Call)). blocked_at bs t) r.blocked ∙ h.blocked_are t;
    unblocked = same-unblocked f f' h r.kernel r.blocked r.unblocked;
    calm = same-calm f f' h r.kernel r.blocked r.waits r.calm;
    steps = r.steps ∙ h.steps_are;
    scrubbed = r.scrubbed ∙ h.scrubbed_are;
    waits = same-waits f f' h (core_after_take (core_in f) lease) refl r.waits (ap length journal ∙ length-more f.journal (Take lease));
    counts = same-counts f f' h _ refl refl r.sent wrote r.steps;
    due = r.due ∙ h.due_is;
    ended = r.ended ∙ h.ended_is;
    seats = seats;
    groups = subst (AreGrouped (core_in f).replicas) (sym groups) h.groups_are;
    views_count = λ unended. ap length r.views ∙ h.views_count (sym r.ended ∙ unended) ∙ sym seat_count;
    views_kept = no-views f.job _ f'.views (outcome_of-append f.journal (Take lease ∷ []) (no-outcome f h take-goes.not_ended));
    room = let one : one_end f'.ended ≤ 1 = one-end-le f'.ended in let n : length f'.leases ≡ suc (length f.leases) = ap length leases in omega arith;
  })

  -- ---- what goes out

  -- a thread's count leaves room for a quantum in 128 bits
  pub take-countable : (t : Thread) → slice_get take-there.value.threads lease.thread ≡ Some t → length f.journal < 2 ^ 64 → t.done + f.job.settings.quantum < 2 ^ 128
  take-countable t e short =
      let c : t.done ≤ f.job.settings.quantum * length f.journal = counted f.job f.journal h.legal lease.replica take-there.value take-there.there lease.thread t e in
      let q : f.job.settings.quantum ≤ 65536 = h.in_range.quantum.1 in
      let m : f.job.settings.quantum * length f.journal ≤ 65536 * length f.journal = times-le f.job.settings.quantum 65536 (length f.journal) q in
      omega arith

  -- a whole replica that leaves its seat is that of the core, and its thread can run
  pub whole-lent : (core : CoreOf) → state core ≡ core_in f → core.job ≡ f.job → lent_to (core_in f) lease.replica lease.thread ≡ Whole → (value : ReplicaOf) → slice_get f.seats lease.replica ≡ Some (Some value) → length f.journal < 2 ^ 64 → IsLentWhole core lease.replica lease.thread value
  whole-lent core at job whole value there short =
      let s = take-at value there in
      let home : is_home (core_in f) lease.replica ≡ true = whole-offer (core_in f) lease.replica lease.thread take-there.offered whole in
      let here : slice_get (core_in f).replicas lease.replica ≡ Some (replica_of value) = whole-there f.job (core_in f) lease.replica value s home in
      record {
        lent = ap (λ (c : Core). lent_to c lease.replica lease.thread) at ∙ whole;
        program = subst (λ (j : Job). IsOfJob j (state core).kernel value) (sym job) (subst (λ (c : Core). IsOfJob f.job c.kernel value) (sym at) s.own);
        replica = ap (λ (c : Core). slice_get c.replicas lease.replica) at ∙ here;
        going = take-going value there;
        countable = subst (λ (j : Job). CanCount j.settings.quantum value lease.thread) (sym job) (countable (some-injective (sym take-there.there ∙ here)) (slice_get value.threads lease.thread) refl);
      }
    where
      countable : take-there.value ≡ replica_of value → (o : Option Thread) → slice_get value.threads lease.thread ≡ o → IfSome o (λ t. t.done + f.job.settings.quantum < 2 ^ 128)
      countable same None e = tt
      countable same (Some t) e = take-countable t (ap (λ (r : Replica). slice_get r.threads lease.thread) same ∙ e) short

-- ---- a thread with a few pages

-- of the pages that are lent, and how long the list is
module _ (f : Fields) (h : Holds f) (lease : Lease) (allowed : MayTake f.job (core_in f) lease) (pages : List ℕ) (lent : lent_to (core_in f) lease.replica lease.thread ≡ Pages pages) where
  -- it is lent so where the run lends pages, and the thread is lent with those that it wishes
  pub record LendsSo : Type 0 where
    pub sharing : Sharing
    pub is : (core_in f).sharing ≡ Some sharing
    pub shares_it : shares sharing (core_in f) lease.replica lease.thread ≡ true
    pub pages_are : pages ≡ filter (is_free sharing (core_in f) lease.replica) ((core_in f).wishes lease.replica lease.thread)

  pub lends-so : LendsSo
  lends-so = by (core_in f).sharing refl lent
    where
      by-share : (sharing : Sharing) → (core_in f).sharing ≡ Some sharing → (b : Bool) → shares sharing (core_in f) lease.replica lease.thread ≡ b
          → cond b (Pages (filter (is_free sharing (core_in f) lease.replica) ((core_in f).wishes lease.replica lease.thread))) Whole ≡ Pages pages → LendsSo
      by-share sharing is true e so = record { sharing = sharing; is = is; shares_it = e; pages_are = sym (let g : Pages (filter (is_free sharing (core_in f) lease.replica) ((core_in f).wishes lease.replica lease.thread)) ≡ Pages pages = so in cc) }
      by-share sharing is false e so = absurd (let g : Whole ≡ Pages pages = so in cc)

      by : (o : Option Sharing) → (core_in f).sharing ≡ o → lent_by o (core_in f) lease.replica lease.thread ≡ Pages pages → LendsSo
      by None is so = absurd (let g : Whole ≡ Pages pages = so in cc)
      by (Some sharing) is so = by-share sharing is (shares sharing (core_in f) lease.replica lease.thread) refl so

  -- how it shares is the job's way
  pub sharing-here : lends-so.sharing ≡ record { setup = setup_of f.job.program; quantum = f.job.settings.quantum }
  sharing-here = sharing-is f.job lends-so.sharing (sym (sharing-stays f.job f.journal) ∙ lends-so.is)

  gains-it : gains (core_in f) lends-so.sharing.quantum lease.thread (take-there f h lease allowed).value ≡ true
  gains-it = ap (λ (o : Option Replica). option_map_or (gains (core_in f) lends-so.sharing.quantum lease.thread) o false) (sym (take-there f h lease allowed).there) ∙ (and_parts (nat_le ((core_in f).misses lease.replica lease.thread) most_misses) _ lends-so.shares_it).1

  -- the thread that is lent, of which no fault is due in a quantum
  pub part-thread : (t : Thread) × (slice_get (take-there f h lease allowed).value.threads lease.thread ≡ Some t) × (is_calm f.job.settings.quantum lease.thread (take-there f h lease allowed).value t ≡ true)
  part-thread = by (slice_get (take-there f h lease allowed).value.threads lease.thread) refl (ap (λ (s : Sharing). option_map_or (is_calm s.quantum lease.thread (take-there f h lease allowed).value) (slice_get (take-there f h lease allowed).value.threads lease.thread) false) (sym sharing-here) ∙ (and_parts _ _ gains-it).1)
    where
      by : (o : Option Thread) → slice_get (take-there f h lease allowed).value.threads lease.thread ≡ o → option_map_or (is_calm f.job.settings.quantum lease.thread (take-there f h lease allowed).value) o false ≡ true
          → (t : Thread) × (slice_get (take-there f h lease allowed).value.threads lease.thread ≡ Some t) × (is_calm f.job.settings.quantum lease.thread (take-there f h lease allowed).value t ≡ true)
      by None e calm = absurd (true≢false (sym calm))
      by (Some t) e calm = (t, e, calm)

  -- its pages are numbers of pages
  pub part-low : All (λ page. page < 2 ^ 20) pages
  part-low = subst (All (λ page. page < 2 ^ 20)) (sym lends-so.pages_are) (All-filter (is_free lends-so.sharing (core_in f) lease.replica) (λ page. page < 2 ^ 20) ((core_in f).wishes lease.replica lease.thread) (wishes-low f.job f.journal h.legal lease.replica lease.thread))

  -- each is free
  pub part-free : (page : ℕ) → is_listed pages page ≡ true → is_free lends-so.sharing (core_in f) lease.replica page ≡ true
  part-free page listed = listed-passes (is_free lends-so.sharing (core_in f) lease.replica) ((core_in f).wishes lease.replica lease.thread) page (ap (λ (ns : List ℕ). is_listed ns page) (sym lends-so.pages_are) ∙ listed)

  -- so it is not away
  part-here : (page : ℕ) (backed : Backed) → is_listed pages page ≡ true → is_away f.job (core_in f) lease.replica backed page ≡ false
  part-here page backed listed =
      and_right (backed page) _ (not_false _ (ap (λ (s : Sharing). not (is_writable (ranges_in s.setup (core_in f).kernel) page && is_taken (core_in f) lease.replica page)) (sym sharing-here) ∙ part-free page listed))

  -- a lane can be lent
  pub part-can : (lane : LaneOf) → IsSpareLane f.job.program.image lane → length pages ≤ most_lent → (value : ReplicaOf) → slice_get f.seats lease.replica ≡ Some (Some value) → CanLend lease.thread pages lane value
  part-can lane spare few value there =
      let s = take-at f h lease allowed value there in
      record {
        going = take-going f h lease allowed value there;
        lane_is = record {
          first = f.job.program.image.ranges;
          lane_has = spare.ranges;
          replica_has = ap (λ (l : Layout). l.ranges) s.own.layout ∙ ap (λ (given : List Range). given ++ f.job.program.image.ranges) (sym s.own.given);
          calls = spare.calls ∙ sym (ap (λ (l : Layout). l.calls) s.own.layout);
        };
        none = spare.none;
        few = few;
        low = part-low;
      }

  -- and what goes out is of the core's replica
  pub part-lent : (core : CoreOf) → state core ≡ core_in f → core.job ≡ f.job → (value after : ReplicaOf) → slice_get f.seats lease.replica ≡ Some (Some value) → (lane : LaneOf) → LendsPages lease.thread pages value after lane → length f.journal < 2 ^ 64 → IsLentPart core lease.replica lease.thread lane
  part-lent core at job value after there lane lends short =
      let s = take-at f h lease allowed value there in
      let same : (take-there f h lease allowed).value ≡ s.replica = some-injective (sym (take-there f h lease allowed).there ∙ s.there) in
      let t = part-thread in
      let is : t.0 ≡ lane.thread = some-injective (sym t.1 ∙ ap (λ (r : Replica). slice_get r.threads lease.thread) same ∙ ap (λ (ts : List Thread). slice_get ts lease.thread) (sym s.home.threads) ∙ lends.began) in
      let calm : is_calm f.job.settings.quantum lease.thread s.replica lane.thread ≡ true = ap₂ (is_calm f.job.settings.quantum lease.thread) (sym same) (sym is) ∙ t.2 in
      let part = lends.lent f.job.settings.quantum (λ k within. ap (filter (is_due lease.thread (lane.thread.done + k))) s.home.waiting ∙ calm-due f.job.settings.quantum lease.thread s.replica lane.thread calm k within) in
      let has : has_page lane.held.pages ≡ seen_pages (Pages pages) s.replica.backed = λ i page. (lends.pages page ∙ ap (λ (g : _). is_listed pages page && g page) s.home.backed) i in
      let listed : (page : ℕ) → has_page lane.held.pages page ≡ true → is_listed pages page ≡ true = λ page e. (and_parts (is_listed pages page) (has_page value.held.pages page) (sym (lends.pages page) ∙ e)).0 in
      subst (λ (j : Job). IsLentPart (record core { job = j }) lease.replica lease.thread lane) (sym job) (record {
        pages = pages;
        lent = ap (λ (c : Core). lent_to c lease.replica lease.thread) (at-job job at) ∙ lent;
        program = subst (λ (c : Core). IsLaneOfJob f.job c.kernel lane) (sym (at-job job at)) (record {
          layout = lends.lane_program.layout ∙ s.own.layout;
          given = lends.lane_program.given ∙ s.own.given;
          watchdog = lends.lane_program.watchdog ∙ s.own.watchdog;
        });
        replica = s.replica;
        there = ap (λ (c : Core). slice_get c.replicas lease.replica) (at-job job at) ∙ s.there;
        began = ap (λ (ts : List Thread). slice_get ts lease.thread) (sym s.home.threads) ∙ lends.began;
        has = has;
        same = record { same = λ a e. part.same.same a e ∙ sym (s.home.bytes.same a (part-here (page_of a) s.replica.backed (listed (page_of a) e))) };
        low = lends.low;
        calm = calm;
        countable = take-countable f h lease allowed lane.thread (ap (λ (r : Replica). slice_get r.threads lease.thread) same ∙ ap (λ (ts : List Thread). slice_get ts lease.thread) (sym s.home.threads) ∙ lends.began) short;
      })
    where
      at-job : core.job ≡ f.job → state core ≡ core_in f → state (record core { job = f.job }) ≡ core_in f
      at-job e g = subst (λ (j : Job). state (record core { job = j }) ≡ core_in f) e g
