-- A lease that comes back, in the fields of a run.
use Rattle.std.specs.Option.{option_and_then}
use Rattle.std.proofs.Common.{◌≡◌, ℕ, ◌+◌, ◌*◌, ◌<◌, ◌≤◌, ◌≢◌, inl, inr, Bool, true, false, true≢false, not, ◌&&◌, ◌||◌, cond, eqb-true, List, [], ◌∷◌, ◌++◌, length, Option, Some, None, refl, sym, ap, ap₂, ◌∙◌, subst, arith}
use Rattle.std.specs.Prelude.{◌==◌, ◌⊎◌, if◌then◌else◌, is_some, slice_get, slice_set}
use Rattle.std.specs.List.{All, filter, list_all, list_any}
use Rattle.std.proofs.lemmas.Bool.{and_left, and_right, and_parts, and_from, or_parts, ne_eqb, eq-eqb, cases_eq}
use Rattle.std.proofs.lemmas.List.{length-set}
use Rattle.std.proofs.lemmas.Option.{slice_get_within, slice_get-get_or}
use Rattle.ro_region.specs.declared.Range.{Range}
use Rattle.ro_region.specs.Permission.{is_writable}
use Rattle.ro_pages.specs.Bytes.{page_of}
use Rattle.ro_pages.specs.Directories.{is_listed}
use Rattle.ro_pages.specs.Held.{has_page, memory_of}
use Rattle.ro_exec.specs.Next.{Layout}
use Rattle.ro_event.specs.declared.stops.Stop.{Stop}
use Rattle.ro_event.specs.declared.calls.Call.{Call}
use Rattle.ro_journal.specs.declared.How.{How}
use Rattle.ro_journal.specs.declared.Entry.{Entry}
use Rattle.ro_journal.specs.declared.Entry.TheVariants.{Put, Part}
use Rattle.ro_journal.specs.declared.Lease.{Lease}
use Rattle.ro_journal.specs.Plan.{outcome_of}
use Rattle.ro_settings.proofs.Counts.{few-replicas}
use Rattle.ro_kernel.specs.Kernel.{ranges_in}
use Rattle.ro_kernel.specs.State.{State}
use Rattle.ro_kernel.proofs.Kept.{slice_get-set_other}
use Rattle.ro_plain.specs.Machine.{setup_of}
use Rattle.ro_plain.proofs.Calls.{some-injective}
use Rattle.ro_thread.specs.declared.Thread.{Thread}
use Rattle.ro_replica.proofs.Elements.{get_set}
use Rattle.ro_replica.specs.Replica.{Replica, stop_of}
use Rattle.ro_replica.specs.Runs.{RanTo, with_stop}
use Rattle.ro_replica.specs.Seen.{ReplicaOf, replica_of}
use Rattle.ro_replica.specs.Lent.{LaneOf, IsSpareLane, put_back}
use Rattle.ro_lease.specs.declared.Back.{Back}
use Rattle.ro_legal.specs.Parts.{Lent, Whole, Pages, is_all, is_lent}
use Rattle.ro_legal.specs.Core.{Job, Core, is_home, is_lease, is_out, is_taken}
use Rattle.ro_legal.specs.Legal.{lease_run, arrival, stopped, faulted, wishing, missing, core_after_lease, after, IsAllowed, replay, output_of}
use Rattle.ro_legal.specs.Laws.{AreBeside, elsewhere, sharing}
use Rattle.ro_legal.proofs.Journals.{replay_more, outcome_of-append}
use Rattle.ro_legal.proofs.Lists.{get-set-same, get-within}
use Rattle.ro_legal.proofs.Leases.{fewer, or_true, same-lease, put-is, part-is}
use Rattle.ro_legal.proofs.Beside.{own-lease, beside-both, lends-well}
use Rattle.ro_legal.proofs.Grants.{LentThread, lent-go, lent-thread}
use Rattle.ro_legal.proofs.Ordered.{ordered}
use Rattle.ro_core.specs.Seen.{CoreOf, state, IsOfJob, IsLaneOfJob, stop_in, wanted_of, return_of, stop_behind, BecomesThere, BringsWhole, BringsPart, MayReturn}
use Rattle.ro_event.specs.declared.stops.Stop.TheVariants.{PageFault}
use Rattle.ro_thread.specs.Parts.{missed}
use Rattle.ro_lease.specs.declared.Loan.{Loan}
use Rattle.ro_lease.specs.declared.Loan.TheVariants as loans
use Rattle.ro_core.specs.Wishing.{few_misses, missed_behind, wish_place, wished_behind, NotesFault}
use Rattle.ro_core.specs.declared.wishing.Wish.{Wish}
use Rattle.ro_core.specs.Fields.{has_left, is_away, AreNoted, AreWishes, IsWish, IsAtHome, IsSeat, Seated, AreSeated, one_end, Fields, core_in, blocked_at, Holds}
use Rattle.ro_core.specs.Seated.{CanTakeBack, TakesBack}
use Rattle.ro_core.specs.Grouped.{Returns}
use Rattle.ro_core.proofs.Wished.{missed-is, unwished-is, wished-is}
use Rattle.ro_core.proofs.Away.{home-stays, there-whole}
use Rattle.ro_core.proofs.Homes.{seat_there, differ_by, same_seat}
use Rattle.ro_core.proofs.Grouped.{return-grouped, returned-ready}
use Rattle.ro_core.proofs.Held.{no-views, no-outcome, same-counts, same-unblocked, same-calm, same-waits, length-more, holds-step}
use Rattle.ro_core.proofs.Takes.{Rest}

-- ---- the core behind it

-- a lease that came back by an entry that is allowed: what it ran, where its thread stands, and what it missed
pub record CameBack (job : Job) (core : Core) (back : Back) : Type 0 where
  pub not_ended : core.ended ≡ None
  pub out : is_out core back.lease ≡ true
  pub ran : RanTo
  pub runs : lease_run job core back.lease back.took.count ≡ Some ran
  pub stop : Option Stop
  pub misses : (replica thread : ℕ) → ℕ
  pub misses_are : (replica thread : ℕ) → misses replica thread ≡ (if is_some (wanted_of core back.lease.replica back.loan) then missing back.lease.replica back.lease.thread core.misses replica thread else core.misses replica thread)
  pub behind : after job core (return_of core back) ≡ core_after_lease core back.lease stop (wishing back.lease.replica back.lease.thread (faulted (stop_in back.lease.thread back.loan)) core.wishes) misses ran.replica

came-back : (job : Job) (core : Core) (back : Back) → IsAllowed job core (return_of core back) → (after job core (return_of core back)).wishes ≡ wishing back.lease.replica back.lease.thread (faulted (stop_in back.lease.thread back.loan)) core.wishes → CameBack job core back
came-back job core back = by (is_some (wanted_of core back.lease.replica back.loan)) refl
  where
    by : (b : Bool) → is_some (wanted_of core back.lease.replica back.loan) ≡ b
        → IsAllowed job core (if b then Part back.lease back.took.count back.took.hit else Put back.lease back.took.count back.took.hit)
        → (after job core (if b then Part back.lease back.took.count back.took.hit else Put back.lease back.took.count back.took.hit)).wishes ≡ wishing back.lease.replica back.lease.thread (faulted (stop_in back.lease.thread back.loan)) core.wishes
        → CameBack job core back
    by true is may wishes =
        let p = part-is job core back.lease back.took.count back.took.hit may in
        record {
          not_ended = may.returns.not_ended;
          out = may.returns.out;
          ran = may.returns.ran;
          runs = may.returns.runs;
          stop = None;
          misses = missing back.lease.replica back.lease.thread core.misses;
          misses_are = λ r t. sym (ap (λ (b : Bool). if b then missing back.lease.replica back.lease.thread core.misses r t else core.misses r t) is);
          behind = ap (λ (b : Bool). after job core (if b then Part back.lease back.took.count back.took.hit else Put back.lease back.took.count back.took.hit)) is ∙ p
              ∙ ap (λ (w : (replica thread : ℕ) → List ℕ). core_after_lease core back.lease None w (missing back.lease.replica back.lease.thread core.misses) may.returns.ran.replica) (sym (ap (λ (c : Core). c.wishes) p) ∙ wishes);
        }
    by false is may wishes =
        let p = put-is job core back.lease back.took.count back.took.hit may in
        let stop = arrival job core.kernel back.lease.thread back.took.count may.returns.ran.replica in
        record {
          not_ended = may.returns.not_ended;
          out = may.returns.out;
          ran = may.returns.ran;
          runs = may.returns.runs;
          stop = stop;
          misses = core.misses;
          misses_are = λ r t. sym (ap (λ (b : Bool). if b then missing back.lease.replica back.lease.thread core.misses r t else core.misses r t) is);
          behind = ap (λ (b : Bool). after job core (if b then Part back.lease back.took.count back.took.hit else Put back.lease back.took.count back.took.hit)) is ∙ p
              ∙ ap (λ (w : (replica thread : ℕ) → List ℕ). core_after_lease core back.lease stop w core.misses may.returns.ran.replica) (sym (ap (λ (c : Core). c.wishes) p) ∙ wishes);
        }

-- it sends nothing, and ends nothing
pub return-output : (job : Job) (journal : List Entry) (entry : Entry) → (after job (replay job journal) entry).output ≡ (replay job journal).output → output_of job (journal ++ entry ∷ []) ≡ output_of job journal
return-output job journal entry same = ap (λ (c : Core). c.output) (replay_more job journal entry) ∙ same

return-goes-on : (core : Core) (back : Back) → outcome_of (return_of core back ∷ []) ≡ None
return-goes-on core back = by (is_some (wanted_of core back.lease.replica back.loan))
  where
    by : (b : Bool) → outcome_of ((if b then Part back.lease back.took.count back.took.hit else Put back.lease back.took.count back.took.hit) ∷ []) ≡ None
    by true = refl
    by false = refl

-- no end is due while a lease is out
out-going : (f : Fields) → Holds f → (lease : Lease) → is_out (core_in f) lease ≡ true → f.due ≡ None
out-going f h lease out = by f.due refl
  where
    by : (d : Option How) → f.due ≡ d → f.due ≡ None
    by None e = e
    by (Some how) e =
        let none : (core_in f).leases ≡ [] = (ordered f.job f.journal h.legal).due_alone how (sym h.due_is ∙ e) in
        absurd (true≢false (sym out ∙ ap (list_any (is_lease lease)) none))

-- what passes a test in a list and not in the list without a lease is that lease
own-passes : (p : Lease → Bool) (lease : Lease) (leases : List Lease) → list_any p leases ≡ true → list_any p (filter (λ l. not (is_lease lease l)) leases) ≡ false → p lease ≡ true
own-passes p lease [] some none = absurd (true≢false (sym some))
own-passes p lease (l ∷ leases) some none = by (is_lease lease l) refl none (own-passes p lease leases)
  where
    by : (b : Bool) → is_lease lease l ≡ b → list_any p (cond (not b) (l ∷ filter (λ x. not (is_lease lease x)) leases) (filter (λ x. not (is_lease lease x)) leases)) ≡ false
        → (list_any p leases ≡ true → list_any p (filter (λ x. not (is_lease lease x)) leases) ≡ false → p lease ≡ true) → p lease ≡ true
    by true is rest later = first (p l) refl
      where
        first : (b : Bool) → p l ≡ b → p lease ≡ true
        first true e = ap p (sym (same-lease lease l is)) ∙ e
        first false e = later (ap (λ (b : Bool). b || list_any p leases) (sym e) ∙ some) rest
    by false is rest later =
        let parts = or_parts (p l) (list_any p (filter (λ x. not (is_lease lease x)) leases)) rest in
        later (ap (λ (b : Bool). b || list_any p leases) (sym parts.0) ∙ some) parts.1

-- fewer leases pass no test that none passed
fewer-pass : (p : Lease → Bool) (lease : Lease) (leases : List Lease) → list_any p leases ≡ false → list_any p (filter (λ l. not (is_lease lease l)) leases) ≡ false
fewer-pass p lease [] none = refl
fewer-pass p lease (l ∷ leases) none =
    let parts = or_parts (p l) (list_any p leases) none in by (not (is_lease lease l)) (fewer-pass p lease leases parts.1) parts.0
  where
    by : (b : Bool) → list_any p (filter (λ x. not (is_lease lease x)) leases) ≡ false → p l ≡ false → list_any p (cond b (l ∷ filter (λ x. not (is_lease lease x)) leases) (filter (λ x. not (is_lease lease x)) leases)) ≡ false
    by true rest e = ap (λ (b : Bool). b || list_any p (filter (λ x. not (is_lease lease x)) leases)) e ∙ rest
    by false rest e = rest

-- and a test that the lease doesn't pass says what it said
others-pass : (p : Lease → Bool) (lease : Lease) → p lease ≡ false → (leases : List Lease) → list_any p (filter (λ l. not (is_lease lease l)) leases) ≡ list_any p leases
others-pass p lease fails leases = by (list_any p leases) refl (list_any p (filter (λ l. not (is_lease lease l)) leases)) refl
  where
    by : (a : Bool) → list_any p leases ≡ a → (b : Bool) → list_any p (filter (λ l. not (is_lease lease l)) leases) ≡ b → list_any p (filter (λ l. not (is_lease lease l)) leases) ≡ list_any p leases
    by true e true g = g ∙ sym e
    by true e false g = absurd (true≢false (sym (own-passes p lease leases e g) ∙ fails))
    by false e b g = fewer-pass p lease leases e ∙ sym e

-- whether it comes back by a part
pub part-told : (core : Core) (back : Back) (lease : Lease) (count hit : ℕ) → return_of core back ≡ Part lease count hit → is_some (wanted_of core back.lease.replica back.loan) ≡ true
part-told core back lease count hit = by (is_some (wanted_of core back.lease.replica back.loan))
  where
    by : (b : Bool) → (if b then Part back.lease back.took.count back.took.hit else Put back.lease back.took.count back.took.hit) ≡ Part lease count hit → b ≡ true
    by true e = refl
    by false e = absurd (let g : Put back.lease back.took.count back.took.hit ≡ Part lease count hit = e in cc)

pub put-told : (core : Core) (back : Back) → ((lease : Lease) (count hit : ℕ) → return_of core back ≡ Part lease count hit → ⊥) → is_some (wanted_of core back.lease.replica back.loan) ≡ false
put-told core back = by (is_some (wanted_of core back.lease.replica back.loan))
  where
    by : (b : Bool) → ((lease : Lease) (count hit : ℕ) → (if b then Part back.lease back.took.count back.took.hit else Put back.lease back.took.count back.took.hit) ≡ Part lease count hit → ⊥) → b ≡ false
    by true none = absurd (none back.lease back.took.count back.took.hit refl)
    by false none = refl

module _ (f : Fields) (h : Holds f) (core : CoreOf) (back : Back) (at : state core ≡ core_in f) (job : core.job ≡ f.job) (may : MayReturn core back) where
  abbrev lease : Lease
  lease = back.lease

  abbrev entry : Entry
  entry = return_of (core_in f) back

  pub put-allowed : IsAllowed f.job (core_in f) entry
  put-allowed = subst (λ (j : Job). IsAllowed j (core_in f) entry) job (subst (λ (c : Core). IsAllowed core.job c (return_of c back)) at may.allowed)

  put-wishes : (after f.job (core_in f) entry).wishes ≡ wishing lease.replica lease.thread (faulted (stop_in back.lease.thread back.loan)) (core_in f).wishes
  put-wishes = subst (λ (j : Job). (after j (core_in f) entry).wishes ≡ wishing lease.replica lease.thread (faulted (stop_in back.lease.thread back.loan)) (core_in f).wishes) job
      (subst (λ (c : Core). (after core.job c (return_of c back)).wishes ≡ wishing lease.replica lease.thread (faulted (stop_in back.lease.thread back.loan)) c.wishes) at may.wishes)

  pub came : CameBack f.job (core_in f) back
  came = came-back f.job (core_in f) back put-allowed put-wishes

  abbrev behind : Core
  behind = core_after_lease (core_in f) lease came.stop (wishing lease.replica lease.thread (faulted (stop_in back.lease.thread back.loan)) (core_in f).wishes) came.misses came.ran.replica

  pub put-output : output_of f.job (f.journal ++ entry ∷ []) ≡ output_of f.job f.journal
  put-output = return-output f.job f.journal entry (ap (λ (c : Core). c.output) came.behind)

  still : f.ended ≡ None
  still = h.ended_is ∙ came.not_ended

  put-not-due : f.due ≡ None
  put-not-due = out-going f h lease came.out

  pub put-thread : LentThread (core_in f) lease.replica lease.thread
  put-thread = lent-thread (core_in f) lease.replica lease.thread (lent-go f.job f.journal h.legal lease came.out)

  pub put-within : lease.replica < length f.seats
  put-within = let n = slice_get_within (core_in f).replicas lease.replica put-thread.lent put-thread.in_core in let c = h.seats_are.count in omega arith

  -- its group, and the thread, are there
  pub put-group : lease.replica < length f.groups
  put-group = let s = put-within in let n = h.seats_are.count in let m = h.groups_are.count in omega arith

  pub put-few : lease.thread < 16
  put-few =
      let order = ordered f.job f.journal h.legal in
      let made = (order.sound lease.replica put-thread.lent put-thread.in_core).all_made in
      let within = slice_get_within put-thread.lent.threads lease.thread put-thread.went put-thread.in_lent in
      let few = order.few_lives in
      omega arith

  pub put-replicas : lease.replica < 5
  put-replicas = let s = put-within in let c = h.seats_are.count in let n = (ordered f.job f.journal h.legal).replica_count in let range = few-replicas f.job.settings.replicas h.in_range.replicas in omega arith

  pub put-fewer : length (filter (λ l. not (is_lease lease l)) f.leases) + 1 ≤ length f.leases
  put-fewer = fewer (is_lease lease) f.leases (ap (list_any (is_lease lease)) h.leases_are ∙ came.out)

  pub put-room : 0 < f.places
  put-room = let k = h.room in omega (arith, put-fewer)

  pub put-outcome : outcome_of f.journal ≡ None
  put-outcome = no-outcome f h still

  -- ---- the seats

  -- of another replica all is as it was
  other-seat : (number : ℕ) (seat : Option (Option ReplicaOf)) → (lease.replica == number) ≡ false → Seated f.job (core_in f) number seat → Seated f.job behind number seat
  other-seat number seat differ s = same_seat f.job (core_in f) behind number seat refl (same is_all) (slice_get-set_other (core_in f).replicas lease.replica number _ (differ_by lease.replica number differ)) (λ page. same (λ l. is_lent l page)) s
    where
      same : (p : Lent → Bool) → list_any (λ l. (l.replica == number) && p ((core_in f).lent l.driver)) behind.leases ≡ list_any (λ l. (l.replica == number) && p ((core_in f).lent l.driver)) (core_in f).leases
      same p = others-pass (λ l. (l.replica == number) && p ((core_in f).lent l.driver)) lease (ap (λ (b : Bool). b && p ((core_in f).lent lease.driver)) differ) (core_in f).leases

  -- and the replica's own seat is what it is said to be
  seated-by : (value : ReplicaOf) → IsAtHome f.job behind lease.replica value → AreSeated f.job (after f.job (core_in f) entry) (slice_set f.seats lease.replica (Some value))
  seated-by value home = subst (λ (c : Core). AreSeated f.job c (slice_set f.seats lease.replica (Some value))) (sym came.behind) (record {
    count = length-set f.seats lease.replica (Some value) ∙ h.seats_are.count ∙ sym (length-set (core_in f).replicas lease.replica (stopped lease.thread came.stop came.ran.replica));
    each = λ number. by number (lease.replica == number) refl;
  })
    where
      by : (number : ℕ) (b : Bool) → (lease.replica == number) ≡ b → Seated f.job behind number (slice_get (slice_set f.seats lease.replica (Some value)) number)
      by number true e =
          subst (λ (n : ℕ). Seated f.job behind n (slice_get (slice_set f.seats lease.replica (Some value)) n)) (eqb-true lease.replica number e)
          (subst (λ (o : Option (Option ReplicaOf)). Seated f.job behind lease.replica o) (sym (get-set-same f.seats lease.replica _ (Some value) (slice_get-get_or f.seats lease.replica None put-within))) home)
      by number false e =
          subst (λ (o : Option (Option ReplicaOf)). Seated f.job behind number o) (sym (slice_get-set_other f.seats lease.replica number (Some value) (differ_by lease.replica number e)))
          (other-seat number (slice_get f.seats number) e (h.seats_are.each number))

  -- what the entry makes of the replica
  pub became-behind : (replica : Replica) → BecomesThere core back replica → slice_get behind.replicas lease.replica ≡ Some replica
  became-behind replica e =
      ap (λ (c : Core). slice_get c.replicas lease.replica) (sym came.behind)
      ∙ subst (λ (j : Job). slice_get (after j (core_in f) entry).replicas lease.replica ≡ Some replica) job (subst (λ (c : Core). slice_get (after core.job c (return_of c back)).replicas lease.replica ≡ Some replica) at e)

  pub became-after : (replica : Replica) → BecomesThere core back replica → slice_get (after f.job (core_in f) entry).replicas lease.replica ≡ Some replica
  became-after replica e = ap (λ (c : Core). slice_get c.replicas lease.replica) came.behind ∙ became-behind replica e

  -- a whole replica comes back to its seat: nothing else of it is out
  pub whole-seated : (value : ReplicaOf) → BringsWhole core back value → AreSeated f.job (after f.job (core_in f) entry) (slice_set f.seats lease.replica (Some value))
  whole-seated value brings = seated-by value (there-whole f.job behind lease.replica value (replica_of value) (home-stays behind lease.replica home)
      (subst (λ (j : Job). IsOfJob j (core_in f).kernel value) job (subst (λ (c : Core). IsOfJob core.job c.kernel value) at brings.program)) (became-behind (replica_of value) brings.became) refl)
    where
      whole : (core_in f).lent lease.driver ≡ Whole
      whole = ap (λ (c : Core). c.lent lease.driver) (sym at) ∙ brings.lent

      -- no other lease is of the replica
      alone : (l : Lease) → list_any (is_lease l) (core_in f).leases ≡ true → is_lease lease l ≡ false → (l.replica == lease.replica) ≡ false
      alone l out other = by (beside-both (ranges_in (setup_of f.job.program) (core_in f).kernel) (core_in f).lent lease l (core_in f).leases (lends-well f.job f.journal h.legal).beside came.out out (λ same. true≢false (sym (ap (is_lease lease) (sym same) ∙ own-lease lease) ∙ other)))
        where
          by : AreBeside (ranges_in (setup_of f.job.program) (core_in f).kernel) (core_in f).lent lease l → (l.replica == lease.replica) ≡ false
          by (elsewhere apart) = ne_eqb l.replica lease.replica (λ e. apart (sym e))
          by (sharing ones others apart has have both) = absurd (let g : Whole ≡ Pages ones = sym whole ∙ has in cc)

      none : (leases : List Lease) → ((l : Lease) → list_any (is_lease l) leases ≡ true → list_any (is_lease l) (core_in f).leases ≡ true) → list_any (λ l. l.replica == lease.replica) (filter (λ l. not (is_lease lease l)) leases) ≡ false
      none [] among = refl
      none (l ∷ leases) among = by (is_lease lease l) refl (none leases (λ x e. among x (or_true (is_lease x l) (list_any (is_lease x) leases) e)))
        where
          by : (b : Bool) → is_lease lease l ≡ b → list_any (λ x. x.replica == lease.replica) (filter (λ x. not (is_lease lease x)) leases) ≡ false
              → list_any (λ x. x.replica == lease.replica) (cond (not b) (l ∷ filter (λ x. not (is_lease lease x)) leases) (filter (λ x. not (is_lease lease x)) leases)) ≡ false
          by true is rest = rest
          by false is rest = ap (λ (b : Bool). b || list_any (λ x. x.replica == lease.replica) (filter (λ x. not (is_lease lease x)) leases)) (alone l (among l (ap (λ (b : Bool). b || list_any (is_lease l) leases) (own-lease l))) is) ∙ rest

      home : is_home behind lease.replica ≡ true
      home = ap not (none (core_in f).leases (λ l e. e))

  -- ---- a lane

  module _ (lane : LaneOf) (brings : BringsPart core back lane) where
    pages-lent : (core_in f).lent lease.driver ≡ Pages brings.pages
    pages-lent = ap (λ (c : Core). c.lent lease.driver) (sym at) ∙ brings.lent

    in-core : slice_get (core_in f).replicas lease.replica ≡ Some brings.replica
    in-core = ap (λ (c : Core). slice_get c.replicas lease.replica) (sym at) ∙ brings.there

    lane-own : IsLaneOfJob f.job (core_in f).kernel lane
    lane-own = subst (λ (j : Job). IsLaneOfJob j (core_in f).kernel lane) job (subst (λ (c : Core). IsLaneOfJob core.job c.kernel lane) at brings.program)

    -- not all of the replica is out, so it is in its seat
    part-stays : has_left (core_in f) lease.replica ≡ false
    part-stays = by (has_left (core_in f) lease.replica) refl
      where
        -- another lease has not all of it
        none : (leases : List Lease) → ((l : Lease) → list_any (is_lease l) leases ≡ true → list_any (is_lease l) (core_in f).leases ≡ true) → list_any (λ l. (l.replica == lease.replica) && is_all ((core_in f).lent l.driver)) leases ≡ false
        none [] among = refl
        none (l ∷ leases) among =
            ap (λ (b : Bool). b || list_any (λ x. (x.replica == lease.replica) && is_all ((core_in f).lent x.driver)) leases) (one (is_lease lease l) refl) ∙ none leases (λ x e. among x (or_true (is_lease x l) (list_any (is_lease x) leases) e))
          where
            beside : is_lease lease l ≡ false → AreBeside (ranges_in (setup_of f.job.program) (core_in f).kernel) (core_in f).lent lease l → ((l.replica == lease.replica) && is_all ((core_in f).lent l.driver)) ≡ false
            beside other (elsewhere apart) = ap (λ (b : Bool). b && is_all ((core_in f).lent l.driver)) (ne_eqb l.replica lease.replica (λ e. apart (sym e)))
            beside other (sharing ones others apart has have both) = and_right (l.replica == lease.replica) _ (ap is_all have)

            one : (b : Bool) → is_lease lease l ≡ b → ((l.replica == lease.replica) && is_all ((core_in f).lent l.driver)) ≡ false
            one true is = and_right (l.replica == lease.replica) _ (ap (λ (x : Lease). is_all ((core_in f).lent x.driver)) (same-lease lease l is) ∙ ap is_all pages-lent)
            one false is = beside is (beside-both (ranges_in (setup_of f.job.program) (core_in f).kernel) (core_in f).lent lease l (core_in f).leases (lends-well f.job f.journal h.legal).beside came.out
                (among l (ap (λ (b : Bool). b || list_any (is_lease l) leases) (own-lease l))) (λ same. true≢false (sym (ap (is_lease lease) (sym same) ∙ own-lease lease) ∙ is)))

        by : (b : Bool) → has_left (core_in f) lease.replica ≡ b → has_left (core_in f) lease.replica ≡ false
        by b e = none (core_in f).leases (λ l g. g)

    pub part-home : (value : ReplicaOf) × (slice_get f.seats lease.replica ≡ Some (Some value)) × IsAtHome f.job (core_in f) lease.replica value
    part-home = seat_there f.job (core_in f) f.seats lease.replica brings.replica h.seats_are part-stays in-core

    pub part-seat : IsSeat f.seats lease.replica
    part-seat = (part-home.0, part-home.1)

    pub part-at : (value : ReplicaOf) → slice_get f.seats lease.replica ≡ Some (Some value) → IsAtHome f.job (core_in f) lease.replica value
    part-at value there = subst (λ (o : Option (Option ReplicaOf)). Seated f.job (core_in f) lease.replica o) there (h.seats_are.each lease.replica)

    -- its pages are those that the seat's replica has
    pub part-backed : (value : ReplicaOf) → slice_get f.seats lease.replica ≡ Some (Some value) → has_page value.held.pages ≡ brings.replica.backed
    part-backed value there = let s = part-at value there in s.home.backed ∙ ap (λ (r : Replica). r.backed) (some-injective (sym s.there ∙ in-core))

    -- the page that it wants, if it stands at the fault of this one
    pub part-wants : back.loan ≡ loans.Part lane → (page : ℕ) → lane.thread.stop ≡ Some (PageFault page) → (value : ReplicaOf) → slice_get f.seats lease.replica ≡ Some (Some value) → has_page value.held.pages page ≡ is_some (wanted_of (core_in f) lease.replica back.loan)
    part-wants is page stop value there =
        ap (λ (g : ℕ → Bool). g page) (part-backed value there)
        ∙ sym (ap (λ (l : Loan). is_some (wanted_of (core_in f) lease.replica l)) is
        ∙ ap₂ (λ (o : Option Replica) (s : Option Stop). is_some (option_and_then (λ (r : Replica). missed r.backed s) o)) in-core stop
        ∙ some (brings.replica.backed page))
      where
        some : (b : Bool) → is_some (if b then Some page else None) ≡ b
        some true = refl
        some false = refl

    -- the lane can go back
    pub part-can : (value : ReplicaOf) → slice_get f.seats lease.replica ≡ Some (Some value) → CanTakeBack lease.thread lane value
    part-can value there =
        let s = part-at value there in
        let same : put-thread.lent ≡ s.replica = some-injective (sym put-thread.in_core ∙ s.there) in
        record {
          made = slice_get_within value.threads lease.thread put-thread.went (ap (λ (ts : List Thread). slice_get ts lease.thread) s.home.threads ∙ ap (λ (r : Replica). slice_get r.threads lease.thread) (sym same) ∙ put-thread.in_lent);
          watchdog = lane-own.watchdog ∙ sym s.own.watchdog;
          low = brings.low;
          mine = λ page e. ap (λ (g : ℕ → Bool). g page) (part-backed value there) ∙ (and_parts (is_listed brings.pages page) (brings.replica.backed page) (ap (λ (g : ℕ → Bool). g page) (sym brings.has) ∙ e)).1;
        }

    -- what stands in the seat behind it
    pub part-seated : (value new : ReplicaOf) → slice_get f.seats lease.replica ≡ Some (Some value) → TakesBack lease.thread lane (stop_behind (core_in f) back) value new
        → AreSeated f.job (after f.job (core_in f) entry) (slice_set f.seats lease.replica (Some new))
    part-seated value new there takes = seated-by new (record {
      stays = fewer-pass (λ l. (l.replica == lease.replica) && is_all ((core_in f).lent l.driver)) lease (core_in f).leases part-stays;
      own = record { layout = takes.program.layout ∙ s.own.layout; given = takes.program.given ∙ s.own.given; watchdog = takes.program.watchdog ∙ s.own.watchdog };
      replica = now;
      there = became-behind now (subst (λ (c : Core). BecomesThere core back (put_back lease.thread (has_page lane.held.pages) (memory_of lane.held.pages) lane.thread (stop_behind c back) brings.replica)) at brings.became);
      home = record {
        threads = ap (λ (r : Replica). r.threads) takes.back ∙ ap (λ (ts : List Thread). slice_set ts lease.thread (with_stop (stop_behind (core_in f) back) lane.thread)) (s.home.threads ∙ ap (λ (r : Replica). r.threads) same);
        waiting = ap (λ (r : Replica). r.waiting) takes.back ∙ s.home.waiting ∙ ap (λ (r : Replica). r.waiting) same;
        backed = ap (λ (r : Replica). r.backed) takes.back ∙ s.home.backed ∙ ap (λ (r : Replica). r.backed) same;
        bytes = record { same = λ a none. byte a none (has_page lane.held.pages (page_of a)) refl ∙ ap (λ (r : Replica). r.memory a) (sym takes.back) };
      };
    })
      where
        s : IsAtHome f.job (core_in f) lease.replica value
        s = part-at value there

        same : s.replica ≡ brings.replica
        same = some-injective (sym s.there ∙ in-core)

        now : Replica
        now = put_back lease.thread (has_page lane.held.pages) (memory_of lane.held.pages) lane.thread (stop_behind (core_in f) back) brings.replica

        -- a page that is not away behind it and is not the lane's was not away
        was : (page : ℕ) → is_away f.job behind lease.replica brings.replica.backed page ≡ false → has_page lane.held.pages page ≡ false → is_away f.job (core_in f) lease.replica brings.replica.backed page ≡ false
        was page none gone = by (brings.replica.backed page) refl (is_writable (ranges_in (setup_of f.job.program) (core_in f).kernel) page) refl (is_taken (core_in f) lease.replica page) refl
          where
            by : (a : Bool) → brings.replica.backed page ≡ a → (b : Bool) → is_writable (ranges_in (setup_of f.job.program) (core_in f).kernel) page ≡ b → (c : Bool) → is_taken (core_in f) lease.replica page ≡ c
                → is_away f.job (core_in f) lease.replica brings.replica.backed page ≡ false
            by false e b g c k = and_left (brings.replica.backed page) _ e
            by true e false g c k = and_right (brings.replica.backed page) _ (and_left _ _ g)
            by true e true g false k = and_right (brings.replica.backed page) _ (and_right (is_writable (ranges_in (setup_of f.job.program) (core_in f).kernel) page) _ k)
            by true e true g true k =
                let untaken : is_taken behind lease.replica page ≡ false = sym (ap₂ (λ (x y : Bool). x && (y && is_taken behind lease.replica page)) e g) ∙ none in
                let own = own-passes (λ l. (l.replica == lease.replica) && is_lent ((core_in f).lent l.driver) page) lease (core_in f).leases k untaken in
                let listed : is_listed brings.pages page ≡ true = ap (λ (x : Lent). is_lent x page) (sym pages-lent) ∙ (and_parts (lease.replica == lease.replica) _ own).1 in
                absurd (true≢false (sym (ap (λ (x : ℕ → Bool). x page) brings.has ∙ ap₂ (λ (x y : Bool). x && y) listed e) ∙ gone))

        byte : (a : ℕ) → is_away f.job behind lease.replica brings.replica.backed (page_of a) ≡ false → (b : Bool) → has_page lane.held.pages (page_of a) ≡ b
            → now.memory a ≡ (put_back lease.thread (has_page lane.held.pages) (memory_of lane.held.pages) lane.thread (stop_behind (core_in f) back) (replica_of value)).memory a
        byte a none true e = ap (λ (b : Bool). cond b (memory_of lane.held.pages a) (brings.replica.memory a)) e ∙ sym (ap (λ (b : Bool). cond b (memory_of lane.held.pages a) (memory_of value.held.pages a)) e)
        byte a none false e =
            ap (λ (b : Bool). cond b (memory_of lane.held.pages a) (brings.replica.memory a)) e
            ∙ ap (λ (r : Replica). r.memory a) (sym same)
            ∙ s.home.bytes.same a (ap (λ (r : Replica). is_away f.job (core_in f) lease.replica r.backed (page_of a)) same ∙ was (page_of a) none e)
            ∙ sym (ap (λ (b : Bool). cond b (memory_of lane.held.pages a) (memory_of value.held.pages a)) e)

    -- the thread's stop behind it
    pub part-stop : (o : Option Stop) → stop_of (put_back lease.thread (has_page lane.held.pages) (memory_of lane.held.pages) lane.thread o brings.replica) lease.thread ≡ o
    part-stop o =
        let same : put-thread.lent ≡ brings.replica = some-injective (sym put-thread.in_core ∙ in-core) in
        ap (option_and_then (λ (t : Thread). t.stop)) (get_set brings.replica.threads lease.thread put-thread.went (with_stop o lane.thread) (ap (λ (r : Replica). slice_get r.threads lease.thread) (sym same) ∙ put-thread.in_lent))

    -- the lane can be kept
    pub part-spare : (lane.layout.ranges ≡ lane.given ++ f.job.program.image.ranges) × (lane.layout.calls ≡ f.job.program.image.calls)
    part-spare = (
      ap (λ (l : Layout). l.ranges) lane-own.layout ∙ ap (λ (given : List Range). given ++ f.job.program.image.ranges) (sym lane-own.given),
      ap (λ (l : Layout). l.calls) lane-own.layout,
    )

  -- ---- what is noted

  module _ (wishes' : List Wish) (noted : NotesFault (wish_place lease.replica lease.thread) (stop_in back.lease.thread back.loan) (is_some (wanted_of (core_in f) lease.replica back.loan)) f.wishes wishes') where
    -- the thread's own wish
    own-wish : (old wish : Wish) → IsWish (core_in f) lease.replica lease.thread old → wish.pages.items ≡ wished_behind (stop_in back.lease.thread back.loan) old.pages.items → wish.misses ≡ missed_behind (is_some (wanted_of (core_in f) lease.replica back.loan)) old.misses → IsWish behind lease.replica lease.thread wish
    own-wish old wish is pages misses = record {
      pages = pages ∙ wished-is lease.replica lease.thread (stop_in back.lease.thread back.loan) (core_in f).wishes old.pages.items is.pages;
      misses = misses ∙ missed-is (is_some (wanted_of (core_in f) lease.replica back.loan)) old.misses ((core_in f).misses lease.replica lease.thread) is.misses
          ∙ ap few_misses (count (is_some (wanted_of (core_in f) lease.replica back.loan)) ∙ sym (came.misses_are lease.replica lease.thread));
    }
      where
        count : (b : Bool) → cond b ((core_in f).misses lease.replica lease.thread + 1) ((core_in f).misses lease.replica lease.thread) ≡ cond b (missing lease.replica lease.thread (core_in f).misses lease.replica lease.thread) ((core_in f).misses lease.replica lease.thread)
        count true = sym (ap (λ (b : Bool). cond b ((core_in f).misses lease.replica lease.thread + 1) ((core_in f).misses lease.replica lease.thread)) (and_from (lease.replica == lease.replica) (lease.thread == lease.thread) (eq-eqb lease.replica lease.replica refl) (eq-eqb lease.thread lease.thread refl)))
        count false = refl

    -- another's
    other-wish : (replica thread : ℕ) (wish : Wish) → ((replica == lease.replica) && (thread == lease.thread)) ≡ false → IsWish (core_in f) replica thread wish → IsWish behind replica thread wish
    other-wish replica thread wish other is = record {
      pages = is.pages ∙ sym (unwished-is lease.replica lease.thread replica thread (faulted (stop_in back.lease.thread back.loan)) (core_in f).wishes other);
      misses = is.misses ∙ ap few_misses (sym (came.misses_are replica thread ∙ count (is_some (wanted_of (core_in f) lease.replica back.loan))));
    }
      where
        count : (b : Bool) → cond b (missing lease.replica lease.thread (core_in f).misses replica thread) ((core_in f).misses replica thread) ≡ (core_in f).misses replica thread
        count true = ap (λ (b : Bool). cond b ((core_in f).misses replica thread + 1) ((core_in f).misses replica thread)) other
        count false = refl

    each-wish : AreWishes (core_in f) f.wishes → (replica thread : ℕ) (wish : Wish) → thread < 16 → slice_get wishes' (wish_place replica thread) ≡ Some wish → IsWish behind replica thread wish
    each-wish are replica thread wish less there = by (cases_eq replica lease.replica) (cases_eq thread lease.thread)
      where
        elsewhere : ((replica == lease.replica) && (thread == lease.thread)) ≡ false → (wish_place replica thread ≢ wish_place lease.replica lease.thread) → IsWish behind replica thread wish
        elsewhere other apart = other-wish replica thread wish other (are.each replica thread wish less (sym (noted.others (wish_place replica thread) apart) ∙ there))

        its : (old : Wish) × (slice_get f.wishes (wish_place lease.replica lease.thread) ≡ Some old) → slice_get wishes' (wish_place lease.replica lease.thread) ≡ Some wish → IsWish behind lease.replica lease.thread wish
        its (old, was) now =
            let after = noted.its old was in
            let same : after.0 ≡ wish = some-injective (sym after.1 ∙ now) in
            own-wish old wish (are.each lease.replica lease.thread old put-few was) (ap (λ (w : Wish). w.pages.items) (sym same) ∙ after.2.0) (ap (λ (w : Wish). w.misses) (sym same) ∙ after.2.1)

        by : (replica ≡ lease.replica) ⊎ (replica ≢ lease.replica) → (thread ≡ lease.thread) ⊎ (thread ≢ lease.thread) → IsWish behind replica thread wish
        by (inr apart) t = elsewhere (ap (λ (b : Bool). b && (thread == lease.thread)) (ne_eqb replica lease.replica apart)) (λ e. let few = put-few in apart (omega arith))
        by (inl r) (inr apart) = elsewhere (and_right (replica == lease.replica) _ (ne_eqb thread lease.thread apart)) (λ e. apart (omega arith))
        by (inl r) (inl t) =
            let place : wish_place replica thread ≡ wish_place lease.replica lease.thread = ap₂ wish_place r t in
            let now : slice_get wishes' (wish_place lease.replica lease.thread) ≡ Some wish = ap (slice_get wishes') (sym place) ∙ there in
            let within : wish_place lease.replica lease.thread < length f.wishes = let n = slice_get_within wishes' (wish_place lease.replica lease.thread) wish now in let c = noted.count in omega arith in
            subst (λ (n : ℕ). IsWish behind n thread wish) (sym r) (subst (λ (n : ℕ). IsWish behind lease.replica n wish) (sym t) (its (get-within f.wishes (wish_place lease.replica lease.thread) within) now))

    pub put-noted : AreNoted (after f.job (core_in f) entry) f.job.settings.drivers f.lent wishes'
    put-noted = subst (λ (c : Core). AreNoted c f.job.settings.drivers f.lent wishes') (sym came.behind) (
      λ driver less. h.noted.0 driver less,
      λ lends.
          let are = h.noted.1 lends in (
            record {
              count = noted.count ∙ are.0.count ∙ ap (λ (n : ℕ). 16 * n) (sym (length-set (core_in f).replicas lease.replica (stopped lease.thread came.stop came.ran.replica)));
              each = each-wish are.0;
            },
            are.1,
          ),
    )

  -- ---- the fields behind it

  pub put-holds : (f' : Fields) (value : ReplicaOf) (stopped : Bool) → Rest f f' → f'.wrote ≡ 0 → f'.journal ≡ f.journal ++ entry ∷ [] → f'.leases ≡ filter (λ l. not (is_lease lease l)) f.leases
      → AreNoted (after f.job (core_in f) entry) f.job.settings.drivers f'.lent f'.wishes → All (IsSpareLane f.job.program.image) f'.lanes
      → AreSeated f.job (after f.job (core_in f) entry) f'.seats → length f'.seats ≡ length f.seats → (replica : Replica) → BecomesThere core back replica → Returns lease.replica lease.thread (is_some (stop_of replica lease.thread)) f.groups f'.groups → f.places ≡ f'.places + 1 → Holds f'
  put-holds f' value stopped r wrote journal leases noted lanes seats seat_count replica became returns less =
      holds-step f f' entry h put-allowed (record {
        job = r.job;
        journal = journal;
        leases = leases ∙ ap (filter (λ l. not (is_lease lease l))) h.leases_are ∙ sym (ap (λ (c : Core). c.leases) came.behind);
        noted = noted;
        lanes = lanes;
        setup = ap (λ (k : State). k.setup) r.kernel;
        kernel = ap (λ (k : State). k.kernel) r.kernel ∙ h.kernel_is ∙ sym (ap (λ (c : Core). c.kernel) came.behind);
        blocked_count = ap length r.blocked ∙ h.blocked_count;
        blocked = λ t. ap (λ (bs : List (Option Call)). blocked_at bs t) r.blocked ∙ h.blocked_are t ∙ sym (ap (λ (c : Core). c.blocked t) came.behind);
        unblocked = same-unblocked f f' h r.kernel r.blocked r.unblocked;
        calm = same-calm f f' h r.kernel r.blocked r.waits r.calm;
        steps = r.steps ∙ h.steps_are ∙ sym (ap (λ (c : Core). c.steps) came.behind);
        scrubbed = r.scrubbed ∙ h.scrubbed_are ∙ sym (ap (λ (c : Core). c.scrubbed) came.behind);
        waits = same-waits f f' h (after f.job (core_in f) entry) (ap (λ (c : Core). c.waited) came.behind) r.waits (ap length journal ∙ length-more f.journal entry);
        counts = same-counts f f' h _ (ap (λ (c : Core). c.output) came.behind) (ap (λ (c : Core). c.wrote) came.behind) r.sent wrote r.steps;
        due = r.due ∙ h.due_is ∙ sym (ap (λ (c : Core). c.due) came.behind);
        ended = r.ended ∙ h.ended_is ∙ sym (ap (λ (c : Core). c.ended) came.behind);
        seats = seats;
        groups = return-grouped f.job (core_in f) (after f.job (core_in f) entry) lease back.took.count came.ran came.runs came.stop put-thread (ap (λ (c : Core). c.replicas) came.behind) f.groups f'.groups replica (became-after replica became) h.groups_are returns;
        views_count = λ unended. ap length r.views ∙ h.views_count (sym r.ended ∙ unended) ∙ sym seat_count;
        views_kept = no-views f.job _ f'.views (outcome_of-append f.journal (entry ∷ []) put-outcome ∙ return-goes-on (core_in f) back);
        room = let k = h.room in let one : one_end f'.ended ≡ one_end f.ended = ap one_end r.ended in let n : length f'.leases ≡ length (filter (λ l. not (is_lease lease l)) f.leases) = ap length leases in omega (arith, put-fewer);
      })
