-- The fields of a run at its opening.
use Rattle.std.proofs.Common.{◌≡◌, ◌⊎◌, inl, inr, ℕ, zero, suc, ◌*◌, ◌<◌, ◌≤◌, true≢false, List, [], ◌∷◌, ◌++◌, length, Option, Some, None, refl, sym, ap, ◌∙◌, subst, arith}
use Rattle.std.specs.Prelude.{IsSome, false, replicate, slice_get}
use Rattle.std.specs.List.{All}
use Rattle.std.specs.Option.{option_map_or}
use Rattle.std.proofs.lemmas.Option.{slice_get_within}
use Rattle.ro_journal.specs.Plan.{outcome_of}
use Rattle.ro_event.specs.declared.calls.Call.{Call}
use Rattle.ro_faults.specs.declared.Fault.{Fault}
use Rattle.ro_image.specs.Image.{Image}
use Rattle.ro_kernel.specs.Kernel.{opening_kernel}
use Rattle.ro_kernel.specs.Serve.{serves}
use Rattle.ro_plain.specs.Machine.{setup_of}
use Rattle.ro_replica.specs.Replica.{Replica, opening_replica}
use Rattle.ro_replica.specs.Seen.{ReplicaOf, IsOpening}
use Rattle.ro_settings.specs.Ranges.{InRange}
use Rattle.ro_legal.specs.Waits.{AreWaits, NotesWaits}
use Rattle.ro_legal.specs.Core.{Job, Core, opening_replicas, opening_core, sharing_of}
use Rattle.ro_legal.specs.Legal.{Legal, replay}
use Rattle.ro_legal.proofs.Lowest.{lowest-never}
use Rattle.ro_core.specs.Fields.{AreNoted, lent_at, Seated, AreSeated, one_end, Fields, blocked_at, is_unblocked, first_unblocked, Holds}
use Rattle.ro_replica.specs.Lent.{IsSpareLane}
use Rattle.ro_legal.specs.Parts.{Whole}
use Rattle.ro_core.specs.Wishing.{wish_place}
use Rattle.ro_core.specs.declared.wishing.Wish.{Wish}
use Rattle.ro_core.specs.Grouped.{AreGrouped}
use Rattle.ro_core.specs.Opening.{IsFirst, AreFirst, NoneStands}
use Rattle.ro_legal.proofs.Lists.{get-within, get-append-cases}
use Rattle.ro_legal.proofs.Ordered.{length-opening, get-opening}
use Rattle.ro_core.proofs.Grouped.{opening-grouped}
use Rattle.ro_core.proofs.Away.{there-whole}
use Rattle.ro_core.proofs.Held.{no-views}

pub first-push : (image : Image) (faults : List Fault) (watchdog : ℕ) (seats : List (Option ReplicaOf)) (seat : Option ReplicaOf) → AreFirst image faults watchdog seats → IsFirst image faults watchdog (length seats) seat → AreFirst image faults watchdog (seats ++ seat ∷ [])
first-push image faults watchdog seats seat h first number other e = by (get-append-cases seats seat number other e)
  where
    by : (slice_get seats number ≡ Some other) ⊎ ((number ≡ length seats) × (seat ≡ other)) → IsFirst image faults watchdog number other
    by (inl f) = h number other f
    by (inr f) = subst (λ (n : ℕ). IsFirst image faults watchdog n other) (sym f.0) (subst (IsFirst image faults watchdog (length seats)) f.1 first)

-- the replica of each number below n
opening-there : (job : Job) (n number : ℕ) → number < n → slice_get (opening_replicas job n) number ≡ Some (opening_replica job.program.image job.faults number)
opening-there job n number less =
    let w = get-within (opening_replicas job n) number (let e = length-opening job n in omega arith) in
    w.1 ∙ ap (λ (r : Replica). Some r) (sym (get-opening job n number w.0 w.1))

first-seated : (job : Job) (seats : List (Option ReplicaOf)) → AreFirst job.program.image job.faults job.settings.watchdog seats → length seats ≡ job.settings.replicas → AreSeated job (opening_core job) seats
unfolding opening_core
first-seated job seats first count = record { count = count ∙ sym (length-opening job job.settings.replicas); each = λ number. by number (slice_get seats number) refl }
  where
    by : (number : ℕ) (o : Option (Option ReplicaOf)) → slice_get seats number ≡ o → Seated job (opening_core job) number o
    by number None e = tt
    by number (Some None) e = absurd (first number None e)
    by number (Some (Some value)) e =
        let f : IsOpening job.program.image number job.faults job.settings.watchdog value = first number (Some value) e in
        let less : number < length seats = slice_get_within seats number (Some value) e in
        there-whole job (opening_core job) number value (opening_replica job.program.image job.faults number) refl (record { layout = f.layout; given = f.given; watchdog = f.watchdog_is })
        (opening-there job job.settings.replicas number (omega arith)) f.opening

-- nothing was lent yet, and no page missed
pub record FirstLending (f : Fields) : Type 0 where
  pub lent : (driver : ℕ) → lent_at f.lent driver ≡ Whole
  pub lent_count : IsSome (sharing_of f.job) → length f.lent ≡ f.job.settings.drivers
  pub wishes : (place : ℕ) (wish : Wish) → slice_get f.wishes place ≡ Some wish → (wish.pages.items ≡ []) × (wish.misses ≡ 0)
  pub wish_count : IsSome (sharing_of f.job) → length f.wishes ≡ 16 * f.job.settings.replicas
  pub lanes : f.lanes ≡ []

first-noted : (f : Fields) → FirstLending f → AreNoted (opening_core f.job) f.job.settings.drivers f.lent f.wishes
unfolding opening_core
first-noted f first = (
  λ driver less. first.lent driver,
  λ lends. (
    record {
      count = first.wish_count lends ∙ ap (λ (n : ℕ). 16 * n) (sym (length-opening f.job f.job.settings.replicas));
      each = λ replica thread wish less there.
          let is = first.wishes (wish_place replica thread) wish there in
          record { pages = is.0; misses = is.1 };
    },
    first.lent_count lends,
  ),
)

nothing-blocked : (n thread : ℕ) → blocked_at (replicate n None) thread ≡ None
nothing-blocked zero thread = refl
nothing-blocked (suc n) zero = refl
nothing-blocked (suc n) (suc thread) = nothing-blocked n thread

pub opening-holds : (f : Fields) → InRange f.job.settings → f.journal ≡ [] → AreFirst f.job.program.image f.job.faults f.job.settings.watchdog f.seats → length f.seats ≡ f.job.settings.replicas
    → f.leases ≡ [] → FirstLending f → f.kernel.setup ≡ setup_of f.job.program → f.kernel.kernel ≡ opening_kernel f.job.program.image.heap
    → f.blocked ≡ replicate 16 None → f.unblocked ≡ None → f.calm ≡ 0 → f.steps ≡ 0 → f.scrubbed ≡ 0 → AreWaits f.waits (λ thread. 0) × (f.waits.votes ≡ 0) → f.due ≡ None → f.ended ≡ None → f.sent ≡ 0 → f.wrote ≡ 0
    → length f.views ≡ f.job.settings.replicas → NoneStands f.job.settings.replicas f.groups → 1 ≤ f.places → Holds f
unfolding opening_core
opening-holds f in_range journal first count leases lending setup kernel blocked unblocked calm steps scrubbed waits due ended sent wrote views none room =
    let core : replay f.job f.journal ≡ opening_core f.job = ap (replay f.job) journal in
    record {
      in_range = in_range;
      legal = subst (Legal f.job) (sym journal) tt;
      leases_are = leases ∙ sym (ap (λ (x : Core). x.leases) core);
      noted = subst (λ (x : Core). AreNoted x f.job.settings.drivers f.lent f.wishes) (sym core) (first-noted f lending);
      lanes_are = subst (All (IsSpareLane f.job.program.image)) (sym lending.lanes) (λ k d less. absurd (omega arith));
      setup_is = setup;
      kernel_is = kernel ∙ sym (ap (λ (x : Core). x.kernel) core);
      blocked_count = ap length blocked;
      blocked_are = λ t. ap (λ (bs : List (Option Call)). blocked_at bs t) blocked ∙ nothing-blocked 16 t ∙ sym (ap (λ (x : Core). x.blocked t) core);
      unblocked_is = unblocked ∙ sym (ap (first_unblocked f.kernel) blocked ∙ lowest-never (is_unblocked f.kernel.setup f.kernel.kernel (replicate 16 None)) (length f.kernel.kernel.lives) (λ t. ap (λ (o : Option Call). option_map_or (λ call. serves f.kernel.setup f.kernel.kernel t call) o false) (nothing-blocked 16 t)));
      calm_is = record { soon = omega arith; each = λ t since there lives unblocked. omega arith };
      steps_are = steps ∙ sym (ap (λ (x : Core). x.steps) core);
      scrubbed_are = scrubbed ∙ sym (ap (λ (x : Core). x.scrubbed) core);
      waits_are = subst (λ (x : Core). NotesWaits f.waits x.waited (length f.journal)) (sym core) (record { are = waits.0; few = let none = waits.1 in omega arith });
      counts = record {
        sent_are = sent ∙ ap (λ (x : Core). length x.output) (sym core);
        wrote_is = wrote ∙ ap (λ (x : Core). x.wrote) (sym core);
        within = omega arith;
        few = omega arith;
      };
      due_is = due ∙ sym (ap (λ (x : Core). x.due) core);
      ended_is = ended ∙ sym (ap (λ (x : Core). x.ended) core);
      seats_are = subst (λ (x : Core). AreSeated f.job x f.seats) (sym core) (first-seated f.job f.seats first count);
      groups_are = subst (λ (x : Core). AreGrouped x.replicas f.groups) (sym core) (opening-grouped f.job f.groups none);
      views_count = λ unended. views ∙ sym count;
      views_kept = no-views f.job f.journal f.views (ap outcome_of journal);
      room = let one : one_end f.ended ≡ 1 = ap one_end ended in let none : length f.leases ≡ 0 = ap length leases in omega arith;
    }
