-- The views of a vote, in the fields of a run.
use Rattle.std.proofs.Common.{Result, Ok, Err, ◌≡◌, ◌↔◌, ℕ, Bool, true, false, true≢false, not, List, [], ◌∷◌, length, Option, Some, None, refl, sym, ap, ◌∙◌, subst}
use Rattle.std.specs.Prelude.{IfOk, IsTrue, ◌||◌, is_none, is_some}
use Rattle.std.specs.List.{list_all}
use Rattle.std.proofs.lemmas.Bool.{and_parts, and_from}
use Rattle.ro_event.specs.declared.stops.Stop.TheVariants.{Watchdog}
use Rattle.ro_event.specs.Views.{View, same_view}
use Rattle.ro_event.proofs.Same.{view-true, view-same}
use Rattle.ro_kernel.specs.declared.reservations.Reservation.{Reservation}
use Rattle.ro_kernel.specs.Kernel.{Kernel}
use Rattle.ro_kernel.specs.Reserved.{reservation_of}
use Rattle.ro_legal.specs.Core.{may_vote, views_of}
use Rattle.ro_legal.specs.Cooperative.{AreAll, AgreeOn, lapses_alike}
use Rattle.ro_legal.proofs.Ordered.{vote-parts}
use Rattle.ro_coop_core.specs.Seats.{AreHome, seat_answered, seat_stopped}
use Rattle.ro_coop_core.specs.Fields.{Fields, core_in, Holds}
use Rattle.ro_coop_core.specs.Runs.{IsAgreed}
use Rattle.ro_coop_core.proofs.Held.{goes, no-outcome, no-views}
use Rattle.ro_coop_core.proofs.AtHome.{stopped-home, alike-home}
use Rattle.ro_coop_core.proofs.Makes.{ready-home}

-- ---- views that are all one

all-alike : (view : View) (views : List View) → list_all (λ other. same_view other view) views ≡ true → AreAll view views
all-alike view [] all = tt
all-alike view (v ∷ views) all = let p = and_parts _ _ all in (view-true v view p.0, all-alike view views p.1)

alike-all : (view : View) (views : List View) → AreAll view views → list_all (λ other. same_view other view) views ≡ true
alike-all view [] all = refl
alike-all view (v ∷ views) all = and_from _ _ (ap (λ (w : View). same_view w view) all.0 ∙ view-same view) (alike-all view views all.1)

-- where each is as the first
pub first-alike : (view : View) (views : List View) (b : Bool) → b ≡ list_all (λ other. same_view other view) views → IsTrue b ↔ ((one : View) × AreAll one (view ∷ views))
first-alike view views b is = (
  λ yes. (view, (refl, all-alike view views (sym is ∙ yes))),
  λ all. is ∙ alike-all view views (subst (λ (v : View). AreAll v views) (sym all.1.0) all.1.1),
)

-- no view is there
pub none-alike : IsTrue true ↔ ((one : View) × AreAll one [])
none-alike = (λ yes. (record { registers = []; pc = 0; since = 0; stop = Watchdog; payload = [] }, tt), λ all. refl)

-- ---- the views of a vote are in their places

pub viewed-holds : (f : Fields) (views : List View) → Holds f → f.ended ≡ None → length views ≡ length f.views → Holds (record f { views = views })
viewed-holds f views h still same = record {
  calm = h.calm;
  legal = h.legal;
  leases_are = h.leases_are;
  setup_is = h.setup_is;
  kernel_is = h.kernel_is;
  cooperates_is = h.cooperates_is;
  blocked_count = h.blocked_count;
  blocked_are = h.blocked_are;
  most_count = h.most_count;
  most_are = h.most_are;
  steps_are = h.steps_are;
  waits_are = h.waits_are;
  counts = h.counts;
  due_is = h.due_is;
  ended_is = h.ended_is;
  seats_are = h.seats_are;
  views_count = λ unended. same ∙ h.views_count unended;
  views_kept = no-views f.job f.journal views (no-outcome f h still);
  room = h.room;
}

module _ (f : Fields) (h : Holds f) (thread : ℕ) (may : may_vote (core_in f) thread ≡ true) where
  pub view-still : f.ended ≡ None
  view-still = (goes f h (vote-parts (core_in f) thread may).going).not_ended

  pub view-alone : f.leases ≡ []
  view-alone = h.leases_are ∙ (vote-parts (core_in f) thread may).alone

  pub view-home : AreHome f.job (core_in f).kernel (core_in f).replicas (core_in f).sides f.seats
  view-home = ready-home f h view-alone

  pub view-stopped : list_all (seat_stopped thread) f.seats ≡ true
  view-stopped = stopped-home f.job (core_in f).kernel thread (core_in f).replicas (core_in f).sides f.seats view-home (and_parts _ _ may).1

  pub view-count : length f.views ≡ length f.seats
  view-count = h.views_count view-still

  -- whether the replicas leave the same of the thread's reservation, where they answered alike
  pub lapses-told : (told : Bool) → told ≡ (list_all (seat_answered thread) f.seats || list_all (λ seat. not (seat_answered thread seat)) f.seats) → told ≡ true → told ≡ lapses_alike (core_in f) thread
  lapses-told told is all = by (is_none (reservation_of (core_in f).kernel.reserved thread)) _ (is ∙ alike-home f.job (core_in f).kernel thread (core_in f).replicas (core_in f).sides f.seats view-home)
    where
      by : (none alike : Bool) → told ≡ alike → told ≡ (none || alike)
      by true alike e = all
      by false alike e = e

  -- and where they did not
  pub lapses-untold : (told reserving : Bool) → told ≡ (list_all (seat_answered thread) f.seats || list_all (λ seat. not (seat_answered thread seat)) f.seats) → told ≡ false → reserving ≡ is_some (reservation_of f.kernel.kernel.reserved thread) → not reserving ≡ lapses_alike (core_in f) thread
  lapses-untold told reserving is unlike reserved =
      by (reservation_of (core_in f).kernel.reserved thread) _ (sym unlike ∙ (is ∙ alike-home f.job (core_in f).kernel thread (core_in f).replicas (core_in f).sides f.seats view-home)) (reserved ∙ ap (λ (k : Kernel). is_some (reservation_of k.reserved thread)) h.kernel_is)
    where
      by : (o : Option Reservation) (alike : Bool) → false ≡ alike → reserving ≡ is_some o → not reserving ≡ (is_none o || alike)
      by None alike e k = ap not k
      by (Some r) alike e k = ap not k ∙ e

  -- replicas that agree, with their views in their places
  pub shown-agreed : (views : List View) → length views ≡ length f.views → views ≡ views_of f.job (core_in f) thread → ((view : View) × AreAll view views) × IsTrue (lapses_alike (core_in f) thread) → (view : View) × IsAgreed (record f { views = views }) thread view
  shown-agreed views count shown all = (
    all.0.0,
    record {
      holds = viewed-holds f views h view-still count;
      may = may;
      views_are = shown;
      agreed = (subst (AreAll all.0.0) shown all.0.1, all.1);
    },
  )

  -- and some that don't
  pub shown-unlike : (views : List View) (told : Bool) → views ≡ views_of f.job (core_in f) thread → IsTrue told ↔ (((view : View) × AreAll view views) × IsTrue (lapses_alike (core_in f) thread)) → told ≡ false → (view : View) → AgreeOn f.job (core_in f) thread view → ⊥
  shown-unlike views told shown is unlike view agree = true≢false (sym (is.1 ((view, subst (AreAll view) (sym shown) agree.0), agree.1)) ∙ unlike)

-- what holds anyway holds of what a call answered
pub always-on-ok : {X E : Type 0} (r : Result X E) (P : X → Type 0) → ((x : X) → P x) → IfOk r P
always-on-ok (Ok x) P p = p x
always-on-ok (Err e) P p = tt
