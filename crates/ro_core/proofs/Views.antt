-- The views of a vote, in the fields of a run.
use Rattle.std.proofs.Common.{◌≤◌, ◌≡◌, ℕ, true, List, length, None, Result, Ok, Err, ◌∙◌, arith}
use Rattle.std.specs.Prelude.{OnErr}
use Rattle.std.specs.List.{list_all}
use Rattle.std.proofs.lemmas.Bool.{and_parts}
use Rattle.ro_event.specs.Views.{View}
use Rattle.ro_settings.proofs.Counts.{few-replicas}
use Rattle.ro_legal.specs.Core.{may_vote}
use Rattle.ro_core.specs.Fields.{AreHome, Fields, core_in, Holds}
use Rattle.ro_core.specs.Grouped.{seat_stopped}
use Rattle.ro_core.proofs.Held.{goes, no-outcome, no-views}
use Rattle.ro_legal.proofs.Ordered.{vote-parts, ordered}
use Rattle.ro_core.proofs.Tests.{all-home, stopped-home}

pub viewed-holds : (f : Fields) (views : List View) → Holds f → f.ended ≡ None → length views ≡ length f.views → Holds (record f { views = views })
viewed-holds f views h still same = record {
  in_range = h.in_range;
  legal = h.legal;
  leases_are = h.leases_are;
  noted = h.noted;
  lanes_are = h.lanes_are;
  setup_is = h.setup_is;
  kernel_is = h.kernel_is;
  blocked_count = h.blocked_count;
  blocked_are = h.blocked_are;
  unblocked_is = h.unblocked_is;
  calm_is = h.calm_is;
  steps_are = h.steps_are;
  scrubbed_are = h.scrubbed_are;
  waits_are = h.waits_are;
  counts = h.counts;
  due_is = h.due_is;
  ended_is = h.ended_is;
  seats_are = h.seats_are;
  groups_are = h.groups_are;
  views_count = λ unended. same ∙ h.views_count unended;
  views_kept = no-views f.job f.journal views (no-outcome f h still);
  room = h.room;
}

-- what holds anyway holds of an error
pub always-on-err : {X E P : Type 0} (r : Result X E) → P → OnErr r P
always-on-err (Ok x) p = tt
always-on-err (Err e) p = p

module _ (f : Fields) (h : Holds f) (thread : ℕ) (may : may_vote (core_in f) thread ≡ true) where
  pub view-still : f.ended ≡ None
  view-still = (goes f h (vote-parts (core_in f) thread may).going).not_ended

  pub view-home : AreHome f.job (core_in f).kernel f.seats (core_in f).replicas
  view-home = all-home f.job (core_in f) f.seats h.seats_are (vote-parts (core_in f) thread may).alone

  pub view-stopped : list_all (seat_stopped thread) f.seats ≡ true
  view-stopped = stopped-home f.job (core_in f).kernel thread f.seats (core_in f).replicas view-home ∙ (and_parts _ _ may).1

  as-many : length f.views ≡ f.job.settings.replicas
  as-many = h.views_count view-still ∙ h.seats_are.count ∙ (ordered f.job f.journal h.legal).replica_count

  pub view-count : length f.views ≤ 5
  view-count = let range = few-replicas f.job.settings.replicas h.in_range.replicas in let many = as-many in omega arith
