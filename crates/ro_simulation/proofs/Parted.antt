-- The invariant after a lease came back for the want of a page: nothing was struck, and its thread stands at no stop.
use Rattle.std.specs.Prelude.{◌≡◌, ℕ, Bool, true, false, IsSome, cond, List, [], ◌∷◌, ◌++◌, Option, Some, None, slice_get}
use Rattle.std.proofs.Common.{refl, sym, ap, ◌∙◌, subst}
use Rattle.std.proofs.lemmas.Bool.{eq-eqb}
use Rattle.std.proofs.lemmas.Option.{option_and_then_some}
use Rattle.ro_journal.specs.declared.Entry.{Entry}
use Rattle.ro_journal.specs.declared.Entry.TheVariants.{Part}
use Rattle.ro_journal.specs.declared.Lease.{Lease}
use Rattle.ro_journal.specs.Plan.{plan_of}
use Rattle.ro_kernel.specs.Kernel.{Kernel}
use Rattle.ro_replica.specs.Replica.{Replica}
use Rattle.ro_replica.specs.Runs.{standing_at}
use Rattle.ro_plain.specs.Machine.{layout_in}
use Rattle.ro_plain.specs.Order.{RaceFree}
use Rattle.ro_legal.specs.Parts.{Lent, Whole, Pages, run_with, wanted}
use Rattle.ro_legal.specs.Core.{Job, Core}
use Rattle.ro_legal.specs.Legal.{stopped, arrived, after, MayPart}
use Rattle.ro_simulation.specs.Invariant.{Agrees, TracksIdeal}
use Rattle.ro_legal.proofs.Leases.{part-is}
use Rattle.ro_legal.proofs.PageRuns.{pages-run}
use Rattle.ro_legal.proofs.FaultStops.{whole-wants-none}
use Rattle.ro_simulation.proofs.Put.{agrees-arrived}
use Rattle.ro_simulation.proofs.Entries.{back-going, after-calm}

-- the replica is one that has arrived after a whole quantum
parted-is : (job : Job) (kernel : Kernel) (thread : ℕ) (replica : Replica) → arrived job kernel thread job.settings.quantum replica ≡ stopped thread None replica
parted-is job kernel thread replica =
    ap (λ (b : Bool). stopped thread (cond b None (standing_at (layout_in job.program kernel) job.settings.watchdog replica thread)) replica) (eq-eqb job.settings.quantum job.settings.quantum refl)

module _ (job : Job) (core : Core) (lease : Lease) (count hit : ℕ) (may : MayPart job core lease count hit) where
  -- its lease is of pages
  pub part-pages : (pages : List ℕ) × (core.lent lease.driver ≡ Pages pages)
  part-pages = by (core.lent lease.driver) refl may.wants
    where
      no-some : (o : Option ℕ) → o ≡ None → IsSome o → ⊥
      no-some None e s = absurd (let f : false ≡ true = s in cc)
      no-some (Some page) e s = absurd (let f : Some page ≡ None = e in cc)

      by : (lent : Lent) → core.lent lease.driver ≡ lent → IsSome (wanted (layout_in job.program core.kernel) job.settings.watchdog lent may.returns.ran.replica lease.thread) → (pages : List ℕ) × (core.lent lease.driver ≡ Pages pages)
      by Whole e wants = absurd (no-some _ (whole-wants-none job core.kernel lease.thread may.returns.ran.replica) wants)
      by (Pages pages) e wants = (pages, e)

  -- so no fault was struck
  pub part-calm : hit ≡ 0
  part-calm =
      let is = part-pages in
      sym may.returns.struck
      ∙ option_and_then_some (λ r. run_with (layout_in job.program core.kernel) job.settings.watchdog (core.lent lease.driver) count r lease.thread) (slice_get core.replicas lease.replica) may.returns.ran may.returns.runs
      (λ lent there runs. (pages-run (layout_in job.program core.kernel) job.settings.watchdog is.0 count lease.thread lent may.returns.ran
      (ap (λ (l : Lent). run_with (layout_in job.program core.kernel) job.settings.watchdog l count lent lease.thread) (sym is.1) ∙ runs)).1)

  module _ (odds : List ℕ) (journal : List Entry) (h : TracksIdeal job odds journal core) where
    -- the invariant after it
    pub after-part : RaceFree job.program → TracksIdeal job odds (journal ++ Part lease count hit ∷ []) (after job core (Part lease count hit))
    after-part free =
        let going = back-going job odds journal core h lease count hit may.returns in
        subst (TracksIdeal job odds (journal ++ Part lease count hit ∷ [])) (sym (part-is job core lease count hit may))
        (after-calm job odds journal core h lease count hit may.returns None _ _ (Part lease count hit) refl free part-calm (λ but.
        subst (Agrees job h.machine) (parted-is job h.machine.kernel lease.thread may.returns.ran.replica)
        (agrees-arrived job free (plan_of journal) h.machine h.ideal_is going.0 lease.thread going.1 job.settings.quantum may.returns.ran.replica but)))
