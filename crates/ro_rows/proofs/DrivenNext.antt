-- One driver does what the core does next.
use Rattle.std.specs.Prelude.{◌≡◌, ◌≢◌, ℕ, zero, suc, [], ◌∷◌, Option, Some, None}
use Rattle.std.proofs.Common.{refl, inl}
use Rattle.ro_journal.specs.declared.How.{How}
use Rattle.ro_journal.specs.declared.How.TheVariants.{Differ}
use Rattle.ro_journal.specs.declared.Entry.TheVariants.{Take, End}
use Rattle.ro_journal.specs.Leases.{lease_to}
use Rattle.ro_journal.specs.Plan.{outcome_of}
use Rattle.ro_vote.specs.Verdict.{Verdict, Won, Split, verdict_of}
use Rattle.ro_legal.specs.declared.actions.Action.{Action}
use Rattle.ro_legal.specs.declared.actions.Action.TheVariants.{Vote as DoVote, Free as DoFree, Scrub as DoScrub, Lend, End as DoEnd, Wait, Over}
use Rattle.ro_legal.specs.Core.{Job, Core, opening_core, views_of}
use Rattle.ro_legal.specs.Legal.{after, core_after_take}
use Rattle.ro_legal.specs.Action.{next_action, EachIsNext}
use Rattle.ro_simulation.specs.Drives.{count_in, hit_in, missed_in, back_entry, vote_entry, entries_for, with_entries, driven_from, driven}

-- after an end nothing comes
after-end : (fuel : ℕ) (job : Job) (core : Core) (how : How) → EachIsNext job (after job core (End how)) (driven_from fuel job (after job core (End how)))
unfolding after next_action
after-end zero job core how = tt
after-end (suc fuel) job core how = tt

module _ (fuel : ℕ) (job : Job) (rest : (core : Core) → outcome_of (driven_from fuel job core) ≢ Some Differ → EachIsNext job core (driven_from fuel job core)) (core : Core) where
  -- the entry of a vote
  vote-next : (thread : ℕ) (verdict : Verdict) → next_action job core ≡ DoVote thread →
      outcome_of (with_entries (driven_from fuel job) job core (vote_entry job core thread verdict ∷ [])) ≢ Some Differ →
      EachIsNext job core (with_entries (driven_from fuel job) job core (vote_entry job core thread verdict ∷ []))
  vote-next thread (Won won lost) e d = (e, rest _ d)
  vote-next thread Split e d = absurd (d refl)

  -- a lease, which comes back at once, for the want of a page or not
  lend-next : (replica thread count hit : ℕ) (missed : Option ℕ) → next_action job core ≡ Lend replica thread →
      outcome_of (with_entries (driven_from fuel job) job core (Take (lease_to 0 replica thread) ∷ back_entry (lease_to 0 replica thread) count hit missed ∷ [])) ≢ Some Differ →
      EachIsNext job core (with_entries (driven_from fuel job) job core (Take (lease_to 0 replica thread) ∷ back_entry (lease_to 0 replica thread) count hit missed ∷ []))
  lend-next replica thread count hit None e d = (e, (tt, rest _ d))
  lend-next replica thread count hit (Some page) e d = (e, (tt, rest _ d))

  -- the entries of an action
  action-next : (action : Action) → next_action job core ≡ action →
      outcome_of (with_entries (driven_from fuel job) job core (entries_for job core action)) ≢ Some Differ →
      EachIsNext job core (with_entries (driven_from fuel job) job core (entries_for job core action))
  action-next (Lend replica thread) e d =
      let lease = lease_to 0 replica thread in
      let lent = core_after_take core lease in
      let n = count_in job lent lease in
      lend-next replica thread n (hit_in job lent lease n) (missed_in job lent lease n) e d
  action-next (DoVote thread) e d = vote-next thread (verdict_of (views_of job core thread)) e d
  action-next (DoFree thread) e d = (e, rest _ d)
  action-next DoScrub e d = (e, rest _ d)
  action-next (DoEnd how) e d = (inl e, after-end fuel job core how)
  action-next Wait e d = tt
  action-next Over e d = tt

-- the entries of so many actions
from-next : (fuel : ℕ) (job : Job) (core : Core) → outcome_of (driven_from fuel job core) ≢ Some Differ → EachIsNext job core (driven_from fuel job core)
from-next zero job core d = tt
from-next (suc fuel) job core d = action-next fuel job (from-next fuel job) core (next_action job core) refl d

-- the journal of one driver
pub driven-next : (fuel : ℕ) (job : Job) → outcome_of (driven fuel job) ≢ Some Differ → EachIsNext job (opening_core job) (driven fuel job)
driven-next fuel job d = from-next fuel job (opening_core job) d
