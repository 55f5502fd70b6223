-- What holds of a cooperative run, by the rules of its job's mode.
use Rattle.std.specs.Prelude.{◌≡◌, ◌⊎◌, ◌<◌, ◌≤◌, ◌^◌, ⊤, ℕ, Bool, true, false, not, min, nat_lt, if◌then◌else◌, List, [], ◌∷◌, ◌++◌, length, Some, slice_get, slice_index_or}
use Rattle.std.proofs.Common.{sym, ap, ◌∙◌, subst}
use Rattle.ro_settings.specs.declared.Mode.TheVariants.{Cooperative}
use Rattle.ro_journal.specs.declared.Entry.{Entry}
use Rattle.ro_journal.specs.declared.Entry.TheVariants.{Put, Part}
use Rattle.ro_journal.specs.declared.Lease.{Lease}
use Rattle.ro_orders.specs.Copies.{Rows}
use Rattle.ro_peer.specs.declared.mutexes.Mutex.{Mutex}
use Rattle.ro_peer.specs.declared.running.Came.{Came}
use Rattle.ro_peer.specs.Gets.{InRows}
use Rattle.ro_legal.specs.Sides.{is_ahead}
use Rattle.ro_legal.specs.Core.{Job}
use Rattle.ro_legal.specs.Modes.{Mode, InMode, in_mode, replay, IsAllowed}
use Rattle.ro_legal.specs.Rules as rules
use Rattle.ro_legal.specs.Cooperative.{gets_from, opening_core}
use Rattle.ro_legal.specs.Cooperative as together
use Rattle.ro_coop_core.specs.declared.seats.Partner.{Partner}
use Rattle.ro_coop_lease.specs.declared.Lent.{Lent}
use Rattle.ro_cores.specs.Loans.{mutexes_in}
use Rattle.ro_audit.specs.declared.follower.Why.{Why}
use Rattle.ro_audit.specs.declared.follower.Why.TheVariants as why
use Rattle.ro_audit.specs.declared.ranks.Rank.{Rank}
use Rattle.ro_audit.specs.declared.returning.Told.{Told}
use Rattle.ro_audit.specs.Audits.{OtherHas, ComesBackBy, RunsSoFar, IsReason, IsRefused, got_in}
use Rattle.ro_audit.specs.Following.{LendsPeer, AreGot, KnowsGot}
use Rattle.ro_audit.specs.Returning.{RunsFor, told_entry, refusal_of}
use Rattle.ro_audit.proofs.Bounded.{IsRun, bounded}
use Rattle.ro_audit.proofs.AsTold.{RunsOtherwise, other_entry}
use Rattle.ro_audit.proofs.Short.{Because, IsTurnedDown}

module _ (job : Job) (journal : List Entry) (mode_is : job.settings.mode ≡ Cooperative) where
  lends-in : (lent : Lent) → LendsPeer job (rules.replay job journal) lent → LendsPeer job (together.replay job journal) lent
  lends-in lent lends = subst (λ (m : Mode). LendsPeer job (replay m job journal) lent) mode_is lends

  -- what was lent, with ceilings of now, and its run
  pub its-run : (lent : Lent) (partner : Partner) {new : Lent} {told : Told} {before after : List (Rank × ℕ)} {most count : ℕ} {came : Came} → LendsPeer job (rules.replay job journal) lent
      → partner.peer ≡ lent.partner.peer → length partner.ceilings.items ≡ length lent.partner.ceilings.items
      → ((number rank : ℕ) (mutex : Mutex) → slice_get lent.partner.peer.mutexes number ≡ Some mutex → rank < 2 ^ 32 → nat_lt rank (slice_index_or partner.ceilings.items number 0) ≡ not (is_ahead (together.replay job journal).sides mutex.address rank))
      → RunsFor most (record { lease = lent.lease; quantum = lent.quantum; partner = partner }) new before after count came → most ≡ min told.count lent.quantum
      → IsRun job journal (record { lease = lent.lease; quantum = lent.quantum; partner = partner }) new told before after most count came
  its-run lent partner {told = told} lends same as_many limits runs few =
      let now = lends-in lent lends in
      record {
        loan = bounded job (together.replay job journal) lent partner now same as_many limits;
        runs = runs;
        most_is = few ∙ ap (λ (n : ℕ). min told.count n) now.quantum_is;
      }

  -- ---- what was got

  -- the rows are what the journal's leases got
  pub got-in : (rows : Rows) → KnowsGot job journal rows → AreGot (mutexes_in job journal) (gets_from job (opening_core job) journal) rows
  got-in rows knows = subst (λ (m : Mode). InMode m ⊤ (AreGot (mutexes_in job journal) (in_mode m [] (gets_from job (opening_core job) journal)) rows)) mode_is knows

  -- and back
  pub in-got : (rows : Rows) → AreGot (mutexes_in job journal) (gets_from job (opening_core job) journal) rows → KnowsGot job journal rows
  in-got rows are = subst (λ (m : Mode). InMode m ⊤ (AreGot (mutexes_in job journal) (in_mode m [] (gets_from job (opening_core job) journal)) rows)) (sym mode_is) are

  -- ---- an entry that is turned down

  module _ (lease : Lease) (told : Told) where
    abbrev ComesIn : Mode → (count hit : ℕ) → Type 0
    ComesIn m count hit = IsAllowed m job (replay m job journal) (Put lease count hit) ⊎ IsAllowed m job (replay m job journal) (Part lease count hit)

    comes-so : (other struck : ℕ) → Because job (together.replay job journal) (gets_from job (opening_core job) journal) lease told (why.Ran other struck) → (waits : Bool)
        → IsReason job (rules.replay job journal) (got_in job journal) (if waits then Part lease told.count told.hit else Put lease told.count told.hit) (why.Ran other struck)
    comes-so other struck because waits = by waits
      where
        may : ComesBackBy job (rules.replay job journal) lease told.count told.hit other struck
        may =
            subst (λ (m : Mode). ComesIn m other struck × ((later faults : ℕ) → ComesIn m later faults → later ≤ other) × ((other ≡ told.count) × (struck ≡ told.hit) → ⊥)) (sym mode_is) because

        by : (waits : Bool) → IsReason job (rules.replay job journal) (got_in job journal) (if waits then Part lease told.count told.hit else Put lease told.count told.hit) (why.Ran other struck)
        by true = may
        by false = may

    others-got : OtherHas job (together.replay job journal) (gets_from job (opening_core job) journal) lease told.count → (waits : Bool)
        → IsReason job (rules.replay job journal) (got_in job journal) (if waits then Part lease told.count told.hit else Put lease told.count told.hit) why.OtherGot
    others-got has waits = by waits
      where
        here : OtherHas job (rules.replay job journal) (got_in job journal) lease told.count
        here = subst (λ (m : Mode). OtherHas job (replay m job journal) (in_mode m [] (gets_from job (opening_core job) journal)) lease told.count) (sym mode_is) has

        by : (waits : Bool) → IsReason job (rules.replay job journal) (got_in job journal) (if waits then Part lease told.count told.hit else Put lease told.count told.hit) why.OtherGot
        by true = here
        by false = here

    is-reason : (reason : Why) → Because job (together.replay job journal) (gets_from job (opening_core job) journal) lease told reason → IsReason job (rules.replay job journal) (got_in job journal) (told_entry lease told) reason
    is-reason (why.Ran other struck) because = comes-so other struck because told.waits
    is-reason why.OtherGot because = others-got because told.waits
    is-reason reason because = absurd because

    -- so it is refused
    pub turned-down-in : (reason : Why) → IsTurnedDown job journal lease told reason → IsRefused job journal (told_entry lease told) reason
    turned-down-in reason down = (
      subst (λ (m : Mode). IsAllowed m job (replay m job journal) (told_entry lease told) → InMode m ⊤ ((rows : Rows) × InRows rows (gets_from job (opening_core job) (journal ++ told_entry lease told ∷ []))) → ⊥) (sym mode_is)
          (λ may joined. down.refuses may joined.0 joined.1),
      is-reason reason down.reason,
    )

    abbrev Otherwise : Mode → (entry other : Entry) → Type 0
    Otherwise m entry other =
        (IsAllowed m job (replay m job journal) entry → ⊥) × (IsAllowed m job (replay m job journal) other ⊎ InMode m ⊥ (RunsSoFar job (replay m job journal) lease told.count told.hit))

    -- it runs so far and does not come back so
    pub untold-in : (reason : Why) → reason ≡ refusal_of told → RunsOtherwise job (together.replay job journal) lease told → IsRefused job journal (told_entry lease told) reason
    untold-in reason is otherwise = (
      λ may joined. here.0 may,
      subst (IsReason job (rules.replay job journal) (got_in job journal) (told_entry lease told)) (sym is) (by told.waits here),
    )
      where
        here : Otherwise job.settings.mode (told_entry lease told) (other_entry lease told)
        here = subst (λ (m : Mode). Otherwise m (told_entry lease told) (other_entry lease told)) (sym mode_is) otherwise

        by : (waits : Bool) → Otherwise job.settings.mode (if waits then Part lease told.count told.hit else Put lease told.count told.hit) (if waits then Put lease told.count told.hit else Part lease told.count told.hit)
            → IsReason job (rules.replay job journal) (got_in job journal) (if waits then Part lease told.count told.hit else Put lease told.count told.hit) (if waits then why.NoPart else why.NoPut)
        by true h = h
        by false h = h
