-- Where no scrubs are asked for none comes next.
use Rattle.std.proofs.Common.{◌≡◌, ℕ, ◌+◌, Bool, true, false, not, ◌&&◌, ◌==◌, length, Option, Some, None, refl, sym, ap, subst}
use Rattle.std.specs.Prelude.{is_some, if◌then◌else◌, nat_le}
use Rattle.std.specs.Option.{option_and_then}
use Rattle.ro_journal.specs.declared.How.{How}
use Rattle.ro_journal.specs.declared.How.TheVariants.{Deadlock}
use Rattle.ro_legal.specs.declared.actions.Action.{Action}
use Rattle.ro_legal.specs.declared.actions.Action.TheVariants.{Vote as DoVote, Free as DoFree, Scrub as DoScrub, Lend, End as DoEnd, Wait}
use Rattle.ro_legal.specs.Core.{Job, Core, nothing_lent, is_lendable, may_vote}
use Rattle.ro_legal.specs.Action.{or_else, lowest_below, map_action, threads_made, lend_in, lend_next, turn_next, turn_of, urgent_next, first_freed, first_action, action_or, is_scrub_due, next_action}
use Rattle.ro_legal.proofs.Nexts.{next_over, next_due, next_first}

abbrev IsOther : Action → Type 0
IsOther DoScrub = ⊥
IsOther _ = Unit {0}

abbrev IfOther : Option Action → Type 0
IfOther None = Unit {0}
IfOther (Some action) = IsOther action

other-mapped : (f : ℕ → Action) → ((n : ℕ) → IsOther (f n)) → (o : Option ℕ) → IfOther (map_action f o)
other-mapped f all None = tt
other-mapped f all (Some n) = all n

other-or : (one another : Option Action) → IfOther one → IfOther another → IfOther (or_else one another)
other-or None another is more = more
other-or (Some action) another is more = is

other-lent : (core : Core) (o : Option ℕ) → IfOther (lend_in core o)
other-lent core None = tt
other-lent core (Some replica) = other-mapped (λ thread. Lend replica thread) (λ thread. tt) (lowest_below (threads_made core) (is_lendable core replica))

other-turn : (core : Core) → IfOther (turn_next core)
other-turn core = other-or (map_action DoVote (lowest_below (threads_made core) (may_vote core))) (lend_next core) (other-mapped DoVote (λ thread. tt) (lowest_below (threads_made core) (may_vote core))) (other-lent core _)

other-own : (core : Core) (thread : ℕ) → IfOther (turn_of core thread)
other-own core thread = by (may_vote core thread)
  where
    lease : Option Action
    lease = map_action (λ replica. Lend replica thread) (lowest_below (length core.replicas) (λ replica. is_lendable core replica thread))

    by : (b : Bool) → IfOther (if b then Some (DoVote thread) else lease)
    by true = tt
    by false = other-mapped (λ replica. Lend replica thread) (λ replica. tt) (lowest_below (length core.replicas) (λ replica. is_lendable core replica thread))

other-urgent : (core : Core) (o : Option ℕ) → IfOther (option_and_then (turn_of core) o)
other-urgent core None = tt
other-urgent core (Some thread) = other-own core thread

other-first : (job : Job) (core : Core) → IfOther (first_action job core)
other-first job core =
    other-or (map_action DoFree (first_freed job core)) _ (other-mapped DoFree (λ thread. tt) (first_freed job core))
    (other-or (urgent_next core) (turn_next core) (other-urgent core _) (other-turn core))

other-else : (b : Bool) (o : Option Action) → IfOther o → IsOther (action_or (if b then DoEnd Deadlock else Wait) o)
other-else true None is = tt
other-else false None is = tt
other-else b (Some action) is = is

module _ (job : Job) (core : Core) (none : job.settings.scrub ≡ 0) where
  rests : is_scrub_due job core ≡ false
  rests = ap (λ (n : ℕ). not (n == 0) && nat_le (core.scrubbed + n) core.steps) none

  other-next : IsOther (next_action job core)
  other-next = by (is_some core.ended) refl
    where
      by-due : is_some core.ended ≡ false → (due : Option How) → core.due ≡ due → IsOther (next_action job core)
      by-due still (Some how) is = subst IsOther (sym (next_due job core how still is)) tt
      by-due still None is = subst IsOther (sym (next_first job core still is rests)) (other-else (nothing_lent core) (first_action job core) (other-first job core))

      by : (b : Bool) → is_some core.ended ≡ b → IsOther (next_action job core)
      by true is = subst IsOther (sym (next_over job core is)) tt
      by false is = by-due is core.due refl

  pub no-scrub : next_action job core ≡ DoScrub → ⊥
  no-scrub next = subst IsOther next other-next
