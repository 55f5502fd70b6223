-- In a cooperative run a mutex's rank only grows in each replica, so what may be got may be got from then on.
use Rattle.std.specs.Prelude.{◌≡◌, ℕ, ◌+◌, ◌≤◌, false, nat_le, List, [], ◌∷◌, ◌++◌, map, Option, Some, None, slice_get}
use Rattle.std.proofs.Common.{sym, ap, ◌∙◌, subst, arith}
use Rattle.std.proofs.lemmas.Bool.{lt-leb, leb-false}
use Rattle.ro_event.specs.declared.stops.Stop.{Stop}
use Rattle.ro_journal.specs.declared.Entry.{Entry}
use Rattle.ro_journal.specs.declared.Entry.TheVariants.{Take, Put, Part, Vote, Free, Scrub, End}
use Rattle.ro_journal.specs.declared.Lease.{Lease}
use Rattle.ro_orders.specs.Choices.{chosen_of}
use Rattle.ro_peer.specs.Peers.{Peer}
use Rattle.ro_legal.specs.Sides.{Parking, Side, rank_in, most_apart}
use Rattle.ro_legal.specs.Core.{Job, Core}
use Rattle.ro_legal.specs.Event.{Event}
use Rattle.ro_legal.specs.Kept.{NoFurtherAhead}
use Rattle.ro_legal.specs.Cooperative.{opening_core, lease_gets, arrival, parking_of, kernel_for, entered_by, side_after, side_served, core_after_lease, core_after_put, core_after_part, voted_stop, voted_event, freed_event, core_after_event, after, Ran, IsAllowed, Legal, replay}
use Rattle.ro_legal.proofs.Lists.{MappedFrom, get-map, ChangedFrom, unchanged, changed_here, get-changed, get-none, none-from}
use Rattle.ro_legal.proofs.MutexRuns.{LeaseParts, lease-parts}
use Rattle.ro_legal.proofs.MutexEvents.{entered-rank}
use Rattle.ro_legal.proofs.TogetherJournals.{LegalFrom-parts, replay_more}

-- a replica's ranks are no less than they were
record Grown (before : List Side) (number : ℕ) (side : Side) : Type 0 where
  was : Side
  there : slice_get before number ≡ Some was
  grows : (address : ℕ) → rank_in was.mutexes address ≤ rank_in side.mutexes address

-- so what is not too far ahead stays so
no-further : (before after : List Side) → ((number : ℕ) (side : Side) → slice_get after number ≡ Some side → Grown before number side) → NoFurtherAhead before after
no-further before after grown address rank e = none-from (λ (side : Side). nat_le (rank_in side.mutexes address + most_apart) rank) after by
  where
    by : (number : ℕ) (side : Side) → slice_get after number ≡ Some side → nat_le (rank_in side.mutexes address + most_apart) rank ≡ false
    by number side f =
        let g = grown number side f in
        let low = leb-false (rank_in g.was.mutexes address + most_apart) rank (get-none (λ (s : Side). nat_le (rank_in s.mutexes address + most_apart) rank) before e number g.was g.there) in
        let more = g.grows address in
        lt-leb (rank_in side.mutexes address + most_apart) rank (omega arith)

-- a lease that came back
lease-grows : (job : Job) (core : Core) (lease : Lease) (count : ℕ) (ran : Ran job core lease count) (stop : Option Stop) (parking : Option Parking)
    → NoFurtherAhead core.sides (core_after_lease core lease ran.peer (lease_gets job core lease count) stop parking).sides
lease-grows job core lease count ran stop parking = no-further core.sides _ (λ number side e. by number side (get-changed changes core.sides lease.replica number side e))
  where
    changes : Side → Side
    changes = side_after lease.thread ran.peer (lease_gets job core lease count) parking

    parts : LeaseParts job core lease count ran.peer
    parts = lease-parts job core lease count ran.peer ran.runs

    by : (number : ℕ) (side : Side) → ChangedFrom changes core.sides lease.replica number side → Grown core.sides number side
    by number side (unchanged d f) = record { was = side; there = f; grows = λ address. omega arith }
    by number side (changed_here x same f is) = record {
      was = parts.side;
      there = ap (slice_get core.sides) same ∙ parts.beside;
      grows = λ address.
          let more = parts.keeps.grows address in
          let own : rank_in side.mutexes address ≡ rank_in ran.peer.mutexes address = ap (λ (s : Side). rank_in s.mutexes address) (sym is) in
          omega arith;
    }

-- an event
event-grows : (job : Job) (core : Core) (thread : ℕ) (stop : Option Stop) (event : Option Event) → NoFurtherAhead core.sides (core_after_event job core thread stop event).sides
event-grows job core thread stop None = λ address rank e. e
event-grows job core thread stop (Some event) = no-further core.sides _ by
  where
    serves : Side → Side
    serves = side_served thread (entered_by (chosen_of job.program) (kernel_for core thread) event.kernel stop)

    by : (number : ℕ) (side : Side) → slice_get (map serves core.sides) number ≡ Some side → Grown core.sides number side
    by number side e =
        let from : MappedFrom serves core.sides number side = get-map serves core.sides number side e in
        record {
          was = from.from;
          there = from.there;
          grows = λ address.
              let same = entered-rank (chosen_of job.program) (kernel_for core thread) event.kernel stop from.from.mutexes address in
              let own : rank_in side.mutexes address ≡ rank_in (serves from.from).mutexes address = ap (λ (s : Side). rank_in s.mutexes address) (sym from.gives) in
              omega arith;
        }

-- each entry
ranks-after : (job : Job) (core : Core) (entry : Entry) → IsAllowed job core entry → NoFurtherAhead core.sides (after job core entry).sides
unfolding after
ranks-after job core (Take lease) m = λ address rank e. e
ranks-after job core (Put lease count hit) m =
    subst (λ (o : Option Peer). NoFurtherAhead core.sides (core_after_put job core lease count o).sides) (sym m.ran.runs)
    (lease-grows job core lease count m.ran (arrival job core.kernel lease.thread count m.ran.peer) None)
ranks-after job core (Part lease count hit) m =
    subst (λ (o : Option Peer). NoFurtherAhead core.sides (core_after_part job core lease count o).sides) (sym m.ran.runs)
    (lease-grows job core lease count m.ran None (parking_of job core.kernel lease.thread m.ran.peer))
ranks-after job core (Vote thread count won lost did) m = event-grows job core thread (voted_stop core thread) (voted_event job core thread)
ranks-after job core (Free thread) m = event-grows job core thread _ (freed_event job core thread)
ranks-after job core (Scrub won lost) m = absurd m
ranks-after job core (End how) m = λ address rank e. e

-- and so in a legal journal
pub ranks-grow : (job : Job) (journal : List Entry) (entry : Entry) → Legal job (journal ++ entry ∷ []) → NoFurtherAhead (replay job journal).sides (replay job (journal ++ entry ∷ [])).sides
ranks-grow job journal entry legal =
    let parts = LegalFrom-parts job (opening_core job) journal (entry ∷ []) legal in
    subst (λ (c : Core). NoFurtherAhead (replay job journal).sides c.sides) (sym (replay_more job journal entry))
    (ranks-after job (replay job journal) entry parts.1.0)
