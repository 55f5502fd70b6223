-- Every replica of a run gets each mutex that it answers for in the order of the rows, races or not.
use Rattle.std.specs.Prelude.{◌≡◌, ℕ, zero, suc, ◌+◌, List, [], ◌∷◌, replicate, Option, Some, None, slice_get}
use Rattle.std.specs.Option.{option_and_then, option_map, option_map_or}
use Rattle.std.proofs.Common.{refl, sym, ap, ◌∙◌, subst, arith}
use Rattle.ro_event.specs.declared.stops.Stop.{Stop}
use Rattle.ro_event.specs.declared.stops.Stop.TheVariants.{Calls}
use Rattle.ro_journal.specs.declared.Lease.{Lease}
use Rattle.ro_journal.specs.declared.Entry.{Entry}
use Rattle.ro_journal.specs.declared.Entry.TheVariants.{Take, Put, Part, Vote, Free, Scrub, End}
use Rattle.ro_exec.specs.Next.{Layout}
use Rattle.ro_replica.specs.Replica.{Replica}
use Rattle.ro_plain.specs.Machine.{layout_in}
use Rattle.ro_plain.proofs.Calls.{some-injective}
use Rattle.ro_orders.specs.Choices.{chosen_of}
use Rattle.ro_orders.specs.Copies.{Rows}
use Rattle.ro_peer.specs.Peers.{Peer}
use Rattle.ro_peer.specs.Gets.{Get, got_in, InRows}
use Rattle.ro_legal.specs.Core.{Job as Asked, Core as Run}
use Rattle.ro_legal.specs.declared.parkings.Parking.{Parking}
use Rattle.ro_legal.specs.Sides.{Side, opening_side, peer_with, threads_of, rank_in}
use Rattle.ro_legal.specs.Event.{Event}
use Rattle.ro_legal.specs.Cooperative as rules
use Rattle.ro_legal.proofs.Lists.{MappedFrom, get-map, ChangedFrom, unchanged, changed_here, get-changed}
use Rattle.ro_legal.proofs.TogetherRuns.{LentParts, lent-parts}
use Rattle.ro_coop.proofs.Rowless.{in-front, run-so}
use Rattle.ro_coop.proofs.Taken.{AllInTurn}
use Rattle.ro_coop.proofs.Turns.{InTurn, nothing-got, turn-append, run-turn, entered-rank}

-- ---- a lease

module _ (job : Asked) (rows : Rows) (core : Run) (turns : AllInTurn rows core.sides) (lease : Lease) (count : ℕ) (last : Peer) (p : LentParts job core lease count last) (in_rows : InRows rows (rules.lease_gets job core lease count)) where
  abbrev layout : Layout
  layout = layout_in job.program core.kernel

  abbrev got_here : Option Peer → List Get
  got_here o = option_map_or (λ peer. got_in layout job.settings.watchdog count peer lease.thread) o []

  gets-are : rules.lease_gets job core lease count ≡ got_in layout job.settings.watchdog count (peer_with p.lent p.side) lease.thread
  gets-are =
      ap (λ (o : Option Replica). got_here (option_and_then (λ (replica : Replica). option_map (peer_with replica) (slice_get core.sides lease.replica)) o)) p.there
      ∙ ap (λ (o : Option Side). got_here (option_map (peer_with p.lent) o)) p.beside

  ran-turn : (m : ℕ) → InTurn rows m (rank_in p.side.mutexes m) (rank_in last.mutexes m) (rules.lease_gets job core lease count)
  ran-turn m = subst (InTurn rows m (rank_in p.side.mutexes m) (rank_in last.mutexes m)) (sym gets-are)
      (run-turn layout rows job.settings.watchdog count (peer_with p.lent p.side) last lease.thread m
      (run-so layout rows job.settings.watchdog count (peer_with p.lent p.side) last lease.thread p.runs (subst (InRows rows) gets-are in_rows)))

  lease-followed : (stop : Option Stop) (parking : Option Parking) → AllInTurn rows (rules.core_after_lease core lease last (rules.lease_gets job core lease count) stop parking).sides
  lease-followed stop parking n side e m = by (get-changed (rules.side_after lease.thread last (rules.lease_gets job core lease count) parking) core.sides lease.replica n side e)
    where
      by : ChangedFrom (rules.side_after lease.thread last (rules.lease_gets job core lease count) parking) core.sides lease.replica n side → InTurn rows m 0 (rank_in side.mutexes m) side.gets
      by (unchanged d f) = turns n side f m
      by (changed_here x same f is) =
          let its : p.side ≡ x = some-injective (sym p.beside ∙ (ap (slice_get core.sides) (sym same) ∙ f)) in
          subst (λ (s : Side). InTurn rows m 0 (rank_in s.mutexes m) s.gets) is
          (turn-append rows m 0 (rank_in x.mutexes m) (rank_in last.mutexes m) x.gets (rules.lease_gets job core lease count) (turns n x f m)
          (subst (λ (s : Side). InTurn rows m (rank_in s.mutexes m) (rank_in last.mutexes m) (rules.lease_gets job core lease count)) its (ran-turn m)))

-- ---- an event

module _ (job : Asked) (rows : Rows) (core : Run) (turns : AllInTurn rows core.sides) (thread : ℕ) (stop : Option Stop) where
  served-followed : (event : Event) → AllInTurn rows (rules.core_after job (rules.settled core thread) thread stop event).sides
  served-followed event n side e m =
      let f : MappedFrom (rules.side_served thread (rules.entered_by (chosen_of job.program) (rules.kernel_for core thread) event.kernel stop)) core.sides n side = get-map _ core.sides n side e in
      subst (λ (s : Side). InTurn rows m 0 (rank_in s.mutexes m) s.gets) f.gives
      (subst (λ (rank : ℕ). InTurn rows m 0 rank f.from.gets) (sym (entered-rank (chosen_of job.program) (rules.kernel_for core thread) event.kernel stop f.from.mutexes m)) (turns n f.from f.there m))

  event-followed : (o : Option Event) → AllInTurn rows (rules.core_after_event job core thread stop o).sides
  event-followed None = turns
  event-followed (Some event) = served-followed event

-- ---- a journal

entry-followed : (job : Asked) (rows : Rows) (core : Run) → AllInTurn rows core.sides → (entry : Entry) → rules.IsAllowed job core entry → InRows rows (rules.gets_of job core entry) → AllInTurn rows (rules.after job core entry).sides
unfolding rules.after
entry-followed job rows core turns (Take lease) m h = turns
entry-followed job rows core turns (Put lease count hit) m h =
    subst (λ (o : Option Peer). AllInTurn rows (rules.core_after_put job core lease count o).sides) (sym m.ran.runs)
    (lease-followed job rows core turns lease count m.ran.peer (lent-parts job core lease count m.ran.peer m.ran.runs) h (rules.arrival job core.kernel lease.thread count m.ran.peer) None)
entry-followed job rows core turns (Part lease count hit) m h =
    subst (λ (o : Option Peer). AllInTurn rows (rules.core_after_part job core lease count o).sides) (sym m.ran.runs)
    (lease-followed job rows core turns lease count m.ran.peer (lent-parts job core lease count m.ran.peer m.ran.runs) h None (rules.parking_of job core.kernel lease.thread m.ran.peer))
entry-followed job rows core turns (Vote thread count won lost did) m h = event-followed job rows core turns thread (rules.voted_stop core thread) (rules.voted_event job core thread)
entry-followed job rows core turns (Free thread) m h = event-followed job rows core turns thread (option_map Calls (core.blocked thread)) (rules.freed_event job core thread)
entry-followed job rows core turns (Scrub won lost) m h = absurd m
entry-followed job rows core turns (End how) m h = turns

journal-followed : (job : Asked) (rows : Rows) (core : Run) → AllInTurn rows core.sides → (journal : List Entry) → rules.LegalFrom job core journal → InRows rows (rules.gets_from job core journal) → AllInTurn rows (rules.replay_from job core journal).sides
journal-followed job rows core turns [] legal h = turns
journal-followed job rows core turns (entry ∷ journal) legal h =
    let parts = in-front rows (rules.gets_of job core entry) _ h in
    journal-followed job rows (rules.after job core entry) (entry-followed job rows core turns entry legal.0 parts.0) journal legal.1 parts.1

opening-followed : (job : Asked) (rows : Rows) → AllInTurn rows (rules.opening_core job).sides
unfolding rules.opening_core
opening-followed job rows n side e m = subst (λ (s : Side). InTurn rows m 0 (rank_in s.mutexes m) s.gets) (from job.settings.replicas n e) (nothing-got rows m 0 0 refl)
  where
    from : (k i : ℕ) → slice_get (replicate k opening_side) i ≡ Some side → opening_side ≡ side
    from zero i f = absurd (let g : None ≡ Some side = f in cc)
    from (suc k) zero f = some-injective f
    from (suc k) (suc i) f = from k i f

pub follows-rows : (job : Asked) (rows : Rows) (journal : List Entry) → rules.Legal job journal → InRows rows (rules.gets_from job (rules.opening_core job) journal)
    → (number : ℕ) (side : Side) → slice_get (rules.replay job journal).sides number ≡ Some side → (mutex rank thread : ℕ) → slice_get (threads_of mutex side.gets) rank ≡ Some thread → rows mutex rank ≡ Some thread
follows-rows job rows journal legal h number side there mutex rank thread e =
    ap (rows mutex) (from-none rank) ∙ (journal-followed job rows (rules.opening_core job) (opening-followed job rows) journal legal h number side there mutex).each rank thread e
  where
    from-none : (n : ℕ) → n ≡ 0 + n
    from-none n = omega arith
