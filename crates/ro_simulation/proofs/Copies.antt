-- A copy of a replica that agrees agrees too.
use Rattle.std.specs.Prelude.{◌≡◌, ℕ, List, [], ◌∷◌, length, Some}
use Rattle.std.proofs.Common.{refl, sym, ap, ◌∙◌, subst, arith}
use Rattle.ro_thread.specs.declared.Thread.{Thread}
use Rattle.ro_replica.specs.Replica.{Replica, copied_threads, recovered}
use Rattle.ro_replica.specs.Runs.{standing_in}
use Rattle.ro_plain.specs.Machine.{Machine, BackedRun, layout_in}
use Rattle.ro_legal.specs.Core.{Job}
use Rattle.ro_simulation.specs.Invariant.{Agrees}
use Rattle.ro_simulation.proofs.Counts.{counts, same-counts-ahead}
use Rattle.ro_legal.proofs.Copies.{copied-from}

-- a copy has the winner's counts
counts-copied : (winners losers : List Thread) → length winners ≡ length losers → counts (copied_threads winners losers) ≡ counts winners
counts-copied [] losers n = refl
counts-copied (w ∷ winners) [] n = absurd (omega arith)
counts-copied (w ∷ winners) (l ∷ losers) n = ap {B = List ℕ} (λ (r : List ℕ). w.since ∷ r) (counts-copied winners losers (omega arith))

-- a copy of a replica that agrees agrees
pub agrees-recovered : (job : Job) (machine : Machine) (winner loser : Replica) → length winner.threads ≡ length loser.threads → Agrees job machine winner → Agrees job machine (recovered winner loser)
unfolding recovered
agrees-recovered job machine winner loser n h = record {
  runs_ahead = record {
    end = h.runs_ahead.end;
    runs = subst (λ (xs : List ℕ). BackedRun job.program winner.backed machine xs h.runs_ahead.end) (sym (same-counts-ahead _ _ (counts-copied winner.threads loser.threads n))) h.runs_ahead.runs;
    same_memory = h.runs_ahead.same_memory;
    same_cpus = λ number thread alive e. let c = copied-from winner.threads loser.threads number thread e in
        h.runs_ahead.same_cpus number c.from alive c.there ∙ ap (λ (y : Thread). Some y.cpu) c.is;
  };
  stops = λ number. record {
    stands = λ thread stop alive e stopped. let c = copied-from winner.threads loser.threads number thread e in
        subst (λ (y : Thread). y.stop ≡ Some stop → standing_in (layout_in job.program machine.kernel) job.settings.watchdog winner y ≡ Some stop) c.is ((h.stops number).stands c.from stop alive c.there) stopped;
  };
}
