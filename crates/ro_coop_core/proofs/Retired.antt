-- What a lease's run retires: so many instructions of its thread, and none of another; and what was retired in any replica at the most.
use Rattle.std.specs.Prelude.{◌≡◌, ◌≢◌, ℕ, zero, suc, ◌+◌, ◌<◌, ◌≤◌, max, List, [], ◌∷◌, Option, Some, None, slice_get, slice_set}
use Rattle.std.specs.Option.{option_map_or}
use Rattle.std.proofs.Common.{refl, sym, ap, ◌∙◌, subst, arith}
use Rattle.std.proofs.lemmas.Option.{option_and_then_some}
use Rattle.ro_event.specs.declared.stops.Stop.{Stop}
use Rattle.ro_exec.specs.Next.{Layout}
use Rattle.ro_thread.specs.declared.Thread.{Thread}
use Rattle.ro_kernel.proofs.Kept.{slice_get-set_other}
use Rattle.ro_replica.specs.Replica.{Replica, changed_at}
use Rattle.ro_replica.specs.Runs.{with_stop}
use Rattle.ro_plain.proofs.Calls.{some-injective}
use Rattle.ro_orders.specs.Copies.{Rows}
use Rattle.ro_peer.specs.Peers.{Peer, leased, leased_run}
use Rattle.ro_legal.specs.Cooperative.{stopped, done_in, most_done}
use Rattle.ro_legal.proofs.Lists.{get-set-same}
use Rattle.ro_legal.proofs.TogetherRuns.{GoesOn, moved, goes-on}

-- ---- a run

done-is : (replica : Replica) (u : ℕ) (thread : Thread) → slice_get replica.threads u ≡ Some thread → done_in replica u ≡ thread.done
done-is replica u thread e = ap (λ (o : Option Thread). option_map_or (λ (t : Thread). t.done) o 0) e

-- so many instructions of one thread were retired
pub record Retires (number count : ℕ) (before after : Replica) : Type 0 where
  pub others : (u : ℕ) → u ≢ number → done_in after u ≡ done_in before u
  pub more : done_in after number ≡ done_in before number + count

step-retires : (watchdog number : ℕ) (before after : Replica) → GoesOn watchdog number before after → Retires number 1 before after
step-retires watchdog number before after step = record {
  others = λ u d. ap (λ (ts : List Thread). option_map_or (λ (t : Thread). t.done) (slice_get ts u) 0) step.threads_are
      ∙ ap (λ (o : Option Thread). option_map_or (λ (t : Thread). t.done) o 0) (slice_get-set_other before.threads number u (moved step.thread step.cpu) (λ e. d (sym e)));
  more =
      let now : done_in after number ≡ step.thread.done + 1 =
      done-is after number (moved step.thread step.cpu) (ap (λ (ts : List Thread). slice_get ts number) step.threads_are ∙ get-set-same before.threads number step.thread (moved step.thread step.cpu) step.there)
      in
      let old = done-is before number step.thread step.there in
      omega arith;
}

pub run-retires : (layout : Layout) (rows : Rows) (watchdog number count : ℕ) (peer last : Peer) → leased_run layout rows watchdog count peer number ≡ Some last → Retires number count peer.replica last.replica
run-retires layout rows watchdog number zero peer last e = subst (λ (p : Peer). Retires number 0 peer.replica p.replica) (some-injective e) (record { others = λ u d. refl; more = omega arith })
run-retires layout rows watchdog number (suc n) peer last e =
    option_and_then_some (λ after. leased_run layout rows watchdog n after number) (leased layout rows watchdog peer number) last e (λ next f g. both next (step-retires watchdog number peer.replica next.replica (goes-on layout rows watchdog peer number next f)) (run-retires layout rows watchdog number n next last g))
  where
    both : (next : Peer) → Retires number 1 peer.replica next.replica → Retires number n next.replica last.replica → Retires number (suc n) peer.replica last.replica
    both next one rest = record {
      others = λ u d. rest.others u d ∙ one.others u d;
      more = let a = one.more in let b = rest.more in omega arith;
    }

-- a stop retires nothing
pub stopped-done : (t : ℕ) (stop : Option Stop) (replica : Replica) (u : ℕ) → done_in (stopped t stop replica) u ≡ done_in replica u
stopped-done t stop replica u = by replica.threads t u
  where
    by : (threads : List Thread) (t u : ℕ) → option_map_or (λ (x : Thread). x.done) (slice_get (changed_at (with_stop stop) threads t) u) 0 ≡ option_map_or (λ (x : Thread). x.done) (slice_get threads u) 0
    by [] t u = refl
    by (x ∷ threads) zero zero = refl
    by (x ∷ threads) zero (suc u) = refl
    by (x ∷ threads) (suc t) zero = refl
    by (x ∷ threads) (suc t) (suc u) = by threads t u

-- who has retired something is there
pub retired-there : (replica : Replica) (u : ℕ) → 0 < done_in replica u → (thread : Thread) × (slice_get replica.threads u ≡ Some thread)
retired-there replica u = by (slice_get replica.threads u) refl
  where
    by : (o : Option Thread) → slice_get replica.threads u ≡ o → 0 < option_map_or (λ (t : Thread). t.done) o 0 → (thread : Thread) × (slice_get replica.threads u ≡ Some thread)
    by None e less = absurd (omega arith)
    by (Some thread) e less = (thread, e)

-- ---- in any replica

max-swap : (a b c : ℕ) → a ≤ c → max c b ≡ max (max a b) c
max-swap a b c h = grind arith

max-over : (a b c : ℕ) → max a (max b c) ≡ max (max a b) c
max-over a b c = grind arith

-- one replica has retired more
pub most-more : (replicas : List Replica) (number : ℕ) (old new : Replica) (u : ℕ) → slice_get replicas number ≡ Some old → done_in old u ≤ done_in new u → most_done (slice_set replicas number new) u ≡ max (most_done replicas u) (done_in new u)
most-more [] number old new u e less = absurd (let f : None ≡ Some old = e in cc)
most-more (r ∷ replicas) zero old new u e less = max-swap (done_in r u) (most_done replicas u) (done_in new u) (subst (λ (x : Replica). done_in x u ≤ done_in new u) (sym (some-injective e)) less)
most-more (r ∷ replicas) (suc number) old new u e less = ap (max (done_in r u)) (most-more replicas number old new u e less) ∙ max-over (done_in r u) (most_done replicas u) (done_in new u)

-- one replica has retired as much
pub most-same : (replicas : List Replica) (number : ℕ) (old new : Replica) (u : ℕ) → slice_get replicas number ≡ Some old → done_in new u ≡ done_in old u → most_done (slice_set replicas number new) u ≡ most_done replicas u
most-same [] number old new u e same = refl
most-same (r ∷ replicas) zero old new u e same = ap (λ (n : ℕ). max n (most_done replicas u)) (same ∙ ap (λ (x : Replica). done_in x u) (sym (some-injective e)))
most-same (r ∷ replicas) (suc number) old new u e same = ap (max (done_in r u)) (most-same replicas number old new u e same)
