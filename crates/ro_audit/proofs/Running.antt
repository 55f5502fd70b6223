-- A run of what was lent, and where it stands.
use Rattle.std.specs.Prelude.{◌≡◌, ◌≢◌, ◌≤◌, ◌<◌, ℕ, Bool, true, false, List, is_some}
use mathlib.Core.Logic.{inl, inr}
use mathlib.Core.Bool.{not, beq}
use Rattle.std.proofs.Common.{refl, sym, ap, ◌∙◌, subst, arith}
use Rattle.ro_exec.specs.Next.{Layout}
use Rattle.ro_peer.specs.declared.running.Came.{Came}
use Rattle.ro_peer.specs.declared.running.Came.TheVariants.{Quantum}
use Rattle.ro_peer.specs.Gets.{Get, got_in}
use Rattle.ro_peer.specs.Seen.{peer_of}
use Rattle.ro_peer.specs.Leases.{PeerRuns, KeepsRows, Wins, waiting_at}
use Rattle.ro_locking.specs.Asking.{below}
use Rattle.ro_coop_lease.specs.declared.Lent.{Lent}
use Rattle.ro_audit.specs.declared.ranks.Rank.{Rank}
use Rattle.ro_audit.specs.declared.returning.Told.{Told}
use Rattle.ro_audit.specs.Ranks.{rows_in, won_in}
use Rattle.ro_audit.specs.Returning.{SameLoan, RunsFor, Looks, IsUntold}

-- ---- a run

-- by locks that began with the same ranks and ended with the same, below the same ceilings
pub runs-for : (most : ℕ) (old new : Lent) (before after first last : List (Rank × ℕ)) (ceilings : List ℕ) (count : ℕ) (came : Came) → SameLoan old new → ceilings ≡ old.partner.ceilings.items → first ≡ before → after ≡ last
    → PeerRuns old.partner.peer.replica.layout old.partner.peer.replica.watchdog most old.lease.thread (below ceilings (rows_in last)) (peer_of old.partner.peer) (peer_of new.partner.peer) count came
    → KeepsRows (rows_in first) (rows_in last)
    → Wins (won_in first) (won_in last) old.partner.peer.mutexes (got_in old.partner.peer.replica.layout old.partner.peer.replica.watchdog count (peer_of old.partner.peer) old.lease.thread)
    → RunsFor most old new before after count came
runs-for most old new before after first last ceilings count came same limits begins ends runs keeps wins = record {
  same = same;
  runs = subst (λ (ranks : List (Rank × ℕ)). PeerRuns layout watchdog most old.lease.thread (below old.partner.ceilings.items (rows_in ranks)) (peer_of old.partner.peer) (peer_of new.partner.peer) count came) (sym ends)
      (subst (λ (c : List ℕ). PeerRuns layout watchdog most old.lease.thread (below c (rows_in last)) (peer_of old.partner.peer) (peer_of new.partner.peer) count came) limits runs);
  keeps = subst (λ (ranks : List (Rank × ℕ)). KeepsRows (rows_in before) (rows_in ranks)) (sym ends) (subst (λ (ranks : List (Rank × ℕ)). KeepsRows (rows_in ranks) (rows_in last)) begins keeps);
  wins = subst (λ (ranks : List (Rank × ℕ)). Wins (won_in before) (won_in ranks) old.partner.peer.mutexes gets) (sym ends) (subst (λ (ranks : List (Rank × ℕ)). Wins (won_in ranks) (won_in last) old.partner.peer.mutexes gets) begins wins);
}
  where
    layout : Layout
    layout = old.partner.peer.replica.layout

    watchdog : ℕ
    watchdog = old.partner.peer.replica.watchdog

    gets : List Get
    gets = got_in layout watchdog count (peer_of old.partner.peer) old.lease.thread

-- ---- where it stands

-- what a test of two that are not the same tells
pub differs : (one other : Bool) → not (beq one other) ≡ true → one ≢ other
differs one other differ same = by one other differ same
  where
    by : (one other : Bool) → not (beq one other) ≡ true → one ≡ other → ⊥
    by true true e f = absurd (let g : false ≡ true = e in cc)
    by false false e f = absurd (let g : false ≡ true = e in cc)
    by true false e f = absurd (let g : true ≡ false = f in cc)
    by false true e f = absurd (let g : false ≡ true = f in cc)

-- it goes on
pub goes-on : (told : Told) (old new : Lent) (count : ℕ) (came : Came) → told.count < old.quantum → Looks old new count came → count ≢ 0 → IsUntold told old
goes-on told old new count came less looks more = inr (inr (less, new, count, came, looks, inl more))

-- it comes back by something else
pub comes-otherwise : (told : Told) (old new : Lent) (count : ℕ) (came last : Came) (waits : Bool) → told.count < old.quantum → Looks old new count came → last ≡ came → waits ≡ is_some (waiting_at last) → waits ≢ told.waits → IsUntold told old
comes-otherwise told old new count came last waits less looks same is other =
    inr (inr (less, new, count, came, looks, inr (λ e. other (is ∙ (ap (λ (c : Came). is_some (waiting_at c)) same ∙ e)))))

-- it waits nowhere behind a whole quantum
pub waits-nowhere : (told : Told) (old : Lent) (last : Came) (waits : Bool) → told.count ≤ old.quantum → old.quantum ≤ told.count → last ≡ Quantum → waits ≡ is_some (waiting_at last) → waits ≢ told.waits → IsUntold told old
waits-nowhere told old last waits within whole same is other =
    inr (inl (omega arith, by told.waits (λ e. other (is ∙ (ap (λ (c : Came). is_some (waiting_at c)) same ∙ e)))))
  where
    by : (b : Bool) → (false ≡ b → ⊥) → b ≡ true
    by true h = refl
    by false h = absurd (h refl)
