-- What is lent can run, its run may be put back, and what it got is known.
use Rattle.std.specs.Prelude.{◌≡◌, ℕ, true, not, List, ◌++◌, length, Option, Some, None, slice_get}
use Rattle.std.specs.List.{list_all}
use Rattle.std.specs.Option.{option_and_then, option_map}
use Rattle.std.proofs.Common.{refl, sym, ap, ◌∙◌, subst}
use Rattle.ro_exec.specs.Next.{Layout}
use Rattle.ro_kernel.specs.Kernel.{Kernel}
use Rattle.ro_plain.specs.Machine.{layout_in}
use Rattle.ro_plain.proofs.Calls.{some-injective}
use Rattle.ro_replica.specs.Replica.{Replica}
use Rattle.ro_replica.specs.Seen.{CanCount}
use Rattle.ro_orders.specs.Copies.{Rows}
use Rattle.ro_peer.specs.declared.mutexes.Mutex.{Mutex}
use Rattle.ro_peer.specs.declared.running.Came.{Came}
use Rattle.ro_peer.specs.Peers.{Peer}
use Rattle.ro_peer.specs.Gets.{Get, got_in}
use Rattle.ro_peer.specs.Seen.{peer_of}
use Rattle.ro_peer.specs.Leases.{PeerRuns}
use Rattle.ro_lockpage.specs.Pages.{PassOf}
use Rattle.ro_legal.specs.Sides.{Side, peer_with, is_ahead}
use Rattle.ro_legal.specs.Core.{Job, Core}
use Rattle.ro_legal.specs.Cooperative.{lease_gets, peer_in}
use Rattle.ro_legal.specs.Lent.{IsOfJob}
use Rattle.ro_legal.specs.Kept.{HasPeer, NoFurtherAhead}
use Rattle.ro_legal.proofs.Leases.{out_found}
use Rattle.ro_legal.proofs.Lists.{length-mapped}
use Rattle.ro_legal.proofs.MutexRuns.{run-keeps}
use Rattle.ro_locking.specs.Asking.{known_by, below}
use Rattle.ro_locking.specs.Got.{HasGot, AreBelow}
use Rattle.ro_locking.proofs.Adding.{same_mutexes, gets_more}
use Rattle.ro_locking.proofs.Below.{in_all_rows, are_below}
use Rattle.ro_coop_core.specs.Seen.{RunOf, state, IsLent, MayReturn}
use Rattle.ro_coop_lease.specs.declared.Lent.{Lent}
use Rattle.ro_coop_lease.specs.declared.Back.{Back}
use Rattle.ro_coop_lease.specs.Loans.{CanGo, Gives}
use Rattle.ro_coop_lease.proofs.Ceilings.{all-within}
use Rattle.ro_coop_lease.proofs.Returns.{Returned, returned, gets-are}

-- a run leaves as many mutexes
as-many : (layout : Layout) (watchdog quantum thread : ℕ) (rows : Rows) (old new : Peer) (count : ℕ) (came : Came) → PeerRuns layout watchdog quantum thread rows old new count came → length new.mutexes ≡ length old.mutexes
as-many layout watchdog quantum thread rows old new count came ran =
    ap (λ (p : Peer). length p.mutexes) ran.new_is
    ∙ (ap length (same_mutexes thread came ran.end)
    ∙ (sym (length-mapped (λ (mutex : Mutex). mutex.address) ran.end.mutexes)
    ∙ (ap length (run-keeps layout watchdog count old ran.end thread ran.runs).addresses_are
    ∙ length-mapped (λ (mutex : Mutex). mutex.address) old.mutexes)))

-- a peer has the mutexes of its side
peer-mutexes : (core : Core) (number : ℕ) (peer : Peer) (side : Side) → peer_in core number ≡ Some peer → slice_get core.sides number ≡ Some side → side.mutexes ≡ peer.mutexes
peer-mutexes core number peer side e beside = by (slice_get core.replicas number) e
  where
    by : (o : Option Replica) → option_and_then (λ replica. option_map (peer_with replica) (slice_get core.sides number)) o ≡ Some peer → side.mutexes ≡ peer.mutexes
    by None f = absurd (let g : None ≡ Some peer = f in cc)
    by (Some replica) f = ap (λ (p : Peer). p.mutexes) (some-injective (sym (ap (option_map (peer_with replica)) beside) ∙ f))

module _ (run : RunOf) (lent : Lent) (is : IsLent run lent.lease.replica lent.lease.thread lent.partner) where
  pub can-go : lent.quantum ≡ run.job.settings.quantum → CanGo lent
  can-go quantum = record {
    going = is.going;
    countable = subst (λ (q : ℕ). CanCount q lent.partner.peer.replica lent.lease.thread) (sym quantum) is.countable;
    faultless = is.faultless;
  }

  same-mutexes : is.side.mutexes ≡ lent.partner.peer.mutexes
  same-mutexes = peer-mutexes (state run) lent.lease.replica (peer_of lent.partner.peer) is.side is.peer is.beside

  module _ (back : Back) (old new : PassOf) (gives : Gives lent old back new) where
    abbrev rows : Rows
    rows = below lent.partner.ceilings.items (known_by new)

    abbrev RunsAs : Layout → (watchdog quantum : ℕ) → Type 0
    RunsAs layout watchdog quantum = PeerRuns layout watchdog quantum lent.lease.thread rows (peer_of lent.partner.peer) (peer_of back.partner.peer) back.took.count back.took.came

    -- its run, as one of the job
    runs-in : lent.quantum ≡ run.job.settings.quantum → RunsAs (layout_in run.job.program (state run).kernel) run.job.settings.watchdog run.job.settings.quantum
    runs-in quantum =
        subst (λ (l : Layout). RunsAs l run.job.settings.watchdog run.job.settings.quantum) is.program.layout
        (subst (λ (w : ℕ). RunsAs lent.partner.peer.replica.layout w run.job.settings.quantum) is.program.watchdog
        (subst (λ (q : ℕ). RunsAs lent.partner.peer.replica.layout lent.partner.peer.replica.watchdog q) quantum gives.runs))

    module _ (quantum : lent.quantum ≡ run.job.settings.quantum) (now : RunOf) (same : now.job ≡ run.job) (out : HasPeer (state now) lent.lease.driver lent.lease (state run).kernel (peer_of lent.partner.peer)) (grows : NoFurtherAhead (state run).sides (state now).sides) where
      runs-now : RunsAs (layout_in now.job.program (state now).kernel) now.job.settings.watchdog now.job.settings.quantum
      runs-now =
          subst (λ (k : Kernel). RunsAs (layout_in now.job.program k) now.job.settings.watchdog now.job.settings.quantum) (sym out.kernel_is)
          (subst (λ (j : Job). RunsAs (layout_in j.program (state run).kernel) j.settings.watchdog j.settings.quantum) (sym same) (runs-in quantum))

      program-now : IsOfJob now.job (state now).kernel back.partner.peer.replica
      program-now = record {
        layout = gives.program.layout ∙ (is.program.layout ∙ (ap (λ (j : Job). layout_in j.program (state run).kernel) (sym same) ∙ ap (layout_in now.job.program) (sym out.kernel_is)));
        given = gives.program.given ∙ (is.program.given ∙ ap (λ (k : Kernel). k.given) (sym out.kernel_is));
        watchdog = gives.program.watchdog ∙ (is.program.watchdog ∙ ap (λ (j : Job). j.settings.watchdog) (sym same));
      }

      its-return : Returned now.job (state now) lent.lease (peer_of back.partner.peer) back.took.count back.took.came
      its-return =
          let same_gets = gets-are now.job (state now) lent.lease (peer_of lent.partner.peer) back.took.count out.there in
          let below = are_below lent.partner.peer.mutexes lent.partner.ceilings.items (known_by new) _ runs-now.gets in
          let within = all-within (state run) is.side lent.lease.thread (state now).sides lent.partner.ceilings.items is.ceilings grows _ (subst (λ (ms : List Mutex). AreBelow ms lent.partner.ceilings.items _) (sym same-mutexes) below) in
          subst (λ (p : Peer). Returned now.job (state now) lent.lease p back.took.count back.took.came) (sym runs-now.new_is)
          (returned now.job (state now) lent.lease (peer_of lent.partner.peer) runs-now.end back.took.count out.there runs-now.runs is.going (out_found lent.lease.driver lent.lease (state now).leases out.held) out.not_ended
          (subst (λ (gets : List Get). list_all (λ get. not (is_ahead (state now).sides get.mutex get.rank)) gets ≡ true) (sym same_gets) within)
          back.took.came runs-now.came_by)

      pub may-return : (returns : MayReturn now lent.lease.driver back.partner back.took.count back.took.came) × (returns.lease ≡ lent.lease)
      may-return = (
        record {
          lease = lent.lease;
          held = out.held;
          allowed = its-return.allowed;
          program = program-now;
          became = its-return.became;
          ceilings = ap length gives.ceilings ∙ (is.count ∙ sym (as-many _ _ _ _ _ _ _ _ _ gives.runs));
          within = its-return.within;
          waits = its-return.waits;
        },
        refl,
      )

    -- what it got
    abbrev got : List Get
    got = got_in lent.partner.peer.replica.layout lent.partner.peer.replica.watchdog back.took.count (peer_of lent.partner.peer) lent.lease.thread

    got-is : lease_gets run.job (state run) lent.lease back.took.count ≡ got
    got-is =
        gets-are run.job (state run) lent.lease (peer_of lent.partner.peer) back.took.count is.peer
        ∙ (ap (λ (l : Layout). got_in l run.job.settings.watchdog back.took.count (peer_of lent.partner.peer) lent.lease.thread) (sym is.program.layout)
        ∙ ap (λ (w : ℕ). got_in lent.partner.peer.replica.layout w back.took.count (peer_of lent.partner.peer) lent.lease.thread) (sym is.program.watchdog))

    -- it adds up
    pub adds-up : (gets : List Get) → HasGot lent.partner.peer.mutexes old gets → HasGot lent.partner.peer.mutexes new (gets ++ lease_gets run.job (state run) lent.lease back.took.count)
    adds-up gets has =
        subst (λ (more : List Get). HasGot lent.partner.peer.mutexes new (gets ++ more)) (sym got-is)
        (gets_more lent.partner.peer.mutexes old new gets got has gives.knows (in_all_rows lent.partner.peer.mutexes lent.partner.ceilings.items (known_by new) got gives.runs.gets) gives.wins)
