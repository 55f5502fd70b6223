-- Parts of a run, one behind the other.
use Rattle.std.specs.Prelude.{◌≡◌, ℕ, ◌+◌, ◌-◌, ◌<◌, ◌≤◌, List, [], ◌∷◌, ◌++◌, Option, Some, None, IsTrue}
use Rattle.std.specs.Option.{option_and_then}
use Rattle.std.proofs.Common.{refl, sym, ap, ◌∙◌, subst, arith}
use Rattle.ro_exec.specs.Next.{Layout}
use Rattle.ro_replica.specs.Views.{is_unstopped}
use Rattle.ro_replica.specs.Seen.{ReplicaOf, SameProgram}
use Rattle.ro_orders.specs.Copies.{Rows}
use Rattle.ro_peer.specs.declared.mutexes.Mutex.{Mutex}
use Rattle.ro_peer.specs.declared.running.Came.{Came}
use Rattle.ro_peer.specs.declared.running.Came.TheVariants.{Quantum, Stopped, Owned, Row, Full}
use Rattle.ro_peer.specs.Peers.{Peer}
use Rattle.ro_peer.specs.Gets.{Get, InRows, asker, got_in}
use Rattle.ro_peer.specs.Seen.{number_of, by_address}
use Rattle.ro_peer.specs.Leases.{CameBy, PeerRuns, KeepsRows, IsUnderWay, GoesOn}
use Rattle.ro_peer.proofs.Steps.{Kept, run_kept, run_then}

-- ---- rows

pub in_more_rows : (one two : Rows) (gets : List Get) → ((address rank thread : ℕ) → one address rank ≡ Some thread → two address rank ≡ Some thread) → InRows one gets → InRows two gets
in_more_rows one two [] more in_rows = tt
in_more_rows one two (get ∷ gets) more in_rows = (more get.mutex get.rank get.thread in_rows.0, in_more_rows one two gets more in_rows.1)

pub in_rows_both : (rows : Rows) (one two : List Get) → InRows rows one → InRows rows two → InRows rows (one ++ two)
in_rows_both rows [] two first rest = rest
in_rows_both rows (get ∷ one) two first rest = (first.0, in_rows_both rows one two first.1 rest)

-- rows that are known later, and by the same numbers
later_rows : (one two : List Mutex) (old new : Rows) → ((address : ℕ) → number_of one address ≡ number_of two address) → KeepsRows old new → (address rank thread : ℕ) → by_address one old address rank ≡ Some thread → by_address two new address rank ≡ Some thread
later_rows one two old new numbers keeps address rank thread is =
    ap (option_and_then (λ number. new number rank)) (sym (numbers address)) ∙ by (number_of one address) is
  where
    by : (o : Option ℕ) → option_and_then (λ number. old number rank) o ≡ Some thread → option_and_then (λ number. new number rank) o ≡ Some thread
    by None e = absurd (cc)
    by (Some number) e = keeps number rank thread e

pub keeps_same : (rows : Rows) → KeepsRows rows rows
keeps_same rows number rank thread is = is

pub keeps_both : (one two three : Rows) → KeepsRows one two → KeepsRows two three → KeepsRows one three
keeps_both one two three first rest number rank thread is = rest number rank thread (first number rank thread is)

-- what both parts got
joined_rows : (layout : Layout) (watchdog thread m n : ℕ) (before rows : Rows) (old mid : Peer) → IsUnderWay layout watchdog thread before old mid m → KeepsRows before rows → InRows (by_address mid.mutexes rows) (got_in layout watchdog n mid thread)
    → InRows (by_address old.mutexes rows) (got_in layout watchdog (m + n) old thread)
joined_rows layout watchdog thread m n before rows old mid first keeps rest =
    let kept : Kept thread m old mid = run_kept layout (asker thread) watchdog m old mid thread first.runs in
    subst (InRows (by_address old.mutexes rows)) (sym (run_then layout watchdog m n old mid thread first.runs).1)
    (in_rows_both (by_address old.mutexes rows) (got_in layout watchdog m old thread) (got_in layout watchdog n mid thread)
    (in_more_rows (by_address old.mutexes before) (by_address old.mutexes rows) (got_in layout watchdog m old thread) (later_rows old.mutexes old.mutexes before rows (λ address. refl) keeps) first.gets)
    (in_more_rows (by_address mid.mutexes rows) (by_address old.mutexes rows) (got_in layout watchdog n mid thread) (later_rows mid.mutexes old.mutexes rows rows kept.numbers (keeps_same rows)) rest))

-- ---- parts

pub under_way_first : (layout : Layout) (watchdog thread : ℕ) (rows : Rows) (peer : Peer) → IsTrue (is_unstopped thread peer.replica) → IsUnderWay layout watchdog thread rows peer peer 0
under_way_first layout watchdog thread rows peer going = record { runs = refl; gets = tt; going = going }

pub under_way_more : (layout : Layout) (watchdog thread m n : ℕ) (before rows : Rows) (old mid new : Peer) → IsUnderWay layout watchdog thread before old mid m → KeepsRows before rows → IsUnderWay layout watchdog thread rows mid new n → IsUnderWay layout watchdog thread rows old new (m + n)
under_way_more layout watchdog thread m n before rows old mid new first keeps rest = record {
  runs = (run_then layout watchdog m n old mid thread first.runs).0 ∙ rest.runs;
  gets = joined_rows layout watchdog thread m n before rows old mid first keeps rest.gets;
  going = rest.going;
}

pub under_way_ends : (layout : Layout) (watchdog quantum thread m n : ℕ) (before rows : Rows) (old mid new : Peer) (came : Came) → IsUnderWay layout watchdog thread before old mid m → m ≤ quantum → KeepsRows before rows → PeerRuns layout watchdog (quantum - m) thread rows mid new n came
    → PeerRuns layout watchdog quantum thread rows old new (m + n) came
under_way_ends layout watchdog quantum thread m n before rows old mid new came first few keeps rest = record {
  end = rest.end;
  runs = (run_then layout watchdog m n old mid thread first.runs).0 ∙ rest.runs;
  new_is = rest.new_is;
  gets = joined_rows layout watchdog thread m n before rows old mid first keeps rest.gets;
  came_by = by came rest.came_by;
}
  where
    by : (c : Came) → CameBy layout watchdog (quantum - m) thread n rest.end c → CameBy layout watchdog quantum thread (m + n) rest.end c
    by Quantum all = omega arith
    by (Stopped stop) why = let early : n < quantum - m = why.0 in (omega arith, why.1, why.2)
    by (Owned at) why = let early : n < quantum - m = why.0 in (omega arith, why.1)
    by (Row at) why = let early : n < quantum - m = why.0 in (omega arith, why.1)
    by (Full at) why = let early : n < quantum - m = why.0 in (omega arith, why.1)

-- the same by another replica of the program
pub goes_same : (one two : ReplicaOf) (most thread : ℕ) (rows : Rows) (old new : Peer) (count : ℕ) (came : Option Came) → SameProgram one two → GoesOn one.layout one.watchdog most thread rows old new count came → GoesOn two.layout two.watchdog most thread rows old new count came
goes_same one two most thread rows old new count came same goes =
    subst (λ (w : ℕ). GoesOn two.layout w most thread rows old new count came) same.watchdog (subst (λ (l : Layout). GoesOn l one.watchdog most thread rows old new count came) same.layout goes)
