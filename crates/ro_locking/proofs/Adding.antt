-- What runs by a pass got, run by run, and the numbers of mutexes.
use Rattle.std.specs.Prelude.{◌≡◌, ℕ, suc, ◌==◌, Bool, true, false, cond, List, [], ◌∷◌, ◌++◌, Option, Some, None}
use Rattle.std.specs.Option.{option_map, option_and_then}
use Rattle.std.proofs.Common.{refl, sym, ap, ◌∙◌, inl, inr, ⊎_elim}
use Rattle.ro_exec.specs.Next.{Layout}
use Rattle.ro_orders.specs.Copies.{Rows}
use Rattle.ro_lockpage.specs.Ranks.{Decided, map_of}
use Rattle.ro_lockpage.specs.Pages.{PassOf}
use Rattle.ro_lockpage.proofs.Notes.{none-some}
use Rattle.ro_peer.specs.declared.mutexes.Mutex.{Mutex}
use Rattle.ro_peer.specs.declared.running.Came.{Came}
use Rattle.ro_peer.specs.declared.running.Came.TheVariants.{Stopped}
use Rattle.ro_peer.specs.Peers.{Peer}
use Rattle.ro_peer.specs.Gets.{Get, InRows, asker}
use Rattle.ro_peer.specs.Seen.{number_of, by_address}
use Rattle.ro_peer.specs.Leases.{stopped, PeerRuns, KeepsRows, IsAmong, Wins}
use Rattle.ro_peer.specs.Events.{with_entered}
use Rattle.ro_peer.proofs.Steps.{run_kept}
use Rattle.ro_peer.proofs.Joining.{in_more_rows, in_rows_both}
use Rattle.ro_peer.proofs.Winning.{among_first, among_second}
use Rattle.ro_locking.specs.Asking.{known_by, won_by}
use Rattle.ro_locking.specs.Got.{HasGot, KeepsNumbers}

-- ---- numbers

pub numbers_same : (mutexes : List Mutex) → KeepsNumbers mutexes mutexes
numbers_same mutexes address number is = is

numbers_before : (mutexes more : List Mutex) → KeepsNumbers mutexes (mutexes ++ more)
numbers_before [] more address number e = absurd (cc)
numbers_before (m ∷ mutexes) more address number e = by (m.address == address) (number_of mutexes address) refl (numbers_before mutexes more address) e
  where
    by : (b : Bool) (o : Option ℕ) → number_of mutexes address ≡ o → ((k : ℕ) → number_of mutexes address ≡ Some k → number_of (mutexes ++ more) address ≡ Some k) → cond b (Some 0) (option_map suc o) ≡ Some number → cond b (Some 0) (option_map suc (number_of (mutexes ++ more) address)) ≡ Some number
    by true o there rest e = e
    by false None there rest e = absurd (cc)
    by false (Some k) there rest e = ap (option_map suc) (rest k there) ∙ e

pub numbers_entered : (mutexes : List Mutex) (address : ℕ) (owner : Option ℕ) → KeepsNumbers mutexes (with_entered mutexes address owner)
numbers_entered mutexes address owner = numbers_before mutexes (record { address = address; owner = owner; rank = 0 } ∷ [])

pub same_mutexes : (thread : ℕ) (came : Came) (peer : Peer) → (stopped thread came peer).mutexes ≡ peer.mutexes
same_mutexes thread (Stopped stop) peer = refl
same_mutexes thread came peer = refl

pub numbers_ran : (layout : Layout) (watchdog quantum thread : ℕ) (rows : Rows) (old new : Peer) (count : ℕ) (came : Came) → PeerRuns layout watchdog quantum thread rows old new count came → KeepsNumbers old.mutexes new.mutexes
numbers_ran layout watchdog quantum thread rows old new count came ran address number is =
    ap (λ (mutexes : List Mutex). number_of mutexes address) (ap (λ (peer : Peer). peer.mutexes) ran.new_is ∙ same_mutexes thread came ran.end)
    ∙ (run_kept layout (asker thread) watchdog count old ran.end thread ran.runs).numbers address
    ∙ is

-- ---- rows that are known later, and where more mutexes have numbers

pub rows_later : (old new : List Mutex) (before after : Rows) → KeepsNumbers old new → KeepsRows before after → (address rank thread : ℕ) → by_address old before address rank ≡ Some thread → by_address new after address rank ≡ Some thread
rows_later old new before after numbers keeps address rank thread is = by (number_of old address) refl is
  where
    by : (o : Option ℕ) → number_of old address ≡ o → option_and_then (λ number. before number rank) o ≡ Some thread → by_address new after address rank ≡ Some thread
    by None there e = absurd (cc)
    by (Some number) there e = ap (option_and_then (λ number. after number rank)) (numbers address number there) ∙ keeps number rank thread e

among_later : (old new : List Mutex) (gets : List Get) (number rank thread : ℕ) → KeepsNumbers old new → IsAmong old gets number rank thread → IsAmong new gets number rank thread
among_later old new [] number rank thread numbers is = absurd is
among_later old new (get ∷ gets) number rank thread numbers (inl here) = inl (numbers get.mutex number here.0, here.1, here.2)
among_later old new (get ∷ gets) number rank thread numbers (inr later) = inr (among_later old new gets number rank thread numbers later)

-- ---- what was got

pub gets_first : (mutexes : List Mutex) (pass : PassOf) → pass.won ≡ [] → HasGot mutexes pass []
gets_first mutexes pass none = record {
  in_rows = tt;
  won = λ number rank thread is. none-some thread (sym (ap (λ (won : List Decided). map_of won number rank) none) ∙ is);
}

pub gets_more : (mutexes : List Mutex) (old new : PassOf) (gets more : List Get) → HasGot mutexes old gets → KeepsRows (known_by old) (known_by new) → InRows (by_address mutexes (known_by new)) more → Wins (won_by old) (won_by new) mutexes more → HasGot mutexes new (gets ++ more)
gets_more mutexes old new gets more got keeps in_rows wins = record {
  in_rows = in_rows_both (by_address mutexes (known_by new)) gets more (in_more_rows (by_address mutexes (known_by old)) (by_address mutexes (known_by new)) gets (rows_later mutexes mutexes (known_by old) (known_by new) (numbers_same mutexes) keeps) got.in_rows) in_rows;
  won = λ number rank thread is.
      ⊎_elim
      (λ (was : won_by old number rank thread). among_first mutexes gets more number rank thread (got.won number rank thread was))
      (λ (among : IsAmong mutexes more number rank thread). among_second mutexes gets more number rank thread among)
      (wins number rank thread is);
}

pub gets_later : (old new : List Mutex) (pass : PassOf) (gets : List Get) → KeepsNumbers old new → HasGot old pass gets → HasGot new pass gets
gets_later old new pass gets numbers got = record {
  in_rows = in_more_rows (by_address old (known_by pass)) (by_address new (known_by pass)) gets (rows_later old new (known_by pass) (known_by pass) numbers (λ number rank thread is. is)) got.in_rows;
  won = λ number rank thread is. among_later old new gets number rank thread numbers (got.won number rank thread is);
}
