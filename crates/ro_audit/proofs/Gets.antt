-- What a run got, get by get.
use Rattle.std.specs.Prelude.{◌≡◌, ◌≢◌, ℕ, zero, suc, Bool, true, false, cond, List, [], ◌∷◌, ◌++◌, Contains, Option, Some, None, slice_get, slice_index_or, length, ◌<◌}
use Rattle.std.specs.Option.{option_map_or}
use mathlib.Core.Logic.{inl, inr}
use Rattle.std.proofs.Common.{refl, sym, ap, ◌∙◌, subst, arith}
use Rattle.std.specs.List.{list_all}
use Rattle.std.proofs.lemmas.Bool.{and_parts}
use Rattle.std.proofs.lemmas.List.Elements.{Contains-append_right}
use Rattle.ro_event.specs.declared.calls.Call.{Call}
use Rattle.ro_event.specs.declared.stops.Stop.TheVariants.{Calls}
use Rattle.ro_exec.specs.Next.{Layout, Next, Stands, Executes, next}
use Rattle.ro_thread.specs.declared.Thread.{Thread}
use Rattle.ro_orders.specs.Copies.{Rows}
use Rattle.ro_orders.specs.Turns.{is_lock_or_unlock}
use Rattle.ro_orders.specs.Answers.{Answer, Answers, Waits, answer_by}
use Rattle.ro_peer.specs.declared.mutexes.Mutex.{Mutex}
use Rattle.ro_peer.specs.Peers.{Peer, mutex_in, is_got, leased}
use Rattle.ro_peer.specs.Gets.{Get, InRows, asker, get_answer, get_call, get_next, get_of, got_in}
use Rattle.ro_peer.specs.Seen.{number_of}
use Rattle.ro_peer.specs.Leases.{IsAmong}
use Rattle.ro_locking.specs.Got.{KeepsNumbers}
use Rattle.ro_plain.proofs.Calls.{some-injective}
use Rattle.ro_coop_lease.proofs.Ceilings.{numbered}

-- ---- by one thread

-- each is the thread's
abbrev pub AreBy : (thread : ℕ) → List Get → Type 0
AreBy thread [] = Unit {0}
AreBy thread (get ∷ gets) = (get.thread ≡ thread) × AreBy thread gets

-- of two lists
by-both : (thread : ℕ) (one two : List Get) → AreBy thread one → AreBy thread two → AreBy thread (one ++ two)
by-both thread [] two first rest = rest
by-both thread (get ∷ one) two first rest = (first.0, by-both thread one two first.1 rest)

-- by an answer, a call, and a step
by-answer : (thread : ℕ) (call : Call) (m : Mutex) (answer : Answer) → AreBy thread (get_answer thread call m answer)
by-answer thread call m Waits = tt
by-answer thread call m (Answers change value) = by (is_got change)
  where
    by : (b : Bool) → AreBy thread (cond b (record { mutex = call.a0; rank = m.rank; thread = thread } ∷ []) [])
    by true = (refl, tt)
    by false = tt

by-call : (thread : ℕ) (call : Call) (o : Option Mutex) → AreBy thread (get_call thread call o)
by-call thread call None = tt
by-call thread call (Some m) = by-answer thread call m (answer_by call.which thread m.owner)

by-next : (peer : Peer) (thread : ℕ) (n : Next) → AreBy thread (get_next peer thread n)
by-next peer thread (Executes instr) = tt
by-next peer thread (Stands (Calls call)) = by (is_lock_or_unlock call.which)
  where
    by : (b : Bool) → AreBy thread (cond b (get_call thread call (mutex_in peer.mutexes call.a0)) [])
    by true = by-call thread call (mutex_in peer.mutexes call.a0)
    by false = tt
by-next peer thread (Stands stop) = tt

by-step : (layout : Layout) (peer : Peer) (thread : ℕ) → AreBy thread (get_of layout peer thread)
by-step layout peer thread = by (slice_get peer.replica.threads thread)
  where
    by : (o : Option Thread) → AreBy thread (option_map_or (λ t. get_next peer thread (next layout peer.replica.backed peer.replica.memory t.cpu)) o [])
    by None = tt
    by (Some t) = by-next peer thread (next layout peer.replica.backed peer.replica.memory t.cpu)

-- what a thread's run gets is the thread's
pub by-run : (layout : Layout) (watchdog count : ℕ) (peer : Peer) (thread : ℕ) → AreBy thread (got_in layout watchdog count peer thread)
by-run layout watchdog zero peer thread = tt
by-run layout watchdog (suc n) peer thread = by-both thread (get_of layout peer thread) _ (by-step layout peer thread) (by (leased layout (asker thread) watchdog peer thread) (λ after. by-run layout watchdog n after thread))
  where
    by : (o : Option Peer) → ((after : Peer) → AreBy thread (got_in layout watchdog n after thread)) → AreBy thread (option_map_or (λ after. got_in layout watchdog n after thread) o [])
    by None rest = tt
    by (Some after) rest = rest after

-- so that no other thread got any of it
pub none-by-other : (mutexes : List Mutex) (gets : List Get) (number rank other thread : ℕ) → AreBy thread gets → other ≢ thread → IsAmong mutexes gets number rank other → ⊥
none-by-other mutexes [] number rank other thread by differs among = among
none-by-other mutexes (get ∷ gets) number rank other thread by differs (inl here) = differs (sym here.2 ∙ by.0)
none-by-other mutexes (get ∷ gets) number rank other thread by differs (inr later) = none-by-other mutexes gets number rank other thread by.1 differs later

-- ---- among others

-- the get by which a thread got a rank
pub record IsGet (mutexes : List Mutex) (gets : List Get) (number rank thread : ℕ) : Type 0 where
  pub get : Get
  pub inside : Contains gets get
  pub numbered : number_of mutexes get.mutex ≡ Some number
  pub rank_is : get.rank ≡ rank
  pub thread_is : get.thread ≡ thread

-- each of them has one
pub its-get : (mutexes : List Mutex) (gets : List Get) (number rank thread : ℕ) → IsAmong mutexes gets number rank thread → IsGet mutexes gets number rank thread
its-get mutexes [] number rank thread among = absurd among
its-get mutexes (get ∷ gets) number rank thread (inl here) = record { get = get; inside = (0, omega arith, refl); numbered = here.0; rank_is = here.1; thread_is = here.2 }
its-get mutexes (get ∷ gets) number rank thread (inr later) =
    let rest = its-get mutexes gets number rank thread later in
    let less = rest.inside.1 in
    record { get = rest.get; inside = (suc rest.inside.0, omega arith, rest.inside.2); numbered = rest.numbered; rank_is = rest.rank_is; thread_is = rest.thread_is }

-- a number is that of one address
pub one-address : (mutexes : List Mutex) (one other number : ℕ) → number_of mutexes one ≡ Some number → number_of mutexes other ≡ Some number → one ≡ other
one-address mutexes one other number first second =
    let its = numbered mutexes one number first in
    let also = numbered mutexes other number second in
    let same : its.mutex ≡ also.mutex = some-injective (sym its.there ∙ also.there) in
    sym its.address_is ∙ (ap (λ (m : Mutex). m.address) same ∙ also.address_is)

-- each get has its row
pub its-row : (rows : Rows) (gets : List Get) (get : Get) (place : ℕ) → InRows rows gets → place < length gets → slice_index_or gets place get ≡ get → rows get.mutex get.rank ≡ Some get.thread
its-row rows [] get place in_rows within is = absurd (omega arith)
its-row rows (first ∷ gets) get zero in_rows within is = subst (λ (g : Get). rows g.mutex g.rank ≡ Some g.thread) is in_rows.0
its-row rows (first ∷ gets) get (suc place) in_rows within is = its-row rows gets get place in_rows.1 (omega arith) is

-- what stands in rows, stands there part by part
pub rows-parts : (rows : Rows) (one two : List Get) → InRows rows (one ++ two) → InRows rows one × InRows rows two
rows-parts rows [] two in_rows = (tt, in_rows)
rows-parts rows (get ∷ one) two in_rows = let rest = rows-parts rows one two in_rows.1 in ((in_rows.0, rest.0), rest.1)

-- ---- in the middle

-- it is one of all
pub in-middle : (before : List Get) (get : Get) (rest : List Get) → Contains (before ++ get ∷ rest) get
in-middle before get rest = Contains-append_right before (get ∷ rest) get (0, omega arith, refl)

-- what holds of all holds of it
pub all-middle : (test : Get → Bool) (before : List Get) (get : Get) (rest : List Get) → list_all test (before ++ get ∷ rest) ≡ true → test get ≡ true
all-middle test [] get rest all = (and_parts (test get) _ all).0
all-middle test (first ∷ before) get rest all = all-middle test before get rest (and_parts (test first) _ all).1

-- ---- by later numbers

-- what was got is the same by mutexes that keep their numbers
pub among-later : (old new : List Mutex) (gets : List Get) (number rank thread : ℕ) → KeepsNumbers old new → IsAmong old gets number rank thread → IsAmong new gets number rank thread
among-later old new [] number rank thread keeps among = absurd among
among-later old new (get ∷ gets) number rank thread keeps (inl here) = inl (keeps get.mutex number here.0, here.1, here.2)
among-later old new (get ∷ gets) number rank thread keeps (inr later) = inr (among-later old new gets number rank thread keeps later)
