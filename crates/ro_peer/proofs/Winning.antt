-- What is won in a run is among what it gets.
use Rattle.std.specs.Prelude.{◌≡◌, ◌⊎◌, ℕ, ◌+◌, Bool, true, cond, List, [], ◌∷◌, ◌++◌, Option, Some, None}
use Rattle.std.proofs.Common.{sym, ap, ◌∙◌, subst, inl, inr}
use Rattle.ro_event.specs.declared.calls.Call.{Call}
use Rattle.ro_event.specs.declared.stops.Stop.{Stop}
use Rattle.ro_exec.specs.Next.{Layout}
use Rattle.ro_replica.specs.Replica.{Replica}
use Rattle.ro_replica.specs.Seen.{ReplicaOf, SameProgram}
use Rattle.ro_orders.specs.Copies.{Rows}
use Rattle.ro_orders.specs.Answers.{Answers}
use Rattle.ro_peer.specs.declared.mutexes.Mutex.{Mutex}
use Rattle.ro_peer.specs.declared.running.Came.{Came}
use Rattle.ro_peer.specs.Peers.{Peer, is_got, leased}
use Rattle.ro_peer.specs.Gets.{Get, asker, get_answer, get_of, got_in}
use Rattle.ro_peer.specs.Seen.{number_of}
use Rattle.ro_peer.specs.Leases.{IsAmong, Wins, met_gets, IsUnderWay, Meets}
use Rattle.ro_peer.proofs.Steps.{Kept, run_kept, run_then, with_replica}
use Rattle.ro_peer.proofs.Parts.{RanSteps, one_more}

-- what was won
abbrev pub Won : Type 1
Won = ℕ → ℕ → ℕ → Type 0

pub wins_nothing : (won : Won) (mutexes : List Mutex) (gets : List Get) → Wins won won mutexes gets
wins_nothing won mutexes gets number rank thread is = inl is

-- in the first of two lists, and in the second
pub among_first : (mutexes : List Mutex) (one two : List Get) (number rank thread : ℕ) → IsAmong mutexes one number rank thread → IsAmong mutexes (one ++ two) number rank thread
among_first mutexes [] two number rank thread is = absurd is
among_first mutexes (get ∷ one) two number rank thread (inl here) = inl here
among_first mutexes (get ∷ one) two number rank thread (inr later) = inr (among_first mutexes one two number rank thread later)

pub among_second : (mutexes : List Mutex) (one two : List Get) (number rank thread : ℕ) → IsAmong mutexes two number rank thread → IsAmong mutexes (one ++ two) number rank thread
among_second mutexes [] two number rank thread is = is
among_second mutexes (get ∷ one) two number rank thread is = inr (among_second mutexes one two number rank thread is)

-- by the same numbers
among_same : (one two : List Mutex) (gets : List Get) (number rank thread : ℕ) → ((address : ℕ) → number_of one address ≡ number_of two address) → IsAmong one gets number rank thread → IsAmong two gets number rank thread
among_same one two [] number rank thread same is = absurd is
among_same one two (get ∷ gets) number rank thread same (inl here) = inl (sym (same get.mutex) ∙ here.0, here.1, here.2)
among_same one two (get ∷ gets) number rank thread same (inr later) = inr (among_same one two gets number rank thread same later)

-- what was won by both
wins_both : (first mid last : Won) (one two : List Mutex) (before after : List Get) → ((address : ℕ) → number_of two address ≡ number_of one address) → Wins first mid one before → Wins mid last two after → Wins first last one (before ++ after)
wins_both first mid last one two before after same early late number rank thread is = by (late number rank thread is)
  where
    at : first number rank thread ⊎ IsAmong one before number rank thread → first number rank thread ⊎ IsAmong one (before ++ after) number rank thread
    at (inl was) = inl was
    at (inr among) = inr (among_first one before after number rank thread among)

    by : mid number rank thread ⊎ IsAmong two after number rank thread → first number rank thread ⊎ IsAmong one (before ++ after) number rank thread
    by (inl was) = at (early number rank thread was)
    by (inr among) = inr (among_second one before after number rank thread (among_same two one after number rank thread same among))

-- by two parts of a run
pub wins_joined : (layout : Layout) (watchdog thread m n : ℕ) (rows : Rows) (old mid : Peer) (first between last : Won) → IsUnderWay layout watchdog thread rows old mid m
    → Wins first between old.mutexes (got_in layout watchdog m old thread) → Wins between last mid.mutexes (got_in layout watchdog n mid thread) → Wins first last old.mutexes (got_in layout watchdog (m + n) old thread)
wins_joined layout watchdog thread m n rows old mid first between last way early late =
    let kept : Kept thread m old mid = run_kept layout (asker thread) watchdog m old mid thread way.runs in
    subst (Wins first last old.mutexes) (sym (run_then layout watchdog m n old mid thread way.runs).1)
    (wins_both first between last old.mutexes mid.mutexes (got_in layout watchdog m old thread) (got_in layout watchdog n mid thread) kept.numbers early late)

-- by an answer
pub wins_answer : (old new : Won) (mutexes : List Mutex) (gets : List Get) (call : Call) (number thread : ℕ) (m : Mutex) (change : Option (Option ℕ)) (value : ℕ) (came : Option Came)
    → ((other at owner : ℕ) → new other at owner → old other at owner ⊎ ((came ≡ None) × (is_got change ≡ true) × (other ≡ number) × (at ≡ m.rank) × (owner ≡ thread)))
    → number_of mutexes call.a0 ≡ Some number → gets ≡ get_answer thread call m (Answers change value) → Wins old new mutexes (met_gets came gets)
wins_answer old new mutexes gets call number thread m change value came wins numbered is other at owner won = by (wins other at owner won)
  where
    by : old other at owner ⊎ ((came ≡ None) × (is_got change ≡ true) × (other ≡ number) × (at ≡ m.rank) × (owner ≡ thread)) → old other at owner ⊎ IsAmong mutexes (met_gets came gets) other at owner
    by (inl was) = inl was
    by (inr (none, got, same, ranked, its)) = inr (subst (λ (list : List Get). IsAmong mutexes list other at owner)
        (sym (ap (λ (c : Option Came). met_gets c gets) none ∙ is ∙ ap (λ (b : Bool). cond b (record { mutex = call.a0; rank = m.rank; thread = thread } ∷ []) []) got))
        (inl (numbered ∙ ap Some (sym same), sym ranked, sym its)))

-- by a call that was answered behind instructions
pub wins_on : (layout : Layout) (watchdog most thread : ℕ) (rows : Rows) (peer mid new : Peer) (ran : Replica) (count : ℕ) (stop : Option Stop) (steps : RanSteps layout watchdog most thread peer ran count stop) (old last : Won) → mid ≡ with_replica peer steps.end → Meets layout watchdog thread rows mid new None
    → Wins old last peer.mutexes (get_of layout mid thread) → Wins old last peer.mutexes (got_in layout watchdog (count + 1) peer thread)
wins_on layout watchdog most thread rows peer mid new ran count stop steps old last mid_is meets =
    let step : leased layout (asker thread) watchdog (with_replica peer steps.end) thread ≡ Some new = ap (λ (p : Peer). leased layout (asker thread) watchdog p thread) (sym mid_is) ∙ meets.0 in
    subst (Wins old last peer.mutexes)
    (sym ((one_more layout watchdog thread count peer (with_replica peer steps.end) new steps.runs step).1 ∙ ap (λ (gets : List Get). gets ++ get_of layout (with_replica peer steps.end) thread) steps.nothing ∙ ap (λ (p : Peer). get_of layout p thread) (sym mid_is)))

-- the same by another replica of the program
pub wins_same : (one two : ReplicaOf) (thread count : ℕ) (peer : Peer) (old new : Won) → SameProgram one two → Wins old new peer.mutexes (got_in one.layout one.watchdog count peer thread) → Wins old new peer.mutexes (got_in two.layout two.watchdog count peer thread)
wins_same one two thread count peer old new same wins =
    subst (λ (w : ℕ). Wins old new peer.mutexes (got_in two.layout w count peer thread)) same.watchdog (subst (λ (l : Layout). Wins old new peer.mutexes (got_in l one.watchdog count peer thread)) same.layout wins)
