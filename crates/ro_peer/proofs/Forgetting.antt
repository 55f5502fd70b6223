-- Stops that a peer forgets.
use Rattle.std.specs.Prelude.{◌≡◌, ℕ, zero, suc, Bool, true, false, cond, ◌==◌, List, [], ◌∷◌, length, map, Option, Some, None, is_some, slice_get}
use Rattle.std.specs.Option.{option_map, option_and_then}
use Rattle.std.proofs.Common.{refl, sym, ap, ◌∙◌}
use Rattle.ro_event.specs.declared.stops.Stop.{Stop}
use Rattle.ro_thread.specs.declared.Thread.{Thread}
use Rattle.ro_replica.specs.Replica.{changed_at}
use Rattle.ro_replica.specs.Runs.{with_stop}
use Rattle.ro_peer.specs.declared.mutexes.Mutex.{Mutex}
use Rattle.ro_peer.specs.Peers.{mutex_in}
use Rattle.ro_peer.specs.Gets.{is_own_call, voted}
use Rattle.ro_peer.specs.Seen.{number_of}
use Rattle.ro_peer.specs.Events.{without_own}

-- the first so many elements changed
abbrev pub changed_to : {X : Type 0} → (X → X) → ℕ → List X → List X
changed_to f zero xs = xs
changed_to f (suc n) [] = []
changed_to f (suc n) (x ∷ xs) = f x ∷ changed_to f n xs

pub changed_more : {X : Type 0} (f : X → X) (n : ℕ) (xs : List X) → changed_at f (changed_to f n xs) n ≡ changed_to f (suc n) xs
changed_more f zero [] = refl
changed_more f zero (x ∷ xs) = refl
changed_more f (suc n) [] = refl
changed_more f (suc n) (x ∷ xs) = ap {B = List _} (λ ys. f x ∷ ys) (changed_more f n xs)

pub changed_all : {X : Type 0} (f : X → X) (xs : List X) → changed_to f (length xs) xs ≡ map f xs
changed_all f [] = refl
changed_all f (x ∷ xs) = ap {B = List _} (λ ys. f x ∷ ys) (changed_all f xs)

pub changed_to_length : {X : Type 0} (f : X → X) (n : ℕ) (xs : List X) → length (changed_to f n xs) ≡ length xs
changed_to_length f zero xs = refl
changed_to_length f (suc n) [] = refl
changed_to_length f (suc n) (x ∷ xs) = ap suc (changed_to_length f n xs)

-- a thread whose stop stays, and one whose stop goes
pub keeps_stop : (mutexes : List Mutex) (threads : List Thread) (thread : ℕ) → voted mutexes (option_and_then (λ t. t.stop) (slice_get threads thread)) ≡ option_and_then (λ t. t.stop) (slice_get threads thread) → changed_at (without_own mutexes) threads thread ≡ threads
keeps_stop mutexes [] thread e = refl
keeps_stop mutexes (x ∷ threads) zero e = ap {B = List _} (λ (s : Option Stop). with_stop s x ∷ threads) e
keeps_stop mutexes (x ∷ threads) (suc i) e = ap {B = List _} (λ ts. x ∷ ts) (keeps_stop mutexes threads i e)

pub loses_stop : (mutexes : List Mutex) (threads : List Thread) (thread : ℕ) → voted mutexes (option_and_then (λ t. t.stop) (slice_get threads thread)) ≡ None → changed_at (with_stop None) threads thread ≡ changed_at (without_own mutexes) threads thread
loses_stop mutexes [] thread e = refl
loses_stop mutexes (x ∷ threads) zero e = ap {B = List _} (λ (s : Option Stop). with_stop s x ∷ threads) (sym e)
loses_stop mutexes (x ∷ threads) (suc i) e = ap {B = List _} (λ ts. x ∷ ts) (loses_stop mutexes threads i e)

-- by what is found of the stop
pub no_stop : (mutexes : List Mutex) (stop : Option Stop) → stop ≡ None → voted mutexes stop ≡ stop
no_stop mutexes None e = refl
no_stop mutexes (Some stop) e = absurd (cc)

pub stop_stays : (mutexes : List Mutex) (stop : Option Stop) (s : Stop) → stop ≡ Some s → is_own_call mutexes s ≡ false → voted mutexes stop ≡ stop
stop_stays mutexes stop s is own = ap (voted mutexes) is ∙ ap (λ (b : Bool). cond b None (Some s)) own ∙ sym is

pub stop_goes : (mutexes : List Mutex) (stop : Option Stop) (s : Stop) → stop ≡ Some s → is_own_call mutexes s ≡ true → voted mutexes stop ≡ None
stop_goes mutexes stop s is own = ap (voted mutexes) is ∙ ap (λ (b : Bool). cond b None (Some s)) own

-- a mutex is there where it has a number
pub is_there : (mutexes : List Mutex) (address : ℕ) → is_some (number_of mutexes address) ≡ is_some (mutex_in mutexes address)
is_there [] address = refl
is_there (m ∷ mutexes) address = by (m.address == address) (number_of mutexes address) (is_there mutexes address)
  where
    by : (b : Bool) (o : Option ℕ) → is_some o ≡ is_some (mutex_in mutexes address) → is_some (cond b (Some 0) (option_map suc o)) ≡ is_some (cond b (Some m) (mutex_in mutexes address))
    by true o e = refl
    by false None e = e
    by false (Some n) e = e
