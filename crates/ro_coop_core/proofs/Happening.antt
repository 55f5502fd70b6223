-- What an event does in a peer's seat.
use Rattle.std.proofs.Common.{◌≡◌, ℕ, zero, suc, ◌+◌, Bool, true, false, cond, List, [], ◌∷◌, ◌++◌, length, map, Option, Some, None, refl, sym, ap, ◌∙◌, subst, arith, append-nil, length-append}
use Rattle.std.specs.Prelude.{◌==◌, if◌then◌else◌, slice_get, slice_index_or}
use Rattle.std.specs.Option.{option_map, option_map_or}
use Rattle.std.proofs.lemmas.List.{map-append}
use Rattle.ro_event.specs.declared.effects.Made.{Made}
use Rattle.ro_event.specs.declared.stops.Stop.{Stop}
use Rattle.ro_event.specs.Effects.{Effect}
use Rattle.ro_region.specs.declared.Range.{Range}
use Rattle.ro_region.specs.Permission.{with_range}
use Rattle.ro_exec.specs.Next.{Backed}
use Rattle.ro_kernel.specs.Kernel.{Kernel}
use Rattle.ro_thread.specs.declared.Thread.{Thread}
use Rattle.ro_plain.proofs.Calls.{some-injective}
use Rattle.ro_plain.proofs.Wider.{widen, layout-widens}
use Rattle.ro_replica.specs.Replica.{Replica, changed_at, thread_after, with_made, is_cancelled, without_cancelled, applied, cancelled}
use Rattle.ro_replica.specs.Seen.{ReplicaOf, Widens, SameProgram}
use Rattle.ro_peer.specs.declared.mutexes.Mutex.{Mutex}
use Rattle.ro_peer.specs.Peers.{Peer, mutex_in}
use Rattle.ro_peer.specs.Gets.{voted}
use Rattle.ro_peer.specs.Events.{affected, unanswered, without_own}
use Rattle.ro_peer.specs.Events.{entering as with_mutex_entered}
use Rattle.ro_peer.specs.Seen.{number_of, peer_of}
use Rattle.ro_takers.specs.Recalls.{Recalls}
use Rattle.ro_legal.specs.Sides.{Side, peer_with, threads_of}
use Rattle.ro_legal.specs.Core.{Job}
use Rattle.ro_legal.specs.Cooperative.{done_in, replica_after, side_served}
use Rattle.ro_legal.specs.Lent.{IsOfJob}
use Rattle.ro_coop_core.specs.declared.seats.Seat.{Seat}
use Rattle.ro_coop_core.specs.declared.seats.Partner.{Partner}
use Rattle.ro_coop_core.specs.declared.seats.Entering.{Entering}
use Rattle.ro_coop_core.specs.Seats.{Knows, IsPartner, IsHomeSeat, IsRanked, HasNoOwnStops, takers_of, entered_of}

-- what is of the job before an event is of it behind
widens-own : (job : Job) (before after : Kernel) (range : Option Range) (value value' : ReplicaOf) → after.given ≡ with_range range before.given → Widens range value' value → IsOfJob job before value → IsOfJob job after value'
widens-own job before after range value value' gives w own = record {
  layout = w.layout ∙ ap (widen range) own.layout ∙ sym (layout-widens job.program before after range gives);
  given = w.given ∙ ap (with_range range) own.given ∙ sym gives;
  watchdog = w.watchdog ∙ own.watchdog;
}

-- ---- stops that the peer does not answer stay

module _ (mutexes : List Mutex) where
  -- no thread stands at a call that is answered for
  abbrev AreClean : List Thread → Type 0
  AreClean [] = Unit {0}
  AreClean (thread ∷ threads) = (voted mutexes thread.stop ≡ thread.stop) × AreClean threads

  clean-from : (threads : List Thread) → ((place : ℕ) (thread : Thread) → slice_get threads place ≡ Some thread → voted mutexes thread.stop ≡ thread.stop) → AreClean threads
  clean-from [] each = tt
  clean-from (t ∷ threads) each = (each 0 t refl, clean-from threads (λ place thread e. each (suc place) thread e))

  clean-cond : (b : Bool) (o : Option Stop) → voted mutexes o ≡ o → voted mutexes (if b then None else o) ≡ (if b then None else o)
  clean-cond true o h = refl
  clean-cond false o h = h

  clean-changed : (effect : Effect) (threads : List Thread) (i : ℕ) → AreClean threads → AreClean (changed_at (thread_after effect) threads i)
  clean-changed effect [] i h = tt
  clean-changed effect (t ∷ threads) zero h = (clean-cond effect.releases t.stop h.0, h.1)
  clean-changed effect (t ∷ threads) (suc i) h = (h.0, clean-changed effect threads i h.1)

  clean-push : (threads : List Thread) (t : Thread) → voted mutexes t.stop ≡ t.stop → AreClean threads → AreClean (threads ++ t ∷ [])
  clean-push [] t new h = (new, tt)
  clean-push (x ∷ threads) t new h = (h.0, clean-push threads t new h.1)

  clean-made : (made : Option Made) (threads : List Thread) → AreClean threads → AreClean (with_made made threads)
  clean-made None threads h = h
  clean-made (Some made) [] h = tt
  clean-made (Some made) (t ∷ threads) h = clean-push (t ∷ threads) _ refl h

  clean-cancelled : (backed : Backed) (threads : List Thread) → AreClean threads → AreClean (map (without_cancelled backed) threads)
  clean-cancelled backed [] h = tt
  clean-cancelled backed (t ∷ threads) h = (clean-cond (is_cancelled backed t.stop) t.stop h.0, clean-cancelled backed threads h.1)

  clean-same : (threads : List Thread) → AreClean threads → map (without_own mutexes) threads ≡ threads
  clean-same [] h = refl
  clean-same (t ∷ threads) h =
      ap {B = List Thread} (λ (o : Option Stop). record t { stop = o } ∷ map (without_own mutexes) threads) h.0
      ∙ ap {B = List Thread} (λ (ts : List Thread). t ∷ ts) (clean-same threads h.1)

  pub clean-behind : (effect : Effect) (replica : Replica) → AreClean replica.threads → map (without_own mutexes) (cancelled (applied effect replica)).threads ≡ (cancelled (applied effect replica)).threads
  unfolding applied cancelled
  clean-behind effect replica h = clean-same _ (clean-cancelled _ _ (clean-made effect.made _ (clean-changed effect replica.threads effect.thread h)))

-- ---- an event retires nothing

abbrev done_at : List Thread → (thread : ℕ) → ℕ
done_at threads thread = option_map_or (λ t. t.done) (slice_get threads thread) 0

done-map : (f : Thread → Thread) → ((t : Thread) → (f t).done ≡ t.done) → (threads : List Thread) (u : ℕ) → done_at (map f threads) u ≡ done_at threads u
done-map f keeps [] u = refl
done-map f keeps (t ∷ threads) zero = keeps t
done-map f keeps (t ∷ threads) (suc u) = done-map f keeps threads u

done-changed : (effect : Effect) (threads : List Thread) (i u : ℕ) → done_at (changed_at (thread_after effect) threads i) u ≡ done_at threads u
done-changed effect [] i u = refl
done-changed effect (t ∷ threads) zero zero = refl
done-changed effect (t ∷ threads) zero (suc u) = refl
done-changed effect (t ∷ threads) (suc i) zero = refl
done-changed effect (t ∷ threads) (suc i) (suc u) = done-changed effect threads i u

done-push : (threads : List Thread) (t : Thread) (u : ℕ) → t.done ≡ 0 → done_at (threads ++ t ∷ []) u ≡ done_at threads u
done-push [] t zero none = none
done-push [] t (suc u) none = refl
done-push (x ∷ threads) t zero none = refl
done-push (x ∷ threads) t (suc u) none = done-push threads t u none

done-made : (made : Option Made) (threads : List Thread) (u : ℕ) → done_at (with_made made threads) u ≡ done_at threads u
done-made None threads u = refl
done-made (Some made) [] u = refl
done-made (Some made) (t ∷ threads) u = done-push (t ∷ threads) _ u refl

pub done-behind : (effect : Effect) (entered : List Mutex) (side : Side) (replica : Replica) (u : ℕ) → done_in (replica_after effect entered side replica) u ≡ done_in replica u
unfolding applied cancelled
done-behind effect entered side replica u =
    done-map (without_own (side.mutexes ++ entered)) (λ t. refl) _ u
    ∙ (done-map (without_cancelled (applied effect replica).backed) (λ t. refl) (with_made effect.made (changed_at (thread_after effect) replica.threads effect.thread)) u
    ∙ (done-made effect.made (changed_at (thread_after effect) replica.threads effect.thread) u
    ∙ done-changed effect replica.threads effect.thread u))

-- ---- nobody got a mutex that is new

never-in : (mutexes : List Mutex) (a : ℕ) → number_of mutexes a ≡ None → mutex_in mutexes a ≡ None
never-in [] a e = refl
never-in (m ∷ mutexes) a e = by (m.address == a) e (λ f. never-in mutexes a f)
  where
    below : (o : Option ℕ) → option_map suc o ≡ None → o ≡ None
    below None f = refl
    below (Some n) f = absurd (let g : Some (suc n) ≡ None = f in cc)

    by : (b : Bool) → cond b (Some 0) (option_map suc (number_of mutexes a)) ≡ None → (number_of mutexes a ≡ None → mutex_in mutexes a ≡ None) → cond b (Some m) (mutex_in mutexes a) ≡ None
    by true f rest = absurd (let g : Some 0 ≡ None = f in cc)
    by false f rest = rest (below (number_of mutexes a) f)

empty-list : (xs : List ℕ) → length xs ≡ 0 → xs ≡ []
empty-list [] e = refl
empty-list (x ∷ xs) e = absurd (omega arith)

nobody-got : (side : Side) (a : ℕ) → IsRanked side → number_of side.mutexes a ≡ None → threads_of a side.gets ≡ []
nobody-got side a ranked new = empty-list _ (ranked a ∙ ap (λ (o : Option Mutex). option_map_or (λ m. m.rank) o 0) (never-in side.mutexes a new))

-- ---- in a seat

module _ (job : Job) (before after : Kernel) (effect : Effect) (thread : ℕ) (replica : Replica) (side : Side) (gives : after.given ≡ with_range effect.range before.given) where
  served-peer : (value value' : Peer) → value ≡ peer_with replica side → value' ≡ unanswered thread (affected effect value) → value' ≡ unanswered thread (affected effect (peer_with replica side))
  served-peer value value' is e = e ∙ ap (λ (p : Peer). unanswered thread (affected effect p)) is

  no-mutex-more : (Q : Replica → Side → Type 0) → map (without_own side.mutexes) (cancelled (applied effect replica)).threads ≡ (cancelled (applied effect replica)).threads
      → Q (cancelled (applied effect replica)) (record side { answered = λ t. if t == thread then false else side.answered t }) → Q (replica_after effect [] side replica) (side_served thread [] side)
  no-mutex-more Q same q =
      subst (λ (ms : List Mutex). Q (record (cancelled (applied effect replica)) { threads = map (without_own ms) (cancelled (applied effect replica)).threads }) (record side { mutexes = ms; answered = λ t. if t == thread then false else side.answered t })) (sym (append-nil side.mutexes))
      (subst (λ (ts : List Thread). Q (record (cancelled (applied effect replica)) { threads = ts }) (record side { answered = λ t. if t == thread then false else side.answered t })) (sym same) q)

  module _ (old new : Partner) (was : IsPartner job before replica side old) (program : Widens effect.range new.peer.replica old.peer.replica) (peer : peer_of new.peer ≡ unanswered thread (affected effect (peer_of old.peer))) (ceilings : new.ceilings ≡ old.ceilings) where
    -- the partner, where no mutex enters
    pub plain-partner : HasNoOwnStops old → IsPartner job after (replica_after effect [] side replica) (side_served thread [] side) new
    plain-partner clean = no-mutex-more (λ r s. IsPartner job after r s new) (clean-behind side.mutexes effect replica still) (record {
      of_job = widens-own job before after effect.range old.peer.replica new.peer.replica gives program was.of_job;
      peer_is = served-peer (peer_of old.peer) (peer_of new.peer) was.peer_is peer;
      ceilings = ap (λ cs. length cs.items) ceilings ∙ was.ceilings;
    })
      where
        still : AreClean side.mutexes replica.threads
        still = subst (λ (p : Peer). AreClean p.mutexes p.replica.threads) was.peer_is (clean-from old.peer.mutexes old.peer.replica.threads clean)

    -- the partner, where one does
    pub entered-partner : (last : Partner) (address : ℕ) (owner : Option ℕ) → SameProgram last.peer.replica new.peer.replica → peer_of last.peer ≡ with_mutex_entered address owner (peer_of new.peer) → last.ceilings.items ≡ new.ceilings.items ++ 0 ∷ []
        → IsPartner job after (replica_after effect (record { address = address; owner = owner; rank = 0 } ∷ []) side replica) (side_served thread (record { address = address; owner = owner; rank = 0 } ∷ []) side) last
    entered-partner last address owner same enters more =
        let own : IsOfJob job after new.peer.replica = widens-own job before after effect.range old.peer.replica new.peer.replica gives program was.of_job in
        record {
          of_job = record { layout = same.layout ∙ own.layout; given = same.given ∙ own.given; watchdog = same.watchdog ∙ own.watchdog };
          peer_is = enters ∙ ap (with_mutex_entered address owner) (served-peer (peer_of old.peer) (peer_of new.peer) was.peer_is peer);
          ceilings =
              let longer : length last.ceilings.items ≡ length new.ceilings.items + 1 = ap length more ∙ length-append new.ceilings.items (0 ∷ []) in
              let as_many : length new.ceilings.items ≡ length side.mutexes = ap (λ cs. length cs.items) ceilings ∙ was.ceilings in
              let mutexes : length (side.mutexes ++ record { address = address; owner = owner; rank = 0 } ∷ []) ≡ length side.mutexes + 1 = length-append side.mutexes (record { address = address; owner = owner; rank = 0 } ∷ []) in
              omega arith;
        }

  -- what the seat knows
  pub plain-knows : (seat seat' : Seat) → seat'.parked ≡ seat.parked → seat'.done ≡ seat.done → seat'.takers ≡ seat.takers → Knows seat replica side → Knows seat' (replica_after effect [] side replica) (side_served thread [] side)
  plain-knows seat seat' parked done takers h = record {
    parked_count = ap length parked ∙ h.parked_count;
    parked = λ t. ap (λ ps. slice_index_or ps t None) parked ∙ h.parked t;
    done_count = ap length done ∙ h.done_count;
    done = λ t. ap (λ ns. slice_index_or ns t 0) done ∙ (h.done t ∙ sym (done-behind effect [] side replica t));
    takers = subst (λ ts. Recalls (map (λ mutex. threads_of mutex.address side.gets) (side.mutexes ++ [])) ts) (sym takers)
        (subst (λ (ms : List Mutex). Recalls (map (λ mutex. threads_of mutex.address side.gets) ms) seat.takers) (sym (append-nil side.mutexes)) h.takers);
  }

  pub entered-knows : (seat seat' : Seat) (address : ℕ) (owner : Option ℕ) → seat'.parked ≡ seat.parked → seat'.done ≡ seat.done → IsRanked side → number_of side.mutexes address ≡ None
      → ((lists : List (List ℕ)) → Recalls lists seat.takers → Recalls (lists ++ [] ∷ []) seat'.takers) → Knows seat replica side
      → Knows seat' (replica_after effect (record { address = address; owner = owner; rank = 0 } ∷ []) side replica) (side_served thread (record { address = address; owner = owner; rank = 0 } ∷ []) side)
  entered-knows seat seat' address owner parked done ranked new enters h = record {
    parked_count = ap length parked ∙ h.parked_count;
    parked = λ t. ap (λ ps. slice_index_or ps t None) parked ∙ h.parked t;
    done_count = ap length done ∙ h.done_count;
    done = λ t. ap (λ ns. slice_index_or ns t 0) done ∙ (h.done t ∙ sym (done-behind effect (record { address = address; owner = owner; rank = 0 } ∷ []) side replica t));
    takers = subst (λ (ls : List (List ℕ)). Recalls ls seat'.takers) (sym longer) (enters (takers_of side) h.takers);
  }
    where
      longer : map (λ (mutex : Mutex). threads_of mutex.address side.gets) (side.mutexes ++ record { address = address; owner = owner; rank = 0 } ∷ []) ≡ takers_of side ++ [] ∷ []
      longer =
          map-append (λ (mutex : Mutex). threads_of mutex.address side.gets) side.mutexes (record { address = address; owner = owner; rank = 0 } ∷ [])
          ∙ ap {B = List (List ℕ)} (λ (l : List ℕ). takers_of side ++ l ∷ []) (nobody-got side address ranked new)

  -- its seat, where no mutex enters
  pub plain-seat : (seat seat' : Seat) (old new : Partner) (entering : Option Entering) → entering ≡ None → seat'.parked ≡ seat.parked → seat'.done ≡ seat.done → seat'.takers ≡ seat.takers → seat.home ≡ Some old → seat'.home ≡ Some new
      → Widens effect.range new.peer.replica old.peer.replica → peer_of new.peer ≡ unanswered thread (affected effect (peer_of old.peer)) → new.ceilings ≡ old.ceilings → HasNoOwnStops old
      → IsHomeSeat job before replica side seat → IsHomeSeat job after (replica_after effect (entered_of entering) side replica) (side_served thread (entered_of entering) side) seat'
  plain-seat seat seat' old new entering none parked done takers was is program peer ceilings clean h =
      subst (λ (e : Option Entering). IsHomeSeat job after (replica_after effect (entered_of e) side replica) (side_served thread (entered_of e) side) seat') (sym none) (record {
        knows = plain-knows seat seat' parked done takers h.knows;
        partner = new;
        home = is;
        is = plain-partner old new (subst (IsPartner job before replica side) (some-injective (sym h.home ∙ was)) h.is) program peer ceilings clean;
      })

  -- and where one does
  pub entered-seat : (seat seat' : Seat) (old new last : Partner) (entering : Option Entering) (entered : Entering) → entering ≡ Some entered → seat'.parked ≡ seat.parked → seat'.done ≡ seat.done → ((lists : List (List ℕ)) → Recalls lists seat.takers → Recalls (lists ++ [] ∷ []) seat'.takers)
      → seat.home ≡ Some old → seat'.home ≡ Some last → Widens effect.range new.peer.replica old.peer.replica → peer_of new.peer ≡ unanswered thread (affected effect (peer_of old.peer)) → new.ceilings ≡ old.ceilings
      → SameProgram last.peer.replica new.peer.replica → peer_of last.peer ≡ with_mutex_entered entered.address entered.owner (peer_of new.peer) → last.ceilings.items ≡ new.ceilings.items ++ 0 ∷ []
      → IsRanked side → number_of old.peer.mutexes entered.address ≡ None
      → IsHomeSeat job before replica side seat → IsHomeSeat job after (replica_after effect (entered_of entering) side replica) (side_served thread (entered_of entering) side) seat'
  entered-seat seat seat' old new last entering entered some parked done takers was is program peer ceilings same enters more ranked fresh h =
      let its : IsPartner job before replica side old = subst (IsPartner job before replica side) (some-injective (sym h.home ∙ was)) h.is in
      subst (λ (e : Option Entering). IsHomeSeat job after (replica_after effect (entered_of e) side replica) (side_served thread (entered_of e) side) seat') (sym some) (record {
        knows = entered-knows seat seat' entered.address entered.owner parked done ranked (subst (λ (p : Peer). number_of p.mutexes entered.address ≡ None) its.peer_is fresh) takers h.knows;
        partner = last;
        home = is;
        is = entered-partner old new its program peer ceilings last entered.address entered.owner same enters more;
      })
