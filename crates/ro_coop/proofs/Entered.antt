-- The mutexes behind an event: those that were there, and the one that its call made cooperative.
use Rattle.std.specs.Prelude.{◌≡◌, ℕ, Bool, true, false, not, ◌&&◌, cond, List, [], ◌∷◌, ◌++◌, Option, Some, None, ◌==◌}
use Rattle.std.specs.Option.{option_map_or}
use Rattle.std.proofs.Common.{refl, sym, ap, ap₂, ◌∙◌, ⊎_elim}
use Rattle.std.proofs.lemmas.Bool.{false≢true, eqb-true, eq-eqb, cases_eq, and_from}
use Rattle.ro_event.specs.declared.calls.Call.{Call}
use Rattle.ro_event.specs.declared.stops.Stop.{Stop}
use Rattle.ro_event.specs.declared.stops.Stop.TheVariants.{Calls, Trap, PageFault, Watchdog}
use Rattle.ro_event.specs.Effects.{Effect}
use Rattle.ro_mutex.specs.Owners.{Owners, owner_of, with_owner}
use Rattle.ro_kernel.specs.Kernel.{Setup, Kernel}
use Rattle.ro_kernel.specs.Serve.{Done, serve}
use Rattle.ro_orders.specs.Turns.{Chosen, is_cooperative}
use Rattle.ro_orders.proofs.Steps.{owner-there}
use Rattle.ro_peer.specs.declared.mutexes.Mutex.{Mutex}
use Rattle.ro_peer.specs.Peers.{mutex_in, with_mutexes}
use Rattle.ro_coop.specs.Core.{OneEnters, entered_by}
use Rattle.ro_coop.proofs.Ended.{ended}
use Rattle.ro_coop.proofs.Tables.{AllCooperative}

-- ---- lists

pub in-left : (ms xs : List Mutex) (a : ℕ) (x : Mutex) → mutex_in ms a ≡ Some x → mutex_in (ms ++ xs) a ≡ Some x
in-left [] xs a x e = absurd (let f : None ≡ Some x = e in cc)
in-left (m ∷ ms) xs a x e = by (m.address == a) e (in-left ms xs a x)
  where
    by : (b : Bool) → cond b (Some m) (mutex_in ms a) ≡ Some x → (mutex_in ms a ≡ Some x → mutex_in (ms ++ xs) a ≡ Some x) → cond b (Some m) (mutex_in (ms ++ xs) a) ≡ Some x
    by true f rest = f
    by false f rest = rest f

pub in-right : (ms xs : List Mutex) (a : ℕ) → mutex_in ms a ≡ None → mutex_in (ms ++ xs) a ≡ mutex_in xs a
in-right [] xs a e = refl
in-right (m ∷ ms) xs a e = by (m.address == a) e (in-right ms xs a)
  where
    by : (b : Bool) → cond b (Some m) (mutex_in ms a) ≡ None → (mutex_in ms a ≡ None → mutex_in (ms ++ xs) a ≡ mutex_in xs a) → cond b (Some m) (mutex_in (ms ++ xs) a) ≡ mutex_in xs a
    by true f rest = absurd (let g : Some m ≡ None = f in cc)
    by false f rest = rest f

-- one of both is in the first or in the second
pub data InBoth (ms xs : List Mutex) (a : ℕ) (x : Mutex) : Type 0 where
  in_first : mutex_in ms a ≡ Some x → InBoth ms xs a x
  in_second : mutex_in ms a ≡ None → mutex_in xs a ≡ Some x → InBoth ms xs a x

pub in-both : (ms xs : List Mutex) (a : ℕ) (x : Mutex) → mutex_in (ms ++ xs) a ≡ Some x → InBoth ms xs a x
in-both ms xs a x e = by (mutex_in ms a) refl
  where
    by : (o : Option Mutex) → mutex_in ms a ≡ o → InBoth ms xs a x
    by None f = in_second f (sym (in-right ms xs a f) ∙ e)
    by (Some y) f = in_first (f ∙ (sym (in-left ms xs a y f) ∙ e))

pub in-none : (ms xs : List Mutex) (a : ℕ) → mutex_in (ms ++ xs) a ≡ None → mutex_in ms a ≡ None
in-none ms xs a e = by (mutex_in ms a) refl
  where
    by : (o : Option Mutex) → mutex_in ms a ≡ o → mutex_in ms a ≡ None
    by None f = f
    by (Some y) f = absurd (let g : Some y ≡ None = sym (in-left ms xs a y f) ∙ e in cc)

pub all-append : (chosen : Chosen) (kernel : Kernel) (ms xs : List Mutex) → AllCooperative chosen kernel ms → AllCooperative chosen kernel xs → AllCooperative chosen kernel (ms ++ xs)
all-append chosen kernel [] xs h k = k
all-append chosen kernel (m ∷ ms) xs h k = (h.0, all-append chosen kernel ms xs h.1 k)

pub with-append : (kernel : Kernel) (ms xs : List Mutex) → with_mutexes kernel (ms ++ xs) ≡ with_mutexes (with_mutexes kernel xs) ms
with-append kernel [] xs = refl
with-append kernel (m ∷ ms) xs = ap (λ (k : Kernel). record k { owners = with_owner k.owners m.address m.owner }) (with-append kernel ms xs)

-- an owner that is set to what it is
pub owner-itself : (owners : Owners) (a : ℕ) (o : Option ℕ) → owner_of owners a ≡ Some o → with_owner owners a o ≡ owners
owner-itself [] a o e = absurd (let f : None ≡ Some o = e in cc)
owner-itself (e ∷ owners) a o h = by (e.0 == a) refl h (owner-itself owners a o)
  where
    by : (b : Bool) → (e.0 == a) ≡ b → cond b (Some e.1) (owner_of owners a) ≡ Some o → (owner_of owners a ≡ Some o → with_owner owners a o ≡ owners) → cond b ((a, o) ∷ owners) (e ∷ with_owner owners a o) ≡ e ∷ owners
    by true q f rest = let same : e.1 ≡ o = cc in ap₂ (λ (x : ℕ) (y : Option ℕ). (x, y) ∷ owners) (sym (eqb-true e.0 a q)) (sym same)
    by false q f rest = ap {B = Owners} (λ (r : Owners). e ∷ r) (rest f)

-- ---- the one that a call made cooperative

module _ (chosen : Chosen) (one : OneEnters chosen) (setup : Setup) (kernel after : Kernel) (t : ℕ) (call : Call) (effect : Effect) (served : serve setup kernel t call ≡ Done after effect) where
  -- what it is, where there is one
  abbrev pub new : Mutex
  new = record { address = call.a0; owner = option_map_or (λ owner. owner) (owner_of after.owners call.a0) None; rank = 0 }

  pub bits : (b c : Bool) → (b && not c) ≡ true → (b ≡ true) × (c ≡ false)
  bits true true e = absurd (false≢true e)
  bits true false e = (refl, refl)
  bits false c e = absurd (false≢true e)

  one-kernel : (e : ℕ → Bool) (b : Bool) → (is_cooperative chosen after call.a0 && not (is_cooperative chosen kernel call.a0)) ≡ b → with_mutexes (ended e after) (cond b (new ∷ []) []) ≡ ended e after
  one-kernel e false q = refl
  one-kernel e true q =
      owner-there (owner_of after.owners call.a0) (chosen.inside after call.a0 (bits _ _ q).0) (λ o there.
      ap (λ (owners : Owners). record (ended e after) { owners = owners })
      (ap (with_owner after.owners call.a0) (ap (λ (p : Option (Option ℕ)). option_map_or (λ owner. owner) p None) there) ∙ owner-itself after.owners call.a0 o there))

  -- the kernel stays as it is
  pub entered-kernel : (e : ℕ → Bool) → with_mutexes (ended e after) (entered_by chosen kernel after (Some (Calls call))) ≡ ended e after
  entered-kernel e = one-kernel e _ refl

  one-coop : (b : Bool) → (is_cooperative chosen after call.a0 && not (is_cooperative chosen kernel call.a0)) ≡ b → AllCooperative chosen after (cond b (new ∷ []) [])
  one-coop false e = tt
  one-coop true e = ((bits _ _ e).0, tt)

  last-coop : (ms : List Mutex) → AllCooperative chosen kernel ms → AllCooperative chosen after ms
  last-coop [] h = tt
  last-coop (m ∷ ms) h = (chosen.lasts setup kernel after t call effect m.address served h.0, last-coop ms h.1)

  pub entered-coop : (ms : List Mutex) → AllCooperative chosen kernel ms → AllCooperative chosen after (ms ++ entered_by chosen kernel after (Some (Calls call)))
  entered-coop ms h = all-append chosen after ms _ (last-coop ms h) (one-coop _ refl)

  one-rank : (b : Bool) (a : ℕ) (x : Mutex) → mutex_in (cond b (new ∷ []) []) a ≡ Some x → x.rank ≡ 0
  one-rank false a x e = absurd (let f : None ≡ Some x = e in cc)
  one-rank true a x e = by (call.a0 == a) e
    where
      by : (c : Bool) → cond c (Some new) None ≡ Some x → x.rank ≡ 0
      by true f = let same : new ≡ x = cc in ap (λ (y : Mutex). y.rank) (sym same)
      by false f = absurd (let g : None ≡ Some x = f in cc)

  pub entered-rank : (a : ℕ) (x : Mutex) → mutex_in (entered_by chosen kernel after (Some (Calls call))) a ≡ Some x → x.rank ≡ 0
  entered-rank a x e = one-rank _ a x e

  -- each cooperative mutex is listed
  pub entered-complete : (ms : List Mutex) → ((a : ℕ) → is_cooperative chosen kernel a ≡ true → (x : Mutex) × (mutex_in ms a ≡ Some x)) → (a : ℕ) → is_cooperative chosen after a ≡ true → (x : Mutex) × (mutex_in (ms ++ entered_by chosen kernel after (Some (Calls call))) a ≡ Some x)
  entered-complete ms old a h = ⊎_elim (λ same. at-own same (is_cooperative chosen kernel call.a0) refl) (λ other. listed (old a (sym (one.own setup kernel after t call effect a served other) ∙ h))) (cases_eq a call.a0)
    where
      listed : (x : Mutex) × (mutex_in ms a ≡ Some x) → (x : Mutex) × (mutex_in (ms ++ entered_by chosen kernel after (Some (Calls call))) a ≡ Some x)
      listed p = (p.0, in-left ms _ a p.0 p.1)

      new-there : (b : Bool) → (is_cooperative chosen after call.a0 && not (is_cooperative chosen kernel call.a0)) ≡ b → b ≡ true → a ≡ call.a0 → (x : Mutex) × (mutex_in (ms ++ cond b (new ∷ []) []) a ≡ Some x)
      new-there false e f same = absurd (false≢true f)
      new-there true e f same = by (mutex_in ms a) refl
        where
          by : (o : Option Mutex) → mutex_in ms a ≡ o → (x : Mutex) × (mutex_in (ms ++ new ∷ []) a ≡ Some x)
          by None g = (new, in-right ms (new ∷ []) a g ∙ ap (λ (c : Bool). cond c (Some new) None) (eq-eqb call.a0 a (sym same)))
          by (Some x) g = (x, in-left ms (new ∷ []) a x g)

      at-own : a ≡ call.a0 → (b : Bool) → is_cooperative chosen kernel call.a0 ≡ b → (x : Mutex) × (mutex_in (ms ++ entered_by chosen kernel after (Some (Calls call))) a ≡ Some x)
      at-own same true e = listed (old a (ap (is_cooperative chosen kernel) same ∙ e))
      at-own same false e = new-there _ refl (and_from _ _ (ap (is_cooperative chosen after) (sym same) ∙ h) (ap not e)) same

-- a call that changes nothing makes none cooperative
pub entered-none : (chosen : Chosen) (kernel : Kernel) (o : Option Stop) → entered_by chosen kernel kernel o ≡ []
entered-none chosen kernel None = refl
entered-none chosen kernel (Some (Calls call)) = never (is_cooperative chosen kernel call.a0) _
  where
    never : (b : Bool) (xs : List Mutex) → cond (b && not b) xs [] ≡ []
    never true xs = refl
    never false xs = refl
entered-none chosen kernel (Some (Trap code)) = refl
entered-none chosen kernel (Some (PageFault page)) = refl
entered-none chosen kernel (Some Watchdog) = refl
