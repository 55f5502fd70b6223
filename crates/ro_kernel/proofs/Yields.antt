-- A fact of the kernel and the effect after each call that is served.
use Rattle.std.specs.Prelude.{◌≡◌, Bool, true, false, cond}
use Rattle.std.proofs.Common.{subst}
use Rattle.ro_event.specs.Effects.{Effect}
use Rattle.ro_journal.specs.declared.How.{How}
use Rattle.ro_kernel.specs.Kernel.{Kernel}
use Rattle.ro_kernel.specs.Serve.{Served, Done, Parked, Blocked, Ends}

pub data Yields (P : Kernel → Effect → Type 0) : Served → Type 0 where
  done : {after : Kernel} {effect : Effect} → P after effect → Yields P (Done after effect)
  parked : {after : Kernel} → Yields P (Parked after)
  blocked : Yields P Blocked
  ends : {after : Kernel} {how : How} → Yields P (Ends after how)

pub yields-cond : (P : Kernel → Effect → Type 0) (b : Bool) (x y : Served) → Yields P x → Yields P y → Yields P (cond b x y)
yields-cond P true x y p q = p
yields-cond P false x y p q = q

its : (P : Kernel → Effect → Type 0) (after : Kernel) (effect : Effect) → Yields P (Done after effect) → P after effect
its P after effect (done h) = h

pub yields-done : (P : Kernel → Effect → Type 0) (served : Served) (after : Kernel) (effect : Effect) → Yields P served → served ≡ Done after effect → P after effect
yields-done P served after effect h e = its P after effect (subst (Yields P) e h)
