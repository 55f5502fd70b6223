-- On what hangs which thread is the lowest whose call, on which it is blocked, would be done.
use Rattle.std.specs.Prelude.{◌≡◌, ℕ, zero, suc, false, List, [], ◌∷◌, length, Option, Some, None, slice_set}
use Rattle.std.proofs.Common.{refl, sym, ap, ◌∙◌}
use Rattle.std.specs.Option.{option_map_or}
use Rattle.ro_event.specs.declared.calls.Call.{Call}
use Rattle.ro_kernel.specs.declared.Life.{Life}
use Rattle.ro_kernel.specs.Kernel.{Setup}
use Rattle.ro_kernel.specs.State.{State}
use Rattle.ro_kernel.specs.Serve.{serves}
use Rattle.ro_legal.specs.Action.{lowest_below}
use Rattle.ro_serving.specs.Happening.{LeavesWaiting}
use Rattle.ro_serving.proofs.Leaves.{serves-same}
use Rattle.ro_legal.proofs.Lowest.{lowest-same}
use Rattle.ro_core.specs.Fields.{blocked_at, is_unblocked, first_unblocked}

-- nor which thread is the lowest whose call would be
pub first-same : (old new : State) (blocked : List (Option Call)) → new.setup ≡ old.setup → LeavesWaiting old.kernel new.kernel → first_unblocked new blocked ≡ first_unblocked old blocked
first-same old new blocked setup left =
    ap (λ (s : Setup). first_unblocked (record { setup = s; kernel = new.kernel }) blocked) setup
    ∙ ap (λ (ls : List Life). lowest_below (length ls) (is_unblocked old.setup new.kernel blocked)) left.lives
    ∙ lowest-same (is_unblocked old.setup new.kernel blocked) (is_unblocked old.setup old.kernel blocked) (length old.kernel.lives) (λ thread. by thread (blocked_at blocked thread))
  where
    by : (thread : ℕ) (call : Option Call) → option_map_or (λ c. serves old.setup new.kernel thread c) call false ≡ option_map_or (λ c. serves old.setup old.kernel thread c) call false
    by thread None = refl
    by thread (Some call) = serves-same old.setup old.kernel new.kernel left thread call

-- a thread that was not blocked, and is not
pub still-unblocked : (blocked : List (Option Call)) (thread : ℕ) (call : Option Call) → blocked_at blocked thread ≡ None → call ≡ None → slice_set blocked thread call ≡ blocked
still-unblocked [] thread call was is = refl
still-unblocked (b ∷ blocked) zero call was is = ap (λ (o : Option Call). o ∷ blocked) (is ∙ sym was)
still-unblocked (b ∷ blocked) (suc thread) call was is = ap (λ (os : List (Option Call)). b ∷ os) (still-unblocked blocked thread call was is)
