-- Where all mutexes of the table are cooperative, a call that is served makes none so but its own.
use Rattle.std.specs.Prelude.{◌≡◌, ◌≢◌, ⊤, ℕ, Bool, true, false, cond, Option, Some, None, is_some}
use Rattle.std.proofs.Common.{refl, sym, ap, ◌∙◌, subst, ⊎_elim}
use Rattle.std.proofs.lemmas.Bool.{cases_eq, and_parts, false≢true}
use Rattle.ro_event.specs.declared.calls.Call.{Call}
use Rattle.ro_event.specs.Functions.{functions}
use Rattle.ro_mutex.specs.Owners.{owner_of, with_owner}
use Rattle.ro_mutex.proofs.Given.{owner_of-given, owner_of-other}
use Rattle.ro_kernel.specs.Kernel.{Setup, Kernel}
use Rattle.ro_kernel.specs.Serve.{Served, Done, is_free}
use Rattle.ro_kernel.proofs.Shapes.{Shape, says, reads, breaks, maps_more, owns, wakes, parks_at, resumes, makes, joins, leaves, of_word, waits, stops, stops_last, shape-of}
use Rattle.ro_plain.specs.Machine.{Program}
use Rattle.ro_orders.specs.Choices.{in_table, no_mutex, has_otherwise, chosen_of}
use Rattle.ro_coop.specs.Core.{OneEnters}

-- the same addresses stand in the table, but for that of the call
abbrev SameBut : Kernel → Call → Served → Type 0
SameBut kernel call (Done after effect) = (m : ℕ) → m ≢ call.a0 → is_some (owner_of after.owners m) ≡ is_some (owner_of kernel.owners m)
SameBut kernel call served = ⊤

-- a mutex that is free stands there
free-there : (o : Option (Option ℕ)) → is_free o ≡ true → is_some o ≡ true
free-there (Some o) h = refl
free-there None h = h

module _ (setup : Setup) (kernel : Kernel) (u : ℕ) (call : Call) where
  set-again : (a : ℕ) (o : Option ℕ) → is_some (owner_of kernel.owners a) ≡ true → (m : ℕ) → is_some (owner_of (with_owner kernel.owners a o) m) ≡ is_some (owner_of kernel.owners m)
  set-again a o inside m =
      ⊎_elim
      (λ (same : m ≡ a). ap (λ (x : ℕ). is_some (owner_of (with_owner kernel.owners a o) x)) same ∙ (ap is_some (owner_of-given kernel.owners a o) ∙ (sym inside ∙ ap (λ (x : ℕ). is_some (owner_of kernel.owners x)) (sym same))))
      (λ (other : m ≢ a). ap is_some (owner_of-other kernel.owners a m o other))
      (cases_eq m a)

  same-of : {served : Served} → Shape setup kernel u call served → SameBut kernel call served
  same-of (says value) = λ m d. refl
  same-of (reads number e xs h) = λ m d. refl
  same-of (breaks e end) = λ m d. refl
  same-of (maps_more e some room) = λ m d. refl
  same-of (owns on fit owner) = λ m d. ap is_some (owner_of-other kernel.owners call.a0 m owner d)
  same-of (wakes ws w) = λ m d. refl
  same-of (parks_at w e h) = tt
  same-of (resumes w waiter e h) = λ m d. set-again call.a1 (Some u) (free-there (owner_of kernel.owners call.a1) (and_parts waiter.signalled (is_free (owner_of kernel.owners call.a1)) h).1) m
  same-of (makes w f n) = λ m d. refl
  same-of (joins w value e h) = λ m d. refl
  same-of (leaves w) = λ m d. refl
  same-of (of_word word value reserved e low store) = λ m d. refl
  same-of (waits w) = tt
  same-of (stops status) = tt
  same-of (stops_last w) = tt

pub one-enters : OneEnters in_table
unfolding in_table
one-enters = record {
  own = λ setup kernel after thread call effect other e d. subst (SameBut kernel call) e (same-of setup kernel thread call (shape-of setup kernel thread call)) other d;
  news = λ setup kernel after thread call effect mutex e before now. before;
}

none-enters : OneEnters no_mutex
unfolding no_mutex
none-enters = record {
  own = λ setup kernel after thread call effect other e d. refl;
  news = λ setup kernel after thread call effect mutex e before now. absurd (false≢true now);
}

-- and so where they are chosen by the program's table of calls
pub chosen-enters : (program : Program) → OneEnters (chosen_of program)
chosen-enters program = by (has_otherwise program.image.calls.addresses functions)
  where
    by : (b : Bool) → OneEnters (cond b no_mutex in_table)
    by true = none-enters
    by false = one-enters
