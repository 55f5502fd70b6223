-- Which owners a call sets: none, or that of its mutex; so an address that stands in the table stays there.
use Rattle.std.specs.Prelude.{◌≡◌, ℕ, true, Option, Some, None, is_some}
use Rattle.std.proofs.Common.{refl, sym, ap, ◌∙◌, ⊎_elim}
use Rattle.std.proofs.lemmas.Bool.{cases_eq}
use Rattle.ro_event.specs.declared.calls.Which.TheVariants.{Function}
use Rattle.ro_event.specs.declared.functions.Function.TheVariants.{Wait}
use Rattle.ro_event.specs.declared.calls.Call.{Call}
use Rattle.ro_event.specs.Effects.{Effect}
use Rattle.ro_journal.specs.declared.How.{How}
use Rattle.ro_mutex.specs.Owners.{Owners, owner_of, with_owner}
use Rattle.ro_mutex.proofs.Given.{owner_of-given, owner_of-other}
use Rattle.ro_kernel.specs.Kernel.{Setup, Kernel}
use Rattle.ro_kernel.specs.Serve.{Served, Done, Parked, Blocked, Ends, serve}
use Rattle.ro_kernel.proofs.Shapes.{IsOnMutex, Shape, says, reads, breaks, maps_more, owns, wakes, parks_at, resumes, makes, joins, leaves, of_word, waits, stops, stops_last, shape-of}

-- an address stands in the table
abbrev pub InTable : Owners → ℕ → Type 0
InTable owners m = is_some (owner_of owners m) ≡ true

-- an address that stands there stays there
pub stays-in-table : (owners : Owners) (m a : ℕ) (o : Option ℕ) → InTable owners m → InTable (with_owner owners a o) m
stays-in-table owners m a o h =
    ⊎_elim
    (λ same. ap (λ x. is_some (owner_of (with_owner owners a o) x)) same ∙ ap is_some (owner_of-given owners a o))
    (λ other. ap is_some (owner_of-other owners a m o other) ∙ h)
    (cases_eq m a)

-- where an address stands there, the same addresses do after its owner is set
pub same-table : (owners : Owners) (m a : ℕ) (o : Option ℕ) → InTable owners m → is_some (owner_of (with_owner owners m o) a) ≡ is_some (owner_of owners a)
same-table owners m a o h =
    ⊎_elim
    (λ same. ap (λ x. is_some (owner_of (with_owner owners m o) x)) same ∙ (ap is_some (owner_of-given owners m o) ∙ (sym h ∙ ap (λ x. is_some (owner_of owners x)) (sym same))))
    (λ other. ap is_some (owner_of-other owners m a o other))
    (cases_eq a m)

-- none, or the one of its mutex
pub data OwnersAfter (kernel : Kernel) (call : Call) : Served → Type 0 where
  as_before : {after : Kernel} {effect : Effect} → after.owners ≡ kernel.owners → OwnersAfter kernel call (Done after effect)
  one_set : {after : Kernel} {effect : Effect} → (o : Option ℕ) → IsOnMutex kernel.owners call.a0 call.which → after.owners ≡ with_owner kernel.owners call.a0 o → OwnersAfter kernel call (Done after effect)
  one_back : {after : Kernel} {effect : Effect} → (o : Option ℕ) → call.which ≡ Function Wait → after.owners ≡ with_owner kernel.owners call.a1 o → OwnersAfter kernel call (Done after effect)
  one_freed : {after : Kernel} → call.which ≡ Function Wait → after.owners ≡ with_owner kernel.owners call.a1 None → OwnersAfter kernel call (Parked after)
  none_there : OwnersAfter kernel call Blocked
  at_the_end : {after : Kernel} {how : How} → OwnersAfter kernel call (Ends after how)

module _ (setup : Setup) (kernel : Kernel) (u : ℕ) (call : Call) where
  after-of : {served : Served} → Shape setup kernel u call served → OwnersAfter kernel call served
  after-of (says value) = as_before refl
  after-of (reads number e xs h) = as_before refl
  after-of (breaks e end) = as_before refl
  after-of (maps_more e some room) = as_before refl
  after-of (owns on fit owner) = one_set owner on refl
  after-of (wakes ws w) = as_before refl
  after-of (parks_at w e h) = one_freed w refl
  after-of (resumes w waiter e h) = one_back (Some u) w refl
  after-of (makes w f n) = as_before refl
  after-of (joins w value e h) = as_before refl
  after-of (leaves w) = as_before refl
  after-of (of_word word value reserved e low store) = as_before refl
  after-of (waits w) = none_there
  after-of (stops status) = at_the_end
  after-of (stops_last w) = at_the_end

  pub owners-after : OwnersAfter kernel call (serve setup kernel u call)
  owners-after = after-of (shape-of setup kernel u call)

-- an address that stands in the table stays there
pub table-lasts : (kernel : Kernel) (call : Call) (m : ℕ) (served : Served) → OwnersAfter kernel call served → (after : Kernel) (effect : Effect) → served ≡ Done after effect → InTable kernel.owners m → InTable after.owners m
table-lasts kernel call m (Done k e') (as_before e) after effect is h = ap (λ (s : Kernel). is_some (owner_of s.owners m)) (let f : k ≡ after = cc in sym f) ∙ (ap (λ (o : Owners). is_some (owner_of o m)) e ∙ h)
table-lasts kernel call m (Done k e') (one_set o on e) after effect is h =
    ap (λ (s : Kernel). is_some (owner_of s.owners m)) (let f : k ≡ after = cc in sym f)
    ∙ (ap (λ (owners : Owners). is_some (owner_of owners m)) e ∙ stays-in-table kernel.owners m call.a0 o h)
table-lasts kernel call m (Done k e') (one_back o w e) after effect is h =
    ap (λ (s : Kernel). is_some (owner_of s.owners m)) (let f : k ≡ after = cc in sym f)
    ∙ (ap (λ (owners : Owners). is_some (owner_of owners m)) e ∙ stays-in-table kernel.owners m call.a1 o h)
table-lasts kernel call m (Parked k) (one_freed w e) after effect is h = absurd (let f : Parked k ≡ Done after effect = is in cc)
table-lasts kernel call m Blocked none_there after effect is h = absurd (let f : Blocked ≡ Done after effect = is in cc)
table-lasts kernel call m (Ends k how) at_the_end after effect is h = absurd (let f : Ends k how ≡ Done after effect = is in cc)
