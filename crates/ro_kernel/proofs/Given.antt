-- What a served call gives to the program is in its effect, and nothing else gives a range.
use Rattle.std.specs.Prelude.{◌≡◌, ◌==◌, ⊤, ℕ, zero, suc, ◌+◌, ◌<◌, ◌≤◌, false, [], length, nat_lt, IfSome}
use Rattle.std.proofs.Common.{refl, sym, subst, ◌∙◌, arith, inl, inr}
use Rattle.std.proofs.lemmas.Bool.{cases_lt, lt-ltb, true≢false}
use Rattle.ro_event.specs.declared.calls.Call.{Call}
use Rattle.ro_event.specs.Effects.{Effect}
use Rattle.ro_region.specs.Permission.{with_range}
use Rattle.ro_kernel.specs.Kernel.{Setup, Kernel}
use Rattle.ro_kernel.specs.Mapped.{in_pages, IsMapped}
use Rattle.ro_kernel.specs.Serve.{Served, Done, Parked, Blocked, Ends, serve}
use Rattle.ro_kernel.proofs.Shapes.{Shape, says, reads, breaks, maps_more, owns, wakes, parks_at, resumes, makes, joins, leaves, of_word, waits, stops, stops_last, shape-of}
use Rattle.ro_journal.specs.declared.How.{How}

-- the ranges after whatever comes of a call
abbrev pub Gives : (before : Kernel) → Served → Type 0
Gives before (Done after effect) = after.given ≡ with_range effect.range before.given
Gives before (Parked after) = after.given ≡ before.given
Gives before Blocked = ⊤
Gives before (Ends after how) = after.given ≡ before.given

module _ (setup : Setup) (kernel : Kernel) (u : ℕ) (call : Call) where
  gives-of : {served : Served} → Shape setup kernel u call served → Gives kernel served
  gives-of (says value) = refl
  gives-of (reads number e xs h) = refl
  gives-of (breaks e end) = refl
  gives-of (maps_more e some room) = refl
  gives-of (owns on fit owner) = refl
  gives-of (wakes ws w) = refl
  gives-of (parks_at w e h) = refl
  gives-of (resumes w waiter e h) = refl
  gives-of (makes w f n) = refl
  gives-of (joins w value e h) = refl
  gives-of (leaves w) = refl
  gives-of (of_word word value reserved e low store) = refl
  gives-of (waits w) = tt
  gives-of (stops status) = refl
  gives-of (stops_last w) = refl

  pub serve-gives : Gives kernel (serve setup kernel u call)
  serve-gives = gives-of (shape-of setup kernel u call)

-- a call that is served gives what its effect says
pub given-done : (setup : Setup) (kernel : Kernel) (u : ℕ) (call : Call) (after : Kernel) (effect : Effect) → serve setup kernel u call ≡ Done after effect → after.given ≡ with_range effect.range kernel.given
given-done setup kernel u call after effect e = subst (Gives kernel) e (serve-gives setup kernel u call)

-- one that does its first step, or ends the program, gives nothing
pub given-parked : (setup : Setup) (kernel : Kernel) (u : ℕ) (call : Call) (after : Kernel) → serve setup kernel u call ≡ Parked after → after.given ≡ kernel.given
given-parked setup kernel u call after e = subst (Gives kernel) e (serve-gives setup kernel u call)

pub given-ended : (setup : Setup) (kernel : Kernel) (u : ℕ) (call : Call) (after : Kernel) (how : How) → serve setup kernel u call ≡ Ends after how → after.given ≡ kernel.given
given-ended setup kernel u call after how e = subst (Gives kernel) e (serve-gives setup kernel u call)

-- a range that a call gives lies where the others end, within what may be given
abbrev pub MapsMore : Kernel → Served → Type 0
MapsMore before (Done after effect) = IsMapped before.given → IsMapped after.given
MapsMore before (Parked after) = IsMapped before.given → IsMapped after.given
MapsMore before Blocked = ⊤
MapsMore before (Ends after how) = IsMapped before.given → IsMapped after.given

-- and there is a place for it
abbrev HasRoom : Kernel → Served → Type 0
HasRoom before (Done after effect) = IfSome effect.range (λ range. length before.given < 4096)
HasRoom before _ = ⊤

pub at-most : (m n : ℕ) → nat_lt m n ≡ false → n ≤ m
at-most m n h = elim (cases_lt m n) [
  | inl less ↦ absurd (true≢false (sym (lt-ltb m n less) ∙ h))
  | inr more ↦ more
]

one-page : (n : ℕ) → (n == 0) ≡ false → 4096 ≤ in_pages n
one-page zero h = absurd (true≢false h)
one-page (suc n) h = omega arith

module _ (setup : Setup) (kernel : Kernel) (u : ℕ) (call : Call) where
  maps-of : {served : Served} → Shape setup kernel u call served → MapsMore kernel served
  maps-of (says value) = λ h. h
  maps-of (reads number e xs p) = λ h. h
  maps-of (breaks e end) = λ h. h
  maps-of (maps_more e some room) = λ h. record {
    pages = let p = h.pages in let o = one-page call.a1 some in omega arith;
    within = at-most _ _ room;
  }
  maps-of (owns on fit owner) = λ h. h
  maps-of (wakes ws w) = λ h. h
  maps-of (parks_at w e o) = λ h. h
  maps-of (resumes w waiter e o) = λ h. h
  maps-of (makes w f n) = λ h. h
  maps-of (joins w value e o) = λ h. h
  maps-of (leaves w) = λ h. h
  maps-of (of_word word value reserved e low store) = λ h. h
  maps-of (waits w) = tt
  maps-of (stops status) = λ h. h
  maps-of (stops_last w) = λ h. h

  pub serve-maps : MapsMore kernel (serve setup kernel u call)
  serve-maps = maps-of (shape-of setup kernel u call)

  room-of : {served : Served} → Shape setup kernel u call served → IsMapped kernel.given → HasRoom kernel served
  room-of (says value) h = tt
  room-of (reads number e xs p) h = tt
  room-of (breaks e end) h = tt
  room-of (maps_more e some room) h =
      let p = h.pages in
      let o = one-page call.a1 some in
      let w = at-most _ _ room in
      omega arith
  room-of (owns on fit owner) h = tt
  room-of (wakes ws w) h = tt
  room-of (parks_at w e o) h = tt
  room-of (resumes w waiter e o) h = tt
  room-of (makes w f n) h = tt
  room-of (joins w value e o) h = tt
  room-of (leaves w) h = tt
  room-of (of_word word value reserved e low store) h = tt
  room-of (waits w) h = tt
  room-of (stops status) h = tt
  room-of (stops_last w) h = tt

  pub range-room : (after : Kernel) (effect : Effect) → serve setup kernel u call ≡ Done after effect → IsMapped kernel.given → IfSome effect.range (λ range. length kernel.given < 4096)
  range-room after effect e h = subst (HasRoom kernel) e (room-of (shape-of setup kernel u call) h)

-- a call that gives a range stores no bytes, and the range ends within what may be given
abbrev GivesAlone : Served → Type 0
GivesAlone (Done after effect) = IfSome effect.range (λ range. (effect.bytes ≡ []) × (range.start + range.length ≤ 0x51000000))
GivesAlone _ = ⊤

module _ (setup : Setup) (kernel : Kernel) (u : ℕ) (call : Call) where
  alone-of : {served : Served} → Shape setup kernel u call served → GivesAlone served
  alone-of (says value) = tt
  alone-of (reads number e xs p) = tt
  alone-of (breaks e end) = tt
  alone-of (maps_more e some room) = (refl, at-most _ _ room)
  alone-of (owns on fit owner) = tt
  alone-of (wakes ws w) = tt
  alone-of (parks_at w e o) = tt
  alone-of (resumes w waiter e o) = tt
  alone-of (makes w f n) = tt
  alone-of (joins w value e o) = tt
  alone-of (leaves w) = tt
  alone-of (of_word word value reserved e low store) = tt
  alone-of (waits w) = tt
  alone-of (stops status) = tt
  alone-of (stops_last w) = tt

  pub range-alone : (after : Kernel) (effect : Effect) → serve setup kernel u call ≡ Done after effect → IfSome effect.range (λ range. (effect.bytes ≡ []) × (range.start + range.length ≤ 0x51000000))
  range-alone after effect e = subst GivesAlone e (alone-of (shape-of setup kernel u call))
