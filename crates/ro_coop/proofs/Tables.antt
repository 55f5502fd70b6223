-- The kernel as a peer sees it: its owners of cooperative mutexes over the core's kernel, and the reservations of threads whose calls it answered ended.
use Rattle.std.specs.Prelude.{◌≡◌, ◌≢◌, ◌≤◌, ℕ, zero, suc, ◌+◌, Bool, true, false, cond, if◌then◌else◌, List, [], ◌∷◌, length, Option, Some, None, ◌==◌, slice_set}
use Rattle.std.proofs.Common.{refl, sym, ap, ap₂, ◌∙◌, subst, arith}
use Rattle.std.proofs.lemmas.Bool.{true≢false, eqb-true, eq-eqb}
use Rattle.ro_event.specs.declared.calls.Call.{Call}
use Rattle.ro_mutex.specs.Owners.{Owners, owner_of, with_owner}
use Rattle.ro_mutex.proofs.Given.{owner_of-given, owner_of-other}
use Rattle.ro_region.specs.declared.Range.{Range}
use Rattle.ro_kernel.specs.Kernel.{Setup, Kernel, released}
use Rattle.ro_kernel.specs.Serve.{Served, Done, Parked, Blocked, Ends, serve}
use Rattle.ro_kernel.proofs.InTable.{InTable}
use Rattle.ro_plain.specs.Machine.{Program, layout_in}
use Rattle.ro_orders.specs.Turns.{Chosen, is_cooperative}
use Rattle.ro_orders.specs.Answers.{changed}
use Rattle.ro_orders.proofs.Owners.{with_owner-comm}
use Rattle.ro_orders.proofs.Served.{changed_served, Avoids, serve-changed}
use Rattle.ro_peer.specs.declared.mutexes.Mutex.{Mutex}
use Rattle.ro_peer.specs.Peers.{Peer, mutex_in, mutex_after, with_mutex, with_mutexes, kernel_in}
use Rattle.ro_coop.specs.Core.{OneEnters}
use Rattle.ro_coop.proofs.Ended.{Reservations, ended, ended_served, still-more, coop-ended, serve-ended}

-- each of the mutexes is cooperative
abbrev pub AllCooperative : Chosen → Kernel → List Mutex → Type 0
AllCooperative chosen kernel [] = Unit {0}
AllCooperative chosen kernel (m ∷ mutexes) = (is_cooperative chosen kernel m.address ≡ true) × AllCooperative chosen kernel mutexes

twice-cons : (e : ℕ × Option ℕ) (owners : Owners) (a : ℕ) (p o : Option ℕ) (b : Bool) → (e.0 == a) ≡ b → with_owner (with_owner owners a p) a o ≡ with_owner owners a o
    → with_owner (cond b ((a, p) ∷ owners) (e ∷ with_owner owners a p)) a o ≡ cond b ((a, o) ∷ owners) (e ∷ with_owner owners a o)
twice-cons e owners a p o true f rest = ap (λ (t : Bool). cond t ((a, o) ∷ owners) ((a, p) ∷ with_owner owners a o)) (eq-eqb a a refl)
twice-cons e owners a p o false f rest =
    ap (λ (t : Bool). cond t ((a, o) ∷ with_owner owners a p) (e ∷ with_owner (with_owner owners a p) a o)) f
    ∙ ap {B = Owners} (λ (r : Owners). e ∷ r) rest

-- the last owner that is set stands
pub with_owner-twice : (owners : Owners) (a : ℕ) (p o : Option ℕ) → with_owner (with_owner owners a p) a o ≡ with_owner owners a o
with_owner-twice [] a p o = ap (λ (t : Bool). cond t ((a, o) ∷ []) ((a, p) ∷ (a, o) ∷ [])) (eq-eqb a a refl)
with_owner-twice (e ∷ owners) a p o = twice-cons e owners a p o (e.0 == a) refl (with_owner-twice owners a p o)

pub lives-with : (kernel : Kernel) (mutexes : List Mutex) → (with_mutexes kernel mutexes).lives ≡ kernel.lives
lives-with kernel [] = refl
lives-with kernel (m ∷ mutexes) = lives-with kernel mutexes

-- which mutexes are cooperative does not hang on who owns them
pub coop-with : (chosen : Chosen) (kernel : Kernel) (mutexes : List Mutex) → AllCooperative chosen kernel mutexes → (a : ℕ) → is_cooperative chosen (with_mutexes kernel mutexes) a ≡ is_cooperative chosen kernel a
coop-with chosen kernel [] all a = refl
coop-with chosen kernel (m ∷ mutexes) all a =
    chosen.changes (with_mutexes kernel mutexes) m.address a m.owner (coop-with chosen kernel mutexes all.1 m.address ∙ all.0) ∙ coop-with chosen kernel mutexes all.1 a

inside-with : (chosen : Chosen) (kernel : Kernel) (mutexes : List Mutex) → AllCooperative chosen kernel mutexes → (a : ℕ) → is_cooperative chosen kernel a ≡ true → InTable (with_mutexes kernel mutexes).owners a
inside-with chosen kernel mutexes all a h = chosen.inside (with_mutexes kernel mutexes) a (coop-with chosen kernel mutexes all a ∙ h)

-- one that is listed is cooperative
pub listed-coop : (chosen : Chosen) (kernel : Kernel) (mutexes : List Mutex) → AllCooperative chosen kernel mutexes → (a : ℕ) (m : Mutex) → mutex_in mutexes a ≡ Some m → is_cooperative chosen kernel a ≡ true
listed-coop chosen kernel [] all a m e = absurd (let f : None ≡ Some m = e in cc)
listed-coop chosen kernel (x ∷ mutexes) all a m e = by (x.address == a) refl e (listed-coop chosen kernel mutexes all.1 a m)
  where
    by : (b : Bool) → (x.address == a) ≡ b → cond b (Some x) (mutex_in mutexes a) ≡ Some m → (mutex_in mutexes a ≡ Some m → is_cooperative chosen kernel a ≡ true) → is_cooperative chosen kernel a ≡ true
    by true q f rest = subst (λ (n : ℕ). is_cooperative chosen kernel n ≡ true) (eqb-true x.address a q) all.0
    by false q f rest = rest f

-- its owner is the peer's
pub owner-with : (kernel : Kernel) (mutexes : List Mutex) (a : ℕ) (m : Mutex) → mutex_in mutexes a ≡ Some m → owner_of (with_mutexes kernel mutexes).owners a ≡ Some m.owner
owner-with kernel [] a m e = absurd (let f : None ≡ Some m = e in cc)
owner-with kernel (x ∷ mutexes) a m e = by (x.address == a) refl e (owner-with kernel mutexes a m)
  where
    by : (b : Bool) → (x.address == a) ≡ b → cond b (Some x) (mutex_in mutexes a) ≡ Some m → (mutex_in mutexes a ≡ Some m → owner_of (with_mutexes kernel mutexes).owners a ≡ Some m.owner) → owner_of (with_owner (with_mutexes kernel mutexes).owners x.address x.owner) a ≡ Some m.owner
    by true q f rest =
        let same : x ≡ m = cc in
        subst (λ (n : ℕ). owner_of (with_owner (with_mutexes kernel mutexes).owners x.address x.owner) n ≡ Some m.owner) (eqb-true x.address a q)
        (owner_of-given (with_mutexes kernel mutexes).owners x.address x.owner ∙ ap (λ (y : Mutex). Some y.owner) same)
    by false q f rest =
        owner_of-other (with_mutexes kernel mutexes).owners x.address a x.owner (λ s. absurd (true≢false (sym (eq-eqb x.address a (sym s)) ∙ q))) ∙ rest f

-- ---- a change of one of them

module _ (chosen : Chosen) (kernel : Kernel) (a : ℕ) (o : Option ℕ) where
  set-cons : (x : Mutex) (mutexes : List Mutex) (m : Mutex) → (is_cooperative chosen kernel x.address ≡ true) → AllCooperative chosen kernel mutexes → (b : Bool) → (x.address == a) ≡ b → cond b (Some x) (mutex_in mutexes a) ≡ Some m
      → (mutex_in mutexes a ≡ Some m → with_mutexes kernel (with_mutex mutexes a (Some o)) ≡ record (with_mutexes kernel mutexes) { owners = with_owner (with_mutexes kernel mutexes).owners a o })
      → with_mutexes kernel (cond b (mutex_after (Some o) x ∷ mutexes) (x ∷ with_mutex mutexes a (Some o))) ≡ record (with_mutexes kernel (x ∷ mutexes)) { owners = with_owner (with_mutexes kernel (x ∷ mutexes)).owners a o }
  set-cons x mutexes m coop all true q e rest =
      let same = eqb-true x.address a q in
      ap (λ (owners : Owners). record (with_mutexes kernel mutexes) { owners = owners })
      (sym (with_owner-twice (with_mutexes kernel mutexes).owners x.address x.owner o) ∙ ap (λ (n : ℕ). with_owner (with_owner (with_mutexes kernel mutexes).owners x.address x.owner) n o) same)
  set-cons x mutexes m coop all false q e rest =
      ap (λ (k : Kernel). record k { owners = with_owner k.owners x.address x.owner }) (rest e)
      ∙ ap (λ (owners : Owners). record (with_mutexes kernel mutexes) { owners = owners })
      (sym (with_owner-comm (with_mutexes kernel mutexes).owners a x.address o x.owner (λ s. true≢false (sym (eq-eqb x.address a (sym s)) ∙ q)) (inside-with chosen kernel mutexes all x.address coop)))

  -- the kernel's owner changes with the peer's
  owner-set : (mutexes : List Mutex) (m : Mutex) → AllCooperative chosen kernel mutexes → mutex_in mutexes a ≡ Some m → with_mutexes kernel (with_mutex mutexes a (Some o)) ≡ record (with_mutexes kernel mutexes) { owners = with_owner (with_mutexes kernel mutexes).owners a o }
  owner-set [] m all e = absurd (let f : None ≡ Some m = e in cc)
  owner-set (x ∷ mutexes) m all e = set-cons x mutexes m all.0 all.1 (x.address == a) refl e (owner-set mutexes m all.1)

none-with : (mutexes : List Mutex) (a : ℕ) → with_mutex mutexes a None ≡ mutexes
none-with [] a = refl
none-with (x ∷ mutexes) a = by (x.address == a) (none-with mutexes a)
  where
    by : (b : Bool) → with_mutex mutexes a None ≡ mutexes → cond b (x ∷ mutexes) (x ∷ with_mutex mutexes a None) ≡ x ∷ mutexes
    by true rest = refl
    by false rest = ap {B = List Mutex} (λ (r : List Mutex). x ∷ r) rest

-- the reservations stay as they are, and so do the ranges
reserved-with : (kernel : Kernel) (rs : Reservations) (mutexes : List Mutex) → with_mutexes (record kernel { reserved = rs }) mutexes ≡ record (with_mutexes kernel mutexes) { reserved = rs }
reserved-with kernel rs [] = refl
reserved-with kernel rs (m ∷ mutexes) = ap (λ (k : Kernel). record k { owners = with_owner k.owners m.address m.owner }) (reserved-with kernel rs mutexes)

same-reserved : (kernel : Kernel) (mutexes : List Mutex) → (with_mutexes kernel mutexes).reserved ≡ kernel.reserved
same-reserved kernel [] = refl
same-reserved kernel (m ∷ mutexes) = same-reserved kernel mutexes

given-with : (kernel : Kernel) (mutexes : List Mutex) → (with_mutexes kernel mutexes).given ≡ kernel.given
given-with kernel [] = refl
given-with kernel (m ∷ mutexes) = given-with kernel mutexes

released-with : (kernel : Kernel) (mutexes : List Mutex) (t : ℕ) → released (with_mutexes kernel mutexes) t ≡ with_mutexes (released kernel t) mutexes
released-with kernel mutexes t =
    ap (λ (rs : Reservations). record (with_mutexes kernel mutexes) { reserved = slice_set rs t None }) (same-reserved kernel mutexes)
    ∙ sym (reserved-with kernel (slice_set kernel.reserved t None) mutexes)

-- an answer changes the owner, and ends the thread's reservation
pub changed-with : (chosen : Chosen) (kernel : Kernel) (mutexes : List Mutex) (t a : ℕ) (m : Mutex) (change : Option (Option ℕ)) → AllCooperative chosen (released kernel t) mutexes → mutex_in mutexes a ≡ Some m → changed change a t (with_mutexes kernel mutexes) ≡ with_mutexes (released kernel t) (with_mutex mutexes a change)
changed-with chosen kernel mutexes t a m None all e = released-with kernel mutexes t ∙ ap (with_mutexes (released kernel t)) (sym (none-with mutexes a))
changed-with chosen kernel mutexes t a m (Some o) all e =
    ap (λ (k : Kernel). record k { owners = with_owner k.owners a o }) (released-with kernel mutexes t) ∙ sym (owner-set chosen (released kernel t) a o mutexes m all e)

-- ---- a call that is on none of them

abbrev pub AllAvoid : Call → List Mutex → Type 0
AllAvoid call [] = Unit {0}
AllAvoid call (m ∷ mutexes) = Avoids call m.address × AllAvoid call mutexes

-- what comes of a call, with one owner set
abbrev given_served : (mutex : ℕ) → Option ℕ → Served → Served
given_served m o (Done kernel effect) = Done (record kernel { owners = with_owner kernel.owners m o }) effect
given_served m o (Parked kernel) = Parked (record kernel { owners = with_owner kernel.owners m o })
given_served m o Blocked = Blocked
given_served m o (Ends kernel how) = Ends (record kernel { owners = with_owner kernel.owners m o }) how

-- for how many threads there may be reservations afterwards
abbrev reserved_after : Served → ℕ
reserved_after (Done kernel effect) = length kernel.reserved
reserved_after (Parked kernel) = length kernel.reserved
reserved_after Blocked = 0
reserved_after (Ends kernel how) = length kernel.reserved

set-beyond : (rs : Reservations) (t : ℕ) → length rs ≤ t → slice_set rs t None ≡ rs
set-beyond [] t h = refl
set-beyond (r ∷ rs) zero h = absurd (omega arith)
set-beyond (r ∷ rs) (suc t) h = ap (λ (xs : Reservations). r ∷ xs) (set-beyond rs t (omega arith))

-- a thread that has no reservation
changed-beyond : (m : ℕ) (o : Option ℕ) (kernel : Kernel) (t : ℕ) → length kernel.reserved ≤ t → changed (Some o) m t kernel ≡ record kernel { owners = with_owner kernel.owners m o }
changed-beyond m o kernel t h = ap (λ (rs : Reservations). record kernel { owners = with_owner kernel.owners m o; reserved = rs }) (set-beyond kernel.reserved t h)

served-beyond : (m : ℕ) (o : Option ℕ) (t : ℕ) (served : Served) → reserved_after served ≤ t → changed_served (Some o) m t served ≡ given_served m o served
served-beyond m o t (Done kernel effect) h = ap (λ (k : Kernel). Done k effect) (changed-beyond m o kernel t h)
served-beyond m o t (Parked kernel) h = ap Parked (changed-beyond m o kernel t h)
served-beyond m o t Blocked h = refl
served-beyond m o t (Ends kernel how) h = ap (λ (k : Kernel). Ends k how) (changed-beyond m o kernel t h)

-- a call that is not on the mutex is served alike, whoever owns it
serve-given : (setup : Setup) (kernel : Kernel) (u : ℕ) (call : Call) (m : ℕ) (o : Option ℕ) → InTable kernel.owners m → Avoids call m → serve setup (record kernel { owners = with_owner kernel.owners m o }) u call ≡ given_served m o (serve setup kernel u call)
serve-given setup kernel u call m o inside avoid =
    ap (λ (k : Kernel). serve setup k u call) (sym (changed-beyond m o kernel t within))
    ∙ (serve-changed setup kernel t u other call m (Some o) inside avoid
    ∙ served-beyond m o t (serve setup kernel u call) after_within)
  where
    t : ℕ
    t = suc (u + (length kernel.reserved + reserved_after (serve setup kernel u call)))

    other : t ≢ u
    other e = omega arith

    within : length kernel.reserved ≤ t
    within = omega arith

    after_within : reserved_after (serve setup kernel u call) ≤ t
    after_within = omega arith

abbrev pub served_with : List Mutex → Served → Served
served_with mutexes (Done kernel effect) = Done (with_mutexes kernel mutexes) effect
served_with mutexes (Parked kernel) = Parked (with_mutexes kernel mutexes)
served_with mutexes Blocked = Blocked
served_with mutexes (Ends kernel how) = Ends (with_mutexes kernel mutexes) how

served-cons : (m : Mutex) (mutexes : List Mutex) (served : Served) → given_served m.address m.owner (served_with mutexes served) ≡ served_with (m ∷ mutexes) served
served-cons m mutexes (Done kernel effect) = refl
served-cons m mutexes (Parked kernel) = refl
served-cons m mutexes Blocked = refl
served-cons m mutexes (Ends kernel how) = refl

served-nil : (served : Served) → served ≡ served_with [] served
served-nil (Done kernel effect) = refl
served-nil (Parked kernel) = refl
served-nil Blocked = refl
served-nil (Ends kernel how) = refl

-- it is served alike
pub serve-with : (setup : Setup) (chosen : Chosen) (kernel : Kernel) (t : ℕ) (call : Call) (mutexes : List Mutex) → AllCooperative chosen kernel mutexes → AllAvoid call mutexes → serve setup (with_mutexes kernel mutexes) t call ≡ served_with mutexes (serve setup kernel t call)
serve-with setup chosen kernel t call [] all avoid = served-nil _
serve-with setup chosen kernel t call (m ∷ mutexes) all avoid =
    serve-given setup (with_mutexes kernel mutexes) t call m.address m.owner (inside-with chosen kernel mutexes all.1 m.address all.0) avoid.0
    ∙ (ap (given_served m.address m.owner) (serve-with setup chosen kernel t call mutexes all.1 avoid.1)
    ∙ served-cons m mutexes (serve setup kernel t call))

-- ---- as a peer sees it

pub kernel-in : (kernel : Kernel) (peer : Peer) → kernel_in kernel peer ≡ with_mutexes (ended peer.answered kernel) peer.mutexes
kernel-in kernel peer = sym (reserved-with kernel _ peer.mutexes)

-- the same live threads
pub lives-in : (kernel : Kernel) (peer : Peer) → (kernel_in kernel peer).lives ≡ kernel.lives
lives-in kernel peer = lives-with kernel peer.mutexes

-- addresses mean the same
pub layout-in : (program : Program) (kernel : Kernel) (peer : Peer) → layout_in program (kernel_in kernel peer) ≡ layout_in program kernel
layout-in program kernel peer = ap (λ (given : List Range). layout_in program (record kernel { given = given })) (given-with kernel peer.mutexes)

module _ (chosen : Chosen) (one : OneEnters chosen) (kernel : Kernel) where
  pub all-ended : (e : ℕ → Bool) (mutexes : List Mutex) → AllCooperative chosen kernel mutexes → AllCooperative chosen (ended e kernel) mutexes
  all-ended e [] all = tt
  all-ended e (m ∷ mutexes) all = (coop-ended chosen one e kernel m.address ∙ all.0, all-ended e mutexes all.1)

  module _ (peer : Peer) (all : AllCooperative chosen kernel peer.mutexes) where
    -- the same mutexes are cooperative
    pub coop-in : (a : ℕ) → is_cooperative chosen (kernel_in kernel peer) a ≡ is_cooperative chosen kernel a
    coop-in a =
        ap (λ (k : Kernel). is_cooperative chosen k a) (kernel-in kernel peer)
        ∙ (coop-with chosen (ended peer.answered kernel) peer.mutexes (all-ended peer.answered peer.mutexes all) a ∙ coop-ended chosen one peer.answered kernel a)

    -- its owners are those of its mutexes
    pub owner-in : (a : ℕ) (m : Mutex) → mutex_in peer.mutexes a ≡ Some m → owner_of (kernel_in kernel peer).owners a ≡ Some m.owner
    owner-in a m e = owner-with kernel peer.mutexes a m e

    -- an answer changes them, and ends the thread's reservation
    pub changed-in : (t a : ℕ) (m : Mutex) (change : Option (Option ℕ)) → mutex_in peer.mutexes a ≡ Some m → (after : Peer) → after.mutexes ≡ with_mutex peer.mutexes a change → after.answered ≡ (λ u. if u == t then true else peer.answered u) → changed change a t (kernel_in kernel peer) ≡ kernel_in kernel after
    changed-in t a m change e after ms same_answers =
        ap (changed change a t) (kernel-in kernel peer)
        ∙ (changed-with chosen (ended peer.answered kernel) peer.mutexes t a m change (subst (λ (k : Kernel). AllCooperative chosen k peer.mutexes) (sym more) (all-ended (λ u. if u == t then true else peer.answered u) peer.mutexes all)) e
        ∙ (ap (λ (k : Kernel). with_mutexes k (with_mutex peer.mutexes a change)) more
        ∙ (ap₂ (λ (ns : List Mutex) (g : ℕ → Bool). with_mutexes (ended g kernel) ns) (sym ms) (sym same_answers)
        ∙ sym (kernel-in kernel after))))
      where
        more : released (ended peer.answered kernel) t ≡ ended (λ u. if u == t then true else peer.answered u) kernel
        more = ap (λ (rs : Reservations). record kernel { reserved = rs }) (still-more peer.answered kernel.reserved t)

    -- a call on none of its mutexes, of a thread whose reservation did not end, is served alike
    pub serve-in : (setup : Setup) (t : ℕ) (call : Call) → AllAvoid call peer.mutexes → peer.answered t ≡ false → serve setup (kernel_in kernel peer) t call ≡ served_with peer.mutexes (ended_served peer.answered (serve setup kernel t call))
    serve-in setup t call avoid none =
        ap (λ (k : Kernel). serve setup k t call) (kernel-in kernel peer)
        ∙ (serve-with setup chosen (ended peer.answered kernel) t call peer.mutexes (all-ended peer.answered peer.mutexes all) avoid
        ∙ ap (served_with peer.mutexes) (serve-ended peer.answered setup kernel t none call))
