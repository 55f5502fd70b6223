-- What of a replica is away with its leases.
use Rattle.std.proofs.Common.{◌≡◌, ℕ, Bool, true, false, true≢false, not, ◌&&◌, ◌||◌, cond, List, [], ◌∷◌, Option, Some, None, refl, sym, ap, ◌∙◌, subst}
use Rattle.std.specs.Prelude.{◌==◌, slice_get}
use Rattle.std.specs.List.{filter, list_any}
use Rattle.std.proofs.lemmas.Bool.{and_left, and_right, or_parts}
use Rattle.ro_pages.specs.Bytes.{page_of}
use Rattle.ro_region.specs.Permission.{is_writable}
use Rattle.ro_kernel.specs.Kernel.{ranges_in}
use Rattle.ro_plain.specs.Machine.{setup_of}
use Rattle.ro_journal.specs.declared.Lease.{Lease}
use Rattle.ro_replica.specs.Replica.{Replica}
use Rattle.ro_replica.specs.Seen.{ReplicaOf, replica_of}
use Rattle.ro_legal.specs.Parts.{Lent, Whole, Pages, Sharing, is_all, is_lent}
use Rattle.ro_legal.specs.Core.{Job, Core, is_home, is_taken, is_free, bars, shares, is_open, lent_by, lent_to, offers_by, offers}
use Rattle.ro_legal.specs.Lent.{IsOfJob}
use Rattle.ro_legal.proofs.Beside.{LendsWhole}
use Rattle.ro_core.specs.Fields.{has_left, is_away, IsHomeOf, IsAtHome}

unnot : (b : Bool) → not b ≡ true → b ≡ false
unnot true e = absurd (true≢false (sym e))
unnot false e = refl

-- where none passes a test, none passes it and another
none-both : (p q : Lease → Bool) (leases : List Lease) → list_any p leases ≡ false → list_any (λ l. p l && q l) leases ≡ false
none-both p q [] e = refl
none-both p q (l ∷ leases) e =
    let parts = or_parts (p l) (list_any p leases) e in
    ap (λ (b : Bool). b || list_any (λ x. p x && q x) leases) (and_left (p l) (q l) parts.0) ∙ none-both p q leases parts.1

-- one that passes both passes the first
both-first : (p q : Lease → Bool) (leases : List Lease) → list_any (λ l. p l && q l) leases ≡ true → list_any p leases ≡ true
both-first p q leases e = by (list_any p leases) refl
  where
    by : (b : Bool) → list_any p leases ≡ b → list_any p leases ≡ true
    by true f = f
    by false f = absurd (true≢false (sym e ∙ none-both p q leases f))

-- a test that says more
more-pass : (p q : Lease → Bool) → ((l : Lease) → p l ≡ true → q l ≡ true) → (leases : List Lease) → list_any p leases ≡ true → list_any q leases ≡ true
more-pass p q each [] e = absurd (true≢false (sym e))
more-pass p q each (l ∷ leases) e = by (p l) refl e (more-pass p q each leases)
  where
    later : (b : Bool) → list_any q leases ≡ true → (b || list_any q leases) ≡ true
    later true f = refl
    later false f = f

    by : (b : Bool) → p l ≡ b → (b || list_any p leases) ≡ true → (list_any p leases ≡ true → list_any q leases ≡ true) → (q l || list_any q leases) ≡ true
    by true is f rest = ap (λ (b : Bool). b || list_any q leases) (each l is)
    by false is f rest = later (q l) (rest f)

-- of a replica that is at home nothing has left
pub home-stays : (core : Core) (number : ℕ) → is_home core number ≡ true → has_left core number ≡ false
home-stays core number home = none-both (λ l. l.replica == number) (λ l. is_all (core.lent l.driver)) core.leases (unnot _ home)

pub home-untaken : (core : Core) (number : ℕ) → is_home core number ≡ true → (page : ℕ) → is_taken core number page ≡ false
home-untaken core number home page = none-both (λ l. l.replica == number) (λ l. is_lent (core.lent l.driver) page) core.leases (unnot _ home)

pub home-none-away : (job : Job) (core : Core) (number : ℕ) (replica : Replica) → is_home core number ≡ true → (page : ℕ) → is_away job core number replica.backed page ≡ false
home-none-away job core number replica home page =
    and_right (replica.backed page) _ (and_right (is_writable (ranges_in (setup_of job.program) core.kernel) page) (is_taken core number page) (home-untaken core number home page))

-- a replica of which the whole is out is not at home
pub left-away : (core : Core) (number : ℕ) → has_left core number ≡ true → is_home core number ≡ false
left-away core number left = ap not (both-first (λ l. l.replica == number) (λ l. is_all (core.lent l.driver)) core.leases left)

-- and nothing of it is offered
pub left-unoffered : (core : Core) (number thread : ℕ) → has_left core number ≡ true → offers core number thread ≡ false
left-unoffered core number thread left = by core.sharing
  where
    barred : list_any (bars core number thread) core.leases ≡ true
    barred = more-pass (λ l. (l.replica == number) && is_all (core.lent l.driver)) (bars core number thread) (λ l. all (l.replica == number) (l.thread == thread) (is_all (core.lent l.driver))) core.leases left
      where
        all : (a b c : Bool) → (a && c) ≡ true → (a && (b || c)) ≡ true
        all true true c e = refl
        all true false c e = e
        all false b c e = absurd (true≢false (sym e))

    by-share : (sharing : Sharing) (b : Bool) → cond b (is_open sharing core number thread) (is_home core number) ≡ false
    by-share sharing true = and_left _ _ (ap not barred)
    by-share sharing false = left-away core number left

    by : (o : Option Sharing) → offers_by o core number thread ≡ false
    by None = left-away core number left
    by (Some sharing) = by-share sharing (shares sharing core number thread)

-- where each lease is of a whole replica, one that has not left is at home
pub whole-home : (core : Core) (number : ℕ) → LendsWhole core → has_left core number ≡ false → is_home core number ≡ true
whole-home core number whole stays = ap not (same core.leases stays)
  where
    same : (leases : List Lease) → list_any (λ l. (l.replica == number) && is_all (core.lent l.driver)) leases ≡ false → list_any (λ l. l.replica == number) leases ≡ false
    same [] e = refl
    same (l ∷ leases) e =
        let parts = or_parts ((l.replica == number) && is_all (core.lent l.driver)) _ e in
        ap (λ (b : Bool). b || list_any (λ x. x.replica == number) leases) (first (l.replica == number) (ap (λ (x : Lent). (l.replica == number) && is_all x) (sym (whole.whole l.driver)) ∙ parts.0)) ∙ same leases parts.1
      where
        first : (a : Bool) → (a && true) ≡ false → a ≡ false
        first true f = absurd (true≢false f)
        first false f = refl

-- a home of which nothing is away is the replica
pub home-is : (away : ℕ → Bool) (replica : Replica) (value : ReplicaOf) → IsHomeOf away replica value → ((page : ℕ) → away page ≡ false) → replica_of value ≡ replica
home-is away replica value h none = λ i. record {
  memory = λ a. sym (h.bytes.same a (none (page_of a))) i;
  backed = h.backed i;
  threads = h.threads i;
  waiting = h.waiting i;
}

-- and a replica that is there is a home of itself, whatever is away
pub itself-home : (away : ℕ → Bool) (value : ReplicaOf) → IsHomeOf away (replica_of value) value
itself-home away value = record { threads = refl; waiting = refl; backed = refl; bytes = record { same = λ a e. refl } }

pub is-itself : (away : ℕ → Bool) (replica : Replica) (value : ReplicaOf) → replica_of value ≡ replica → IsHomeOf away replica value
is-itself away replica value same = subst (λ (r : Replica). IsHomeOf away r value) same (itself-home away value)

-- what stands in a seat where nothing of the replica is lent
pub whole-there : (job : Job) (core : Core) (number : ℕ) (value : ReplicaOf) → IsAtHome job core number value → is_home core number ≡ true → slice_get core.replicas number ≡ Some (replica_of value)
whole-there job core number value s home =
    s.there ∙ ap Some (sym (home-is (is_away job core number s.replica.backed) s.replica value s.home (home-none-away job core number s.replica home)))

-- and the other way round
pub there-whole : (job : Job) (core : Core) (number : ℕ) (value : ReplicaOf) (replica : Replica) → has_left core number ≡ false → IsOfJob job core.kernel value → slice_get core.replicas number ≡ Some replica → replica_of value ≡ replica → IsAtHome job core number value
there-whole job core number value replica stays own there same = record {
  stays = stays;
  own = own;
  replica = replica;
  there = there;
  home = is-itself (is_away job core number replica.backed) replica value same;
}

-- where the whole replica is offered, and lent, it is at home
pub whole-offer : (core : Core) (number thread : ℕ) → offers core number thread ≡ true → lent_to core number thread ≡ Whole → is_home core number ≡ true
whole-offer core number thread = by core.sharing
  where
    by-share : (sharing : Sharing) (b : Bool) → cond b (is_open sharing core number thread) (is_home core number) ≡ true → cond b (Pages (filter (is_free sharing core number) (core.wishes number thread))) Whole ≡ Whole → is_home core number ≡ true
    by-share sharing true offered whole = absurd (let e : Pages (filter (is_free sharing core number) (core.wishes number thread)) ≡ Whole = whole in cc)
    by-share sharing false home whole = home

    by : (o : Option Sharing) → offers_by o core number thread ≡ true → lent_by o core number thread ≡ Whole → is_home core number ≡ true
    by None home whole = home
    by (Some sharing) offered whole = by-share sharing (shares sharing core number thread) offered whole
