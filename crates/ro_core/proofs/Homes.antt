-- The seats of the replicas, and what an entry more does to them.
use Rattle.std.proofs.Common.{◌≡◌, ℕ, ◌<◌, Bool, false, true≢false, ◌&&◌, List, length, Option, Some, None, refl, sym, ap, ◌∙◌, subst, arith, eq-eqb}
use Rattle.std.specs.Prelude.{◌==◌, slice_get}
use Rattle.std.proofs.lemmas.Option.{slice_get_within, slice_get-get_or}
use Rattle.ro_kernel.specs.Kernel.{Kernel, ranges_in}
use Rattle.ro_replica.specs.Replica.{Replica}
use Rattle.ro_replica.specs.Seen.{ReplicaOf}
use Rattle.ro_region.specs.Permission.{is_writable}
use Rattle.ro_pages.specs.Bytes.{page_of}
use Rattle.ro_plain.specs.Machine.{setup_of}
use Rattle.ro_legal.specs.Core.{Job, Core, is_taken}
use Rattle.ro_core.specs.Seen.{IsOfJob}
use Rattle.ro_core.specs.Fields.{Seated, AreSeated, IsAtHome, has_left, is_away}

pub seat_there : (job : Job) (core : Core) (seats : List (Option ReplicaOf)) (replica : ℕ) (r : Replica) → AreSeated job core seats → has_left core replica ≡ false → slice_get core.replicas replica ≡ Some r
    → (value : ReplicaOf) × (slice_get seats replica ≡ Some (Some value)) × IsAtHome job core replica value
seat_there job core seats replica r seated stays there = by (slice_get seats replica) refl (seated.each replica)
  where
    within : replica < length seats
    within = let h : replica < length core.replicas = slice_get_within core.replicas replica r there in let c : length seats ≡ length core.replicas = seated.count in omega arith

    by : (o : Option (Option ReplicaOf)) → slice_get seats replica ≡ o → Seated job core replica o → (value : ReplicaOf) × (slice_get seats replica ≡ Some (Some value)) × IsAtHome job core replica value
    by None f s = absurd (let g : None ≡ Some _ = sym f ∙ slice_get-get_or seats replica None within in cc)
    by (Some None) f s = absurd (true≢false (sym s ∙ stays))
    by (Some (Some value)) f s = (value, f, s)

pub differ_by : (m n : ℕ) → (m == n) ≡ false → m ≡ n → ⊥
differ_by m n e f = true≢false (sym (eq-eqb m n f) ∙ e)

-- a seat that an entry leaves alone, of a replica of which no less is there
pub same_seat : (job : Job) (old new : Core) (number : ℕ) (seat : Option (Option ReplicaOf)) → new.kernel ≡ old.kernel → has_left new number ≡ has_left old number → slice_get new.replicas number ≡ slice_get old.replicas number
    → ((page : ℕ) → is_taken new number page ≡ is_taken old number page) → Seated job old number seat → Seated job new number seat
same_seat job old new number None k h r t s = tt
same_seat job old new number (Some None) k h r t s = h ∙ s
same_seat job old new number (Some (Some value)) k h r t s = record {
  stays = h ∙ s.stays;
  own = subst (λ (x : Kernel). IsOfJob job x value) (sym k) s.own;
  replica = s.replica;
  there = r ∙ s.there;
  home = record {
    threads = s.home.threads;
    waiting = s.home.waiting;
    backed = s.home.backed;
    bytes = record { same = λ a e. s.home.bytes.same a (sym (same-away (page_of a)) ∙ e) };
  };
}
  where
    same-away : (page : ℕ) → is_away job new number s.replica.backed page ≡ is_away job old number s.replica.backed page
    same-away page =
        ap (λ (x : Kernel). s.replica.backed page && (is_writable (ranges_in (setup_of job.program) x) page && is_taken new number page)) k
        ∙ ap (λ (b : Bool). s.replica.backed page && (is_writable (ranges_in (setup_of job.program) old.kernel) page && b)) (t page)
