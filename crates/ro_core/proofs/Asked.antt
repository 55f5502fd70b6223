-- What the questions to a core answer, from its fields.
use Rattle.std.proofs.Common.{◌≡◌, ℕ, ◌<◌, ◌≤◌, Bool, true, false, not, ◌&&◌, length, Option, Some, None, refl, sym, ap, ◌∙◌, subst, arith}
use Rattle.std.specs.Prelude.{◌↔◌, IfSome, is_none, slice_get}
use Rattle.std.specs.Option.{option_map_or}
use Rattle.std.proofs.lemmas.Option.{slice_get_within}
use Rattle.ro_journal.specs.declared.How.{How}
use Rattle.ro_journal.specs.declared.Did.{Did}
use Rattle.ro_journal.specs.declared.losers.Lost.{Lost}
use Rattle.ro_kernel.specs.Kernel.{lives_on}
use Rattle.ro_replica.specs.Replica.{Replica}
use Rattle.ro_replica.specs.Views.{is_unstopped}
use Rattle.ro_legal.specs.Core.{Job, Core, is_going, is_home, nothing_lent, offers, is_lendable}
use Rattle.ro_legal.specs.Legal.{MayVote, EndsVote, may_scrub, MayScrub, EndsScrub}
use Rattle.ro_legal.specs.Action.{lend_next}
use Rattle.ro_replica.specs.Seen.{ReplicaOf, replica_of}
use Rattle.ro_legal.proofs.Lists.{get-within}
use Rattle.ro_core.specs.Fields.{Fields, IsSeat, Seated, core_in, Holds}
use Rattle.ro_core.proofs.Away.{home-stays, whole-there}
use Rattle.ro_core.proofs.Homes.{seat_there}
use Rattle.ro_core.proofs.Tests.{count-is}
use Rattle.ro_legal.proofs.Leases.{asleep-unlent}
use Rattle.ro_legal.proofs.Lowest.{none-lent, some-none}
use Rattle.ro_legal.proofs.Single.{no-end, one-end, scrub-no-end, one-scrub-end}

and-last : (b : Bool) → (b && false) ≡ false
and-last true = refl
and-last false = refl

-- ---- the end in the place of a vote

-- where one end comes
pub some-end : (job : Job) (core : Core) (thread : ℕ) (how : How) → EndsVote job core thread how → (other : How) → (Some how ≡ Some other) ↔ EndsVote job core thread other
some-end job core thread how e other = (
  λ f. subst (EndsVote job core thread) (let g : Some how ≡ Some other = f in let same : how ≡ other = cc in same) e,
  λ f. ap (λ (h : How). Some h) (one-end job core thread how other e f),
)

-- and where none does
pub none-ends : (job : Job) (core : Core) (thread count won : ℕ) (lost : Lost) (did : Did) → MayVote job core thread count won lost did → (other : How) → (None ≡ Some other) ↔ EndsVote job core thread other
none-ends job core thread count won lost did m other = (
  λ f. absurd (let g : None ≡ Some other = f in cc),
  λ e. absurd (no-end job core thread count won lost did m other e),
)

-- a replica that is not there is not lent
pub lends-within : (f : Fields) → Holds f → (replica thread : ℕ) → f.job.settings.replicas ≤ replica → false ≡ is_lendable (core_in f) replica thread
lends-within f h replica thread far = sym (asleep-unlent (core_in f) replica thread (by (slice_get (core_in f).replicas replica) refl))
  where
    by : (o : Option Replica) → slice_get (core_in f).replicas replica ≡ o → (offers (core_in f) replica thread && lives_on (core_in f).kernel thread && option_map_or (is_unstopped thread) o false) ≡ false
    by None e = and-last (offers (core_in f) replica thread && lives_on (core_in f).kernel thread)
    by (Some r) e = absurd (let w = slice_get_within (core_in f).replicas replica r e in let c = count-is f h in omega arith)

-- ---- a scrub

-- so the replicas may be scrubbed where nothing is lent and nothing can be
pub scrub-by-lending : (core : Core) (idle none : Bool) → idle ≡ (is_going core && nothing_lent core) → none ≡ is_none (lend_next core) → (idle && none) ≡ may_scrub core
scrub-by-lending core idle none e f = ap (λ (b : Bool). b && none) e ∙ ap (λ (b : Bool). is_going core && nothing_lent core && b) (f ∙ some-none (lend_next core) ∙ ap not (none-lent core))

-- where one end comes in its place
pub some-scrub-end : (job : Job) (core : Core) (how : How) → EndsScrub core how → (other : How) → (Some how ≡ Some other) ↔ EndsScrub core other
some-scrub-end job core how e other = (
  λ f. subst (EndsScrub core) (let g : Some how ≡ Some other = f in let same : how ≡ other = cc in same) e,
  λ f. ap (λ (h : How). Some h) (one-scrub-end job core how other e f),
)

-- and where none does
pub none-scrub-ends : (job : Job) (core : Core) (won : ℕ) (lost : Lost) → MayScrub core won lost → (other : How) → (None ≡ Some other) ↔ EndsScrub core other
none-scrub-ends job core won lost m other = (
  λ f. absurd (let g : None ≡ Some other = f in cc),
  λ e. absurd (scrub-no-end job core won lost m other e),
)

-- ---- a replica of which nothing is out

module _ (f : Fields) (h : Holds f) (number : ℕ) where
  -- what is in its seat is the replica
  pub home-there : is_home (core_in f) number ≡ true → (value : ReplicaOf) → slice_get f.seats number ≡ Some (Some value) → slice_get (core_in f).replicas number ≡ Some (replica_of value)
  home-there home value there = whole-there f.job (core_in f) number value (subst (λ (o : Option (Option ReplicaOf)). Seated f.job (core_in f) number o) there (h.seats_are.each number)) home

  -- and it is there
  pub home-seat : number < length (core_in f).replicas → is_home (core_in f) number ≡ true → IsSeat f.seats number
  home-seat less home =
      let r = get-within (core_in f).replicas number less in
      let s = seat_there f.job (core_in f) f.seats number r.0 h.seats_are (home-stays (core_in f) number home) r.1 in
      (s.0, s.1)

-- what is shown
pub shows : {R : Type 0} {P Q : ReplicaOf → Type 0} (view : R → ReplicaOf) (o : Option R) → ((value : ReplicaOf) → P value → Q value) → IfSome o (λ r. P (view r)) → IfSome o (λ r. Q (view r))
shows view None so p = tt
shows view (Some r) so p = so (view r) p
