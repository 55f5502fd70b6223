-- What the theorem says of two or three replicas, of which at most one differs.
use Rattle.std.specs.Prelude.{◌≡◌, ◌≢◌, ℕ, ◌<◌, ◌⊎◌, List, [], ◌∷◌, ◌++◌, Some, None, slice_get}
use Rattle.ro_journal.specs.declared.Did.{Did}
use Rattle.ro_journal.specs.declared.Lease.{Lease}
use Rattle.ro_journal.specs.declared.Entry.{Entry}
use Rattle.ro_journal.specs.declared.Entry.TheVariants.{Put, Vote}
use Rattle.ro_journal.specs.declared.losers.Lost.TheVariants.{One}
use Rattle.ro_replica.specs.Replica.{Replica}
use Rattle.ro_plain.specs.Machine.{Machine}
use Rattle.ro_legal.specs.Core.{Job}
use Rattle.ro_legal.specs.Legal.{replay}
use Rattle.ro_legal.specs.Ideal.{ideal, IsAlike}

-- Two or three replicas run.
abbrev pub TwoOrThree : Job → Type 0
TwoOrThree job = (job.settings.replicas ≡ 2) ⊎ (job.settings.replicas ≡ 3)

-- Faults strike no replica while another is not alike.
abbrev pub StrikesAlone : Job → List Entry → Type 0
StrikesAlone job journal =
    (before rest : List Entry) (lease : Lease) (count hit : ℕ) →
    journal ≡ before ++ Put lease count hit ∷ rest → 0 < hit →
    (other : ℕ) (r : Replica) → other ≢ lease.replica → slice_get (replay job before).replicas other ≡ Some r → IsAlike job before r

-- At most one replica, of this number, is not alike.
pub record AtMostOneDiffers (job : Job) (journal : List Entry) : Type 0 where
  pub odd : ℕ
  pub others_alike : (number : ℕ) (replica : Replica) → number ≢ odd → slice_get (replay job journal).replicas number ≡ Some replica → IsAlike job journal replica

-- A copy is made from a replica that is alike, and after it every replica is alike, unless the program ended.
pub record HealsAll (job : Job) (before : List Entry) (vote : Entry) (won : ℕ) : Type 0 where
  pub winner_alike : (winner : Replica) → slice_get (replay job before).replicas won ≡ Some winner → IsAlike job before winner
  pub then_all : (machine : Machine) → ideal job (before ++ vote ∷ []) ≡ Some machine → machine.ended ≡ None →
      (number : ℕ) (replica : Replica) → slice_get (replay job (before ++ vote ∷ [])).replicas number ≡ Some replica → IsAlike job (before ++ vote ∷ []) replica

-- Each copy of the journal is such a one.
abbrev pub EachHealsAll : Job → List Entry → Type 0
EachHealsAll job journal =
    (before rest : List Entry) (thread count won lost : ℕ) (did : Did) → journal ≡ before ++ Vote thread count won (One lost) did ∷ rest →
    HealsAll job before (Vote thread count won (One lost) did) won

-- While the ideal machine goes on, at most one replica differs, and each copy leaves none that does.
pub record OneDiffers (job : Job) (journal : List Entry) : Type 0 where
  pub at_most_one : (machine : Machine) → ideal job journal ≡ Some machine → machine.ended ≡ None → AtMostOneDiffers job journal
  pub copies : EachHealsAll job journal
