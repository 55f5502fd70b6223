-- A lane stays one for its replica.
use Rattle.std.specs.Prelude.{◌≡◌, List, ◌++◌, Option, Some, None}
use Rattle.std.proofs.Common.{refl, sym, ap, ◌∙◌}
use Rattle.ro_region.specs.declared.Range.{Range}
use Rattle.ro_region.specs.Permission.{with_range}
use Rattle.ro_exec.specs.Next.{Layout}
use Rattle.ro_replica.specs.Seen.{ReplicaOf, SameProgram, Widens}
use Rattle.ro_replica.specs.Lent.{LaneOf, IsLaneFor, HasProgram, SameProgramOf}

-- when it was lent
pub for-lent : (lane after : LaneOf) (replica : ReplicaOf) → IsLaneFor lane replica → HasProgram after replica → IsLaneFor after replica
for-lent lane after replica is has = record {
  first = is.first;
  lane_has = ap (λ (l : Layout). l.ranges) has.layout ∙ (is.replica_has ∙ ap (λ (g : List Range). g ++ is.first) (sym has.given));
  replica_has = is.replica_has;
  calls = ap (λ (l : Layout). l.calls) has.layout;
}

-- when it ran or came back
pub for-same : (lane after : LaneOf) (old new : ReplicaOf) → IsLaneFor lane old → SameProgramOf after lane → SameProgram new old → IsLaneFor after new
for-same lane after old new is mine its = record {
  first = is.first;
  lane_has = ap (λ (l : Layout). l.ranges) mine.layout ∙ (is.lane_has ∙ ap (λ (g : List Range). g ++ is.first) (sym mine.given));
  replica_has = ap (λ (l : Layout). l.ranges) its.layout ∙ (is.replica_has ∙ ap (λ (g : List Range). g ++ is.first) (sym its.given));
  calls = ap (λ (l : Layout). l.calls) mine.layout ∙ (is.calls ∙ ap (λ (l : Layout). l.calls) (sym its.layout));
}

with-first : (range : Option Range) (given first : List Range) → with_range range (given ++ first) ≡ with_range range given ++ first
with-first None given first = refl
with-first (Some range) given first = refl

-- when its replica is given a range more
pub for-wider : (lane : LaneOf) (range : Option Range) (old new : ReplicaOf) → IsLaneFor lane old → Widens range new old → IsLaneFor lane new
for-wider lane range old new is more = record {
  first = is.first;
  lane_has = is.lane_has;
  replica_has = ap (λ (l : Layout). l.ranges) more.layout ∙ (ap (with_range range) is.replica_has ∙ (with-first range old.given is.first ∙ ap (λ (g : List Range). g ++ is.first) (sym more.given)));
  calls = is.calls ∙ ap (λ (l : Layout). l.calls) (sym more.layout);
}
