-- What a replica's runs have learnt of its pages remains true, and its ranges behind an effect.
use Rattle.std.specs.Prelude.{◌≡◌, ℕ, ◌||◌, Bool, List, ◌++◌, Option, Some, None, slice_get}
use Rattle.std.proofs.Common.{refl, sym, ap, ◌∙◌, subst}
use Rattle.ro_event.specs.declared.table.CallTable.{CallTable}
use Rattle.ro_region.specs.declared.Range.{Range}
use Rattle.ro_region.specs.Permission.{Ranges, ranges_of, with_range}
use Rattle.ro_pages.specs.Held.{Held, has_page}
use Rattle.ro_exec.specs.declared.learnt.Learnt.{Learnt}
use Rattle.ro_exec.specs.Next.{Layout}
use Rattle.ro_exec.specs.Stretches.{IsLearnt}
use Rattle.ro_replica.specs.Seen.{ReplicaOf, Widens}
use Rattle.ro_exec.proofs.Staying.{learnt-stays, learnt-wider}

-- it is true of a replica's pages
abbrev pub IsTrueOf : (ranges : List Range) → CallTable → Held → Learnt → Type 0
IsTrueOf ranges calls held learnt = IsLearnt (record { ranges = ranges; calls = calls }) (has_page held.pages) (slice_get held.numbers) learnt

-- where the same pages stand at the same places
pub same_pages : (ranges : List Range) (calls : CallTable) (old new : Held) (learnt : Learnt) → ((page : ℕ) → has_page old.pages page ≡ has_page new.pages page) → slice_get new.numbers ≡ slice_get old.numbers → IsTrueOf ranges calls old learnt → IsTrueOf ranges calls new learnt
same_pages ranges calls old new learnt pages places is =
    learnt-stays (record { ranges = ranges; calls = calls }) (has_page old.pages) (has_page new.pages) (slice_get old.numbers) (slice_get new.numbers) learnt
    (λ page backed. sym (pages page) ∙ backed) (λ place page there. ap (λ f. f place) places ∙ there) is

-- where more pages are backed, and none moves
pub more_pages : (ranges : List Range) (calls : CallTable) (old new : Held) (learnt : Learnt) (one others : ℕ → Bool) → has_page new.pages ≡ (λ page. has_page old.pages page || one page || others page) → ((place page : ℕ) → slice_get old.numbers place ≡ Some page → slice_get new.numbers place ≡ Some page) → IsTrueOf ranges calls old learnt → IsTrueOf ranges calls new learnt
more_pages ranges calls old new learnt one others backed stay is =
    learnt-stays (record { ranges = ranges; calls = calls }) (has_page old.pages) (has_page new.pages) (slice_get old.numbers) (slice_get new.numbers) learnt
    (λ page was. ap (λ f. f page) backed ∙ ap (λ b. b || one page || others page) was) stay is

with-first : (range : Option Range) (given first : List Range) → with_range range given ++ first ≡ with_range range (given ++ first)
with-first None given first = refl
with-first (Some range) given first = refl

-- where a range more is permitted
pub more_ranges : (range : Option Range) (old new : Ranges) (calls : CallTable) (held : Held) (learnt : Learnt) → new ≡ record old { given = with_range range old.given } → IsTrueOf (ranges_of old) calls held learnt → IsTrueOf (ranges_of new) calls held learnt
more_ranges range old new calls held learnt same is =
    subst (λ (r : List Range). IsTrueOf r calls held learnt) (sym (with-first range old.given old.first) ∙ sym (ap ranges_of same))
    (learnt-wider range (record { ranges = ranges_of old; calls = calls }) (has_page held.pages) (slice_get held.numbers) learnt is)

-- what an effect leaves of a program with these ranges
pub widens : (range of : Option Range) (old new : ReplicaOf) (before after : Ranges) (calls : CallTable) → range ≡ of → after ≡ record before { given = with_range range before.given }
    → old.layout ≡ record { ranges = ranges_of before; calls = calls } → old.given ≡ before.given → new.layout ≡ record { ranges = ranges_of after; calls = calls } → new.given ≡ after.given → new.watchdog ≡ old.watchdog → Widens of new old
widens range of old new before after calls is same layout given new_layout new_given watchdog = subst (λ (r : Option Range). Widens r new old) is (record {
  layout = new_layout ∙ ap (λ (r : List Range). record { ranges = r; calls = calls }) (ap ranges_of same ∙ with-first range before.given before.first) ∙ ap (λ (l : Layout). record l { ranges = with_range range l.ranges }) (sym layout);
  given = new_given ∙ ap (λ (r : Ranges). r.given) same ∙ ap (with_range range) (sym given);
  watchdog = watchdog;
})
