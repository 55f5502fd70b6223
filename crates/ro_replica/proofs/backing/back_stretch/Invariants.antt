use Rattle.std.proofs.Common.{ℕ, ◌≡◌, ◌+◌, ◌-◌, ◌/◌, ◌≤◌, Some}
use Rattle.std.specs.Prelude.{◌||◌, slice_get}
use Rattle.ro_pages.specs.Held.{memory_of, has_page}
use Rattle.ro_replica.proofs.Spans.{is_between}
use Rattle.ro_replica.proofs.backing.back_stretch.Given as goal

abbrev pub invariant-loop-page : goal.invariant-loop-page
invariant-loop-page l = record {
  bytes : memory_of l.pages.pages ≡ memory_of l.fn.pages.pages;
  backed : has_page l.pages.pages ≡ (λ page. has_page l.fn.pages.pages page || is_between (l.place / 4096) l.page page);
  stay : (place page : ℕ) → slice_get l.fn.pages.numbers place ≡ Some page → slice_get l.pages.numbers place ≡ Some page;
  spare : l.fn.pages.spare ≤ l.pages.spare + (l.page - l.place / 4096);
}
