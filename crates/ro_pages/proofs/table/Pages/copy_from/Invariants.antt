use Rattle.std.proofs.Common.{ℕ, ◌≡◌, ◌≤◌, vec_len, vec_capacity, false, drop}
use Rattle.std.specs.FinMap as map
use Rattle.ro_pages.specs.Directories.{is_listed}
use Rattle.ro_pages.specs.Held.{pages_of}
use Rattle.ro_pages.proofs.Unequal.{CountsSoFar}
use Rattle.ro_pages.specs.Words.{bytes_in}
use Rattle.ro_pages.proofs.table.Pages.copy_from.Given as goal

abbrev pub invariant-loop-page : goal.invariant-loop-page
invariant-loop-page l = record {
  directory : l.self-inside.directory ≡ l.initial.self-inside.directory;
  spare : l.self-inside.spare ≡ l.initial.self-inside.spare;
  full : vec_len l.self-inside.backed ≡ vec_len l.initial.self-inside.backed;
  capacity : vec_capacity l.self-inside.backed ≡ vec_capacity l.initial.self-inside.backed;
  copied : (q : ℕ) → is_listed (drop l.page-index l.page-items) q ≡ false → map.get (pages_of (λ b. bytes_in b.value) l.self-inside.directory.numbers l.self-inside.backed.items) q ≡ map.get l.other.pages q;
  few : l.written ≤ l.page-index;
  counted : CountsSoFar l.fn.self.pages l.other.pages (pages_of (λ b. bytes_in b.value) l.self-inside.directory.numbers l.self-inside.backed.items) (drop l.page-index l.page-items) l.written;
}
