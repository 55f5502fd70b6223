use Rattle.std.proofs.Common.{rules, arith, inl, inr, ℕ, ◌<◌, refl, ap, sym, ◌∙◌, ◌≡◌, Some, false, length, get_or}
use Rattle.std.specs.FinMap as map
use Rattle.std.specs.List.{slice_get}
use Rattle.std.proofs.lemmas.List.{drop_all}
use Rattle.ro_pages.specs.Directories.{is_listed}
use Rattle.ro_pages.specs.Held.{has_page, pages_of}
use Rattle.ro_pages.specs.Words.{bytes_in}
use Rattle.ro_pages.proofs.Places.{has_listed, theirs_stand, mine_stand, read_at, written_at, unlisted_same, copied_more, same_pages}
use Rattle.std.proofs.lemmas.Option.{slice_get-get_or}
use Rattle.ro_pages.proofs.Unequal.{none_so_far, so_far_more, counts_all}
use Rattle.std.proofs.lemmas.Bool.{cases_eq}
use Rattle.ro_pages.proofs.table.Pages.copy_from.Goals as goal

pub loop-page-init : goal.loop-page-init
loop-page-init c = record {
  directory = refl;
  spare = refl;
  full = refl;
  capacity = refl;
  copied = λ q h.
      let listed : is_listed c.other.inside.directory.numbers q ≡ false = ap (λ ns. is_listed ns q) (sym c.numbers-page-items.ensures.numbers) ∙ h in
      let theirs : has_page c.args.other.now.pages q ≡ false = ap (λ v. has_page v.pages q) (sym c.other.view_is) ∙ has_listed (λ b. bytes_in b.value) c.other.inside.directory.numbers c.other.inside.backed.items q c.other.invariant.0 ∙ listed in
      unlisted_same _ _ q (ap (λ v. has_page v.pages q) c.self.view_is ∙ c.requires q ∙ theirs) theirs;
  few = omega arith;
  counted = none_so_far _ _ _ _ (ap (λ v. v.pages) c.self.view_is) (λ q h.
      let listed : is_listed c.other.inside.directory.numbers q ≡ false = ap (λ ns. is_listed ns q) (sym c.numbers-page-items.ensures.numbers) ∙ h in
      let theirs : has_page c.args.other.now.pages q ≡ false = ap (λ v. has_page v.pages q) (sym c.other.view_is) ∙ has_listed (λ b. bytes_in b.value) c.other.inside.directory.numbers c.other.inside.backed.items q c.other.invariant.0 ∙ listed in
      unlisted_same _ _ q (c.requires q ∙ theirs) theirs);
}

pub index_mut-requires : goal.index_mut-requires
index_mut-requires c =
    let q = get_or c.numbers-page-items.result.now c.loop-page.page-index 0 in
    let ns = c.loop-page.self-inside.directory.numbers in
    let directory = c.loop-page.invariant.directory in
    let full : length ns ≡ length c.loop-page.self-inside.backed.items = ap (λ d. length d.numbers) directory ∙ omega arith in
    let theirs =
    theirs_stand (λ b. bytes_in b.value) c.args.other.now.pages c.other.inside.directory.numbers c.other.inside.backed.items c.numbers-page-items.result.now c.loop-page.page-index c.entry-theirs.result (ap (λ v. v.pages) c.other.view_is) c.other.invariant.0 c.numbers-page-items.ensures.numbers (omega arith) c.entry-theirs.ensures in
    omega (
      arith,
      mine_stand (λ b. bytes_in b.value) ns c.self.inside.directory.numbers c.loop-page.self-inside.backed.items c.self.inside.backed.items q c.entry-mine.result full c.self.invariant.0 (ap (λ d. d.numbers) directory) (ap (λ v. has_page v.pages q) c.self.view_is ∙ c.requires q ∙ theirs.0) c.entry-mine.ensures,
    )

pub index-requires : goal.index-requires
index-requires c =
    omega (
      arith,
      (theirs_stand (λ b. bytes_in b.value) c.args.other.now.pages c.other.inside.directory.numbers c.other.inside.backed.items c.numbers-page-items.result.now c.loop-page.page-index c.entry-theirs.result (ap (λ v. v.pages) c.other.view_is) c.other.invariant.0 c.numbers-page-items.ensures.numbers (omega arith) c.entry-theirs.ensures).1,
    )

pub loop-page-preserved : goal.loop-page-preserved
loop-page-preserved c =
    let q = get_or c.numbers-page-items.result.now c.loop-page.page-index 0 in
    let ns = c.loop-page.self-inside.directory.numbers in
    let xs = c.loop-page.self-inside.backed.items in
    let directory = c.loop-page.invariant.directory in
    let full : length ns ≡ length xs = ap (λ d. length d.numbers) directory ∙ omega arith in
    let theirs =
    theirs_stand (λ b. bytes_in b.value) c.args.other.now.pages c.other.inside.directory.numbers c.other.inside.backed.items c.numbers-page-items.result.now c.loop-page.page-index c.entry-theirs.result (ap (λ v. v.pages) c.other.view_is) c.other.invariant.0 c.numbers-page-items.ensures.numbers (omega arith) c.entry-theirs.ensures in
    let mine =
    mine_stand (λ b. bytes_in b.value) ns c.self.inside.directory.numbers xs c.self.inside.backed.items q c.entry-mine.result full c.self.invariant.0 (ap (λ d. d.numbers) directory) (ap (λ v. has_page v.pages q) c.self.view_is ∙ c.requires q ∙ theirs.0) c.entry-mine.ensures in
    let read : map.get c.args.other.now.pages q ≡ Some (bytes_in c.index.result.now.value) =
    read_at (λ b. bytes_in b.value) c.args.other.now.pages c.other.inside.directory.numbers c.other.inside.backed.items q c.entry-theirs.result c.index.result.now (ap (λ v. v.pages) c.other.view_is) c.other.invariant.0 c.entry-theirs.ensures theirs.1 c.index.ensures in
    let items = c.numbers-page-items.result.now in
    let i = c.loop-page.page-index in
    let low : i < length items = omega arith in
    let only : (j : ℕ) → slice_get items j ≡ Some q → j ≡ i = λ j e.
    let at : slice_get items i ≡ Some q = slice_get-get_or items i 0 low in
    let same = c.numbers-page-items.ensures.numbers in
    c.entry-theirs.ensures.only j (ap (λ ks. slice_get ks j) (sym same) ∙ e) ∙ sym (c.entry-theirs.ensures.only i (ap (λ ks. slice_get ks i) (sym same) ∙ at)) in
    let written = written_at (λ b. bytes_in b.value) (pages_of (λ b. bytes_in b.value) ns xs) ns xs q c.entry-mine.result c.copy_page-written.new.mine refl full c.entry-mine.ensures mine in
    let mine_is : map.get (pages_of (λ b. bytes_in b.value) ns xs) q ≡ Some (bytes_in c.index_mut.result.now.value) =
    read_at (λ b. bytes_in b.value) (pages_of (λ b. bytes_in b.value) ns xs) ns xs q c.entry-mine.result c.index_mut.result.now refl full c.entry-mine.ensures mine c.index_mut.ensures.value in
    record {
      directory = c.loop-page.invariant.directory;
      spare = c.loop-page.invariant.spare;
      full = search rules;
      capacity = search rules;
      copied =
          copied_more _ (pages_of (λ b. bytes_in b.value) ns xs) c.args.other.now.pages c.numbers-page-items.result.now c.loop-page.page-index (bytes_in c.copy_page-written.new.mine.value) (omega arith)
          (written_at (λ b. bytes_in b.value) _ ns xs q c.entry-mine.result c.copy_page-written.new.mine refl full c.entry-mine.ensures mine)
          (read ∙ ap Some (sym c.copy_page-written.ensures.bytes)) c.loop-page.invariant.copied;
      few = elim (cases_eq c.copy_page-written.result 0) [ inl zero ↦ omega (arith, c.loop-page.invariant.few) | inr some ↦ let one = (c.copy_page-written.ensures.other some).0 in omega (arith, c.loop-page.invariant.few) ];
      counted = so_far_more items i low only c.args.self.now.pages c.args.other.now.pages _ _ _ _ _ written mine_is read c.loop-page.written c.loop-page.invariant.counted c.copy_page-written.result c.copy_page-written.ensures.same c.copy_page-written.ensures.other;
    }

pub returns-clause-written : goal.returns-clause-written
returns-clause-written c = counts_all _ _ _ _ _ (drop_all c.loop-page.page-index c.numbers-page-items.result.now (omega arith)) c.loop-page.invariant.counted

pub returns-clause-pages : goal.returns-clause-pages
returns-clause-pages c =
    same_pages _ _ (λ q. c.loop-page.invariant.copied q (ap (λ ns. is_listed ns q) (drop_all c.loop-page.page-index c.numbers-page-items.result.now (omega arith))))
