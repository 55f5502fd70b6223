use Rattle.std.proofs.Common.{arith, ap, sym, ◌∙◌, ◌≡◌, ◌+◌, ◌/◌, ◌%◌, ◌++◌, ◌∷◌, [], set, slice_index, subst}
use Rattle.std.proofs.lemmas.Grind.{get_or_default_zero}
use Rattle.ro_pages.specs.Directories.{Tables, Finds, is_listed}
use Rattle.ro_pages.proofs.Entries.{put_tables, put_here, put_other, finds_more, finds_same}
use Rattle.ro_pages.proofs.directory.Directory.add.Goals as goal

pub invariant_of-self : goal.invariant_of-self
invariant_of-self c =
    let page = c.args.page in
    let fs = c.add_table.new.firsts.items in
    let es = c.add_table.new.entries.items in
    let ns = c.self.inside.numbers.items in
    let v = c.len.result in
    let tables = c.add_table.ensures.tables in
    let own = c.add_table.ensures.own in
    let low = c.requires.page in
    let t = page / 1024 in
    let at : c.index.result.now ≡ slice_index fs t = c.index.ensures ∙ get_or_default_zero fs t c.index.result.now (omega (arith, tables.all)) in
    let unlisted = ap (λ l. is_listed l.numbers page) c.self.view_is ∙ c.requires.new in
    let finds = finds_same _ _ fs es ns c.self.invariant.1 c.add_table.ensures.same in
    let more : Finds fs (set es (slice_index fs (page / 1024) + page % 1024) v) (ns ++ page ∷ []) =
    finds_more fs es _ ns page finds low unlisted (omega arith) (put_here fs es page v tables low ∙ omega arith) (λ q below other. put_other fs es page v q tables low below own other) in (
      subst (λ a. Tables fs (set es (a + page % 1024) v)) (sym at) (put_tables fs es page v tables low own),
      subst (λ a. Finds fs (set es (a + page % 1024) v) c.push_reserved.new.self.items) (sym at) (subst (Finds fs (set es (slice_index fs (page / 1024) + page % 1024) v)) (sym c.push_reserved.ensures.items) more),
      omega arith,
      omega arith,
    )
