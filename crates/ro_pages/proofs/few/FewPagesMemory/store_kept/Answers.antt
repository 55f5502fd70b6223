use Rattle.std.proofs.Common.{arith, refl, ap, ◌/◌}
use Rattle.std.specs.Box.{with_value}
use Rattle.ro_pages.specs.Words.{bytes_in}
use Rattle.ro_pages.proofs.Shown.{shown, kept-listed, kept-there, inside, has-written, number-stored}
use Rattle.ro_pages.proofs.few.FewPagesMemory.store_kept.Goals as goal

pub index_mut-requires : goal.index_mut-requires
index_mut-requires c =
    let shows = shown (λ b. bytes_in b.value) c.args.self.now c.self.inside.directory.numbers c.self.inside.backed.items _ c.self.view_is c.self.invariant.0 in
    let page = c.args.address / 4096 in
    omega (arith, inside shows page c.args.place (c.each_once.ensures page c.args.place (kept-listed shows c.args.place page c.requires.kept)) (kept-there shows c.args.place page c.requires.kept))

pub returns-clause-bytes : goal.returns-clause-bytes
returns-clause-bytes c =
    let shows = shown (λ b. bytes_in b.value) c.args.self.now c.self.inside.directory.numbers c.self.inside.backed.items _ c.self.view_is c.self.invariant.0 in
    let page = c.args.address / 4096 in
    number-stored shows c.args.address c.args.size c.args.place c.index_mut.result.now c.deref_mut-words.result.now (c.each_once.ensures page c.args.place (kept-listed shows c.args.place page c.requires.kept)) (kept-there shows c.args.place page c.requires.kept) c.requires.size c.requires.aligned c.index_mut.ensures.value (ap bytes_in c.deref_mut-words.ensures.value)
    (with_value c.index_mut.result.now c.store_in.new.words) c.store_in.new.words c.args.value refl c.store_in.ensures

pub returns-clause-pages : goal.returns-clause-pages
returns-clause-pages c =
    let shows = shown (λ b. bytes_in b.value) c.args.self.now c.self.inside.directory.numbers c.self.inside.backed.items _ c.self.view_is c.self.invariant.0 in
    let page = c.args.address / 4096 in
    has-written shows page c.args.place (c.each_once.ensures page c.args.place (kept-listed shows c.args.place page c.requires.kept)) (kept-there shows c.args.place page c.requires.kept) (with_value c.index_mut.result.now c.store_in.new.words)
