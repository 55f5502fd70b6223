use Rattle.std.specs.Prelude.{slice_get}
use Rattle.std.proofs.Common.{arith, sym, ap, ap₂, length, ◌∙◌}
use Rattle.std.proofs.lemmas.List.{with_items_is}
use Rattle.ro_replica.specs.Replica.{copied_threads}
use Rattle.ro_replica.proofs.Copies.{copied_holds, recovers}
use Rattle.ro_pages.specs.Held.{has_page}
use Rattle.ro_replica.proofs.Remains.{same_pages}
use Rattle.ro_replica.proofs.copying.ReplicaTwin.copy_from.Goals as goal

pub invariant_of-self : goal.invariant_of-self
invariant_of-self c =
    let threads = with_items_is c.self.inside.threads c.copy_threads.new.losers (omega arith) ∙ (c.copy_threads.ensures ∙ ap₂ copied_threads c.as_slice.ensures.value c.as_mut_slice.ensures.value) in
    let watchdog = ap (λ v. v.watchdog) c.other.view_is ∙ (c.requires.program.watchdog ∙ sym (ap (λ v. v.watchdog) c.self.view_is)) in
    let long = ap (λ v. length v.threads) c.other.view_is ∙ (c.requires.threads ∙ sym (ap (λ v. length v.threads) c.self.view_is)) in (
      copied_holds c.self.inside.watchdog c.other.inside.watchdog c.self.inside.threads.cap c.other.inside.threads.cap _ _ c.other.inside.threads.items c.self.inside.threads.items _ threads watchdog long c.other.invariant.0 c.self.invariant.0,
      same_pages _ _ c.self.inside.pages c.copy_from.new.self _ (λ page. ap (λ v. has_page v.held.pages page) c.self.view_is ∙ sym (c.requires.pages page) ∙ ap (λ v. has_page v.held.pages page) (sym c.other.view_is) ∙ ap (λ m. has_page m page) (sym c.copy_from.ensures.pages)) (ap slice_get c.copy_from.ensures.numbers) c.self.invariant.1,
    )

pub returns : goal.returns
returns c =
    let threads = with_items_is c.self.inside.threads c.copy_threads.new.losers (omega arith) ∙ (c.copy_threads.ensures ∙ ap₂ copied_threads c.as_slice.ensures.value c.as_mut_slice.ensures.value) in
    recovers _ _ _ (record { layout = ap (λ v. v.layout) c.self.view_is; given = ap (λ v. v.given) c.self.view_is; watchdog = ap (λ v. v.watchdog) c.self.view_is }) (c.copy_from.ensures.pages ∙ ap (λ v. v.held.pages) c.other.view_is) (c.copy_from.ensures.spare ∙ ap (λ v. v.held.spare) c.self.view_is)
    (threads ∙ ap₂ copied_threads (ap (λ v. v.threads) c.other.view_is) (ap (λ v. v.threads) c.self.view_is)) (ap (λ v. v.waiting) c.self.view_is)
