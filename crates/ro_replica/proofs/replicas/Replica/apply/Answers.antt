use Rattle.std.proofs.Common.{arith, refl, sym, ap, subst, Option, ◌<◌, ◌∙◌, ℕ, length}
use Rattle.std.specs.Option.{IfSome}
use Rattle.std.proofs.lemmas.List.{with_items_is}
use Rattle.std.specs.Prelude.{◌||◌}
use Rattle.ro_region.specs.declared.Range.{Range}
use Rattle.ro_pages.specs.Bytes.{stored, covers_page}
use Rattle.ro_pages.specs.Held.{memory_of, has_page}
use Rattle.ro_replica.specs.Replica.{is_page}
use Rattle.ro_replica.specs.Seen.{replica_of}
use Rattle.ro_replica.proofs.Changes.{threads_left, threads_after, holds_after, applies}
use Rattle.ro_replica.proofs.Remains.{more_pages, more_ranges, widens}
use Rattle.ro_replica.proofs.replicas.Replica.apply.Goals as goal

pub invariant_of-self : goal.invariant_of-self
invariant_of-self c =
    let made : IfSome c.args.effect.now.made (λ m. (m.creator < length c.self.inside.threads.items) × (length c.self.inside.threads.items < 16)) =
    subst (λ (n : ℕ). IfSome c.args.effect.now.made (λ m. (m.creator < n) × (n < 16))) (sym (ap (λ v. length v.threads) c.self.view_is)) c.requires.creator in (
      holds_after c.self.inside.watchdog c.self.inside.threads.cap c.make.new.threads.cap _ c.args.effect.now (has_page c.store.new.pages.pages) c.self.inside.threads.items _ (threads_left c.args.effect.now (has_page c.store.new.pages.pages) c.self.inside.threads.items c.make.new.threads.items c.as_mut_slice.result.now c.forget_faults.new.threads _ c.effect.inside.thread c.index_mut.result.now c.change_thread.new.thread c.effect.inside.made
          (omega (arith, ap (λ e. e.thread) c.effect.view_is, ap (λ v. length v.threads) c.self.view_is, c.requires.made)) c.index_mut.ensures.value c.change_thread.ensures (ap (λ e. e.thread) c.effect.view_is) (ap (λ e. e.made) c.effect.view_is)
          c.make.ensures.items c.as_mut_slice.ensures.value c.forget_faults.ensures (with_items_is c.make.new.threads c.forget_faults.new.threads (omega arith))) (omega arith) made c.self.invariant.0,
      more_ranges c.effect.inside.range c.self.inside.regions c.widen.new.regions _ c.store.new.pages _ c.widen.ensures (more_pages _ _ c.self.inside.pages c.store.new.pages _ _ _ c.store.ensures.backed c.store.ensures.stay c.self.invariant.1),
    )

pub returns-clause-program : goal.returns-clause-program
returns-clause-program c =
    widens c.effect.inside.range c.args.effect.now.range c.args.self.now _ c.self.inside.regions c.widen.new.regions c.self.inside.calls (ap (λ e. e.range) c.effect.view_is) c.widen.ensures
    (sym (ap (λ v. v.layout) c.self.view_is)) (sym (ap (λ v. v.given) c.self.view_is)) refl refl (ap (λ v. v.watchdog) c.self.view_is)

pub widen-requires : goal.widen-requires
widen-requires c =
    subst (λ (range : Option Range). IfSome range (λ r. length c.self.inside.regions.given < 4096)) (sym (ap (λ e. e.range) c.effect.view_is))
    (subst (λ (n : ℕ). IfSome c.args.effect.now.range (λ r. n < 4096)) (sym (ap (λ v. length v.given) c.self.view_is)) c.requires.room)

pub returns-clause-applied : goal.returns-clause-applied
returns-clause-applied c = applies c.args.effect.now (replica_of c.args.self.now) _
    (c.store.ensures.bytes ∙ ap (λ v. stored (memory_of v.held.pages) c.args.effect.now.place c.args.effect.now.bytes) c.self.view_is)
    (c.store.ensures.backed ∙ ap (λ v. λ (page : ℕ). has_page v.held.pages page || is_page c.args.effect.now.page page || covers_page (record { place = c.args.effect.now.place; count = length c.args.effect.now.bytes }) page) c.self.view_is)
    ((threads_left c.args.effect.now (has_page c.store.new.pages.pages) c.self.inside.threads.items c.make.new.threads.items c.as_mut_slice.result.now c.forget_faults.new.threads _ c.effect.inside.thread c.index_mut.result.now c.change_thread.new.thread c.effect.inside.made
    (omega (arith, ap (λ e. e.thread) c.effect.view_is, ap (λ v. length v.threads) c.self.view_is, c.requires.made)) c.index_mut.ensures.value c.change_thread.ensures (ap (λ e. e.thread) c.effect.view_is) (ap (λ e. e.made) c.effect.view_is)
    c.make.ensures.items c.as_mut_slice.ensures.value c.forget_faults.ensures (with_items_is c.make.new.threads c.forget_faults.new.threads (omega arith))) ∙ ap (λ v. threads_after c.args.effect.now (has_page c.store.new.pages.pages) v.threads) c.self.view_is)
    (ap (λ v. v.waiting) c.self.view_is)
