use Rattle.std.specs.Prelude.{slice_get, is_none, Some, false, true}
use Rattle.std.specs.List.{filter}
use Rattle.std.specs.Option.{option_map_or}
use Rattle.std.proofs.Common.{◌≡◌, ◌+◌, ◌<◌, ◌≤◌, ◌&&◌, ℕ, Bool, length, refl, sym, ap, subst, ◌∙◌, arith}
use Rattle.std.proofs.lemmas.Option.{slice_get_read}
use Rattle.std.proofs.lemmas.List.Elements.{All-get_or}
use Rattle.ro_region.specs.Permission.{ranges_of}
use Rattle.ro_pages.specs.Directories.{is_listed}
use Rattle.ro_pages.specs.Held.{has_page, memory_of}
use Rattle.ro_thread.specs.declared.Thread.{Thread}
use Rattle.ro_replica.specs.Runs.{is_due}
use Rattle.ro_replica.specs.Seen.{ReplicaOf, replica_of}
use Rattle.ro_replica.specs.Lent.{LentIn}
use Rattle.ro_replica.proofs.Wishes.{listed-low}
use Rattle.ro_replica.proofs.Loans.{same-first, their-pages, lent-in, back-at-once, no-stop, unstopped-there}
use Rattle.ro_replica.proofs.replicas.Replica.lend_pages.Goals as goal

pub copy_from-requires : goal.copy_from-requires
copy_from-requires c =
    same-first c.lane.inside.regions.given c.lane.inside.regions.first c.requires.lane.first _ _ (ap (λ v. v.layout.ranges) c.lane.view_is) (ap (λ v. v.given) c.lane.view_is) c.requires.lane.lane_has
    ∙ sym (same-first c.self.inside.regions.given c.self.inside.regions.first c.requires.lane.first _ _ (ap (λ v. v.layout.ranges) c.self.view_is) (ap (λ v. v.given) c.self.view_is) c.requires.lane.replica_has)

pub index-requires : goal.index-requires
index-requires c =
    let going = ap (λ (v : ReplicaOf). option_map_or (λ t. is_none t.stop) (slice_get v.threads c.args.thread) false) c.self.view_is ∙ c.requires.going in
    let within : c.args.thread < length c.self.inside.threads.items = unstopped-there c.self.inside.threads.items c.args.thread going in
    omega (arith, within)

going : (c : goal.After-lend_all) → option_map_or (λ t. is_none t.stop) (slice_get c.self.inside.threads.items c.args.thread) false ≡ true
going c = ap (λ (v : ReplicaOf). option_map_or (λ t. is_none t.stop) (slice_get v.threads c.args.thread) false) c.self.view_is ∙ c.requires.going

there : (c : goal.After-lend_all) → slice_get c.self.inside.threads.items c.args.thread ≡ Some c.index.result.now
there c =
    let threads = c.self.inside.threads.items in
    slice_get_read threads (length threads) c.args.thread c.index.result.now refl (unstopped-there threads c.args.thread (going c)) c.index.ensures

pub invariant_of-lane : goal.invariant_of-lane
invariant_of-lane c =
    let threads = c.self.inside.threads.items in
    let within = unstopped-there threads c.args.thread (going c) in
    let watched = All-get_or (λ t. t.since ≤ c.self.inside.watchdog) threads c.args.thread c.index.result.now within c.self.invariant.0.watched in
    let room = c.lend_all.ensures.room in (
      subst (λ (t : Thread). t.since ≤ c.self.inside.watchdog) (sym c.index.ensures) watched,
      c.lend_all.ensures.fewer,
      omega (arith, room, c.lane.invariant.2),
    )

pub returns-clause-lent : goal.returns-clause-lent
returns-clause-lent c = λ count calm.
    subst (λ (v : ReplicaOf). LentIn (has_page c.lend_all.new.few.pages) c.args.thread count (memory_of c.lend_all.new.few.pages) c.index.result.now (replica_of v)) c.self.view_is
    (lent-in (ranges_of c.self.inside.regions) (is_listed c.args.wish.now) c.self.inside.pages.pages c.lend_all.new.pages.pages c.lend_all.new.few.pages c.lend_all.new.moved.items c.lend_all.ensures.lent
    c.args.thread (has_page c.self.inside.pages.pages) c.self.inside.threads.items c.self.inside.waiting count c.index.result.now (there c) refl (λ k low. ap (λ (v : ReplicaOf). filter (is_due c.args.thread (c.index.result.now.done + k)) v.waiting) c.self.view_is ∙ calm k low))

pub returns-clause-low : goal.returns-clause-low
returns-clause-low c = λ page has. listed-low _ c.args.wish.now page c.requires.low (first (is_listed c.args.wish.now page) _ (sym (c.lend_all.ensures.lent.just page) ∙ has))
  where
    first : (a b : Bool) → (a && b) ≡ true → a ≡ true
    first true b h = refl
    first false b h = h

pub returns-clause-mine : goal.returns-clause-mine
returns-clause-mine c = λ page has.
    ap (λ (f : ℕ → Bool). f page) c.lend_all.ensures.backed ∙ (their-pages (ranges_of c.self.inside.regions) (is_listed c.args.wish.now) c.self.inside.pages.pages c.lend_all.new.pages.pages c.lend_all.new.few.pages c.lend_all.new.moved.items c.lend_all.ensures.lent).keeps page has

pub returns-clause-at_once : goal.returns-clause-at_once
returns-clause-at_once c =
    back-at-once (ranges_of c.self.inside.regions) (is_listed c.args.wish.now) c.self.inside.pages.pages c.lend_all.new.pages.pages c.lend_all.new.few.pages c.lend_all.new.moved.items c.lend_all.ensures.lent
    c.args.thread (has_page c.lend_all.new.pages.pages) c.self.inside.threads.items c.self.inside.waiting c.index.result.now (there c) (no-stop c.self.inside.threads.items c.args.thread c.index.result.now (going c) (there c))
    ∙ ap (λ (b : ℕ → Bool). record { memory = memory_of c.self.inside.pages.pages; backed = b; threads = c.self.inside.threads.items; waiting = c.self.inside.waiting }) c.lend_all.ensures.backed
    ∙ ap replica_of c.self.view_is
