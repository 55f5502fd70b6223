use Rattle.std.proofs.Common.{◌≡◌, ◌+◌, ◌-◌, ◌<◌, sym, subst, Bool, true, false, length, arith}
use Rattle.std.specs.Prelude.{slice_set, slice_index_or}
use Rattle.std.proofs.Math.Bool.{beq}
use Rattle.ro_group.specs.Groups.{Groups, Counts, Changes}
use Rattle.ro_group.proofs.Sizes.{set-changes, count-below, counted-more, count-above, counted-less}
use Rattle.ro_group.proofs.groups.Groups.set.Goals as goal

pub overflow_add-self : goal.overflow_add-self
overflow_add-self c =
    let s = c.self.inside in
    let row = c.index_mut-row.result.now in
    let within : c.args.replica < length s.rows.items = subst (λ (g : Groups). c.args.replica < length g) (sym c.self.view_is) c.requires.replica in
    let differs : beq (slice_index_or row c.args.thread false) true ≡ false = subst (λ (b : Bool). beq (slice_index_or row c.args.thread false) b ≡ false) c.if-stopped.true c.if-row-thread.false in
    let below = count-below s.rows.items s.counts c.args.replica c.args.thread row c.self.invariant within c.requires.thread c.self.told c.index_mut-row.ensures.value differs in
    omega (arith, s.rows.ok.0)

pub invariant_of-self-then-stopped : goal.invariant_of-self-then-stopped
invariant_of-self-then-stopped c =
    let s = c.self.inside in
    let row = c.index_mut-row.result.now in
    let within : c.args.replica < length s.rows.items = subst (λ (g : Groups). c.args.replica < length g) (sym c.self.view_is) c.requires.replica in
    let differs : beq (slice_index_or row c.args.thread false) true ≡ false = subst (λ (b : Bool). beq (slice_index_or row c.args.thread false) b ≡ false) c.if-stopped.true c.if-row-thread.false in
    subst (λ (b : Bool). Counts (slice_set s.rows.items c.args.replica (slice_set row c.args.thread b)) (slice_set s.counts c.args.thread (slice_index_or s.counts c.args.thread 0 + 1))) (sym c.if-stopped.true)
    (counted-more s.rows.items s.counts c.args.replica c.args.thread row c.self.invariant within c.requires.thread c.self.told c.index_mut-row.ensures.value differs)

pub overflow_sub-self : goal.overflow_sub-self
overflow_sub-self c =
    let s = c.self.inside in
    let row = c.index_mut-row.result.now in
    let within : c.args.replica < length s.rows.items = subst (λ (g : Groups). c.args.replica < length g) (sym c.self.view_is) c.requires.replica in
    let differs : beq (slice_index_or row c.args.thread false) false ≡ false = subst (λ (b : Bool). beq (slice_index_or row c.args.thread false) b ≡ false) c.if-stopped.false c.if-row-thread.false in
    count-above s.rows.items s.counts c.args.replica c.args.thread row c.self.invariant within c.requires.thread c.self.told c.index_mut-row.ensures.value differs

pub invariant_of-self-else-stopped : goal.invariant_of-self-else-stopped
invariant_of-self-else-stopped c =
    let s = c.self.inside in
    let row = c.index_mut-row.result.now in
    let within : c.args.replica < length s.rows.items = subst (λ (g : Groups). c.args.replica < length g) (sym c.self.view_is) c.requires.replica in
    let differs : beq (slice_index_or row c.args.thread false) false ≡ false = subst (λ (b : Bool). beq (slice_index_or row c.args.thread false) b ≡ false) c.if-stopped.false c.if-row-thread.false in
    subst (λ (b : Bool). Counts (slice_set s.rows.items c.args.replica (slice_set row c.args.thread b)) (slice_set s.counts c.args.thread (slice_index_or s.counts c.args.thread 0 - 1))) (sym c.if-stopped.false)
    (counted-less s.rows.items s.counts c.args.replica c.args.thread row c.self.invariant within c.requires.thread c.self.told c.index_mut-row.ensures.value differs)

pub returns-then-stopped : goal.returns-then-stopped
returns-then-stopped c =
    let s = c.self.inside in
    let row = c.index_mut-row.result.now in
    let within : c.args.replica < length s.rows.items = subst (λ (g : Groups). c.args.replica < length g) (sym c.self.view_is) c.requires.replica in
    subst (λ (g : Groups). Changes g (slice_set s.rows.items c.args.replica (slice_set row c.args.thread c.args.stopped)) c.args.replica c.args.thread c.args.stopped) c.self.view_is
    (set-changes s.rows.items s.counts c.args.replica c.args.thread row c.self.invariant within c.requires.thread c.self.told c.index_mut-row.ensures.value c.args.stopped)

pub returns-else-stopped : goal.returns-else-stopped
returns-else-stopped c =
    let s = c.self.inside in
    let row = c.index_mut-row.result.now in
    let within : c.args.replica < length s.rows.items = subst (λ (g : Groups). c.args.replica < length g) (sym c.self.view_is) c.requires.replica in
    subst (λ (g : Groups). Changes g (slice_set s.rows.items c.args.replica (slice_set row c.args.thread c.args.stopped)) c.args.replica c.args.thread c.args.stopped) c.self.view_is
    (set-changes s.rows.items s.counts c.args.replica c.args.thread row c.self.invariant within c.requires.thread c.self.told c.index_mut-row.ensures.value c.args.stopped)
