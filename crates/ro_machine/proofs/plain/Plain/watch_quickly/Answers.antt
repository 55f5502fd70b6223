use Rattle.ro_machine.proofs.Stepping.{ranges-now}
use Rattle.ro_region.specs.Permission.{ranges_of}
use Rattle.std.specs.Arc.{arc_value}
use Rattle.ro_image.specs.Image.{Image}
use Rattle.ro_machine.specs.declared.watching.Relation.TheVariants.{Nothing}
use Rattle.std.proofs.Common.{◌≡◌, ◌∙◌, ap, subst, sym}
use Rattle.std.specs.Prelude.{List, slice_get, ◌++◌}
use Rattle.ro_region.specs.declared.Range.{Range}
use Rattle.ro_region.specs.declared.Kind.TheVariants.{Read, Write}
use Rattle.ro_exec.specs.Stretches.{AreOpenTo}
use Rattle.ro_pages.specs.Held.{memory_of, has_page}
use Rattle.ro_exec.specs.Next.{Layout}
use Rattle.ro_machine.specs.Seen.{PlainOf, Steps, machine_of}
use Rattle.ro_machine.specs.Watched.{Sees}
use Rattle.ro_machine.specs.Lanes.{cpu_of, closed, IsOpen}
use Rattle.ro_machine.proofs.Noted.{no_bytes}
use Rattle.ro_machine.proofs.Quick.{done-quickly, lane-steps, lane-sees, stays-opened}
use Rattle.ro_machine.proofs.plain.Plain.watch_quickly.Goals as goal

pub quick_step-done-requires-clause-reads : goal.quick_step-done-requires-clause-reads
quick_step-done-requires-clause-reads c =
    let opened = subst (λ (p : PlainOf). IsOpen p c.args.lane.now) (sym c.self.view_is) c.requires.opened in
    subst (λ (ranges : List Range). AreOpenTo ranges (has_page c.self.inside.pages.pages) (slice_get c.self.inside.pages.numbers) Read c.args.lane.now.reads.stretches) (sym (ranges-now c.regions.ensures c.self.invariant.ranges_are)) opened.reads

pub quick_step-done-requires-clause-writes : goal.quick_step-done-requires-clause-writes
quick_step-done-requires-clause-writes c =
    let opened = subst (λ (p : PlainOf). IsOpen p c.args.lane.now) (sym c.self.view_is) c.requires.opened in
    subst (λ (ranges : List Range). AreOpenTo ranges (has_page c.self.inside.pages.pages) (slice_get c.self.inside.pages.numbers) Write c.args.lane.now.writes.stretches) (sym (ranges-now c.regions.ensures c.self.invariant.ranges_are)) opened.writes

pub returns-then-not-done-clause-opened : goal.returns-then-not-done-clause-opened
returns-then-not-done-clause-opened c =
    let opened = subst (λ (p : PlainOf). IsOpen p c.args.lane.now) (sym c.self.view_is) c.requires.opened in
    let layout : ◌≡◌ {A = Layout} (record { ranges = (ranges_of c.regions.result.now); calls = c.calls.result.now }) (record { ranges = c.self.inside.kernel.kernel.given ++ (arc_value c.self.inside.image).ranges; calls = (arc_value c.self.inside.image).calls }) = λ i. record { ranges = (ranges-now c.regions.ensures c.self.invariant.ranges_are) i; calls = (c.calls.ensures ∙ ap (λ (i : Image). i.calls) c.deref.ensures) i } in
    let done = c.quick_step-done.ensures in
    stays-opened (record { program = record { image = (arc_value c.self.inside.image); input = c.self.inside.kernel.setup.input }; held = c.self.inside.pages; cpus = c.self.inside.cpus.items; kernel = c.self.inside.kernel.kernel; ended = c.self.inside.ended; written = c.self.inside.written.items }) c.args.lane.now opened c.quick_step-done.new.memory c.quick_step-done.new.registers c.quick_step-done.new.pc c.quick_step-done.new.stretch c.quick_step-done.new.reads c.quick_step-done.new.writes _ layout done.pages done.kept done.aligned done.bounded done.clear done.page done.reads done.writes

pub returns-clause-opened : goal.returns-clause-opened
returns-clause-opened c =
    let opened = subst (λ (p : PlainOf). IsOpen p c.args.lane.now) (sym c.self.view_is) c.requires.opened in
    let layout : ◌≡◌ {A = Layout} (record { ranges = (ranges_of c.regions.result.now); calls = c.calls.result.now }) (record { ranges = c.self.inside.kernel.kernel.given ++ (arc_value c.self.inside.image).ranges; calls = (arc_value c.self.inside.image).calls }) = λ i. record { ranges = (ranges-now c.regions.ensures c.self.invariant.ranges_are) i; calls = (c.calls.ensures ∙ ap (λ (i : Image). i.calls) c.deref.ensures) i } in
    let done = c.quick_step-done.ensures in
    stays-opened (record { program = record { image = (arc_value c.self.inside.image); input = c.self.inside.kernel.setup.input }; held = c.self.inside.pages; cpus = c.self.inside.cpus.items; kernel = c.self.inside.kernel.kernel; ended = c.self.inside.ended; written = c.self.inside.written.items }) c.args.lane.now opened c.quick_step-done.new.memory c.quick_step-done.new.registers c.quick_step-done.new.pc c.quick_step-done.new.stretch c.quick_step-done.new.reads c.quick_step-done.new.writes _ layout done.pages done.kept done.aligned done.bounded done.clear done.page done.reads done.writes

pub returns-clause-steps : goal.returns-clause-steps
returns-clause-steps c =
    let opened = subst (λ (p : PlainOf). IsOpen p c.args.lane.now) (sym c.self.view_is) c.requires.opened in
    let layout : ◌≡◌ {A = Layout} (record { ranges = (ranges_of c.regions.result.now); calls = c.calls.result.now }) (record { ranges = c.self.inside.kernel.kernel.given ++ (arc_value c.self.inside.image).ranges; calls = (arc_value c.self.inside.image).calls }) = λ i. record { ranges = (ranges-now c.regions.ensures c.self.invariant.ranges_are) i; calls = (c.calls.ensures ∙ ap (λ (i : Image). i.calls) c.deref.ensures) i } in
    let did = done-quickly _ _ (has_page c.self.inside.pages.pages) (memory_of c.self.inside.pages.pages) (memory_of c.quick_step-done.new.memory.pages) (cpu_of c.args.lane.now) (record { registers = c.quick_step-done.new.registers; pc = c.quick_step-done.new.pc }) c.quick_step-done.result layout c.if-not-done.false c.quick_step-done.ensures.step in
    subst (λ (p : PlainOf). Steps (closed p c.args.lane.now) c.args.lane.now.thread (closed (record { program = record { image = (arc_value c.self.inside.image); input = c.self.inside.kernel.setup.input }; held = c.quick_step-done.new.memory; cpus = c.self.inside.cpus.items; kernel = c.self.inside.kernel.kernel; ended = c.self.inside.ended; written = c.self.inside.written.items }) (record { thread = c.args.lane.now.thread; registers = c.quick_step-done.new.registers; pc = c.quick_step-done.new.pc; code = c.quick_step-done.new.stretch; reads = c.quick_step-done.new.reads; writes = c.quick_step-done.new.writes }))) c.self.view_is
    (lane-steps (record { program = record { image = (arc_value c.self.inside.image); input = c.self.inside.kernel.setup.input }; held = c.self.inside.pages; cpus = c.self.inside.cpus.items; kernel = c.self.inside.kernel.kernel; ended = c.self.inside.ended; written = c.self.inside.written.items }) c.args.lane.now opened c.quick_step-done.new.memory (record { registers = c.quick_step-done.new.registers; pc = c.quick_step-done.new.pc }) did)

pub returns-clause-sees : goal.returns-clause-sees
returns-clause-sees c output =
    let opened = subst (λ (p : PlainOf). IsOpen p c.args.lane.now) (sym c.self.view_is) c.requires.opened in
    let layout : ◌≡◌ {A = Layout} (record { ranges = (ranges_of c.regions.result.now); calls = c.calls.result.now }) (record { ranges = c.self.inside.kernel.kernel.given ++ (arc_value c.self.inside.image).ranges; calls = (arc_value c.self.inside.image).calls }) = λ i. record { ranges = (ranges-now c.regions.ensures c.self.invariant.ranges_are) i; calls = (c.calls.ensures ∙ ap (λ (i : Image). i.calls) c.deref.ensures) i } in
    let did = done-quickly _ _ (has_page c.self.inside.pages.pages) (memory_of c.self.inside.pages.pages) (memory_of c.quick_step-done.new.memory.pages) (cpu_of c.args.lane.now) (record { registers = c.quick_step-done.new.registers; pc = c.quick_step-done.new.pc }) c.quick_step-done.result layout c.if-not-done.false c.quick_step-done.ensures.step in
    subst (λ (p : PlainOf). Sees p.program (machine_of (closed p c.args.lane.now) output) c.args.lane.now.thread (record { loaded = c.in_ok-look.look.loads; code = c.in_ok-look.look.code; stored = c.in_ok-look.look.stores; atomic = no_bytes; relation = Nothing })) c.self.view_is
    (lane-sees (record { program = record { image = (arc_value c.self.inside.image); input = c.self.inside.kernel.setup.input }; held = c.self.inside.pages; cpus = c.self.inside.cpus.items; kernel = c.self.inside.kernel.kernel; ended = c.self.inside.ended; written = c.self.inside.written.items }) c.args.lane.now opened c.quick_step-done.new.memory (record { registers = c.quick_step-done.new.registers; pc = c.quick_step-done.new.pc }) did c.in_ok-look.look c.in_ok-look.ensures output)
