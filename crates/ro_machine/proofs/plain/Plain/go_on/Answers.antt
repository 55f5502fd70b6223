use Rattle.ro_region.specs.Permission.{ranges_of}
use Rattle.std.proofs.Common.{refl, ap, ◌∙◌, subst, arith, length, ◌<◌}
use Rattle.std.specs.Prelude.{slice_set}
use Rattle.std.proofs.lemmas.Option.{slice_get_read}
use Rattle.std.specs.Arc.{arc_value}
use Rattle.ro_image.specs.Image.{Image}
use Rattle.ro_kernel.specs.Kernel.{lives_on}
use Rattle.ro_machine.specs.Seen.{PlainOf, SameMachine, Steps, Refuses}
use Rattle.ro_machine.proofs.Serving.{lives-made}
use Rattle.ro_machine.proofs.Stepping.{ranges-now, on-ok, on-err, if-err, go-did, found-same, found-steps, found-refuses}
use Rattle.ro_machine.proofs.plain.Plain.go_on.Goals as goal

pub returns-in-Did-clause-steps : goal.returns-in-Did-clause-steps
returns-in-Did-clause-steps c =
    let made = lives-made c.args.self.now.kernel.lives c.args.thread c.requires.live in
    let count = ap (λ v. length v.kernel.lives) c.self.view_is in
    let within : c.args.thread < length c.self.inside.cpus.items = omega (arith, made, count, c.self.invariant.all_made) in
    let there = slice_get_read c.self.inside.cpus.items (length c.self.inside.cpus.items) c.args.thread c.index_mut.result.now refl within c.index_mut.ensures.value in
    subst (λ (v : PlainOf). Steps v c.args.thread (record { program = record { image = (arc_value c.self.inside.image); input = c.self.inside.kernel.setup.input }; held = c.execute.new.pages; cpus = slice_set c.self.inside.cpus.items c.args.thread c.execute.new.cpu; kernel = c.self.inside.kernel.kernel; ended = c.self.inside.ended; written = c.self.inside.written.items })) c.self.view_is
    (go-did (record { image = (arc_value c.self.inside.image); input = c.self.inside.kernel.setup.input }) c.self.inside.pages c.execute.new.pages c.self.inside.cpus.items c.self.inside.kernel.kernel c.self.inside.written.items (ranges_of c.regions.result.now) c.calls.result.now c.self.inside.ended c.args.thread c.index_mut.result.now c.execute.new.cpu c.in_ok-done.done c.in-Did.is (ap (λ v. v.ended) c.self.view_is ∙ c.requires.going) (ap (λ v. lives_on v.kernel c.args.thread) c.self.view_is ∙ c.requires.live) there (ap (λ v. v.written) c.self.view_is ∙ c.requires.empty) (ranges-now c.regions.ensures c.self.invariant.ranges_are) (c.calls.ensures ∙ ap (λ (i : Image). i.calls) c.deref.ensures) c.in_ok-done.ensures.step)

pub returns-in-Stopped-clause-steps : goal.returns-in-Stopped-clause-steps
returns-in-Stopped-clause-steps c =
    let made = lives-made c.args.self.now.kernel.lives c.args.thread c.requires.live in
    let count = ap (λ v. length v.kernel.lives) c.self.view_is in
    let within : c.args.thread < length c.self.inside.cpus.items = omega (arith, made, count, c.self.invariant.all_made) in
    let there = slice_get_read c.self.inside.cpus.items (length c.self.inside.cpus.items) c.args.thread c.index_mut.result.now refl within c.index_mut.ensures.value in
    on-ok c.stand.result _ (Steps c.args.self.now c.args.thread c.stand.new.self) (found-steps c.args.self.now (record { image = (arc_value c.self.inside.image); input = c.self.inside.kernel.setup.input }) c.self.inside.pages c.execute.new.pages c.self.inside.cpus.items c.self.inside.kernel.kernel c.self.inside.ended c.self.inside.written.items c.self.view_is (ranges_of c.regions.result.now) c.calls.result.now c.args.thread c.index_mut.result.now c.execute.new.cpu c.in_ok-done.done c.in-Stopped.stop c.in-Stopped.is c.requires.going c.requires.live there (ranges-now c.regions.ensures c.self.invariant.ranges_are) (c.calls.ensures ∙ ap (λ (i : Image). i.calls) c.deref.ensures) c.in_ok-done.ensures.step c.stand.new.self) c.stand.ensures.steps

pub returns-in-Stopped-clause-refused : goal.returns-in-Stopped-clause-refused
returns-in-Stopped-clause-refused c =
    let made = lives-made c.args.self.now.kernel.lives c.args.thread c.requires.live in
    let count = ap (λ v. length v.kernel.lives) c.self.view_is in
    let within : c.args.thread < length c.self.inside.cpus.items = omega (arith, made, count, c.self.invariant.all_made) in
    let there = slice_get_read c.self.inside.cpus.items (length c.self.inside.cpus.items) c.args.thread c.index_mut.result.now refl within c.index_mut.ensures.value in
    if-err c.stand.result _ (Refuses c.args.self.now c.args.thread) (found-refuses c.args.self.now (record { image = (arc_value c.self.inside.image); input = c.self.inside.kernel.setup.input }) c.self.inside.pages c.execute.new.pages c.self.inside.cpus.items c.self.inside.kernel.kernel c.self.inside.ended c.self.inside.written.items c.self.view_is (ranges_of c.regions.result.now) c.calls.result.now c.args.thread c.index_mut.result.now c.execute.new.cpu c.in_ok-done.done c.in-Stopped.stop c.in-Stopped.is c.requires.going c.requires.live there (ranges-now c.regions.ensures c.self.invariant.ranges_are) (c.calls.ensures ∙ ap (λ (i : Image). i.calls) c.deref.ensures) c.in_ok-done.ensures.step) c.stand.ensures.refused

pub returns-in-Stopped-clause-same : goal.returns-in-Stopped-clause-same
returns-in-Stopped-clause-same c =
    let made = lives-made c.args.self.now.kernel.lives c.args.thread c.requires.live in
    let count = ap (λ v. length v.kernel.lives) c.self.view_is in
    let within : c.args.thread < length c.self.inside.cpus.items = omega (arith, made, count, c.self.invariant.all_made) in
    let there = slice_get_read c.self.inside.cpus.items (length c.self.inside.cpus.items) c.args.thread c.index_mut.result.now refl within c.index_mut.ensures.value in
    on-err c.stand.result _ (SameMachine c.stand.new.self c.args.self.now) (λ h output. h output ∙ found-same c.args.self.now (record { image = (arc_value c.self.inside.image); input = c.self.inside.kernel.setup.input }) c.self.inside.pages c.execute.new.pages c.self.inside.cpus.items c.self.inside.kernel.kernel c.self.inside.ended c.self.inside.written.items c.self.view_is (ranges_of c.regions.result.now) c.calls.result.now c.args.thread c.index_mut.result.now c.execute.new.cpu c.in_ok-done.done c.in-Stopped.stop c.in-Stopped.is c.requires.going c.requires.live there (ranges-now c.regions.ensures c.self.invariant.ranges_are) (c.calls.ensures ∙ ap (λ (i : Image). i.calls) c.deref.ensures) c.in_ok-done.ensures.step output) c.stand.ensures.same
