use Rattle.ro_machine.proofs.Stepping.{ranges-now}
use Rattle.ro_region.specs.Permission.{ranges_of}
use Rattle.std.proofs.Common.{◌<◌, [], None, length, replicate, refl, ap, ◌∙◌, subst, arith}
use Rattle.std.specs.Prelude.{slice_set}
use Rattle.std.proofs.lemmas.Option.{slice_get_read}
use Rattle.std.specs.Arc.{arc_value}
use Rattle.ro_image.specs.Image.{Image}
use Rattle.ro_kernel.specs.Kernel.{lives_on}
use Rattle.ro_machine.specs.Parts.{Plays}
use Rattle.ro_machine.specs.Seen.{PlainOf}
use Rattle.ro_machine.proofs.Serving.{lives-made}
use Rattle.ro_machine.proofs.Plains.{plays-on}
use Rattle.ro_machine.proofs.plain.Plain.run_some.Goals as goal

pub returns-clause-plays : goal.returns-clause-plays
returns-clause-plays c =
    let made = lives-made c.args.self.now.kernel.lives c.args.thread c.requires.live in
    let count = ap (λ v. length v.kernel.lives) c.self.view_is in
    let within : c.args.thread < length c.self.inside.cpus.items = omega (arith, made, count, c.self.invariant.all_made) in
    let there = slice_get_read c.self.inside.cpus.items (length c.self.inside.cpus.items) c.args.thread c.index.result.now refl within c.index.ensures in
    subst (λ (v : PlainOf). Plays v (replicate c.run-ran.result.count c.args.thread) (record { program = record { image = (arc_value c.self.inside.image); input = c.self.inside.kernel.setup.input }; held = c.run-ran.new.memory; cpus = slice_set c.self.inside.cpus.items c.args.thread c.run-ran.new.thread.cpu; kernel = c.self.inside.kernel.kernel; ended = c.self.inside.ended; written = c.self.inside.written.items }) []) c.self.view_is
    (plays-on (record { image = (arc_value c.self.inside.image); input = c.self.inside.kernel.setup.input }) c.self.inside.pages c.run-ran.new.memory c.self.inside.cpus.items c.self.inside.kernel.kernel c.self.inside.written.items c.self.inside.written.items (ranges_of c.regions.result.now) c.calls.result.now c.self.inside.ended 4294967295 _ c.args.thread c.run-ran.result.count
    (record { cpu = c.index.result.now; since = 0; done = 0; stop = None }) c.run-ran.new.thread
    (ap (λ v. v.ended) c.self.view_is ∙ c.requires.going) (ap (λ v. lives_on v.kernel c.args.thread) c.self.view_is ∙ c.requires.live) there (ranges-now c.regions.ensures c.self.invariant.ranges_are) (c.calls.ensures ∙ ap (λ (i : Image). i.calls) c.deref.ensures) c.run-ran.ensures.run.runs)

pub run-ran-requires-clause-learnt : goal.run-ran-requires-clause-learnt
run-ran-requires-clause-learnt c = c.nothing-learnt.ensures _ _ _

pub index_mut-requires : goal.index_mut-requires
index_mut-requires c =
    let made = lives-made c.args.self.now.kernel.lives c.args.thread c.requires.live in
    let count = ap (λ v. length v.kernel.lives) c.self.view_is in
    omega (arith, made, count, c.self.invariant.all_made)
