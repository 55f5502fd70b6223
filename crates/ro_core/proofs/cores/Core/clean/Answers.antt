use Rattle.std.proofs.Common.{ℕ, refl, sym, ap, ◌∙◌, subst, arith}
use Rattle.ro_legal.specs.Core.{Job}
use Rattle.ro_legal.specs.Legal.{output_of}
use Rattle.ro_core.specs.Fields.{Fields, core_in}
use Rattle.ro_core.specs.Grouped.{AreMade}
use Rattle.ro_core.specs.Runs.{fields_of, job_of}
use Rattle.ro_core.proofs.Votes.{ready-stands}
use Rattle.ro_core.proofs.Scrubs.{scrub-alone, scrub-made, scrub-twins, scrubbed-room, clean-winner, clean-losers, clean-output, clean-holds}
use Rattle.ro_core.proofs.cores.Core.clean.Goals as goal

pub heal-requires-clause-home : goal.heal-requires-clause-home
heal-requires-clause-home c =
    let f = fields_of c.prepare.new.self in
    let m = c.prepare.ensures.makes in
    let v = scrubbed-room (fields_of c.args.self.now) f c.args.won.won c.args.won.lost c.requires.scrubbed m in
    (job_of c.prepare.new.self, (core_in f).kernel, (core_in f).replicas, ready-stands c.prepare.new.self m.holds (scrub-alone f m.holds v.may))

pub heal-requires-clause-won : goal.heal-requires-clause-won
heal-requires-clause-won c =
    let f = fields_of c.prepare.new.self in
    clean-winner f c.args.won.won c.args.won.lost (scrubbed-room (fields_of c.args.self.now) f c.args.won.won c.args.won.lost c.requires.scrubbed c.prepare.ensures.makes)

pub heal-requires-clause-lost : goal.heal-requires-clause-lost
heal-requires-clause-lost c =
    let f = fields_of c.prepare.new.self in
    clean-losers f c.args.won.won c.args.won.lost (scrubbed-room (fields_of c.args.self.now) f c.args.won.won c.args.won.lost c.requires.scrubbed c.prepare.ensures.makes)

pub heal-requires-clause-twins : goal.heal-requires-clause-twins
heal-requires-clause-twins c =
    let f = fields_of c.prepare.new.self in
    let m = c.prepare.ensures.makes in
    let v = scrubbed-room (fields_of c.args.self.now) f c.args.won.won c.args.won.lost c.requires.scrubbed m in
    scrub-twins f m.holds v.may

pub returns-clause-holds : goal.returns-clause-holds
returns-clause-holds c =
    let f : Fields = fields_of c.prepare.new.self in
    let m = c.prepare.ensures.makes in
    let v = scrubbed-room (fields_of c.args.self.now) f c.args.won.won c.args.won.lost c.requires.scrubbed m in
    let made = subst (λ (n : ℕ). AreMade n (core_in f).replicas) (sym c.made-threads.ensures.made) (scrub-made f m.holds v.may) in
    let stands = c.heal.ensures.stands f.job (core_in f).kernel (core_in f).replicas (ready-stands c.prepare.new.self m.holds (scrub-alone f m.holds v.may)) made in
    clean-holds f c.args.won.won c.args.won.lost v _ refl c.push_reserved.ensures.items stands.home stands.grouped refl (record { lent = refl; wishes = refl; lanes = refl }) refl refl refl refl refl refl refl refl refl refl refl refl
    (omega (arith, c.push_reserved.ensures.len, c.push_reserved.ensures.capacity, c.in_ok-prepare.ensures.room))

pub returns-clause-output : goal.returns-clause-output
returns-clause-output c =
    let old : Fields = fields_of c.args.self.now in
    let f : Fields = fields_of c.prepare.new.self in
    let m = c.prepare.ensures.makes in
    let v = scrubbed-room old f c.args.won.won c.args.won.lost c.requires.scrubbed m in
    ap (output_of f.job) c.push_reserved.ensures.items ∙ clean-output f c.args.won.won c.args.won.lost v ∙ ap (λ (j : Job). output_of j f.journal) m.job ∙ ap (output_of old.job) m.journal
