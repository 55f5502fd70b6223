use Rattle.std.proofs.Common.{◌≡◌, ap, ap₂, sym, subst, ◌∙◌, ◌++◌, length, Some, None}
use Rattle.std.specs.Prelude.{nat_lt}
use Rattle.ro_pages.specs.Bytes.{stored}
use Rattle.ro_pages.specs.Held.{memory_of}
use Rattle.ro_event.specs.declared.calls.Call.{Call}
use Rattle.ro_kernel.specs.Serve.{payload_of, put_out, serve}
use Rattle.ro_kernel.proofs.Given.{range-alone}
use Rattle.ro_plain.specs.Machine.{called}
use Rattle.ro_machine.specs.Seen.{machine_with, payload_now}
use Rattle.ro_machine.proofs.Noted.{tells-done}
use Rattle.ro_machine.proofs.Serving.{known, ended-lives, parked-lives, threads-after, served-so}
use Rattle.ro_machine.proofs.calls.serve.Goals as goal
use Rattle.ro_region.specs.Permission.{ranges_of}

pub apply-requires-clause-thread : goal.apply-requires-clause-thread
apply-requires-clause-thread c = (known c.args.kernel.now c.serve.new.self c.args.thread (length c.args.cpus.now.items) c.question_of-question.result _ c.in-Done.effect c.requires.live c.requires.made c.in-Done.is c.in_ok-effect.ensures.served).made

pub apply-requires-clause-creator : goal.apply-requires-clause-creator
apply-requires-clause-creator c = (known c.args.kernel.now c.serve.new.self c.args.thread (length c.args.cpus.now.items) c.question_of-question.result _ c.in-Done.effect c.requires.live c.requires.made c.in-Done.is c.in_ok-effect.ensures.served).creator

pub apply-requires-clause-few : goal.apply-requires-clause-few
apply-requires-clause-few c = (known c.args.kernel.now c.serve.new.self c.args.thread (length c.args.cpus.now.items) c.question_of-question.result _ c.in-Done.effect c.requires.live c.requires.made c.in-Done.is c.in_ok-effect.ensures.served).few

pub apply-requires-clause-within : goal.apply-requires-clause-within
apply-requires-clause-within c = (known c.args.kernel.now c.serve.new.self c.args.thread (length c.args.cpus.now.items) c.question_of-question.result _ c.in-Done.effect c.requires.live c.requires.made c.in-Done.is c.in_ok-effect.ensures.served).within

pub apply-requires-clause-page : goal.apply-requires-clause-page
apply-requires-clause-page c = (known c.args.kernel.now c.serve.new.self c.args.thread (length c.args.cpus.now.items) c.question_of-question.result _ c.in-Done.effect c.requires.live c.requires.made c.in-Done.is c.in_ok-effect.ensures.served).page

pub returns-in-Done-clause-made : goal.returns-in-Done-clause-made
returns-in-Done-clause-made c =
    let facts = known c.args.kernel.now c.serve.new.self c.args.thread (length c.args.cpus.now.items) c.question_of-question.result _ c.in-Done.effect c.requires.live c.requires.made c.in-Done.is c.in_ok-effect.ensures.served in
    threads-after c.in-Done.effect c.args.cpus.now.items c.apply.new.cpus.items facts.made c.apply.ensures.cpus ∙ sym facts.lives

pub returns-in-Done-clause-served : goal.returns-in-Done-clause-served
returns-in-Done-clause-served c cpu output there =
    let facts = known c.args.kernel.now c.serve.new.self c.args.thread (length c.args.cpus.now.items) c.question_of-question.result _ c.in-Done.effect c.requires.live c.requires.made c.in-Done.is c.in_ok-effect.ensures.served in
    subst (λ (question : Call). called (machine_with c.args.pages.now c.args.cpus.now.items c.args.kernel.now.kernel output None) cpu (put_out c.args.call.which (payload_now c.args.kernel.now c.args.pages.now c.args.call)) (serve c.args.kernel.now.setup c.args.kernel.now.kernel c.args.thread question) ≡ Some (machine_with c.apply.new.pages c.apply.new.cpus.items c.serve.new.self.kernel (output ++ c.put_bytes.new.written.items) None)) c.question_of-question.ensures
    (served-so c.args.pages.now c.apply.new.pages c.args.cpus.now.items c.apply.new.cpus.items c.args.kernel.now c.serve.new.self output c.put_bytes.new.written.items _ c.args.thread c.question_of-question.result c.in-Done.effect cpu facts there
    (c.apply.ensures.bytes ∙ ap (λ p. stored (memory_of p) c.in-Done.effect.place c.in-Done.effect.bytes) c.reserve.ensures.pages)
    c.apply.ensures.cpus
    (c.put_bytes.ensures.bytes ∙ ap (put_out c.args.call.which) (c.payload_of_call-loaded.ensures.bytes _ ∙ ap₂ (λ r p. payload_of (ranges_of r) (memory_of p) c.args.call) c.regions.ensures c.reserve.ensures.pages)))

pub returns-in-Ends-clause-made : goal.returns-in-Ends-clause-made
returns-in-Ends-clause-made c = c.requires.made ∙ sym (ended-lives c.args.kernel.now c.serve.new.self c.args.thread c.question_of-question.result _ c.in-Ends.how c.in-Ends.is c.in_ok-effect.ensures.served)

pub returns-in-Parked-clause-made : goal.returns-in-Parked-clause-made
returns-in-Parked-clause-made c = c.requires.made ∙ sym (parked-lives c.args.kernel.now c.serve.new.self c.args.thread c.question_of-question.result _ c.in-Parked.is c.in_ok-effect.ensures.served)

pub stored_by-requires-clause-few : goal.stored_by-requires-clause-few
stored_by-requires-clause-few c = (known c.args.kernel.now c.serve.new.self c.args.thread (length c.args.cpus.now.items) c.question_of-question.result _ c.in-Done.effect c.requires.live c.requires.made c.in-Done.is c.in_ok-effect.ensures.served).few

pub stored_by-requires-clause-within : goal.stored_by-requires-clause-within
stored_by-requires-clause-within c = (known c.args.kernel.now c.serve.new.self c.args.thread (length c.args.cpus.now.items) c.question_of-question.result _ c.in-Done.effect c.requires.live c.requires.made c.in-Done.is c.in_ok-effect.ensures.served).within

pub stored_by-requires-clause-alone : goal.stored_by-requires-clause-alone
stored_by-requires-clause-alone c =
    let facts = known c.args.kernel.now c.serve.new.self c.args.thread (length c.args.cpus.now.items) c.question_of-question.result _ c.in-Done.effect c.requires.live c.requires.made c.in-Done.is c.in_ok-effect.ensures.served in
    range-alone c.args.kernel.now.setup c.args.kernel.now.kernel c.args.thread c.question_of-question.result c.serve.new.self.kernel c.in-Done.effect facts.outcome

pub returns-in-Done-clause-told : goal.returns-in-Done-clause-told
returns-in-Done-clause-told c =
    let facts = known c.args.kernel.now c.serve.new.self c.args.thread (length c.args.cpus.now.items) c.question_of-question.result _ c.in-Done.effect c.requires.live c.requires.made c.in-Done.is c.in_ok-effect.ensures.served in
    let outcome = ap (serve c.args.kernel.now.setup c.args.kernel.now.kernel c.args.thread) (sym c.question_of-question.ensures) ∙ facts.outcome in
    tells-done _ c.serve.new.self.kernel c.in-Done.effect c.args.call c.effect.inside.answer _ c.stored_by.result _ outcome (ap (λ e. e.answer) c.effect.view_is) (c.stored_by.ensures.span c.serve.new.self.kernel) c.stored_by.ensures.low (ap (nat_lt 0) (ap length c.as_slice.ensures.value ∙ ap (λ e. length e.bytes) c.effect.view_is))
