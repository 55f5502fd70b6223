use Rattle.std.proofs.Common.{ℕ, List, ap, sym, ◌∙◌, ◌≡◌, refl, subst, Some, None, arith}
use Rattle.ro_decode.specs.declared.Instr.{Instr}
use Rattle.ro_decode.specs.Table.{instruction_of}
use Rattle.ro_exec.specs.Meaning.{loads, stores}
use Rattle.ro_pages.specs.Held.{memory_of}
use Rattle.ro_plain.proofs.Calls.{some-injective}
use Rattle.ro_machine.specs.Watched.{span_of}
use Rattle.ro_machine.proofs.Noted.{no_bytes, look-unread, look-read}
use Rattle.ro_machine.proofs.looking.look_ahead.Goals as goal
use Rattle.ro_region.specs.Permission.{ranges_of}

pub returns-then-not-is_fetched : goal.returns-then-not-is_fetched
returns-then-not-is_fetched c = look-unread (record { ranges = ranges_of c.args.regions.now; calls = c.args.calls.now }) (memory_of c.args.pages.now.pages) c.args.cpu.now (sym c.if-not-is_fetched.true ∙ c.is_fetched.ensures.fetched)

pub returns-in-Some : goal.returns-in-Some
returns-in-Some c =
    look-read (record { ranges = ranges_of c.args.regions.now; calls = c.args.calls.now }) (memory_of c.args.pages.now.pages) c.args.cpu.now (record { pc = c.args.cpu.now.pc; code = record { place = c.args.cpu.now.pc; count = 4 }; loads = c.loads_of.result; stores = c.stores_of.result }) refl (sym c.if-not-is_fetched.false ∙ c.is_fetched.ensures.fetched) refl
    (λ instr e. subst (λ (i : Instr). span_of c.loads_of.result ≡ loads i c.args.cpu.now) (some-injective (sym c.in-Some.is ∙ (c.decode.ensures.instruction ∙ (ap instruction_of c.word_at.ensures ∙ e)))) (subst (λ (registers : List ℕ). span_of c.loads_of.result ≡ loads c.in-Some.instr (record { registers = registers; pc = c.args.cpu.now.pc })) c.new-registers.ensures (c.loads_of.ensures.bytes c.args.cpu.now.pc)))
    (λ instr e. subst (λ (i : Instr). span_of c.stores_of.result ≡ stores i c.args.cpu.now) (some-injective (sym c.in-Some.is ∙ (c.decode.ensures.instruction ∙ (ap instruction_of c.word_at.ensures ∙ e)))) (subst (λ (registers : List ℕ). span_of c.stores_of.result ≡ stores c.in-Some.instr (record { registers = registers; pc = c.args.cpu.now.pc })) c.new-registers.ensures (c.stores_of.ensures.bytes c.args.cpu.now.pc)))
    c.loads_of.ensures.few c.stores_of.ensures.few c.stores_of.ensures.at

pub returns-in-None : goal.returns-in-None
returns-in-None c =
    look-read (record { ranges = ranges_of c.args.regions.now; calls = c.args.calls.now }) (memory_of c.args.pages.now.pages) c.args.cpu.now (record { pc = c.args.cpu.now.pc; code = record { place = c.args.cpu.now.pc; count = 4 }; loads = no_bytes; stores = no_bytes }) refl (sym c.if-not-is_fetched.false ∙ c.is_fetched.ensures.fetched) refl
    (λ instr e. absurd (let f : None ≡ Some instr = sym c.in-None.is ∙ (c.decode.ensures.instruction ∙ (ap instruction_of c.word_at.ensures ∙ e)) in cc))
    (λ instr e. absurd (let f : None ≡ Some instr = sym c.in-None.is ∙ (c.decode.ensures.instruction ∙ (ap instruction_of c.word_at.ensures ∙ e)) in cc))
    (omega arith) (omega arith) (omega arith)
