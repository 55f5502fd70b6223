use Rattle.std.proofs.Common.{◌≡◌, ◌++◌, ◌∷◌, [], rules, arith, sym, ◌∙◌}
use Rattle.ro_text.specs.Lines.{parts_of}
use Rattle.ro_faults.proofs.Reading.{line_read, line_refused}
use Rattle.ro_faults.proofs.files.read_faults.Goals as goal

pub returns-in-Err-clause-refused : goal.returns-in-Err-clause-refused
returns-in-Err-clause-refused c =
    let cut : parts_of c.loop-text.rest.now ≡ c.in-Some.text.now ∷ parts_of c.in-Some.behind.now = search rules in
    sym c.loop-text.invariant.1
    ∙ line_refused c.args.replicas c.loop-text.line c.loop-text.faults.items c.in-Err.code c.loop-text.rest.now c.in-Some.text.now c.in-Some.behind.now cut c.in-Err.ensures.read

pub loop-text-preserved : goal.loop-text-preserved
loop-text-preserved c =
    let cut : parts_of c.loop-text.rest.now ≡ c.in-Some.text.now ∷ parts_of c.in-Some.behind.now = search rules in
    let more : c.push.new.self.items ≡ c.loop-text.faults.items ++ c.in-Ok.fault ∷ [] = search rules in
    let read = line_read c.args.replicas c.loop-text.line c.loop-text.faults.items c.in-Ok.fault c.loop-text.rest.now c.in-Some.text.now c.in-Some.behind.now cut c.in-Ok.ensures.read in
    (omega (arith, c.in-Ok.ensures.few), rw more (sym read ∙ c.loop-text.invariant.1))
