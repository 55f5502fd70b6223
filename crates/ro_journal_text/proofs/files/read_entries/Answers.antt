use Rattle.std.proofs.Common.{◌≡◌, ◌++◌, ◌∷◌, [], Ok, true, false, rules, arith, sym, ◌∙◌, ap}
use Rattle.ro_text.specs.Lines.{parts_of}
use Rattle.ro_journal_text.specs.Reading.{is_end}
use Rattle.ro_journal_text.proofs.Steps.{line_read, line_last, line_refused}
use Rattle.ro_journal_text.proofs.files.read_entries.Goals as goal

pub returns-then-is_end-clause-read : goal.returns-then-is_end-clause-read
returns-then-is_end-clause-read c =
    let cut : parts_of c.loop-text.rest.now ≡ c.in-Some.text.now ∷ parts_of c.in-Some.behind.now = search rules in
    let more : c.push.new.self.items ≡ c.loop-text.entries.items ++ c.in-Ok.entry ∷ [] = search rules in
    let ends : is_end c.in-Ok.entry ≡ true = search rules in
    sym c.loop-text.invariant.1
    ∙ line_last _ c.loop-text.line c.loop-text.entries.items c.in-Ok.entry c.loop-text.rest.now c.in-Some.text.now c.in-Some.behind.now cut c.in-Ok.ensures ends
    ∙ ap Ok (sym more)

pub returns-in-Err-clause-refused : goal.returns-in-Err-clause-refused
returns-in-Err-clause-refused c =
    let cut : parts_of c.loop-text.rest.now ≡ c.in-Some.text.now ∷ parts_of c.in-Some.behind.now = search rules in
    sym c.loop-text.invariant.1
    ∙ line_refused _ c.loop-text.line c.loop-text.entries.items c.in-Err.code c.loop-text.rest.now c.in-Some.text.now c.in-Some.behind.now cut c.in-Err.ensures

pub loop-text-preserved : goal.loop-text-preserved
loop-text-preserved c =
    let cut : parts_of c.loop-text.rest.now ≡ c.in-Some.text.now ∷ parts_of c.in-Some.behind.now = search rules in
    let more : c.push.new.self.items ≡ c.loop-text.entries.items ++ c.in-Ok.entry ∷ [] = search rules in
    let goes_on : is_end c.in-Ok.entry ≡ false = search rules in
    let read = line_read _ c.loop-text.line c.loop-text.entries.items c.in-Ok.entry c.loop-text.rest.now c.in-Some.text.now c.in-Some.behind.now cut c.in-Ok.ensures goes_on in
    (search (rules, arith), rw more (sym read ∙ c.loop-text.invariant.1))
