use Rattle.std.proofs.Common.{◌≡◌, ℕ, Result, Ok, Err, IfOk, IfErr, sym, subst, map}
use Rattle.std.proofs.lemmas.Result.{err_from_is_err_and}
use Rattle.ro_elf.specs.Errors.{number_of}
use Rattle.ro_event.specs.declared.table.CallTable.{CallTable}
use Rattle.ro_sym.specs.Symbols.{symbol_in}
use Rattle.ro_sym.specs.Calls.{calls_of, table_with}
use Rattle.ro_sym.proofs.Among.{calls_of_found, calls_of_refused}
use Rattle.ro_sym.proofs.table.calls.Goals as goal

pub returns-in_err-found-clause-refused : goal.returns-in_err-found-clause-refused
returns-in_err-found-clause-refused c =
    let p = err_from_is_err_and c.from_residual.result c.from_residual.ensures.1 in rw (p.1, p.2) (calls_of_refused c.args.bytes.now c.args.elf.now.sections c.sections.result _ c.sections.ensures c.in_err-found.ensures.refused)

pub returns-clause-found : goal.returns-clause-found
returns-clause-found c =
    let f = c.in_ok-found.found in
    let is : calls_of c.args.bytes.now c.args.elf.now.sections ≡ table_with f.strings.now (map symbol_in f.symbols.now) = calls_of_found c.args.bytes.now c.args.elf.now.sections c.sections.result _ c.sections.ensures c.in_ok-found.ensures.found in
    subst (λ (r : Result CallTable ℕ). IfOk c.table_in.result (λ table. r ≡ Ok table)) (sym is) c.table_in.ensures.found

pub returns-clause-refused : goal.returns-clause-refused
returns-clause-refused c =
    let f = c.in_ok-found.found in
    let is : calls_of c.args.bytes.now c.args.elf.now.sections ≡ table_with f.strings.now (map symbol_in f.symbols.now) = calls_of_found c.args.bytes.now c.args.elf.now.sections c.sections.result _ c.sections.ensures c.in_ok-found.ensures.found in
    subst (λ (r : Result CallTable ℕ). IfErr c.table_in.result (λ error. r ≡ Err (number_of error))) (sym is) c.table_in.ensures.refused
