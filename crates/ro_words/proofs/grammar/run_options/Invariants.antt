use Rattle.std.proofs.Common.{drop}
use Rattle.clap.specs.Simple.{App}
use Rattle.ro_words.specs.Grammar.{Reads, with_run_options}
use Rattle.ro_words.proofs.Grown.{Goes}
use Rattle.ro_words.proofs.grammar.run_options.Given as goal

-- the command so far, and the options that are left
abbrev pub invariant-loop-option : goal.invariant-loop-option
invariant-loop-option l = (app : App) → Reads app l.fn.command → Goes (with_run_options app) (drop l.option-index l.option-items) l.whole
