use Rattle.ro_pages.proofs.Shorts.{NotBefore}
use Rattle.ro_pages.proofs.short.place_of.Given as goal

abbrev pub invariant-loop-i : goal.invariant-loop-i
invariant-loop-i l = record { before : NotBefore l.numbers l.page l.i }
