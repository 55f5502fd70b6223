use Rattle.std.proofs.Common.{⊎_elim}
use Rattle.ro_races.proofs.checking.hit_in.Goals as goal

pub returns-then-is_quiet-4 : goal.returns-then-is_quiet-4
returns-then-is_quiet-4 c mark byte h =
    ⊎_elim (⊎_elim (c.is_quiet-then-is_quiet.ensures c.if-is_quiet-2.true mark byte) (c.is_quiet.ensures c.if-is_quiet.true mark byte)) (⊎_elim (c.is_quiet-then-is_quiet-2.ensures c.if-is_quiet-3.true mark byte) (c.is_quiet-then-is_quiet-3.ensures c.if-is_quiet-4.true mark byte)) h
