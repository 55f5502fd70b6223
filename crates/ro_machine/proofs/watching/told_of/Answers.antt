use Rattle.std.proofs.Common.{ℕ, ◌≡◌, ◌<◌, ◌≤◌, subst, arith}
use Rattle.ro_plain.specs.Machine.{next_of}
use Rattle.ro_plain.proofs.Calls.{steppable-parts}
use Rattle.ro_machine.specs.declared.watching.Went.{Went}
use Rattle.ro_machine.specs.Watched.{TellsNext}
use Rattle.ro_machine.proofs.Serving.{lives-made}
use Rattle.ro_machine.proofs.Noted.{sees-executed, sees-trapped, sees-called}
use Rattle.ro_machine.proofs.watching.told_of.Goals as goal

few : (n made thread : ℕ) → n ≡ made → made ≤ 16 → thread < n → thread < 16
few n made thread e most less = omega arith

pub returns-in-Executed : goal.returns-in-Executed
returns-in-Executed c = record {
  sees = λ program machine thread cpu count live looks told.
      sees-executed program machine thread cpu live c.args.look looks (few _ _ thread count c.requires.made (lives-made machine.kernel.lives thread (steppable-parts machine thread cpu live).live))
      (subst (λ (w : Went). TellsNext program machine thread (next_of program machine cpu) w) c.in-Executed.is told);
}

pub returns-in-Trapped : goal.returns-in-Trapped
returns-in-Trapped c = record {
  sees = λ program machine thread cpu count live looks told.
      sees-trapped program machine thread cpu live c.args.look looks (few _ _ thread count c.requires.made (lives-made machine.kernel.lives thread (steppable-parts machine thread cpu live).live))
      (subst (λ (w : Went). TellsNext program machine thread (next_of program machine cpu) w) c.in-Trapped.is told);
}

pub returns-in-Called : goal.returns-in-Called
returns-in-Called c = record {
  sees = λ program machine thread cpu count live looks told.
      sees-called program machine thread cpu live c.args.look looks (few _ _ thread count c.requires.made (lives-made machine.kernel.lives thread (steppable-parts machine thread cpu live).live)) c.in-Called.came c.atomic_of.result c.relation_of.result
      (subst (λ (w : Went). TellsNext program machine thread (next_of program machine cpu) w) c.in-Called.is told)
      (c.atomic_of.ensures cpu looks.pc)
      (λ served h. c.relation_of.ensures machine cpu served count looks.pc h);
}
