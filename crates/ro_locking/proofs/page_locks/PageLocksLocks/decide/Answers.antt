use Rattle.std.proofs.Common.{◌≡◌, List, Option, Some, sym, ap, ◌∙◌, inl, inr, ⊎_elim}
use Rattle.ro_lockpage.specs.Ranks.{Decided, map_of, row_in, won_then}
use Rattle.ro_lockpage.specs.declared.words.Answer.{Answer}
use Rattle.ro_locking.specs.Asking.{Asking, decision_of}
use Rattle.ro_locking.proofs.Deciding.{wins_asked, asks_last}
use Rattle.ro_locking.proofs.page_locks.PageLocksLocks.decide.Goals as goal

pub returns-clause-wins : goal.returns-clause-wins
returns-clause-wins c other at owner won =
    let did = c.decide-answer.ensures.did in
    let row : Option Answer = row_in c.args.rank did.1 in
    let more : map_of (won_then c.self.inside.pass.won row c.args.number c.args.rank c.args.thread) other at ≡ Some owner = sym (ap (λ (ds : List Decided). map_of ds other at) did.4) ∙ won in
    ⊎_elim
    (λ (was : map_of c.self.inside.pass.won other at ≡ Some owner). inl (sym (ap (λ (a : Asking). map_of a.pass.won other at) c.self.view_is) ∙ was))
    (λ one. inr (c.decision.ensures ∙ ap (λ (a : Answer). decision_of a c.args.thread) did.3 ∙ one.0, one.1, one.2, one.3))
    (wins_asked c.self.inside.pass.won c.args.number c.args.rank c.args.thread row other at owner more)

pub returns-clause-other : goal.returns-clause-other
returns-clause-other c other =
    let did = c.decide-answer.ensures.did in
    inr (did.1, asks_last _ _ c.args.number c.args.rank did.0 did.1 did.5, sym (c.decision.ensures ∙ ap (λ (a : Answer). decision_of a c.args.thread) did.3) ∙ other)
