use Rattle.std.proofs.Common.{Option, ◌≡◌, ◌<◌, None, length, refl, sym, ap, ◌∙◌, subst, arith}
use Rattle.ro_replica.specs.Replica.{Replica}
use Rattle.ro_peer.specs.Seen.{peer_of, said}
use Rattle.ro_peer.specs.declared.running.Came.{Came}
use Rattle.ro_peer.specs.Gets.{get_of}
use Rattle.ro_peer.specs.Leases.{Permits, Wins, met_gets}
use Rattle.ro_peer.proofs.Winning.{wins_answer}
use Rattle.ro_peer.proofs.Places.{number_within}
use Rattle.ro_peer.proofs.Answering.{answered_step, meets_owned, meets_refused, meets_answered, says_waits, none_is}
use Rattle.ro_peer.proofs.peers.Peer.meet.Goals as goal

pub returns-in_default-clause-meets : goal.returns-in_default-clause-meets
returns-in_default-clause-meets g c = (
  refl,
  meets_owned _ _ c.args.thread (peer_of c.args.self.now) c.args.own.call c.args.own.number c.mutex-mutex.result c.requires.standing c.requires.locks c.requires.number c.mutex-mutex.ensures
      (sym c.answer_to.ensures ∙ says_waits c.answer_to.result c.in_default.not-Answers),
)

pub returns-then-is_some-clause-meets : goal.returns-then-is_some-clause-meets
returns-then-is_some-clause-meets g c =
    meets_refused _ _ c.args.thread _ (peer_of c.args.self.now) c.args.own.call c.args.own.number c.mutex-mutex.result c.in-Answers.change c.in-Answers.value c.permit-came.result
    c.requires.standing c.requires.number c.mutex-mutex.ensures (sym c.answer_to.ensures ∙ ap said c.in-Answers.is) c.permit-came.ensures.permits (sym c.is_some.ensures ∙ c.if-is_some.true)

pub returns-clause-meets : goal.returns-clause-meets
returns-clause-meets g c =
    let none : c.permit-came.result ≡ None = none_is c.permit-came.result (sym c.is_some.ensures ∙ c.if-is_some.false) in
    let within : c.args.thread < length c.args.self.now.answered = omega (arith, c.requires.thread) in
    meets_answered _ _ c.args.thread _ c.args.self.now c.answer.new.self c.change.new.self c.args.own.call c.args.own.number c.mutex-mutex.result c.in-Answers.change c.in-Answers.value
    c.requires.standing c.requires.locks c.requires.number c.mutex-mutex.ensures (sym c.answer_to.ensures ∙ ap said c.in-Answers.is) within
    (subst (Permits (g.L.Locks.rows c.permit-came.new.locks) c.in-Answers.change c.args.own.number c.mutex-mutex.result.rank c.args.thread) none c.permit-came.ensures.permits)
    c.answer.ensures.answered c.change.ensures

pub mutex-mutex-requires : goal.mutex-mutex-requires
mutex-mutex-requires g c = number_within c.args.self.now.mutexes c.args.own.call.a0 c.args.own.number c.requires.number

pub change-requires-clause-number : goal.change-requires-clause-number
change-requires-clause-number g c = number_within c.args.self.now.mutexes c.args.own.call.a0 c.args.own.number c.requires.number

pub returns-clause-waiting : goal.returns-clause-waiting
returns-clause-waiting g c = ap (λ (r : Replica). r.waiting) c.answer.ensures.answered

pub returns-clause-wins : goal.returns-clause-wins
returns-clause-wins g c =
    let none : c.permit-came.result ≡ None = none_is c.permit-came.result (sym c.is_some.ensures ∙ c.if-is_some.false) in
    let old = c.args.self.now in
    let gets = get_of old.replica.layout (peer_of old) c.args.thread in
    let step =
    answered_step old.replica.layout old.replica.watchdog c.args.thread (peer_of old) c.args.own.call c.args.own.number c.mutex-mutex.result c.in-Answers.change c.in-Answers.value
    c.requires.standing c.requires.locks c.requires.number c.mutex-mutex.ensures (sym c.answer_to.ensures ∙ ap said c.in-Answers.is) in
    subst (λ (came : Option Came). Wins (g.L.Locks.won c.args.locks.now) (g.L.Locks.won c.permit-came.new.locks) old.mutexes (met_gets came gets)) none
    (wins_answer (g.L.Locks.won c.args.locks.now) (g.L.Locks.won c.permit-came.new.locks) old.mutexes gets c.args.own.call c.args.own.number c.args.thread c.mutex-mutex.result c.in-Answers.change c.in-Answers.value c.permit-came.result
    c.permit-came.ensures.wins c.requires.number step.3)
