use Rattle.std.proofs.Common.{subst, ℕ, ◌+◌, ◌<◌, ◌++◌, ◌∷◌, [], length, refl, ap, ◌∙◌, sym, arith}
use Rattle.std.proofs.lemmas.List.{with_items_is}
use Rattle.ro_legal.specs.Core.{Job}
use Rattle.ro_core.specs.Wishing.{Forgives}
use Rattle.ro_core.specs.Fields.{core_in}
use Rattle.ro_core.proofs.Occurring.{unblocked, occurs-few, occurs-given, occurs-can, occurs-thread, occurs-threads, occurs-seats, occurs-steps, occurs-short, occurs-sent, occurs-unblocked, occurs-votes, occurs-calm, occurs-holds, occurs-wrote}
use Rattle.ro_core.proofs.cores.Core.occur.Goals as goal

pub apply-requires-clause-few : goal.apply-requires-clause-few
apply-requires-clause-few c = occurs-seats _ _ c.requires.can

pub apply-requires-clause-can : goal.apply-requires-clause-can
apply-requires-clause-can c = occurs-can _ _ c.requires.can

pub apply-requires-clause-thread : goal.apply-requires-clause-thread
apply-requires-clause-thread c = occurs-thread _ _ c.requires.can

pub forgive-requires-clause-thread : goal.forgive-requires-clause-thread
forgive-requires-clause-thread c = subst (λ (n : ℕ). n < 16) c.requires.can.own (occurs-thread _ _ c.requires.can)

pub apply-requires-clause-threads : goal.apply-requires-clause-threads
apply-requires-clause-threads c = occurs-threads _ _ c.requires.can

pub bounds-self-thread : goal.bounds-self-thread
bounds-self-thread c = occurs-few _ _ c.requires.can

pub is_blocked-was_blocked-requires : goal.is_blocked-was_blocked-requires
is_blocked-was_blocked-requires c = occurs-few _ _ c.requires.can

pub unblocked_behind-self-requires : goal.unblocked_behind-self-requires
unblocked_behind-self-requires c = λ e. let stays = c.leaves_blocked-stays.ensures e in occurs-unblocked _ _ c.requires.can (stays.0, stays.1, unblocked _ _ c.is_blocked-was_blocked.ensures stays.2)

pub note-requires-clause-few : goal.note-requires-clause-few
note-requires-clause-few c = let votes = occurs-votes _ _ c.requires.can in let room = c.requires.can.amid.room in omega arith

pub note-requires-clause-thread : goal.note-requires-clause-thread
note-requires-clause-thread c = occurs-few _ _ c.requires.can

pub calm_behind-self-requires : goal.calm_behind-self-requires
calm_behind-self-requires c = λ e. occurs-calm _ _ c.requires.can c.note.new.self (record { waits = c.note.ensures.waits _ c.is_blocked-was_blocked.ensures; since = c.note.ensures.since; least = c.note.ensures.votes.0; most = c.note.ensures.votes.1 }) (let stays = c.leaves_blocked-stays.ensures e in (stays.0, stays.1, unblocked _ _ c.is_blocked-was_blocked.ensures stays.2))

pub push_reserved-requires : goal.push_reserved-requires
push_reserved-requires c = let room = c.requires.can.amid.room in omega arith

pub overflow_add-self : goal.overflow_add-self
overflow_add-self c = let steps = occurs-steps _ _ c.requires.can in let range = c.requires.can.holds.in_range.limit in omega arith

pub overflow_cast-self : goal.overflow_cast-self
overflow_cast-self c = let few = occurs-short _ _ c.requires.can in let long = ap length c.payload-written.ensures in omega arith

pub overflow_add-self-2 : goal.overflow_add-self-2
overflow_add-self-2 c = let sent = occurs-sent _ _ c.requires.can in let long = ap length c.payload-written.ensures in omega arith

pub returns-clause-holds : goal.returns-clause-holds
returns-clause-holds c =
    let can = c.requires.can in
    let stands = c.apply.ensures.stands can.before.job (core_in can.before).kernel c.args.self.now.kernel.kernel can.replicas (occurs-given _ _ can) can.stands can.made can.wait in
    let wishes = with_items_is c.args.self.now.wishes c.forgive.new.wishes (c.forgive.ensures.count ∙ c.as_mut_slice.ensures.len) in
    occurs-holds _ _ can _ can.amid.job (c.push_reserved.ensures.items ∙ ap (λ js. js ++ c.args.noted.now.entry ∷ []) can.amid.journal) refl
    stands.home stands.grouped can.amid.leases (record {
      lent = can.amid.lent;
      lanes = can.amid.lanes;
      wishes = subst (λ ws. Forgives c.args.noted.now.thread can.before.job.settings.replicas can.before.wishes ws) (sym wishes) (subst (λ (n : ℕ). Forgives c.args.noted.now.thread n can.before.wishes c.forgive.new.wishes) (ap (λ (j : Job). j.settings.replicas) can.amid.job)
          (subst (λ ws. Forgives c.args.noted.now.thread c.args.self.now.settings.replicas ws c.forgive.new.wishes) can.amid.wishes (subst (λ ws. Forgives c.args.noted.now.thread c.args.self.now.settings.replicas ws c.forgive.new.wishes) c.as_mut_slice.ensures.value c.forgive.ensures)));
    }) refl refl c.unblocked_behind-self.ensures c.calm_behind-self.ensures refl refl (record { waits = c.note.ensures.waits _ c.is_blocked-was_blocked.ensures; since = c.note.ensures.since; least = c.note.ensures.votes.0; most = c.note.ensures.votes.1 }) can.amid.ended can.amid.views (ap (λ xs. c.args.self.now.sent + length xs) c.payload-written.ensures) (ap (λ xs. length xs) c.payload-written.ensures) (let room = can.amid.room in omega (arith, c.push_reserved.ensures.len, c.push_reserved.ensures.capacity))

pub returns-clause-wrote : goal.returns-clause-wrote
returns-clause-wrote c = let can = c.requires.can in occurs-wrote _ _ can _ can.amid.job (c.push_reserved.ensures.items ∙ ap (λ js. js ++ c.args.noted.now.entry ∷ []) can.amid.journal) refl
