use Rattle.std.proofs.Common.{refl, arith}
use Rattle.ro_coop_core.specs.Runs.{fields_of}
use Rattle.ro_coop_core.proofs.Ends.{end-not-over, end-allowed, end-took, end-room, end-counts, end-holds, comes-next}
use Rattle.ro_coop_core.proofs.cores.Core.end.Goals as goal

pub sent_behind-self-requires : goal.sent_behind-self-requires
sent_behind-self-requires c = record { wrote = end-took (fields_of c.args.self.now) c.requires.holds c.args.how c.requires.now }

pub push_reserved-requires : goal.push_reserved-requires
push_reserved-requires c = let room = end-room (fields_of c.args.self.now) c.requires.holds c.args.how c.requires.now in omega arith

pub returns-clause-holds : goal.returns-clause-holds
returns-clause-holds c =
    let f = fields_of c.args.self.now in
    let room = end-room f c.requires.holds c.args.how c.requires.now in
    end-holds f c.requires.holds c.args.how c.requires.now _ (end-counts f c.requires.holds c.args.how c.requires.now c.sent_behind-self.result c.sent_behind-self.ensures.cut c.sent_behind-self.ensures.whole) refl refl refl refl refl refl refl refl refl refl refl
    c.push_reserved.ensures.items (omega (arith, room, c.push_reserved.ensures.len, c.push_reserved.ensures.capacity))

pub returns-clause-allowed : goal.returns-clause-allowed
returns-clause-allowed c =
    let f = fields_of c.args.self.now in
    (end-not-over f c.requires.holds c.args.how c.requires.now, end-allowed f c.requires.holds c.args.how c.requires.now)

pub returns-clause-next : goal.returns-clause-next
returns-clause-next c = comes-next _ _ c.args.how
