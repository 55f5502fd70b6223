use Rattle.std.specs.Prelude.{◌≡◌, ℕ, List}
use Rattle.std.proofs.Common.{refl, ap, ◌∙◌, subst}
use Rattle.ro_peer.specs.Gets.{got_in}
use Rattle.ro_peer.specs.Leases.{PeerRuns, IsRefused, KeepsRows, Wins}
use Rattle.ro_peer.specs.Seen.{peer_of}
use Rattle.ro_locking.specs.Asking.{Asking, rows_of, known_by, won_by, refused_by}
use Rattle.ro_coop_lease.proofs.Running.{asked-is, same-page, same-number}
use Rattle.ro_coop_lease.proofs.Lent.run.Goals as goal

pub returns : goal.returns
returns c =
    let lent = c.args.self in
    let replica = lent.partner.peer.replica in
    let ceilings : List ℕ = lent.partner.ceilings.items in
    let before : Asking = c.new-locks.result in
    let after : Asking = c.run-count.new.locks in
    let ran = c.run-count.result in
    let before_is : before ≡ record { pass = c.args.pass; ceilings = ceilings } = c.new-locks.ensures ∙ ap (λ (items : List ℕ). record { pass = c.args.pass; ceilings = items }) c.as_slice.ensures.value in
    let after_is : after ≡ record { pass = c.into_pass-pass.result; ceilings = ceilings } = asked-is c.args.pass c.into_pass-pass.result ceilings before after before_is c.into_pass-pass.ensures c.run-count.ensures.stays in
    record {
      lease = refl;
      program = c.run-count.ensures.program;
      ceilings = refl;
      runs = subst (λ (a : Asking). PeerRuns replica.layout replica.watchdog lent.quantum lent.lease.thread (rows_of a) (peer_of lent.partner.peer) (peer_of c.run-count.new.self) ran.count ran.came) after_is c.run-count.ensures.runs;
      page = same-page c.args.pass c.into_pass-pass.result ceilings before after before_is c.into_pass-pass.ensures c.run-count.ensures.stays;
      number = same-number c.args.pass c.into_pass-pass.result ceilings before after before_is c.into_pass-pass.ensures c.run-count.ensures.stays;
      knows = subst (λ (a : Asking). KeepsRows (known_by c.args.pass) (known_by a.pass)) after_is (subst (λ (b : Asking). KeepsRows (known_by b.pass) (known_by after.pass)) before_is c.run-count.ensures.knows);
      wins = subst (λ (a : Asking). Wins (won_by c.args.pass) (won_by a.pass) lent.partner.peer.mutexes (got_in replica.layout replica.watchdog ran.count (peer_of lent.partner.peer) lent.lease.thread)) after_is
          (subst (λ (b : Asking). Wins (won_by b.pass) (won_by after.pass) lent.partner.peer.mutexes (got_in replica.layout replica.watchdog ran.count (peer_of lent.partner.peer) lent.lease.thread)) before_is c.run-count.ensures.wins);
      refused = subst (λ (a : Asking). IsRefused (refused_by a) lent.lease.thread c.run-count.new.self.mutexes ran.came) after_is c.run-count.ensures.refused;
    }
