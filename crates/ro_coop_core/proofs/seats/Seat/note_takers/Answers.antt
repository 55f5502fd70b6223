use Rattle.std.proofs.Common.{◌≡◌, ℕ, List, length, Some, take, sym, ap, ◌∙◌, subst, arith}
use Rattle.std.specs.Prelude.{slice_get}
use Rattle.ro_takers.specs.Recalls.{Recalls}
use Rattle.ro_coop_core.proofs.Taken.{noted-more, noted-count, recalled-count, recalled-ranks}
use Rattle.ro_coop_core.proofs.seats.Seat.note_takers.Goals as goal

pub note-requires-clause-number : goal.note-requires-clause-number
note-requires-clause-number c =
    let w = c.requires.known in
    let ranks = recalled-ranks _ c.loop-number.self.takers (c.loop-number.invariant.takers w.0 w.1) in
    let lists = noted-count c.args.thread (take c.loop-number.number c.args.peer.now.mutexes) w.0 in
    let mutexes = ap length c.mutexes-mutexes.ensures in
    omega (arith, ranks, lists, w.2, mutexes, c.count-number-end.ensures.count, c.loop-number-test.true)

pub loop-number-preserved : goal.loop-number-preserved
loop-number-preserved c = record {
  home = c.loop-number.invariant.home;
  parked = c.loop-number.invariant.parked;
  done = c.loop-number.invariant.done;
  takers = λ lists recalls.
      let w = c.requires.known in
      let there : slice_get c.args.peer.now.mutexes c.loop-number.number ≡ Some c.mutex.result = ap (λ ms. slice_get ms c.loop-number.number) (sym c.mutexes-mutexes.ensures) ∙ c.mutex.ensures in
      subst (λ (ls : List (List ℕ)). Recalls ls c.note.new.self) (noted-more c.args.thread c.args.peer.now.mutexes lists c.loop-number.number c.mutex.result there (recalled-count lists w.0 c.args.self.now.takers recalls w.1 ∙ w.2))
      (c.note.ensures.lists _ (c.loop-number.invariant.takers lists recalls));
}
