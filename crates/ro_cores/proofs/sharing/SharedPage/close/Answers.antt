use Rattle.std.proofs.Common.{◌≡◌, length, sym, subst}
use Rattle.atomic_table.specs.Seated.{TableId}
use Rattle.ro_lockpage.specs.Pages.{AreFrom}
use Rattle.ro_cores.proofs.Passes.{gathered, all-eight, front-agrees}
use Rattle.ro_cores.proofs.sharing.SharedPage.close.Goals as goal

pub close-closed-requires : goal.close-closed-requires
close-closed-requires c =
    let all = c.append-2.new.self.items in
    let is = gathered c.spare.inside.room.items c.args.passes.items c.spare.inside.passes.items c.args.spare c.append.new.self.items all c.spare.invariant.0 c.spare.view_is c.in-Ok.ensures.items c.in-Ok-append.ensures.items in
    subst (λ (page : TableId). AreFrom page 0 all × (length all ≡ 8)) (sym c.self.view_is) (all-eight c.args.self c.args.passes.items c.args.spare all is c.requires.ours c.requires.spare)

pub returns : goal.returns
returns c =
    let all = c.append-2.new.self.items in
    let is = gathered c.spare.inside.room.items c.args.passes.items c.spare.inside.passes.items c.args.spare c.append.new.self.items all c.spare.invariant.0 c.spare.view_is c.in-Ok.ensures.items c.in-Ok-append.ensures.items in
    front-agrees c.args.passes.items c.args.spare all is c.close-closed.ensures.known
