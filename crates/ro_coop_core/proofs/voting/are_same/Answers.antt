use Rattle.std.proofs.Common.{List, ◌↔◌, sym, subst}
use Rattle.std.specs.Prelude.{IsTrue, true}
use Rattle.std.proofs.lemmas.List.{nil_from_length}
use Rattle.ro_event.specs.Views.{View}
use Rattle.ro_legal.specs.Cooperative.{AreAll}
use Rattle.ro_coop_core.proofs.Views.{first-alike, none-alike}
use Rattle.ro_coop_core.proofs.voting.are_same.Goals as goal

pub returns-in-Some : goal.returns-in-Some
returns-in-Some c =
    subst (λ (views : List View). IsTrue c.are_like.result ↔ ((view : View) × AreAll view views)) (sym c.in-Some.ensures.cases.0)
    (first-alike c.in-Some.first.now c.in-Some.others.now c.are_like.result c.are_like.ensures)

pub returns-in-None : goal.returns-in-None
returns-in-None c =
    subst (λ (views : List View). IsTrue true ↔ ((view : View) × AreAll view views)) (sym (nil_from_length c.args.views.now c.in-None.ensures.cases)) none-alike
