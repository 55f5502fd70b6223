use Rattle.std.proofs.Common.{◌≡◌, ◌≤◌, List, Option, Some, length, map, refl, sym, ap, ◌∙◌, subst}
use Rattle.std.specs.Prelude.{◌↔◌}
use Rattle.ro_journal.specs.declared.How.{How}
use Rattle.ro_journal.specs.Losers.{numbers}
use Rattle.ro_vote.specs.Prevails.{Prevails, NonePrevails}
use Rattle.ro_replica.specs.Seen.{ReplicaOf}
use Rattle.ro_legal.specs.Legal.{EndsScrub}
use Rattle.ro_core.specs.Fields.{Fields, AreAllTwins, split_end}
use Rattle.ro_core.specs.Seated.{seat_snapshot}
use Rattle.ro_core.specs.Runs.{fields_of, state_of}
use Rattle.ro_core.proofs.Asked.{some-scrub-end, none-scrub-ends}
use Rattle.ro_core.proofs.Scrubs.{scrub-few, scrub-twins, scrub-won, scrub-none, scrub-ends, clean-allowed}
use Rattle.ro_core.proofs.cores.Core.scrub_end.Goals as goal

pub prevailing-requires-clause-few : goal.prevailing-requires-clause-few
prevailing-requires-clause-few c = subst (λ (xs : List (Option ReplicaOf)). length xs ≤ 5) (sym c.as_slice.ensures.value) (scrub-few (fields_of c.args.self.now) c.requires.holds c.requires.may)

pub prevailing-requires-clause-twins : goal.prevailing-requires-clause-twins
prevailing-requires-clause-twins c = subst AreAllTwins (sym c.as_slice.ensures.value) (scrub-twins (fields_of c.args.self.now) c.requires.holds c.requires.may)

pub returns-in-Some : goal.returns-in-Some
returns-in-Some c =
    let f : Fields = fields_of c.args.self.now in
    none-scrub-ends f.job (state_of c.args.self.now) c.in-Some.field-0.won c.in-Some.field-0.lost
    (clean-allowed f c.in-Some.field-0.won c.in-Some.field-0.lost
    (scrub-won f c.requires.holds c.requires.may c.in-Some.field-0.won c.in-Some.field-0.lost
    (subst (λ (xs : List (Option ReplicaOf)). Prevails (map (seat_snapshot c.args.self.now.kernel.kernel) xs) c.in-Some.field-0.won (numbers c.in-Some.field-0.lost)) c.as_slice.ensures.value c.in-Some.ensures.won)))

pub returns-in-None : goal.returns-in-None
returns-in-None c other =
    let f : Fields = fields_of c.args.self.now in
    let none = scrub-none f c.requires.holds c.requires.may (subst (λ (xs : List (Option ReplicaOf)). NonePrevails (map (seat_snapshot c.args.self.now.kernel.kernel) xs)) c.as_slice.ensures.value (c.in-None.ensures.none refl)) in
    subst (λ (how : How). (Some how ≡ Some other) ↔ EndsScrub (state_of c.args.self.now) other) (sym (c.split_of.ensures ∙ ap split_end (c.len.ensures ∙ c.args.self.now.seats.homes.ok.0)))
    (some-scrub-end f.job (state_of c.args.self.now) (split_end (length f.seats)) (scrub-ends f c.requires.holds c.requires.may none) other)
