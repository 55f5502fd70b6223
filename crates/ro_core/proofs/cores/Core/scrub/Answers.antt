use Rattle.std.proofs.Common.{◌≡◌, ◌≤◌, ◌++◌, ◌∷◌, [], List, Option, length, map, refl, sym, ap, ◌∙◌, subst}
use Rattle.std.proofs.lemmas.Result.{IfOk-weaker}
use Rattle.ro_journal.specs.declared.How.{How}
use Rattle.ro_journal.specs.declared.Entry.{Entry}
use Rattle.ro_journal.specs.declared.Entry.TheVariants.{End}
use Rattle.ro_journal.specs.Losers.{numbers}
use Rattle.ro_vote.specs.Prevails.{Prevails, NonePrevails}
use Rattle.ro_event.specs.Views.{View}
use Rattle.ro_replica.specs.Seen.{ReplicaOf}
use Rattle.ro_legal.specs.Legal.{IsAllowed, MayEnd}
use Rattle.ro_legal.specs.Decides.{DecidesScrub}
use Rattle.ro_core.specs.Fields.{Fields, AreAllTwins, split_end}
use Rattle.ro_core.specs.Seated.{seat_snapshot}
use Rattle.ro_core.specs.Seen.{KeepsViews, Appends}
use Rattle.ro_core.specs.Runs.{fields_of, state_of, silent}
use Rattle.ro_core.proofs.Scrubs.{scrub-few, scrub-twins, scrub-won, scrub-none, scrub-not-over, scrub-ends, scrub-may-end, scrub-keeps}
use Rattle.ro_core.proofs.cores.Core.scrub.Goals as goal

pub prevailing-requires-clause-few : goal.prevailing-requires-clause-few
prevailing-requires-clause-few c = subst (λ (xs : List (Option ReplicaOf)). length xs ≤ 5) (sym c.as_slice.ensures.value) (scrub-few (fields_of c.args.self.now) c.requires.holds c.requires.may)

pub prevailing-requires-clause-twins : goal.prevailing-requires-clause-twins
prevailing-requires-clause-twins c = subst AreAllTwins (sym c.as_slice.ensures.value) (scrub-twins (fields_of c.args.self.now) c.requires.holds c.requires.may)

pub clean-requires : goal.clean-requires
clean-requires c = record {
  scrubbed = scrub-won (fields_of c.args.self.now) c.requires.holds c.requires.may c.in-Some.won.won c.in-Some.won.lost
      (subst (λ (xs : List (Option ReplicaOf)). Prevails (map (seat_snapshot c.args.self.now.kernel.kernel) xs) c.in-Some.won.won (numbers c.in-Some.won.lost)) c.as_slice.ensures.value c.in-Some.ensures.won);
}

pub conclude-requires-clause-holds : goal.conclude-requires-clause-holds
conclude-requires-clause-holds c = (c.args.self.now.views.items, c.requires.holds)

pub conclude-requires-clause-allowed : goal.conclude-requires-clause-allowed
conclude-requires-clause-allowed c =
    let f : Fields = fields_of c.args.self.now in
    let none = scrub-none f c.requires.holds c.requires.may (subst (λ (xs : List (Option ReplicaOf)). NonePrevails (map (seat_snapshot c.args.self.now.kernel.kernel) xs)) c.as_slice.ensures.value (c.in-None.ensures.none refl)) in
    subst (MayEnd f.job (state_of c.args.self.now)) (sym (c.split_of-how.ensures ∙ ap split_end (c.len.ensures ∙ c.args.self.now.seats.homes.ok.0))) (scrub-may-end f c.requires.holds c.requires.may none)

pub conclude-requires-clause-views : goal.conclude-requires-clause-views
conclude-requires-clause-views c =
    let f : Fields = fields_of c.args.self.now in
    let none = scrub-none f c.requires.holds c.requires.may (subst (λ (xs : List (Option ReplicaOf)). NonePrevails (map (seat_snapshot c.args.self.now.kernel.kernel) xs)) c.as_slice.ensures.value (c.in-None.ensures.none refl)) in
    subst (λ (vs : List View). KeepsViews f.job (f.journal ++ End c.split_of-how.result ∷ []) vs) (sym c.clear.ensures.items)
    (subst (λ (how : How). KeepsViews f.job (f.journal ++ End how ∷ []) []) (sym (c.split_of-how.ensures ∙ ap split_end (c.len.ensures ∙ c.args.self.now.seats.homes.ok.0))) (scrub-keeps f c.requires.holds c.requires.may none))

pub returns-in-None-clause-entry : goal.returns-in-None-clause-entry
returns-in-None-clause-entry c =
    let f : Fields = fields_of c.args.self.now in
    let none = scrub-none f c.requires.holds c.requires.may (subst (λ (xs : List (Option ReplicaOf)). NonePrevails (map (seat_snapshot c.args.self.now.kernel.kernel) xs)) c.as_slice.ensures.value (c.in-None.ensures.none refl)) in
    let how : c.split_of-how.result ≡ split_end (length f.seats) = c.split_of-how.ensures ∙ ap split_end (c.len.ensures ∙ c.args.self.now.seats.homes.ok.0) in (
      subst (IsAllowed f.job (state_of c.args.self.now)) (sym (c.conclude.ensures.entry ∙ ap (λ (h : How). End h) how)) (scrub-not-over f c.requires.holds c.requires.may, scrub-may-end f c.requires.holds c.requires.may none),
      subst (DecidesScrub (state_of c.args.self.now)) (sym (c.conclude.ensures.entry ∙ ap (λ (h : How). End h) how)) (scrub-ends f c.requires.holds c.requires.may none),
      subst (λ (e : Entry). Appends (silent c.args.self.now) (silent c.conclude.new.self) e) (sym c.conclude.ensures.entry) (record { job = c.conclude.ensures.appends.job; journal = c.conclude.ensures.appends.journal }),
    )

pub returns-in-None-clause-no_views : goal.returns-in-None-clause-no_views
returns-in-None-clause-no_views c split = c.conclude.ensures.views ∙ c.clear.ensures.items

pub returns-in-Some-clause-no_views : goal.returns-in-Some-clause-no_views
returns-in-Some-clause-no_views c = IfOk-weaker c.clean.result _ _ (λ entry none split. absurd (none split)) c.clean.ensures.won
