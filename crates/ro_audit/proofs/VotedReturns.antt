-- How what is lent of a replica comes back to the core of votes, and how it does not.
use Rattle.std.proofs.Common.{◌≡◌, ◌⊎◌, inl, inr, ℕ, Bool, true, false, true≢false, List, refl, sym, ◌∙◌, subst, arith}
use Rattle.std.specs.Prelude.{◌==◌, ◌&&◌, ◌≤◌, is_some, if◌then◌else◌}
use Rattle.std.proofs.lemmas.Bool.{and_from, and_parts, eq-eqb, eqb-true}
use Rattle.ro_journal.specs.declared.Entry.{Entry}
use Rattle.ro_journal.specs.declared.Entry.TheVariants.{Put, Part}
use Rattle.ro_journal.specs.declared.Lease.{Lease}
use Rattle.ro_settings.specs.declared.Mode.TheVariants.{Voted}
use Rattle.ro_lease.specs.declared.Loan.{Loan}
use Rattle.ro_lease.specs.declared.Loan.TheVariants as loans
use Rattle.ro_lease.specs.declared.Took.{Took}
use Rattle.ro_lease.specs.declared.Lent.{Lent}
use Rattle.ro_lease.specs.declared.Back.{Back}
use Rattle.ro_lease.specs.Loans.{Becomes, Gives}
use Rattle.ro_legal.specs.Core.{Job}
use Rattle.ro_legal.specs.Legal.{replay}
use Rattle.ro_legal.specs.Legal as votes
use Rattle.ro_legal.specs.Modes.{Mode}
use Rattle.ro_legal.specs.Modes as modes
use Rattle.ro_legal.specs.Rules.{IsAllowed}
use Rattle.ro_legal.specs.Rules as rules
use Rattle.ro_core.specs.Seen as voted_seen
use Rattle.ro_core.proofs.Returning.{whole-returns, part-returns}
use Rattle.ro_cores.specs.Cores.{plain_core}
use Rattle.ro_cores.specs.Loans.{MayReturn, Returns, entry_of}
use Rattle.ro_cores.proofs.Lending.{loan-allowed, loan-entry}
use Rattle.ro_audit.specs.declared.follower.Why.TheVariants.{Ran, NoPut, NoPart}
use Rattle.ro_audit.specs.declared.returning.Told.{Told}
use Rattle.ro_audit.specs.Audits.{IsReason, IsRefused, ComesBack, ComesBackBy, got_in}
use Rattle.ro_audit.specs.Following.{LendsLoan, LendsReplica}
use Rattle.ro_audit.specs.Returning.{told_entry, otherwise, refusal_of}
use Rattle.ro_audit.proofs.Runs.{one-return}

-- ---- its return

module _ (job : Job) (journal : List Entry) (lease : Lease) where
  -- what a run makes of it may be put back
  became-returns : (loan new : Loan) (took : Took) → LendsLoan job (replay job journal) lease loan → Becomes job.settings.quantum lease.thread loan new took → voted_seen.MayReturn (plain_core job journal) (record { lease = lease; loan = new; took = took })
  became-returns (loans.Whole lent) (loans.Whole value) took s run = whole-returns (plain_core job journal) lease lent value took s.out s.program run
  became-returns (loans.Part lane) (loans.Part new) took s run = part-returns (plain_core job journal) lease s.pages s.taken lane new took s.out s.program s.began s.has s.same s.low s.calm run
  became-returns (loans.Whole lent) (loans.Part new) took s run = absurd run
  became-returns (loans.Part lane) (loans.Whole value) took s run = absurd run

module _ (job : Job) (journal : List Entry) (lent : Lent) (back : Back) (voted : job.settings.mode ≡ Voted) (s : LendsReplica job (modes.replay job.settings.mode job journal) lent) (g : Gives lent back) where
  by-votes : LendsReplica job (replay job journal) lent
  by-votes = subst (λ (m : Mode). LendsReplica job (modes.replay m job journal) lent) voted s

  -- it may be put back
  pub may-return : MayReturn job journal (inl back)
  may-return = (
    voted,
    subst (λ (l : Lease). voted_seen.MayReturn (plain_core job journal) (record { lease = l; loan = back.loan; took = back.took })) (sym g.lease)
        (became-returns job journal lent.lease lent.loan back.loan back.took by-votes.loan (subst (λ (n : ℕ). Becomes n lent.lease.thread lent.loan back.loan back.took) by-votes.quantum_is g.became)),
  )

  -- the entry by which it comes back
  abbrev its : Entry
  its = entry_of (rules.replay job journal) (inl back)

  its-allowed : IsAllowed job (rules.replay job journal) its
  its-allowed = loan-allowed job journal (inl back) may-return

  its-returns : Returns lent.lease its
  its-returns = subst (λ (l : Lease). Returns l its) g.lease (loan-entry (rules.replay job journal) (inl back))

  in-votes : (entry : Entry) → IsAllowed job (rules.replay job journal) entry → votes.IsAllowed job (rules.replay job journal) entry
  in-votes entry = subst (λ (m : Mode). modes.IsAllowed m job (rules.replay job journal) entry) voted

  -- by no other entry
  comes-so : (entry : Entry) → Returns lent.lease entry → IsAllowed job (rules.replay job journal) entry → its ≡ entry
  comes-so entry returns allowed = one-return job (rules.replay job journal) lent.lease its entry its-returns returns (in-votes its its-allowed) (in-votes entry allowed)

  module _ (told : Told) (returns : Returns lent.lease (told_entry lent.lease told)) (fails : its ≡ told_entry lent.lease told → ⊥) where
    refused : IsAllowed job (rules.replay job journal) (told_entry lent.lease told) → ⊥
    refused allowed = fails (comes-so (told_entry lent.lease told) returns allowed)

    -- it is put back, or comes back for the want of a page
    brought : IsAllowed job (rules.replay job journal) (Put lent.lease back.took.count back.took.hit) ⊎ IsAllowed job (rules.replay job journal) (Part lent.lease back.took.count back.took.hit)
    brought =
        subst (λ (l : Lease). IsAllowed job (rules.replay job journal) (Put l back.took.count back.took.hit) ⊎ IsAllowed job (rules.replay job journal) (Part l back.took.count back.took.hit)) g.lease
        (by (is_some (voted_seen.wanted_of (rules.replay job journal) back.lease.replica back.loan)) its-allowed)
      where
        by : (wants : Bool) → IsAllowed job (rules.replay job journal) (if wants then Part back.lease back.took.count back.took.hit else Put back.lease back.took.count back.took.hit)
            → IsAllowed job (rules.replay job journal) (Put back.lease back.took.count back.took.hit) ⊎ IsAllowed job (rules.replay job journal) (Part back.lease back.took.count back.took.hit)
        by true allowed = inr allowed
        by false allowed = inl allowed

    -- after no other number of instructions
    as-late : (later faults : ℕ) → ComesBack job (rules.replay job journal) lent.lease later faults → later ≤ back.took.count
    as-late later faults comes = by brought comes
      where
        same : (first other : Entry) → Returns lent.lease first → Returns lent.lease other → IsAllowed job (rules.replay job journal) first → IsAllowed job (rules.replay job journal) other → first ≡ other
        same first other brings brought may might = one-return job (rules.replay job journal) lent.lease first other brings brought (in-votes first may) (in-votes other might)

        by : ComesBack job (rules.replay job journal) lent.lease back.took.count back.took.hit → ComesBack job (rules.replay job journal) lent.lease later faults → later ≤ back.took.count
        by (inl may) (inl might) =
            let e = same (Put lent.lease back.took.count back.took.hit) (Put lent.lease later faults) (back.took.count, back.took.hit, inl refl) (later, faults, inl refl) may might in
            let counts : back.took.count ≡ later = cc in
            omega arith
        by (inl may) (inr might) =
            let e = same (Put lent.lease back.took.count back.took.hit) (Part lent.lease later faults) (back.took.count, back.took.hit, inl refl) (later, faults, inr refl) may might in
            absurd (cc)
        by (inr may) (inl might) =
            let e = same (Part lent.lease back.took.count back.took.hit) (Put lent.lease later faults) (back.took.count, back.took.hit, inr refl) (later, faults, inl refl) may might in
            absurd (cc)
        by (inr may) (inr might) =
            let e = same (Part lent.lease back.took.count back.took.hit) (Part lent.lease later faults) (back.took.count, back.took.hit, inr refl) (later, faults, inr refl) may might in
            let counts : back.took.count ≡ later = cc in
            omega arith

    -- by the other entry
    untold : (waits : Bool) → ComesBack job (rules.replay job journal) lent.lease told.count told.hit → (IsAllowed job (rules.replay job journal) (if waits then Part lent.lease told.count told.hit else Put lent.lease told.count told.hit) → ⊥)
        → IsReason job (rules.replay job journal) (got_in job journal) (if waits then Part lent.lease told.count told.hit else Put lent.lease told.count told.hit) (if waits then NoPart else NoPut)
    untold true (inl put) none = (none, inl put)
    untold true (inr part) none = absurd (none part)
    untold false (inl put) none = absurd (none put)
    untold false (inr part) none = (none, inl part)

    -- by other counts
    ran-otherwise : (waits : Bool) → ComesBackBy job (rules.replay job journal) lent.lease told.count told.hit back.took.count back.took.hit
        → IsReason job (rules.replay job journal) (got_in job journal) (if waits then Part lent.lease told.count told.hit else Put lent.lease told.count told.hit) (Ran back.took.count back.took.hit)
    ran-otherwise true comes = comes
    ran-otherwise false comes = comes

    reason : (same : Bool) → ((back.took.count == told.count) && (back.took.hit == told.hit)) ≡ same
        → IsReason job (rules.replay job journal) (got_in job journal) (told_entry lent.lease told) (if same then refusal_of told else Ran back.took.count back.took.hit)
    reason true e =
        let counts = and_parts (back.took.count == told.count) (back.took.hit == told.hit) e in
        untold told.waits
        (subst (λ (n : ℕ). ComesBack job (rules.replay job journal) lent.lease n told.hit) (eqb-true back.took.count told.count counts.0)
        (subst (λ (n : ℕ). ComesBack job (rules.replay job journal) lent.lease back.took.count n) (eqb-true back.took.hit told.hit counts.1) brought)) refused
    reason false e = ran-otherwise told.waits (brought, as-late, λ same. true≢false (sym (and_from _ _ (eq-eqb back.took.count told.count same.0) (eq-eqb back.took.hit told.hit same.1)) ∙ e))

    pub told-otherwise : IsRefused job journal (told_entry lent.lease told) (otherwise told back.took)
    told-otherwise = (λ allowed joined. refused allowed, reason ((back.took.count == told.count) && (back.took.hit == told.hit)) refl)
