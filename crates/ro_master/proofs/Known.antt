-- What a driver's share knows, while its pass takes turns.
use Rattle.std.proofs.Common.{◌≡◌, ℕ, zero, suc, ◌+◌, List, [], ◌∷◌, ◌++◌, length, Option, Some, None, Result, Ok, Err, sym, ap, ◌∙◌, subst, arith}
use Rattle.std.specs.Prelude.{MatchResult, map, slice_get}
use Rattle.std.specs.Option.{MatchOption}
use Rattle.std.specs.declared.alloc.AllocError.{AllocError}
use Rattle.ro_journal.specs.declared.Entry.{Entry}
use Rattle.ro_journal.specs.declared.Entry.TheVariants.{Take, Put, Part, Vote, Free, Scrub, End}
use Rattle.ro_journal.specs.Leases.{lease_to}
use Rattle.ro_orders.specs.Copies.{Rows}
use Rattle.ro_legal.specs.Core.{Job}
use Rattle.std.proofs.lemmas.List.{length-map}
use Rattle.ro_legal.specs.Rules.{Legal}
use Rattle.ro_legal.proofs.Modes.{IsDecision}
use Rattle.ro_legal.proofs.Rules.{vote-decision, free-decision, scrub-decision}
use Rattle.ro_core.specs.Seen.{CoreOf}
use Rattle.ro_cores.specs.Cores.{left_by, state}
use Rattle.ro_cores.specs.History.{Turned, Owned, AreWithin, BringsNone, turned, journal_of}
use Rattle.ro_cores.specs.Loans.{LentOf, BackOf, ShareOf, SharedOf, SharesIn, IsShare, AllAgreeWith, IsJoined, IsLent, Knows, entry_of}
use Rattle.ro_cores.proofs.Knowing.{knows-others, knows-own, knows-returns, knows-join}
use Rattle.ro_post.specs.declared.posts.Turn.{Turn}
use Rattle.ro_post.specs.Turns.{MatchLeased}
use Rattle.ro_post.specs.declared.posts.Turn.TheVariants as a
use Rattle.ro_master.specs.Passes.{CountOf, PassOf, Knew}
use Rattle.ro_master.specs.Desks.{DeskOf, Tied, HeldOf, KnowsSeen, IsAtRest, IsHolding, IsReturning, AtRest, Rests, MayGiveBack, Moved, Looked, Decides, votes, frees, scrubs, ends, TurnIs, PutIs}
use Rattle.ro_master.specs.Driven.{IsDriven}
use Rattle.ro_master.specs.Masters.{PassDriver, TurnDid, PutDid, NextDid, AllKnew, AreAll}
use Rattle.ro_master.proofs.Leases.{Since, since, owned_rest}

-- what is known of what the pass has seen is known of all that came
known_all : (job : Job) (core : CoreOf) (count : CountOf) (start : CoreOf) (p : PassOf) (share : ShareOf) → Tied start core count → core.job ≡ job → Knew p count → KnowsSeen job p share → Knows job p.number count.history share
known_all job core count start p share t same knew known =
    let z = since p count knew in
    let driven = t.driven in
    let whole : p.seen ++ z.rest ≡ count.history = z.whole in
    subst (λ (h : List Turned). Knows job p.number h share) whole
    (subst (λ (j : Job). Knows j p.number (p.seen ++ z.rest) share) same
    (knows-others core.job p.number p.seen z.rest share driven.can_run driven.fit
    (subst (λ (h : List Turned). Legal core.job (journal_of h)) (sym whole) (subst (λ (js : List Entry). Legal core.job js) (sym t.journal) driven.legal)) z.none
    (subst (λ (j : Job). Knows j p.number p.seen share) (sym same) known)))

-- ---- a turn

-- what a turn appends brings no lease back
brings_none : (entry : Entry) → IsDecision entry → BringsNone entry
brings_none (Take l) is = absurd is
brings_none (Put l n k) is = absurd is
brings_none (Part l n k) is = absurd is
brings_none (Vote t n w l d) is = tt
brings_none (Free t) is = tt
brings_none (Scrub w l) is = tt
brings_none (End how) is = tt

decides_none : (c : CoreOf) (entry : Entry) → Decides c entry → BringsNone entry
decides_none c entry (votes thread next h) = brings_none entry (vote-decision c.job (state c) thread entry h)
decides_none c entry (frees thread next h) = brings_none entry (free-decision c.job (state c) thread entry h)
decides_none c entry (scrubs next h) = brings_none entry (scrub-decision c.job (state c) entry h)
decides_none c entry (ends how next is) = subst BringsNone (sym is) tt

module _ (start : CoreOf) (old new : DeskOf) (p q : PassOf) (share : ShareOf) (before : Tied start old.core old.count) (now : Tied start new.core new.count) (known : KnowsSeen start.job p share) where
  moved_knows : (entry : Entry) → BringsNone entry → Moved entry old new p q → KnowsSeen start.job q share
  moved_knows entry none m =
      subst (λ (x : PassOf). KnowsSeen start.job x share) (sym m.pass)
      (subst (λ (j : Job). Knows j p.number (old.count.history ++ turned p.number entry ∷ []) share) now.goes.job
      (knows-own new.core.job p.number old.count.history entry share now.driven.can_run now.driven.fit
      (subst (λ (js : List Entry). Legal new.core.job js) (sym (ap journal_of (sym m.history) ∙ now.journal)) now.driven.legal) none
      (subst (λ (j : Job). Knows j p.number old.count.history share) (sym now.goes.job) (known_all start.job old.core old.count start p share before before.goes.job m.knew known))))

  looked_knows : Looked old new p q → KnowsSeen start.job q share
  looked_knows m = subst (λ (x : PassOf). KnowsSeen start.job x share) (sym m.pass) (known_all start.job old.core old.count start p share before before.goes.job m.knew known)

  turn_known : (r : Result (Turn LentOf) AllocError) (memory : Type 0) → MatchResult r (λ t. TurnIs t old new p q) (λ _. Looked old new p q × memory) → KnowsSeen start.job q share
  turn_known (Ok (a.Leased l)) memory did = moved_knows (Take (lease_to p.number did.0 did.1)) tt did.3
  turn_known (Ok a.Did) memory did = moved_knows did.0 (decides_none old.core did.0 did.1) did.2
  turn_known (Ok a.Wait) memory did = looked_knows did.1
  turn_known (Ok a.Over) memory did = looked_knows did.1
  turn_known (Err e) memory did = looked_knows did.0

-- after a turn the share knows what the driver got
pub turn_knows : (start : CoreOf) (r : Result (Turn LentOf) AllocError) (p q : PassOf) (share : ShareOf) → TurnDid start r p q → KnowsSeen start.job p share → KnowsSeen start.job q share
turn_knows start r p q share did known = turn_known start did.old did.new p q share did.tied did.now known r _ did.did

-- and the pass is at rest, or holds its lease, with that share
pub held_rests : (start : CoreOf) (r : Result (Turn LentOf) AllocError) (p q : PassOf) (share : ShareOf) → TurnDid start r p q → KnowsSeen start.job p share
    → MatchResult r (λ t. Rests start.job t q) (λ _. AtRest start.job q)
    → MatchResult r (λ t. MatchLeased t (IsHolding start.job (record { pass = q; share = share })) (IsAtRest start.job (record { pass = q; share = share }))) (λ _. IsAtRest start.job (record { pass = q; share = share }))
held_rests start r p q share did known rest = by r (turn_knows start r p q share did known) rest
  where
    by : (r : Result (Turn LentOf) AllocError) → KnowsSeen start.job q share → MatchResult r (λ t. Rests start.job t q) (λ _. AtRest start.job q)
        → MatchResult r (λ t. MatchLeased t (IsHolding start.job (record { pass = q; share = share })) (IsAtRest start.job (record { pass = q; share = share }))) (λ _. IsAtRest start.job (record { pass = q; share = share }))
    by (Ok (a.Leased l)) k h = (h, k)
    by (Ok a.Did) k h = (h, k)
    by (Ok a.Wait) k h = (h, k)
    by (Ok a.Over) k h = (h, k)
    by (Err e) k h = (h, k)

-- ---- a lease that came back

-- and so it does after one came back
pub put_knows : (start : CoreOf) (back : BackOf) (h : HeldOf) (q : PassOf) → PutDid start back h.pass q → IsReturning start.job h back → KnowsSeen start.job q h.share
put_knows start back h q did r =
    subst (λ (x : PassOf). KnowsSeen start.job x h.share) (sym m.pass)
    (subst (λ (hs : List Turned). Knows start.job p.number (hs ++ turned p.number (entry_of (left_by did.old.core) back) ∷ []) h.share) whole
    (subst (λ (s : ShareOf). Knows start.job p.number ((p.seen ++ z.rest) ++ turned p.number (entry_of (left_by did.old.core) back) ∷ []) s) (sym r.new_is)
    (subst (λ (j : Job). Knows j p.number ((p.seen ++ z.rest) ++ turned p.number (entry_of (left_by did.old.core) back) ∷ []) may.new) same
    (knows-returns job p.number p.seen z.rest may.holds.before (left_by did.old.core) may.lent may.old back may.new driven.can_run driven.fit may.holds.took may.holds.driver
    (owned_rest p.seen z.rest (subst Owned (sym whole) did.tied.owned)) z.none
    (subst (λ (hs : List Turned). Legal job (journal_of (hs ++ turned p.number (entry_of (left_by did.old.core) back) ∷ []))) (sym whole) (subst (λ (js : List Entry). Legal job js) (sym (ap journal_of (sym m.history) ∙ did.now.journal)) driven.legal))
    (subst (λ (j : Job). IsLent j may.holds.before may.lent) (sym same) may.holds.lends) may.gives
    (subst (λ (j : Job). Knows j p.number p.seen may.old) (sym same) r.knew)))))
  where
    p : PassOf
    p = h.pass

    m : PutIs did.old did.new p q back
    m = did.did

    may : MayGiveBack start.job p back
    may = r.may

    job : Job
    job = did.new.core.job

    same : job ≡ start.job
    same = did.now.goes.job

    driven : IsDriven did.new.core
    driven = did.now.driven

    z : Since p did.old.count.history
    z = since p did.old.count m.knew

    whole : p.seen ++ z.rest ≡ did.old.count.history
    whole = z.whole

-- the share after a put, where there was one
pub between_knows : (start : CoreOf) (back : Option BackOf) (h : HeldOf) (r : Result (Turn LentOf) AllocError) (q : PassOf) → (did : NextDid start back r h.pass q) → MatchOption back (IsAtRest start.job h) (IsReturning start.job h) → KnowsSeen start.job did.between h.share
between_knows start None h r q did rest = subst (λ (p : PassOf). KnowsSeen start.job p h.share) (sym did.put) rest.1
between_knows start (Some back) h r q did may = put_knows start back h did.between did.put may

-- ---- all drivers

each_knows : (start core : CoreOf) (shared : SharedOf) (c : CountOf) (n : ℕ) (ds : List PassDriver) → Tied start core c → AllKnew c ds → AreAll start.job shared n ds
    → (k : ℕ) (share : ShareOf) → slice_get (map (λ d. d.pass.share) ds) k ≡ Some share → IsShare shared (n + k) share × Knows start.job (n + k) c.history share
each_knows start core shared c n [] t knew all k share at = absurd (let f : None ≡ Some share = at in cc)
each_knows start core shared c n (d ∷ ds) t knew all zero share at =
    let e : d.pass.share ≡ share = cc at in
    let number : d.pass.pass.number ≡ n + 0 = all.0 ∙ omega arith in
    subst (λ (s : ShareOf). IsShare shared (n + 0) s × Knows start.job (n + 0) c.history s) e (
      subst (λ (m : ℕ). IsShare shared m d.pass.share) number all.2,
      subst (λ (m : ℕ). Knows start.job m c.history d.pass.share) number (known_all start.job core c start d.pass.pass d.pass.share t t.goes.job knew.0 all.1.1),
    )
each_knows start core shared c n (d ∷ ds) t knew all (suc k) share at =
    subst (λ (m : ℕ). IsShare shared m share × Knows start.job m c.history share) (let e : n + 1 + k ≡ n + suc k = omega arith in e) (each_knows start core shared c (n + 1) ds t knew.1 all.3 k share at)

-- what was got stands in rows with which all shares agree
pub all_joined : (start core : CoreOf) (shared : SharedOf) (rows : Rows) (c : CountOf) (ds : List PassDriver) → Tied start core c → AllKnew c ds → AreAll start.job shared 0 ds → length ds ≡ start.job.settings.drivers → SharesIn core.job.settings.mode shared
    → AllAgreeWith rows (map (λ d. d.pass.share) ds) → IsJoined core.job core.journal
all_joined start core shared rows c ds t knew all count shares agree =
    subst (λ (js : List Entry). IsJoined core.job js) t.journal
    (knows-join core.job c.history rows (map (λ d. d.pass.share) ds) shared t.driven.can_run t.driven.fit (subst (λ (js : List Entry). Legal core.job js) (sym t.journal) t.driven.legal)
    (subst (λ (n : ℕ). AreWithin n c.history) (t.given ∙ ap (λ (j : Job). j.settings.drivers) t.goes.job ∙ sym count ∙ sym (length-map ds (λ (d : PassDriver). d.pass.share))) t.within) shares agree
    (λ k share at.
    let zero : 0 + k ≡ k = omega arith in
    let e = subst (λ (m : ℕ). IsShare shared m share × Knows start.job m c.history share) zero (each_knows start core shared c 0 ds t knew all k share at) in
    (e.0, subst (λ (j : Job). Knows j k c.history share) (sym t.goes.job) e.1)))
