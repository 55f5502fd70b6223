-- A vote of views that have no majority.
use Rattle.std.proofs.Common.{inl, ◌≡◌, ◌≢◌, ℕ, Bool, true, false, true≢false, [], ◌∷◌, ◌++◌, length, None, refl, sym, ap, ◌∙◌, arith, eqb-true}
use Rattle.std.specs.Prelude.{◌==◌, if◌then◌else◌}
use Rattle.std.proofs.lemmas.Bool.{eq-eqb}
use Rattle.ro_journal.specs.declared.How.TheVariants.{Differ, NoMajority, Sink}
use Rattle.ro_journal.specs.declared.Entry.TheVariants.{End}
use Rattle.ro_vote.specs.Verdict.{verdict_of, Split}
use Rattle.ro_legal.specs.Core.{is_going, may_vote, views_of}
use Rattle.ro_legal.specs.Legal.{MayEnd, for_vote, EndsVote}
use Rattle.ro_core.specs.Seen.{KeepsViews}
use Rattle.ro_core.specs.Fields.{Fields, core_in, split_end, Holds}
use Rattle.ro_settings.proofs.Counts.{few-replicas}
use Rattle.ro_core.proofs.Held.{goes}
use Rattle.ro_legal.proofs.Ordered.{vote-parts}
use Rattle.ro_core.proofs.Tests.{count-is}

pub not-sink : (n bytes : ℕ) → split_end n ≢ Sink bytes
not-sink n bytes = by (n == 2)
  where
    by : (b : Bool) → (if b then Differ else NoMajority) ≢ Sink bytes
    by true = λ (e : Differ ≡ Sink bytes). cc
    by false = λ (e : NoMajority ≡ Sink bytes). cc

module _ (f : Fields) (h : Holds f) (thread : ℕ) (may : may_vote (core_in f) thread ≡ true) where
  pub split-going : is_going (core_in f) ≡ true
  split-going = (vote-parts (core_in f) thread may).going

  pub split-not-over : (core_in f).ended ≡ None
  split-not-over = (vote-parts (core_in f) thread may).not_ended

  as-many : length (core_in f).replicas ≡ length f.views
  as-many = sym h.seats_are.count ∙ sym (h.views_count (goes f h split-going).not_ended)

  module _ (views : f.views ≡ views_of f.job (core_in f) thread) (split : verdict_of f.views ≡ Split) where
    by-count : (b : Bool) → (length f.views == 2) ≡ b → EndsVote f.job (core_in f) thread (if b then Differ else NoMajority)
    by-count true e = (ap verdict_of (sym views) ∙ split, as-many ∙ eqb-true (length f.views) 2 e)
    by-count false e =
        let two : length f.views ≢ 2 = λ k. true≢false (sym (eq-eqb (length f.views) 2 k) ∙ e) in
        let range = few-replicas f.job.settings.replicas h.in_range.replicas in
        (ap verdict_of (sym views) ∙ split, (let count = count-is f h in let same = as-many in omega arith))

    pub split-ends : EndsVote f.job (core_in f) thread (split_end (length f.views))
    split-ends = by-count (length f.views == 2) refl

    pub split-may : MayEnd f.job (core_in f) (split_end (length f.views))
    split-may = for_vote thread may split-ends

    -- the views are kept
    pub split-keeps : KeepsViews f.job (f.journal ++ End (split_end (length f.views)) ∷ []) f.views
    split-keeps = λ e. inl (record {
      before = f.journal;
      how = split_end (length f.views);
      journal_is = refl;
      thread = thread;
      may = may;
      in_place = split-ends;
      views_are = views;
    })
