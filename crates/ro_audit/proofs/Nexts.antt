-- What the run does next, by the rules of the job's mode, and the first entry that is not that.
use Rattle.std.proofs.Common.{◌≡◌, ◌⊎◌, inl, inr, ℕ, Bool, true, false, List, [], ◌∷◌, ◌++◌, length, Option, Some, None, refl, sym, ap, ◌∙◌, subst}
use Rattle.std.specs.Prelude.{◌↔◌, IsTrue, is_some}
use Rattle.std.proofs.lemmas.List.{append_assoc}
use Rattle.ro_journal.specs.declared.How.{How}
use Rattle.ro_journal.specs.declared.Entry.{Entry}
use Rattle.ro_journal.specs.declared.Entry.TheVariants.{Scrub, End}
use Rattle.ro_journal.specs.declared.Lost.{Lost}
use Rattle.ro_settings.specs.declared.Mode.TheVariants.{Voted, Cooperative}
use Rattle.ro_legal.specs.declared.actions.Action.{Action}
use Rattle.ro_legal.specs.declared.actions.Action.TheVariants.{Vote as DoVote, Free as DoFree, Scrub as DoScrub, Lend, End as DoEnd, Wait, Over}
use Rattle.ro_legal.specs.Action.{next_action}
use Rattle.ro_legal.specs.Core.{Job, Core, may_vote, may_free}
use Rattle.ro_legal.specs.Legal.{EndsFree, EndsSink, may_scrub}
use Rattle.ro_legal.specs.Modes.{Mode, in_mode}
use Rattle.ro_legal.specs.Modes as modes
use Rattle.ro_legal.specs.Rules.{IsFit, IsNext, EachIsNext, replay}
use Rattle.ro_legal.proofs.Nexts.{vote_next, free_next, scrub_next}
use Rattle.ro_legal.proofs.Rules.{next-more}
use Rattle.ro_cores.proofs.Unscrubbed.{no-scrub}
use Rattle.ro_audit.specs.Audits.{FirstOdd, NextUpTo}

-- ---- an entry that is next

module _ (job : Job) (core : Core) where
  -- no scrub is next in a cooperative run
  scrub-in : (mode : Mode) → modes.Suits mode job → (won : ℕ) (lost : Lost) (b : Bool) → IsTrue b ↔ (next_action job core ≡ DoScrub) → IsTrue b ↔ modes.IsNext mode job core (Scrub won lost)
  scrub-in Voted suits won lost b is = is
  scrub-in Cooperative suits won lost b is = (λ so. no-scrub job core suits.1 (is.0 so), λ none. absurd none)

  pub scrub-nexts : IsFit job → (won : ℕ) (lost : Lost) (b : Bool) → IsTrue b ↔ (next_action job core ≡ DoScrub) → IsTrue b ↔ IsNext job core (Scrub won lost)
  scrub-nexts = scrub-in job.settings.mode

  -- ---- an end that is next

  -- the run ends so where this action comes next: by it, or in its place
  abbrev pub EndsFor : Mode → How → Action → Type 0
  EndsFor mode how (DoVote thread) = (may_vote core thread ≡ true) × modes.EndsVote mode job core thread how
  EndsFor mode how (DoFree thread) = (may_free job core thread ≡ true) × EndsFree job core how
  EndsFor mode how DoScrub = (in_mode mode (may_scrub core) false ≡ true) × modes.EndsScrub mode core how
  EndsFor mode how (DoEnd due) = due ≡ how
  EndsFor mode how (Lend replica thread) = ⊥
  EndsFor mode how Wait = ⊥
  EndsFor mode how Over = ⊥

  -- then such an end is next
  so-next : (mode : Mode) (how : How) (action : Action) → next_action job core ≡ action → EndsFor mode how action → modes.IsNext mode job core (End how)
  so-next Voted how (DoVote thread) is ends = inr (inr (inl (thread, is, ends.1)))
  so-next Voted how (DoFree thread) is ends = inr (inr (inr (inl (thread, is, ends.1))))
  so-next Voted how DoScrub is ends = inr (inr (inr (inr (is, ends.1))))
  so-next Voted how (DoEnd due) is ends = inl (is ∙ ap DoEnd ends)
  so-next Voted how (Lend replica thread) is ends = absurd ends
  so-next Voted how Wait is ends = absurd ends
  so-next Voted how Over is ends = absurd ends
  so-next Cooperative how (DoVote thread) is ends = inr (inr (inl (thread, is, ends.1)))
  so-next Cooperative how (DoFree thread) is ends = inr (inr (inr (thread, is, ends.1)))
  so-next Cooperative how DoScrub is ends = absurd ends.1
  so-next Cooperative how (DoEnd due) is ends = inl (is ∙ ap DoEnd ends)
  so-next Cooperative how (Lend replica thread) is ends = absurd ends
  so-next Cooperative how Wait is ends = absurd ends
  so-next Cooperative how Over is ends = absurd ends

  -- and where such an end is next, it is a failing sink's, or the action that comes next comes to it
  next-so : (mode : Mode) (how : How) → modes.IsNext mode job core (End how) → EndsSink core how ⊎ EndsFor mode how (next_action job core)
  next-so Voted how (inl is) = inr (subst (EndsFor Voted how) (sym is) refl)
  next-so Voted how (inr (inl ends)) = inl ends
  next-so Voted how (inr (inr (inl (thread, is, ends)))) = inr (subst (EndsFor Voted how) (sym is) (vote_next job core thread is, ends))
  next-so Voted how (inr (inr (inr (inl (thread, is, ends))))) = inr (subst (EndsFor Voted how) (sym is) (free_next job core thread is, ends))
  next-so Voted how (inr (inr (inr (inr (is, ends))))) = inr (subst (EndsFor Voted how) (sym is) (scrub_next job core is, ends))
  next-so Cooperative how (inl is) = inr (subst (EndsFor Cooperative how) (sym is) refl)
  next-so Cooperative how (inr (inl ends)) = inl ends
  next-so Cooperative how (inr (inr (inl (thread, is, ends)))) = inr (subst (EndsFor Cooperative how) (sym is) (vote_next job core thread is, ends))
  next-so Cooperative how (inr (inr (inr (thread, is, ends)))) = inr (subst (EndsFor Cooperative how) (sym is) (free_next job core thread is, ends))

  -- whether it is, where it is none of a failing sink and this action comes next
  pub end-nexts : (how : How) → (EndsSink core how → ⊥) → (action : Action) → next_action job core ≡ action → (b : Bool) → IsTrue b ↔ EndsFor job.settings.mode how action → IsTrue b ↔ IsNext job core (End how)
  end-nexts how unsunk action is b ends = (
    λ so. so-next job.settings.mode how action is (ends.0 so),
    λ next. ends.1 (by (next-so job.settings.mode how next)),
  )
    where
      by : EndsSink core how ⊎ EndsFor job.settings.mode how (next_action job core) → EndsFor job.settings.mode how action
      by (inl sunk) = absurd (unsunk sunk)
      by (inr for) = subst (EndsFor job.settings.mode how) is for

-- ---- the first entry that is not

module _ (job : Job) (journal : List Entry) (entry : Entry) where
  pub next-with : EachIsNext job journal → IsNext job (replay job journal) entry → NextUpTo job (journal ++ entry ∷ []) None
  next-with = next-more job journal entry

  -- it is this one
  pub odd-here : (place : ℕ) → length journal ≡ place → EachIsNext job journal → (IsNext job (replay job journal) entry → ⊥) → NextUpTo job (journal ++ entry ∷ []) (Some place)
  odd-here place is next odd = record { before = journal; entry = entry; rest = []; journal_is = refl; place_is = is; next = next; odd = odd }

  -- or one before it
  odd-still : (place : ℕ) → FirstOdd job journal place → FirstOdd job (journal ++ entry ∷ []) place
  odd-still place f = record {
    before = f.before;
    entry = f.entry;
    rest = f.rest ++ entry ∷ [];
    journal_is = ap (λ (xs : List Entry). xs ++ entry ∷ []) f.journal_is ∙ append_assoc f.before (f.entry ∷ f.rest) (entry ∷ []);
    place_is = f.place_is;
    next = f.next;
    odd = f.odd;
  }

  pub still-odd : (o : Option ℕ) → is_some o ≡ true → NextUpTo job journal o → NextUpTo job (journal ++ entry ∷ []) o
  still-odd None some next = let e : false ≡ true = some in cc
  still-odd (Some place) some next = odd-still place next

  -- none was before it
  pub none-odd : (o : Option ℕ) → is_some o ≡ false → NextUpTo job journal o → EachIsNext job journal
  none-odd None none next = next
  none-odd (Some place) none next = let e : true ≡ false = none in cc
