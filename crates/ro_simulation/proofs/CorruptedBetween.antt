-- Where few replicas are corrupted from each scrub to the next, the headline holds.
use Rattle.std.specs.Prelude.{◌≡◌, ℕ, zero, suc, List, [], ◌∷◌, ◌++◌, Some, None}
use Rattle.std.specs.List.{fold}
use Rattle.std.proofs.Common.{refl, sym, ap, ◌∙◌, subst, arith, append_assoc}
use Rattle.ro_journal.specs.declared.Entry.{Entry}
use Rattle.ro_journal.specs.declared.Entry.TheVariants.{Take, Put, Part, Vote, Free, Scrub, End}
use Rattle.ro_plain.specs.Order.{RaceFree}
use Rattle.ro_vote.specs.Numbers.{is_among, without, AtMostHalf}
use Rattle.ro_legal.specs.Core.{Job}
use Rattle.ro_legal.specs.Upsets.{Moment, Comes, Upsets, Gives, Possible, corrupted_in}
use Rattle.ro_simulation.specs.Theorem.{TwoThreeOrFive, with_number}
use Rattle.ro_simulation.specs.Corruptions.{with_corrupted, corrupted_behind, corrupted_since_scrub, CorruptionsApart, CorruptsFewBetweenScrubs, WritesStill}
use Rattle.ro_simulation.proofs.Journals.{IsCalm, takes_calm, puts_calm, parts_calm, votes_calm, frees_calm}
use Rattle.ro_simulation.proofs.Between.{with-itself, with-less, few-with}
use Rattle.ro_simulation.proofs.Corruptions.{Policy, apart-with, writes-with}

-- one moment more
since-last : (numbers : List ℕ) (before : List Moment) (moment : Moment) → fold corrupted_behind numbers (before ++ moment ∷ []) ≡ corrupted_behind (fold corrupted_behind numbers before) moment
since-last numbers [] moment = refl
since-last numbers (x ∷ before) moment = since-last (corrupted_behind numbers x) before moment

-- a corruption more
behind-corrupted : (numbers : List ℕ) (moment : Moment) (corrupted : ℕ) → corrupted_in moment ≡ Some corrupted → corrupted_behind numbers moment ≡ with_number corrupted numbers
behind-corrupted numbers (Upsets number now) corrupted e = ap (λ o. with_corrupted o numbers) e
behind-corrupted numbers (Gives lease back now) corrupted e = ap (λ o. with_corrupted o numbers) e
behind-corrupted numbers (Comes (Put lease count hit)) corrupted e = ap (λ o. with_corrupted o numbers) e
behind-corrupted numbers (Comes (Take lease)) corrupted e = absurd (let f : None ≡ Some corrupted = e in cc)
behind-corrupted numbers (Comes (Part lease count hit)) corrupted e = absurd (let f : None ≡ Some corrupted = e in cc)
behind-corrupted numbers (Comes (Vote thread count won lost did)) corrupted e = absurd (let f : None ≡ Some corrupted = e in cc)
behind-corrupted numbers (Comes (Free thread)) corrupted e = absurd (let f : None ≡ Some corrupted = e in cc)
behind-corrupted numbers (Comes (Scrub won lost)) corrupted e = absurd (let f : None ≡ Some corrupted = e in cc)
behind-corrupted numbers (Comes (End how)) corrupted e = absurd (let f : None ≡ Some corrupted = e in cc)

-- an entry that corrupts nothing, and is no scrub
behind-calm : (numbers : List ℕ) (entry : Entry) → IsCalm entry → corrupted_behind numbers (Comes entry) ≡ numbers
behind-calm numbers (Take lease) takes_calm = refl
behind-calm numbers (Put lease count zero) (puts_calm e) = refl
behind-calm numbers (Put lease count (suc hit)) (puts_calm e) = absurd (omega arith)
behind-calm numbers (Part lease count hit) (parts_calm e) = refl
behind-calm numbers (Vote thread count won lost did) votes_calm = refl
behind-calm numbers (Free thread) frees_calm = refl
behind-calm numbers (Scrub won lost) h = elim h [ ]
behind-calm numbers (End how) h = elim h [ ]

module _ (job : Job) (moments : List Moment) (few : CorruptsFewBetweenScrubs job moments) where
  one-more : (before : List Moment) (moment : Moment) (corrupted : ℕ) → corrupted_in moment ≡ Some corrupted → corrupted_since_scrub (before ++ moment ∷ []) ≡ with_number corrupted (corrupted_since_scrub before)
  one-more before moment corrupted is = since-last [] before moment ∙ behind-corrupted (corrupted_since_scrub before) moment corrupted is

  -- those that were corrupted since the last scrub are the odd ones
  between-policy : Policy job (λ before odds. odds ≡ corrupted_since_scrub before) moments
  between-policy = record {
    corrupts = λ odds before rest moment corrupted q whole is core along may.
        let more = one-more before moment corrupted is in
        record {
          odds = corrupted_since_scrub (before ++ moment ∷ []);
          allows = refl;
          few = few (before ++ moment ∷ []) rest (whole ∙ sym (append_assoc before (moment ∷ []) rest));
          odd = λ on. ap (λ (l : List ℕ). is_among l corrupted) more ∙ with-itself corrupted (corrupted_since_scrub before);
          others = λ on number r d there.
              along.holds.others_agree on number r
              (ap (λ (l : List ℕ). is_among l number) q ∙ with-less corrupted (corrupted_since_scrub before) number (sym (ap (λ (l : List ℕ). is_among l number) more) ∙ d)) there;
        };
    calm = λ odds before entry calm q. q ∙ sym (since-last [] before (Comes entry) ∙ behind-calm (corrupted_since_scrub before) entry calm);
    scrubbed = λ odds before won lost q few. record { odds = []; allows = sym (since-last [] before (Comes (Scrub won lost))); few = omega arith };
  }

  -- the headline
  pub writes-between : RaceFree job.program → TwoThreeOrFive job → Possible job moments → WritesStill job moments
  writes-between free count possible = writes-with job free count moments (λ before odds. odds ≡ corrupted_since_scrub before) between-policy [] (omega arith) refl possible

  -- they stay apart
  pub between-apart : RaceFree job.program → Possible job moments → CorruptionsApart job moments
  between-apart free possible =
      apart-with job free (λ before odds. odds ≡ corrupted_since_scrub before) moments between-policy [] (omega arith) refl possible
      (λ before rest moment corrupted odds q whole is.
      subst (λ (l : List ℕ). AtMostHalf job.settings.replicas (corrupted ∷ without corrupted l)) (sym q)
      (few-with job.settings.replicas corrupted (corrupted_since_scrub before)
      (subst (AtMostHalf job.settings.replicas) (one-more before moment corrupted is) (few (before ++ moment ∷ []) rest (whole ∙ sym (append_assoc before (moment ∷ []) rest))))))
