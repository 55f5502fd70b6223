-- What a copy of a replica keeps.
use Rattle.std.specs.Prelude.{◌≡◌, ◌≢◌, ℕ, zero, suc, ◌≤◌, ◌⊎◌, ◌||◌, ◌==◌, Bool, false, List, [], ◌∷◌, length, Option, Some, None, slice_get, slice_set}
use Rattle.std.specs.Option.{option_map_or}
use Rattle.std.proofs.Common.{refl, sym, ap, ◌∙◌, subst, arith, inl, inr}
use Rattle.std.proofs.lemmas.Bool.{true≢false, eq-eqb, ne_eqb}
use Rattle.std.proofs.lemmas.List.{length-set}
use Rattle.std.proofs.lemmas.Option.{slice_get_within}
use Rattle.ro_vote.specs.Numbers.{is_among}
use Rattle.ro_vote.proofs.Copies.{neither}
use Rattle.ro_kernel.proofs.Kept.{slice_get-set_other}
use Rattle.ro_exec.specs.Next.{Backed}
use Rattle.ro_thread.specs.declared.Thread.{Thread}
use Rattle.ro_replica.specs.Replica.{Replica, copied_threads, recovered}
use Rattle.ro_plain.proofs.Calls.{some-injective}
use Rattle.ro_legal.specs.Core.{Job, Core}
use Rattle.ro_legal.specs.Event.{with_copy, with_recovered}
use Rattle.ro_legal.specs.Sound.{IsSound}
use Rattle.ro_legal.proofs.Lists.{get-within, get-set-cases}

-- a thread of a copy is the winner's, but for what was retired
pub record CopiedFrom (winners : List Thread) (i : ℕ) (y : Thread) : Type 0 where
  pub from : Thread
  pub there : slice_get winners i ≡ Some from
  pub retired : ℕ
  pub is : record from { done = retired } ≡ y

-- each thread of a copy comes from the winner
pub copied-from : (winners losers : List Thread) (i : ℕ) (y : Thread) → slice_get (copied_threads winners losers) i ≡ Some y → CopiedFrom winners i y
copied-from [] losers i y e = absurd (let f : None ≡ Some y = e in cc)
copied-from (w ∷ winners) [] i y e = absurd (let f : None ≡ Some y = e in cc)
copied-from (w ∷ winners) (l ∷ losers) zero y e = record { from = w; there = refl; retired = l.done; is = some-injective e }
copied-from (w ∷ winners) (l ∷ losers) (suc i) y e = let c = copied-from winners losers i y e in record { from = c.from; there = c.there; retired = c.retired; is = c.is }

-- each of the winner's threads is in the copy
pub copied-there : (winners losers : List Thread) (i : ℕ) (w : Thread) → length winners ≡ length losers → slice_get winners i ≡ Some w → (retired : ℕ) × (slice_get (copied_threads winners losers) i ≡ Some (record w { done = retired }))
copied-there [] losers i w n e = absurd (let f : None ≡ Some w = e in cc)
copied-there (x ∷ winners) [] i w n e = absurd (omega arith)
copied-there (x ∷ winners) (l ∷ losers) zero w n e = (l.done, ap (λ (y : Thread). Some (record y { done = l.done })) (some-injective e))
copied-there (x ∷ winners) (l ∷ losers) (suc i) w n e = copied-there winners losers i w (omega arith) e

-- a copy has as many threads as the winner
pub length-copied : (winners losers : List Thread) → length winners ≡ length losers → length (copied_threads winners losers) ≡ length winners
length-copied [] losers n = refl
length-copied (w ∷ winners) [] n = absurd (omega arith)
length-copied (w ∷ winners) (l ∷ losers) n = ap suc (length-copied winners losers (omega arith))

pub recovered-threads : (winner loser : Replica) → length winner.threads ≡ length loser.threads → length (recovered winner loser).threads ≡ length winner.threads
unfolding recovered
recovered-threads winner loser n = length-copied winner.threads loser.threads n

-- a copy keeps what holds of every replica
pub sound-recovered : (job : Job) (core : Core) (backed : Backed) (won lost : ℕ) (winner loser : Replica) → IsSound job core backed won winner → IsSound job core backed lost loser → IsSound job core backed lost (recovered winner loser)
unfolding recovered
sound-recovered job core backed won lost winner loser h k = record {
  same_backed = h.same_backed;
  all_made = length-copied winner.threads loser.threads (h.all_made ∙ sym k.all_made) ∙ h.all_made;
  within_watch = λ place thread e. let c = copied-from winner.threads loser.threads place thread e in
      subst (λ (y : Thread). y.since ≤ job.settings.watchdog) c.is (h.within_watch place c.from c.there);
  own_faults = k.own_faults;
}

-- a replica after a vote's copy: one as it was, or the copy
pub data AfterCopy (won lost : ℕ) (replicas : List Replica) (number : ℕ) (r : Replica) : Type 0 where
  not_lost : number ≢ lost → slice_get replicas number ≡ Some r → AfterCopy won lost replicas number r
  is_copy : (winner loser : Replica) → number ≡ lost → slice_get replicas won ≡ Some winner → slice_get replicas lost ≡ Some loser → recovered winner loser ≡ r → AfterCopy won lost replicas number r

-- after a copy each other replica is as it was
pub after-copy : (won lost : ℕ) (replicas : List Replica) (winner : Replica) (number : ℕ) (r : Replica) → slice_get replicas won ≡ Some winner → slice_get (with_copy won lost replicas) number ≡ Some r → AfterCopy won lost replicas number r
after-copy won lost replicas winner number r there e =
    by (slice_get replicas lost) refl (sym (ap (λ (o : Option Replica). slice_get (option_map_or (λ w. option_map_or (λ l. slice_set replicas lost (recovered w l)) (slice_get replicas lost) replicas) o replicas) number) there) ∙ e)
  where
    set-case : (loser : Replica) → slice_get replicas lost ≡ Some loser → ((number ≢ lost) × (slice_get replicas number ≡ Some r)) ⊎ ((number ≡ lost) × (recovered winner loser ≡ r)) → AfterCopy won lost replicas number r
    set-case loser f (inl g) = not_lost g.0 g.1
    set-case loser f (inr g) = is_copy winner loser g.0 there f g.1

    by : (o : Option Replica) → slice_get replicas lost ≡ o → slice_get (option_map_or (λ l. slice_set replicas lost (recovered winner l)) o replicas) number ≡ Some r → AfterCopy won lost replicas number r
    by None f g = not_lost (λ (k : number ≡ lost). let l : None ≡ Some r = sym f ∙ (ap (slice_get replicas) (sym k) ∙ g) in cc) g
    by (Some loser) f g = set-case loser f (get-set-cases replicas lost number (recovered winner loser) r g)

-- a copy changes no number of replicas
set-or-same : (replicas : List Replica) (lost : ℕ) (winner : Replica) (o : Option Replica) → length (option_map_or (λ l. slice_set replicas lost (recovered winner l)) o replicas) ≡ length replicas
set-or-same replicas lost winner None = refl
set-or-same replicas lost winner (Some loser) = length-set replicas lost (recovered winner loser)

-- there are as many replicas after a copy
pub length-copy : (won lost : ℕ) (replicas : List Replica) → length (with_copy won lost replicas) ≡ length replicas
length-copy won lost replicas = by (slice_get replicas won)
  where
    by : (o : Option Replica) → length (option_map_or (λ w. option_map_or (λ l. slice_set replicas lost (recovered w l)) (slice_get replicas lost) replicas) o replicas) ≡ length replicas
    by None = refl
    by (Some winner) = set-or-same replicas lost winner (slice_get replicas lost)

-- and after a vote's copies
pub length-with-copy : (won : ℕ) (lost : List ℕ) (replicas : List Replica) → length (with_recovered won lost replicas) ≡ length replicas
length-with-copy won [] replicas = refl
length-with-copy won (lost ∷ losers) replicas = length-with-copy won losers (with_copy won lost replicas) ∙ length-copy won lost replicas

-- there still is a winner after a copy
pub still-there : (won lost : ℕ) (replicas : List Replica) (winner : Replica) → slice_get replicas won ≡ Some winner → (w : Replica) × (slice_get (with_copy won lost replicas) won ≡ Some w)
still-there won lost replicas winner there =
    get-within (with_copy won lost replicas) won (let e = length-copy won lost replicas in let l = slice_get_within replicas won winner there in omega arith)

-- what a copy has where its winner does, each has after a vote's copies where the winner did and all that didn't lose
pub copies-keep : (P Q : Replica → Type 0) → ((r : Replica) → P r → Q r) → ((winner loser : Replica) → P winner → Q loser → P (recovered winner loser))
    → (won : ℕ) (lost : List ℕ) (replicas : List Replica) (winner : Replica) → slice_get replicas won ≡ Some winner → P winner
    → ((number : ℕ) (r : Replica) → slice_get replicas number ≡ Some r → Q r) → ((number : ℕ) (r : Replica) → is_among lost number ≡ false → slice_get replicas number ≡ Some r → P r)
    → (number : ℕ) (r : Replica) → slice_get (with_recovered won lost replicas) number ≡ Some r → P r
copies-keep P Q weaker keeps won [] replicas winner there h all others number r e = others number r refl e
copies-keep P Q weaker keeps won (lost ∷ losers) replicas winner there h all others number r e =
    copies-keep P Q weaker keeps won losers (with_copy won lost replicas) w.0 w.1 (first w.0 (after-copy won lost replicas winner won w.0 there w.1))
    (λ n x f. each n x (after-copy won lost replicas winner n x there f)) (λ n x stays f. other n x stays (after-copy won lost replicas winner n x there f)) number r e
  where
    w : (w : Replica) × (slice_get (with_copy won lost replicas) won ≡ Some w)
    w = still-there won lost replicas winner there

    copy : (winner loser : Replica) → slice_get replicas won ≡ Some winner → slice_get replicas lost ≡ Some loser → P (recovered winner loser)
    copy won_is loser a b = keeps won_is loser (subst P (some-injective (sym there ∙ a)) h) (all lost loser b)

    first : (r : Replica) → AfterCopy won lost replicas won r → P r
    first r (not_lost d e) = subst P (some-injective (sym there ∙ e)) h
    first r (is_copy winner loser same a b e) = subst P e (copy winner loser a b)

    each : (number : ℕ) (r : Replica) → AfterCopy won lost replicas number r → Q r
    each number r (not_lost d e) = all number r e
    each number r (is_copy winner loser same a b e) = weaker r (subst P e (copy winner loser a b))

    other : (number : ℕ) (r : Replica) → is_among losers number ≡ false → AfterCopy won lost replicas number r → P r
    other number r stays (not_lost d e) = others number r (ap (λ (b : Bool). b || is_among losers number) (ne_eqb lost number (λ k. d (sym k))) ∙ stays) e
    other number r stays (is_copy winner loser same a b e) = subst P e (copy winner loser a b)

-- after a copy each replica but the loser is as it was
copy-other : (won lost : ℕ) (replicas : List Replica) (number : ℕ) → lost ≢ number → slice_get (with_copy won lost replicas) number ≡ slice_get replicas number
copy-other won lost replicas number differs = by (slice_get replicas won)
  where
    set-other : (winner : Replica) (o : Option Replica) → slice_get (option_map_or (λ l. slice_set replicas lost (recovered winner l)) o replicas) number ≡ slice_get replicas number
    set-other winner None = refl
    set-other winner (Some loser) = slice_get-set_other replicas lost number (recovered winner loser) differs

    by : (o : Option Replica) → slice_get (option_map_or (λ w. option_map_or (λ l. slice_set replicas lost (recovered w l)) (slice_get replicas lost) replicas) o replicas) number ≡ slice_get replicas number
    by None = refl
    by (Some winner) = set-other winner (slice_get replicas lost)

-- and after a vote's copies each but the losers
pub copied-other : (won : ℕ) (lost : List ℕ) (replicas : List Replica) (number : ℕ) → is_among lost number ≡ false → slice_get (with_recovered won lost replicas) number ≡ slice_get replicas number
copied-other won [] replicas number differs = refl
copied-other won (lost ∷ losers) replicas number differs =
    let p = neither (lost == number) (is_among losers number) differs in
    copied-other won losers (with_copy won lost replicas) number p.1
    ∙ copy-other won lost replicas number (λ e. true≢false (sym (eq-eqb lost number e) ∙ p.0))
