-- What a lease adds to the first steps: as many steps as its replica's thread then has more than there are.
use Rattle.std.specs.Prelude.{◌≡◌, ◌≢◌, ℕ, zero, suc, ◌+◌, ◌-◌, ◌≤◌, Bool, true, false, cond, ◌&&◌, ◌==◌, List, [], ◌∷◌, ◌++◌, replicate}
use Rattle.std.proofs.Common.{refl, sym, ap, ap₂, ◌∙◌, arith, append_assoc, append-nil}
use Rattle.std.proofs.lemmas.Bool.{true≢false, eqb-true, eq-eqb}
use Rattle.ro_journal.specs.declared.Lease.{Lease}
use Rattle.ro_journal.specs.declared.Entry.{Entry}
use Rattle.ro_journal.specs.declared.Entry.TheVariants.{Take, Put, Part, Vote, Free, Scrub, End}
use Rattle.ro_journal.specs.Plan.{event_steps}
use Rattle.ro_plans.specs.First.{times, first_run, Steps, served_all, lease_steps, steps_after, steps_from, steps_of}
use Rattle.ro_plans.specs.Walks.{fresh}
use Rattle.ro_plans.proofs.Times.{times-append, times-replicate, times-more}

-- the first of so many steps, and those behind it
one-run : (t n : ℕ) (first taken : List ℕ) → times t taken ≤ times t first → ((xs ys : List ℕ) → times t ys ≤ times t xs → first_run t n xs ys ≡ xs ++ replicate ((times t ys + n) - times t xs) t)
    → (b : Bool) → (times t first == times t taken) ≡ b → first_run t n (cond b (first ++ t ∷ []) first) (taken ++ t ∷ []) ≡ first ++ replicate ((times t taken + suc n) - times t first) t
one-run t n first taken h rest true e =
    let same : times t first ≡ times t taken = eqb-true (times t first) (times t taken) e in
    let one = times-more t first in
    let other = times-more t taken in
    rest (first ++ t ∷ []) (taken ++ t ∷ []) (omega arith)
    ∙ (append_assoc first (t ∷ []) _
    ∙ ap (λ (m : ℕ). first ++ replicate m t) (let c : suc ((times t (taken ++ t ∷ []) + n) - times t (first ++ t ∷ [])) ≡ (times t taken + suc n) - times t first = omega arith in c))
one-run t n first taken h rest false e =
    let apart : times t first ≢ times t taken = λ q. true≢false (sym (eq-eqb (times t first) (times t taken) q) ∙ e) in
    let other = times-more t taken in
    rest first (taken ++ t ∷ []) (omega arith)
    ∙ ap (λ (m : ℕ). first ++ replicate m t) (let c : (times t (taken ++ t ∷ []) + n) - times t first ≡ (times t taken + suc n) - times t first = omega arith in c)

run-adds : (t n : ℕ) (first taken : List ℕ) → times t taken ≤ times t first → first_run t n first taken ≡ first ++ replicate ((times t taken + n) - times t first) t
run-adds t zero first taken h = sym (append-nil first) ∙ ap (λ (m : ℕ). first ++ replicate m t) (let e : 0 ≡ (times t taken + 0) - times t first = omega arith in e)
run-adds t (suc n) first taken h = one-run t n first taken h (run-adds t n) (times t first == times t taken) refl

-- no replica made a step that is not among the first ones
abbrev pub AreWithin : Steps → Type 0
AreWithin s = (r t : ℕ) → times t (s.taken r) ≤ times t s.first

both : (a b : Bool) (n m : ℕ) → m ≡ cond b n 0 → cond a m 0 ≡ cond (a && b) n 0
both true b n m e = e
both false b n m e = refl

-- what it makes in each replica
pub lease-taken : (lease : Lease) (n : ℕ) (s : Steps) (r t : ℕ) → times t ((lease_steps lease n s).taken r) ≡ times t (s.taken r) + cond (r == lease.replica && lease.thread == t) n 0
lease-taken lease n s r t = here (r == lease.replica) ∙ ap (λ (m : ℕ). times t (s.taken r) + m) (both (r == lease.replica) (lease.thread == t) n (times t (replicate n lease.thread)) (times-replicate t lease.thread n))
  where
    here : (b : Bool) → times t (cond b (s.taken r ++ replicate n lease.thread) (s.taken r)) ≡ times t (s.taken r) + cond b (times t (replicate n lease.thread)) 0
    here true = times-append t (s.taken r) (replicate n lease.thread)
    here false = omega arith

module _ (lease : Lease) (n : ℕ) (s : Steps) (within : AreWithin s) where
  pub lease-adds : (lease_steps lease n s).first ≡ s.first ++ replicate (fresh lease n s) lease.thread
  lease-adds = run-adds lease.thread n s.first (s.taken lease.replica) (within lease.replica lease.thread)

  pub lease-first : (t : ℕ) → times t (lease_steps lease n s).first ≡ times t s.first + cond (lease.thread == t) (fresh lease n s) 0
  lease-first t =
      ap (times t) lease-adds
      ∙ (times-append t s.first (replicate (fresh lease n s) lease.thread)
      ∙ ap (λ (m : ℕ). times t s.first + m) (times-replicate t lease.thread (fresh lease n s)))

  lease-within : AreWithin (lease_steps lease n s)
  lease-within r t = by (r == lease.replica) refl (lease.thread == t) refl
    where
      by : (b : Bool) → (r == lease.replica) ≡ b → (c : Bool) → (lease.thread == t) ≡ c → times t ((lease_steps lease n s).taken r) ≤ times t (lease_steps lease n s).first
      by b p c q = at b p c q (lease-first t ∙ ap (λ (d : Bool). times t s.first + cond d (fresh lease n s) 0) q) (lease-taken lease n s r t ∙ ap₂ (λ (a d : Bool). times t (s.taken r) + cond (a && d) n 0) p q)
        where
          at : (b : Bool) → (r == lease.replica) ≡ b → (c : Bool) → (lease.thread == t) ≡ c → times t (lease_steps lease n s).first ≡ times t s.first + cond c (fresh lease n s) 0
              → times t ((lease_steps lease n s).taken r) ≡ times t (s.taken r) + cond (b && c) n 0 → times t ((lease_steps lease n s).taken r) ≤ times t (lease_steps lease n s).first
          at true p true q f g =
              let first : times lease.thread s.first ≡ times t s.first = ap (λ (u : ℕ). times u s.first) (eqb-true lease.thread t q) in
              let taken : times lease.thread (s.taken lease.replica) ≡ times t (s.taken r) = ap₂ (λ (u x : ℕ). times u (s.taken x)) (eqb-true lease.thread t q) (sym (eqb-true r lease.replica p)) in
              omega (arith, f, g, first, taken, within r t)
          at true p false q f g = omega (arith, f, g, within r t)
          at false p true q f g = omega (arith, f, g, within r t)
          at false p false q f g = omega (arith, f, g, within r t)

pub served-within : (t n : ℕ) (s : Steps) → AreWithin s → AreWithin (served_all t n s)
served-within t n s within r u = omega (arith, within r u, times-append u (s.taken r) (replicate n t), times-append u s.first (replicate n t))

after-within : (s : Steps) (entry : Entry) → AreWithin s → AreWithin (steps_after s entry)
after-within s (Take lease) within = within
after-within s (Put lease n hit) within = lease-within lease n s within
after-within s (Part lease n hit) within = lease-within lease n s within
after-within s (Vote t n won lost did) within = served-within t (event_steps did) s within
after-within s (Free t) within = served-within t 1 s within
after-within s (Scrub won lost) within = within
after-within s (End how) within = within

from-within : (s : Steps) (journal : List Entry) → AreWithin s → AreWithin (steps_from s journal)
from-within s [] within = within
from-within s (entry ∷ journal) within = from-within (steps_after s entry) journal (after-within s entry within)

pub are-within : (journal : List Entry) → AreWithin (steps_of journal)
are-within journal = from-within _ journal (λ r t. omega arith)
