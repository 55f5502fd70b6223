-- What a sink took of a vote.
use Rattle.std.proofs.Common.{◌≡◌, ◌⊎◌, inl, inr, ℕ, zero, suc, ◌<◌, ◌≤◌, ◌+◌, ◌-◌, List, [], ◌++◌, length, take, drop, Option, Some, None, refl, sym, ap, ◌∙◌, subst, append_assoc, length-append, arith}
use Rattle.std.specs.Prelude.{IfSome}
use Rattle.std.proofs.lemmas.List.{take-append-drop}
use Rattle.std.proofs.Math.Seq.{take-append-add}
use Rattle.ro_event.specs.Views.{View}
use Rattle.ro_io.specs.Outside.{Rose, more}
use Rattle.ro_journal.specs.declared.How.TheVariants.{Sink}
use Rattle.ro_legal.specs.Core.{Core}
use Rattle.ro_legal.specs.Legal.{cut_output}
use Rattle.ro_core.specs.Seen.{CoreOf, IsOfMajority}
use Rattle.ro_cores.specs.Cores.{left_by, offered_by, sent_of, with_sink, Sends, LastWrote}
use Rattle.ro_master.specs.Sessions.{bytes_by}

-- a front of what the majority writes
pub front-majority : (views : List View) (failed : Option ℕ) (bytes : List ℕ) → (bytes ≡ []) ⊎ IsOfMajority views bytes → (bytes_by failed bytes ≡ []) ⊎ IsOfMajority views (bytes_by failed bytes)
front-majority views failed bytes (inl e) = inl (ap (bytes_by failed) e ∙ nothing failed)
  where
    nothing : (o : Option ℕ) → bytes_by o [] ≡ []
    nothing None = refl
    nothing (Some zero) = refl
    nothing (Some (suc n)) = refl
front-majority views None bytes (inr m) = inr m
front-majority views (Some n) bytes (inr m) =
    inr (record { view = m.view; most = m.most; rest = drop n bytes ++ m.rest; front = m.front ∙ ap (λ (xs : List ℕ). xs ++ m.rest) (sym (take-append-drop n bytes)) ∙ append_assoc (take n bytes) (drop n bytes) m.rest })

-- of what was written behind other bytes a failing sink took a front
pub cut-written : (core : Core) (before bytes : List ℕ) (taken : ℕ) → taken ≤ length bytes → core.output ≡ before ++ bytes → core.wrote ≡ length bytes → cut_output core (Sink taken) ≡ before ++ take taken bytes
cut-written core before bytes taken less output wrote =
    let all : length core.output ≡ length before + length bytes = ap (λ (xs : List ℕ). length xs) output ∙ length-append before bytes in
    ap (λ (n : ℕ). take n core.output) (let e : length core.output - core.wrote + taken ≡ length before + taken = omega (arith, all) in e)
    ∙ ap (take (length before + taken)) output ∙ take-append-add before bytes taken

-- what the sink holds and counts behind a write of which it took all, or a part, and how many bytes it surely takes then
pub record Took (bytes : List ℕ) (failed : Option ℕ) (held held' : Option (List ℕ)) (failures failures' sure sure' : ℕ) : Type 0 where
  pub whole : failed ≡ None → held' ≡ more held bytes
  pub part : IfSome failed (λ n. (n < length bytes) × (held' ≡ more held (take n bytes)) × Rose failures failures')
  pub calm : failed ≡ None → failures' ≡ failures
  pub grow : failures ≤ failures'
  pub left : failed ≡ None → sure ≤ sure' + length bytes
  pub full : IfSome failed (λ n. sure < length bytes)

module _ (bytes : List ℕ) (held held' : Option (List ℕ)) (failures failures' sure sure' : ℕ) where
  abbrev Takes : Option ℕ → Type 0
  Takes failed = Took bytes failed held held' failures failures' sure sure'

  took-held : (failed : Option ℕ) → Takes failed → held' ≡ more held (bytes_by failed bytes)
  took-held None t = t.whole refl
  took-held (Some n) t = t.part.1

  took-rose : (failed : Option ℕ) → Takes failed → IfSome failed (λ taken. Rose failures failures')
  took-rose None t = tt
  took-rose (Some n) t = t.part.2

  took-left : (failed : Option ℕ) → Takes failed → failed ≡ None → sure ≤ sure' + length (bytes_by failed bytes)
  took-left None t e = t.left refl
  took-left (Some n) t e = absurd (let f : Some n ≡ None = e in cc)

  -- where so many bytes had left, and with these so many are offered
  took-full : (failed : Option ℕ) → Takes failed → (left offers : ℕ) → (0 < length bytes → offers ≡ left + length bytes) → IfSome failed (λ n. sure + left < offers)
  took-full None t left offers is = tt
  took-full (Some n) t left offers is = (let few : n < length bytes = t.part.0 in let less : sure < length bytes = t.full in let all : offers ≡ left + length bytes = is (omega (arith, few)) in omega (arith, less, all))

-- the core that wrote them, with that sink
pub took-sends : (old new : CoreOf) (bytes : List ℕ) (before failed : Option ℕ) (held held' : Option (List ℕ)) (failures failures' sure sure' : ℕ) → before ≡ None → LastWrote new (left_by old).output bytes
    → (0 < length bytes → length (offered_by new.job new.journal) ≡ length (left_by old).output + length bytes)
    → Took bytes failed held held' failures failures' sure sure' → Sends (with_sink old before held failures sure) (with_sink new failed held' failures' sure') (bytes_by failed bytes)
took-sends old new bytes before failed held held' failures failures' sure sure' none wrote offers t = record {
  sent = cut-sent failed t.part ∙ ap (λ (xs : List ℕ). xs ++ bytes_by failed bytes) (sym (ap (sent_of old.job old.journal) none));
  held = took-held bytes held held' failures failures' sure sure' failed t;
  failures = t.grow;
  failed = took-rose bytes held held' failures failures' sure sure' failed t;
  calm = t.calm;
  sure = took-left bytes held held' failures failures' sure sure' failed t;
  full = subst (λ (o : Option ℕ). IfSome failed (λ taken. sure + length (sent_of old.job old.journal o) < length (offered_by new.job new.journal))) (sym none)
      (took-full bytes held held' failures failures' sure sure' failed t (length (left_by old).output) (length (offered_by new.job new.journal)) offers);
}
  where
    cut-sent : (failed : Option ℕ) → IfSome failed (λ n. (n < length bytes) × (held' ≡ more held (take n bytes)) × Rose failures failures') → sent_of new.job new.journal failed ≡ (left_by old).output ++ bytes_by failed bytes
    cut-sent None part = wrote.output
    cut-sent (Some n) part = cut-written (left_by new) (left_by old).output bytes n (let less : n < length bytes = part.0 in omega arith) wrote.output wrote.wrote
