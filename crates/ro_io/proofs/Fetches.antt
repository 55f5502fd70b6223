-- For what a store was asked.
use Rattle.std.proofs.Common.{◌≡◌, ◌⊎◌, inl, inr, ℕ, ◌+◌, ◌≤◌, false, List, [], ◌++◌, length, Option, Some, None, refl, sym, ap, ◌∙◌, subst, arith, append_assoc, append-nil}
use Rattle.std.specs.Prelude.{◌-◌, ◌^◌, IfSome}
use Rattle.std.proofs.lemmas.List.{length-append, map-append}
use Rattle.ro_io.specs.Outside.{Call, Calls, Asks, unfailed}

-- these calls behind those that were told before, if any
abbrev Behind : Option (List Call) → (calls all : List Call) → Type 0
Behind old calls all = (earlier : List Call) × (old ≡ Some earlier) × (all ≡ earlier ++ calls)

pub asks-none : (calls : Calls) → Asks calls calls []
asks-none calls = record { counted = inl (omega arith); told = by calls.list refl }
  where
    by : (o : Option (List Call)) → calls.list ≡ o → IfSome o (Behind calls.list [])
    by None e = tt
    by (Some all) e = (all, e, sym (append-nil all))

-- one after another
pub asks-more : (old mid new : Calls) (one other : List Call) → Asks old mid one → Asks mid new other → Asks old new (one ++ other)
asks-more old mid new one other first second = record { counted = counts first.counted second.counted; told = tells new.list second.told }
  where
    counts : (mid.count ≡ old.count + length one) ⊎ (2 ^ 64 - 1 ≤ mid.count) → (new.count ≡ mid.count + length other) ⊎ (2 ^ 64 - 1 ≤ new.count)
        → (new.count ≡ old.count + length (one ++ other)) ⊎ (2 ^ 64 - 1 ≤ new.count)
    counts (inl e) (inl f) = inl (omega (arith, e, f, length-append one other))
    counts (inr full) (inl f) = inr (omega (arith, full, f))
    counts e (inr full) = inr full

    tells : (o : Option (List Call)) → IfSome o (Behind mid.list other) → IfSome o (Behind old.list (one ++ other))
    tells None h = tt
    tells (Some all) h =
        let was : Behind old.list one h.0 = subst (λ (o : Option (List Call)). IfSome o (Behind old.list one)) h.1 first.told in
        (was.0, was.1, h.2 ∙ ap (λ (xs : List Call). xs ++ other) was.2 ∙ append_assoc was.0 one other)

-- the same, where none fails
pub unfailed-more : (old mid new : Calls) (one other : List (List ℕ)) → Asks old mid (unfailed one) → Asks mid new (unfailed other) → Asks old new (unfailed (one ++ other))
unfailed-more old mid new one other first second =
    subst (Asks old new) (sym (map-append (λ name. record { name = name; failed = false }) one other)) (asks-more old mid new (unfailed one) (unfailed other) first second)
