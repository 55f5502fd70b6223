-- A change at the first place that passes is the change of the list.
use Rattle.std.specs.Prelude.{◌≡◌, ℕ, zero, suc, ◌+◌, ◌<◌, ◌≤◌, Bool, true, false, cond, not, ◌&&◌, List, [], ◌∷◌, ◌++◌, length, take, drop, Option, Some, None, nat_lt, ◌==◌, get_or, slice_get, slice_set}
use Rattle.std.specs.List.{position, position_or_len, find, remove}
use Rattle.std.proofs.Common.{refl, sym, ap, ◌∙◌, arith, subst}
use Rattle.std.proofs.lemmas.Bool.{ltb-true}
use Rattle.std.proofs.lemmas.List.Folds.{find_at}
use Rattle.ro_condition.specs.declared.waiters.Waiter.{Waiter}
use Rattle.ro_condition.specs.Waiters.{is_of, waits_for, without, woken, with_signal, heard_of, with_broadcast}

one-more : (n : ℕ) → 1 + n ≡ suc n
one-more n = omega arith

-- the place is that of the first that passes, or there is none
position-place : {X : Type 0} (p : X → Bool) (xs : List X) (i : ℕ) → position p xs ≡ Some i → (position_or_len p xs ≡ i) × (i < length xs)
position-place p xs i = by (nat_lt (position_or_len p xs) (length xs)) refl
  where
    by : (b : Bool) → nat_lt (position_or_len p xs) (length xs) ≡ b → cond b (Some (position_or_len p xs)) None ≡ Some i → (position_or_len p xs ≡ i) × (i < length xs)
    by true h e = let same : position_or_len p xs ≡ i = cc in (same, subst (λ (n : ℕ). n < length xs) same (ltb-true _ _ h))
    by false h e = absurd (let f : None ≡ Some i = e in cc)

position-none : {X : Type 0} (p : X → Bool) (xs : List X) → position p xs ≡ None → nat_lt (position_or_len p xs) (length xs) ≡ false
position-none p xs = by (nat_lt (position_or_len p xs) (length xs)) refl
  where
    by : (b : Bool) → nat_lt (position_or_len p xs) (length xs) ≡ b → cond b (Some (position_or_len p xs)) None ≡ None → nat_lt (position_or_len p xs) (length xs) ≡ false
    by true h e = absurd (let f : Some (position_or_len p xs) ≡ None = e in cc)
    by false h e = h

removed-at : (thread : ℕ) (ws : List Waiter) → position_or_len (is_of thread) ws < length ws → remove ws (position_or_len (is_of thread) ws) ≡ without ws thread
removed-at thread [] h = absurd (omega arith)
removed-at thread (w ∷ ws) h = by (position_or_len (is_of thread) ws) (w.thread == thread) (removed-at thread ws) h
  where
    by : (n : ℕ) (b : Bool) → (n < length ws → remove ws n ≡ without ws thread) → cond (not b) (1 + n) 0 < length (w ∷ ws) → remove (w ∷ ws) (cond (not b) (1 + n) 0) ≡ cond b ws (w ∷ without ws thread)
    by n true rest h = refl
    by n false rest h = ap (remove (w ∷ ws)) (one-more n) ∙ ap (λ (xs : List Waiter). w ∷ xs) (rest (omega arith))

pub removed : (thread : ℕ) (ws : List Waiter) (i : ℕ) → position (is_of thread) ws ≡ Some i → remove ws i ≡ without ws thread
removed thread ws i e =
    let p = position-place (is_of thread) ws i e in
    ap (remove ws) (sym p.0) ∙ removed-at thread ws (subst (λ (n : ℕ). n < length ws) (sym p.0) p.1)

nobody-at : (thread : ℕ) (ws : List Waiter) → nat_lt (position_or_len (is_of thread) ws) (length ws) ≡ false → ws ≡ without ws thread
nobody-at thread [] h = refl
nobody-at thread (w ∷ ws) h = by (position_or_len (is_of thread) ws) (w.thread == thread) (nobody-at thread ws) h
  where
    by : (n : ℕ) (b : Bool) → (nat_lt n (length ws) ≡ false → ws ≡ without ws thread) → nat_lt (cond (not b) (1 + n) 0) (length (w ∷ ws)) ≡ false → w ∷ ws ≡ cond b ws (w ∷ without ws thread)
    by n true rest h = absurd (grind (arith, h))
    by n false rest h = ap (λ (xs : List Waiter). w ∷ xs) (rest (grind (arith, h)))

pub nobody : (thread : ℕ) (ws : List Waiter) → position (is_of thread) ws ≡ None → ws ≡ without ws thread
nobody thread ws e = nobody-at thread ws (position-none (is_of thread) ws e)

-- the first that a signal can reach is signalled
signalled-at : (condition : ℕ) (ws : List Waiter) (d : Waiter) → position_or_len (waits_for condition) ws < length ws
    → slice_set ws (position_or_len (waits_for condition) ws) (woken (get_or ws (position_or_len (waits_for condition) ws) d)) ≡ with_signal ws condition
signalled-at condition [] d h = absurd (omega arith)
signalled-at condition (w ∷ ws) d h = by (position_or_len (waits_for condition) ws) (waits_for condition w) (signalled-at condition ws d) h
  where
    by : (n : ℕ) (b : Bool) → (n < length ws → slice_set ws n (woken (get_or ws n d)) ≡ with_signal ws condition) → cond (not b) (1 + n) 0 < length (w ∷ ws)
        → slice_set (w ∷ ws) (cond (not b) (1 + n) 0) (woken (get_or (w ∷ ws) (cond (not b) (1 + n) 0) d)) ≡ cond b (woken w ∷ ws) (w ∷ with_signal ws condition)
    by n true rest h = refl
    by n false rest h = ap (λ m. slice_set (w ∷ ws) m (woken (get_or (w ∷ ws) m d))) (one-more n) ∙ ap (λ (xs : List Waiter). w ∷ xs) (rest (omega arith))

pub signalled : (condition : ℕ) (ws : List Waiter) (i : ℕ) (d : Waiter) → position (waits_for condition) ws ≡ Some i → slice_set ws i (woken (get_or ws i d)) ≡ with_signal ws condition
signalled condition ws i d e =
    let p = position-place (waits_for condition) ws i e in
    ap (λ m. slice_set ws m (woken (get_or ws m d))) (sym p.0) ∙ signalled-at condition ws d (subst (λ (n : ℕ). n < length ws) (sym p.0) p.1)

unheard-at : (condition : ℕ) (ws : List Waiter) → nat_lt (position_or_len (waits_for condition) ws) (length ws) ≡ false → ws ≡ with_signal ws condition
unheard-at condition [] h = refl
unheard-at condition (w ∷ ws) h = by (position_or_len (waits_for condition) ws) (waits_for condition w) (unheard-at condition ws) h
  where
    by : (n : ℕ) (b : Bool) → (nat_lt n (length ws) ≡ false → ws ≡ with_signal ws condition) → nat_lt (cond (not b) (1 + n) 0) (length (w ∷ ws)) ≡ false → w ∷ ws ≡ cond b (woken w ∷ ws) (w ∷ with_signal ws condition)
    by n true rest h = absurd (grind (arith, h))
    by n false rest h = ap (λ (xs : List Waiter). w ∷ xs) (rest (grind (arith, h)))

pub unheard : (condition : ℕ) (ws : List Waiter) → position (waits_for condition) ws ≡ None → ws ≡ with_signal ws condition
unheard condition ws e = unheard-at condition ws (position-none (waits_for condition) ws e)

pub found : {X : Type 0} (p : X → Bool) (xs : List X) (i : ℕ) (d : X) → position p xs ≡ Some i → Some (get_or xs i d) ≡ find p xs
found {X = X} p xs i d e =
    let q = position-place p xs i e in
    sym (find_at p xs ∙ (ap (slice_get xs) q.0 ∙ slice_get-there xs i d q.1))
  where
    slice_get-there : (ys : List X) (j : ℕ) (y : X) → j < length ys → slice_get ys j ≡ Some (get_or ys j y)
    slice_get-there [] j y h = absurd (omega arith)
    slice_get-there (x ∷ ys) zero y h = refl
    slice_get-there (x ∷ ys) (suc j) y h = slice_get-there ys j y (omega arith)

pub not-found : {X : Type 0} (p : X → Bool) (xs : List X) → position p xs ≡ None → find p xs ≡ None
not-found {X = X} p xs e = find_at p xs ∙ behind xs (position_or_len p xs) (position-none p xs e)
  where
    behind : (ys : List X) (j : ℕ) → nat_lt j (length ys) ≡ false → slice_get ys j ≡ None
    behind [] j h = refl
    behind (x ∷ ys) zero h = absurd (grind (arith, h))
    behind (x ∷ ys) (suc j) h = behind ys j (grind (arith, h))

pub inside : {X : Type 0} (p : X → Bool) (xs : List X) (i : ℕ) → position p xs ≡ Some i → i < length xs
inside p xs i e = (position-place p xs i e).1

-- one step of a broadcast
heard-suc : (condition : ℕ) (ws : List Waiter) (i : ℕ) (d : Waiter) → i < length ws
    → take i ws ++ with_broadcast (drop i ws) condition ≡ take (suc i) (slice_set ws i (heard_of condition (get_or ws i d))) ++ with_broadcast (drop (suc i) (slice_set ws i (heard_of condition (get_or ws i d)))) condition
heard-suc condition [] i d h = absurd (omega arith)
heard-suc condition (x ∷ ws) zero d h = refl
heard-suc condition (x ∷ ws) (suc i) d h = ap (λ (xs : List Waiter). x ∷ xs) (heard-suc condition ws i d (omega arith))

pub heard-one : (condition : ℕ) (ws : List Waiter) (i : ℕ) (d : Waiter) (w : Waiter) → i < length ws → w ≡ heard_of condition (get_or ws i d)
    → take i ws ++ with_broadcast (drop i ws) condition ≡ take (i + 1) (slice_set ws i w) ++ with_broadcast (drop (i + 1) (slice_set ws i w)) condition
heard-one condition ws i d w h e =
    heard-suc condition ws i d h
    ∙ (ap (λ n. take n (slice_set ws i (heard_of condition (get_or ws i d))) ++ with_broadcast (drop n (slice_set ws i (heard_of condition (get_or ws i d)))) condition) (let f : suc i ≡ i + 1 = omega arith in f)
    ∙ ap (λ (y : Waiter). take (i + 1) (slice_set ws i y) ++ with_broadcast (drop (i + 1) (slice_set ws i y)) condition) (sym e))

pub heard-all : (condition : ℕ) (first ws : List Waiter) (i : ℕ) → length ws ≤ i → with_broadcast first condition ≡ take i ws ++ with_broadcast (drop i ws) condition → ws ≡ with_broadcast first condition
heard-all condition first ws i h e = sym (e ∙ all ws i h)
  where
    all : (xs : List Waiter) (j : ℕ) → length xs ≤ j → take j xs ++ with_broadcast (drop j xs) condition ≡ xs
    all [] zero k = refl
    all [] (suc j) k = refl
    all (x ∷ xs) zero k = absurd (omega arith)
    all (x ∷ xs) (suc j) k = ap (λ (ys : List Waiter). x ∷ ys) (all xs j (omega arith))
