-- Views, hands, and words at their places.
use Rattle.std.proofs.Common.{◌≡◌, ◌≢◌, ◌⊎◌, ℕ, zero, suc, ◌+◌, ◌*◌, ◌<◌, List, [], ◌∷◌, ◌++◌, length, set, refl, sym, ap, subst, inl, inr, ⊎_elim, arith}
use mathlib.Core.Option.{some, some-injective, some-ne-none}
use lib.ListN.{get_elem?}
use Rattle.atomic_table.proofs.Lists.{at_set}
use Rattle.ro_lockpage.specs.Hands.{Hand}
use Rattle.ro_lockpage.specs.Seats.{Each}
use Rattle.ro_lockpage.specs.declared.seats.View.{View}

-- a view at a place, where one more stands at the end
pub at_end : {A : Type 0} (l : List A) (a b : A) (j : ℕ) → get_elem? (l ++ a ∷ []) j ≡ some b → (get_elem? l j ≡ some b) ⊎ ((j ≡ length l) × (a ≡ b))
at_end [] a b zero e = inr (refl, some-injective a b e)
at_end [] a b (suc j) e = absurd (some-ne-none b (sym e))
at_end (x ∷ xs) a b zero e = inl e
at_end (x ∷ xs) a b (suc j) e = ⊎_elim (λ t. inl t) (λ t. inr (ap suc t.0, t.1)) (at_end xs a b j e)

-- what holds of all views, where one was set
pub views_set : (P : ℕ → View → Type 0) (views : List View) (id : ℕ) (w : View)
    → ((j : ℕ) (u : View) → j ≢ id → get_elem? views j ≡ some u → P j u)
    → P id w
    → (j : ℕ) (u : View) → get_elem? (set views id w) j ≡ some u → P j u
views_set P views id w others mine j u e =
    ⊎_elim
    (λ (x : (j ≡ id) × (w ≡ u)). subst (λ (y : ℕ × View). P y.0 y.1) (λ i. (sym x.0 i, x.1 i)) mine)
    (λ (x : (j ≢ id) × (get_elem? views j ≡ some u)). others j u x.0 x.1)
    (at_set views id j w u e)

-- what holds of all views, where one more came
pub views_end : (P : ℕ → View → Type 0) (views : List View) (w : View)
    → ((j : ℕ) (u : View) → get_elem? views j ≡ some u → P j u)
    → P (length views) w
    → (j : ℕ) (u : View) → get_elem? (views ++ w ∷ []) j ≡ some u → P j u
views_end P views w others mine j u e =
    ⊎_elim
    (λ (x : get_elem? views j ≡ some u). others j u x)
    (λ (x : (j ≡ length views) × (w ≡ u)). subst (λ (y : ℕ × View). P y.0 y.1) (λ i. (sym x.0 i, x.1 i)) mine)
    (at_end views w u j e)

pub each_map : (P Q : Hand → Type 0) → ((h : Hand) → P h → Q h) → (hs : List Hand) → Each P hs → Each Q hs
each_map P Q f [] a = tt
each_map P Q f (h ∷ hs) a = (f h a.0, each_map P Q f hs a.1)

pub each_append : (P : Hand → Type 0) (xs ys : List Hand) → Each P xs → Each P ys → Each P (xs ++ ys)
each_append P [] ys a b = b
each_append P (x ∷ xs) ys a b = (a.0, each_append P xs ys a.1 b)

-- a row and a mutex have one word
pub apart : (n m r m' r' : ℕ) → r < n → r' < n → m * n + r ≡ m' * n + r' → (m ≡ m') × (r ≡ r')
apart n zero r zero r' a b e = (refl, omega (arith, e))
apart n zero r (suc m') r' a b e = absurd (omega (arith, e))
apart n (suc m) r zero r' a b e = absurd (omega (arith, e))
apart n (suc m) r (suc m') r' a b e = let p = apart n m r m' r' a b (omega (arith, e)) in (ap suc p.0, p.1)

-- a row in range has a word in range
pub in_range : (k n m r : ℕ) → m < k → r < n → m * n + r < k * n
in_range zero n m r a b = absurd (omega arith)
in_range (suc k) n zero r a b = omega (arith, b)
in_range (suc k) n (suc m) r a b = let p = in_range k n m r (omega arith) b in omega (arith, p)
