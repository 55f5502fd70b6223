-- What asking adds to what a pass won.
use Rattle.std.specs.Prelude.{◌≡◌, ◌⊎◌, ℕ, Bool, cond, List, [], ◌∷◌, ◌++◌, Contains, Option, Some, None}
use Rattle.std.proofs.lemmas.List.Elements.{Contains-append_right, Contains-push}
use Rattle.std.proofs.Common.{refl, sym, ap, ◌∙◌, inl, inr, ⊎_elim, eq-eqb, subst}
use Rattle.ro_lockpage.specs.Ranks.{Asked, Decided, asked, decided, is_at, map_of, given, steps, won_then}
use Rattle.ro_lockpage.specs.declared.words.Answer.{Answer}
use Rattle.ro_lockpage.proofs.Notes.{at_both, decide, noted_at, noted_else, none-some, some-same}
use Rattle.ro_peer.specs.declared.locks.Decision.TheVariants.{Asker, Other}
use Rattle.ro_locking.specs.Asking.{decision_of}

-- in the first of two lists, or in the second
pub map_either : (xs ys : List Decided) (m r t : ℕ) → map_of (xs ++ ys) m r ≡ Some t → (map_of xs m r ≡ Some t) ⊎ (map_of ys m r ≡ Some t)
map_either [] ys m r t is = inr is
map_either (d ∷ xs) ys m r t is =
    decide (is_at d.mutex d.rank m r) ((map_of (d ∷ xs) m r ≡ Some t) ⊎ (map_of ys m r ≡ Some t))
    (λ b. inl (noted_at (map_of xs) d.mutex d.rank d.thread m r b ∙ sym (noted_at (map_of (xs ++ ys)) d.mutex d.rank d.thread m r b) ∙ is))
    (λ b.
    ⊎_elim
    (λ (e : map_of xs m r ≡ Some t). inl (noted_else (map_of xs) d.mutex d.rank d.thread m r b ∙ e))
    (λ (e : map_of ys m r ≡ Some t). inr e)
    (map_either xs ys m r t (sym (noted_else (map_of (xs ++ ys)) d.mutex d.rank d.thread m r b) ∙ is)))

map_one : (m r t other at owner : ℕ) → map_of (decided m r t ∷ []) other at ≡ Some owner → (other ≡ m) × (at ≡ r) × (owner ≡ t)
map_one m r t other at owner is =
    decide (is_at m r other at) ((other ≡ m) × (at ≡ r) × (owner ≡ t))
    (λ b. let here = at_both m r other at b in (sym here.0, sym here.1, some-same owner t (sym is ∙ noted_at (map_of []) m r t other at b)))
    (λ b. absurd (none-some owner (sym (noted_else (map_of []) m r t other at b) ∙ is)))

pub wins_asked : (won : List Decided) (m r t : ℕ) (told : Option Answer) (other at owner : ℕ) → map_of (won_then won told m r t) other at ≡ Some owner → (map_of won other at ≡ Some owner) ⊎ ((decision_of (given told t) t ≡ Asker) × (other ≡ m) × (at ≡ r) × (owner ≡ t))
wins_asked won m r t (Some answer) other at owner is = inl is
wins_asked won m r t None other at owner is =
    ⊎_elim
    (λ (e : map_of won other at ≡ Some owner). inl e)
    (λ (e : map_of (decided m r t ∷ []) other at ≡ Some owner). let one = map_one m r t other at owner e in inr (ap (λ (b : Bool). cond b Asker Other) (eq-eqb t t refl), one.0, one.1, one.2))
    (map_either won (decided m r t ∷ []) other at owner is)

-- ---- what a pass has asked

steps_end : (m r : ℕ) (older : List ℕ) (found : ℕ) → Contains (steps m r (older ++ found ∷ [])) (asked m r found)
steps_end m r [] found = Contains-push [] (asked m r found)
steps_end m r (word ∷ older) found = Contains-append_right (asked m r word ∷ []) (steps m r (older ++ found ∷ [])) (asked m r found) (steps_end m r older found)

-- the last step of an ask is among them
pub asks_last : (before now : List Asked) (m r : ℕ) (older : List ℕ) (found : ℕ) → now ≡ before ++ steps m r (older ++ found ∷ []) → Contains now (asked m r found)
asks_last before now m r older found is = subst (λ (all : List Asked). Contains all (asked m r found)) (sym is) (Contains-append_right before (steps m r (older ++ found ∷ [])) (asked m r found) (steps_end m r older found))
