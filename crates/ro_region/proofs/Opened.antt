-- A window that is opened wider stays within what the ranges permit.
use Rattle.std.specs.Prelude.{◌≡◌, ℕ, ◌+◌, ◌*◌, ◌/◌, ◌%◌, ◌<◌, ◌≤◌, ◌⊎◌, true, ◌&&◌, List, [], ◌∷◌, ◌++◌, length, replicate, slice_index, Some, nat_le, nat_lt}
use Rattle.std.specs.List.{slice_get}
use Rattle.std.specs.Option.{unwrap_or}
use Rattle.std.proofs.Common.{get_or, refl, ap, sym, subst, ◌∙◌, arith, inl, inr}
use Rattle.std.proofs.lemmas.Bool.{and_from, le-leb, lt-ltb, cases_lt}
use Rattle.std.proofs.lemmas.List.{get_or_append_left, get_or-replicate, length-replicate}
use Rattle.std.proofs.Math.Seq.{get_or-append_seam}
use Rattle.std.proofs.lemmas.List.Folds.{list_any_at}
use Rattle.std.proofs.lemmas.Option.{slice_get-get_or}
use Rattle.ro_region.specs.declared.Kind.{Kind}
use Rattle.ro_region.specs.declared.Range.{Range}
use Rattle.ro_region.specs.declared.windows.Window.{Window}
use Rattle.ro_region.specs.Permission.{allows, permits_byte}
use Rattle.ro_region.specs.Windows.{IsOpen, IsTable, AreClosed}

-- a byte of a listed range
pub listed : (ranges : List Range) (i : ℕ) (d : Range) (kind : Kind) (a : ℕ) → i < length ranges → allows (get_or ranges i d) kind ≡ true → (get_or ranges i d).start ≤ a → a < (get_or ranges i d).start + (get_or ranges i d).length → permits_byte ranges kind a ≡ true
listed ranges i d kind a l h low high =
    list_any_at (λ range. nat_le range.start a && nat_lt a (range.start + range.length) && allows range kind) ranges i d l
    (and_from _ _ (and_from _ _ (le-leb _ a low) (lt-ltb a _ high)) h)

-- a window that two windows join to
pub joined : (ranges : List Range) (kind : Kind) (page : ℕ) (a b window : Window) → IsOpen ranges kind page a → IsOpen ranges kind page b → window.from ≤ window.to → (a.to ≤ 4096 → b.to ≤ 4096 → window.to ≤ 4096) → ((k : ℕ) → window.from ≤ k → k < window.to → ((a.from ≤ k) × (k < a.to)) ⊎ ((b.from ≤ k) × (k < b.to))) → IsOpen ranges kind page window
joined ranges kind page a b window g h ordered within either = record {
  ordered = ordered;
  within = within g.within h.within;
  permitted = λ k low high. elim (either k low high) [
    | inl in_a ↦ g.permitted k in_a.0 in_a.1
    | inr in_b ↦ h.permitted k in_b.0 in_b.1
  ];
}

-- a window of no byte
pub closed_open : (ranges : List Range) (kind : Kind) (page : ℕ) → IsOpen ranges kind page (record { from = 0; to = 0 })
closed_open ranges kind page = record { ordered = omega arith; within = omega arith; permitted = λ k low high. absurd (omega arith) }

-- pages that no range meets
pub none_added : (ranges : List Range) (kind : Kind) (table : ℕ) (windows : List Window) → AreClosed windows → IsTable ranges kind table 0 windows windows
none_added ranges kind table windows h = record {
  longer = omega arith;
  within = omega (arith, h.some);
  same = λ i l. refl;
  sound = λ k window l e. subst (IsOpen ranges kind (1024 * table + k)) (some_is (sym (h.closed (0 + k) (omega arith)) ∙ e)) (closed_open ranges kind (1024 * table + k));
}
  where
    some_is : {a b : Window} → Some a ≡ Some b → a ≡ b
    some_is {a} {b} e = ap (λ o. unwrap_or o a) e

at_more : (P : ℕ → Type 0) (fs : List ℕ) (x u : ℕ) → u < length fs + 1 → (u < length fs → P (slice_index fs u)) → (u ≡ length fs → P x) → P (slice_index (fs ++ x ∷ []) u)
at_more P fs x u l before last = elim (cases_lt u (length fs)) [
  | inl low ↦ subst P (sym (get_or_append_left fs (x ∷ []) 0 u low)) (before low)
  | inr high ↦
      let is : u ≡ length fs = omega arith in
      subst P (sym (ap (slice_index (fs ++ x ∷ [])) is ∙ get_or-append_seam fs x [] 0)) (last is)
]

-- the tables so far, and one more
pub more_within : (ranges : List Range) (kind : Kind) (fs : List ℕ) (first : ℕ) (new old : List Window) → IsTable ranges kind (length fs) first new old → ((t : ℕ) → t < length fs → slice_index fs t + 1024 ≤ length old)
    → (t : ℕ) → t < length fs + 1 → slice_index (fs ++ first ∷ []) t + 1024 ≤ length new
more_within ranges kind fs first new old g h t l =
    at_more (λ b. b + 1024 ≤ length new) fs first t l (λ low. let w = h t low in let m = g.longer in omega arith) (λ _. g.within)

pub more_open : (ranges : List Range) (kind : Kind) (fs : List ℕ) (first : ℕ) (new old : List Window) → IsTable ranges kind (length fs) first new old → ((t : ℕ) → t < length fs → slice_index fs t + 1024 ≤ length old)
    → ((page : ℕ) (window : Window) → page / 1024 < length fs → slice_get old (slice_index fs (page / 1024) + page % 1024) ≡ Some window → IsOpen ranges kind page window)
    → (page : ℕ) (window : Window) → page / 1024 < length fs + 1 → slice_get new (slice_index (fs ++ first ∷ []) (page / 1024) + page % 1024) ≡ Some window → IsOpen ranges kind page window
more_open ranges kind fs first new old g h open_before page window l =
    at_more (λ b. slice_get new (b + page % 1024) ≡ Some window → IsOpen ranges kind page window) fs first (page / 1024) l
    (λ low e. let w = h (page / 1024) low in open_before page window low (sym (g.same _ (omega arith)) ∙ e))
    (λ is e.
    let at : 1024 * length fs + page % 1024 ≡ page = omega arith in
    subst (λ p. IsOpen ranges kind p window) at (g.sound (page % 1024) window (omega arith) e))

pub more_closed : (ranges : List Range) (kind : Kind) (table first : ℕ) (new old : List Window) → IsTable ranges kind table first new old → AreClosed old → AreClosed new
more_closed ranges kind table first new old g h = record {
  some = let a = g.longer in let b = h.some in omega arith;
  closed = λ i l. g.same i (let b = h.some in omega arith) ∙ h.closed i l;
}

-- windows of which each is closed
pub all_closed : (windows : List Window) → windows ≡ replicate 1024 (record { from = 0; to = 0 }) → AreClosed windows
all_closed windows e =
    let long : length windows ≡ 1024 = ap length e ∙ length-replicate {A = Window} 1024 (record { from = 0; to = 0 }) in
    record {
      some = omega arith;
      closed = λ i l.
          slice_get-get_or windows i (record { from = 0; to = 0 }) (omega arith)
          ∙ ap Some (ap (λ (ws : List Window). get_or ws i (record { from = 0; to = 0 })) e ∙ get_or-replicate 1024 i (record { from = 0; to = 0 }) (record { from = 0; to = 0 }) l);
    }
