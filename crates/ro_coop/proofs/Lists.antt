-- Peers with their copies, one after another.
use Rattle.std.specs.Prelude.{◌≡◌, ◌≢◌, ℕ, zero, suc, List, [], ◌∷◌, map, Some, None, slice_get, slice_set}
use Rattle.std.proofs.Common.{refl, subst, arith}
use Rattle.ro_plain.specs.Machine.{Program}
use Rattle.ro_plain.proofs.Calls.{some-injective}
use Rattle.ro_orders.specs.Turns.{Chosen}
use Rattle.ro_orders.specs.Copies.{Copy, IsServed, AllServed, none_left, one_more}
use Rattle.ro_peer.specs.Peers.{Peer}

-- what holds of each peer's number, the peer and its copy
abbrev pub Each : (ℕ → Peer → Copy → Type 0) → List Peer → List Copy → Type 0
Each P [] [] = Unit {0}
Each P [] (copy ∷ copies) = ⊥
Each P (peer ∷ peers) [] = ⊥
Each P (peer ∷ peers) (copy ∷ copies) = P 0 peer copy × Each (λ n. P (suc n)) peers copies

pub each-get : (P : ℕ → Peer → Copy → Type 0) (peers : List Peer) (copies : List Copy) → Each P peers copies → (i : ℕ) (peer : Peer) → slice_get peers i ≡ Some peer → (copy : Copy) × (slice_get copies i ≡ Some copy) × P i peer copy
each-get P [] copies h i peer e = absurd (let f : None ≡ Some peer = e in cc)
each-get P (r ∷ peers) [] h i peer e = absurd h
each-get P (r ∷ peers) (c ∷ copies) h zero peer e = (c, refl, subst (λ (x : Peer). P 0 x c) (some-injective e) h.0)
each-get P (r ∷ peers) (c ∷ copies) h (suc i) peer e = each-get (λ n. P (suc n)) peers copies h.1 i peer e

pub each-back : (P : ℕ → Peer → Copy → Type 0) (peers : List Peer) (copies : List Copy) → Each P peers copies → (i : ℕ) (copy : Copy) → slice_get copies i ≡ Some copy → (peer : Peer) × (slice_get peers i ≡ Some peer) × P i peer copy
each-back P peers [] h i copy e = absurd (let f : None ≡ Some copy = e in cc)
each-back P [] (c ∷ copies) h i copy e = absurd h
each-back P (r ∷ peers) (c ∷ copies) h zero copy e = (r, refl, subst (λ (x : Copy). P 0 r x) (some-injective e) h.0)
each-back P (r ∷ peers) (c ∷ copies) h (suc i) copy e = each-back (λ n. P (suc n)) peers copies h.1 i copy e

-- what follows for each
pub each-so : (P Q : ℕ → Peer → Copy → Type 0) (peers : List Peer) (copies : List Copy) → Each P peers copies → ((n : ℕ) (r : Peer) (c : Copy) → P n r c → Q n r c) → Each Q peers copies
each-so P Q [] [] h f = tt
each-so P Q [] (c ∷ copies) h f = absurd h
each-so P Q (r ∷ peers) [] h f = absurd h
each-so P Q (r ∷ peers) (c ∷ copies) h f = (f 0 r c h.0, each-so (λ n. P (suc n)) (λ n. Q (suc n)) peers copies h.1 (λ n r c p. f (suc n) r c p))

-- one of them changes
pub each-set : (P Q : ℕ → Peer → Copy → Type 0) (peers : List Peer) (copies : List Copy) (i : ℕ) (peer : Peer) (copy : Copy) → Each P peers copies → ((n : ℕ) (r : Peer) (c : Copy) → n ≢ i → P n r c → Q n r c) → Q i peer copy → Each Q (slice_set peers i peer) (slice_set copies i copy)
each-set P Q [] [] i peer copy h f q = tt
each-set P Q [] (c ∷ copies) i peer copy h f q = absurd h
each-set P Q (r ∷ peers) [] i peer copy h f q = absurd h
each-set P Q (r ∷ peers) (c ∷ copies) zero peer copy h f q = (q, each-so (λ n. P (suc n)) (λ n. Q (suc n)) peers copies h.1 (λ n r c p. f (suc n) r c (λ (e : suc n ≡ 0). omega arith) p))
each-set P Q (r ∷ peers) (c ∷ copies) (suc i) peer copy h f q =
    (f 0 r c (λ (e : 0 ≡ suc i). omega arith) h.0, each-set (λ n. P (suc n)) (λ n. Q (suc n)) peers copies i peer copy h.1 (λ n r c d p. f (suc n) r c (λ (e : suc n ≡ suc i). d (omega arith)) p) q)

-- all peers change, and no copy
pub each-map : (P Q : ℕ → Peer → Copy → Type 0) (g : Peer → Peer) (peers : List Peer) (copies : List Copy) → Each P peers copies → ((n : ℕ) (r : Peer) (c : Copy) → slice_get peers n ≡ Some r → slice_get copies n ≡ Some c → P n r c → Q n (g r) c) → Each Q (map g peers) copies
each-map P Q g [] [] h f = tt
each-map P Q g [] (c ∷ copies) h f = absurd h
each-map P Q g (r ∷ peers) [] h f = absurd h
each-map P Q g (r ∷ peers) (c ∷ copies) h f = (f 0 r c refl refl h.0, each-map (λ n. P (suc n)) (λ n. Q (suc n)) g peers copies h.1 (λ n r c e k p. f (suc n) r c e k p))

-- all peers change, and each copy is served
pub record ServedAll (program : Program) (chosen : Chosen) (t : ℕ) (Q : ℕ → Peer → Copy → Type 0) (g : Peer → Peer) (peers : List Peer) (copies : List Copy) : Type 0 where
  pub afters : List Copy
  pub all : AllServed program chosen t copies afters
  pub each : Each Q (map g peers) afters

pub each-served : (program : Program) (chosen : Chosen) (t : ℕ) (P Q : ℕ → Peer → Copy → Type 0) (g : Peer → Peer) (peers : List Peer) (copies : List Copy) → Each P peers copies
    → ((n : ℕ) (r : Peer) (c : Copy) → slice_get peers n ≡ Some r → slice_get copies n ≡ Some c → P n r c → (after : Copy) × IsServed program chosen t c after × Q n (g r) after) → ServedAll program chosen t Q g peers copies
each-served program chosen t P Q g [] [] h f = record { afters = []; all = none_left; each = tt }
each-served program chosen t P Q g [] (c ∷ copies) h f = absurd h
each-served program chosen t P Q g (r ∷ peers) [] h f = absurd h
each-served program chosen t P Q g (r ∷ peers) (c ∷ copies) h f =
    let one = f 0 r c refl refl h.0 in
    let rest = each-served program chosen t (λ n. P (suc n)) (λ n. Q (suc n)) g peers copies h.1 (λ n r c e k p. f (suc n) r c e k p) in
    record { afters = one.0 ∷ rest.afters; all = one_more one.1 rest.all; each = (one.2, rest.each) }
