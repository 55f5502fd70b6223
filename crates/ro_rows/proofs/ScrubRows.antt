-- The ends in the place of a scrub, and what a scrub leaves, by computation.
use Rattle.std.specs.Prelude.{◌≡◌, ℕ, zero, suc, ◌*◌, ◌<◌, ◌≤◌, false, List, [], ◌∷◌, length, Option, Some, None, slice_get}
use Rattle.std.specs.Option.{option_map}
use Rattle.std.proofs.Common.{refl, sym, ap, ◌∙◌, subst, inl, inr, arith}
use Rattle.std.proofs.Math.Dec.{lit<, lit≤}
use Rattle.std.proofs.lemmas.Bool.{false≢true}
use Rattle.ro_decode.specs.Table.{instruction_of}
use Rattle.ro_event.specs.Table.{call_at}
use Rattle.ro_region.specs.Permission.{permits_of}
use Rattle.ro_alu.specs.Results.{alu_of, taken_by}
use Rattle.ro_exec.specs.Meaning.{meaning}
use Rattle.ro_exec.specs.Next.{fetch_stop, instruction_stop, next}
use Rattle.ro_exec.specs.Threads.{first_cpu, made_cpu}
use Rattle.ro_kernel.specs.Serve.{serve, payload_of}
use Rattle.ro_journal.specs.declared.losers.Lost.TheVariants.{Nobody}
use Rattle.ro_journal.specs.declared.How.TheVariants.{Differ, NoMajority, Sink}
use Rattle.ro_journal.specs.declared.Entry.TheVariants.{Scrub, End}
use Rattle.ro_vote.specs.Numbers.{is_among}
use Rattle.ro_vote.specs.Verdict.{Won, Split, verdict_of}
use Rattle.ro_vote.specs.Prevails.{Prevails, NonePrevails}
use Rattle.ro_vote.proofs.Places.{not-only}
use Rattle.ro_replica.specs.Replica.{opening_replica, applied, cancelled, recovered}
use Rattle.ro_replica.specs.Runs.{struck, execute}
use Rattle.ro_replica.specs.Snapshots.{Snapshot}
use Rattle.ro_plain.proofs.Calls.{some-injective}
use Rattle.ro_legal.specs.declared.actions.Action.TheVariants as act
use Rattle.ro_legal.specs.Core.{sharing_of, opening_core, views_of, snapshots_of}
use Rattle.ro_legal.specs.Event.{event_of}
use Rattle.ro_legal.specs.Legal.{IsAllowed, MayEnd, due, alone, for_vote, for_free, for_scrub, after, replay}
use Rattle.ro_legal.specs.Action.{next_action, IsNext}
use Rattle.ro_rows.specs.Rows.{deadlock_job, deadlock_before, hello_job}
use Rattle.ro_rows.specs.Edges.{scrubbing, hello_written, hidden_pair_job, hidden_pair, hidden_three_job, hidden_three, shown_pair_job, shown_pair}
use Rattle.ro_rows.proofs.EdgeRows.{no-end}

-- ---- which of two or three prevail

-- all three are one
three-prevail : {X : Type 0} (xs : List X) → length xs ≡ 3 → slice_get xs 1 ≡ slice_get xs 0 → slice_get xs 2 ≡ slice_get xs 0 → Prevails xs 0 []
three-prevail [] n d e = absurd (let f : 0 ≡ 3 = n in omega arith)
three-prevail (a ∷ []) n d e = absurd (let f : 1 ≡ 3 = n in omega arith)
three-prevail (a ∷ b ∷ []) n d e = absurd (let f : 2 ≡ 3 = n in omega arith)
three-prevail (a ∷ b ∷ c ∷ x ∷ xs) n d e = absurd (let f : suc (suc (suc (suc (length xs)))) ≡ 3 = n in omega arith)
three-prevail (a ∷ b ∷ c ∷ []) n d e = record {
  shown = a;
  there = refl;
  equal = equal;
  others = λ number h. absurd (false≢true h);
  lowest = λ number low. absurd (omega arith);
  rising = tt;
  few = lit< tt;
}
  where
    equal : (number : ℕ) (x : _) → is_among [] number ≡ false → slice_get (a ∷ b ∷ c ∷ []) number ≡ Some x → x ≡ a
    equal zero x h f = sym (some-injective f)
    equal (suc zero) x h f = sym (some-injective f) ∙ some-injective d
    equal (suc (suc zero)) x h f = sym (some-injective f) ∙ some-injective e
    equal (suc (suc (suc number))) x h f = absurd (let g : None ≡ Some x = f in cc)

-- both are one
two-prevail : {X : Type 0} (xs : List X) → length xs ≡ 2 → slice_get xs 1 ≡ slice_get xs 0 → Prevails xs 0 []
two-prevail [] n d = absurd (let f : 0 ≡ 2 = n in omega arith)
two-prevail (a ∷ []) n d = absurd (let f : 1 ≡ 2 = n in omega arith)
two-prevail (a ∷ b ∷ x ∷ xs) n d = absurd (let f : suc (suc (suc (length xs))) ≡ 2 = n in omega arith)
two-prevail (a ∷ b ∷ []) n d = record {
  shown = a;
  there = refl;
  equal = equal;
  others = λ number h. absurd (false≢true h);
  lowest = λ number low. absurd (omega arith);
  rising = tt;
  few = lit< tt;
}
  where
    equal : (number : ℕ) (x : _) → is_among [] number ≡ false → slice_get (a ∷ b ∷ []) number ≡ Some x → x ≡ a
    equal zero x h f = sym (some-injective f)
    equal (suc zero) x h f = sym (some-injective f) ∙ some-injective d
    equal (suc (suc number)) x h f = absurd (let g : None ≡ Some x = f in cc)

-- a byte of one of several snapshots
abbrev byte_of : List Snapshot → (number address : ℕ) → Option ℕ
byte_of xs number address = option_map (λ (s : Snapshot). s.memory address) (slice_get xs number)

byte-there : (o : Option Snapshot) (address m : ℕ) → option_map (λ (s : Snapshot). s.memory address) o ≡ Some m → (s : Snapshot) × (o ≡ Some s) × (s.memory address ≡ m)
byte-there None address m e = absurd (let f : None ≡ Some m = e in cc)
byte-there (Some s) address m e = (s, refl, some-injective e)

-- two of the winners have the same bytes
same-byte : (xs : List Snapshot) (won : ℕ) (lost : List ℕ) → Prevails xs won lost → (i j address m n : ℕ) → is_among lost i ≡ false → is_among lost j ≡ false → byte_of xs i address ≡ Some m → byte_of xs j address ≡ Some n → m ≡ n
same-byte xs won lost p i j address m n out too e f =
    let one = byte-there (slice_get xs i) address m e in
    let other = byte-there (slice_get xs j) address n f in
    sym one.2 ∙ (ap (λ (x : Snapshot). x.memory address) (p.equal i one.0 out one.1 ∙ sym (p.equal j other.0 too other.1)) ∙ other.2)

none-of-two : (xs : List Snapshot) (address m n : ℕ) → length xs ≡ 2 → byte_of xs 0 address ≡ Some m → byte_of xs 1 address ≡ Some n → (m ≡ n → ⊥) → NonePrevails xs
none-of-two xs address m n two e f apart won [] p = apart (same-byte xs won [] p 0 1 address m n refl refl e f)
none-of-two xs address m n two e f apart won (x ∷ rest) p = let g : 2 * suc (length rest) < length xs = p.few in omega arith

-- each two of three have another byte somewhere
none-of-three : (xs : List Snapshot) (a m n b k l r : ℕ) → length xs ≡ 3 → byte_of xs 0 a ≡ Some m → byte_of xs 1 a ≡ Some n → (m ≡ n → ⊥) → byte_of xs 0 b ≡ Some k → byte_of xs 1 b ≡ Some l → byte_of xs 2 b ≡ Some r → (k ≡ r → ⊥) → (l ≡ r → ⊥) → NonePrevails xs
none-of-three xs a m n b k l r three e f d g h i s t won [] p = d (same-byte xs won [] p 0 1 a m n refl refl e f)
none-of-three xs a m n b k l r three e f d g h i s t won (zero ∷ []) p = t (same-byte xs won (0 ∷ []) p 1 2 b l r refl refl h i)
none-of-three xs a m n b k l r three e f d g h i s t won (suc zero ∷ []) p = s (same-byte xs won (1 ∷ []) p 0 2 b k r refl refl g i)
none-of-three xs a m n b k l r three e f d g h i s t won (suc (suc x) ∷ []) p =
    d (same-byte xs won (suc (suc x) ∷ []) p 0 1 a m n (not-only (suc (suc x)) 0 (λ o. omega arith)) (not-only (suc (suc x)) 1 (λ o. omega arith)) e f)
none-of-three xs a m n b k l r three e f d g h i s t won (x ∷ y ∷ rest) p = let o : 2 * suc (suc (length rest)) < length xs = p.few in omega arith

-- a vote is of one thread
vote-of : (thread : ℕ) → act.Vote 0 ≡ act.Vote thread → 0 ≡ thread
vote-of thread e = cc

-- ---- scrub_row

pub scrub-steps : (replay deadlock_job deadlock_before).steps ≡ 16
unfolding opening_core sharing_of opening_replica struck execute applied cancelled recovered verdict_of event_of after next_action first_cpu made_cpu next fetch_stop instruction_stop instruction_of call_at permits_of alu_of taken_by meaning serve payload_of
scrub-steps = refl

pub scrub-none-yet : (replay deadlock_job deadlock_before).scrubbed ≡ 0
unfolding opening_core sharing_of opening_replica struck execute applied cancelled recovered verdict_of event_of after next_action first_cpu made_cpu next fetch_stop instruction_stop instruction_of call_at permits_of alu_of taken_by meaning serve payload_of
scrub-none-yet = refl

pub scrub-noted : (after deadlock_job (replay deadlock_job deadlock_before) (Scrub 0 Nobody)).scrubbed ≡ 16
unfolding opening_core sharing_of opening_replica struck execute applied cancelled recovered verdict_of event_of after next_action first_cpu made_cpu next fetch_stop instruction_stop instruction_of call_at permits_of alu_of taken_by meaning serve payload_of
scrub-noted = refl

pub scrub-may : IsAllowed deadlock_job (replay deadlock_job deadlock_before) (Scrub 0 Nobody)
unfolding opening_core sharing_of opening_replica struck execute applied cancelled recovered verdict_of event_of after next_action first_cpu made_cpu next fetch_stop instruction_stop instruction_of call_at permits_of alu_of taken_by meaning serve payload_of
scrub-may = record { may = refl; prevails = three-prevail (snapshots_of (replay deadlock_job deadlock_before)) refl refl refl }

pub scrub-no-sink : IsAllowed deadlock_job (after deadlock_job (replay deadlock_job deadlock_before) (Scrub 0 Nobody)) (End (Sink 0)) → ⊥
unfolding opening_core sharing_of opening_replica struck execute applied cancelled recovered verdict_of event_of after next_action first_cpu made_cpu next fetch_stop instruction_stop instruction_of call_at permits_of alu_of taken_by meaning serve payload_of
scrub-no-sink h = no-end deadlock_job (after deadlock_job (replay deadlock_job deadlock_before) (Scrub 0 Nobody)) (Sink 0) refl (λ e. let f : 0 < 0 = e.1 in omega arith) (λ thread e. e) (λ e. e) (λ e. e) h.1

pub scrub-no-sink-behind : IsAllowed hello_job (after hello_job (replay hello_job hello_written) (Scrub 0 Nobody)) (End (Sink 0)) → ⊥
unfolding opening_core sharing_of opening_replica struck execute applied cancelled recovered verdict_of event_of after next_action first_cpu made_cpu next fetch_stop instruction_stop instruction_of call_at permits_of alu_of taken_by meaning serve payload_of
scrub-no-sink-behind h = no-end hello_job (after hello_job (replay hello_job hello_written) (Scrub 0 Nobody)) (Sink 0) refl (λ e. let f : 0 < 0 = e.1 in omega arith) (λ thread e. e) (λ e. e) (λ e. e) h.1

pub scrub-alike : IsAllowed deadlock_job (replay deadlock_job deadlock_before) (End NoMajority) → ⊥
unfolding opening_core sharing_of opening_replica struck execute applied cancelled recovered verdict_of event_of after next_action first_cpu made_cpu next fetch_stop instruction_stop instruction_of call_at permits_of alu_of taken_by meaning serve payload_of
scrub-alike h = by h.1
  where
    by : MayEnd deadlock_job (replay deadlock_job deadlock_before) NoMajority → ⊥
    by (due e) = absurd (let f : None ≡ Some NoMajority = e in cc)
    by (alone e) = e
    by (for_vote zero may e) = false≢true may
    by (for_vote (suc zero) may e) = false≢true may
    by (for_vote (suc (suc thread)) may e) = false≢true may
    by (for_free thread may e) = e
    by (for_scrub may e) = e.0 0 [] (three-prevail (snapshots_of (replay deadlock_job deadlock_before)) refl refl refl)

pub scrub-alike-two : IsAllowed shown_pair_job (replay shown_pair_job shown_pair) (End Differ) → ⊥
unfolding opening_core sharing_of opening_replica struck execute applied cancelled recovered verdict_of event_of after next_action first_cpu made_cpu next fetch_stop instruction_stop instruction_of call_at permits_of alu_of taken_by meaning serve payload_of
scrub-alike-two h = by h.1
  where
    by : MayEnd shown_pair_job (replay shown_pair_job shown_pair) Differ → ⊥
    by (due e) = absurd (let f : None ≡ Some Differ = e in cc)
    by (alone e) = e
    by (for_vote zero may e) = absurd (let f : Won 0 [] ≡ Split = e.0 in cc)
    by (for_vote (suc thread) may e) = false≢true may
    by (for_free thread may e) = e
    by (for_scrub may e) = e.0 0 [] (two-prevail (snapshots_of (replay shown_pair_job shown_pair)) refl refl)

pub scrub-two : IsAllowed hidden_pair_job (replay hidden_pair_job hidden_pair) (End Differ)
unfolding opening_core sharing_of opening_replica struck execute applied cancelled recovered verdict_of event_of after next_action first_cpu made_cpu next fetch_stop instruction_stop instruction_of call_at permits_of alu_of taken_by meaning serve payload_of
scrub-two = (refl, for_scrub refl (none-of-two (snapshots_of (replay hidden_pair_job hidden_pair)) 0x10078 104 105 refl refl refl (λ (e : 104 ≡ 105). omega arith), refl))

pub scrub-two-majority : IsAllowed hidden_pair_job (replay hidden_pair_job hidden_pair) (End NoMajority) → ⊥
unfolding opening_core sharing_of opening_replica struck execute applied cancelled recovered verdict_of event_of after next_action first_cpu made_cpu next fetch_stop instruction_stop instruction_of call_at permits_of alu_of taken_by meaning serve payload_of
scrub-two-majority h = no-end hidden_pair_job (replay hidden_pair_job hidden_pair) NoMajority refl (λ e. e) (λ thread e. let f : 3 ≤ 2 = e.1 in omega arith) (λ e. e) (λ e. let f : 3 ≤ 2 = e.1 in omega arith) h.1

pub scrub-three : IsAllowed hidden_three_job (replay hidden_three_job hidden_three) (End NoMajority)
unfolding opening_core sharing_of opening_replica struck execute applied cancelled recovered verdict_of event_of after next_action first_cpu made_cpu next fetch_stop instruction_stop instruction_of call_at permits_of alu_of taken_by meaning serve payload_of
scrub-three = (refl, for_scrub refl (none-of-three (snapshots_of (replay hidden_three_job hidden_three)) 0x10078 104 105 0x10079 101 101 100 refl refl refl (λ (e : 104 ≡ 105). omega arith) refl refl refl (λ (e : 101 ≡ 100). omega arith) (λ (e : 101 ≡ 100). omega arith), lit≤ tt))

pub scrub-three-differ : IsAllowed hidden_three_job (replay hidden_three_job hidden_three) (End Differ) → ⊥
unfolding opening_core sharing_of opening_replica struck execute applied cancelled recovered verdict_of event_of after next_action first_cpu made_cpu next fetch_stop instruction_stop instruction_of call_at permits_of alu_of taken_by meaning serve payload_of
scrub-three-differ h = no-end hidden_three_job (replay hidden_three_job hidden_three) Differ refl (λ e. e) (λ thread e. let f : 3 ≡ 2 = e.1 in omega arith) (λ e. e) (λ e. let f : 3 ≡ 2 = e.1 in omega arith) h.1

pub scrub-next : IsNext (scrubbing 1 hidden_pair_job) (replay hidden_pair_job hidden_pair) (End Differ)
unfolding opening_core sharing_of opening_replica struck execute applied cancelled recovered verdict_of event_of after next_action first_cpu made_cpu next fetch_stop instruction_stop instruction_of call_at permits_of alu_of taken_by meaning serve payload_of
scrub-next = inr (inr (inr (inr (refl, (none-of-two (snapshots_of (replay hidden_pair_job hidden_pair)) 0x10078 104 105 refl refl refl (λ (e : 104 ≡ 105). omega arith), refl)))))

pub scrub-next-three : IsNext (scrubbing 1 hidden_three_job) (replay hidden_three_job hidden_three) (End NoMajority)
unfolding opening_core sharing_of opening_replica struck execute applied cancelled recovered verdict_of event_of after next_action first_cpu made_cpu next fetch_stop instruction_stop instruction_of call_at permits_of alu_of taken_by meaning serve payload_of
scrub-next-three = inr (inr (inr (inr (refl, (none-of-three (snapshots_of (replay hidden_three_job hidden_three)) 0x10078 104 105 0x10079 101 101 100 refl refl refl (λ (e : 104 ≡ 105). omega arith) refl refl refl (λ (e : 101 ≡ 100). omega arith) (λ (e : 101 ≡ 100). omega arith), lit≤ tt)))))

pub scrub-vote : next_action hidden_pair_job (replay hidden_pair_job hidden_pair) ≡ act.Vote 0
unfolding opening_core sharing_of opening_replica struck execute applied cancelled recovered verdict_of event_of after next_action first_cpu made_cpu next fetch_stop instruction_stop instruction_of call_at permits_of alu_of taken_by meaning serve payload_of
scrub-vote = refl

pub scrub-not-next : IsNext hidden_pair_job (replay hidden_pair_job hidden_pair) (End Differ) → ⊥
unfolding opening_core sharing_of opening_replica struck execute applied cancelled recovered verdict_of event_of after next_action first_cpu made_cpu next fetch_stop instruction_stop instruction_of call_at permits_of alu_of taken_by meaning serve payload_of
scrub-not-next h = elim h [
  | inl next ↦ (let f : act.Vote 0 ≡ act.End Differ = next in cc)
  | inr (inl sink) ↦ sink
  | inr (inr (inl vote)) ↦ (let f : Won 0 [] ≡ Split = subst (λ (t : ℕ). verdict_of (views_of hidden_pair_job (replay hidden_pair_job hidden_pair) t) ≡ Split) (sym (vote-of vote.0 vote.1)) vote.2.0 in cc)
  | inr (inr (inr (inl free))) ↦ free.2
  | inr (inr (inr (inr scrub))) ↦ (let f : act.Vote 0 ≡ act.Scrub = scrub.0 in cc)
]
