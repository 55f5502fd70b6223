-- What a replica is at the opening.
use Rattle.std.specs.Prelude.{◌≡◌, ℕ, ◌+◌, ◌<◌, ◌≤◌, ◌||◌, Bool, List, [], ◌∷◌, length, drop}
use Rattle.std.specs.Prelude.{◌==◌, ◌/◌, ◌%◌, true, false, None, is_some}
use Rattle.std.specs.Ordering.{nat_cmp}
use Rattle.std.specs.FinMap as map
use Rattle.std.specs.FinMap.{FinMap, gets}
use Rattle.std.proofs.Common.{refl, subst, sym, ap, ◌∙◌, arith, get_or}
use Rattle.std.proofs.lemmas.List.Elements.{All-nil, All-cons, All-same, All-filter}
use Rattle.std.proofs.lemmas.List.Sums.{length-filter, count_by-le-length}
use mathlib.Core.Path.{fun_ext}
use Rattle.std.specs.List.{All, filter}
use Rattle.std.proofs.lemmas.List.{drop_more, drop_all, get_or-map, length-map}
use Rattle.ro_faults.specs.declared.Fault.{Fault}
use Rattle.ro_pages.specs.Bytes.{Memory, covers_page, stored}
use Rattle.ro_faults.specs.Texts.{is_target}
use Rattle.ro_pages.specs.Held.{byte_in, memory_of as memory_in, has_page}
use Rattle.ro_exec.specs.Threads.{first_cpu}
use Rattle.ro_thread.specs.declared.Thread.{Thread}
use Rattle.ro_image.specs.Image.{Piece, Image, LiesLow, memory_of, holds_file_byte}
use Rattle.ro_image.specs.Pieces.{piece_of, pieces_in}
use Rattle.ro_image.specs.declared.pieces.FilePiece.{FilePiece}
use Rattle.ro_replica.specs.Replica.{opening_replica, unstopped}
use Rattle.ro_replica.specs.Seen.{ReplicaOf, SameProgram, AreFaults, AreTwins, IsReplica, IsOpening, first_layout}

split : (pieces : List FilePiece) (i : ℕ) (p d : FilePiece) → i < length pieces → p ≡ get_or pieces i d → drop i (pieces_in pieces) ≡ piece_of p ∷ drop (i + 1) (pieces_in pieces)
split pieces i p d l e =
    drop_more (pieces_in pieces) i (piece_of d) (let long = length-map pieces piece_of in omega (arith, long))
    ∙ ap (λ q. q ∷ drop (i + 1) (pieces_in pieces)) (get_or-map piece_of pieces i d (piece_of d) l ∙ ap piece_of (sym e))

swapped : (b c : Bool) → (b || c) ≡ (c || b)
swapped true true = refl
swapped true false = refl
swapped false true = refl
swapped false false = refl

-- one piece more is stored
pub memory_more : (pieces : List FilePiece) (i : ℕ) (p d : FilePiece) (old new : Memory) → i < length pieces → p ≡ get_or pieces i d → old ≡ memory_of (drop (i + 1) (pieces_in pieces)) → new ≡ stored old p.place p.bytes.items → new ≡ memory_of (drop i (pieces_in pieces))
memory_more pieces i p d old new l e h f = f ∙ ap (λ m. stored m p.place p.bytes.items) h ∙ ap memory_of (sym (split pieces i p d l e))

-- whether a piece or one behind it has a byte in a page
pub backed_more : (pieces : List FilePiece) (i : ℕ) (p d : FilePiece) (old new : ℕ → Bool) → i < length pieces → p ≡ get_or pieces i d → old ≡ holds_file_byte (drop (i + 1) (pieces_in pieces)) → new ≡ (λ page. old page || covers_page (record { place = p.place; count = length p.bytes.items }) page) → new ≡ holds_file_byte (drop i (pieces_in pieces))
backed_more pieces i p d old new l e h f =
    f ∙ fun_ext (λ page. swapped (old page) _ ∙ ap (λ b. covers_page (record { place = p.place; count = length p.bytes.items }) page || b) (ap (λ g. g page) h))
    ∙ ap holds_file_byte (sym (split pieces i p d l e))

-- behind the last piece there is none
pub no_pieces : (pieces : List FilePiece) (i : ℕ) → length pieces ≤ i → drop i (pieces_in pieces) ≡ []
no_pieces pieces i h = drop_all i (pieces_in pieces) (let long = length-map pieces piece_of in omega (arith, long))

none_at : (m : FinMap nat_cmp (List ℕ)) (page : ℕ) → m ≡ map.empty → map.get m page ≡ None
none_at m page e = grind (arith, gets)

-- the memory with no page backed
pub empty_memory : (m : FinMap nat_cmp (List ℕ)) (pieces : List Piece) → m ≡ map.empty → pieces ≡ [] → memory_in m ≡ memory_of pieces
empty_memory m pieces e none = fun_ext (λ a. ap (λ o. byte_in o (a % 4096)) (none_at m (a / 4096) e)) ∙ ap memory_of (sym none)

pub empty_backing : (m : FinMap nat_cmp (List ℕ)) (pieces : List Piece) → m ≡ map.empty → pieces ≡ [] → has_page m ≡ holds_file_byte pieces
empty_backing m pieces e none = fun_ext (λ page. ap is_some (none_at m page e)) ∙ ap holds_file_byte (sym none)

-- each piece lies low
pub low_at : (pieces : List FilePiece) (i : ℕ) (p d : FilePiece) → i < length pieces → p ≡ get_or pieces i d → All LiesLow (pieces_in pieces) → LiesLow (piece_of p)
low_at pieces i p d l e h =
    let at : LiesLow (get_or (pieces_in pieces) i (piece_of d)) = h i (piece_of d) (let long = length-map pieces piece_of in omega (arith, long)) in
    subst LiesLow (get_or-map piece_of pieces i d (piece_of d) l ∙ ap piece_of (sym e)) at

-- the faults of one replica are such faults
pub own_faults : (faults own : List Fault) (test : Fault → Bool) → own ≡ filter test faults → AreFaults faults → AreFaults own
own_faults faults own test e h =
    let count : length own ≤ length faults = omega (arith, length-filter test faults, count_by-le-length test faults, ap length e) in
    record { few = omega (arith, h.few); each = All-same (λ f. is_target f.target ≡ true) own (filter test faults) e (All-filter test (λ f. is_target f.target ≡ true) faults h.each) }

-- one thread that has not run
pub first_holds : (watchdog places : ℕ) (thread : Thread) (threads : List Thread) (waiting : List Fault) → thread.since ≡ 0 → threads ≡ thread ∷ [] → 16 ≤ places → AreFaults waiting → IsReplica watchdog threads places waiting
first_holds watchdog places thread threads waiting zero e room faults =
    let one : length threads ≡ 1 = ap length e in
    record {
      first = omega arith;
      few = omega arith;
      room = room;
      watched = All-same (λ t. t.since ≤ watchdog) threads (thread ∷ []) e (All-cons (λ t. t.since ≤ watchdog) thread [] (omega arith) (All-nil (λ t. t.since ≤ watchdog)));
      faults = faults;
    }

-- a replica of such parts stands at the opening
pub opens : (image : Image) (number : ℕ) (faults : List Fault) (watchdog : ℕ) (value : ReplicaOf) → value.layout ≡ first_layout image → value.given ≡ [] → value.watchdog ≡ watchdog → memory_in value.held.pages ≡ memory_of image.pieces → has_page value.held.pages ≡ holds_file_byte image.pieces
    → value.threads ≡ unstopped (first_cpu image.entry) ∷ [] → value.waiting ≡ filter (λ fault. fault.replica == number) faults → IsOpening image number faults watchdog value
unfolding opening_replica
opens image number faults watchdog value layout given watchdog_is memory backed threads waiting =
    record { layout = layout; given = given; watchdog_is = watchdog_is; opening = λ i. record { memory = memory i; backed = backed i; threads = threads i; waiting = waiting i } }

-- two replicas at the opening of one program are twins
pub twins : (image : Image) (faults : List Fault) (i j watchdog : ℕ) (one other : ReplicaOf) → IsOpening image i faults watchdog one → IsOpening image j faults watchdog other → AreTwins one other
unfolding opening_replica
twins image faults i j watchdog one other h k = record {
  program = record { layout = h.layout ∙ sym k.layout; given = h.given ∙ sym k.given; watchdog = h.watchdog_is ∙ sym k.watchdog_is };
  pages = λ page. ap (λ r. r.backed page) h.opening ∙ sym (ap (λ r. r.backed page) k.opening);
  threads = ap (λ r. length r.threads) h.opening ∙ sym (ap (λ r. length r.threads) k.opening);
}

-- and stay so while neither backs a page or makes a thread
pub twins_stay : (one other one_too other_too : ReplicaOf) → AreTwins one other → SameProgram one_too one → SameProgram other_too other → one_too.held ≡ one.held → other_too.held ≡ other.held → length one_too.threads ≡ length one.threads → length other_too.threads ≡ length other.threads → AreTwins one_too other_too
twins_stay one other one_too other_too h p q held held_too long long_too = record {
  program = record { layout = p.layout ∙ h.program.layout ∙ sym q.layout; given = p.given ∙ h.program.given ∙ sym q.given; watchdog = p.watchdog ∙ h.program.watchdog ∙ sym q.watchdog };
  pages = λ page. ap (λ v. has_page v.pages page) held ∙ h.pages page ∙ sym (ap (λ v. has_page v.pages page) held_too);
  threads = long ∙ h.threads ∙ sym long_too;
}
