-- A mutex is got once more: its list is longer by one thread, and that thread stands in the ring.
use Rattle.std.specs.Prelude.{◌≡◌, ◌≢◌, ℕ, ◌+◌, ◌-◌, ◌*◌, ◌%◌, ◌<◌, ◌≤◌, List, [], ◌∷◌, ◌++◌, length, map, replicate, slice_index, slice_set}
use Rattle.std.proofs.Common.{sym, ap, ◌∙◌, subst, inl, inr, arith}
use Rattle.std.proofs.lemmas.Bool.{cases_eq}
use Rattle.std.proofs.lemmas.List.{append_assoc, get_or-set_same, get_or-set_other, get_or_append_left, get_or_push, get_or-map, length-map, length_push, map-set, replicate_more, set-set}
use Rattle.ro_takers.specs.Recalls.{Taken, StandIn, Recalls, list_of, place_of}

-- how often a mutex was got is how long its list is
pub rank_is : (lists : List (List ℕ)) (takers : Taken) (number : ℕ) → Recalls lists takers → number < length takers.ranks → (number < length lists) × (slice_index takers.ranks number ≡ length (list_of lists number))
rank_is lists takers number recalls within =
    let many : length takers.ranks ≡ length lists = ap length recalls.ranks ∙ length-map lists length in
    let inside : number < length lists = omega arith in
    (inside, ap (λ ranks. slice_index ranks number) recalls.ranks ∙ get_or-map length lists number [] 0 inside)

-- two ranks of a mutex that are less than 1,024 apart have two places, and so have two ranks of two mutexes
other_rank : (number rank at : ℕ) → at < rank → rank < at + 1024 → place_of number at ≢ place_of number rank
other_rank number rank at before near same = let left : at % 1024 ≡ rank % 1024 = omega arith in omega arith

other_mutex : (number rank other at : ℕ) → other ≢ number → place_of other at ≢ place_of number rank
other_mutex number rank other at different same = different (omega arith)

-- one more thread of a mutex stands at its place, beside the others
more_here : (rings list : List ℕ) (number thread : ℕ) → place_of number (length list) < length rings → StandIn rings number list
    → StandIn (slice_set rings (place_of number (length list)) thread) number (list ++ thread ∷ [])
more_here rings list number thread inside stand rank got recent = elim (cases_eq rank (length list)) [
  | inl same ↦
      ap (λ n. slice_index (slice_set rings place thread) (place_of number n)) same
      ∙ get_or-set_same rings place thread 0 inside
      ∙ sym (get_or_push list thread 0 rank (sym same))
  | inr different ↦
      let before : rank < length list = omega (arith, long) in
      let near : length list < rank + 1024 = omega (arith, long) in
      get_or-set_other rings place (place_of number rank) thread 0 (other_rank number (length list) rank before near)
      ∙ stand rank before (omega arith)
      ∙ sym (get_or_append_left list (thread ∷ []) 0 rank before)
]
  where
    place : ℕ
    place = place_of number (length list)

    long : length (list ++ thread ∷ []) ≡ length list + 1
    long = length_push list thread

-- and those of another mutex stand there still
same_there : (rings list : List ℕ) (number rank other thread : ℕ) → other ≢ number → StandIn rings other list → StandIn (slice_set rings (place_of number rank) thread) other list
same_there rings list number rank other thread different stand at got recent =
    get_or-set_other rings (place_of number rank) (place_of other at) thread 0 (other_mutex number rank other at different) ∙ stand at got recent

-- a mutex was got once more
pub noted : (lists : List (List ℕ)) (takers : Taken) (number rank place thread : ℕ) → Recalls lists takers → number < length takers.ranks → length takers.rings ≡ length takers.ranks * 1024
    → rank ≡ slice_index takers.ranks number → place ≡ place_of number rank
    → Recalls (slice_set lists number (list_of lists number ++ thread ∷ [])) (record { ranks = slice_set takers.ranks number (rank + 1); rings = slice_set takers.rings place thread; room = takers.room })
noted lists takers number rank place thread recalls within whole rank_read place_is = record {
  ranks = ap (λ ranks. slice_set ranks number (rank + 1)) recalls.ranks
      ∙ ap (slice_set (map length lists) number) (ap (λ n. n + 1) long ∙ sym (length_push list thread))
      ∙ sym (map-set length lists number more);
  last = λ other. elim (cases_eq other number) [
    | inl same ↦ subst (λ n. StandIn rings n (list_of lists_then n)) (sym same) (subst (StandIn rings number) (sym (get_or-set_same lists number more [] inside)) here)
    | inr different ↦ subst (StandIn rings other) (sym (get_or-set_other lists number other more [] different)) (there other different)
  ];
}
  where
    list : List ℕ
    list = list_of lists number

    more : List ℕ
    more = list ++ thread ∷ []

    lists_then : List (List ℕ)
    lists_then = slice_set lists number more

    rings : List ℕ
    rings = slice_set takers.rings place thread

    inside : number < length lists
    inside = let its = rank_is lists takers number recalls within in its.0

    long : rank ≡ length list
    long = let its = rank_is lists takers number recalls within in rank_read ∙ its.1

    here : StandIn rings number more
    here =
        subst (λ n. StandIn (slice_set takers.rings n thread) number more) (sym (place_is ∙ ap (place_of number) long))
        (more_here takers.rings list number thread (omega arith) (recalls.last number))

    there : (other : ℕ) → other ≢ number → StandIn rings other (list_of lists other)
    there other different =
        subst (λ n. StandIn (slice_set takers.rings n thread) other (list_of lists other)) (sym place_is)
        (same_there takers.rings (list_of lists other) number rank other thread different (recalls.last other))

-- a mutex was got up to a rank, and then once more
pub noted_more : (lists : List (List ℕ)) (old takers new : Taken) (number rank thread : ℕ) → Recalls lists old → number < length old.ranks → slice_index old.ranks number ≤ rank
    → Recalls (slice_set lists number (list_of lists number ++ replicate (rank - length (list_of lists number)) thread)) takers
    → ((then : List (List ℕ)) → Recalls then takers → Recalls (slice_set then number (list_of then number ++ thread ∷ [])) new)
    → Recalls (slice_set lists number (list_of lists number ++ replicate (rank + 1 - length (list_of lists number)) thread)) new
noted_more lists old takers new number rank thread recalls within above so_far once = subst (λ all. Recalls all new) same (once then so_far)
  where
    list : List ℕ
    list = list_of lists number

    then : List (List ℕ)
    then = slice_set lists number (list ++ replicate (rank - length list) thread)

    its : (number < length lists) × (slice_index old.ranks number ≡ length list)
    its = rank_is lists old number recalls within

    one : list_of then number ++ thread ∷ [] ≡ list ++ replicate (rank + 1 - length list) thread
    one =
        ap (λ xs. xs ++ thread ∷ []) (get_or-set_same lists number (list ++ replicate (rank - length list) thread) [] its.0)
        ∙ append_assoc list (replicate (rank - length list) thread) (thread ∷ [])
        ∙ ap (λ xs. list ++ xs) (replicate_more (rank - length list) thread)
        ∙ ap (λ n. list ++ replicate n thread) (let short = its.1 in omega arith)

    same : slice_set then number (list_of then number ++ thread ∷ []) ≡ slice_set lists number (list ++ replicate (rank + 1 - length list) thread)
    same = set-set lists number (list ++ replicate (rank - length list) thread) (list_of then number ++ thread ∷ []) ∙ ap (slice_set lists number) one
