-- A memory of pages that stand at places: what stands there is read, and another page is put there.
use Rattle.std.specs.Prelude.{◌≡◌, ℕ, ◌/◌, ◌%◌, ◌<◌, ◌≤◌, true, false, List, [], ◌∷◌, ◌++◌, length, Some, None}
use Rattle.std.specs.List.{slice_get}
use Rattle.std.proofs.Common.{sym, ap, ap₂, ◌∙◌, subst, arith, get_or, set}
use Rattle.std.specs.FinMap as map
use Rattle.ro_pages.specs.Bytes.{IsSize, number_at, bytes_of, stored}
use Rattle.ro_pages.specs.Directories.{IsEntry, is_listed}
use Rattle.ro_pages.specs.Held.{Held, pages_of, has_page, memory_of}
use Rattle.ro_pages.specs.Words.{byte_in_words, bytes_in, after_store}
use Rattle.ro_pages.proofs.Entries.{listed_at}
use Rattle.ro_pages.proofs.PageBytes.{number_in_words, aligned_within, stored_in_page, pages_after}
use Rattle.ro_pages.proofs.Places.{has_listed, pages_of_push, stands, read_at, unread, written_at}
use Rattle.ro_pages.proofs.Shorts.{unlisted_before, one_less}

-- the memory has these pages, each by the number at its place
pub record Shows {X : Type 0} (bytes : X → List ℕ) (held : Held) (numbers : List ℕ) (backed : List X) : Type 0 where
  pub pages : pages_of bytes numbers backed ≡ held.pages
  pub listed : numbers ≡ held.numbers
  pub long : length numbers ≡ length backed

pub shown : {X : Type 0} (bytes : X → List ℕ) (held : Held) (numbers : List ℕ) (backed : List X) (spare : ℕ) → record { pages = pages_of bytes numbers backed; spare = spare; numbers = numbers } ≡ held → length numbers ≡ length backed → Shows bytes held numbers backed
shown bytes held numbers backed spare is long = record { pages = ap (λ (h : Held). h.pages) is; listed = ap (λ (h : Held). h.numbers) is; long = long }

-- without its last page it has not got that page, and has all others
pub record IsPopped {X : Type 0} (bytes : X → List ℕ) (held : Held) (fewer : List ℕ) (rest : List X) (page : ℕ) (x : X) : Type 0 where
  pub pages : held.pages ≡ map.insert (pages_of bytes fewer rest) page (bytes x)
  pub gone : has_page (pages_of bytes fewer rest) page ≡ false

module _ {X : Type 0} {bytes : X → List ℕ} {held : Held} {numbers : List ℕ} {backed : List X} (is : Shows bytes held numbers backed) where
  -- the pages that it has are listed
  pub listed-is : (page : ℕ) → is_listed numbers page ≡ has_page held.pages page
  listed-is page = sym (has_listed bytes numbers backed page is.long) ∙ ap (λ m. has_page m page) is.pages

  -- one more, behind the others
  pub pushed : (page : ℕ) (x : X) → has_page held.pages page ≡ false → pages_of bytes (numbers ++ page ∷ []) (backed ++ x ∷ []) ≡ map.insert held.pages page (bytes x)
  pushed page x new = pages_of_push bytes numbers backed page x is.long (listed-is page ∙ new) ∙ ap (λ m. map.insert m page (bytes x)) is.pages

  -- the last one is taken away
  pub popped : (fewer : List ℕ) (rest : List X) (page : ℕ) (x : X) → numbers ≡ fewer ++ page ∷ [] → backed ≡ rest ++ x ∷ [] → IsEntry numbers page (length fewer) → IsPopped bytes held fewer rest page x
  popped fewer rest page x last own entry =
      let unlisted : is_listed fewer page ≡ false = unlisted_before fewer page (subst (λ ns. IsEntry ns page (length fewer)) last entry) in
      let long : length fewer ≡ length rest = one_less numbers fewer backed rest page x last own is.long in
      record {
        pages = sym is.pages ∙ ap₂ (pages_of bytes) last own ∙ pages_of_push bytes fewer rest page x long unlisted;
        gone = has_listed bytes fewer rest page long ∙ unlisted;
      }

  -- a page that is kept at a place is listed there
  pub kept-listed : (place page : ℕ) → slice_get held.numbers place ≡ Some page → slice_get numbers place ≡ Some page
  kept-listed place page kept = ap (λ ns. slice_get ns place) is.listed ∙ kept

  -- and so it is one that the memory has
  pub kept-there : (place page : ℕ) → slice_get held.numbers place ≡ Some page → has_page held.pages page ≡ true
  kept-there place page kept = sym (listed-is page) ∙ listed_at numbers place page (kept-listed place page kept)

  -- where the entry of a page is no place, the memory hasn't got it
  pub absent-at : (page place : ℕ) → IsEntry numbers page place → length backed ≤ place → map.get held.pages page ≡ None
  absent-at page place entry past = unread bytes held.pages numbers backed page place is.pages is.long entry past

  -- where it is one, the page has the bytes of what stands there
  pub bytes-at : (page place : ℕ) (x : X) (content : List ℕ) → IsEntry numbers page place → place < length backed → x ≡ get_or backed place x → content ≡ bytes x → map.get held.pages page ≡ Some content
  bytes-at page place x content entry inside at has = read_at bytes held.pages numbers backed page place x is.pages is.long entry inside at ∙ ap Some (sym has)

  module _ (page place : ℕ) (entry : IsEntry numbers page place) (there : has_page held.pages page ≡ true) where
    -- a page that it has stands at its entry
    pub inside : place < length backed
    inside = stands bytes held.pages numbers backed page place is.pages is.long entry there

    pub listed-at : slice_get numbers place ≡ Some page
    listed-at = entry.found (omega (arith, is.long, inside))

    -- with the bytes of what stands there
    pub read : (x : X) (content : List ℕ) → x ≡ get_or backed place x → content ≡ bytes x → map.get held.pages page ≡ Some content
    read x content at has = bytes-at page place x content entry inside at has

    -- another page is put there
    pub written : (y : X) → pages_of bytes numbers (set backed place y) ≡ map.insert held.pages page (bytes y)
    written y = written_at bytes held.pages numbers backed page place y is.pages is.long entry inside

    pub has-written : (y : X) → has_page (pages_of bytes numbers (set backed place y)) ≡ has_page held.pages
    has-written y = ap has_page (written y) ∙ pages_after held.pages page (bytes y) there

  module _ (a n place : ℕ) (x : X) (words : List ℕ) (entry : IsEntry numbers (a / 4096) place) (there : has_page held.pages (a / 4096) ≡ true) (size : IsSize n) (aligned : a % n ≡ 0) (at : x ≡ get_or backed place x) (has : bytes_in words ≡ bytes x) where
    got : map.get held.pages (a / 4096) ≡ Some (bytes_in words)
    got = read (a / 4096) place entry there x (bytes_in words) at has

    -- a number is that of the page's words
    pub number-read : number_at (byte_in_words words) (a % 4096) n ≡ number_at (memory_of held.pages) a n
    number-read = sym (number_in_words held.pages words a n got (aligned_within a n size aligned).0)

    -- a number that is stored in the page's words is stored in the memory
    pub number-stored : (y : X) (new : List ℕ) (value : ℕ) → bytes y ≡ bytes_in new → ((i : ℕ) → byte_in_words new i ≡ after_store (byte_in_words words) (a % 4096) n value i) → memory_of (pages_of bytes numbers (set backed place y)) ≡ stored (memory_of held.pages) a (bytes_of n value)
    number-stored y new value is_new stores =
        ap memory_of (written (a / 4096) place entry there y ∙ ap (map.insert held.pages (a / 4096)) is_new)
        ∙ stored_in_page held.pages words new a n value got size aligned stores
