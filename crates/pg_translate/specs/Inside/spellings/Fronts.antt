-- The fronts of spellings, and the index by their codes.
use Rattle.std.specs.Prelude.{◌≡◌, ℕ, ◌+◌, ◌-◌, ◌*◌, ◌<◌, ◌≤◌, ◌==◌, nat_eq, nat_lt, true, false, if◌then◌else◌, List, [], ◌∷◌, length, map, fold, slice_get, slice_index_or, Option, None, Some}
use Rattle.std.specs.List.{list_all, starts_with}
use Rattle.std.specs.Option.{option_or}
use Rattle.std.specs.HashMap.{get}
use Rattle.pg_translate.specs.declared.index.Front.{Front}
use Rattle.pg_translate.specs.declared.index.Front.TheVariants.{Inside, Whole}
use Rattle.pg_translate.specs.declared.index.Index.{Index}
use Rattle.pg_translate.specs.declared.index.Spelling.{Spelling}
use Rattle.pg_translate.specs.declared.spellings.TheConstants.{SPELLING_MAX}
use Rattle.pg_translate.specs.Inside.spellings.FirstSpellings.{letters_in, first_of}
use Rattle.pg_translate.specs.Spellings.{clash}
use Rattle.pg_translate.specs.Inside.spellings.Members.{IsAmong}
use Rattle.pg_translate.specs.Inside.spellings.Texts.{text_of}

-- a spelling with its sign
abbrev pub pair_of : Spelling → ℕ × List ℕ
pair_of spelling = (spelling.sign, text_of spelling.text)

-- the spellings of an index, each with its sign
abbrev pub pairs : Index → List (ℕ × List ℕ)
pairs index = map pair_of index.spellings.items

-- the first spellings of an index
abbrev pub firsts_of : Index → List (List ℕ)
firsts_of index = map text_of index.firsts.items

-- the number whose digits in base 256 are a 1 and then the bytes of a text
abbrev pub front_code : List ℕ → ℕ
front_code text = fold (λ code b. code * 256 + b) 1 text

-- whether all elements are bytes
abbrev pub AreBytes : List ℕ → Type 0
AreBytes text = list_all (λ b. nat_lt b 256) text ≡ true

-- the front that an index has at a code
abbrev pub front_at : Index → ℕ → Option Front
front_at index code = if nat_lt code 512 then slice_index_or index.heads (code - 256) None
    else get nat_eq index.longer code

-- which front of a spelling a text is: the whole, a proper one, or none
abbrev pub front_of : ℕ × List ℕ → List ℕ → Option Front
front_of spelling text = if starts_with nat_eq spelling.1 text
    then Some (if length text == length spelling.1 then Whole spelling.0 else Inside) else None

-- which front of the spellings a text is
abbrev pub front_in : List (ℕ × List ℕ) → List ℕ → Option Front
front_in [] text = None
front_in (spelling ∷ spellings) text = option_or (front_in spellings text) (front_of spelling text)

-- an index knows its spellings, their fronts and the first spellings; no two spellings clash
pub record IsIndex (index : Index) : Type 0 where
  pub fronts : (text : List ℕ) → AreBytes text → 0 < length text
      → front_at index (front_code text) ≡ front_in (pairs index) text
  pub firsts : (n : ℕ) → slice_get (firsts_of index) n ≡ first_of (pairs index) (n + 2)
  pub letters : length index.firsts.items ≡ letters_in (pairs index)
  pub apart : (s t : ℕ × List ℕ) → IsAmong s (pairs index)
      → IsAmong t (pairs index) → clash s t ≡ false
  pub signs : (s : ℕ × List ℕ) → IsAmong s (pairs index) → 1 < s.0
  pub some : (s : ℕ × List ℕ) → IsAmong s (pairs index) → 0 < length s.1
  pub few : (s : ℕ × List ℕ) → IsAmong s (pairs index) → length s.1 ≤ SPELLING_MAX
