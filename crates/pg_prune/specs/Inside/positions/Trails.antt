-- The starts of strings in words, and the positions that they lead to.
use Rattle.std.specs.Prelude.{◌≡◌, ◌<◌, ◌≤◌, ℕ, ◌+◌, ◌-◌, Bool, ◌&&◌, nat_le, nat_lt, nat_eq, if◌then◌else◌, List, [], ◌∷◌, ◌++◌, length, take, map, slice_get, slice_index, slice_index_or, Option, None, Some}
use Rattle.std.specs.List.{range_with_len, filter}
use Rattle.std.specs.Option.{option_map_or}
use Rattle.pg_types.specs.declared.limits.TheConstants.{FILE_MAX}
use Rattle.pg_translate.specs.Alphabets.{Alphabet}
use Rattle.pg_translate.specs.Reach.{reach}
use Rattle.pg_dict.specs.Word.{Word}
use Rattle.pg_patterns.specs.Values.{stands_at}
use Rattle.pg_prune.specs.declared.positions.trail.Start.{Start}

-- the signs of the word with this number, counted from 0
abbrev pub signs_of_word : List Word → ℕ → List ℕ
signs_of_word ws i = option_map_or (λ (w : Word). w.signs) (slice_get ws i) []

-- how many positions there are from the first of these ends to the last
abbrev pub count_between : Option (ℕ × ℕ) → ℕ
count_between r = option_map_or (λ ends. ends.1 + 1 - ends.0) r 0

-- how many positions in reach a word with so many signs has
abbrev pub reach_count : Alphabet → ℕ → ℕ
reach_count m len = count_between (reach m.left m.right len)

-- a start at a sign of a word
abbrev pub start_at : ℕ → ℕ → ℕ → Start
start_at word before at = record { word = word; before = before; at = at }

-- each sign of a word as a start: the number of the word, and how many positions stand before it
abbrev pub starts_in : ℕ → ℕ → ℕ → List Start
starts_in word before len = map (start_at word before) (range_with_len 0 len)

-- each sign of words as a start; the first word has this number, with so many positions before it
abbrev pub starts_from : Alphabet → ℕ → ℕ → List Word → List Start
starts_from m word before [] = []
starts_from m word before (w ∷ ws) = starts_in word before (length w.signs)
    ++ starts_from m (word + 1) (before + reach_count m (length w.signs)) ws

-- each sign of all words as a start
abbrev pub all_starts : Alphabet → List Word → List Start
all_starts m ws = starts_from m 0 0 ws

-- what is known of a start
pub record IsStart (ws : List Word) (s : Start) : Type 0 where
  pub word : s.word < length ws
  pub before : s.before ≤ FILE_MAX
  pub at : s.at < length (signs_of_word ws s.word)

-- whether a string begins at a start
abbrev pub begins_at : List Word → List ℕ → Start → Bool
begins_at ws u s = stands_at u (signs_of_word ws s.word) s.at

-- whether a sign follows so many signs behind a start
abbrev pub continues_with : List Word → ℕ → ℕ → Start → Bool
continues_with ws len sign s = nat_lt (s.at + len) (length (signs_of_word ws s.word))
    && nat_eq (slice_index (signs_of_word ws s.word) (s.at + len)) sign

-- the starts of a string
abbrev pub starts_of : List Word → List Start → List ℕ → List Start
starts_of ws all u = filter (begins_at ws u) all

-- the starts of the first parts of a string that have 1 to `count` signs
abbrev pub trail_upto : List Word → List Start → List ℕ → ℕ → List (List Start)
trail_upto ws all u count = map (λ k. starts_of ws all (take (k + 1) u)) (range_with_len 0 count)

-- the lists are the starts of the first parts of a string, up to the whole
abbrev pub IsTrail : List Word → List Start → List ℕ → List (List Start) → Type 0
IsTrail ws all u lists = lists ≡ trail_upto ws all u (length u)

-- the last list, or all starts where there is none
abbrev pub last_list : List Start → List (List Start) → List Start
last_list all lists = if nat_eq (length lists) 0 then all
    else slice_index_or lists (length lists - 1) []

-- the number of a position of a word that has so many positions before it; none out of reach
abbrev pub position_number : Option (ℕ × ℕ) → ℕ → ℕ → Option ℕ
position_number None before p = None
position_number (Some ends) before p = if nat_le ends.0 p && nat_le p ends.1
    then Some (before + (p - ends.0)) else None

-- the number of the position at which the dot of a string stands
abbrev pub number_at_dot : Alphabet → List Word → ℕ → Start → Option ℕ
number_at_dot m ws dot s = position_number
    (reach m.left m.right (length (signs_of_word ws s.word))) s.before (s.at + dot)
