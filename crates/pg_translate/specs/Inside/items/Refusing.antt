-- The parts of a line's refusal, and what one line gives.
use Rattle.std.specs.Prelude.{ℕ, if◌then◌else◌, List, slice_get, Option, None, Some, option_map, Result}
use Rattle.std.specs.List.{filter_map}
use Rattle.std.specs.Option.{option_or}
use Rattle.pg_types.specs.declared.refusals.Kind.{Kind}
use Rattle.pg_types.specs.declared.refusals.Refusal.{Refusal}
use Rattle.pg_translate.specs.declared.items.Place.{Place}
use Rattle.pg_types.specs.ValuesOrRefusals.{refusal_at, unless}
use Rattle.pg_translate.specs.Alphabets.{Alphabet}
use Rattle.pg_translate.specs.Tokens.{Token, is_ended}
use Rattle.pg_translate.specs.Inside.items.Cuts.{PlacedItem, Cut, cut, tokens_of}
use Rattle.pg_translate.specs.Gaps.{sign_of}
use Rattle.pg_translate.specs.LineRefusals.{limit, bad_kind}

-- the most signs that a line may have
abbrev pub signs_max : Place → ℕ
signs_max place = (limit place).0

-- why a line with a sign too many is refused
abbrev pub long_kind : Place → Kind
long_kind place = (limit place).1

-- the column of a sign
abbrev pub sign_column : PlacedItem → Option ℕ
sign_column item = option_map (λ _. item.column) (sign_of item.token)

-- the columns of the signs of a line
abbrev pub sign_columns : Cut → List ℕ
sign_columns c = filter_map sign_column c.items

-- the refusal where the cut of a line stops, unless that is at its end or before a blank or TAB
abbrev pub stop_refusal : Place → ℕ → Cut → Option Refusal
stop_refusal place line c = if is_ended c.rest then None
    else Some (refusal_at line (bad_kind place c.rest) c.column)

-- the refusal of a line with room for so many signs: the sign too many, else where its cut stops
abbrev pub refusal_with_room : Place → ℕ → ℕ → Cut → Option Refusal
refusal_with_room place line room c =
    option_or (option_map (refusal_at line (long_kind place)) (slice_get (sign_columns c) room))
    (stop_refusal place line c)

-- the refusal of a line of this cut
abbrev pub cut_refusal : Place → ℕ → Cut → Option Refusal
cut_refusal place line c = refusal_with_room place line (signs_max place) c

-- what the items of a line give, or its refusal
abbrev pub of_line : {X : Type 0} → (List Token → X)
    → Alphabet → Place → ℕ → List ℕ → Result X Refusal
of_line give t place line text = let c = cut t place text in
    unless (cut_refusal place line c) (give (tokens_of c))
