-- Where arguments break the forms of the commands.
use Rattle.std.specs.Prelude.{ℕ, nat_lt, nat_le, nat_eq, Bool, true, false, ◌||◌, ◌&&◌, if◌then◌else◌, List, [], ◌∷◌, length, map, Option, None, Some}
use Rattle.std.specs.Option.{is_some, option_map_or}
use Rattle.std.specs.Str.{bytes_eq}
use denote.Ref.{Bor}
use Rattle.pg_words.specs.AcceptedNames.{is_name}
use Rattle.pg_words.specs.NumbersWithin.{number_within}
use Rattle.pg_words.specs.declared.forms.Kind.{Kind}
use Rattle.pg_words.specs.declared.forms.Slot.{Slot}
use Rattle.pg_words.specs.declared.forms.Slot.TheVariants.{Input, Output, Number}
use Rattle.pg_words.specs.declared.forms.TheConstants.{FORMS}
use Rattle.pg_words.specs.declared.slips.Slip.{Slip}
use Rattle.pg_words.specs.declared.slips.Slip.TheVariants.{NoCommand, Missing, Unfit, NotDue, Twice, TooManySets, Same}

-- how an argument is called, or which option it stands behind, and what it has to be
abbrev pub Label : Type 0
Label = List ℕ × Slot

-- the labels of a form as their bytes
abbrev pub labels_of : List (Bor (List ℕ) × Slot) → List Label
labels_of labels = map (λ l. (l.0.now, l.1)) labels

-- an argument is what is due
abbrev pub fits : Slot → List ℕ → Bool
fits Input word = is_name word
fits Output word = is_name word
fits (Number digits least most) word = is_some (number_within digits least most word)

-- what is due behind an option
abbrev pub slot_behind : List Label → List ℕ → Option Slot
slot_behind [] word = None
slot_behind (o ∷ options) word =
    if bytes_eq word o.0 then Some o.1 else slot_behind options word

-- the file behind an option, among options with their files
abbrev pub file_behind : List ℕ → List (List ℕ) → Option (List ℕ)
file_behind option [] = None
file_behind option (word ∷ []) = None
file_behind option (word ∷ name ∷ rest) =
    if bytes_eq option word then Some name else file_behind option rest

-- each option may stand once, with a file that can be a name, in any order
abbrev pub slip_of_options : List Label → List (List ℕ) → Option Slip
slip_of_options options [] = None
slip_of_options options (word ∷ []) =
    if is_some (slot_behind options word) then Some Missing else Some (NotDue 1)
slip_of_options options (word ∷ name ∷ rest) = if is_some (slot_behind options word)
    then (if is_some (file_behind word rest) then Some (Twice (length (word ∷ name ∷ rest)))
    else (if is_name name then slip_of_options options rest
    else Some (Unfit (length (name ∷ rest))))) else Some (NotDue (length (word ∷ name ∷ rest)))

-- each of the arguments can be a name
abbrev pub slip_of_sets : List (List ℕ) → Option Slip
slip_of_sets [] = None
slip_of_sets (word ∷ behind) =
    if is_name word then slip_of_sets behind else Some (Unfit (length (word ∷ behind)))

-- behind the slots stand options, or as many parameter files as may, and one at least
abbrev pub slip_behind : List Label → ℕ → List (List ℕ) → Option Slip
slip_behind options sets words = if nat_eq sets 0 then slip_of_options options words
    else (if nat_lt 0 (length words) then (if nat_le (length words) sets then slip_of_sets words
    else Some (TooManySets (length words))) else Some Missing)

-- each slot has an argument that fits it
abbrev pub slip_in : List Label → List Label → ℕ → List (List ℕ) → Option Slip
slip_in [] options sets words = slip_behind options sets words
slip_in (slot ∷ slots) options sets [] = Some Missing
slip_in (slot ∷ slots) options sets (word ∷ behind) = if fits slot.1 word
    then slip_in slots options sets behind else Some (Unfit (length (word ∷ behind)))

-- a file that is written is due
abbrev pub is_output : Slot → Bool
is_output Input = false
is_output Output = true
is_output (Number digits least most) = false

-- a file: whether it is written, its name, and how many arguments stand behind it
abbrev pub NamedFile : Type 0
NamedFile = Bool × List ℕ × ℕ

-- the files that arguments behind the slots name, in their order
abbrev pub files_behind : List Label → List (List ℕ) → List NamedFile
files_behind options [] = []
files_behind options (word ∷ []) = option_map_or (λ slot. [])
    (slot_behind options word) ((false, word, 0) ∷ [])
files_behind options (word ∷ name ∷ rest) = option_map_or
    (λ slot. (is_output slot, name, length rest) ∷ files_behind options rest)
    (slot_behind options word)
    ((false, word, length (name ∷ rest)) ∷ files_behind options (name ∷ rest))

-- the files that arguments name, in their order
abbrev pub files_in : List Label → List Label → List (List ℕ) → List NamedFile
files_in [] options words = files_behind options words
files_in (slot ∷ slots) options [] = []
files_in ((label, Number digits least most) ∷ slots) options (word ∷ behind) =
    files_in slots options behind
files_in ((label, slot) ∷ slots) options (word ∷ behind) =
    (is_output slot, word, length behind) ∷ files_in slots options behind

-- how many arguments stand behind the next file of this name, where one of the two is written
abbrev pub same_name : List ℕ → Bool → List NamedFile → Option ℕ
same_name name written [] = None
same_name name written (other ∷ others) = if (written || other.0) && bytes_eq other.1 name
    then Some other.2 else same_name name written others

-- the first two files of one name where one of the two is written
abbrev pub first_same : List NamedFile → Option Slip
first_same [] = None
first_same (file ∷ others) = option_map_or (λ behind. Some (Same file.2 behind))
    (same_name file.1 file.0 others) (first_same others)

-- a form: the name of its command, which it is, its slots, its options, and how many parameter
-- files may follow
abbrev pub PlainForm : Type 0
PlainForm = List ℕ × Kind × List Label × List Label × ℕ

-- forms with their names as bytes
abbrev pub forms_of : List (Bor (List ℕ) × Kind × Bor (List (Bor (List ℕ) × Slot))
    × Bor (List (Bor (List ℕ) × Slot)) × ℕ) → List PlainForm
forms_of forms = map (λ f. (f.0.now, f.1, labels_of f.2.now, labels_of f.3.now, f.4)) forms

-- where arguments break the form of this name, or name one file twice that is written
abbrev pub slip_named : List PlainForm → List ℕ → List (List ℕ) → Option Slip
slip_named [] name words = Some NoCommand
slip_named (form ∷ forms) name words = if bytes_eq name form.0
    then option_map_or (λ slip. Some slip) (slip_in form.2 form.3 form.4 words)
    (first_same (files_in form.2 form.3 words)) else slip_named forms name words

-- the table of the forms, with its names as bytes
abbrev pub forms : List PlainForm
forms = map (λ f. (
  f.0.now,
  f.1,
  map (λ l. (l.0.now, l.1)) f.2.now,
  map (λ l. (l.0.now, l.1)) f.3.now,
  f.4,
)) FORMS.now

-- where the arguments of a call break the form of their command
abbrev pub slip_of : List (List ℕ) → Option Slip
slip_of [] = Some NoCommand
slip_of (name ∷ words) = slip_named forms name words
