-- Worked rows of the definitions: what whole calls come to on small files, and the lines that are printed.
use Rattle.std.proofs.Common.{◌≡◌, ℕ, List, [], ◌∷◌, ◌++◌, Some, None, codes, refl}
use Rattle.std.specs.Fmt.{digits}
use Rattle.std.specs.Option.{option_and_then}
use Rattle.std.specs.Prelude.{Option, if◌then◌else◌}
use Rattle.std.specs.Str.{bytes_eq}
use Rattle.pg_types.specs.Placement.{with_sign}
use Rattle.pg_types.specs.declared.refusals.Kind.TheVariants.{OutOfRange, ParametersTooLong}
use Rattle.pg_table.specs.Forms.{is_well_formed}
use Rattle.pg_table.specs.Numbers.{number_of_bytes, bytes_of_number}
use Rattle.pg_table.specs.Texts.{table_text}
use Rattle.pg_plans.specs.Plans.{Plan, Reading, Ending}
use Rattle.pg_plans.specs.Outcomes.{Outcome}
use Rattle.pg_plans.specs.declared.answers.Status.{Status}
use Rattle.pg_plans.specs.declared.answers.Status.TheVariants.{Done, Yes, No, Refused}
use Rattle.pg_steps.specs.RefusedLines.{refused_line}
use Rattle.pg_steps.specs.declared.inputs.Input.TheVariants as input
use Rattle.pg_top.specs.Commands.{plan_of}
use Rattle.pg_top.specs.Sampling.{with_syllable, with_word, sample_text}
use Rattle.pg_steps.specs.declared.inputs.Given.TheVariants as given
use Rattle.pg_top.specs.Selection.{selection, selected_patterns, selected_file}

-- what the arguments come to over files; none where they are no command, or a file that is read is not there
comes : (List ℕ → Option (List ℕ)) → Plan → Option Outcome
comes files (Ending answer writing lines) = Some (record { answer = answer; writing = writing; lines = lines })
comes files (Reading name next) = option_and_then (λ bytes. comes files (next bytes)) (files name)

calls : (List ℕ → Option (List ℕ)) → List (List ℕ) → Option Outcome
calls files arguments = option_and_then (comes files) (plan_of arguments)

ends : Status → List (List ℕ × List ℕ) → List ℕ → Option Outcome
ends answer writing lines = Some (record { answer = answer; writing = writing; lines = lines })

six : List ℕ → List (List ℕ) → List (List ℕ)
six command options = command ∷ codes "D" ∷ codes "P" ∷ codes "O" ∷ codes "T" ∷ codes "A" ∷ codes "R" ∷ options

-- one option twice, one without its name, an output that is an input, an option in place of a name, the cells file of `audit`, and no command
asks_twice : plan_of (six (codes "generate") (codes "--cells" ∷ codes "C" ∷ codes "--cells" ∷ codes "M" ∷ [])) ≡ None
unfolding six
asks_twice = refl

asks_nothing : plan_of (six (codes "generate") (codes "--cells" ∷ [])) ≡ None
unfolding six
asks_nothing = refl

output_is_input : plan_of (codes "generate" ∷ codes "D" ∷ codes "P" ∷ codes "O" ∷ codes "T" ∷ codes "A" ∷ codes "A" ∷ []) ≡ None
output_is_input = refl

option_as_name : plan_of (codes "generate" ∷ codes "D" ∷ codes "P" ∷ codes "--cells" ∷ codes "T" ∷ codes "A" ∷ codes "R" ∷ []) ≡ None
option_as_name = refl

audited_cells : plan_of (six (codes "audit") (codes "--cells" ∷ codes "C" ∷ [])) ≡ None
unfolding six
audited_cells = refl

too_many_words : plan_of (codes "sample" ∷ codes "1" ∷ codes "100001" ∷ []) ≡ None
too_many_words = refl

other_command : plan_of (six (codes "list") []) ≡ None
unfolding six
other_command = refl

table_is_input : plan_of (codes "pack" ∷ codes "P" ∷ codes "T" ∷ codes "P" ∷ []) ≡ None
table_is_input = refl

no_set : plan_of (codes "sweep" ∷ codes "D" ∷ codes "P" ∷ codes "O" ∷ codes "T" ∷ codes "2" ∷ codes "3" ∷ codes "1" ∷ []) ≡ None
no_set = refl

output_is_set : plan_of (codes "sweep" ∷ codes "D" ∷ codes "P" ∷ codes "O" ∷ codes "T" ∷ codes "2" ∷ codes "3" ∷ codes "1" ∷ codes "O" ∷ []) ≡ None
output_is_set = refl

-- one word of `sample`
one_word : sample_text 1 1 ≡ codes "so-ni-gi-din\n"
unfolding with_word with_syllable
one_word = refl

-- files with these words under the letters a, b and c, and with two passes of one level; further files have their names beside them
found : List (List ℕ × List ℕ) → List ℕ → Option (List ℕ)
found [] name = None
found (e ∷ es) name = if bytes_eq e.0 name then Some e.1 else found es name

files : List ℕ → List (List ℕ × List ℕ) → (List ℕ → Option (List ℕ))
files dict more = found ((codes "T", codes " 1 1\n a\n b\n c\n") ∷ (codes "P", []) ∷ (codes "A", codes "1 1 2 2 1 1 2\n") ∷ (codes "D", dict) ∷ more)

-- two words that give one pattern, with the hyphenated list and the cells file
one_pattern : calls (files (codes "ab-c\nab-a\n") []) (six (codes "generate") (codes "--cells" ∷ codes "C" ∷ codes "--pattmp" ∷ codes "M" ∷ []))
    ≡ ends Done
    ((codes "O", codes "ab1\n")
    ∷ (codes "M", codes "ab*c\nab*a\n")
    ∷ (codes "C", codes "start: 4 taken, top 4, 0 tails\npass 1 2 1: 7 taken, top 8\npass 1 2 0: 9 taken, top 10\npass 1 2 2: 10 taken, top 10\nlevel 1: 5 taken, top 9, 1 tails\n")
    ∷ (
      codes "R",
      codes "pass 1 2 1: 0 good, 0 bad, 2 missed; 3 candidates, 0 chosen, 3 hopeless, 0 left; 0 good, 0 bad\n"
          ++ codes "pass 1 2 0: 0 good, 0 bad, 2 missed; 4 candidates, 0 chosen, 4 hopeless, 0 left; 0 good, 0 bad\n"
          ++ codes "pass 1 2 2: 0 good, 0 bad, 2 missed; 2 candidates, 1 chosen, 1 hopeless, 0 left; 2 good, 0 bad\n"
          ++ codes "level 1: 1 chosen, 2 good, 0 bad, 0 missed\n"
          ++ codes "total: 2 good, 0 bad, 0 missed\n"
          ++ codes "rate: 100.00 % good, 0.00 % bad, 0.00 % missed\n",
    )
    ∷ [])
    (codes "done: 1 patterns, 2 good, 0 bad, 0 missed\nwork: 3 passes, 5 taken, top 9, 1 tails\n")
unfolding calls comes ends six files found selection selected_patterns selected_file digits with_sign
one_pattern = refl

-- the third line of the dictionary is refused
refused_dictionary : calls (files (codes "abc\ncba\nad\n") []) (six (codes "generate") []) ≡ ends Refused [] (codes "refused: dictionary 401 DictionaryCharacter line 3 column 2\n")
unfolding calls comes ends six files found digits
refused_dictionary = refl

-- `audit` of the right files, of a pattern file without its line feed and of an empty one
right_report : List ℕ
right_report = codes "pass 1 2 1: 0 good, 0 bad, 2 missed; 3 candidates, 0 chosen, 3 hopeless, 0 left; 0 good, 0 bad\n"
    ++ codes "pass 1 2 0: 0 good, 0 bad, 2 missed; 4 candidates, 0 chosen, 4 hopeless, 0 left; 0 good, 0 bad\n"
    ++ codes "pass 1 2 2: 0 good, 0 bad, 2 missed; 2 candidates, 1 chosen, 1 hopeless, 0 left; 2 good, 0 bad\n"
    ++ codes "level 1: 1 chosen, 2 good, 0 bad, 0 missed\n"
    ++ codes "total: 2 good, 0 bad, 0 missed\n"
    ++ codes "rate: 100.00 % good, 0.00 % bad, 0.00 % missed\n"

right_files : calls (files (codes "ab-c\nab-a\n") ((codes "O", codes "ab1\n") ∷ (codes "R", right_report) ∷ [])) (six (codes "audit") []) ≡ ends Yes [] (codes "yes\n")
unfolding calls comes ends six files found selection selected_patterns selected_file right_report digits
right_files = refl

no_line_feed : calls (files (codes "ab-c\nab-a\n") ((codes "O", codes "ab1") ∷ [])) (six (codes "audit") []) ≡ ends No [] (codes "no: patterns line 1 found ab1 and the file ends\n")
unfolding calls comes ends six files found selection selected_patterns selected_file digits
no_line_feed = refl

empty_file : calls (files (codes "ab-c\nab-a\n") ((codes "O", []) ∷ [])) (six (codes "audit") []) ≡ ends No [] (codes "no: patterns line 1 is missing\n")
unfolding calls comes ends six files found selection selected_patterns selected_file digits
empty_file = refl

-- no file is held
nothing_held : calls (λ _. None) (six (codes "generate") []) ≡ None
unfolding calls comes six
nothing_held = refl

-- refusals with an item and without a place
refused_item : refused_line input.Parameters (record { kind = OutOfRange; line = 6; column = 0 }) ≡ codes "refused: parameters 202 OutOfRange item 6\n"
unfolding digits
refused_item = refl

refused_set : refused_line (input.Set 2) (record { kind = OutOfRange; line = 6; column = 0 }) ≡ codes "refused: set 2 202 OutOfRange item 6\n"
unfolding digits
refused_set = refl

refused_file : refused_line (input.Set 2) (record { kind = ParametersTooLong; line = 0; column = 0 }) ≡ codes "refused: set 2 205 ParametersTooLong\n"
unfolding digits
refused_file = refl

-- a pattern is packed; its table is refused under other letters
packed_pattern : List ℕ
packed_pattern =
    codes "PGT1" ++ (0 ∷ 0 ∷ 0 ∷ 4 ∷ 0 ∷ 0 ∷ 0 ∷ 6 ∷ 0 ∷ 0 ∷ 0 ∷ 1 ∷ [])
    ++ (0 ∷ 0 ∷ 0 ∷ 0 ∷ 0 ∷ 0 ∷ 0 ∷ 0 ∷ 0 ∷ 0 ∷ []) ++ (0 ∷ 1 ∷ 0 ∷ 0 ∷ 0 ∷ 0 ∷ 0 ∷ 0 ∷ 0 ∷ 0 ∷ [])
    ++ (0 ∷ 2 ∷ 0 ∷ 0 ∷ 0 ∷ 2 ∷ 0 ∷ 0 ∷ 0 ∷ 0 ∷ []) ++ (0 ∷ 3 ∷ 0 ∷ 0 ∷ 0 ∷ 0 ∷ 0 ∷ 0 ∷ 0 ∷ 0 ∷ [])
    ++ (0 ∷ 4 ∷ 0 ∷ 0 ∷ 0 ∷ 0 ∷ 0 ∷ 0 ∷ 0 ∷ 0 ∷ []) ++ (0 ∷ 3 ∷ 0 ∷ 0 ∷ 0 ∷ 0 ∷ 0 ∷ 0 ∷ 0 ∷ 1 ∷ [])
    ++ (1 ∷ 2 ∷ 0 ∷ 0 ∷ 0 ∷ 0 ∷ [])

packs : calls (found ((codes "T", codes " 1 1\n a\n b\n c\n") ∷ (codes "P", codes "ab1\n") ∷ [])) (codes "pack" ∷ codes "P" ∷ codes "T" ∷ codes "B" ∷ [])
    ≡ ends Done ((codes "B", packed_pattern) ∷ []) (codes "packed: 1 patterns, 82 bytes\n")
unfolding calls comes ends found packed_pattern table_text bytes_of_number digits with_sign
packs = refl

other_letters : calls (found ((codes "T", []) ∷ (codes "D", []) ∷ (codes "B", packed_pattern) ∷ [])) (codes "totals" ∷ codes "D" ∷ codes "T" ∷ codes "B" ∷ [])
    ≡ ends Refused [] (codes "refused: table 603 OtherTable\n")
unfolding calls comes ends found packed_pattern is_well_formed number_of_bytes digits
other_letters = refl

-- the second parameter file of `sweep` is refused
refused_second : calls (files (codes "ab-c\nab-c\n") ((codes "B", codes "1 1 2 2 1 0 5\n") ∷ [])) (codes "sweep" ∷ codes "D" ∷ codes "P" ∷ codes "O" ∷ codes "T" ∷ codes "02" ∷ codes "3" ∷ codes "0001" ∷ codes "A" ∷ codes "B" ∷ []) ≡ ends Refused [] (codes "refused: set 2 202 OutOfRange item 6\n")
unfolding calls comes ends files found digits
refused_second = refl
