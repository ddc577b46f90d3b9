-- What is known of each call, all of it proved from the plans.
use Rattle.std.specs.Prelude.{◌≡◌, ◌↔◌, ℕ, ◌+◌, ◌-◌, List, [], ◌∷◌, ◌++◌, ◌⊎◌, map, length, slice_index, All, Contains, None, Some, Result, Ok, IfSome, codes}
use Rattle.std.specs.Option.{IsSome}
use Rattle.std.specs.FinMap as fin
use Rattle.pg_types.specs.Parameters.{Parameters, parameters}
use Rattle.pg_types.specs.declared.limits.TheConstants.{FOLDS_MAX, FOLDS_MIN, PRICE_MAX}
use Rattle.pg_types.specs.declared.refusals.Refusal.{Refusal}
use Rattle.pg_audit.specs.Differences.{first_false}
use Rattle.pg_dict.specs.DictionaryWords.{words}
use Rattle.pg_dict.specs.Word.{Word}
use Rattle.pg_outside.specs.Content.{FileMap, Told}
use Rattle.pg_patterns.specs.Starts.{start}
use Rattle.pg_patterns.specs.Texts.{pattern_text}
use Rattle.pg_patterns.specs.Values.{Patterns}
use Rattle.pg_prune.specs.Promises.{BreakAlike, NoneCanGo}
use Rattle.pg_prune.specs.Prunes.{Pruning, pruning_of}
use Rattle.pg_prune.specs.Reports.{prune_report}
use Rattle.pg_sweep.specs.Files.{sweep_file}
use Rattle.pg_sweep.specs.Sweeps.{Terms, set_row}
use Rattle.pg_sweep.specs.Promises.{costs_of, IsWinner}
use Rattle.pg_sweep.specs.declared.rows.SweepRow.{SweepRow}
use Rattle.pg_table.specs.Lookups.{table_totals}
use Rattle.pg_table.specs.Texts.{table_text}
use Rattle.pg_texts.specs.ReportTexts.{ending_text}
use Rattle.pg_translate.specs.Alphabets.{Alphabet, letters_of}
use Rattle.pg_translate.specs.Tables.{default_alphabet, table}
use Rattle.pg_plans.specs.Laws.{KeepsFiles, HasCause}
use Rattle.pg_plans.specs.Plans.{Moment, Says}
use Rattle.pg_plans.specs.declared.answers.Status.{Status}
use Rattle.pg_plans.specs.declared.answers.Status.TheVariants.{Done, Yes, No, Usage, Refused, Fault, Memory}
use Rattle.pg_steps.specs.declared.inputs.Given.{Given}
use Rattle.pg_words.specs.NumbersWithin.{number_within}
use Rattle.pg_words.specs.declared.limits.TheConstants.{SEED_MAX, COUNT_MAX, SAMPLE_DIGITS, FOLDS_DIGITS, PRICE_DIGITS}
use Rattle.pg_top.specs.Auditing.{no_line}
use Rattle.pg_top.specs.Commands.{IsRun, plan_of}
use Rattle.pg_top.specs.Generating.{files_asked, files_of, selected_lines}
use Rattle.pg_top.specs.Orders.{Ended, Went}
use Rattle.pg_top.specs.Packing.{packed_line}
use Rattle.pg_top.specs.PrintedLines.{usage_line}
use Rattle.pg_top.specs.Pruning.{rounds_line}
use Rattle.pg_top.specs.Sampling.{sample_inputs, sample_lines, sample_text}
use Rattle.pg_top.specs.Selection.{selected_file}
use Rattle.pg_top.specs.Sweeping.{winner_line}
use Rattle.pg_top.specs.Totalling.{packed_table}
use Rattle.pg_top.specs.declared.selection.Inputs.{Inputs}

-- the file of this name is there, and is read as this value
pub record Means {Y : Type 0} (parse : List ℕ → Result Y Refusal) (files : FileMap)
    (name : List ℕ) (value : Y) : Type 0 where
  pub bytes : List ℕ
  pub held : fin.get files name ≡ Some bytes
  pub read : parse bytes ≡ Ok value

-- the files of these names give a selection these inputs
pub record HasInputs (files : FileMap) (d p t a : List ℕ) (i : Inputs) : Type 0 where
  pub table : Means table files t i.table
  pub params : Means parameters files a i.params
  pub start : Means (start i.table) files p i.start
  pub words : Means (words i.table) files d i.dictionary

-- each of these files is there and is the text that it should be
abbrev pub AreTheirTexts : FileMap → Inputs → List (Given × List ℕ) → Type 0
AreTheirTexts files i gs = All (λ g. fin.get files g.1 ≡ Some (selected_file i g.0)) gs

-- every file but those of these names is as it was
abbrev pub OthersKept : FileMap → FileMap → List (List ℕ) → Type 0
OthersKept before after names = (name : List ℕ) → ¬ Contains names name
    → fin.get after name ≡ fin.get before name

-- these lines were put, where the sink tells its text
abbrev pub PutsLines : Moment → Moment → List ℕ → Type 0
PutsLines old new lines = Told old.1.text new.1.text (λ text now. now ≡ text ++ lines)

-- generate_exact: after Done each output holds its text, all else is as before, lines were put
abbrev pub GenerateExact : Type 0
GenerateExact = (d p o t a r : List ℕ) (options : List (List ℕ)) (old new : Moment)
    → IsRun (codes "generate" ∷ d ∷ p ∷ o ∷ t ∷ a ∷ r ∷ options) Done old new
    → Told old.0.held new.0.held (λ before after. (asked : List (Given × List ℕ))
    × (files_asked options ≡ Some asked) × (i : Inputs) × HasInputs before d p t a i
    × AreTheirTexts after i (files_of o asked r)
    × OthersKept before after (map (λ g. g.1) (files_of o asked r))
    × PutsLines old new (selected_lines i))

-- the first of these files that is not its text was named, with its first line that differs
pub record DeniesFirst (old new : Moment) (files : FileMap) (i : Inputs)
    (gs : List (Given × List ℕ)) : Type 0 where
  pub front : List (Given × List ℕ)
  pub first : Given × List ℕ
  pub behind : List (Given × List ℕ)
  pub order : gs ≡ front ++ first ∷ behind
  pub right : AreTheirTexts files i front
  pub bytes : List ℕ
  pub held : fin.get files first.1 ≡ Some bytes
  pub difference : ℕ × List ℕ
  pub differs : first_false bytes (selected_file i first.0) ≡ Some difference
  pub named : PutsLines old new (no_line first.0 difference)

-- audit_exact: with no fault and no want of memory, Yes exactly where the inputs are accepted and
-- each given file is its text; No names the first that is not
abbrev pub AuditExact : Type 0
AuditExact = (d p o t a r : List ℕ) (options : List (List ℕ)) (status : Status) (old new : Moment)
    → IsRun (codes "audit" ∷ d ∷ p ∷ o ∷ t ∷ a ∷ r ∷ options) status old new
    → ¬ (status ≡ Usage) → ¬ (status ≡ Fault) → ¬ (status ≡ Memory)
    → Told old.0.held new.0.held (λ before after. (asked : List (Given × List ℕ))
    × (files_asked options ≡ Some asked)
    × (status ≡ Yes → (i : Inputs) × HasInputs before d p t a i)
    × ((i : Inputs) → HasInputs before d p t a i → ((status ≡ Yes) ⊎ (status ≡ No))
    × ((status ≡ Yes) ↔ AreTheirTexts before i (files_of o asked r))
    × (status ≡ No → DeniesFirst old new before i (files_of o asked r))))

-- each file that the second options ask for is one that the first ask for
abbrev pub AsksAmong : List (List ℕ) → List (List ℕ) → Type 0
AsksAmong first second = IfSome (files_asked first) (λ written. IfSome (files_asked second)
    (λ asked. All (Contains written) asked))

-- audit_accepts: what `generate` wrote, `audit` of the same names accepts from those files on, with
-- options of its own. Only arguments that are no command, a fault or want of memory hinder it
abbrev pub AuditAccepts : Type 0
AuditAccepts = (d p o t a r : List ℕ) (options own : List (List ℕ)) (status : Status)
    → (old mid next new : Moment)
    → IsRun (codes "generate" ∷ d ∷ p ∷ o ∷ t ∷ a ∷ r ∷ options) Done old mid
    → IsRun (codes "audit" ∷ d ∷ p ∷ o ∷ t ∷ a ∷ r ∷ own) status next new
    → AsksAmong options own → (files : FileMap) → mid.0.held ≡ Some files
    → next.0.held ≡ Some files → IsSome new.0.held
    → (status ≡ Yes) ⊎ ((status ≡ Usage) ⊎ ((status ≡ Fault) ⊎ (status ≡ Memory)))

-- only_these: what each answer of a call says
pub record OnlyThese (arguments : List (List ℕ)) (status : Status) (old new : Moment) : Type 0 where
  -- no fault and no want of memory: the answer, the files and the lines are the plan's
  pub answered : ¬ (status ≡ Fault) → ¬ (status ≡ Memory)
      → IfSome (plan_of arguments) (λ plan. Ended plan status old new)
  -- a fault has its cause: the count of a name that was called rose, or that of the sink
  pub caused : status ≡ Fault → HasCause old new
  -- files change only after Done or a fault
  pub kept : ¬ (status ≡ Done) → ¬ (status ≡ Fault) → KeepsFiles old.0 new.0
  -- where the line says that a file could not be read, no file changed
  pub unread : status ≡ Fault → (name text : List ℕ) → old.1.text ≡ Some text
      → new.1.text ≡ Some (text ++ codes "fault: reading " ++ name ++ codes "\n")
      → KeepsFiles old.0 new.0
  -- Usage comes exactly where the arguments are no command, unless its line cannot be put. No file
  -- is called then
  pub usage : status ≡ Usage → plan_of arguments ≡ None
  pub no_command : plan_of arguments ≡ None
      → (new.0 ≡ old.0) × Says usage_line Usage status old.1 new.1
  -- files are read, written and the lines put in the order of the plan, each once
  pub ordered : IfSome (plan_of arguments) (λ plan. Went plan status old new)

abbrev pub EachAnswer : Type 0
EachAnswer = (arguments : List (List ℕ)) (status : Status) (old new : Moment)
    → IsRun arguments status old new → OnlyThese arguments status old new

-- entries of a map that give each word the same breaks, and none of which can go alone
pub record BreaksLeast (m : Alphabet) (W : List Word) (P kept : Patterns) : Type 0 where
  pub part : All (Contains P) kept
  pub alike : BreakAlike m W P kept
  pub least : NoneCanGo m W P kept

-- what pruning found was written under two names, all else is as before, and its line was put
pub record WritesPruned (old new : Moment) (before after : FileMap) (o r : List ℕ) (T : Alphabet)
    (found : Pruning) : Type 0 where
  pub patterns : fin.get after o ≡ Some (pattern_text T found.patterns)
  pub report : fin.get after r ≡ Some (prune_report T found)
  pub others : OthersKept before after (o ∷ r ∷ [])
  pub line : PutsLines old new (rounds_line found.rounds found.removed (length found.patterns))

-- prune_exact: after Done `prune` wrote what pruning finds. Its entries are of the pattern file and
-- break each word alike, and none of them can go alone
abbrev pub PruneExact : Type 0
PruneExact = (d p o t r : List ℕ) (old new : Moment)
    → IsRun (codes "prune" ∷ d ∷ p ∷ o ∷ t ∷ r ∷ []) Done old new
    → Told old.0.held new.0.held (λ before after. (T : Alphabet) × (P : Patterns)
    × (W : List Word) × Means table before t T × Means (start T) before p P
    × Means (words T) before d W
    × BreaksLeast T W P (pruning_of T W P).patterns
    × WritesPruned old new before after o r T (pruning_of T W P))

-- parameter files mean these sets, in their order
abbrev pub AreSets : FileMap → List (List ℕ) → List Parameters → Type 0
AreSets files [] [] = Unit {0}
AreSets files (name ∷ names) (set ∷ sets) =
    Means parameters files name set × AreSets files names sets
AreSets files names sets = ⊥

-- the files of these names give a sweep its table, starting patterns and words, and an argument the
-- number of its folds
pub record HasTerms (files : FileMap) (d p t k : List ℕ) (s : Terms) : Type 0 where
  pub table : Means table files t s.table
  pub start : Means (start s.table) files p s.start
  pub words : Means (words s.table) files d s.words
  pub folds : number_within FOLDS_DIGITS FOLDS_MIN FOLDS_MAX k ≡ Some s.folds

-- an argument is this price
abbrev pub IsPrice : List ℕ → ℕ → Type 0
IsPrice argument price = number_within PRICE_DIGITS 1 PRICE_MAX argument ≡ Some price

-- rows were written under a name, all else is as before, and the set was named whose row costs
-- least, the first of such sets
pub record WritesRows (old new : Moment) (before after : FileMap) (o : List ℕ) (folds : ℕ)
    (rows : List SweepRow) : Type 0 where
  pub winner : ℕ
  pub wins : IsWinner (costs_of rows) winner
  pub written : fin.get after o ≡ Some (sweep_file folds rows winner)
  pub others : OthersKept before after (o ∷ [])
  pub line : PutsLines old new
      (winner_line winner (slice_index (costs_of rows) (winner - 1)))

-- sweep_exact: after Done `sweep` wrote the rows of the sets by its arguments
abbrev pub SweepExact : Type 0
SweepExact = (d p o t k b m : List ℕ) (params : List (List ℕ)) (old new : Moment)
    → IsRun (codes "sweep" ∷ d ∷ p ∷ o ∷ t ∷ k ∷ b ∷ m ∷ params) Done old new
    → Told old.0.held new.0.held (λ before after. (s : Terms) × (bad : ℕ) × (missed : ℕ)
    × (As : List Parameters) × HasTerms before d p t k s × IsPrice b bad × IsPrice m missed
    × AreSets before params As
    × WritesRows old new before after o s.folds (map (set_row s bad missed) As))

-- totals_exact: after Done `totals` put the totals of the words by the packed table
abbrev pub TotalsExact : Type 0
TotalsExact = (d t b : List ℕ) (old new : Moment)
    → IsRun (codes "totals" ∷ d ∷ t ∷ b ∷ []) Done old new
    → Told old.0.held new.0.held (λ before after. (T : Alphabet) × (W : List Word)
    × (B : List ℕ) × Means table before t T × Means (words T) before d W
    × Means (packed_table T) before b B × (after ≡ before)
    × PutsLines old new (ending_text (table_totals T W B)))

-- pack_exact: after Done `pack` wrote the packed table of the patterns, and put its line
abbrev pub PackExact : Type 0
PackExact = (p t o : List ℕ) (old new : Moment)
    → IsRun (codes "pack" ∷ p ∷ t ∷ o ∷ []) Done old new
    → Told old.0.held new.0.held (λ before after. (T : Alphabet) × (P : Patterns)
    × Means table before t T × Means (start T) before p P
    × (fin.get after o ≡ Some (table_text (letters_of T + 1) P))
    × OthersKept before after (o ∷ [])
    × PutsLines old new (packed_line (pattern_text T P) (table_text (letters_of T + 1) P)))

-- sample_exact: `sample` is never refused and calls no file, and after Done it put the lines of the
-- selection by its arguments
abbrev pub SampleExact : Type 0
SampleExact = (seed count : List ℕ) (status : Status) (old new : Moment)
    → IsRun (codes "sample" ∷ seed ∷ count ∷ []) status old new
    → ¬ (status ≡ Refused) × (new.0 ≡ old.0) × (status ≡ Done → (s c : ℕ) × (W : List Word)
    × (number_within SAMPLE_DIGITS 0 SEED_MAX seed ≡ Some s)
    × (number_within SAMPLE_DIGITS 0 COUNT_MAX count ≡ Some c)
    × (words default_alphabet (sample_text s c) ≡ Ok W)
    × PutsLines old new (sample_lines (sample_inputs W)))
