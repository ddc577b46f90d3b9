-- The arguments of `generate` and `audit`.
use Rattle.std.specs.Prelude.{ℕ, ◌&&◌, if◌then◌else◌, List, [], ◌∷◌, ◌++◌, Option, None, Some, codes}
use Rattle.std.specs.List.{list_all}
use Rattle.std.specs.Option.{option_and_then, option_map_or, is_none}
use Rattle.std.specs.Str.{bytes_eq}
use Rattle.pg_words.specs.AcceptedNames.{is_name, where_accepted}

-- the names of `generate` and `audit` as bytes; that of an option is there where it is asked for
pub record FileNames : Type 0 where
  pub dict : List ℕ
  pub patterns : List ℕ
  pub output : List ℕ
  pub translate : List ℕ
  pub params : List ℕ
  pub report : List ℕ
  pub pattmp : Option (List ℕ)
  pub cells : Option (List ℕ)

-- one for what is asked for by an option, and none where it is not
abbrev pub if_asked : {X : Type 0} → Option (List ℕ) → (List ℕ → X) → List X
if_asked option f = option_map_or (λ name. f name ∷ []) option []

-- the names of the inputs of `generate`
abbrev pub input_names : FileNames → List (List ℕ)
input_names n = n.dict ∷ n.patterns ∷ n.translate ∷ n.params ∷ []

-- the names of the outputs of `generate`, in the order in which they are written
abbrev pub output_names : FileNames → List (List ℕ)
output_names n = n.output ∷ if_asked n.pattmp (λ name. name)
    ++ if_asked n.cells (λ name. name) ++ n.report ∷ []

-- the names with that of an option
abbrev pub with_option : FileNames → List ℕ → List ℕ → Option FileNames
with_option n option name =
    if bytes_eq option (codes "--pattmp") then Some (record n { pattmp = Some name })
    else (if bytes_eq option (codes "--cells") then Some (record n { cells = Some name }) else None)

-- the names with those of the options. Each option may stand once
abbrev pub with_options : FileNames → List (List ℕ) → Option FileNames
with_options n [] = Some n
with_options n (option ∷ name ∷ []) = with_option n option name
with_options n (first ∷ one ∷ second ∷ two ∷ []) = if bytes_eq first second then None
    else option_and_then (λ with_first. with_option with_first second two) (with_option n first one)
with_options n words = None

-- the names in arguments: six, and then the options
abbrev pub files_in : List (List ℕ) → Option FileNames
files_in (dict ∷ patterns ∷ output ∷ translate ∷ params ∷ report ∷ options) = with_options (record {
  dict = dict;
  patterns = patterns;
  output = output;
  translate = translate;
  params = params;
  report = report;
  pattmp = None;
  cells = None;
}) options
files_in words = None

-- `generate DICT PATTERNS OUT TRANSLATE PARAMS REPORT`, then `--pattmp FILE` and `--cells FILE`
abbrev pub generate_in : List (List ℕ) → Option FileNames
generate_in words = option_and_then (λ n. where_accepted (input_names n) (output_names n) n)
    (files_in words)

-- `audit` with the same names, which may be equal, and then `--pattmp FILE`
abbrev pub audit_in : List (List ℕ) → Option FileNames
audit_in words = option_and_then (λ n. if list_all is_name (input_names n ++ output_names n)
    && is_none n.cells then Some n else None) (files_in words)
