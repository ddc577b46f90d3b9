-- Of a given file that is longer than its text the first bytes tell the first false line.
use Rattle.std.proofs.Common.{◌≡◌, ℕ, ◌+◌, ◌≤◌, ◌<◌, nat_lt, true, false, List, [], ◌∷◌, ◌++◌, map, length, take, drop, get_or, Option, None, Some, refl, sym, ap, subst, ◌∙◌, inr, arith}
use Rattle.std.specs.Option.{option_map, option_map_or}
use Rattle.std.specs.Prelude.{codes, decimal}
use Rattle.std.proofs.lemmas.Bool.{ltb-true, ltb-false}
use Rattle.std.proofs.lemmas.List.{take_all}
use Rattle.pg_audit.specs.Differences.{first_false}
use Rattle.pg_audit.specs.Inside.FirstFalse.{printed_of}
use Rattle.pg_audit.proofs.PrintedPart.{part_printed}
use Rattle.pg_outside.specs.Content.{FilesShown, SinkShown}
use Rattle.pg_plans.specs.Calls.{Gets}
use Rattle.pg_plans.specs.Plans.{Plan, Reading, Ending, Follows, Moment}
use Rattle.pg_plans.specs.declared.answers.Status.{Status}
use Rattle.pg_plans.specs.declared.answers.Status.TheVariants.{No}
use Rattle.pg_steps.specs.RefusedLines.{label_of}
use Rattle.pg_steps.specs.declared.inputs.Given.{Given}
use Rattle.pg_steps.specs.declared.inputs.Input.TheVariants as input
use Rattle.pg_top.specs.Auditing.{comparison}
use Rattle.pg_top.specs.Selection.{selected_file}
use Rattle.pg_top.specs.Inside.Comparing.{comparing, comparing_one, judged}
use Rattle.pg_top.specs.Inside.selection.SelectedFiles.{made_file, made_files}
use Rattle.pg_top.specs.declared.selected_files.SelectedFile.{SelectedFile}
use Rattle.pg_top.specs.declared.selection.Inputs.{Inputs}

-- what is said of a difference is said by what is printed of it
said : Given → ℕ × List ℕ → List ℕ
said g p = codes "no: " ++ label_of (input.Given g) ++ codes " line " ++ decimal p.0 ++ p.1 ++ codes "\n"

by_printed : (g : Given) (d : Option (ℕ × List ℕ)) (rest : Plan) → judged g d rest ≡ option_map_or (λ p. Ending No [] (said g p)) (option_map printed_of d) rest
unfolding said
by_printed g None rest = refl
by_printed g (Some d) rest = refl

-- a file is judged by its front
pub judged_front : (g : Given) (text whole front : List ℕ) (limit : ℕ) (rest : Plan) → limit ≡ length text + 256 → front ≡ take (limit + 1) whole
    → judged g (first_false front text) rest ≡ judged g (first_false whole text) rest
judged_front g text whole front limit rest is cut = elim (nat_lt limit (length whole)) as (λ b. nat_lt limit (length whole) ≡ b → judged g (first_false front text) rest ≡ judged g (first_false whole text) rest) [
  | true ↦ λ e.
      let longer : limit < length whole = ltb-true limit (length whole) e in
      let count : limit + 1 ≡ length text + (256 + 1) = omega (arith, is) in
      let printed : option_map printed_of (first_false front text) ≡ option_map printed_of (first_false whole text) =
      ap (λ b. option_map printed_of (first_false b text)) (cut ∙ ap (λ n. take n whole) count) ∙ part_printed whole text 256 (omega arith) (omega (arith, is, longer)) in
      by_printed g (first_false front text) rest ∙ ap (λ d. option_map_or (λ p. Ending No [] (said g p)) d rest) printed ∙ sym (by_printed g (first_false whole text) rest)
  | false ↦ λ e.
      let few : length whole ≤ limit = ltb-false limit (length whole) e in
      ap (λ b. judged g (first_false b text) rest) (cut ∙ take_all (limit + 1) whole (omega arith))
] refl

-- a file was read and judged
pub file_judged : (w : Given × List ℕ × List ℕ) (bytes front : List ℕ) (limit : ℕ) (rest end : Plan) (s0 s1 : FilesShown) (status : Status) (sink : SinkShown) (new : Moment)
    → limit ≡ length w.2 + 256 → Gets w.1 bytes s0 s1 → front ≡ take (limit + 1) bytes → end ≡ judged w.0 (first_false front w.2) rest
    → Follows end status (s1, sink) new → Follows (comparing_one w rest) status (s0, sink) new
file_judged w bytes front limit rest end s0 s1 status sink new is gets cut ends h =
    inr (inr (bytes, s1, gets, subst (λ plan. Follows plan status (s1, sink) new) (ends ∙ judged_front w.0 w.2 bytes front limit rest is cut) h))

-- files are compared one by one
pub files_first : (ws behind : List SelectedFile) (w : SelectedFile) → 1 ≤ length ws → w ≡ get_or ws 0 w → behind ≡ drop 1 ws
    → comparing (made_files ws) ≡ comparing_one (made_file w) (comparing (made_files behind))
files_first [] behind w some is rest = absurd (omega arith)
files_first (v ∷ vs) behind w some is rest = λ k. comparing_one (made_file (sym is k)) (comparing (made_files (sym rest k)))

-- comparing given files is comparing them with their texts
pub compared-is : (i : Inputs) (gs : List (Given × List ℕ)) → comparison i gs ≡ comparing (map (λ g. (g.0, g.1, selected_file i g.0)) gs)
compared-is i [] = refl
compared-is i (g ∷ gs) = λ k. Reading g.1 (λ bytes. judged g.0 (first_false bytes (selected_file i g.0)) (compared-is i gs k))
