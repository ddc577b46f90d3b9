-- The table that `pack` writes, and why it makes none.
use Rattle.std.proofs.Common.{◌≡◌, ℕ, ◌<◌, ◌≤◌, Bool, true, false, List, [], ◌∷◌, length, cond, refl, sym, ap, subst}
use Rattle.std.proofs.lemmas.Bool.{le-ltb, lt-ltb}
use Rattle.pg_types.specs.declared.refusals.Kind.TheVariants.{TableTooLong}
use Rattle.pg_types.specs.ValuesOrRefusals.{refusal_at}
use Rattle.pg_types.specs.declared.packed_table.TheConstants.{TABLE_MAX}
use Rattle.pg_translate.specs.Alphabets.{Alphabet}
use Rattle.pg_patterns.specs.Texts.{pattern_text}
use Rattle.pg_patterns.specs.Values.{Patterns}
use Rattle.pg_outside.specs.Content.{FilesShown}
use Rattle.pg_plans.specs.Plans.{Moment, Plan, Ending, Follows}
use Rattle.pg_plans.specs.declared.answers.Status.{Status}
use Rattle.pg_plans.specs.declared.answers.Status.TheVariants.{Done, Refused}
use Rattle.pg_steps.specs.RefusedLines.{refused_line}
use Rattle.pg_steps.specs.Inside.Steps.{StopsBy}
use Rattle.pg_steps.specs.declared.inputs.Input.TheVariants as input
use Rattle.pg_steps.proofs.Stopping.{short}
use Rattle.pg_table.specs.declared.error.TableError.{TableError}
use Rattle.pg_table.specs.declared.error.TableError.TheVariants as table_error
use Rattle.pg_top.specs.Packing.{packed_line}
use Rattle.pg_top.specs.Inside.Plans.{end_of_pack}
use Rattle.pg_top.specs.Inside.Packed.{stop_of_table, packed_text}

module _ (name : List ℕ) (t : Alphabet) (P : Patterns) where
  abbrev text : List ℕ
  text = packed_text t P

  -- what is written where the table is not too long, and else the refusal
  abbrev pub written : Bool → Plan
  written long = cond long (Ending Refused [] (refused_line input.Table (refusal_at 0 TableTooLong 0)))
      (Ending Done ((name, text) ∷ []) (packed_line (pattern_text t P) text))

  -- a table that is not too long is written
  pub packed_short : length (packed_text t P) ≤ TABLE_MAX → end_of_pack name t P ≡ written false
  packed_short short = ap written (le-ltb TABLE_MAX (length text) short)

  -- and one that is too long is refused
  packed_long : TABLE_MAX < length text → end_of_pack name t P ≡ written true
  packed_long long = ap written (lt-ltb TABLE_MAX (length text) long)

  -- why no table is made
  pub stops_making : (error : TableError) → (error ≡ table_error.TooLong → TABLE_MAX < length (packed_text t P)) → (status : Status) (old new : Moment)
      → StopsBy (stop_of_table error) status old new → Follows (end_of_pack name t P) status old new
  stops_making table_error.TooLong long status old new h = subst (λ (plan : Plan). Follows plan status old new) (sym (packed_long (long refl))) h
  stops_making table_error.Memory long status old new h = short (end_of_pack name t P) status old new h
