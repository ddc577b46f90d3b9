-- The bytes of a packed table.
use Rattle.std.proofs.Common.{◌≡◌, ℕ, ◌+◌, nat_lt, nat_eq, not, Bool, true, false, cond, List, length, Result, Ok, Err, refl, sym, ap, ◌∙◌}
use Rattle.std.proofs.lemmas.Bool.{eqb-true}
use Rattle.pg_types.specs.ValuesOrRefusals.{refusal_at}
use Rattle.pg_types.specs.declared.packed_table.TheConstants.{TABLE_MAX}
use Rattle.pg_types.specs.declared.refusals.Kind.TheVariants.{TableTooLong, BadTable, OtherTable}
use Rattle.pg_types.specs.declared.refusals.Refusal.{Refusal}
use Rattle.pg_translate.specs.Alphabets.{Alphabet, letters_of}
use Rattle.pg_steps.proofs.Fronts.{IsReadUpTo, limited}
use Rattle.pg_table.specs.Forms.{sizes_of, is_well_formed}
use Rattle.pg_top.specs.Totalling.{packed_table}

-- the first bytes tell what the whole tells
pub packed_table-front : (t : Alphabet) → IsReadUpTo TABLE_MAX (packed_table t)
packed_table-front t whole = limited (Err (refusal_at 0 TableTooLong 0))
    (λ b. cond (not (is_well_formed b)) (Err (refusal_at 0 BadTable 0)) (cond (nat_eq (sizes_of b).signs (letters_of t + 1)) (Ok b) (Err (refusal_at 0 OtherTable 0)))) TABLE_MAX whole

-- a table that is accepted has the greatest sign of the letters
accepted_signs : (long sound same : Bool) (bytes b : List ℕ) → cond {A = Result (List ℕ) Refusal} long (Err (refusal_at 0 TableTooLong 0))
    (cond (not sound) (Err (refusal_at 0 BadTable 0)) (cond same (Ok bytes) (Err (refusal_at 0 OtherTable 0)))) ≡ Ok b → (same ≡ true) × (bytes ≡ b)
accepted_signs true sound same bytes b is = absurd (cc)
accepted_signs false false same bytes b is = absurd (cc)
accepted_signs false true false bytes b is = absurd (cc)
accepted_signs false true true bytes b is = let same : bytes ≡ b = cc in (refl, same)

pub table_signs : (t : Alphabet) (bytes b : List ℕ) → packed_table t bytes ≡ Ok b → (sizes_of b).signs ≡ letters_of t + 1
table_signs t bytes b is =
    let h = accepted_signs (nat_lt TABLE_MAX (length bytes)) (is_well_formed bytes) (nat_eq (sizes_of bytes).signs (letters_of t + 1)) bytes b is in
    ap (λ x. (sizes_of x).signs) (sym h.1) ∙ eqb-true (sizes_of bytes).signs (letters_of t + 1) h.0
