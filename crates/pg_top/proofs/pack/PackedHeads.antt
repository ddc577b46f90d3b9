-- The bytes that `pack` writes are accepted by `totals`.
use Rattle.std.proofs.Common.{◌≡◌, ℕ, ◌+◌, ◌≤◌, true, not, List, [], ◌++◌, length, Result, Ok, Err, cond, refl, ◌∙◌, append_assoc, arith}
use Rattle.std.specs.Prelude.{codes}
use Rattle.std.proofs.lemmas.Bool.{le-ltb, eq-eqb}
use Rattle.std.specs.List.{flat_map, range_with_len}
use Rattle.pg_types.specs.Placement.{Families, top}
use Rattle.pg_types.specs.declared.limits.TheConstants.{SIGNS_MAX}
use Rattle.pg_types.specs.declared.refusals.Kind.TheVariants.{TableTooLong, BadTable, OtherTable}
use Rattle.pg_types.specs.declared.refusals.Refusal.{Refusal}
use Rattle.pg_types.specs.ValuesOrRefusals.{refusal_at}
use Rattle.pg_translate.specs.Alphabets.{Alphabet, letters_of}
use Rattle.pg_types.specs.declared.packed_table.TheConstants.{TABLE_MAX}
use Rattle.pg_patterns.specs.Values.{Patterns}
use Rattle.pg_table.specs.Forms.{sizes_of, is_well_formed}
use Rattle.pg_table.specs.Numbers.{bytes_of_number}
use Rattle.pg_table.specs.Texts.{bytes_of_cell, bytes_of_record, recorded_lists, table_text}
use Rattle.pg_table.specs.Inside.text.Files.{head_in, table_families}
use Rattle.pg_table.proofs.ByteParts.{HasPart, part_rest, u32_part}
use Rattle.pg_top.specs.Inside.Packed.{packed_text}
use Rattle.pg_top.specs.Totalling.{packed_table}

-- the text begins with its mark and the greatest sign
text_begins : (n : ℕ) (P : Patterns) → HasPart (table_text n P) 0 (codes "PGT1" ++ bytes_of_number 4 n)
unfolding table_text
text_begins n P =
    let fs : Families = table_families n P in
    let lists : List (List (ℕ × ℕ)) = recorded_lists P in
    let mark : List ℕ = codes "PGT1" ++ bytes_of_number 4 n in
    let cells : List ℕ = bytes_of_number 4 (top fs + 1) in
    let records : List ℕ = bytes_of_number 4 (length lists) in
    let row : List ℕ = flat_map (bytes_of_cell fs (head_in P)) (range_with_len 0 (top fs + 1)) in
    let listed : List ℕ = flat_map (bytes_of_record lists) lists in
    record {
      before = [];
      after = cells ++ (records ++ (row ++ listed));
      whole = append_assoc (mark ++ cells ++ records) row listed ∙ append_assoc (mark ++ cells) records (row ++ listed) ∙ append_assoc mark cells (records ++ (row ++ listed));
      at = refl;
    }

-- so it tells the greatest sign
text_signs : (n : ℕ) (P : Patterns) → n ≤ SIGNS_MAX → (sizes_of (table_text n P)).signs ≡ n
text_signs n P few = u32_part (table_text n P) 4 n (part_rest (table_text n P) 0 4 (codes "PGT1") (bytes_of_number 4 n) (text_begins n P) refl) (omega (arith, few))

-- so it is a packed table for the letters of its table
pub packed_accepted : (t : Alphabet) (P : Patterns) → letters_of t + 1 ≤ SIGNS_MAX → length (packed_text t P) ≤ TABLE_MAX → is_well_formed (packed_text t P)
    ≡ true → packed_table t (packed_text t P) ≡ Ok (packed_text t P)
packed_accepted t P few short well =
    let b : List ℕ = packed_text t P in
    let is_short = le-ltb TABLE_MAX (length b) short in
    let same = eq-eqb (sizes_of b).signs (letters_of t + 1) (text_signs (letters_of t + 1) P few) in
    λ k. cond {A = Result (List ℕ) Refusal} (is_short k) (Err (refusal_at 0 TableTooLong 0))
    (cond (not (well k)) (Err (refusal_at 0 BadTable 0)) (cond (same k) (Ok b) (Err (refusal_at 0 OtherTable 0))))
