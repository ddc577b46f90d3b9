-- The text of a map is a pattern file of the map.
use Rattle.std.proofs.Common.{◌≡◌, ℕ, ◌+◌, ◌≤◌, true, false, cond, nat_eq, nat_lt, List, [], ◌∷◌, length, flat_map, ◌++◌, Ok, Err, sym, ap, subst, ◌∙◌}
use Rattle.std.proofs.lemmas.Bool.{le-ltb}
use Rattle.std.proofs.lemmas.List.Elements.{All-head, All-tail}
use Rattle.std.specs.Cmp.Lexicographic.{pointwise}
use Rattle.std.specs.List.{All, AllByRecursion, list_all}
use Rattle.pg_types.specs.declared.limits.TheConstants.{FILE_MAX}
use Rattle.pg_types.specs.declared.refusals.Kind.TheVariants.{PatternsTooLong}
use Rattle.pg_types.specs.Lines.{lines}
use Rattle.pg_types.specs.ValuesOrRefusals.{refusal_at}
use Rattle.pg_translate.specs.Alphabets.{Alphabet, letters_of}
use Rattle.pg_translate.specs.Inside.tables.Rules.{KeepsRules}
use Rattle.pg_patterns.specs.Inside.PatternMaps.{IsPatternMap, SignsUpTo, is_entry}
use Rattle.pg_translate.specs.declared.items.Place.TheVariants.{Patterns}
use Rattle.pg_translate.specs.LineRefusals.{of_lines}
use Rattle.pg_patterns.specs.Values.{map_of_entries}
use Rattle.pg_patterns.specs.Starts.{line_entries, start}
use Rattle.pg_patterns.specs.Inside.EntryLines.{joined_entries}
use Rattle.pg_patterns.specs.Texts.{strings_of, pattern_text}
use Rattle.pg_patterns.specs.Inside.PatternLines.{with_string, strings_by}
use Rattle.pg_patterns.proofs.Strings.{strings_as}
use Rattle.pg_types.proofs.BoolFacts.{and_first, and_second}
use Rattle.pg_patterns.proofs.Sound.{each_sign, entry_bounds}
use Rattle.pg_patterns.proofs.ReadBack.{IsString, entries_of, strings_read}
use Rattle.pg_patterns.proofs.ManyEntries.{joined_as}
use Rattle.pg_patterns.proofs.Restored.{joined_strings}

string_kept : (n : ℕ) (q : List ℕ) (rs : List (List ℕ)) → IsString n q → AllByRecursion (IsString n) rs → AllByRecursion (IsString n) (with_string q rs)
string_kept n q [] here rest = (here, tt)
string_kept n q (r ∷ rs) here rest =
    elim (pointwise nat_eq q r) as (λ b. AllByRecursion (IsString n) (cond b (r ∷ rs) (q ∷ r ∷ rs))) [ true ↦ rest | false ↦ (here, rest) ]

both_bounds : (n : ℕ) (q : List ℕ) → All (λ s. 1 ≤ s) q → All (λ s. s ≤ n) q → All (λ s. (1 ≤ s) × (s ≤ n)) q
both_bounds n q low high = λ k d inside. (low k d inside, high k d inside)

strings_known : (n : ℕ) (P : List ((List ℕ × ℕ) × ℕ)) → list_all is_entry P ≡ true → SignsUpTo n P → AllByRecursion (IsString n) (strings_by P)
strings_known n [] sound known = tt
strings_known n (e ∷ es) sound known =
    let bounds = entry_bounds e (and_first _ _ sound) in
    let high : All (λ s. s ≤ n) e.0.0 = All-head (λ (e : (List ℕ × ℕ) × ℕ). All (λ s. s ≤ n) e.0.0) e es known in
    string_kept n e.0.0 (strings_by es) (record { few = bounds.few; signs = both_bounds n e.0.0 (each_sign e.0.0 bounds.signs) high })
    (strings_known n es (and_second _ _ sound) (All-tail (λ (e : (List ℕ × ℕ) × ℕ). All (λ s. s ≤ n) e.0.0) e es known))

not_longer : (a b : ℕ) → b ≤ a → nat_lt a b ≡ false
not_longer a b upto = le-ltb a b upto

-- the text of a map is read back as the map
pub text_reads_back : (t : Alphabet) (P : List ((List ℕ × ℕ) × ℕ)) → KeepsRules t → IsPatternMap P → SignsUpTo (letters_of t + 1) P
    → length (pattern_text t P) ≤ FILE_MAX → start t (pattern_text t P) ≡ Ok P
text_reads_back t P rules map known few =
    ap (λ b. cond b (Err (refusal_at 0 PatternsTooLong 0)) (of_lines (λ ls. map_of_entries (flat_map line_entries ls)) t Patterns (lines (pattern_text t P))))
    (not_longer FILE_MAX (length (pattern_text t P)) few)
    ∙ sym (joined_as t rules (lines (pattern_text t P)))
    ∙ ap joined_entries (strings_read t P 1 (strings_of P) rules map.sound
    (subst (AllByRecursion (IsString (letters_of t + 1))) (sym (strings_as P)) (strings_known (letters_of t + 1) P map.sound known)))
    ∙ ap (λ qs. Ok (map_of_entries (flat_map (entries_of P) qs))) (strings_as P)
    ∙ ap Ok (joined_strings P map)

-- a text that was written from the start is a pattern file of the map
pub written_reads_back : (t : Alphabet) (P Q es : List ((List ℕ × ℕ) × ℕ)) (text before : List ℕ) → KeepsRules t → IsPatternMap P → P ≡ Q → es ≡ P
    → SignsUpTo (letters_of t + 1) Q → before ≡ [] → text ≡ before ++ pattern_text t es → length text ≤ FILE_MAX → start t text ≡ Ok Q
written_reads_back t P Q es text before rules map same entries known none written few =
    let is : text ≡ pattern_text t Q = written ∙ ap (λ x. x ++ pattern_text t es) none ∙ ap (pattern_text t) (entries ∙ same) in
    ap (start t) is ∙ text_reads_back t Q rules (subst IsPatternMap same map) known (subst (λ x. length x ≤ FILE_MAX) is few)
