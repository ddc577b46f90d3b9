-- The loop over the lines of the report.
use Rattle.std.proofs.Common.{◌≡◌, ℕ, ◌<◌, ◌≤◌, true, All, Some, slice_get, subst, T, List, [], ◌∷◌, ◌++◌, length, drop, flat_map, refl, sym, ap, ◌∙◌, arith}
use Rattle.std.specs.List.{zip, list_all}
use Rattle.std.specs.FinMap.Entries.{is_sorted}
use Rattle.std.proofs.lemmas.Bool.{and_from, le-leb}
use Rattle.std.proofs.lemmas.List.Elements.{All-cons, All-nil}
use Rattle.std.proofs.lemmas.Option.{slice_get_within, get_or_from_slice_get}
use Rattle.pg_types.specs.declared.limits.TheConstants.{LEVEL_MAX, PATTERN_SIGNS_MAX}
use Rattle.pg_types.specs.Inside.Signs.{is_sign}
use Rattle.pg_patterns.specs.DottedSigns.{dotted_cmp}
use Rattle.pg_patterns.specs.Inside.PatternMaps.{SignsUpTo, is_entry}
use Rattle.std.proofs.lemmas.List.{append-nil, nil_from_length, length-drop}
use Rattle.pg_translate.specs.Alphabets.{Alphabet}
use Rattle.pg_patterns.specs.Values.{Patterns}
use Rattle.pg_prune.specs.declared.pruned.Need.{Need}
use Rattle.pg_prune.specs.Reports.{keep_line}
use Rattle.pg_prune.specs.Inside.Findings.{keep_lines}

-- the lines are whole
pub lines_end : (t : Alphabet) (P : Patterns) (needs : List Need) (done : List ℕ) (i : ℕ) → length P ≤ i → done ++ keep_lines t (drop i P) (drop i needs)
    ≡ keep_lines t P needs → done ≡ keep_lines t P needs
lines_end t P needs done i behind so =
    let none : drop i P ≡ [] = nil_from_length (drop i P) (let many = length-drop i P in omega (arith, many)) in
    sym (append-nil done) ∙ ap (λ es. done ++ keep_lines t es (drop i needs)) (sym none) ∙ so

-- the lines of entries, each with its need
pub lines_beside : (t : Alphabet) (es : Patterns) (ns : List Need) → keep_lines t es ns ≡ flat_map (λ k. keep_line t k.0 k.1) (zip es ns)
lines_beside t [] needs = refl
lines_beside t (e ∷ es) [] = refl
lines_beside t (e ∷ es) (n ∷ ns) = ap (λ more. keep_line t e n ++ more) (lines_beside t es ns)

-- an entry alone is sound
pub alone_sound : (u : List ℕ) (d v : ℕ) → 0 < length u → length u ≤ PATTERN_SIGNS_MAX → list_all is_sign u ≡ true → d ≤ length u → 1 ≤ v → v ≤ LEVEL_MAX → list_all is_entry (((u, d), v) ∷ []) ≡ true
alone_sound u d v some few signs dot low high =
    and_from _ _ (and_from _ _ (and_from _ _ (and_from _ _ (and_from _ _ (and_from _ _ (le-leb 1 (length u) some) (le-leb (length u) PATTERN_SIGNS_MAX few)) signs) (le-leb d (length u) dot))
    (le-leb 1 v low)) (le-leb v LEVEL_MAX high)) refl

-- the signs of an entry alone are those of the map
pub alone_known : (n : ℕ) (P : Patterns) (i : ℕ) (e : (List ℕ × ℕ) × ℕ) → SignsUpTo n P → slice_get P i ≡ Some e → SignsUpTo n (e ∷ [])
alone_known n P i e known at =
    let Q : (List ℕ × ℕ) × ℕ → Type 0 = λ (f : (List ℕ × ℕ) × ℕ). All (λ s. s ≤ n) f.0.0 in
    All-cons Q e [] (subst Q (get_or_from_slice_get P i e e at) (known i e (slice_get_within P i e at))) (All-nil Q)

-- a map of entries of which there is one alone
pub map_alone : (Q items : Patterns) (k : List ℕ × ℕ) (u : List ℕ) (d v : ℕ) → items ≡ (k, v) ∷ [] → k ≡ (u, d) → (T (is_sorted dotted_cmp items) → Q ≡ items) → Q ≡ ((u, d), v) ∷ []
map_alone Q items k u d v is same sorted =
    let whole : items ≡ ((u, d), v) ∷ [] = is ∙ ap (λ (x : List ℕ × ℕ). (x, v) ∷ []) same in
    sorted (subst (λ es. T (is_sorted dotted_cmp es)) (sym whole) tt) ∙ whole
