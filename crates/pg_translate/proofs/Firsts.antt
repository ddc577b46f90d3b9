-- The first spellings of letters.
use Rattle.std.proofs.Common.{◌≡◌, ℕ, ◌+◌, ◌<◌, ◌≤◌, ◌==◌, Bool, true, false, inl, inr, ⊎_elim, List, [], ◌∷◌}
use Rattle.std.proofs.Common.{length, find, get_or, slice_get, Option, Some, None, option_map, refl, sym, ap, ◌∙◌, arith, subst}
use Rattle.std.proofs.lemmas.Bool.{cases_Bool}
use Rattle.std.proofs.lemmas.Option.{slice_get-map, slice_get-get_or}
use Rattle.pg_translate.specs.declared.index.Index.{Index}
use Rattle.pg_translate.specs.declared.spellings.Text.{Text}
use Rattle.pg_translate.specs.Inside.spellings.Texts.{text_of}
use Rattle.pg_translate.specs.Inside.spellings.Members.{IsAmong}
use Rattle.pg_translate.specs.Inside.spellings.FirstSpellings.{first_of}
use Rattle.pg_translate.specs.Inside.spellings.Fronts.{IsIndex, pairs}

-- what is found is among the spellings
pub find_among : (test : ℕ × List ℕ → Bool) (spellings : List (ℕ × List ℕ)) (s : ℕ × List ℕ) → find test spellings ≡ Some s → IsAmong s spellings
find_among test [] s h = absurd (cc)
find_among test (x ∷ xs) s h =
    ⊎_elim (λ (yes : test x ≡ true). let here : Some x ≡ Some s = rw yes at h in inl (cc)) (λ (no : test x ≡ false). let later : find test xs
    ≡ Some s = rw no at h in inr (find_among test xs s later)) (cases_Bool (test x))

-- what is found passes
pub found_passes : (test : ℕ × List ℕ → Bool) (spellings : List (ℕ × List ℕ)) (s : ℕ × List ℕ) → find test spellings ≡ Some s → test s ≡ true
found_passes test [] s h = absurd (cc)
found_passes test (x ∷ xs) s h =
    ⊎_elim (λ (yes : test x ≡ true). let here : Some x ≡ Some s = rw yes at h in let same : x ≡ s = cc in subst (λ (y : ℕ × List ℕ). test y ≡ true) same yes)
    (λ (no : test x ≡ false). let later : find test xs ≡ Some s = rw no at h in found_passes test xs s later) (cases_Bool (test x))

-- a first spelling is one of the spellings
first_among : (spellings : List (ℕ × List ℕ)) (sign : ℕ) (text : List ℕ) → first_of spellings sign ≡ Some text → (s : ℕ × List ℕ) × IsAmong s spellings × (text ≡ s.1)
first_among spellings sign text h = by_find (find (λ s. s.0 == sign) spellings) refl h
  where
    by_find : (o : Option (ℕ × List ℕ)) → o ≡ find (λ s. s.0 == sign) spellings → option_map (λ (s : ℕ × List ℕ). s.1) o ≡ Some text → (s : ℕ × List ℕ) × IsAmong s spellings × (text ≡ s.1)
    by_find None is h = absurd (cc)
    by_find (Some s) is h = (s, find_among (λ s. s.0 == sign) spellings s (sym is), let same : text ≡ s.1 = cc in same)

-- the sizes of a first spelling
pub first_sizes : (index : Index) (n : ℕ) (text : Text) → IsIndex index → n < length index.firsts.items → text ≡ get_or index.firsts.items n text
    → (0 < length (text_of text)) × (length (text_of text) ≤ 8)
first_sizes index n text sound inside is =
    let there : slice_get index.firsts.items n ≡ Some text = slice_get-get_or index.firsts.items n text inside ∙ ap (λ (t : Text). Some t) (sym is) in
    let first : first_of (pairs index) (n + 2) ≡ Some (text_of text) = sym (sound.firsts n) ∙ slice_get-map text_of index.firsts.items n ∙ ap (option_map text_of) there in
    let found : (s : ℕ × List ℕ) × IsAmong s (pairs index) × (text_of text ≡ s.1) = first_among (pairs index) (n + 2) (text_of text) first in
    let some : 0 < length found.0.1 = sound.some found.0 found.1 in
    let few : length found.0.1 ≤ 8 = sound.few found.0 found.1 in
    let same : length (text_of text) ≡ length found.0.1 = ap length found.2 in
    (omega arith, omega arith)
