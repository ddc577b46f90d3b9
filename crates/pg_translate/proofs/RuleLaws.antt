-- A table keeps the rules.
use Rattle.std.proofs.Common.{◌≡◌, ℕ, ◌+◌, ◌-◌, ◌≤◌, ◌==◌, Bool, true, false, ⊎_elim, List, [], ◌∷◌, length}
use Rattle.std.proofs.Common.{get_or, slice_get, find, Option, Some, None, option_map, unwrap_or, refl, sym, ap, ◌∙◌, subst, arith}
use Rattle.std.specs.List.{list_all}
use Rattle.std.proofs.lemmas.Bool.{and_parts, eqb-true, ne_eqb}
use Rattle.std.proofs.lemmas.List.{length-map}
use Rattle.std.proofs.lemmas.Option.{slice_get-get_or}
use Rattle.pg_types.specs.declared.limits.TheConstants.{SIGNS_MAX}
use Rattle.pg_translate.specs.declared.index.Index.{Index}
use Rattle.pg_translate.specs.declared.items.Place.{Place}
use Rattle.pg_translate.specs.Alphabets.{Alphabet, letters_of, spelling_of}
use Rattle.pg_translate.specs.Inside.spellings.FirstSpellings.{letters_in, first_spelling, first_of}
use Rattle.pg_translate.specs.Spellings.{is_spelling}
use Rattle.pg_translate.specs.Inside.spellings.Members.{IsAmong}
use Rattle.pg_translate.specs.Tokens.{Letter}
use Rattle.pg_translate.specs.Inside.items.Items.{IsItem}
use Rattle.pg_translate.specs.Inside.tables.Rules.{KeepsRules}
use Rattle.pg_translate.specs.declared.head.Head.{Head}
use Rattle.pg_translate.specs.Inside.tables.Heads.{head_marks}
use Rattle.pg_translate.specs.Inside.tables.SoundTables.{IsTable}
use Rattle.pg_translate.specs.Inside.spellings.Fronts.{IsIndex, pairs, firsts_of}
use Rattle.pg_translate.specs.Inside.spellings.Texts.{text_of}
use Rattle.pg_translate.proofs.Firsts.{find_among, found_passes}
use Rattle.pg_translate.proofs.Walks.{sign_within}

-- each element passes a test that all pass
pub list_all_at : (test : ℕ × List ℕ → Bool) (spellings : List (ℕ × List ℕ)) (s : ℕ × List ℕ) → list_all test spellings ≡ true → IsAmong s spellings → test s ≡ true
list_all_at test [] s all among = absurd among
list_all_at test (x ∷ xs) s all among =
    ⊎_elim (λ (here : s ≡ x). subst (λ (y : ℕ × List ℕ). test y ≡ true) (sym here) (and_parts (test x) (list_all test xs) all).0)
    (λ (later : IsAmong s xs). list_all_at test xs s (and_parts (test x) (list_all test xs) all).1 later) among

-- a letter that has a first spelling has it among its spellings
pub first_is_among : (spellings : List (ℕ × List ℕ)) (sign : ℕ) (text : List ℕ) → first_of spellings sign ≡ Some text → IsAmong (sign, first_spelling spellings sign) spellings
first_is_among spellings sign text h = by_find (find (λ s. s.0 == sign) spellings) refl h
  where
    by_find : (o : Option (ℕ × List ℕ)) → o ≡ find (λ s. s.0 == sign) spellings → option_map (λ (s : ℕ × List ℕ). s.1) o ≡ Some text → IsAmong (sign, first_spelling spellings sign) spellings
    by_find None is h = absurd (cc)
    by_find (Some s) is h =
        let among : IsAmong s spellings = find_among (λ s. s.0 == sign) spellings s (sym is) in
        let same : s.0 ≡ sign = eqb-true s.0 sign (found_passes (λ s. s.0 == sign) spellings s (sym is)) in
        let first : s.1 ≡ first_spelling spellings sign = ap (λ (o : Option (ℕ × List ℕ)). unwrap_or (option_map (λ (s : ℕ × List ℕ). s.1) o) []) is in
        subst (λ (n : ℕ). IsAmong (n, first_spelling spellings sign) spellings) same (subst (λ (text : List ℕ). IsAmong (s.0, text) spellings) first among)

-- a letter of an index has a first spelling
pub first_there : (index : Index) (sign : ℕ) → IsIndex index → 2 ≤ sign → sign ≤ letters_in (pairs index) + 1 → IsAmong (sign, first_spelling (pairs index) sign) (pairs index)
first_there index sign sound low high =
    let count : length index.firsts.items ≡ letters_in (pairs index) = sound.letters in
    let mapped : length (firsts_of index) ≡ length index.firsts.items = length-map index.firsts.items text_of in
    let there : slice_get (firsts_of index) (sign - 2) ≡ Some (get_or (firsts_of index) (sign - 2) []) = slice_get-get_or (firsts_of index) (sign - 2) [] (omega arith) in
    let back : sign - 2 + 2 ≡ sign = omega arith in
    first_is_among (pairs index) sign (get_or (firsts_of index) (sign - 2) []) (ap (first_of (pairs index)) (sym back) ∙ sym (sound.firsts (sign - 2)) ∙ there)

-- a table keeps the rules
pub keeps : (head : Head) (index : Index) → IsTable head index → KeepsRules (record { left = head.left; right = head.right; marks = head_marks head; spellings = pairs index })
keeps head index table = record {
  left_some = table.head_sound.left_some;
  left_few = table.head_sound.left_few;
  right_some = table.head_sound.right_some;
  right_few = table.head_sound.right_few;
  four = refl;
  marks_pass = table.head_sound.marks_pass;
  letters_few = let count : length index.firsts.items ≡ letters_in (pairs index) = table.index_sound.letters in let few : length index.firsts.items ≤ SIGNS_MAX - 1 = table.few in omega arith;
  signs_low = table.index_sound.signs;
  signs_high = λ s among. sign_within (pairs index) s among;
  spelled = λ s among. list_all_at (λ s. is_spelling (head_marks head) s.1) (pairs index) s table.spelled among;
  apart = table.index_sound.apart;
  each = λ sign low high. first_there index sign table.index_sound low high;
}

-- the spelling of a letter is an item
pub spelling_item : (t : Alphabet) → KeepsRules t → (place : Place) (sign : ℕ) → 2 ≤ sign → sign ≤ letters_of t + 1 → IsItem t place (Letter sign) (spelling_of t sign)
spelling_item t rules place sign low high =
    let other : (sign == 1) ≡ false = ne_eqb sign 1 (λ (same : sign ≡ 1). absurd (omega arith)) in
    rw other (rules.each sign low high)
