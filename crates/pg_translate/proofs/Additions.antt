-- An index with one spelling more.
use Rattle.std.proofs.Common.{◌≡◌, ℕ, ◌+◌, ◌-◌, ◌<◌, ◌≤◌, ◌==◌, max, Bool, true, false, if◌then◌else◌, not, ◌&&◌, ◌||◌, ⊎_elim, List, []}
use Rattle.std.proofs.Common.{◌∷◌, ◌++◌, length, map, get_or, slice_get, Option, Some, None, refl, sym, ap, ◌∙◌, subst, arith, suc, zero, nat_eq}
use Rattle.std.specs.List.{list_any, starts_with}
use Rattle.std.specs.Option.{option_or}
use Rattle.std.proofs.lemmas.Bool.{cases_Bool, cases_lt, cases_eq, eq-eqb, ne_eqb}
use Rattle.std.proofs.lemmas.List.{map_push, length-map, length_push}
use Rattle.std.proofs.lemmas.List.Sums.{fold-append}
use Rattle.std.proofs.lemmas.Option.{slice_get-get_or}
use Rattle.pg_translate.specs.declared.index.Index.{Index}
use Rattle.pg_translate.specs.declared.spellings.Text.{Text}
use Rattle.pg_translate.specs.Inside.spellings.FirstSpellings.{letters_in, first_of}
use Rattle.pg_translate.specs.Spellings.{clash}
use Rattle.pg_translate.specs.Inside.spellings.Members.{IsAmong}
use Rattle.pg_translate.specs.Inside.spellings.Texts.{text_of}
use Rattle.pg_translate.specs.Inside.spellings.Fronts.{IsIndex, AreBytes, pairs, firsts_of, front_at, front_of, front_in, front_code}
use Rattle.pg_translate.proofs.Fronts.{front_in-push, IsAmong-push, list_any_at}
use Rattle.pg_translate.proofs.Walks.{AreApart}

-- a test of two successors
eqb_suc : (a b : ℕ) → (suc a == suc b) ≡ (a == b)
eqb_suc a b = ⊎_elim (λ (same : a ≡ b). eq-eqb (suc a) (suc b) (ap suc same) ∙ sym (eq-eqb a b same))
    (λ (other : a ≡ b → ⊥). ne_eqb (suc a) (suc b) (λ (same : suc a ≡ suc b). other (omega arith)) ∙ sym (ne_eqb a b other)) (cases_eq a b)

-- the element at a place of a list with one more
slice_get-push : (xs : List (List ℕ)) (y : List ℕ) (n : ℕ) → slice_get (xs ++ y ∷ []) n ≡ option_or (slice_get xs n) (if n == length xs then Some y else None)
slice_get-push [] y zero = refl
slice_get-push [] y (suc n) = let no : (suc n == 0) ≡ false = ne_eqb (suc n) 0 (λ h. absurd (omega arith)) in rw no refl
slice_get-push (x ∷ xs) y zero = refl
slice_get-push (x ∷ xs) y (suc n) = let same : (suc n == suc (length xs)) ≡ (n == length xs) = eqb_suc n (length xs) in rw same (slice_get-push xs y n)

-- the first spelling of a letter among spellings with one more
first_of-push : (spellings : List (ℕ × List ℕ)) (s : ℕ × List ℕ) (sign : ℕ) → first_of (spellings ++ s ∷ []) sign ≡ option_or (first_of spellings sign) (if s.0 == sign then Some s.1 else None)
first_of-push [] s sign = ⊎_elim (λ (yes : (s.0 == sign) ≡ true). rw yes refl) (λ (no : (s.0 == sign) ≡ false). rw no refl) (cases_Bool (s.0 == sign))
first_of-push (x ∷ xs) s sign = ⊎_elim (λ (yes : (x.0 == sign) ≡ true). rw yes refl) (λ (no : (x.0 == sign) ≡ false). rw no (first_of-push xs s sign)) (cases_Bool (x.0 == sign))

-- what is there stays
or_there : (o p : Option (List ℕ)) (x : List ℕ) → o ≡ Some x → o ≡ option_or o p
or_there None p x h = absurd (cc)
or_there (Some y) p x h = refl

or_nothing : (o : Option (List ℕ)) → o ≡ option_or o None
or_nothing None = refl
or_nothing (Some x) = refl

-- the first spellings, with that of a new letter
firsts_new : (firsts : List (List ℕ)) (spellings : List (ℕ × List ℕ)) (sign : ℕ) (text : List ℕ) → ((n : ℕ) → slice_get firsts n ≡ first_of spellings (n + 2))
    → sign ≡ length firsts + 2 → (n : ℕ) → slice_get (firsts ++ text ∷ []) n ≡ first_of (spellings ++ (sign, text) ∷ []) (n + 2)
firsts_new firsts spellings sign text before new n =
    let there : slice_get firsts n ≡ first_of spellings (n + 2) = before n in
    ⊎_elim (λ (here : n ≡ length firsts). let yes : (n == length firsts) ≡ true = eq-eqb _ _ here in let same : (sign == n + 2)
    ≡ true = eq-eqb _ _ (omega arith) in rw (slice_get-push firsts text n, first_of-push spellings (sign, text) (n + 2), yes, same, there) refl)
    (λ (other : n ≡ length firsts → ⊥). let no : (n == length firsts) ≡ false = ne_eqb _ _ other in let differ : (sign == n + 2)
    ≡ false = ne_eqb _ _ (λ (same : sign ≡ n + 2). other (omega arith)) in rw (slice_get-push firsts text n, first_of-push spellings (sign, text) (n + 2), no, differ, there) refl)
    (cases_eq n (length firsts))

-- the first spellings, where the letter is there
firsts_old : (firsts : List (List ℕ)) (spellings : List (ℕ × List ℕ)) (sign : ℕ) (text : List ℕ) → ((n : ℕ) → slice_get firsts n ≡ first_of spellings (n + 2))
    → sign ≡ length firsts + 1 → 2 ≤ sign → (n : ℕ) → slice_get firsts n ≡ first_of (spellings ++ (sign, text) ∷ []) (n + 2)
firsts_old firsts spellings sign text before old some n =
    let there : slice_get firsts n ≡ first_of spellings (n + 2) = before n in
    ⊎_elim (λ (here : sign ≡ n + 2). let found : slice_get firsts n ≡ Some (get_or firsts n []) = slice_get-get_or firsts n [] (omega arith) in
    rw (first_of-push spellings (sign, text) (n + 2), ← there) (or_there (slice_get firsts n) (if sign == n + 2 then Some text else None) (get_or firsts n []) found))
    (λ (other : sign ≡ n + 2 → ⊥). let differ : (sign == n + 2) ≡ false = ne_eqb _ _ other in rw (first_of-push spellings (sign, text) (n + 2), differ, ← there) (or_nothing (slice_get firsts n)))
    (cases_eq sign (n + 2))

-- the number of letters with one spelling more
pub letters_in-push : (spellings : List (ℕ × List ℕ)) (s : ℕ × List ℕ) → letters_in (spellings ++ s ∷ []) ≡ max (letters_in spellings) (s.0 - 1)
letters_in-push spellings s = fold-append (λ n spelling. max n (spelling.0 - 1)) 0 spellings (s ∷ [])

-- two tests in either order
clash_comm : (s t : ℕ × List ℕ) → clash s t ≡ false → clash t s ≡ false
clash_comm s t h =
    or_swap (starts_with nat_eq s.1 t.1) (starts_with nat_eq t.1 s.1) (s.0 == t.0) (t.0 == s.0) (length s.1 == length t.1) (length t.1 == length s.1)
    (eqb_swap s.0 t.0) (eqb_swap (length s.1) (length t.1)) h
  where
    eqb_swap : (a b : ℕ) → (a == b) ≡ (b == a)
    eqb_swap a b = ⊎_elim (λ (same : a ≡ b). eq-eqb a b same ∙ sym (eq-eqb b a (sym same))) (λ (other : a ≡ b → ⊥). ne_eqb a b other ∙ sym (ne_eqb b a (λ same. other (sym same)))) (cases_eq a b)

    or_comm : (x y : Bool) → (x || y) ≡ (y || x)
    or_comm true true = refl
    or_comm true false = refl
    or_comm false true = refl
    or_comm false false = refl

    or_swap : (x y p q u v : Bool) → p ≡ q → u ≡ v → ((x || y) && not (p && u)) ≡ false → ((y || x) && not (q && v)) ≡ false
    or_swap x y p q u v first second h = subst (λ (z : Bool). ((y || x) && not (z && v)) ≡ false) first
        (subst (λ (z : Bool). ((y || x) && not (p && z)) ≡ false) second (subst (λ (z : Bool). (z && not (p && u)) ≡ false) (or_comm x y) h))

-- a spelling does not clash with itself
clash_same : (s : ℕ × List ℕ) → clash s s ≡ false
clash_same s = rw (eq-eqb s.0 s.0 refl, eq-eqb (length s.1) (length s.1) refl) (and_false (starts_with nat_eq s.1 s.1 || starts_with nat_eq s.1 s.1))
  where
    and_false : (x : Bool) → (x && false) ≡ false
    and_false true = refl
    and_false false = refl

-- the spellings with one more are apart
apart_push : (spellings : List (ℕ × List ℕ)) (s : ℕ × List ℕ) → AreApart spellings → list_any (clash s) spellings ≡ false → AreApart (spellings ++ s ∷ [])
apart_push spellings s apart none p q inp inq =
    ⊎_elim (λ (oldp : IsAmong p spellings). ⊎_elim (λ (oldq : IsAmong q spellings). apart p q oldp oldq)
    (λ (newq : q ≡ s). subst (λ (z : ℕ × List ℕ). clash p z ≡ false) (sym newq) (clash_comm s p (list_any_at (clash s) spellings p none oldp))) (IsAmong-push spellings s q inq))
    (λ (newp : p ≡ s). ⊎_elim (λ (oldq : IsAmong q spellings). subst (λ (z : ℕ × List ℕ). clash z q ≡ false) (sym newp) (list_any_at (clash s) spellings q none oldq))
    (λ (newq : q ≡ s). subst (λ (z : ℕ × List ℕ). clash z q ≡ false) (sym newp) (subst (λ (z : ℕ × List ℕ). clash s z ≡ false) (sym newq) (clash_same s))) (IsAmong-push spellings s q inq))
    (IsAmong-push spellings s p inp)

-- what holds of each spelling and of one more
push_all : (P : ℕ × List ℕ → Type 0) (spellings : List (ℕ × List ℕ)) (s : ℕ × List ℕ) → ((t : ℕ × List ℕ) → IsAmong t spellings → P t) → P s → (t : ℕ × List ℕ) → IsAmong t (spellings ++ s ∷ []) → P t
push_all P spellings s all here t among = ⊎_elim (λ (old : IsAmong t spellings). all t old) (λ (new : t ≡ s). subst P (sym new) here) (IsAmong-push spellings s t among)

-- an index with one spelling more is one
pub add_index : (old new : Index) (sign : ℕ) (text : Text) → IsIndex old → pairs new ≡ pairs old ++ (sign, text_of text) ∷ [] → new.firsts.items
    ≡ (if sign == length old.firsts.items + 2 then old.firsts.items ++ text ∷ [] else old.firsts.items)
    → ((q : List ℕ) → AreBytes q → 0 < length q → front_at new (front_code q) ≡ option_or (front_of (sign, text_of text) q) (front_at old (front_code q)))
    → list_any (clash (sign, text_of text)) (pairs old) ≡ false → letters_in (pairs old) + 1 ≤ sign → sign ≤ letters_in (pairs old) + 2 → 2 ≤ sign
    → 0 < length (text_of text) → length (text_of text) ≤ 8 → IsIndex new
add_index old new sign text sound spellings firsts fronts apart low high letter some few = record {
  fronts = λ q bytes more. fronts q bytes more ∙ ap (option_or (front_of (sign, text_of text) q)) (sound.fronts q bytes more)
      ∙ sym (front_in-push (pairs old) (sign, text_of text) q) ∙ ap (λ (ss : List (ℕ × List ℕ)). front_in ss q) (sym spellings);
  firsts = λ n. subst (λ (ss : List (ℕ × List ℕ)). slice_get (firsts_of new) n ≡ first_of ss (n + 2)) (sym spellings) (all_firsts n);
  letters = subst (λ (ss : List (ℕ × List ℕ)). length new.firsts.items ≡ letters_in ss) (sym spellings) (all_letters ∙ sym (letters_in-push (pairs old) (sign, text_of text)));
  apart = subst AreApart (sym spellings) (apart_push (pairs old) (sign, text_of text) sound.apart apart);
  signs = λ s among. push_all (λ s. 1 < s.0) (pairs old) (sign, text_of text) sound.signs (omega arith) s (subst (IsAmong s) spellings among);
  some = λ s among. push_all (λ s. 0 < length s.1) (pairs old) (sign, text_of text) sound.some some s (subst (IsAmong s) spellings among);
  few = λ s among. push_all (λ s. length s.1 ≤ 8) (pairs old) (sign, text_of text) sound.few few s (subst (IsAmong s) spellings among);
}
  where
    count : length old.firsts.items ≡ letters_in (pairs old)
    count = sound.letters

    mapped : length (firsts_of old) ≡ length old.firsts.items
    mapped = length-map old.firsts.items text_of

    absurd_or_last : (sign ≡ length old.firsts.items + 2 → ⊥) → sign ≡ length (firsts_of old) + 1
    absurd_or_last other = let counted : length old.firsts.items ≡ letters_in (pairs old) = sound.letters in let same : length (firsts_of old)
        ≡ length old.firsts.items = length-map old.firsts.items text_of in ⊎_elim (λ (less : sign < letters_in (pairs old) + 2). omega arith)
        (λ (more : letters_in (pairs old) + 2 ≤ sign). absurd (other (omega arith))) (cases_lt sign (letters_in (pairs old) + 2))

    all_firsts : (n : ℕ) → slice_get (firsts_of new) n ≡ first_of (pairs old ++ (sign, text_of text) ∷ []) (n + 2)
    all_firsts n =
        ⊎_elim (λ (new_letter : sign ≡ length old.firsts.items + 2). let test : (sign == length old.firsts.items + 2) ≡ true = eq-eqb _ _ new_letter in
        let items : new.firsts.items ≡ old.firsts.items ++ text ∷ [] = firsts ∙ rw test refl in ap (λ (ts : List Text). slice_get (map text_of ts) n) items
        ∙ ap (λ (ts : List (List ℕ)). slice_get ts n) (map_push text_of old.firsts.items text) ∙ firsts_new (firsts_of old) (pairs old) sign (text_of text) sound.firsts (omega (arith, mapped)) n)
        (λ (old_letter : sign ≡ length old.firsts.items + 2 → ⊥). let test : (sign == length old.firsts.items + 2) ≡ false = ne_eqb _ _ old_letter in
        let items : new.firsts.items ≡ old.firsts.items = firsts ∙ rw test refl in let last : sign ≡ length (firsts_of old) + 1 = absurd_or_last old_letter in
        ap (λ (ts : List Text). slice_get (map text_of ts) n) items ∙ firsts_old (firsts_of old) (pairs old) sign (text_of text) sound.firsts last letter n)
        (cases_eq sign (length old.firsts.items + 2))

    all_letters : length new.firsts.items ≡ max (letters_in (pairs old)) (sign - 1)
    all_letters =
        ⊎_elim (λ (new_letter : sign ≡ length old.firsts.items + 2). let test : (sign == length old.firsts.items + 2) ≡ true = eq-eqb _ _ new_letter in
        let items : new.firsts.items ≡ old.firsts.items ++ text ∷ [] = firsts ∙ rw test refl in let more : length new.firsts.items
        ≡ length old.firsts.items + 1 = ap length items ∙ length_push old.firsts.items text in omega (arith, count, mapped))
        (λ (old_letter : sign ≡ length old.firsts.items + 2 → ⊥). let test : (sign == length old.firsts.items + 2) ≡ false = ne_eqb _ _ old_letter in
        let items : new.firsts.items ≡ old.firsts.items = firsts ∙ rw test refl in let same : length new.firsts.items ≡ length old.firsts.items =
        ap length items in let last : sign ≡ length (firsts_of old) + 1 = absurd_or_last old_letter in omega (arith, count, mapped)) (cases_eq sign (length old.firsts.items + 2))
