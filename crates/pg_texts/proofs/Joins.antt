-- Texts that are appended piece by piece.
use Rattle.std.proofs.Common.{◌≡◌, ℕ, ◌+◌, ◌<◌, ◌≤◌, Bool, true, false, cond, Result, Ok, Err, OnOk, is_ok, List, ◌∷◌, ◌++◌, length, map, drop, get_or, append_assoc, ap, sym, ◌∙◌}
use Rattle.std.specs.List.{filter, flat_map}
use Rattle.std.proofs.lemmas.List.{append-nil, drop_all, drop_more}

-- two numbers, each behind a text, and an end
pub two_numbers : (old f m g n end once twice all : List ℕ) → once ≡ old ++ f ++ m → twice ≡ once ++ g ++ n → all ≡ twice ++ end → all ≡ old ++ (f ++ m ++ g ++ n ++ end)
two_numbers old f m g n end once twice all a b c = rw (c, b, a) (simp append_assoc)

-- a text, a number behind another, and an end
pub then_a_number : (old k f l end one two all : List ℕ) → one ≡ old ++ k → two ≡ one ++ f ++ l → all ≡ two ++ end → all ≡ old ++ (k ++ f ++ l ++ end)
then_a_number old k f l end one two all a b c = rw (c, b, a) (simp append_assoc)

-- three numbers, the first at once
pub three_numbers : (old k f l g m end one two three all : List ℕ) → one ≡ old ++ k → two ≡ one ++ f ++ l → three ≡ two ++ g ++ m → all ≡ three ++ end
    → all ≡ old ++ (k ++ f ++ l ++ g ++ m ++ end)
three_numbers old k f l g m end one two three all a b c d = rw (d, c, b, a) (simp append_assoc)

-- four numbers, the first at once
pub four_numbers : (old k f l g m h n end one two three four all : List ℕ) → one ≡ old ++ k → two ≡ one ++ f ++ l → three ≡ two ++ g ++ m → four ≡ three
    ++ h ++ n → all ≡ four ++ end → all ≡ old ++ (k ++ f ++ l ++ g ++ m ++ h ++ n ++ end)
four_numbers old k f l g m h n end one two three four all a b c d e = rw (e, d, c, b, a) (simp append_assoc)

-- three texts, each behind another, and an end
pub three_texts : (old f x g y h z end one two three all : List ℕ) → one ≡ old ++ f ++ x → two ≡ one ++ g ++ y → three ≡ two ++ h ++ z → all ≡ three
    ++ end → all ≡ old ++ (f ++ x ++ g ++ y ++ h ++ z ++ end)
three_texts old f x g y h z end one two three all a b c d = rw (d, c, b, a) (simp append_assoc)

-- two texts, each behind another
pub two_texts : (old f x g y one two three all : List ℕ) → one ≡ old ++ f → two ≡ one ++ x → three ≡ two ++ g → all ≡ three ++ y → all ≡ old ++ (f ++ x ++ g ++ y)
two_texts old f x g y one two three all a b c d = rw (d, c, b, a) (simp append_assoc)

module _ {X Y : Type 0} (f : Y → List ℕ) (h : X → Y) (xs : List X) (i : ℕ) where
  -- the text of an element more
  pub lines_next : (d : X) (text new all : List ℕ) → i < length xs → new ≡ text ++ f (h (get_or xs i d)) → text ++ flat_map f (map h (drop i xs)) ≡ all
      → new ++ flat_map f (map h (drop (i + 1) xs)) ≡ all
  lines_next d text new all inside here so =
      let rest : List ℕ = flat_map f (map h (drop (i + 1) xs)) in
      ap (λ t. t ++ rest) here ∙ append_assoc text (f (h (get_or xs i d))) rest ∙ ap (λ ys. text ++ flat_map f (map h ys)) (sym (drop_more xs i d inside)) ∙ so

  -- no element is left
  pub lines_end : (text all : List ℕ) → length xs ≤ i → text ++ flat_map f (map h (drop i xs)) ≡ all → text ≡ all
  lines_end text all past so = sym (append-nil text) ∙ ap (λ ys. text ++ flat_map f (map h ys)) (sym (drop_all i xs past)) ∙ so

  module _ (test : Y → Bool) where
    -- an element more passes a test, or it does not
    pub tested_next : (d : X) (text new all : List ℕ) → i < length xs → test (h (get_or xs i d)) ≡ true → new ≡ text ++ f (h (get_or xs i d)) → text
        ++ flat_map f (filter test (map h (drop i xs))) ≡ all → new ++ flat_map f (filter test (map h (drop (i + 1) xs))) ≡ all
    tested_next d text new all inside is here so =
        let y : Y = h (get_or xs i d) in
        let left : List Y = filter test (map h (drop (i + 1) xs)) in
        ap (λ t. t ++ flat_map f left) here ∙ append_assoc text (f y) (flat_map f left) ∙ ap (λ b. text ++ flat_map f (cond b (y ∷ left) left)) (sym is)
        ∙ ap (λ ys. text ++ flat_map f (filter test (map h ys))) (sym (drop_more xs i d inside)) ∙ so

    pub tested_skip : (d : X) (text all : List ℕ) → i < length xs → test (h (get_or xs i d)) ≡ false → text ++ flat_map f (filter test (map h (drop i xs)))
        ≡ all → text ++ flat_map f (filter test (map h (drop (i + 1) xs))) ≡ all
    tested_skip d text all inside is so =
        let y : Y = h (get_or xs i d) in
        let left : List Y = filter test (map h (drop (i + 1) xs)) in
        ap (λ b. text ++ flat_map f (cond b (y ∷ left) left)) (sym is) ∙ ap (λ ys. text ++ flat_map f (filter test (map h ys))) (sym (drop_more xs i d inside)) ∙ so

    pub tested_end : (text all : List ℕ) → length xs ≤ i → text ++ flat_map f (filter test (map h (drop i xs))) ≡ all → text ≡ all
    tested_end text all past so = sym (append-nil text) ∙ ap (λ ys. text ++ flat_map f (filter test (map h ys))) (sym (drop_all i xs past)) ∙ so

-- where a text is appended, the new one has it behind the old one
pub appended : {T E : Type 0} (r : Result T E) (new whole old : List ℕ) → new ≡ cond (is_ok r) whole old → OnOk r (new ≡ whole)
appended (Ok x) new whole old is = is
appended (Err e) new whole old is = tt
