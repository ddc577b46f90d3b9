-- A word more in a store.
use Rattle.std.proofs.Common.{◌≡◌, ℕ, ◌+◌, ◌-◌, ◌≤◌, true, nat_le, List, [], ◌∷◌, ◌++◌, length, take, drop, map, slice_range, refl, sym, ◌∙◌, ap, subst, arith, length-append, length-drop}
use Rattle.std.specs.List.{flat_map, list_all, All}
use Rattle.std.proofs.lemmas.List.Elements.{All-push}
use Rattle.std.proofs.lemmas.List.{take-append-le, drop-append-le, drop_at, take_all, length-map, map-append}
use Rattle.std.proofs.lemmas.List.Folds.{list_all-append}
use Rattle.std.proofs.lemmas.List.Concat.{flat_map-append}
use Rattle.std.proofs.lemmas.List.{append-nil}
use Rattle.std.proofs.lemmas.Bool.{and_parts, and_from, leb-true, le-leb}
use Rattle.pg_types.proofs.BoolFacts.{all_weaker}
use Rattle.pg_dict.specs.declared.store.Store.{Store}
use Rattle.pg_dict.specs.declared.store.StoredWord.{StoredWord}
use Rattle.pg_dict.specs.Inside.Lines.PositionedSigns.{PositionedSign, Columns, with_signs}
use Rattle.pg_dict.specs.Word.{Word}
use Rattle.pg_dict.specs.Inside.SoundWords.{word_of_signs, IsWord}
use Rattle.pg_dict.specs.Inside.Store.{columns_of, word_at, stored_words, lies_within, IsSound}

-- a part of a list stays when the list grows
pub range_kept : {X : Type 0} (xs ys : List X) (a b : ℕ) → a ≤ b → b ≤ length xs → slice_range (xs ++ ys) a b ≡ slice_range xs a b
range_kept xs ys a b order within =
    let front : drop a (xs ++ ys) ≡ drop a xs ++ ys = drop-append-le a xs ys (omega arith) in
    ap (take (b - a)) front ∙ take-append-le (b - a) (drop a xs) ys (omega (arith, length-drop a xs))

-- the part that is new
pub range_new : {X : Type 0} (xs ys : List X) (a b : ℕ) → a ≡ length xs → b ≡ length xs + length ys → slice_range (xs ++ ys) a b ≡ ys
range_new xs ys a b from to =
    let front : drop a (xs ++ ys) ≡ ys = drop_at xs ys a (sym from) in
    ap (take (b - a)) front ∙ take_all (b - a) ys (omega arith)

-- four columns of one length
pub record IsEven (c : Columns) : Type 0 where
  pub hyphens_len : length c.hyphens ≡ length c.signs
  pub weights_len : length c.weights ≡ length c.signs
  pub cares_len : length c.cares ≡ length c.signs

-- a word stays when the columns grow
pub word_kept : (c : Columns) (positioned : List PositionedSign) (w : StoredWord) → IsEven c → lies_within (length c.signs) w ≡ true → word_at (with_signs c positioned) w ≡ word_at c w
word_kept c positioned w even within =
    let p = and_parts (nat_le w.start w.end) (nat_le w.end (length c.signs)) within in
    let order : w.start ≤ w.end = leb-true _ _ p.0 in
    let inside : w.end ≤ length c.signs = leb-true _ _ p.1 in
    rw (
      range_kept c.signs (map (λ (s : PositionedSign). s.sign) positioned) w.start w.end order inside,
      range_kept c.hyphens (map (λ (s : PositionedSign). s.hyphen) positioned) w.start w.end order (omega (arith, even.hyphens_len)),
      range_kept c.weights (map (λ (s : PositionedSign). s.weight) positioned) w.start w.end order (omega (arith, even.weights_len)),
      range_kept c.cares (map (λ (s : PositionedSign). s.care) positioned) w.start w.end order (omega (arith, even.cares_len)),
    ) refl

-- so do all words
pub words_kept : (c : Columns) (positioned : List PositionedSign) (ws : List StoredWord) → IsEven c → list_all (lies_within (length c.signs)) ws ≡ true
    → map (word_at (with_signs c positioned)) ws ≡ map (word_at c) ws
words_kept c positioned [] even within = refl
words_kept c positioned (w ∷ ws) even within =
    let p = and_parts (lies_within (length c.signs) w) (list_all (lies_within (length c.signs)) ws) within in
    let here : word_at (with_signs c positioned) w ≡ word_at c w = word_kept c positioned w even p.0 in
    let there : map (word_at (with_signs c positioned)) ws ≡ map (word_at c) ws = words_kept c positioned ws even p.1 in
    ap (λ (x : Word). x ∷ map (word_at (with_signs c positioned)) ws) here ∙ ap (λ (xs : List Word). word_at c w ∷ xs) there

-- the word of the new signs
pub word_new : (c : Columns) (positioned : List PositionedSign) (start end weight : ℕ) → IsEven c → start ≡ length c.signs → end ≡ length c.signs + length positioned
    → word_at (with_signs c positioned) (record { start = start; end = end; weight = weight }) ≡ word_of_signs weight positioned
word_new c positioned start end weight even from to =
    rw (
      range_new c.signs (map (λ (s : PositionedSign). s.sign) positioned) start end from (omega (arith, length-map positioned (λ (s : PositionedSign). s.sign))),
      range_new c.hyphens (map (λ (s : PositionedSign). s.hyphen) positioned) start end (omega (arith, even.hyphens_len))
          (omega (arith, even.hyphens_len, length-map positioned (λ (s : PositionedSign). s.hyphen))),
      range_new c.weights (map (λ (s : PositionedSign). s.weight) positioned) start end (omega (arith, even.weights_len))
          (omega (arith, even.weights_len, length-map positioned (λ (s : PositionedSign). s.weight))),
      range_new c.cares (map (λ (s : PositionedSign). s.care) positioned) start end (omega (arith, even.cares_len))
          (omega (arith, even.cares_len, length-map positioned (λ (s : PositionedSign). s.care))),
    ) refl

-- the columns of a sound store
pub even_of : (s : Store) → IsSound s → IsEven (columns_of s)
even_of s sound = record { hyphens_len = sound.hyphens_len; weights_len = sound.weights_len; cares_len = sound.cares_len }

-- how many signs the columns then have
pub length_signs : (s u : Store) (positioned : List PositionedSign) → columns_of u ≡ with_signs (columns_of s) positioned → length u.signs.items ≡ length s.signs.items + length positioned
length_signs s u positioned grown =
    let e : length u.signs.items ≡ length (s.signs.items ++ map (λ (x : PositionedSign). x.sign) positioned) = ap (λ (c : Columns). length c.signs) grown in
    e ∙ length-append s.signs.items (map (λ (x : PositionedSign). x.sign) positioned) ∙ ap (λ (n : ℕ). length s.signs.items + n) (length-map positioned (λ (x : PositionedSign). x.sign))

-- the words of a store with a word more
pub adds_words : (s u : Store) (positioned : List PositionedSign) (start end weight : ℕ) → IsSound s → columns_of u ≡ with_signs (columns_of s) positioned
    → u.words.items ≡ s.words.items ++ record { start = start; end = end; weight = weight } ∷ [] → start ≡ length s.signs.items → end ≡ length u.signs.items
    → stored_words u ≡ stored_words s ++ word_of_signs weight positioned ∷ []
adds_words s u positioned start end weight sound grown added from to =
    let w : StoredWord = record { start = start; end = end; weight = weight } in
    let c : Columns = with_signs (columns_of s) positioned in
    ap (λ (c : Columns). map (word_at c) u.words.items) grown
    ∙ ap (map (word_at c)) added
    ∙ map-append (word_at c) s.words.items (w ∷ [])
    ∙ ap (λ (ws : List Word). ws ++ word_at c w ∷ []) (words_kept (columns_of s) positioned s.words.items (even_of s sound) sound.within)
    ∙ ap (λ (x : Word). stored_words s ++ x ∷ []) (word_new (columns_of s) positioned start end weight (even_of s sound) from (to ∙ length_signs s u positioned grown))

-- a word lies within longer columns too
pub lies_within_more : (n m : ℕ) → n ≤ m → (w : StoredWord) → lies_within n w ≡ true → lies_within m w ≡ true
lies_within_more n m more w within =
    let p = and_parts (nat_le w.start w.end) (nat_le w.end n) within in
    let inside : w.end ≤ n = leb-true _ _ p.1 in
    and_from (nat_le w.start w.end) (nat_le w.end m) p.0 (le-leb w.end m (omega arith))

-- a column that is the words joined is so with a word more
column_joined : (column : Word → List ℕ) (words more : List Word) (w : Word) (old new : List ℕ) → more ≡ words ++ w ∷ [] → new ≡ old ++ column w → old
    ≡ flat_map column words → new ≡ flat_map column more
column_joined column words more w old new added grown joined =
    grown
    ∙ ap (λ (xs : List ℕ). xs ++ column w) joined
    ∙ sym (ap (flat_map column) added ∙ flat_map-append column words (w ∷ []) ∙ ap (λ (xs : List ℕ). flat_map column words ++ xs) (append-nil (column w)))

-- a store stays sound with a word more
pub adds_sound : (s u : Store) (positioned : List PositionedSign) (start end weight : ℕ) → IsSound s → columns_of u ≡ with_signs (columns_of s) positioned
    → u.words.items ≡ s.words.items ++ record { start = start; end = end; weight = weight } ∷ [] → start ≡ length s.signs.items → end ≡ length u.signs.items
    → IsWord (word_of_signs weight positioned) → IsSound u
adds_sound s u positioned start end weight sound grown added from to good =
    let w : StoredWord = record { start = start; end = end; weight = weight } in
    let n : ℕ = length u.signs.items in
    let signs : n ≡ length s.signs.items + length positioned = length_signs s u positioned grown in
    let hyphens : length u.hyphens.items ≡ length (s.hyphens.items ++ map (λ (x : PositionedSign). x.hyphen) positioned) = ap (λ (c : Columns). length c.hyphens) grown in
    let weights : length u.weights.items ≡ length (s.weights.items ++ map (λ (x : PositionedSign). x.weight) positioned) = ap (λ (c : Columns). length c.weights) grown in
    let cares : length u.cares.items ≡ length (s.cares.items ++ map (λ (x : PositionedSign). x.care) positioned) = ap (λ (c : Columns). length c.cares) grown in
    let words : stored_words u ≡ stored_words s ++ word_of_signs weight positioned ∷ [] = adds_words s u positioned start end weight sound grown added from to in
    let kept : list_all (lies_within n) s.words.items ≡ true = all_weaker (lies_within (length s.signs.items)) (lies_within n) s.words.items
    (lies_within_more (length s.signs.items) n (omega arith)) sound.within in
    let new : lies_within n w ≡ true = and_from (nat_le start end) (nat_le end n) (le-leb start end (omega arith)) (le-leb end n (omega arith)) in
    record {
      hyphens_len = omega (
        arith,
        hyphens,
        length-append s.hyphens.items (map (λ (x : PositionedSign). x.hyphen) positioned),
        length-map positioned (λ (x : PositionedSign). x.hyphen),
        sound.hyphens_len,
      );
      weights_len = omega (
        arith,
        weights,
        length-append s.weights.items (map (λ (x : PositionedSign). x.weight) positioned),
        length-map positioned (λ (x : PositionedSign). x.weight),
        sound.weights_len,
      );
      cares_len = omega (arith, cares, length-append s.cares.items (map (λ (x : PositionedSign). x.care) positioned), length-map positioned (λ (x : PositionedSign). x.care), sound.cares_len);
      within = ap (list_all (lies_within n)) added ∙ list_all-append (lies_within n) s.words.items (w ∷ []) ∙ and_from _ _ kept (and_from _ _ new refl);
      signs_joined = column_joined (λ (x : Word). x.signs) (stored_words s) (stored_words u) (word_of_signs weight positioned) s.signs.items u.signs.items words
          (ap (λ (c : Columns). c.signs) grown) sound.signs_joined;
      weights_joined = column_joined (λ (x : Word). x.weights) (stored_words s) (stored_words u) (word_of_signs weight positioned) s.weights.items u.weights.items words
          (ap (λ (c : Columns). c.weights) grown) sound.weights_joined;
      words = subst (All IsWord) (sym words) (All-push IsWord (stored_words s) (word_of_signs weight positioned) sound.words good);
    }
