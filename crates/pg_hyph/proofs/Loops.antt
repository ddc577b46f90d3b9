-- How far a walk has come: what the numbers are now, raised by what is left, is what they were, raised by the whole.
use Rattle.std.proofs.Common.{◌≡◌, ℕ, ◌+◌, ◌-◌, ◌<◌, ◌≤◌, max, List, [], ◌∷◌, ◌++◌, length, take, drop, get_or, refl, sym, ap, subst, ◌∙◌, append_assoc, arith, length-append, length-drop}
use Rattle.std.proofs.lemmas.List.{append-nil, drop_more, drop_all, take_more, get_or-drop, length-take-le}
use Rattle.pg_types.specs.declared.limits.TheConstants.{WORD_LETTERS_MAX}
use Rattle.pg_select.specs.Inside.words.Positions.{Raises}
use Rattle.pg_hyph.specs.Inside.Walks.{by_list, by_strings, by_starts}

abbrev pub Level : (ℕ → ℕ) → (ℕ → ℕ) → (ℕ → ℕ) → (ℕ → ℕ) → Type 0
Level left whole before now = (p : ℕ) → p < WORD_LETTERS_MAX + 2 → max (now p) (left p) ≡ max (before p) (whole p)

step : (now new part left more whole : ℕ) → new ≡ max now part → left ≡ max part more → max now left ≡ whole → max new more ≡ whole
step now new part left more whole p q r = omega arith

end : (now left whole : ℕ) → left ≡ 0 → max now left ≡ whole → now ≡ whole
end now left whole p q = omega arith

level_step : (left part more whole before now new : ℕ → ℕ) → ((p : ℕ) → left p ≡ max (part p) (more p)) → Level left whole before now → Raises part now new → Level more whole before new
level_step left part more whole before now new split level raises p inside =
    step (now p) (new p) (part p) (left p) (more p) (max (before p) (whole p)) (raises p inside) (split p) (level p inside)

level_end : (left whole before now : ℕ → ℕ) → ((p : ℕ) → left p ≡ 0) → Level left whole before now → Raises whole before now
level_end left whole before now none level p inside = end (now p) (left p) (max (before p) (whole p)) (none p) (level p inside)

ahead : (w : List ℕ) (stop s : ℕ) → stop < length w → s ≡ get_or w stop 0 → drop stop w ≡ s ∷ drop (stop + 1) w
ahead w stop s inside is = drop_more w stop 0 inside ∙ ap (λ n. n ∷ drop (stop + 1) w) (sym is)

-- the string from a start on, one sign longer
pub longer : (w : List ℕ) (start stop s : ℕ) → start ≤ stop → stop < length w → s ≡ get_or w stop 0 → take (stop + 1 - start) (drop start w) ≡ take (stop - start) (drop start w) ++ s ∷ []
longer w start stop s low inside is =
    let size : length (drop start w) ≡ length w - start = length-drop start w in
    let more : stop + 1 - start ≡ stop - start + 1 = omega arith in
    let at : start + (stop - start) ≡ stop = omega arith in
    ap (λ n. take n (drop start w)) more ∙ take_more (drop start w) (stop - start) 0 (omega arith)
    ∙ ap (λ n. take (stop - start) (drop start w) ++ n ∷ []) (get_or-drop start w (stop - start) 0 ∙ ap (λ n. get_or w n 0) at ∙ sym is)

none_left : (a b : ℕ) → a ≡ 0 → b ≡ 0 → max a b ≡ 0
none_left a b p q = omega arith

module _ (number : ℕ → ℕ × ℕ → ℕ) (F : List ℕ → List (ℕ × ℕ)) where
  -- where no longer string has a list, nothing is left
  strings_none : (start p : ℕ) (q rest : List ℕ) → ((s : ℕ) (more : List ℕ) → F (q ++ s ∷ more) ≡ []) → by_strings number F start q rest p ≡ 0
  strings_none start p q [] none = refl
  strings_none start p q (s ∷ rest) none =
      none_left (by_list (number (length (q ++ s ∷ []))) start (F (q ++ s ∷ [])) p) (by_strings number F start (q ++ s ∷ []) rest p)
      (ap (λ (ys : List (ℕ × ℕ)). by_list (number (length (q ++ s ∷ []))) start ys p) (none s []))
      (strings_none start p (q ++ s ∷ []) rest (λ t more. ap F (append_assoc q (s ∷ []) (t ∷ more)) ∙ none s (t ∷ more)))

  -- where no string that begins with the next one has a list, nothing is left
  strings_stop : (start p s : ℕ) (q rest : List ℕ) → ((more : List ℕ) → F ((q ++ s ∷ []) ++ more) ≡ []) → by_strings number F start q (s ∷ rest) p ≡ 0
  strings_stop start p s q rest none =
      none_left (by_list (number (length (q ++ s ∷ []))) start (F (q ++ s ∷ [])) p) (by_strings number F start (q ++ s ∷ []) rest p)
      (ap (λ (ys : List (ℕ × ℕ)). by_list (number (length (q ++ s ∷ []))) start ys p) (ap F (sym (append-nil (q ++ s ∷ []))) ∙ none []))
      (strings_none start p (q ++ s ∷ []) rest (λ t more. none (t ∷ more)))

module _ (number : ℕ → ℕ × ℕ → ℕ) (F : List ℕ → List (ℕ × ℕ)) (w : List ℕ) where
  -- the strings that begin at a start and end at `stop` or before were met
  abbrev pub AtStop : ℕ → ℕ → (ℕ → ℕ) → (ℕ → ℕ) → Type 0
  AtStop start stop before now = Level (by_strings number F start (take (stop - start) (drop start w)) (drop stop w)) (by_strings number F start [] (drop start w)) before now

  pub stop_first : (start : ℕ) (before : ℕ → ℕ) → AtStop start start before before
  stop_first start before p inside =
      let none : start - start ≡ 0 = omega arith in
      ap (λ n. max (before p) (by_strings number F start (take n (drop start w)) (drop start w) p)) none

  pub stop_next : (start stop s n : ℕ) (xs : List (ℕ × ℕ)) (before now new : ℕ → ℕ) → start ≤ stop → stop < length w → s ≡ get_or w stop 0 → n
      ≡ stop + 1 - start → xs ≡ F (take (stop - start) (drop start w) ++ s ∷ [])
      → AtStop start stop before now → Raises (by_list (number n) start xs) now new → AtStop start (stop + 1) before new
  stop_next start stop s n xs before now new low inside is size list level raises =
      let q : List ℕ = take (stop - start) (drop start w) in
      let left : length (drop start w) ≡ length w - start = length-drop start w in
      let walked : length (take (stop - start) (drop start w)) ≡ stop - start = length-take-le (stop - start) (drop start w) (omega arith) in
      let more : length (q ++ s ∷ []) ≡ length (take (stop - start) (drop start w)) + 1 = length-append q (s ∷ []) in
      let long : n ≡ length (q ++ s ∷ []) = omega arith in
      subst (λ (r : List ℕ). Level (by_strings number F start r (drop (stop + 1) w)) (by_strings number F start [] (drop start w)) before new) (sym (longer w start stop s low inside is))
      (level_step (by_strings number F start q (drop stop w)) (by_list (number (length (q ++ s ∷ []))) start (F (q ++ s ∷ [])))
      (by_strings number F start (q ++ s ∷ []) (drop (stop + 1) w)) (by_strings number F start [] (drop start w)) before now new
      (λ p. ap (λ (ys : List ℕ). by_strings number F start q ys p) (ahead w stop s inside is)) level
      (subst (λ k. Raises (by_list (number k) start (F (q ++ s ∷ []))) now new) long (subst (λ (ys : List (ℕ × ℕ)). Raises (by_list (number n) start ys) now new) list raises)))

  -- no string that ends later has a list
  pub stop_here : (start stop s : ℕ) (before now : ℕ → ℕ) → stop < length w → s ≡ get_or w stop 0 → ((more : List ℕ) → F ((take (stop - start) (drop start w) ++ s ∷ []) ++ more) ≡ [])
      → AtStop start stop before now
      → Raises (by_strings number F start [] (drop start w)) before now
  stop_here start stop s before now inside is none level =
      let q : List ℕ = take (stop - start) (drop start w) in
      level_end (by_strings number F start q (drop stop w)) (by_strings number F start [] (drop start w)) before now
      (λ p. ap (λ (ys : List ℕ). by_strings number F start q ys p) (ahead w stop s inside is) ∙ strings_stop number F start p s q (drop (stop + 1) w) none) level

  -- the word ends
  pub stop_last : (start stop : ℕ) (before now : ℕ → ℕ) → length w ≤ stop → AtStop start stop before now → Raises (by_strings number F start [] (drop start w)) before now
  stop_last start stop before now past level =
      let q : List ℕ = take (stop - start) (drop start w) in
      level_end (by_strings number F start q (drop stop w)) (by_strings number F start [] (drop start w)) before now
      (λ p. ap (λ (ys : List ℕ). by_strings number F start q ys p) (drop_all stop w past)) level

  -- the strings that begin before a start were met
  abbrev pub AtStart : ℕ → (ℕ → ℕ) → (ℕ → ℕ) → Type 0
  AtStart start before now = Level (by_starts number F start (drop start w)) (by_starts number F 0 w) before now

  pub start_next : (start : ℕ) (before now new : ℕ → ℕ) → start < length w → AtStart start before now → Raises (by_strings number F start [] (drop start w)) now new → AtStart (start + 1) before new
  start_next start before now new inside level raises =
      let cut : drop start w ≡ get_or w start 0 ∷ drop (start + 1) w = drop_more w start 0 inside in
      level_step (by_starts number F start (drop start w)) (by_strings number F start [] (drop start w)) (by_starts number F (start + 1) (drop (start + 1) w)) (by_starts number F 0 w) before now new
      (λ p. ap (λ (ys : List ℕ). by_starts number F start ys p) cut ∙ ap (λ (ys : List ℕ). max (by_strings number F start [] ys p) (by_starts number F (start + 1) (drop (start + 1) w) p)) (sym cut))
      level raises

  pub start_last : (start : ℕ) (before now : ℕ → ℕ) → length w ≤ start → AtStart start before now → Raises (by_starts number F 0 w) before now
  start_last start before now past level =
      level_end (by_starts number F start (drop start w)) (by_starts number F 0 w) before now (λ p. ap (λ (ys : List ℕ). by_starts number F start ys p) (drop_all start w past)) level
