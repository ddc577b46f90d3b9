-- Entering the fronts of a spelling into an index.
use Rattle.std.proofs.Common.{◌≡◌, ℕ, ◌+◌, ◌*◌, ◌<◌, ◌≤◌, ◌==◌, nat_le, true, false, if◌then◌else◌, ⊎_elim, List, length, take, get_or, Option, Some, None, refl, sym, ap, ◌∙◌, subst, arith, nat_eq}
use Rattle.std.specs.List.{starts_with}
use Rattle.std.specs.Option.{option_or}
use Rattle.std.proofs.lemmas.Bool.{cases_Bool, cases_lt, eqb-true, eqb-false, le-leb, lt-leb, false_from_ne_true}
use Rattle.std.proofs.lemmas.List.{length-take-le}
use Rattle.pg_translate.specs.declared.index.Front.{Front}
use Rattle.pg_translate.specs.declared.index.Front.TheVariants.{Inside, Whole}
use Rattle.pg_translate.specs.declared.index.Index.{Index}
use Rattle.pg_translate.specs.Inside.spellings.Fronts.{AreBytes, front_code, front_at, front_of}
use Rattle.pg_translate.proofs.Prefixes.{begins-take, begins_front, begins_within}
use Rattle.pg_translate.proofs.Codes.{code_same, code_some, code_more}
use Rattle.pg_translate.proofs.Walks.{HoldsBytes, bytes_take}

-- what a text is to a spelling of which the fronts of at most some bytes are entered
abbrev pub entered : ℕ × List ℕ → ℕ → List ℕ → Option Front
entered spelling size text = if nat_le (length text) size then front_of spelling text else None

-- what entering the first fronts of a spelling keeps
pub record HasEntered (old new : Index) (spelling : ℕ × List ℕ) (i code : ℕ) : Type 0 where
  pub code_is : code ≡ front_code (take i spelling.1)
  pub fronts : (text : List ℕ) → AreBytes text → 0 < length text → front_at new (front_code text) ≡ option_or (entered spelling i text) (front_at old (front_code text))
  pub spellings : new.spellings ≡ old.spellings
  pub firsts : new.firsts ≡ old.firsts

-- the front of a spelling of some size
abbrev pub front_of_size : ℕ × List ℕ → ℕ → Front
front_of_size spelling size = if size == length spelling.1 then Whole spelling.0 else Inside

-- a front of a spelling
entered_here : (spelling : ℕ × List ℕ) (size : ℕ) → size ≤ length spelling.1 → entered spelling size (take size spelling.1) ≡ Some (front_of_size spelling size)
entered_here spelling size few =
    let lengths : length (take size spelling.1) ≡ size = length-take-le size spelling.1 few in
    rw (begins-take size spelling.1, lengths, le-leb size size (omega arith)) refl

-- a text that is not the front of its size is entered no later
entered_other : (spelling : ℕ × List ℕ) (i : ℕ) (text : List ℕ) → (text ≡ take (i + 1) spelling.1 → ⊥) → entered spelling (i + 1) text ≡ entered spelling i text
entered_other spelling i text other =
    ⊎_elim (λ (longer : i < length text). ⊎_elim (λ (past : i + 1 < length text). rw (lt-leb (length text) (i + 1) past, lt-leb (length text) i longer) refl)
    (λ (here : length text ≤ i + 1). let apart : starts_with nat_eq spelling.1 text
    ≡ false = false_from_ne_true _ (λ front. other (subst (λ (n : ℕ). text ≡ take n spelling.1) (let same : length text ≡ i + 1 = omega arith in same) (begins_front spelling.1 text front))) in
    rw (le-leb (length text) (i + 1) here, lt-leb (length text) i longer, apart) refl) (cases_lt (i + 1) (length text)))
    (λ (shorter : length text ≤ i). rw (le-leb (length text) (i + 1) (let more : length text ≤ i + 1 = omega arith in more), le-leb (length text) i shorter) refl) (cases_lt i (length text))

-- one front more
pub enter_more : (old mid new : Index) (spelling : ℕ × List ℕ) (i code : ℕ) → HoldsBytes spelling.1 → HasEntered old mid spelling i code → i < length spelling.1
    → ((other : ℕ) → 256 ≤ other → front_at new other ≡ (if other == code * 256 + get_or spelling.1 i 0 then Some (front_of_size spelling (i + 1)) else front_at mid other))
    → new.spellings ≡ mid.spellings → new.firsts ≡ mid.firsts → HasEntered old new spelling (i + 1) (code * 256 + get_or spelling.1 i 0)
enter_more old mid new spelling i code bytes before inside set spellings firsts = record {
  code_is = next;
  fronts = fronts;
  spellings = spellings ∙ before.spellings;
  firsts = firsts ∙ before.firsts;
}
  where
    next : code * 256 + get_or spelling.1 i 0 ≡ front_code (take (i + 1) spelling.1)
    next = ap (λ (n : ℕ). n * 256 + get_or spelling.1 i 0) before.code_is ∙ code_more spelling.1 i (get_or spelling.1 i 0) inside refl

    fronts : (text : List ℕ) → AreBytes text → 0 < length text → front_at new (front_code text) ≡ option_or (entered spelling (i + 1) text) (front_at old (front_code text))
    fronts text are some =
        ⊎_elim (λ (yes : (front_code text == code * 256 + get_or spelling.1 i 0) ≡ true). let same : text ≡ take (i + 1) spelling.1 =
        code_same text (take (i + 1) spelling.1) are (bytes_take (i + 1) spelling.1 bytes) (eqb-true _ _ yes ∙ next) in let here : entered spelling (i + 1) text
        ≡ Some (front_of_size spelling (i + 1)) = subst (λ (t : List ℕ). entered spelling (i + 1) t ≡ Some (front_of_size spelling (i + 1))) (sym same)
        (entered_here spelling (i + 1) (omega arith)) in set (front_code text) (code_some text some) ∙ rw (yes, here) refl)
        (λ (no : (front_code text == code * 256 + get_or spelling.1 i 0) ≡ false). let other : entered spelling (i + 1) text
        ≡ entered spelling i text = entered_other spelling i text (λ same. eqb-false _ _ no (ap front_code same ∙ sym next)) in set (front_code text) (code_some text some)
        ∙ rw (no, other) (before.fronts text are some)) (cases_Bool (front_code text == code * 256 + get_or spelling.1 i 0))

-- all fronts are entered
pub enter_end : (old new : Index) (spelling : ℕ × List ℕ) (i code : ℕ) → HasEntered old new spelling i code → length spelling.1 ≤ i → (text : List ℕ)
    → AreBytes text → 0 < length text → front_at new (front_code text) ≡ option_or (front_of spelling text) (front_at old (front_code text))
enter_end old new spelling i code done all text bytes some =
    let whole : entered spelling i text ≡ front_of spelling text = ⊎_elim (λ (longer : i < length text). let apart : starts_with nat_eq spelling.1 text
    ≡ false = false_from_ne_true _ (λ front. let within : length text ≤ length spelling.1 = begins_within spelling.1 text front in absurd (omega arith)) in
    rw (lt-leb (length text) i longer, apart) refl) (λ (shorter : length text ≤ i). rw (le-leb (length text) i shorter) refl) (cases_lt i (length text)) in
    done.fronts text bytes some ∙ ap (λ (o : Option Front). option_or o (front_at old (front_code text))) whole
