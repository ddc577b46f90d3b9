-- Fronts of spellings, and the first spelling that begins a text.
use Rattle.std.proofs.Common.{◌≡◌, ℕ, ◌<◌, ◌==◌, Bool, true, false, cond, ◌&&◌, ◌||◌, ◌⊎◌, inl, inr, ⊎_elim, List, []}
use Rattle.std.proofs.Common.{◌∷◌, ◌++◌, length, find, Option, Some, None, refl, sym, ap, ap₂, ◌∙◌, arith, subst, nat_eq}
use Rattle.std.specs.List.{list_any, starts_with}
use Rattle.std.specs.Option.{option_or}
use Rattle.std.proofs.lemmas.Bool.{and_parts, and_cases, or_parts, or_from, or_left, or_right, not-false, eqb-true, true≢false, cases_lt, cases_Bool}
use Rattle.pg_translate.specs.declared.index.Front.{Front}
use Rattle.pg_translate.specs.declared.index.Front.TheVariants.{Inside, Whole}
use Rattle.pg_translate.specs.Spellings.{clash}
use Rattle.pg_translate.specs.Inside.spellings.Members.{IsAmong}
use Rattle.pg_translate.specs.Inside.spellings.Fronts.{front_of, front_in}
use Rattle.pg_translate.proofs.Prefixes.{begins_both, begins_equal}

-- a choice is one of its two values
or_some : (o p : Option Front) (f : Front) → option_or o p ≡ Some f → (o ≡ Some f) ⊎ (p ≡ Some f)
or_some None p f h = inr h
or_some (Some x) p f h = inl h

or_none : (o p : Option Front) → option_or o p ≡ None → (o ≡ None) × (p ≡ None)
or_none None p h = (refl, h)
or_none (Some x) p h = absurd (cc)

-- what a front is to one spelling
pub record IsWhole (spelling : ℕ × List ℕ) (text : List ℕ) (sign : ℕ) : Type 0 where
  pub same_sign : sign ≡ spelling.0
  pub same_text : text ≡ spelling.1

pub record IsInside (spelling : ℕ × List ℕ) (text : List ℕ) : Type 0 where
  pub front : starts_with nat_eq spelling.1 text ≡ true
  pub proper : (length text == length spelling.1) ≡ false

front_whole : (spelling : ℕ × List ℕ) (text : List ℕ) (sign : ℕ) → front_of spelling text ≡ Some (Whole sign) → IsWhole spelling text sign
front_whole spelling text sign h =
    let by_length : (b c : Bool) → b ≡ starts_with nat_eq spelling.1 text → c ≡ (length text == length spelling.1) → cond b (Some (cond c (Whole spelling.0) Inside)) None
    ≡ Some (Whole sign) → IsWhole spelling text sign = λ b c. elim b as (λ (b : Bool). b ≡ starts_with nat_eq spelling.1 text → c
    ≡ (length text == length spelling.1) → cond b (Some (cond c (Whole spelling.0) Inside)) None ≡ Some (Whole sign) → IsWhole spelling text sign) [
      | true ↦ elim c as (λ (c : Bool). true ≡ starts_with nat_eq spelling.1 text → c ≡ (length text == length spelling.1) → Some (cond c (Whole spelling.0) Inside)
          ≡ Some (Whole sign) → IsWhole spelling text sign) [
            | true ↦ λ p q e. let same : sign ≡ spelling.0 = cc in record { same_sign = same; same_text = begins_equal spelling.1 text (sym p) (sym (eqb-true _ _ (sym q))) }
            | false ↦ λ p q e. absurd (cc)
          ]
      | false ↦ λ p q e. absurd (cc)
    ] in
    by_length (starts_with nat_eq spelling.1 text) (length text == length spelling.1) refl refl h

front_inside : (spelling : ℕ × List ℕ) (text : List ℕ) → front_of spelling text ≡ Some Inside → IsInside spelling text
front_inside spelling text h =
    let by_length : (b c : Bool) → b ≡ starts_with nat_eq spelling.1 text → c ≡ (length text == length spelling.1) → cond b (Some (cond c (Whole spelling.0) Inside)) None
    ≡ Some Inside → IsInside spelling text = λ b c. elim b as (λ (b : Bool). b ≡ starts_with nat_eq spelling.1 text → c ≡ (length text == length spelling.1)
    → cond b (Some (cond c (Whole spelling.0) Inside)) None ≡ Some Inside → IsInside spelling text) [
      | true ↦ elim c as (λ (c : Bool). true ≡ starts_with nat_eq spelling.1 text → c ≡ (length text == length spelling.1) → Some (cond c (Whole spelling.0) Inside)
          ≡ Some Inside → IsInside spelling text) [
            | true ↦ λ p q e. absurd (cc)
            | false ↦ λ p q e. record { front = sym p; proper = sym q }
          ]
      | false ↦ λ p q e. absurd (cc)
    ] in
    by_length (starts_with nat_eq spelling.1 text) (length text == length spelling.1) refl refl h

front_nothing : (spelling : ℕ × List ℕ) (text : List ℕ) → front_of spelling text ≡ None → starts_with nat_eq spelling.1 text ≡ false
front_nothing spelling text h =
    let by_front : (b : Bool) → b ≡ starts_with nat_eq spelling.1 text → cond b (Some (cond (length text == length spelling.1) (Whole spelling.0) Inside)) None
    ≡ None → starts_with nat_eq spelling.1 text ≡ false = λ b. elim b as (λ (b : Bool). b ≡ starts_with nat_eq spelling.1 text
    → cond b (Some (cond (length text == length spelling.1) (Whole spelling.0) Inside)) None ≡ None → starts_with nat_eq spelling.1 text ≡ false) [
      | true ↦ λ p e. absurd (cc)
      | false ↦ λ p e. sym p
    ] in
    by_front (starts_with nat_eq spelling.1 text) refl h

-- a whole spelling is among the spellings
pub whole_in : (spellings : List (ℕ × List ℕ)) (text : List ℕ) (sign : ℕ) → front_in spellings text ≡ Some (Whole sign) → IsAmong (sign, text) spellings
whole_in [] text sign h = absurd (cc)
whole_in (x ∷ xs) text sign h =
    ⊎_elim (λ later. inr (whole_in xs text sign later)) (λ here. let w : IsWhole x text sign = front_whole x text sign here in
    inl (ap₂ (λ (a : ℕ) (b : List ℕ). let p : ℕ × List ℕ = (a, b) in p) w.same_sign w.same_text)) (or_some (front_in xs text) (front_of x text) (Whole sign) h)

-- a text inside spellings is a proper front of one
pub inside_in : (spellings : List (ℕ × List ℕ)) (text : List ℕ) → front_in spellings text ≡ Some Inside → (s : ℕ × List ℕ) × IsAmong s spellings × IsInside s text
inside_in [] text h = absurd (cc)
inside_in (x ∷ xs) text h =
    ⊎_elim (λ later. let found : (s : ℕ × List ℕ) × IsAmong s xs × IsInside s text = inside_in xs text later in (found.0, inr found.1, found.2))
    (λ here. (x, inl refl, front_inside x text here)) (or_some (front_in xs text) (front_of x text) Inside h)

-- no spelling begins with a text that is no front
pub nothing_in : (spellings : List (ℕ × List ℕ)) (text : List ℕ) → front_in spellings text ≡ None → (s : ℕ × List ℕ) → IsAmong s spellings → starts_with nat_eq s.1 text ≡ false
nothing_in [] text h s among = absurd among
nothing_in (x ∷ xs) text h s among =
    let parts : (front_in xs text ≡ None) × (front_of x text ≡ None) = or_none (front_in xs text) (front_of x text) h in
    ⊎_elim (λ (here : s ≡ x). let none : starts_with nat_eq x.1 text ≡ false = front_nothing x text parts.1 in subst (λ (y : ℕ × List ℕ). starts_with nat_eq y.1 text ≡ false) (sym here) none)
    (λ later. nothing_in xs text parts.0 s later) among

-- a spelling at the end is the last one asked
pub front_in-push : (spellings : List (ℕ × List ℕ)) (s : ℕ × List ℕ) (text : List ℕ) → front_in (spellings ++ s ∷ []) text ≡ option_or (front_of s text) (front_in spellings text)
front_in-push [] s text =
    let by_front : (o : Option Front) → o ≡ option_or o None = λ o. elim o as (λ (o : Option Front). o ≡ option_or o None) [ None ↦ refl | Some f ↦ refl ] in
    by_front (front_of s text)
front_in-push (x ∷ xs) s text =
    let regroup : (o p q : Option Front) → option_or (option_or o p) q ≡ option_or o (option_or p q) =
    λ o p q. elim o as (λ (o : Option Front). option_or (option_or o p) q ≡ option_or o (option_or p q)) [ None ↦ refl | Some f ↦ refl ] in
    ap (λ (o : Option Front). option_or o (front_of x text)) (front_in-push xs s text) ∙ regroup (front_of s text) (front_in xs text) (front_of x text)

-- what is among spellings with one more
pub IsAmong-push : (spellings : List (ℕ × List ℕ)) (s t : ℕ × List ℕ) → IsAmong t (spellings ++ s ∷ []) → IsAmong t spellings ⊎ (t ≡ s)
IsAmong-push [] s t among = ⊎_elim (λ here. inr here) (λ later. absurd later) among
IsAmong-push (x ∷ xs) s t among =
    ⊎_elim (λ here. inl (inl here)) (λ later. ⊎_elim (λ old. inl (inr old)) (λ new. inr new) (IsAmong-push xs s t later)) among

-- nothing is found where no element passes
pub find_none : (test : ℕ × List ℕ → Bool) (spellings : List (ℕ × List ℕ)) → ((s : ℕ × List ℕ) → IsAmong s spellings → test s ≡ false) → find test spellings ≡ None
find_none test [] none = refl
find_none test (x ∷ xs) none =
    let rest : find test xs ≡ None = find_none test xs (λ s among. none s (inr among)) in
    rw (none x (inl refl)) rest

-- no element passes a test that none passes
pub list_any_none : (test : ℕ × List ℕ → Bool) (spellings : List (ℕ × List ℕ)) → ((s : ℕ × List ℕ) → IsAmong s spellings → test s ≡ false) → list_any test spellings ≡ false
list_any_none test [] none = refl
list_any_none test (x ∷ xs) none = or_from _ _ (none x (inl refl)) (list_any_none test xs (λ s among. none s (inr among)))

-- an element passes where one does
pub list_any_some : (test : ℕ × List ℕ → Bool) (spellings : List (ℕ × List ℕ)) (s : ℕ × List ℕ) → IsAmong s spellings → test s ≡ true → list_any test spellings ≡ true
list_any_some test [] s among h = absurd among
list_any_some test (x ∷ xs) s among h =
    ⊎_elim (λ (here : s ≡ x). or_left _ _ (subst (λ (y : ℕ × List ℕ). test y ≡ true) here h)) (λ later. or_right _ _ (list_any_some test xs s later h)) among

-- an element passes no test that none passes
pub list_any_at : (test : ℕ × List ℕ → Bool) (spellings : List (ℕ × List ℕ)) (s : ℕ × List ℕ) → list_any test spellings ≡ false → IsAmong s spellings → test s ≡ false
list_any_at test [] s h among = absurd among
list_any_at test (x ∷ xs) s h among =
    let parts : (test x ≡ false) × (list_any test xs ≡ false) = or_parts _ _ h in
    ⊎_elim (λ (here : s ≡ x). subst (λ (y : ℕ × List ℕ). test y ≡ false) (sym here) parts.0) (λ later. list_any_at test xs s parts.1 later) among

-- spellings that do not clash, of which one begins with the other, are equal
pub apart_equal : (s t : ℕ × List ℕ) → clash s t ≡ false → (starts_with nat_eq s.1 t.1 || starts_with nat_eq t.1 s.1) ≡ true → s ≡ t
apart_equal s t apart touch =
    let same : (s.0 == t.0 && length s.1 == length t.1) ≡ true = not-false _
    (⊎_elim (λ (no : (starts_with nat_eq s.1 t.1 || starts_with nat_eq t.1 s.1) ≡ false). absurd (cc)) (λ yes. yes) (and_cases _ _ apart)) in
    let signs : s.0 ≡ t.0 = eqb-true _ _ (and_parts _ _ same).0 in
    let lengths : length s.1 ≡ length t.1 = eqb-true _ _ (and_parts _ _ same).1 in
    let texts : s.1 ≡ t.1 = ⊎_elim (λ first. sym (begins_equal s.1 t.1 first lengths)) (λ second. begins_equal t.1 s.1 second (sym lengths)) (or_which _ _ touch) in
    ap₂ (λ (a : ℕ) (b : List ℕ). let p : ℕ × List ℕ = (a, b) in p) signs texts
  where
    or_which : (x y : Bool) → (x || y) ≡ true → (x ≡ true) ⊎ (y ≡ true)
    or_which true y h = inl refl
    or_which false y h = inr h

-- of two spellings that begin one text, one begins with the other
pub begin_one : (text s t : List ℕ) → starts_with nat_eq text s ≡ true → starts_with nat_eq text t ≡ true → (starts_with nat_eq s t || starts_with nat_eq t s) ≡ true
begin_one text s t hs ht =
    ⊎_elim (λ (shorter : length s < length t). or_right _ _ (begins_both text t s ht hs (omega arith))) (λ longer. or_left _ _ (begins_both text s t hs ht longer)) (cases_lt (length s) (length t))

-- the spelling that begins a text is the one that is found
pub find_begins : (text : List ℕ) (spellings : List (ℕ × List ℕ)) (s : ℕ × List ℕ) → ((s t : ℕ × List ℕ) → IsAmong s spellings → IsAmong t spellings → clash s t ≡ false)
    → IsAmong s spellings → starts_with nat_eq text s.1 ≡ true → find (λ spelling. starts_with nat_eq text spelling.1) spellings ≡ Some s
find_begins text [] s apart among h = absurd among
find_begins text (x ∷ xs) s apart among h =
    let here : starts_with nat_eq text x.1 ≡ true → x ≡ s = λ first. apart_equal x s (apart x s (inl refl) among) (begin_one text x.1 s.1 first h) in
    ⊎_elim (λ (yes : starts_with nat_eq text x.1 ≡ true). rw yes (ap (λ (p : ℕ × List ℕ). Some p) (here yes)))
    (λ (no : starts_with nat_eq text x.1 ≡ false). let later : IsAmong s xs =
    ⊎_elim (λ (is : s ≡ x). absurd (let yes : starts_with nat_eq text x.1 ≡ true = subst (λ (y : ℕ × List ℕ). starts_with nat_eq text y.1 ≡ true) is h in true≢false (sym yes ∙ no)))
    (λ later. later) among in rw no (find_begins text xs s (λ p q inp inq. apart p q (inr inp) (inr inq)) later h)) (cases_Bool (starts_with nat_eq text x.1))
