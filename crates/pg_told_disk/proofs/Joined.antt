-- A name has one folder, and the text of a link says one name.
use Rattle.std.proofs.Common.{◌≡◌, ◌≢◌, ⊎_elim, ℕ, ◌+◌, ◌-◌, ◌<◌, ◌≤◌, List, [], ◌∷◌, ◌++◌, take, length, get_or, Bool, true, false, refl, sym, ap, ◌∙◌, arith, length-append}
use Rattle.std.proofs.lemmas.Bool.{cases_lt}
use Rattle.std.proofs.lemmas.List.{get_or_append_left}
use Rattle.std.proofs.Math.Seq.{get_or-append_right, get_or-append_seam, take-append_seam}
use Rattle.pg_outside.specs.Inside.disk.NewNames.{IsFolderOf, IsLinkedName, is_rooted}

-- the slash at the end of a folder
slash_at : (name front last : List ℕ) → name ≡ (front ++ 47 ∷ []) ++ last
    → get_or name (length front) 0 ≡ 47
slash_at name front last is =
    ap (λ (l : List ℕ). get_or l (length front) 0) is
    ∙ get_or_append_left (front ++ 47 ∷ []) last 0 (length front) within
    ∙ get_or-append_seam front 47 [] 0
  where
    within : length front < length (front ++ 47 ∷ [])
    within = grind (arith, length-append)

-- no slash stands behind a folder
no_slash_behind : (name f last : List ℕ) (i : ℕ) → name ≡ f ++ last
    → ((place : ℕ) → place < length last → get_or last place 0 ≢ 47)
    → length f ≤ i → i < length name → get_or name i 0 ≡ 47 → ⊥
no_slash_behind name f last i is free from within slash =
    free (i - length f) below (sym behind ∙ slash)
  where
    sum : length name ≡ length f + length last
    sum = ap (λ (l : List ℕ). length l) is ∙ length-append f last

    below : i - length f < length last
    below = omega (arith, sum)

    behind : get_or name i 0 ≡ get_or last (i - length f) 0
    behind = ap (λ (l : List ℕ). get_or l i 0) is ∙ get_or-append_right f last i 0 from

not_shorter : (name f g : List ℕ) → IsFolderOf f name → IsFolderOf g name
    → length f < length g → ⊥
not_shorter name f g a b shorter = ⊎_elim
    (λ (none : g ≡ []). no_room (ap (λ (l : List ℕ). length l) none))
    (λ some. with_slash some.0 some.1)
    b.ends
  where
    no_room : length g ≡ 0 → ⊥
    no_room is = omega arith

    with_slash : (front : List ℕ) → g ≡ front ++ 47 ∷ [] → ⊥
    with_slash front is = no_slash_behind name f a.last (length front) a.is a.no_slash from within
        (slash_at name front b.last (b.is ∙ ap (λ (l : List ℕ). l ++ b.last) is))
      where
        size : length g ≡ length front + 1
        size = ap (λ (l : List ℕ). length l) is ∙ length-append front (47 ∷ [])

        whole : length name ≡ length g + length b.last
        whole = ap (λ (l : List ℕ). length l) b.is ∙ length-append g b.last

        from : length f ≤ length front
        from = omega (arith, size)

        within : length front < length name
        within = omega (arith, size, whole)

front_of : (name f : List ℕ) → IsFolderOf f name → take (length f) name ≡ f
front_of name f a = ap (λ (l : List ℕ). take (length f) l) a.is ∙ take-append_seam f a.last

pub one_folder : (name f g : List ℕ) → IsFolderOf f name → IsFolderOf g name → f ≡ g
one_folder name f g a b =
    sym (front_of name f a) ∙ ap (λ (k : ℕ). take k name) same ∙ front_of name g b
  where
    same : length f ≡ length g
    same = ⊎_elim
        (λ (lt : length f < length g). absurd (not_shorter name f g a b lt))
        (λ (ge : length g ≤ length f). ⊎_elim
        (λ (lt : length g < length f). absurd (not_shorter name g f b a lt))
        (λ (le : length f ≤ length g). omega arith)
        (cases_lt (length g) (length f)))
        (cases_lt (length f) (length g))

pub one_joined : (link text joined other : List ℕ) → IsLinkedName link text joined
    → IsLinkedName link text other → joined ≡ other
one_joined link text joined other a b = by_test (is_rooted text) refl
  where
    by_test : (r : Bool) → is_rooted text ≡ r → joined ≡ other
    by_test true is = a.rooted is ∙ sym (b.rooted is)
    by_test false is = a.inside is
        ∙ ap (λ (f : List ℕ). f ++ text) (one_folder link a.folder b.folder a.is_folder b.is_folder)
        ∙ sym (b.inside is)
