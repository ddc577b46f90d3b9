-- The entries of one string among those of all.
use Rattle.std.proofs.Common.{◌≡◌, ◌≢◌, ℕ, suc, zero, ◌+◌, ◌-◌, ◌<◌, ◌≤◌, ◌⊎◌, inl, inr, true, false, cond, nat_eq, T, List, [], ◌∷◌, ◌++◌, length, map, filter, take, drop, get_or, slice_get, Some, refl, sym, ◌∙◌, ap, arith}
use Rattle.std.specs.declared.cmp.Ordering.{Ordering}
use Rattle.std.specs.declared.cmp.Ordering.TheVariants.{Less, Equal, Greater}
use Rattle.std.specs.Ordering.{nat_cmp, ordering_then, ordering_reverse}
use Rattle.std.specs.Cmp.Lexicographic.{slice_cmp, pointwise, texts_ties, nat_list_cmp_total}
use Rattle.std.specs.FinMap.Entries.{is_sorted}
use Rattle.std.proofs.lemmas.Bool.{cases_lt}
use Rattle.std.proofs.lemmas.List.{drop-drop, length-drop, map-append, append-nil, take-append-drop}
use Rattle.std.proofs.lemmas.List.Elements.{filter-append}
use Rattle.std.proofs.Math.Seq.{take-add}
use Rattle.std.proofs.lemmas.Option.{slice_get_within, slice_get-get_or, get_or_from_slice_get}
use Rattle.pg_types.specs.Tails.{outputs_of}
use Rattle.pg_patterns.specs.DottedSigns.{dotted_cmp}
use Rattle.pg_patterns.specs.Texts.{strings_of}
use Rattle.pg_patterns.specs.Inside.PatternLines.{with_string, strings_by}
use Rattle.pg_patterns.proofs.Ordered.{sorted_at}
use Rattle.pg_patterns.proofs.Strings.{string_once, string_ends, equal_signs, strings_as}
use Rattle.pg_cells.proofs.StringMaps.{same_string, same_itself, same_no}
use Rattle.pg_table.specs.Inside.text.PackedTrie.{IsGroup, dot_values}

abbrev pub Entry : Type 0
Entry = (List ℕ × ℕ) × ℕ

module _ {X : Type 0} where
  -- an element of what is left of a list, and of its front
  pub get_drop : (n : ℕ) (xs : List X) (k : ℕ) → slice_get (drop n xs) k ≡ slice_get xs (n + k)
  get_drop zero xs k = let e : 0 + k ≡ k = omega arith in ap (slice_get xs) (sym e)
  get_drop (suc n) [] k = refl
  get_drop (suc n) (x ∷ xs) k = let e : suc n + k ≡ suc (n + k) = omega arith in get_drop n xs k ∙ ap (slice_get (x ∷ xs)) (sym e)

  pub get_take : (n : ℕ) (xs : List X) (k : ℕ) (x : X) → slice_get (take n xs) k ≡ Some x → (k < n) × (slice_get xs k ≡ Some x)
  get_take zero xs k x at = cc
  get_take (suc n) [] k x at = cc
  get_take (suc n) (y ∷ xs) zero x at = (omega arith, at)
  get_take (suc n) (y ∷ xs) (suc k) x at = let rest = get_take n xs k x at in (omega (arith, rest.0), rest.1)

-- the values of a string among entries, part by part
pub outputs-append : (es fs : List Entry) (q : List ℕ) → outputs_of (es ++ fs) q ≡ outputs_of es q ++ outputs_of fs q
outputs-append es fs q =
    ap (map (λ e. (e.0.1, e.1))) (filter-append (λ e. pointwise nat_eq q e.0.0) es fs)
    ∙ map-append (λ e. (e.0.1, e.1)) (filter (λ e. pointwise nat_eq q e.0.0) es) (filter (λ e. pointwise nat_eq q e.0.0) fs)

test_same : (q r : List ℕ) → r ≡ q → pointwise nat_eq q r ≡ true
test_same q r same = texts_ties q r ∙ ap (same_string q) same ∙ same_itself q

test_other : (q r : List ℕ) → r ≢ q → pointwise nat_eq q r ≡ false
test_other q r other = texts_ties q r ∙ same_no q r (λ z. other (sym z))

pub outputs_all : (es : List Entry) (q : List ℕ) → ((k : ℕ) (e : Entry) → slice_get es k ≡ Some e → e.0.0 ≡ q) → outputs_of es q ≡ map (λ e. (e.0.1, e.1)) es
outputs_all [] q each = refl
outputs_all (e ∷ es) q each =
    ap (λ t. map (λ f. (f.0.1, f.1)) (cond t (e ∷ filter (λ f. pointwise nat_eq q f.0.0) es) (filter (λ f. pointwise nat_eq q f.0.0) es))) (test_same q e.0.0 (each 0 e refl))
    ∙ ap (λ l. (e.0.1, e.1) ∷ l) (outputs_all es q (λ k f at. each (suc k) f at))

pub outputs_none : (es : List Entry) (q : List ℕ) → ((k : ℕ) (e : Entry) → slice_get es k ≡ Some e → e.0.0 ≢ q) → outputs_of es q ≡ []
outputs_none [] q each = refl
outputs_none (e ∷ es) q each =
    ap (λ t. map (λ f. (f.0.1, f.1)) (cond t (e ∷ filter (λ f. pointwise nat_eq q f.0.0) es) (filter (λ f. pointwise nat_eq q f.0.0) es))) (test_other q e.0.0 (each 0 e refl))
    ∙ outputs_none es q (λ k f at. each (suc k) f at)

-- no string before a place is one from it on
pub record AreApart (P : List Entry) (at : ℕ) : Type 0 where
  pub apart : (j k : ℕ) (e f : Entry) → j < at → at ≤ k → slice_get P j ≡ Some e → slice_get P k ≡ Some f → e.0.0 ≢ f.0.0

-- of entries in order, those between two of one string are of that string
upto : (q r : List ℕ) (a b : ℕ) → dotted_cmp (q, a) (r, b) ≡ Less → (slice_cmp nat_cmp q r ≡ Less) ⊎ (q ≡ r)
upto q r a b less = by (slice_cmp nat_cmp q r) refl less
  where
    by : (o : Ordering) → slice_cmp nat_cmp q r ≡ o → ordering_then o (nat_cmp a b) ≡ Less → (slice_cmp nat_cmp q r ≡ Less) ⊎ (q ≡ r)
    by Less e l = inl e
    by Equal e l = inr (equal_signs q r e)
    by Greater e l = cc

place_before : (P : List Entry) → T (is_sorted dotted_cmp P) → (i j : ℕ) (e f : Entry) → i < j → slice_get P i ≡ Some e → slice_get P j ≡ Some f → dotted_cmp e.0 f.0 ≡ Less
place_before P sorted i j e f low e_at f_at =
    ap (λ (x : Entry). dotted_cmp x.0 f.0) (sym (get_or_from_slice_get P i e e e_at))
    ∙ ap (λ (x : Entry). dotted_cmp (get_or P i e).0 x.0) (sym (get_or_from_slice_get P j f e f_at))
    ∙ sorted_at dotted_cmp P i j e sorted low (slice_get_within P j f f_at)

pub between_same : (P : List Entry) → T (is_sorted dotted_cmp P) → (i j k : ℕ) (e f g : Entry) → i < j → j < k → slice_get P i ≡ Some e → slice_get P j
    ≡ Some f → slice_get P k ≡ Some g → e.0.0 ≡ g.0.0 → f.0.0 ≡ e.0.0
between_same P sorted i j k e f g low high e_at f_at g_at same =
    elim (upto e.0.0 f.0.0 e.0.1 f.0.1 (place_before P sorted i j e f low e_at f_at)) [
      | inr one ↦ sym one
      | inl less ↦ elim (upto f.0.0 g.0.0 f.0.1 g.0.1 (place_before P sorted j k f g high f_at g_at)) [
        | inr one ↦ one ∙ sym same
        | inl later ↦
            let back : slice_cmp nat_cmp e.0.0 f.0.0 ≡ Greater = nat_list_cmp_total.antisymm e.0.0 f.0.0 ∙ ap ordering_reverse (ap (slice_cmp nat_cmp f.0.0) same ∙ later) in
            let z : Less ≡ Greater = sym less ∙ back in
            cc
      ]
    ]

module _ (P : List Entry) (sorted : T (is_sorted dotted_cmp P)) (q : List ℕ) (at end : ℕ) (group : IsGroup P q at end) where
  abbrev part : List Entry
  part = take (end - at) (drop at P)

  pub front_more : take end P ≡ take at P ++ part
  front_more = let size : end ≡ at + (end - at) = omega (arith, group.some) in ap (λ n. take n P) size ∙ take-add at (end - at) P

  pub part_each : (k : ℕ) (e : Entry) → slice_get part k ≡ Some e → e.0.0 ≡ q
  part_each k e is =
      let inner = get_take (end - at) (drop at P) k e is in
      group.each (at + k) e (omega arith) (omega (arith, inner.0, group.some)) (sym (get_drop at P k) ∙ inner.1)

  -- the next string's entries are apart from those before
  pub apart_more : AreApart P at → AreApart P end
  apart_more before = record { apart = each }
    where
      each : (j k : ℕ) (e f : Entry) → j < end → end ≤ k → slice_get P j ≡ Some e → slice_get P k ≡ Some f → e.0.0 ≢ f.0.0
      each j k e f low high e_at f_at same = elim (cases_lt j at) [
        | inl earlier ↦ before.apart j k e f earlier (omega (arith, group.some)) e_at f_at same
        | inr inside ↦
            let mine : e.0.0 ≡ q = group.each j e inside low e_at in
            let last : end < length P = omega (arith, slice_get_within P k f f_at) in
            let g : Entry = get_or P end e in
            let g_at : slice_get P end ≡ Some g = slice_get-get_or P end e last in
            elim (cases_lt end k) [
              | inl beyond ↦ group.ends g g_at (between_same P sorted j end k e g f low beyond e_at g_at f_at same ∙ mine)
              | inr here ↦
                  let one : k ≡ end = omega arith in
                  group.ends f (ap (slice_get P) (sym one) ∙ f_at) (sym same ∙ mine)
            ]
      ]

  -- the values of the other strings are as before
  pub others_same : (r : List ℕ) → r ≢ q → outputs_of (take end P) r ≡ outputs_of (take at P) r
  others_same r other =
      ap (λ l. outputs_of l r) front_more ∙ outputs-append (take at P) part r ∙ ap (λ l. outputs_of (take at P) r ++ l) (outputs_none part r (λ k e is same. other (sym same ∙ part_each k e is)))
      ∙ append-nil (outputs_of (take at P) r)

  module _ (before : AreApart P at) where
    none_before : outputs_of (take at P) q ≡ []
    none_before =
        outputs_none (take at P) q (λ k e is same.
        let inner = get_take at P k e is in
        let first : Entry = get_or P at e in
        let first_at : slice_get P at ≡ Some first = slice_get-get_or P at e (omega (arith, group.some, group.within)) in
        before.apart k at e first inner.0 (omega arith) inner.1 first_at (same ∙ sym (group.each at first (omega arith) group.some first_at)))

    -- and that of this string is the list of the group
    pub string_so_far : outputs_of (take end P) q ≡ dot_values P at end
    string_so_far = ap (λ l. outputs_of l q) front_more ∙ outputs-append (take at P) part q ∙ ap (λ l. l ++ outputs_of part q) none_before ∙ outputs_all part q part_each

    pub string_whole : outputs_of P q ≡ dot_values P at end
    string_whole =
        let later = apart_more before in
        let rest : outputs_of (drop end P) q ≡ [] =
        outputs_none (drop end P) q (λ k e is same.
        let first : Entry = get_or P at e in
        let first_at : slice_get P at ≡ Some first = slice_get-get_or P at e (omega (arith, group.some, group.within)) in
        later.apart at (end + k) first e group.some (omega arith) first_at (sym (get_drop end P k) ∙ is) (group.each at first (omega arith) group.some first_at ∙ sym same)) in
        ap (λ l. outputs_of l q) (sym (take-append-drop end P)) ∙ outputs-append (take end P) (drop end P) q ∙ ap (λ l. outputs_of (take end P) q ++ l) rest
        ∙ append-nil (outputs_of (take end P) q) ∙ string_so_far

  -- the string stands once, before those that are left
  pub strings_left : strings_of (drop at P) ≡ q ∷ strings_of (drop end P)
  strings_left =
      let n : ℕ = end - at - 1 in
      let size : at + suc n ≡ end = omega (arith, group.some) in
      let moved : drop (suc n) (drop at P) ≡ drop end P = drop-drop (suc n) at P ∙ ap (λ m. drop m P) size in
      let long : length (drop at P) ≡ length P - at = length-drop at P in
      let ends : with_string q (strings_by (drop end P)) ≡ q ∷ strings_by (drop end P) =
      string_ends q (drop end P) (λ d some.
      let first : slice_get (drop end P) 0 ≡ Some (get_or (drop end P) 0 d) = slice_get-get_or (drop end P) 0 d some in
      let zero_more : end + 0 ≡ end = omega arith in
      test_other q (get_or (drop end P) 0 d).0.0 (group.ends (get_or (drop end P) 0 d) (ap (slice_get P) (sym zero_more) ∙ sym (get_drop end P 0) ∙ first))) in
      strings_as (drop at P) ∙ string_once q (drop at P) n
      (λ j d low.
      let inside : j < length (drop at P) = omega (arith, group.within, group.some) in
      let here : slice_get (drop at P) j ≡ Some (get_or (drop at P) j d) = slice_get-get_or (drop at P) j d inside in
      group.each (at + j) (get_or (drop at P) j d) (omega arith) (omega (arith, group.some)) (sym (get_drop at P j) ∙ here))
      (omega (arith, group.within, group.some)) (ap (λ l. with_string q (strings_by l)) moved ∙ ends ∙ ap (λ l. q ∷ strings_by l) (sym moved))
      ∙ ap (λ l. q ∷ strings_by l) moved ∙ ap (λ qs. q ∷ qs) (sym (strings_as (drop end P)))
