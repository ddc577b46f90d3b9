-- The cells without their links: the strings, their order and their values are the same.
use Rattle.std.proofs.Common.{◌≡◌, ℕ, inl, inr, Bool, true, false, cond, T, ◌&&◌, List, [], ◌∷◌, ◌++◌, map, Option, None, Some, refl, sym, ◌∙◌, ap, subst}
use Rattle.std.specs.Option.{option_map, is_some}
use Rattle.std.specs.Ordering.{is_lt}
use Rattle.std.specs.List.{range_with_len}
use Rattle.std.specs.FinMap.{find, put, is_sorted}
use Rattle.std.specs.FinMap.Entries.{below_all}
use Rattle.pg_types.specs.Inside.Placing.{cell_of}
use Rattle.pg_cells.specs.declared.store.member.Member.{Member}
use Rattle.pg_cells.specs.Inside.linked.ValuedFamilies.{ValuedFamilies}
use Rattle.pg_cells.specs.Inside.linked.AreValuedFamilies.{AreValuedFamilies}
use Rattle.pg_cells.specs.Inside.linked.Links.{values_alone}
use Rattle.pg_cells.specs.Inside.linked.Members.{IsBefore, goes_on}
use Rattle.pg_cells.specs.Inside.families.Root.{root_alone}
use Rattle.pg_cells.proofs.StringMaps.{order, same_string, same_maps, without_key, find_put_same, find_put_other, find_without_same, find_without_other, sorted_put, sorted_without, equal_or_not}

module _ {V : Type 0} where
  -- the values without their links
  abbrev pub plain : List (List ℕ × Member V) → List (List ℕ × V)
  plain es = map (λ e. (e.0, e.1.value)) es

  pub find_plain : (q : List ℕ) (es : List (List ℕ × Member V)) → find order q (plain es) ≡ option_map (λ m. m.value) (find order q es)
  find_plain q [] = refl
  find_plain q (e ∷ es) = ap (cond (same_string q e.0) (Some e.1.value)) (find_plain q es) ∙ by (same_string q e.0)
    where
      by : (b : Bool) → cond b (Some e.1.value) (option_map (λ (m : Member V). m.value) (find order q es)) ≡ option_map (λ (m : Member V). m.value) (cond b (Some e.1) (find order q es))
      by true = refl
      by false = refl

  pub found_plain : (q : List ℕ) (m : Member V) (es : List (List ℕ × Member V)) → find order q es ≡ Some m → find order q (plain es) ≡ Some m.value
  found_plain q m es e = find_plain q es ∙ ap (option_map (λ (k : Member V). k.value)) e

  pub goes_plain : (es : List (List ℕ × Member V)) (q : List ℕ) (s : ℕ) → goes_on es q s ≡ goes_on (plain es) q s
  goes_plain es q s = by (find order (q ++ s ∷ []) es) ∙ ap is_some (sym (find_plain (q ++ s ∷ []) es))
    where
      by : (o : Option (Member V)) → is_some o ≡ is_some (option_map (λ (k : Member V). k.value) o)
      by None = refl
      by (Some m) = refl

  -- the sign before another one is the same with the links and without them
  pub before_plain : (es : List (List ℕ × Member V)) (q : List ℕ) (s b : ℕ) → IsBefore es q s b → IsBefore (plain es) q s b
  before_plain es q s b is = record {
    less = is.less;
    there = elim is.there [ inl z ↦ inl z | inr goes ↦ inr (sym (goes_plain es q b) ∙ goes) ];
    most = λ z lt goes. is.most z lt (goes_plain es q z ∙ goes);
  }

  pub before_seen : (h : ValuedFamilies (Member V)) (view : ValuedFamilies V) → values_alone h ≡ view → (q : List ℕ) (s b : ℕ) → IsBefore view.values q s b → IsBefore h.values q s b
  before_seen h view seen q s b told =
      let is : IsBefore (plain h.values) q s b = subst (λ (k : ValuedFamilies V). IsBefore k.values q s b) (sym seen) told in
      record {
        less = is.less;
        there = elim is.there [ inl z ↦ inl z | inr goes ↦ inr (goes_plain h.values q b ∙ goes) ];
        most = λ z lt goes. is.most z lt (sym (goes_plain h.values q z) ∙ goes);
      }

  below_plain : (x : List ℕ) (es : List (List ℕ × Member V)) → below_all order x (plain es) ≡ below_all order x es
  below_plain x [] = refl
  below_plain x (e ∷ es) = ap (λ b. is_lt (order x e.0) && b) (below_plain x es)

  sorted_same : (es : List (List ℕ × Member V)) → is_sorted order (plain es) ≡ is_sorted order es
  sorted_same [] = refl
  sorted_same (e ∷ es) = λ i. below_plain e.0 es i && sorted_same es i

  pub sorted_plain : (es : List (List ℕ × Member V)) → T (is_sorted order es) → T (is_sorted order (plain es))
  sorted_plain es h = subst T (sym (sorted_same es)) h

  pub put_plain : (q : List ℕ) (m : Member V) (es : List (List ℕ × Member V)) → T (is_sorted order es) → plain (put order q m es) ≡ put order q m.value (plain es)
  put_plain q m es h = same_maps (plain (put order q m es)) (put order q m.value (plain es)) (sorted_plain (put order q m es) (sorted_put q m es h))
      (sorted_put q m.value (plain es) (sorted_plain es h)) (λ p. elim (equal_or_not p q) [
        | inl e ↦
            ap (λ r. find order r (plain (put order q m es))) e.0 ∙ found_plain q m (put order q m es) (find_put_same q m es)
            ∙ sym (ap (λ r. find order r (put order q m.value (plain es))) e.0 ∙ find_put_same q m.value (plain es))
        | inr e ↦
            find_plain p (put order q m es) ∙ ap (option_map (λ (k : Member V). k.value)) (find_put_other p q m es e.0)
            ∙ sym (find_put_other p q m.value (plain es) e.0 ∙ find_plain p es)
      ])

  pub without_plain : (q : List ℕ) (es : List (List ℕ × Member V)) → T (is_sorted order es) → plain (without_key q es) ≡ without_key q (plain es)
  without_plain q es h = same_maps (plain (without_key q es)) (without_key q (plain es)) (sorted_plain (without_key q es) (sorted_without q es h))
      (sorted_without q (plain es) (sorted_plain es h)) (λ p. elim (equal_or_not p q) [
        | inl e ↦
            ap (λ r. find order r (plain (without_key q es))) e.0 ∙ find_plain q (without_key q es) ∙ ap (option_map (λ (k : Member V). k.value)) (find_without_same q es)
            ∙ sym (ap (λ r. find order r (without_key q (plain es))) e.0 ∙ find_without_same q (plain es))
        | inr e ↦
            find_plain p (without_key q es) ∙ ap (option_map (λ (k : Member V). k.value)) (find_without_other p q es e.0)
            ∙ sym (find_without_other p q (plain es) e.0 ∙ find_plain p es)
      ])

  -- a value that is put where it stands changes nothing
  pub put_again : (q : List ℕ) (v : V) (es : List (List ℕ × V)) → T (is_sorted order es) → find order q es ≡ Some v → put order q v es ≡ es
  put_again q v es h at = same_maps (put order q v es) es (sorted_put q v es h) h (λ p. elim (equal_or_not p q) [
    | inl e ↦ ap (λ r. find order r (put order q v es)) e.0 ∙ find_put_same q v es ∙ sym (ap (λ r. find order r es) e.0 ∙ at)
    | inr e ↦ find_put_other p q v es e.0
  ])

  -- so a link that is changed changes no value
  pub relink_plain : (q : List ℕ) (m new : Member V) (es : List (List ℕ × Member V)) → T (is_sorted order es) → find order q es ≡ Some m → new.value ≡ m.value → plain (put order q new es) ≡ plain es
  relink_plain q m new es h at same = put_plain q new es h ∙ put_again q new.value (plain es) (sorted_plain es h) (found_plain q m es at ∙ ap Some (sym same))

  pub root_unlinked : (n : ℕ) (m : Member V) → values_alone (root_alone n m) ≡ root_alone n m.value
  root_unlinked n m = ap (λ es. record (root_alone n m.value) { values = es }) (by (range_with_len 1 n))
    where
      by : (xs : List ℕ) → plain (map (λ x. (x ∷ [], m)) xs) ≡ map (λ x. (x ∷ [], m.value)) xs
      by [] = refl
      by (x ∷ xs) = ap (λ l. (x ∷ [], m.value) ∷ l) (by xs)

  -- what is always true of the cells stays true
  pub held_unlinked : (h : ValuedFamilies (Member V)) → AreValuedFamilies h → AreValuedFamilies (values_alone h)
  held_unlinked h is = record {
    sorted = is.sorted;
    ordered = sorted_plain h.values is.ordered;
    valued = λ q cell e. (let v = is.valued q cell e in (v.0.value, found_plain q v.0 h.values v.1));
    celled = λ q v e. celled q v (find order q h.values) refl e;
    signs = is.signs;
    apart = is.apart;
    root = is.root;
    alone = is.alone;
    based = is.based;
    filled = is.filled;
    none_longer = is.none_longer;
    bases = is.bases;
    members = is.members;
  }
    where
      celled : (q : List ℕ) (v : V) (o : Option (Member V)) → find order q h.values ≡ o → find order q (plain h.values) ≡ Some v → (cell : ℕ) × (cell_of h.families q ≡ Some cell)
      celled q v None e d = absurd (let no : None ≡ Some v = sym (find_plain q h.values ∙ ap (option_map (λ (k : Member V). k.value)) e) ∙ d in cc)
      celled q v (Some m) e d = is.celled q m e
