-- The patterns are entered, string by string.
use Rattle.std.proofs.Common.{◌≡◌, ◌≢◌, ℕ, suc, ◌-◌, ◌<◌, ◌≤◌, ◌⊎◌, inl, inr, true, cond, List, [], ◌∷◌, ◌++◌, length, map, fold, take, drop, get_or, slice_get, Option, None, Some, All, refl, sym, ◌∙◌, ap, subst, arith, append_assoc}
use Rattle.std.specs.List.{list_all, range_with_len}
use Rattle.std.specs.FinMap.{find, put}
use Rattle.std.proofs.lemmas.Bool.{cases_Bool}
use Rattle.std.proofs.lemmas.List.{map-append, take_all, drop_all, length-drop, length-take-le}
use Rattle.std.proofs.lemmas.List.Sums.{fold-append}
use Rattle.std.proofs.lemmas.Option.{slice_get_within, slice_get-get_or, get_or_from_slice_get}
use Rattle.pg_types.specs.Placement.{Families, root, enter}
use Rattle.pg_types.specs.Inside.PlacementSteps.{enter_after}
use Rattle.pg_types.specs.Inside.Placing.{cell_of}
use Rattle.pg_types.specs.Tails.{outputs_of}
use Rattle.pg_types.proofs.PlacementLaws.{enter_is}
use Rattle.pg_patterns.specs.Inside.PatternMaps.{IsPatternMap, SignsUpTo}
use Rattle.pg_patterns.proofs.Sound.{each_sign}
use Rattle.pg_types.specs.Inside.Signs.{is_sign}
use Rattle.pg_patterns.specs.Texts.{strings_of}
use Rattle.pg_outputs.specs.declared.records.Record.{Record}
use Rattle.pg_outputs.specs.Lists.{list_of}
use Rattle.pg_outputs.specs.Inside.Heads.{OneHeadEach, Grows}
use Rattle.pg_outputs.specs.Inside.Records.{AreShared}
use Rattle.pg_outputs.proofs.ListLaws.{list_of-zero}
use Rattle.pg_cells.specs.Inside.linked.ValuedFamilies.{ValuedFamilies}
use Rattle.pg_cells.specs.Inside.linked.AreValuedFamilies.{AreValuedFamilies}
use Rattle.pg_cells.specs.Inside.families.Root.{root_alone}
use Rattle.pg_cells.specs.Inside.linked.Walks.{AddsBlanks}
use Rattle.pg_cells.proofs.SignLaws.{sign_stays}
use Rattle.pg_cells.proofs.StringMaps.{order, same_string, same_from, equal_or_not, find_put_same, find_put_other}
use Rattle.pg_table.specs.Inside.text.PackedTrie.{IsGroup, IsReached, IsEntered, dot_values}
use Rattle.pg_table.specs.Inside.text.Sharing.{Lists, Shares, value_and_dot, with_ends}
use Rattle.pg_table.specs.Texts.{recorded_lists}
use Rattle.pg_table.specs.Inside.text.Files.{table_families}
use Rattle.pg_table.proofs.text.Groups.{Entry, AreApart, apart_more, others_same, string_so_far, string_whole, strings_left, front_more, part_each}
use Rattle.pg_table.proofs.text.RecordedStrings.{with_strings, recorded_is, recorded_ordered, recorded_known}
use Rattle.pg_table.proofs.text.TableRecords.{head_is, records_are}

-- a string that has a cell is entered without effect
pub enter_there : (n : ℕ) (h : ValuedFamilies ℕ) → AreValuedFamilies h → (q : List ℕ) (c : ℕ) → cell_of h.families q ≡ Some c → enter n h.families q ≡ h.families
enter_there n h held [] c is = refl
enter_there n h held (s ∷ q) c is = enter_is n h.families (s ∷ q) ∙ after (s ∷ []) q is
  where
    after : (p q : List ℕ) → cell_of h.families (p ++ q) ≡ Some c → enter_after n h.families p q ≡ h.families
    after p [] is = refl
    after p (t ∷ q) is = by (cell_of h.families (p ++ t ∷ [])) refl (after (p ++ t ∷ []) q (ap (cell_of h.families) (append_assoc p (t ∷ []) q) ∙ is))
      where
        by : (o : Option ℕ) → cell_of h.families (p ++ t ∷ []) ≡ o → enter_after n h.families (p ++ t ∷ []) q ≡ h.families → enter_after n h.families p (t ∷ q) ≡ h.families
        by None e rest = absurd (let z : None ≡ Some c = sym (held.none_longer p t q e) ∙ ap (cell_of h.families) (append_assoc p (t ∷ []) q) ∙ is in cc)
        by (Some d) e rest = ap (λ fs. enter_after n fs (p ++ t ∷ []) q) (sign_stays n h held p t d e) ∙ rest

-- entries of one string are entered once
one_string : (n : ℕ) (q : List ℕ) (fs : Families) (es : List Entry) → ((k : ℕ) (e : Entry) → slice_get es k ≡ Some e → e.0.0 ≡ q) → enter n fs q ≡ fs → fold (enter n) fs (map (λ e. e.0.0) es) ≡ fs
one_string n q fs [] each again = refl
one_string n q fs (e ∷ es) each again =
    ap (λ r. fold (enter n) (enter n fs r) (map (λ f. f.0.0) es)) (each 0 e refl) ∙ ap (λ gs. fold (enter n) gs (map (λ f. f.0.0) es)) again ∙ one_string n q fs es (λ k f at. each (suc k) f at) again

some_string : (n : ℕ) (q : List ℕ) (fs : Families) (es : List Entry) → 0 < length es → ((k : ℕ) (e : Entry) → slice_get es k ≡ Some e → e.0.0 ≡ q)
    → enter n (enter n fs q) q ≡ enter n fs q → fold (enter n) fs (map (λ e. e.0.0) es) ≡ enter n fs q
some_string n q fs [] some each again = absurd (omega arith)
some_string n q fs (e ∷ es) some each again =
    ap (λ r. fold (enter n) (enter n fs r) (map (λ f. f.0.0) es)) (each 0 e refl) ∙ one_string n q (enter n fs q) es (λ k f at. each (suc k) f at) again

-- the values of the root
root_values : (xs : List ℕ) (b : ℕ) (q : List ℕ) (v : ℕ) → find order q (map (λ x. (x ∷ [], b)) xs) ≡ Some v → (v ≡ b) × (length q ≡ 1)
root_values [] b q v at = cc
root_values (x ∷ xs) b q v at = elim (cases_Bool (same_string q (x ∷ []))) [
  | inl same ↦
      let here : Some b ≡ Some v = ap (λ t. cond t (Some b) (find order q (map (λ y. (y ∷ [], b)) xs))) (sym same) ∙ at in
      let is : v ≡ b = cc in
      (is, ap length (same_from q (x ∷ []) same))
  | inr other ↦ root_values xs b q v (ap (λ t. cond t (Some b) (find order q (map (λ y. (y ∷ [], b)) xs))) (sym other) ∙ at)
]

-- the patterns before a place are entered: the cells, the records, and the lists that they stand for
pub record EnteredTo (n : ℕ) (P : List Entry) (at : ℕ) (h : ValuedFamilies ℕ) (records : List Record) : Type 0 where
  pub within : at ≤ length P
  pub held : AreValuedFamilies h
  pub signs : h.signs ≡ n
  pub families : h.families ≡ table_families n (take at P)
  pub values : (q : List ℕ) (v : ℕ) → find order q h.values ≡ Some v → (v ≤ length records) × (list_of records v ≡ map value_and_dot (outputs_of (take at P) q))
  pub reached : (q : List ℕ) (v : ℕ) → find order q h.values ≡ Some v → IsReached P at q
  pub entered : (q : List ℕ) → outputs_of (take at P) q ≢ [] → (c : ℕ) × (cell_of h.families q ≡ Some c)
  pub lists : Lists
  pub shares : Shares records lists
  pub left : with_strings P lists (strings_of (drop at P)) ≡ recorded_lists P
  pub apart : AreApart P at

-- none is entered at first
pub entered_none : (n : ℕ) (P : List Entry) (records : List Record) → records ≡ [] → OneHeadEach records → AreValuedFamilies {V = ℕ} (root_alone n 0) → EnteredTo n P 0 (root_alone n 0) records
entered_none n P records none one_head held = record {
  within = omega arith;
  held = held;
  signs = refl;
  families = refl;
  values = λ q v at.
      let root = root_values (range_with_len 1 n) 0 q v at in
      (omega (arith, root.0), ap (list_of records) root.0 ∙ list_of-zero records);
  reached = λ q v at. let root = root_values (range_with_len 1 n) 0 q v at in inl (omega (arith, root.1));
  entered = λ q some. absurd (some refl);
  lists = [];
  shares = record {
    size = ap length none;
    each = λ i l at. cc;
    one_head = one_head;
    shared = subst AreShared (sym none) (record { apart = λ i j r a b. cc; back = λ i r a. cc });
  };
  left = sym (recorded_is P);
  apart = record { apart = λ j k e f low high e_at f_at. absurd (omega arith) };
}

module _ (n : ℕ) (P : List Entry) (sound : IsPatternMap P) (at end : ℕ) (q : List ℕ) (group : IsGroup P q at end) where
  module _ (h h1 h2 : ValuedFamilies ℕ) (rs new : List Record) (head c : ℕ) (to : EnteredTo n P at h rs)
      (grows : Grows rs new) (inside : head ≤ length new) (list : list_of new head ≡ map value_and_dot (dot_values P at end))
      (shares : (lists : Lists) → Shares rs lists → Shares new (with_ends lists (dot_values P at end)))
      (held1 : AreValuedFamilies h1) (signs1 : h1.signs ≡ h.signs) (families1 : h1.families ≡ enter h.signs h.families q) (blanks : AddsBlanks q 0 h.values h1.values)
      (cell : cell_of h1.families q ≡ Some c)
      (held2 : AreValuedFamilies h2) (is2 : h2 ≡ record h1 { values = put order q head h1.values }) where
    families2 : h2.families ≡ h1.families
    families2 = ap (λ (g : ValuedFamilies ℕ). g.families) is2

    values2 : h2.values ≡ put order q head h1.values
    values2 = ap (λ (g : ValuedFamilies ℕ). g.values) is2

    -- a string but this one has a value as before, or it is new and has the blank
    other_value : (r : List ℕ) (v : ℕ) → r ≢ q → find order r h2.values ≡ Some v → find order r h1.values ≡ Some v
    other_value r v other is = sym (find_put_other r q head h1.values other) ∙ ap (find order r) (sym values2) ∙ is

    was : (r : List ℕ) (v : ℕ) → find order r h1.values ≡ Some v → (find order r h.values ≡ Some v) ⊎ ((v ≡ 0) × (find order r h.values ≡ None) × ((k : ℕ) × (r ≡ take k q)))
    was r v is = by (find order r h.values) refl
      where
        by : (o : Option ℕ) → find order r h.values ≡ o → (find order r h.values ≡ Some v) ⊎ ((v ≡ 0) × (find order r h.values ≡ None) × ((k : ℕ) × (r ≡ take k q)))
        by None e = let b = blanks.blanks r v e is in inr (b.0, e, (b.1, b.2))
        by (Some w) e = let same : Some w ≡ Some v = sym (blanks.keeps r w e) ∙ is in inl (e ∙ same)

    again : enter n (enter n h.families q) q ≡ enter n h.families q
    again =
        let here : h1.families ≡ enter n h.families q = families1 ∙ ap (λ m. enter m h.families q) to.signs in
        ap (λ fs. enter n fs q) (sym here) ∙ enter_there n h1 held1 q c cell ∙ here

    families_more : h2.families ≡ table_families n (take end P)
    families_more =
        let left : length (drop at P) ≡ length P - at = length-drop at P in
        let long : length (take (end - at) (drop at P)) ≡ end - at = length-take-le (end - at) (drop at P) (omega (arith, group.within)) in
        let size : 0 < length (take (end - at) (drop at P)) = omega (arith, group.some) in
        families2 ∙ families1 ∙ ap (λ m. enter m h.families q) to.signs
        ∙ sym (some_string n q h.families (take (end - at) (drop at P)) size (part_each P sound.sorted q at end group) again)
        ∙ ap (λ fs. fold (enter n) fs (map (λ e. e.0.0) (take (end - at) (drop at P)))) to.families
        ∙ sym (fold-append (enter n) (root n) (map (λ e. e.0.0) (take at P)) (map (λ e. e.0.0) (take (end - at) (drop at P))))
        ∙ ap (fold (enter n) (root n)) (sym (map-append (λ e. e.0.0) (take at P) (take (end - at) (drop at P))))
        ∙ ap (table_families n) (sym (front_more P sound.sorted q at end group))

    values_more : (r : List ℕ) (v : ℕ) → find order r h2.values ≡ Some v → (v ≤ length new) × (list_of new v ≡ map value_and_dot (outputs_of (take end P) r))
    values_more r v is = elim (equal_or_not r q) [
      | inl same ↦
          let found : Some head ≡ Some v = sym (find_put_same q head h1.values) ∙ ap (find order q) (sym values2) ∙ ap (λ s. find order s h2.values) (sym same.0) ∙ is in
          let here : v ≡ head = cc in (
            omega (arith, here),
            ap (list_of new) here ∙ list ∙ ap (map value_and_dot) (sym (string_so_far P sound.sorted q at end group to.apart))
                ∙ ap (λ s. map value_and_dot (outputs_of (take end P) s)) (sym same.0),
          )
      | inr other ↦ elim (was r v (other_value r v other.0 is)) [
        | inl old ↦
            let before = to.values r v old in
            (omega (arith, before.0, grows.longer), grows.same v before.0 ∙ before.1 ∙ ap (map value_and_dot) (sym (others_same P sound.sorted q at end group r other.0)))
        | inr fresh ↦ (omega (arith, fresh.0), ap (list_of new) fresh.0 ∙ list_of-zero new ∙ ap (map value_and_dot) (sym (others_same P sound.sorted q at end group r other.0 ∙ nothing r fresh.1)))
      ]
    ]
      where
        nothing : (r : List ℕ) → find order r h.values ≡ None → outputs_of (take at P) r ≡ []
        nothing r none = by (outputs_of (take at P) r) refl
          where
            by : (l : List (ℕ × ℕ)) → outputs_of (take at P) r ≡ l → outputs_of (take at P) r ≡ []
            by [] e = e
            by (x ∷ l) e =
                let cell = to.entered r (λ z. cc) in
                let value = to.held.valued r cell.0 cell.1 in
                let z : None ≡ Some value.0 = sym none ∙ value.1 in
                cc

    reached_more : (r : List ℕ) (v : ℕ) → find order r h2.values ≡ Some v → IsReached P end r
    reached_more r v is = elim (equal_or_not r q) [
      | inl same ↦ begins r (length q) (same.0 ∙ sym (take_all (length q) q (omega arith)))
      | inr other ↦ elim (was r v (other_value r v other.0 is)) [
        | inl old ↦ elim (to.reached r v old) [
          | inl short ↦ inl short
          | inr some ↦ inr (some.0, some.1, some.2, omega (arith, some.3, group.some), some.4, some.5)
        ]
        | inr fresh ↦ begins r fresh.2.0 fresh.2.1
      ]
    ]
      where
        begins : (r : List ℕ) (k : ℕ) → r ≡ take k q → IsReached P end r
        begins r k is =
            let none : Entry = (([], 0), 0) in
            let first : Entry = get_or P at none in
            let first_at : slice_get P at ≡ Some first = slice_get-get_or P at none (omega (arith, group.some, group.within)) in
            let mine : first.0.0 ≡ q = group.each at first (omega arith) group.some first_at in
            inr (at, k, first, group.some, first_at, is ∙ ap (take k) (sym mine))

    entered_more : (r : List ℕ) → outputs_of (take end P) r ≢ [] → (d : ℕ) × (cell_of h2.families r ≡ Some d)
    entered_more r some = elim (equal_or_not r q) [
      | inl same ↦ (c, ap (λ fs. cell_of fs r) families2 ∙ ap (cell_of h1.families) same.0 ∙ cell)
      | inr other ↦
          let before = to.entered r (λ none. some (others_same P sound.sorted q at end group r other.0 ∙ none)) in
          let value = to.held.valued r before.0 before.1 in
          let there = held1.celled r value.0 (blanks.keeps r value.0 value.1) in
          (there.0, ap (λ fs. cell_of fs r) families2 ∙ there.1)
    ]

    pub entered_string : EnteredTo n P end h2 new
    entered_string = record {
      within = group.within;
      held = held2;
      signs = ap (λ (g : ValuedFamilies ℕ). g.signs) is2 ∙ signs1 ∙ to.signs;
      families = families_more;
      values = values_more;
      reached = reached_more;
      entered = entered_more;
      lists = with_ends to.lists (dot_values P at end);
      shares = shares to.lists to.shares;
      left = ap (λ l. with_strings P (with_ends to.lists l) (strings_of (drop end P))) (sym (string_whole P sound.sorted q at end group to.apart))
          ∙ ap (with_strings P to.lists) (sym (strings_left P sound.sorted q at end group)) ∙ to.left;
      apart = apart_more P sound.sorted q at end group to.apart;
    }

-- all patterns are entered at the end
pub entered_whole : (n : ℕ) (P : List Entry) (at : ℕ) (h : ValuedFamilies ℕ) (records : List Record) → IsPatternMap P → length P ≤ at → EnteredTo n P at h records → IsEntered n P h records
entered_whole n P at h records sound past to =
    let whole : take at P ≡ P = take_all at P past in
    let none : drop at P ≡ [] = drop_all at P past in
    let lists : to.lists ≡ recorded_lists P = ap (λ l. with_strings P to.lists (strings_of l)) (sym none) ∙ to.left in
    let shares : Shares records (recorded_lists P) = subst (Shares records) lists to.shares in
    let ordered = recorded_ordered P sound.sound in
    record {
      sound = sound;
      packed = record {
        held = to.held;
        signs = to.signs;
        families = to.families ∙ ap (table_families n) whole;
        entered = λ q some. to.entered q (λ e. some (ap (λ l. outputs_of l q) (sym whole) ∙ e));
      };
      heads = λ q v is.
          let value = to.values q v is in
          head_is records (recorded_lists P) ordered shares (outputs_of P q) v (recorded_known P sound.sound q) value.0 (value.1 ∙ ap (λ l. map value_and_dot (outputs_of l q)) whole);
      reached = λ q v is. elim (to.reached q v is) [
        | inl short ↦ inl short
        | inr some ↦ inr (some.0, some.1, some.2, slice_get_within P some.0 some.2 some.4, some.4, some.5)
      ];
      records_are = records_are records (recorded_lists P) ordered shares;
    }

-- the signs of an entry are signs of the table
pub signs_within : (n : ℕ) (P : List Entry) (i : ℕ) (e : Entry) → SignsUpTo n P → slice_get P i ≡ Some e → list_all is_sign e.0.0 ≡ true → All (λ s. (1 ≤ s) × (s ≤ n)) e.0.0
signs_within n P i e known at signs k d inside =
    let Q : Entry → Type 0 = λ (f : Entry). All (λ s. s ≤ n) f.0.0 in
    let here : Q e = subst Q (get_or_from_slice_get P i e e at) (known i e (slice_get_within P i e at)) in
    (each_sign e.0.0 signs k d inside, here k d inside)
