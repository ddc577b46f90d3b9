-- The row of cells, filled string by string.
use Rattle.std.proofs.Common.{◌≡◌, ℕ, ◌+◌, ◌<◌, ◌≤◌, ◌⊎◌, inl, inr, Bool, true, false, cond, nat_eq, List, [], ◌∷◌, ◌++◌, length, map, take, drop, get_or, set, replicate, slice_get, None, Some, unwrap_or, refl, sym, ◌∙◌, ap, subst, arith}
use Rattle.std.specs.List.{range_with_len}
use Rattle.std.specs.FinMap.{find}
use Rattle.std.proofs.lemmas.Bool.{cases_eq, cases_lt, eqb-true}
use Rattle.std.proofs.lemmas.List.{get_or-set_same, get_or-set_other, length-set, get_or-replicate, length-replicate, take-take, take-append-drop, length_push, nil_from_length}
use Rattle.std.proofs.lemmas.List.FromFn.{fill_by_all}
use Rattle.pg_types.specs.Placement.{base_of, top}
use Rattle.pg_types.specs.Inside.Placing.{cell_of}
use Rattle.pg_cells.specs.Inside.linked.ValuedFamilies.{ValuedFamilies}
use Rattle.pg_cells.specs.Inside.linked.AreValuedFamilies.{AreValuedFamilies}
use Rattle.pg_cells.proofs.StringCells.{cell_parts}
use Rattle.pg_cells.proofs.StringMaps.{order}
use Rattle.pg_outputs.specs.declared.records.Record.{Record}
use Rattle.pg_table.specs.declared.parts.cell.Cell.{Cell}
use Rattle.pg_table.specs.Inside.text.PackedTrie.{IsEntered}
use Rattle.pg_table.specs.Inside.text.Rows.{HasHeads, IsPartRow, HasCell, Fills}
use Rattle.pg_table.specs.Inside.text.Files.{table_cells, cell_of_table, head_in}
use Rattle.pg_table.specs.Inside.text.Cells.{last_sign, cell_for, unused_cell}
use Rattle.pg_table.proofs.text.Groups.{Entry}
use Rattle.pg_table.proofs.text.TableCells.{cell_with, cell_cases, last_sign_is}

module _ (h : ValuedFamilies ℕ) (held : AreValuedFamilies h) (heads : List ℕ → ℕ) (has : HasHeads h heads) where
  -- the cell of a string, from what is told of it
  pub cell_told : (q : List ℕ) (s c child head : ℕ) → cell_of h.families (q ++ s ∷ []) ≡ Some c → base_of h.families (q ++ s ∷ []) ≡ cond (nat_eq child 0) None (Some child)
      → find order (q ++ s ∷ []) h.values ≡ Some head → record { sign = s; child = child; head = head } ≡ cell_of_table h.families heads c
  cell_told q s c child head is below value =
      let sign : s ≡ last_sign (q ++ s ∷ []) = sym (last_sign_is q s) in
      let base : child ≡ unwrap_or (base_of h.families (q ++ s ∷ [])) 0 = by (nat_eq child 0) refl ∙ ap (λ o. unwrap_or o 0) (sym below) in
      let list : head ≡ heads (q ++ s ∷ []) = has.each (q ++ s ∷ []) head value in
      let same : record { sign = s; child = child; head = head } ≡ cell_for h.families heads (q ++ s ∷ []) = λ i. record { sign = sign i; child = base i; head = list i } in
      same ∙ sym (cell_with h held heads (q ++ s ∷ []) c is)
    where
      by : (t : Bool) → nat_eq child 0 ≡ t → child ≡ unwrap_or (cond (nat_eq child 0) None (Some child)) 0
      by true e = eqb-true child 0 e ∙ sym (ap (λ t. unwrap_or (cond t None (Some child)) 0) e)
      by false e = sym (ap (λ t. unwrap_or (cond t None (Some child)) 0) e)

  -- a cell that is filled in as it is in the table
  pub row_set : (row : List Cell) (c : ℕ) (x : Cell) → IsPartRow h heads row → c < length row → x ≡ cell_of_table h.families heads c → IsPartRow h heads (set row c x)
  row_set row c x is inside right = record { size = length-set row c x ∙ is.size; each = each }
    where
      each : (at : ℕ) → at < top h.families + 1 → (get_or (set row c x) at unused_cell ≡ unused_cell) ⊎ (get_or (set row c x) at unused_cell ≡ cell_of_table h.families heads at)
      each at low = elim (cases_eq at c) [
        | inl same ↦ inr (ap (λ k. get_or (set row c x) k unused_cell) same ∙ get_or-set_same row c x unused_cell inside ∙ right ∙ ap (cell_of_table h.families heads) (sym same))
        | inr other ↦ elim (is.each at low) [
          | inl unused ↦ inl (get_or-set_other row c at x unused_cell other ∙ unused)
          | inr there ↦ inr (get_or-set_other row c at x unused_cell other ∙ there)
        ]
      ]

  pub has_set : (row : List Cell) (c : ℕ) (x : Cell) → c < length row → x ≡ cell_of_table h.families heads c → (r : List ℕ) → HasCell h heads row r → HasCell h heads (set row c x) r
  has_set row c x inside right r has_r d is = elim (cases_eq d c) [
    | inl same ↦ ap (λ k. get_or (set row c x) k unused_cell) same ∙ get_or-set_same row c x unused_cell inside ∙ right ∙ ap (cell_of_table h.families heads) (sym same)
    | inr other ↦ get_or-set_other row c d x unused_cell other ∙ has_r d is
  ]

  pub has_own : (row : List Cell) (c : ℕ) (x : Cell) → c < length row → x ≡ cell_of_table h.families heads c → (r : List ℕ) → cell_of h.families r ≡ Some c → HasCell h heads (set row c x) r
  has_own row c x inside right r is d at =
      let found : Some d ≡ Some c = sym at ∙ is in
      let same : d ≡ c = cc in
      ap (λ k. get_or (set row c x) k unused_cell) same ∙ get_or-set_same row c x unused_cell inside ∙ right ∙ ap (cell_of_table h.families heads) (sym same)

  -- the empty string has no cell
  has_empty : (row : List Cell) → HasCell h heads row []
  has_empty row d is = let parts = cell_parts h.families [] d is in absurd (let e : [] ≡ parts.front ++ parts.last ∷ [] = parts.whole in nothing parts.front parts.last e)
    where
      nothing : (p : List ℕ) (x : ℕ) → [] ≡ p ++ x ∷ [] → ⊥
      nothing [] x e = cc
      nothing (y ∷ p) x e = cc

  pub fills_none : (q : List ℕ) (row : List Cell) → IsPartRow h heads row → Fills h heads q 0 row row
  fills_none q row is = record { row = is; keeps = λ r has_r. has_r; fronts = fronts }
    where
      fronts : (k : ℕ) → k ≤ 0 → HasCell h heads row (take k q)
      fronts k low = let none : k ≡ 0 = omega arith in subst (λ j. HasCell h heads row (take j q)) (sym none) (has_empty row)

  pub fills_more : (q : List ℕ) (i c : ℕ) (x : Cell) (old row : List Cell) → Fills h heads q i old row → c < length row → x ≡ cell_of_table h.families heads c
      → cell_of h.families (take (i + 1) q) ≡ Some c → Fills h heads q (i + 1) old (set row c x)
  fills_more q i c x old row fills inside right is = record {
    row = row_set row c x fills.row inside right;
    keeps = λ r has_r. has_set row c x inside right r (fills.keeps r has_r);
    fronts = fronts;
  }
    where
      fronts : (k : ℕ) → k ≤ i + 1 → HasCell h heads (set row c x) (take k q)
      fronts k low = elim (cases_lt i k) [
        | inl last ↦ let same : k ≡ i + 1 = omega arith in subst (λ j. HasCell h heads (set row c x) (take j q)) (sym same) (has_own row c x inside right (take (i + 1) q) is)
        | inr before ↦ has_set row c x inside right (take k q) (fills.fronts k before)
      ]

  -- where a front has no cell, no longer one has
  pub fills_rest : (q : List ℕ) (i : ℕ) (p : List ℕ) (s : ℕ) (old row : List Cell) → Fills h heads q i old row → take (i + 1) q ≡ p ++ s ∷ []
      → cell_of h.families (p ++ s ∷ []) ≡ None → (n : ℕ) → Fills h heads q n old row
  fills_rest q i p s old row fills front none n = record { row = fills.row; keeps = fills.keeps; fronts = λ k low. fronts k }
    where
      fronts : (k : ℕ) → HasCell h heads row (take k q)
      fronts k = elim (cases_lt i k) [
        | inr before ↦ fills.fronts k before
        | inl later ↦ λ d is.
            let more : take k q ≡ (p ++ s ∷ []) ++ drop (i + 1) (take k q) = sym (take-append-drop (i + 1) (take k q))
            ∙ ap (λ l. l ++ drop (i + 1) (take k q)) (take-take (i + 1) k q (omega arith) ∙ front) in
            let z : None ≡ Some d = sym (held.none_longer p s (drop (i + 1) (take k q)) none) ∙ ap (cell_of h.families) (sym more) ∙ is in
            cc
      ]

  -- the row at first
  pub row_first : (row : List Cell) → row ≡ replicate (top h.families + 1) unused_cell → IsPartRow h heads row
  row_first row is = record {
    size = ap length is ∙ length-replicate (top h.families + 1) unused_cell;
    each = λ at low. inl (ap (λ l. get_or l at unused_cell) is ∙ get_or-replicate (top h.families + 1) at unused_cell unused_cell low);
  }

-- the row at the end
pub row_last : (n : ℕ) (P : List Entry) (h : ValuedFamilies ℕ) (records : List Record) (row : List Cell) → IsEntered n P h records → IsPartRow h (head_in P) row
    → ((x : ℕ) → 1 ≤ x → x ≤ n → HasCell h (head_in P) row (x ∷ []))
    → ((j k : ℕ) (e : Entry) → j < length P → slice_get P j ≡ Some e → HasCell h (head_in P) row (take k e.0.0)) → row ≡ table_cells n P
row_last n P h records row entered is roots fronts =
    let held = entered.packed.held in
    fill_by_all (cell_of_table h.families (head_in P)) row (top h.families + 1) unused_cell is.size (λ at low. elim (cell_cases h held (head_in P) at) [
      | inr unused ↦ elim (is.each at low) [ inl none ↦ none ∙ sym unused.1 | inr there ↦ there ]
      | inl used ↦
          let q = used.0 in
          let value = held.valued q at used.1 in
          elim (entered.reached q value.0 value.1) [
            | inr some ↦ fronts some.0 some.1 some.2 some.3 some.4 at (ap (cell_of h.families) (sym some.5) ∙ used.1)
            | inl short ↦
                let parts = cell_parts h.families q at used.1 in
                let size : length q ≡ length parts.front + 1 = ap length parts.whole ∙ length_push parts.front parts.last in
                let alone : parts.front ≡ [] = nil_from_length parts.front (omega arith) in
                let one : q ≡ parts.last ∷ [] = parts.whole ∙ ap (λ p. p ++ parts.last ∷ []) alone in
                let sign = held.signs [] parts.last at (ap (cell_of h.families) (sym one) ∙ used.1) in
                roots parts.last sign.0 (omega (arith, sign.1, entered.packed.signs)) at (ap (cell_of h.families) (sym one) ∙ used.1)
          ]
    ])
    ∙ ap (λ fs. map (cell_of_table fs (head_in P)) (range_with_len 0 (top fs + 1))) entered.packed.families
