-- The list that a table gives for a string is that of the string's cell, and empty where it has none.
use Rattle.std.proofs.Common.{◌≡◌, ◌≢◌, ℕ, ◌+◌, ◌<◌, ◌⊎◌, inl, inr, true, false, nat_eq, nat_lt, List, [], ◌∷◌, ◌++◌, length, Option, None, Some, unwrap_or, refl, sym, ◌∙◌, ap, arith, append_assoc}
use Rattle.std.specs.Option.{option_map}
use Rattle.std.proofs.lemmas.Bool.{cases_Bool, cases_lt, and_from, and_left, and_right, lt-ltb, le-ltb, eq-eqb, ne_eqb}
use Rattle.std.proofs.lemmas.List.{length_push}
use Rattle.pg_types.specs.Placement.{Family, Families, base_of, top}
use Rattle.pg_types.specs.Inside.Placing.{cell_of}
use Rattle.pg_cells.specs.Inside.linked.ValuedFamilies.{ValuedFamilies}
use Rattle.pg_cells.specs.Inside.linked.AreValuedFamilies.{AreValuedFamilies}
use Rattle.pg_cells.proofs.StringCells.{cell_parts}
use Rattle.pg_cells.proofs.Walking.{childless}
use Rattle.pg_table.specs.declared.parts.cell.Cell.{Cell}
use Rattle.pg_table.specs.Forms.{sizes_of, cell_at}
use Rattle.pg_table.specs.Lookups.{cell_has_sign, lookup, lookup_from}
use Rattle.pg_table.specs.Inside.view.ListsOf.{list_in}
use Rattle.pg_table.specs.Inside.text.Files.{cell_of_table}
use Rattle.pg_table.specs.Inside.text.Cells.{last_sign, cell_for, unused_cell}
use Rattle.pg_table.proofs.view.FileRecords.{list_in-zero}
use Rattle.pg_table.proofs.text.TableCells.{cell_with, cell_cases, cell_within, cell_at_base, last_sign_is}
use Rattle.pg_table.proofs.view.CellWalks.{no_sign, no_child, list_here, list_below}

-- the cells of the bytes b are those of the families
pub record HasCells (b : List ℕ) (fs : Families) (heads : List ℕ → ℕ) : Type 0 where
  pub count : (sizes_of b).cells ≡ top fs + 1
  pub each : (at : ℕ) → at < top fs + 1 → cell_at b at ≡ cell_of_table fs heads at

module _ (b : List ℕ) (h : ValuedFamilies ℕ) (held : AreValuedFamilies h) (heads : List ℕ → ℕ) (has : HasCells b h.families heads) where
  -- where a string has a cell, the family before it has its last sign there
  found : (p : List ℕ) (x base c : ℕ) → base_of h.families p ≡ Some base → cell_of h.families (p ++ x ∷ []) ≡ Some c → (cell_has_sign b base x ≡ true)
      × (cell_at b (base + x) ≡ cell_for h.families heads (p ++ x ∷ []))
  found p x base c below is =
      let place : c ≡ base + x = cell_at_base h.families p x base c below is in
      let within : base + x < top h.families + 1 = omega (arith, cell_within h held (p ++ x ∷ []) c is) in
      let here : cell_at b (base + x) ≡ cell_for h.families heads (p ++ x ∷ []) = has.each (base + x) within ∙ cell_with h held heads (p ++ x ∷ []) (base + x) (is ∙ ap Some place) in
      let sign : (cell_at b (base + x)).sign ≡ x = ap (λ (k : Cell). k.sign) here ∙ last_sign_is p x in (
        and_from (nat_lt (base + x) (sizes_of b).cells) (nat_eq (cell_at b (base + x)).sign x) (lt-ltb (base + x) (sizes_of b).cells (omega (arith, has.count)))
            (eq-eqb (cell_at b (base + x)).sign x sign),
        here,
      )

  -- and else it lacks the sign, or the cell is unused
  lacks : (p : List ℕ) (x base : ℕ) → base_of h.families p ≡ Some base → cell_of h.families (p ++ x ∷ []) ≡ None → (cell_has_sign b base x ≡ false) ⊎ (cell_at b (base + x) ≡ unused_cell)
  lacks p x base below none = elim (cases_lt (base + x) (top h.families + 1)) [
    | inr past ↦ inl (and_left (nat_lt (base + x) (sizes_of b).cells) (nat_eq (cell_at b (base + x)).sign x) (le-ltb (base + x) (sizes_of b).cells (omega (arith, has.count))))
    | inl within ↦ elim (cell_cases h held heads (base + x)) [
      | inr unused ↦ inr (has.each (base + x) within ∙ unused.1)
      | inl used ↦
          let q = used.0 in
          let other : (cell_at b (base + x)).sign ≢ x = λ same.
          let parts = cell_parts h.families q (base + x) used.1 in
          let sign : last_sign q ≡ x = ap (λ (k : Cell). k.sign) (sym used.2 ∙ sym (has.each (base + x) within)) ∙ same in
          let last : last_sign q ≡ parts.last = ap last_sign parts.whole ∙ last_sign_is parts.front parts.last in
          let bases : parts.family.base ≡ base = omega (arith, parts.is) in
          let front : parts.front ≡ p = held.bases parts.front p base (ap (λ o. option_map (λ (f : Family). f.base) o) parts.at ∙ ap Some bases) below in
          let there : cell_of h.families (p ++ x ∷ []) ≡ Some (base + x) =
          ap (λ y. cell_of h.families (p ++ y ∷ [])) (sym sign ∙ last) ∙ ap (λ l. cell_of h.families (l ++ parts.last ∷ [])) (sym front) ∙ ap (cell_of h.families) (sym parts.whole) ∙ used.1 in
          let e : None ≡ Some (base + x) = sym none ∙ there in cc in
          inl (and_right (nat_lt (base + x) (sizes_of b).cells) (nat_eq (cell_at b (base + x)).sign x) (ne_eqb (cell_at b (base + x)).sign x other))
    ]
  ]

  -- a family below a string is not the root
  below_root : (p : List ℕ) (x base : ℕ) → base_of h.families (p ++ x ∷ []) ≡ Some base → base ≢ 0
  below_root p x base below z =
      let e : p ++ x ∷ [] ≡ [] = held.bases (p ++ x ∷ []) [] base below (held.root ∙ ap Some (sym z)) in
      let size : length (p ++ x ∷ []) ≡ 0 = ap length e in
      absurd (omega (arith, length_push p x))

  -- a prefix of a string with a cell has a cell, and a family below it
  prefix_cell : (p : List ℕ) (x t : ℕ) (more : List ℕ) (c : ℕ) → cell_of h.families (p ++ x ∷ t ∷ more) ≡ Some c → (d : ℕ) × (base : ℕ)
      × (cell_of h.families (p ++ x ∷ []) ≡ Some d) × (base_of h.families (p ++ x ∷ []) ≡ Some base)
  prefix_cell p x t more c is = by (cell_of h.families (p ++ x ∷ [])) (base_of h.families (p ++ x ∷ [])) refl refl
    where
      whole : cell_of h.families ((p ++ x ∷ []) ++ t ∷ more) ≡ Some c
      whole = ap (cell_of h.families) (append_assoc p (x ∷ []) (t ∷ more)) ∙ is

      by : (o m : Option ℕ) → cell_of h.families (p ++ x ∷ []) ≡ o → base_of h.families (p ++ x ∷ []) ≡ m → (d : ℕ) × (base : ℕ)
          × (cell_of h.families (p ++ x ∷ []) ≡ Some d) × (base_of h.families (p ++ x ∷ []) ≡ Some base)
      by None m e f = absurd (let n : None ≡ Some c = sym (held.none_longer p x (t ∷ more) e) ∙ whole in cc)
      by (Some d) (Some base) e f = (d, base, e, f)
      by (Some d) None e f =
          let none = held.none_longer (p ++ x ∷ []) t more (childless h.families (p ++ x ∷ []) t f) in
          absurd (let n : None ≡ Some c = sym none ∙ ap (cell_of h.families) (append_assoc (p ++ x ∷ []) (t ∷ []) more) ∙ whole in cc)

  -- the list of a string with a cell
  list_with : (more p : List ℕ) (base c : ℕ) → base_of h.families p ≡ Some base → more ≢ [] → cell_of h.families (p ++ more) ≡ Some c → lookup_from b base more ≡ list_in b (heads (p ++ more))
  list_with [] p base c below some is = absurd (some refl)
  list_with (x ∷ []) p base c below some is =
      let here = found p x base c below is in
      list_here b base x here.0 ∙ ap (λ (k : Cell). list_in b k.head) here.1
  list_with (x ∷ t ∷ more) p base c below some is =
      let prefix = prefix_cell p x t more c is in
      let here = found p x base prefix.0 below prefix.2 in
      let child : (cell_at b (base + x)).child ≡ prefix.1 = ap (λ (k : Cell). k.child) here.1 ∙ ap (λ o. unwrap_or o 0) prefix.3 in
      let goes : (cell_at b (base + x)).child ≢ 0 = λ z. below_root p x prefix.1 prefix.3 (sym child ∙ z) in
      let whole : (p ++ x ∷ []) ++ t ∷ more ≡ p ++ x ∷ t ∷ more = append_assoc p (x ∷ []) (t ∷ more) in
      list_below b base x here.0 goes t more
      ∙ ap (λ k. lookup_from b k (t ∷ more)) child
      ∙ list_with (t ∷ more) (p ++ x ∷ []) prefix.1 c prefix.3 (λ e. cc) (ap (cell_of h.families) whole ∙ is)
      ∙ ap (λ q. list_in b (heads q)) whole

  -- and of one without
  list_without : (more p : List ℕ) (base : ℕ) → base_of h.families p ≡ Some base → cell_of h.families (p ++ more) ≡ None → lookup_from b base more ≡ []
  list_without [] p base below none = refl
  list_without (x ∷ []) p base below none = elim (lacks p x base below none) [
    | inl missing ↦ no_sign b base x missing []
    | inr unused ↦ elim (cases_Bool (cell_has_sign b base x)) [
      | inl sign ↦ list_here b base x sign ∙ ap (λ (k : Cell). list_in b k.head) unused ∙ list_in-zero b
      | inr missing ↦ no_sign b base x missing []
    ]
  ]
  list_without (x ∷ t ∷ more) p base below none = by (cell_of h.families (p ++ x ∷ [])) (base_of h.families (p ++ x ∷ [])) refl refl
      (λ next f. list_without (t ∷ more) (p ++ x ∷ []) next f (ap (cell_of h.families) (append_assoc p (x ∷ []) (t ∷ more)) ∙ none))
    where
      by : (o m : Option ℕ) → cell_of h.families (p ++ x ∷ []) ≡ o → base_of h.families (p ++ x ∷ []) ≡ m
          → ((next : ℕ) → base_of h.families (p ++ x ∷ []) ≡ Some next → lookup_from b next (t ∷ more) ≡ []) → lookup_from b base (x ∷ t ∷ more) ≡ []
      by None m e f later = elim (lacks p x base below e) [
        | inl missing ↦ no_sign b base x missing (t ∷ more)
        | inr unused ↦ no_child b base x (ap (λ (k : Cell). k.child) unused) t more
      ]
      by (Some d) None e f later = no_child b base x (ap (λ (k : Cell). k.child) (found p x base d below e).1 ∙ ap (λ o. unwrap_or o 0) f) t more
      by (Some d) (Some next) e f later =
          let here = found p x base d below e in
          let child : (cell_at b (base + x)).child ≡ next = ap (λ (k : Cell). k.child) here.1 ∙ ap (λ o. unwrap_or o 0) f in
          let goes : (cell_at b (base + x)).child ≢ 0 = λ z. below_root p x next f (sym child ∙ z) in
          list_below b base x here.0 goes t more ∙ ap (λ k. lookup_from b k (t ∷ more)) child ∙ later next f

  -- the list of a string by the table
  pub lookup_with : (q : List ℕ) (c : ℕ) → cell_of h.families q ≡ Some c → lookup b q ≡ list_in b (heads q)
  unfolding lookup
  lookup_with q c is = list_with q [] 0 c held.root (λ e. let n : None ≡ Some c = ap (cell_of h.families) (sym e) ∙ is in cc) is

  pub lookup_without : (q : List ℕ) → cell_of h.families q ≡ None → lookup b q ≡ []
  unfolding lookup
  lookup_without q none = list_without q [] 0 held.root none
