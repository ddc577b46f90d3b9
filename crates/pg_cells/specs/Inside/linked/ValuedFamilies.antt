-- The cells as a map: the families by their placement, and the value of each string that has a
-- cell.
use Rattle.std.specs.Prelude.{ℕ, List, refl, not}
use Rattle.std.specs.Ordering.{nat_cmp, eq_by_cmp}
use Rattle.std.specs.Cmp.Lexicographic.{slice_cmp}
use Rattle.std.specs.FinMap.Entries.{where_key}
use Rattle.std.specs.Coded.{Coded, code_by, coded×, coded_ℕ, coded_list}
use Rattle.pg_types.specs.Placement.{Family, Families}

-- the number of signs of the table; the families; and the values in the order of the strings
pub record ValuedFamilies (V : Type 0) : Type 0 where
  pub signs : ℕ
  pub families : Families
  pub values : List (List ℕ × V)

-- how proofs store a family: its base, and its signs
abbrev pub family_code : Coded Family
family_code = code_by (ℕ × List ℕ) (coded× coded_ℕ (coded_list coded_ℕ))
    (λ f. (f.base, f.signs)) (λ p. record { base = p.0; signs = p.1 }) (λ _. refl)

-- how proofs store families: each with its prefix
abbrev pub families_code : Coded Families
families_code = coded_list (coded× (coded_list coded_ℕ) family_code)

-- how proofs store values: each with its string
abbrev pub values_code : {V : Type 0} → Coded V → Coded (List (List ℕ × V))
values_code code = coded_list (coded× (coded_list coded_ℕ) code)

-- how proofs store families with values: the number of signs, the families, and the values
abbrev pub valued_families_code : {V : Type 0} → Coded V → Coded (ValuedFamilies V)
valued_families_code {V} code =
    code_by (ℕ × (Families × List (List ℕ × V)))
    (coded× coded_ℕ (coded× families_code (values_code code)))
    (λ h. (h.signs, (h.families, h.values)))
    (λ p. record { signs = p.0; families = p.1.0; values = p.1.1 })
    (λ _. refl)

-- the families and the values
pub record Trie (V : Type 0) : Type 0 where
  pub families : Families
  pub values : List (List ℕ × V)

-- the families and the values of the cells
abbrev pub trie_in : {V : Type 0} → ValuedFamilies V → Trie V
trie_in h = record { families = h.families; values = h.values }

-- how proofs store a trie: the families, and the values
abbrev pub trie_code : {V : Type 0} → Coded V → Coded (Trie V)
trie_code {V} code =
    code_by (Families × List (List ℕ × V)) (coded× families_code (values_code code))
    (λ t. (t.families, t.values))
    (λ p. record { families = p.0; values = p.1 })
    (λ _. refl)

-- the entries without that of the string
abbrev pub without_key : {X : Type 0} → List ℕ → List (List ℕ × X) → List (List ℕ × X)
without_key p es = where_key (slice_cmp nat_cmp) (λ k. not (eq_by_cmp (slice_cmp nat_cmp) p k)) es
