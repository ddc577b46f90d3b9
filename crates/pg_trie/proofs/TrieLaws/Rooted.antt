-- A trie without entries.
use Rattle.std.proofs.Common.{◌≡◌, ℕ, ◌≤◌, cond, List, [], ◌∷◌, ◌++◌, length, map, Option, None, Some, inl, inr, refl, sym, ◌∙◌, ap, subst, arith}
use Rattle.std.specs.List.{range_with_len}
use Rattle.std.specs.FinMap.Entries.{find}
use Rattle.pg_types.specs.declared.limits.TheConstants.{SIGNS_MAX}
use Rattle.pg_types.specs.Placement.{root}
use Rattle.pg_outputs.specs.declared.records.Record.{Record}
use Rattle.pg_outputs.specs.Lists.{list_of}
use Rattle.pg_outputs.proofs.ListLaws.{list_of-zero}
use Rattle.pg_cells.specs.Inside.linked.ValuedFamilies.{ValuedFamilies}
use Rattle.pg_cells.specs.Inside.linked.AreValuedFamilies.{AreValuedFamilies}
use Rattle.pg_cells.specs.Inside.families.Root.{root_alone}
use Rattle.pg_cells.proofs.StringMaps.{order, equal_or_not}
use Rattle.pg_trie.specs.Inside.IsPatternTrie.{IsPatternTrie}
use Rattle.pg_trie.specs.Inside.Lists.{Rises, DotsUpTo}
use Rattle.pg_trie.specs.Inside.Maps.{maps_of, entries_in, entries, as_value, as_hopeless}

-- heads 0 of single signs
abbrev singles : List ℕ → List (List ℕ × ℕ)
singles xs = map (λ x. (x ∷ [], 0)) xs

-- what is found among them is a head 0 of one sign
root_found : (q : List ℕ) (head : ℕ) (xs : List ℕ) → find order q (singles xs) ≡ Some head → (head ≡ 0) × (length q ≡ 1)
root_found q head [] at = absurd (let no : None ≡ Some head = at in cc)
root_found q head (x ∷ xs) at = elim (equal_or_not q (x ∷ [])) [
  | inl h ↦
      let there : Some 0 ≡ Some head = sym (ap (λ b. cond b (Some 0) (find order q (singles xs))) h.1) ∙ at in
      let zero_is : head ≡ 0 = cc in
      (zero_is, ap length h.0)
  | inr h ↦ root_found q head xs (sym (ap (λ b. cond b (Some 0) (find order q (singles xs))) h.1) ∙ at)
]

root_entries : {X : Type 0} (pick : ℕ → Option X) (f : ℕ → List (ℕ × ℕ)) (xs : List ℕ) → f 0 ≡ [] → entries pick f (singles xs) ≡ []
unfolding entries
root_entries pick f [] none = refl
root_entries pick f (x ∷ xs) none = ap (λ l. entries_in pick (x ∷ []) l ++ entries pick f (singles xs)) none ∙ root_entries pick f xs none

pub root_trie : (n : ℕ) (cells : ValuedFamilies ℕ) (records : List Record) → n ≤ SIGNS_MAX → cells ≡ root_alone n 0 → AreValuedFamilies cells → IsPatternTrie cells records
root_trie n cells records few is held = record {
  signs = omega (arith, ap (λ (h : ValuedFamilies ℕ). h.signs) is);
  held = held;
  heads = λ q head at.
      let found = root_found q head (range_with_len 1 n) (sym (ap (λ (h : ValuedFamilies ℕ). find order q h.values) is) ∙ at) in
      let list : list_of records head ≡ [] = ap (list_of records) found.0 ∙ list_of-zero records in
      record {
        inside = omega (arith, found.0);
        short = omega (arith, found.1);
        rises = subst (Rises 0) (sym list) tt;
        dots = subst (DotsUpTo (length q)) (sym list) tt;
      };
}

pub root_view : (n : ℕ) (cells : ValuedFamilies ℕ) (records : List Record) → cells ≡ root_alone n 0 → records ≡ []
    → maps_of cells records ≡ record { signs = n; families = root n; patterns = []; hopeless = []; records = [] }
root_view n cells records is none =
    let patterns_are : (maps_of cells records).patterns ≡ [] = ap (λ (h : ValuedFamilies ℕ). entries as_value (list_of records) h.values) is
    ∙ root_entries as_value (list_of records) (range_with_len 1 n) (list_of-zero records) in
    let marks_are : (maps_of cells records).hopeless ≡ [] = ap (λ (h : ValuedFamilies ℕ). entries as_hopeless (list_of records) h.values) is
    ∙ root_entries as_hopeless (list_of records) (range_with_len 1 n) (list_of-zero records) in
    λ i. record { signs = (is i).signs; families = (is i).families; patterns = patterns_are i; hopeless = marks_are i; records = none i }
