-- The links from sign to sign of the families below strings.
use Rattle.std.specs.Prelude.{◌≡◌, ◌≢◌, ℕ, List, [], ◌∷◌, ◌++◌, Option, None, Some, map, nat_eq, if◌then◌else◌}
use Rattle.std.specs.Ordering.{nat_cmp}
use Rattle.std.specs.Cmp.Lexicographic.{slice_cmp}
use Rattle.std.specs.FinMap.{find, put}
use Rattle.pg_cells.specs.declared.store.member.Member.{Member}
use Rattle.pg_cells.specs.Inside.linked.ValuedFamilies.{ValuedFamilies}
use Rattle.pg_cells.specs.Inside.linked.AreValuedFamilies.{AreValuedFamilies}
use Rattle.pg_cells.specs.Inside.linked.Members.{IsNextSign}

module _ {V : Type 0} where
  -- the cells without their links
  abbrev pub values_alone : ValuedFamilies (Member V) → ValuedFamilies V
  values_alone h = record {
    signs = h.signs;
    families = h.families;
    values = map (λ e. (e.0, e.1.value)) h.values;
  }

  -- each string is linked to the first sign below it, and to the next sign of its own family
  pub record AreLinks (h : ValuedFamilies (Member V)) : Type 0 where
    pub held : AreValuedFamilies h
    pub first : (q : List ℕ) (m : Member V) → find (slice_cmp nat_cmp) q h.values ≡ Some m
        → IsNextSign h.values q 0 m.first
    pub next : (q : List ℕ) (s : ℕ) (m : Member V)
        → q ≢ [] → find (slice_cmp nat_cmp) (q ++ s ∷ []) h.values ≡ Some m
        → IsNextSign h.values q s m.next

  -- the values when `to` is the first sign below q, where q has a value; else as before
  abbrev pub with_first : Option (Member V) → ℕ → List ℕ
      → List (List ℕ × Member V) → List (List ℕ × Member V)
  with_first None to q values = values
  with_first (Some m) to q values = put (slice_cmp nat_cmp) q (record m { first = to }) values

  -- the values when `to` follows q's last sign in its family, where q has a value; else as before
  abbrev pub with_next : Option (Member V) → ℕ → List ℕ
      → List (List ℕ × Member V) → List (List ℕ × Member V)
  with_next None to q values = values
  with_next (Some m) to q values = put (slice_cmp nat_cmp) q (record m { next = to }) values

  -- the sign `to` stands behind s in the family below q, as the first one where s is 0
  abbrev pub with_link : ValuedFamilies (Member V) → List ℕ → ℕ → ℕ → ValuedFamilies (Member V)
  with_link h q s to =
      record h {
        values = if nat_eq s 0
            then with_first (find (slice_cmp nat_cmp) q h.values) to q h.values
            else with_next (find (slice_cmp nat_cmp) (q ++ s ∷ []) h.values) to
            (q ++ s ∷ []) h.values;
      }
