-- The root takes its cells one by one.
use Rattle.std.proofs.Common.{◌≡◌, ℕ, ◌+◌, ◌<◌, ◌≤◌, false, List, [], ◌∷◌, length, get_or, slice_get, suc, zero, inl, inr, refl, sym, ◌∙◌, ap, arith}
use Rattle.std.proofs.lemmas.Bool.{cases_eq, cases_lt}
use Rattle.std.proofs.lemmas.List.{get_or_past, get_or_default}
use Rattle.pg_cells.specs.Inside.store.CellRows.{Row, sign_at, child_at, base_at, IsFree}
use Rattle.pg_cells.specs.Inside.store.Store.{how_many, Extends, one_free}
use Rattle.pg_cells.specs.Inside.store.Writes.{Takes}
use Rattle.pg_cells.specs.Inside.families.Root.{IsRootTo}

-- a list without a number above 0
pub how_many_zero : (xs : List ℕ) → ((i : ℕ) → get_or xs i 0 ≡ 0) → how_many xs ≡ 0
how_many_zero [] h = refl
how_many_zero (x ∷ xs) h = let first = h 0 in let rest = how_many_zero xs (λ i. h (suc i)) in omega arith

module _ {V : Type 0} where
  pub planted_none : (other blank : V) → IsRootTo 1 blank (one_free other)
  planted_none other blank = record {
    stand = λ i p lt. absurd (omega arith);
    free = free;
    zero_free = refl;
    children = children;
    values = λ i p lt. absurd (omega arith);
    bases = bases;
    count = refl;
  }
    where
      free : (i : ℕ) → 1 ≤ i → sign_at (one_free other) i ≡ 0
      free zero le = refl
      free (suc i) le = refl

      children : (i : ℕ) → child_at (one_free other) i ≡ 0
      children zero = refl
      children (suc i) = refl

      bases : (i : ℕ) → base_at (one_free other) i ≡ false
      bases zero = refl
      bases (suc i) = refl

  pub planted_extended : (blank : V) (old new : Row V) → IsRootTo 1 blank old → Extends old new → IsRootTo 1 blank new
  planted_extended blank old new h more = record {
    stand = λ i p lt. absurd (omega arith);
    free = λ i le. more.signs i ∙ h.free i le;
    zero_free = more.signs 0 ∙ h.zero_free;
    children = λ i. more.children i ∙ h.children i;
    values = λ i p lt. absurd (omega arith);
    bases = λ b. more.bases b ∙ h.bases b;
    count = omega (arith, more.taken, h.count);
  }

  pub planted_more : (blank : V) (k : ℕ) (old new : Row V) → 0 < k → IsRootTo k blank old → Takes old new k k blank 0 → IsRootTo (k + 1) blank new
  planted_more blank k old new up h t = record {
    stand = λ i p lt. elim (cases_eq i k) [
      | inl e ↦ ap (sign_at new) e ∙ t.sign_is ∙ sym e
      | inr n ↦ t.elsewhere.signs i n ∙ h.stand i p (omega arith)
    ];
    free = λ i le. t.elsewhere.signs i (λ z. omega arith) ∙ h.free i (omega arith);
    zero_free = t.elsewhere.signs 0 (λ z. omega arith) ∙ h.zero_free;
    children = λ i. elim (cases_eq i k) [
      | inl e ↦ ap (child_at new) e ∙ t.child_is
      | inr n ↦ t.elsewhere.children i n ∙ h.children i
    ];
    values = λ i p lt. elim (cases_eq i k) [
      | inl e ↦ ap (slice_get new.values) e ∙ t.value_is
      | inr n ↦ t.elsewhere.values i n ∙ h.values i p (omega arith)
    ];
    bases = λ b. t.elsewhere.bases b ∙ h.bases b;
    count = omega (arith, t.count, h.count);
  }

  pub free_here : (blank : V) (k : ℕ) (r : Row V) → IsRootTo k blank r → k < length r.signs → IsFree r k
  free_here blank k r h lt = get_or_default r.signs k 1 0 lt ∙ h.free k (omega arith)

  -- where no cell is taken and no index is a base
  pub planted_cleared : (blank : V) (r : Row V) → ((i : ℕ) → i < length r.signs → sign_at r i ≡ 0) → ((b : ℕ) → b < length r.signs → base_at r b ≡ false) → length r.bases ≡ length r.signs
      → ((i : ℕ) → sign_at r i ≡ 0 → child_at r i ≡ 0) → IsRootTo 1 blank r
  planted_cleared blank r signs bases even bare =
      let all : (i : ℕ) → sign_at r i ≡ 0 = λ i. elim (cases_lt i (length r.signs)) [ inl lt ↦ signs i lt | inr le ↦ get_or_past r.signs i 0 le ] in
      record {
        stand = λ i p lt. absurd (omega arith);
        free = λ i le. all i;
        zero_free = all 0;
        children = λ i. bare i (all i);
        values = λ i p lt. absurd (omega arith);
        bases = λ b. elim (cases_lt b (length r.signs)) [ inl lt ↦ bases b lt | inr le ↦ get_or_past r.bases b false (omega arith) ];
        count = omega (arith, how_many_zero r.signs all);
      }
