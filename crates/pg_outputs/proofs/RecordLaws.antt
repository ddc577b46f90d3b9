-- Laws of the records: where `insert` finds a record or puts it, and that the records stay shared.
use Rattle.std.proofs.Common.{◌≡◌, ℕ, ◌≤◌, Bool, true, false, List, [], ◌∷◌, ◌++◌, length, slice_get, Some, suc, zero, refl, sym, ◌∙◌, ap, arith, inl, inr, ◌⊎◌, one-add}
use Rattle.std.proofs.lemmas.Bool.{false≢true}
use Rattle.std.proofs.lemmas.Bool.Decides.{nat_tests}
use Rattle.std.specs.List.{list_any, position_or_len}
use Rattle.pg_outputs.specs.declared.records.Record.{Record}
use Rattle.pg_outputs.specs.Inside.Heads.{Lacks}
use Rattle.pg_outputs.specs.contracts.records.RecordPartialEq.TheImpl.{eq-value}
use Rattle.pg_outputs.specs.Inside.Records.{AreShared}

-- the test that `insert` makes, which is equality
abbrev pub is_same : Record → Record → Bool
is_same = eq-value.it

pub same_from_test : (x y : Record) → is_same x y ≡ true → x ≡ y
same_from_test x y h =
    let value : x.value ≡ y.value = grind (arith, nat_tests) in
    let dot : x.dot ≡ y.dot = grind (arith, nat_tests) in
    let next : x.next ≡ y.next = grind (arith, nat_tests) in
    λ t. record { value = value t; dot = dot t; next = next t }

pub test_itself : (x : Record) → is_same x x ≡ true
test_itself x = grind (arith, nat_tests)

-- r is at a place of the records, which `insert` finds and leaves
pub record IsThere (rs : List Record) (r : Record) : Type 0 where
  pub at : slice_get rs (position_or_len (is_same r) rs) ≡ Some r
  pub any : list_any (is_same r) rs ≡ true

-- r is not there, and `insert` puts it last
pub record IsNew (rs : List Record) (r : Record) : Type 0 where
  pub lacks : Lacks rs r
  pub any : list_any (is_same r) rs ≡ false
  pub place : position_or_len (is_same r) rs ≡ length rs

-- a record is there, or it is new
pub there_or_new : (rs : List Record) (r : Record) → IsThere rs r ⊎ IsNew rs r
there_or_new [] r = inr (record { lacks = λ i e. cc; any = refl; place = refl })
there_or_new (x ∷ xs) r = by (is_same r x) refl (there_or_new xs r)
  where
    by : (b : Bool) → is_same r x ≡ b → IsThere xs r ⊎ IsNew xs r → IsThere (x ∷ xs) r ⊎ IsNew (x ∷ xs) r
    by true e _ = inl (record { at = rw e (ap Some (sym (same_from_test r x e))); any = rw e refl })
    by false e (inl h) = inl (record { at = rw e (rw one-add h.at); any = rw e h.any })
    by false e (inr h) = inr (record { lacks = nowhere; any = rw e h.any; place = rw e (omega (arith, h.place)) })
      where
        nowhere : Lacks (x ∷ xs) r
        nowhere zero at =
            let here : x ≡ r = cc in
            absurd (false≢true (sym e ∙ ap (λ y. is_same r y) here ∙ test_itself r))
        nowhere (suc i) at = h.lacks i at

-- a record that `contains` does not find is nowhere
pub nowhere : (rs : List Record) (r : Record) (i : ℕ) → list_any (is_same r) rs ≡ false → slice_get rs i ≡ Some r → ⊥
nowhere rs r i none at = elim (there_or_new rs r) [
  | inl h ↦ false≢true (sym none ∙ h.any)
  | inr h ↦ h.lacks i at
]

-- a place of the longer list is an old one, or the last
which : (rs : List Record) (r : Record) (i : ℕ) (y : Record) → slice_get (rs ++ r ∷ []) i ≡ Some y → (slice_get rs i ≡ Some y) ⊎ ((i ≡ length rs) × (y ≡ r))
which [] r zero y at = inr (refl, cc)
which [] r (suc i) y at = cc
which (x ∷ xs) r zero y at = inl at
which (x ∷ xs) r (suc i) y at = elim (which xs r i y at) [ inl h ↦ inl h | inr h ↦ inr (ap suc h.0, h.1) ]

-- one more record that leads back, and is not there, keeps the records shared
pub shared_push : (rs : List Record) (r : Record) → AreShared rs → Lacks rs r → r.next ≤ length rs → AreShared (rs ++ r ∷ [])
shared_push rs r shared lacks back = record { apart = apart; back = leads_back }
  where
    apart : (i j : ℕ) (y : Record) → slice_get (rs ++ r ∷ []) i ≡ Some y → slice_get (rs ++ r ∷ []) j ≡ Some y → i ≡ j
    apart i j y a b = elim (which rs r i y a) [
      | inl p ↦ elim (which rs r j y b) [
        | inl q ↦ shared.apart i j y p q
        | inr q ↦ absurd (lacks i (p ∙ ap Some q.1))
      ]
      | inr p ↦ elim (which rs r j y b) [
        | inl q ↦ absurd (lacks j (q ∙ ap Some p.1))
        | inr q ↦ omega (arith, p.0, q.0)
      ]
    ]

    leads_back : (i : ℕ) (y : Record) → slice_get (rs ++ r ∷ []) i ≡ Some y → y.next ≤ i
    leads_back i y at = elim (which rs r i y at) [
      | inl p ↦ shared.back i y p
      | inr p ↦ omega (arith, p.0, ap (λ (z : Record). z.next) p.1)
    ]
