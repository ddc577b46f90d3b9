-- One slot more is given up, or put.
use Rattle.std.proofs.Common.{◌≡◌, ◌≢◌, ℕ, ◌+◌, inl, inr, List, [], ◌∷◌, ◌++◌, None, Some, slice_get, refl, sym, ◌∙◌, ap, arith}
use Rattle.std.proofs.lemmas.List.{length_push}
use Rattle.pg_cells.specs.declared.store.fit.Slot.{Slot}
use Rattle.pg_cells.specs.Inside.store.CellRows.{Row, sign_at, child_at}
use Rattle.pg_cells.specs.Inside.store.Fit.{slot_of}
use Rattle.pg_cells.specs.Inside.store.Writes.{KeepsOtherIndices, Takes, Frees}
use Rattle.pg_cells.specs.Inside.families.Moves.{KeepsOtherCells, GivesUp, PutsSlots}
use Rattle.pg_cells.proofs.Slots.{slot_push, outside_push}

module _ {V : Type 0} where
  others_more : (old mid new : Row V) (base : ℕ) (xs : List (Slot V)) (y : Slot V) → slot_of xs y.sign ≡ None → KeepsOtherCells old mid base xs
      → KeepsOtherIndices mid new (base + y.sign) → KeepsOtherCells old new base (xs ++ y ∷ [])
  others_more old mid new base xs y none o e = record {
    signs = λ i out. let h = outside_push base xs y i none out in e.signs i h.1 ∙ o.signs i h.0;
    children = λ i out. let h = outside_push base xs y i none out in e.children i h.1 ∙ o.children i h.0;
    values = λ i out. let h = outside_push base xs y i none out in e.values i h.1 ∙ o.values i h.0;
    bases = λ b. e.bases b ∙ o.bases b;
    size = e.size ∙ o.size;
  }

  others_none : (r : Row V) (base : ℕ) → KeepsOtherCells r r base []
  others_none r base = record { signs = λ i out. refl; children = λ i out. refl; values = λ i out. refl; bases = λ b. refl; size = refl }

  pub gives_none : (r : Row V) (base : ℕ) → GivesUp r r base []
  gives_none r base = record { others = others_none r base; free = λ x s e. cc; count = omega arith }

  pub puts_none : (r : Row V) (base : ℕ) → PutsSlots r r base []
  puts_none r base = record { others = others_none r base; at = λ x s e. cc; count = omega arith }

  -- the sign of another slot is another
  apart : (base : ℕ) (xs : List (Slot V)) (y : Slot V) (x : ℕ) (s : Slot V) → slot_of xs y.sign ≡ None → slot_of xs x ≡ Some s → base + x ≢ base + y.sign
  apart base xs y x s none at e =
      let same : x ≡ y.sign = omega arith in
      let there : slot_of xs y.sign ≡ Some s = ap (slot_of xs) (sym same) ∙ at in cc

  pub gives_more : (old mid new : Row V) (base : ℕ) (xs : List (Slot V)) (y : Slot V) → slot_of xs y.sign ≡ None → GivesUp old mid base xs
      → Frees mid new (base + y.sign) → GivesUp old new base (xs ++ y ∷ [])
  gives_more old mid new base xs y none g f = record {
    others = others_more old mid new base xs y none g.others f.elsewhere;
    free = λ x s at. elim (slot_push xs y x s at) [
      | inl h ↦ f.elsewhere.signs (base + x) (apart base xs y x s none h) ∙ g.free x s h
      | inr h ↦ ap (λ z. sign_at new (base + z)) h.1 ∙ f.sign_is
    ];
    count = omega (arith, g.count, f.count, length_push xs y);
  }

  pub puts_more : (old mid new : Row V) (base : ℕ) (xs : List (Slot V)) (y : Slot V) → slot_of xs y.sign ≡ None → PutsSlots old mid base xs
      → Takes mid new (base + y.sign) y.sign y.value y.child → PutsSlots old new base (xs ++ y ∷ [])
  puts_more old mid new base xs y none p t = record {
    others = others_more old mid new base xs y none p.others t.elsewhere;
    at = λ x s at. elim (slot_push xs y x s at) [
      | inl h ↦
          let n = apart base xs y x s none h in
          let old_at = p.at x s h in
          (t.elsewhere.signs (base + x) n ∙ old_at.0, t.elsewhere.children (base + x) n ∙ old_at.1, t.elsewhere.values (base + x) n ∙ old_at.2)
      | inr h ↦ (
        ap (λ z. sign_at new (base + z)) h.1 ∙ t.sign_is ∙ sym h.1,
        ap (λ z. child_at new (base + z)) h.1 ∙ t.child_is ∙ ap (λ (k : Slot V). k.child) (sym h.2),
        ap (λ z. slice_get new.values (base + z)) h.1 ∙ t.value_is ∙ ap (λ (k : Slot V). Some k.value) (sym h.2),
      )
    ];
    count = omega (arith, p.count, t.count, length_push xs y);
  }
