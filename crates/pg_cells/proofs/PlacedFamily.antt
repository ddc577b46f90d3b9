-- The one law behind each step that changes one family: where the row tells the family as it is now, and each other family as
-- before, the families lie in the row.
use Rattle.std.proofs.Common.{◌≡◌, ◌≢◌, ℕ, ◌+◌, ◌<◌, ◌≤◌, inl, inr, Bool, true, cond, nat_eq, List, [], ◌∷◌, ◌++◌, filter, length, Option, Some, suc, zero, refl, sym, ◌∙◌, ap, subst, arith}
use Rattle.std.proofs.lemmas.Bool.{eq-eqb, eqb-true}
use Rattle.std.proofs.lemmas.List.{length_push, same_from_push}
use Rattle.std.specs.List.{range_with_len}
use Rattle.pg_types.specs.Placement.{Family}
use Rattle.pg_cells.specs.Inside.store.CellRows.{Row, sign_at, child_at, base_at}
use Rattle.pg_cells.specs.Inside.families.Layouts.{AreLaidOut, IsParent, signs_at_base}
use Rattle.pg_cells.proofs.StringMaps.{equal_or_not}

pub filter_same : (f g : ℕ → Bool) (a n : ℕ) → 0 < a → ((x : ℕ) → 0 < x → f x ≡ g x) → filter f (range_with_len a n) ≡ filter g (range_with_len a n)
filter_same f g a zero up h = refl
filter_same f g a (suc n) up h = λ t. cond (h a up t) (a ∷ filter_same f g (a + 1) n (omega arith) h t) (filter_same f g (a + 1) n (omega arith) h t)

pub not_longer : (p : List ℕ) (x : ℕ) → p ++ x ∷ [] ≢ p
not_longer p x e = omega (arith, ap length e, length_push p x)

pub not_empty : (p : List ℕ) (x : ℕ) → p ++ x ∷ [] ≢ []
not_empty p x e = omega (arith, ap length e, length_push p x)

pub is_same_test : (x y s : ℕ) → nat_eq x s ≡ nat_eq y s → y ≡ s → x ≡ s
is_same_test x y s e is = eqb-true x s (e ∙ eq-eqb y s is)

-- what is told of the family f, now at p, and of the others
pub record Settles {V : Type 0} (n : ℕ) (r new : Row V) (F G : List ℕ → Option Family) (p : List ℕ) (f : Family) : Type 0 where
  pub here : G p ≡ Some f
  pub there : (q : List ℕ) → q ≢ p → G q ≡ F q
  pub front : List ℕ
  pub last : ℕ
  pub whole : p ≡ front ++ last ∷ []
  pub above : Family
  pub above_at : F front ≡ Some above
  pub above_sign : sign_at new (above.base + last) ≡ last
  pub above_child : child_at new (above.base + last) ≡ f.base
  pub base_up : 0 < f.base
  pub last_up : 0 < last
  pub members : f.signs ≡ signs_at_base n new f.base
  pub filled : f.signs ≢ []
  pub own_down : (y : ℕ) (g : Family) → F (p ++ y ∷ []) ≡ Some g → (sign_at new (f.base + y) ≡ y) × (child_at new (f.base + y) ≡ g.base)
  pub own_up : (y : ℕ) → 0 < y → sign_at new (f.base + y) ≡ y → 0 < child_at new (f.base + y) → (g : Family) × (F (p ++ y ∷ []) ≡ Some g) × (g.base ≡ child_at new (f.base + y))
  pub test : (q : List ℕ) (g : Family) (y : ℕ) → q ≢ p → F q ≡ Some g → 0 < y → nat_eq (sign_at new (g.base + y)) y ≡ nat_eq (sign_at r (g.base + y)) y
  pub child : (q : List ℕ) (g : Family) (y : ℕ) → q ≢ p → F q ≡ Some g → 0 < y → sign_at r (g.base + y) ≡ y → q ++ y ∷ [] ≢ p → child_at new (g.base + y) ≡ child_at r (g.base + y)
  pub base : (q : List ℕ) (g : Family) → q ≢ p → F q ≡ Some g → g.base ≢ f.base
  pub owned : (i : ℕ) → sign_at new i ≢ 0 → (q : List ℕ) × (g : Family) × (G q ≡ Some g) × (i ≡ g.base + sign_at new i)
  pub small : (i : ℕ) → sign_at new i ≤ n
  pub flag : (q : List ℕ) (g : Family) → G q ≡ Some g → base_at new g.base ≡ true
  pub flagged : (b : ℕ) → base_at new b ≡ true → (q : List ℕ) × (g : Family) × (G q ≡ Some g) × (g.base ≡ b)

module _ {V : Type 0} (n : ℕ) (r new : Row V) (F G : List ℕ → Option Family) (p : List ℕ) (f : Family) (layout : AreLaidOut n r F) (step : Settles n r new F G p f) where
  -- the family at p is f
  is_f : (q : List ℕ) (g : Family) → q ≡ p → G q ≡ Some g → g ≡ f
  is_f q g e at = let same : Some g ≡ Some f = sym at ∙ ap G e ∙ step.here in cc

  was : (q : List ℕ) (g : Family) → q ≢ p → G q ≡ Some g → F q ≡ Some g
  was q g n at = sym (step.there q n) ∙ at

  now : (q : List ℕ) (g : Family) → q ≢ p → F q ≡ Some g → G q ≡ Some g
  now q g n at = step.there q n ∙ at

  front_not : step.front ≢ p
  front_not e = not_longer step.front step.last (sym step.whole ∙ sym e)

  stands_too : (q : List ℕ) (g : Family) → q ≢ p → F q ≡ Some g → signs_at_base n r g.base ≡ signs_at_base n new g.base
  stands_too q g other at = filter_same (λ x. nat_eq (sign_at r (g.base + x)) x) (λ x. nat_eq (sign_at new (g.base + x)) x) 1 n (omega arith) (λ x up. sym (step.test q g x other at up))

  members_now : (q : List ℕ) (g : Family) → G q ≡ Some g → g.signs ≡ signs_at_base n new g.base
  members_now q g at = elim (equal_or_not q p) [
    | inl e ↦ let same = is_f q g e.0 at in ap (λ (h : Family). h.signs) same ∙ step.members ∙ ap (λ (h : Family). signs_at_base n new h.base) (sym same)
    | inr e ↦ layout.members q g (was q g e.0 at) ∙ stands_too q g e.0 (was q g e.0 at)
  ]

  parent_now : (q : List ℕ) (x : ℕ) (g : Family) → G (q ++ x ∷ []) ≡ Some g → IsParent new G q x g
  parent_now q x g at = elim (equal_or_not (q ++ x ∷ []) p) [
    | inl e ↦
        let parts = same_from_push q step.front x step.last (e.0 ∙ step.whole) in
        let same = is_f (q ++ x ∷ []) g e.0 at in
        record {
          above = step.above;
          at = ap G parts.0 ∙ now step.front step.above front_not step.above_at;
          sign = ap (λ y. sign_at new (step.above.base + y)) parts.1 ∙ step.above_sign ∙ sym parts.1;
          child = ap (λ y. child_at new (step.above.base + y)) parts.1 ∙ step.above_child ∙ ap (λ (h : Family). h.base) (sym same);
          base = subst (λ (h : Family). 0 < h.base) (sym same) step.base_up;
          positive = let e = parts.1 in let u = step.last_up in omega arith;
        }
    | inr e ↦
        let old = layout.parent q x g (was (q ++ x ∷ []) g e.0 at) in
        elim (equal_or_not q p) [
          | inl h ↦
              let own = step.own_down x g (ap (λ l. F (l ++ x ∷ [])) (sym h.0) ∙ was (q ++ x ∷ []) g e.0 at) in
              record { above = f; at = ap G h.0 ∙ step.here; sign = own.0; child = own.1; base = old.base; positive = old.positive }
          | inr h ↦ record {
            above = old.above;
            at = now q old.above h.0 old.at;
            sign = is_same_test (sign_at new (old.above.base + x)) (sign_at r (old.above.base + x)) x (step.test q old.above x h.0 old.at old.positive) old.sign;
            child = step.child q old.above x h.0 old.at old.positive old.sign e.0 ∙ old.child;
            base = old.base;
            positive = old.positive;
          }
        ]
  ]

  child_now : (q : List ℕ) (x : ℕ) (g : Family) → G q ≡ Some g → 0 < x → sign_at new (g.base + x) ≡ x → 0 < child_at new (g.base + x)
      → (h : Family) × (G (q ++ x ∷ []) ≡ Some h) × (h.base ≡ child_at new (g.base + x))
  child_now q x g at up is down = elim (equal_or_not q p) [
    | inl e ↦
        let same = is_f q g e.0 at in
        let own = step.own_up x up (ap (λ (h : Family). sign_at new (h.base + x)) (sym same) ∙ is) (subst (λ (h : Family). 0 < child_at new (h.base + x)) same down) in
        (own.0, now (q ++ x ∷ []) own.0 (λ z. not_longer q x (z ∙ sym e.0)) (ap (λ l. F (l ++ x ∷ [])) e.0 ∙ own.1), own.2 ∙ ap (λ (h : Family). child_at new (h.base + x)) (sym same))
    | inr e ↦
        let old_at = was q g e.0 at in
        let old_sign = is_same_test (sign_at r (g.base + x)) (sign_at new (g.base + x)) x (sym (step.test q g x e.0 old_at up)) is in
        elim (equal_or_not (q ++ x ∷ []) p) [
          | inl h ↦
              let parts = same_from_push q step.front x step.last (h.0 ∙ step.whole) in
              let family : Some g ≡ Some step.above = sym old_at ∙ ap F parts.0 ∙ step.above_at in
              let same : g ≡ step.above = cc in
              (f, ap G h.0 ∙ step.here, sym step.above_child ∙ (λ t. child_at new ((sym same t).base + sym parts.1 t)))
          | inr h ↦
              let child = step.child q g x e.0 old_at up old_sign h.0 in
              let old = layout.child q x g old_at up old_sign (omega arith) in
              (old.0, now (q ++ x ∷ []) old.0 h.0 old.1, old.2 ∙ sym child)
        ]
  ]

  apart_now : (q u : List ℕ) (g h : Family) → G q ≡ Some g → G u ≡ Some h → g.base ≡ h.base → q ≡ u
  apart_now q u g h a b e = elim (equal_or_not q p) [
    | inl qe ↦ elim (equal_or_not u p) [
      | inl ue ↦ qe.0 ∙ sym ue.0
      | inr ue ↦ absurd (step.base u h ue.0 (was u h ue.0 b) (sym e ∙ ap (λ (k : Family). k.base) (is_f q g qe.0 a)))
    ]
    | inr qe ↦ elim (equal_or_not u p) [
      | inl ue ↦ absurd (step.base q g qe.0 (was q g qe.0 a) (e ∙ ap (λ (k : Family). k.base) (is_f u h ue.0 b)))
      | inr ue ↦ layout.apart q u g h (was q g qe.0 a) (was u h ue.0 b) e
    ]
  ]

  pub settles : AreLaidOut n new G
  settles = record {
    root = step.there [] (λ e. not_empty step.front step.last (sym step.whole ∙ sym e)) ∙ layout.root;
    members = members_now;
    filled = λ q g at. elim (equal_or_not q p) [
      | inl e ↦ λ z. step.filled (ap (λ (h : Family). h.signs) (sym (is_f q g e.0 at)) ∙ z)
      | inr e ↦ layout.filled q g (was q g e.0 at)
    ];
    parent = parent_now;
    child = child_now;
    apart = apart_now;
    owned = step.owned;
    small = step.small;
    flag = step.flag;
    flagged = step.flagged;
  }
