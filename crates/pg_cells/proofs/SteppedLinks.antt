-- A sign is added with its links, or removed with them.
use Rattle.std.proofs.Common.{◌≡◌, ◌≢◌, ℕ, ◌<◌, ◌≤◌, ◌⊎◌, inl, inr, Bool, true, false, ◌&&◌, nat_eq, MatchBool, T, List, [], ◌∷◌, ◌++◌, None, Some, refl, sym, ◌∙◌, ap, subst, arith}
use Rattle.std.proofs.lemmas.Bool.{cases_eq, cases_lt, eq-eqb, ne_eqb, both_ways}
use Rattle.std.proofs.lemmas.List.{same_from_push}
use Rattle.std.specs.Option.{is_some}
use Rattle.std.specs.FinMap.{find, put, is_sorted}
use Rattle.pg_types.specs.Inside.Placing.{cell_of}
use Rattle.pg_cells.specs.declared.store.member.Member.{Member}
use Rattle.pg_cells.specs.Inside.linked.ValuedFamilies.{ValuedFamilies, without_key}
use Rattle.pg_cells.specs.Inside.linked.AreValuedFamilies.{AreValuedFamilies}
use Rattle.pg_cells.specs.Inside.linked.Links.{AreLinks, with_link}
use Rattle.pg_cells.specs.Inside.linked.Members.{IsNextSign, IsBefore, goes_on, has_sign, IsAlone, HasOther}
use Rattle.pg_cells.proofs.StringMaps.{order, find_put_same, find_put_other, find_without_same, find_without_other}
use Rattle.pg_cells.proofs.PlacedFamily.{not_longer}
use Rattle.pg_cells.proofs.LinkLaws.{some_string, goes_cell, goes_has, HasMore, more_after, more_before, more_other, HasLess, less_before, less_other}
use Rattle.pg_cells.proofs.Relinked.{goes_by, goes_found, IsRelinked, relinked, links_stepped}
use Rattle.pg_cells.proofs.Unlinked.{plain, put_plain, without_plain, relink_plain}

-- two signs below one string
sign_differs : (p : List ℕ) (x y : ℕ) → x ≢ y → p ++ x ∷ [] ≢ p ++ y ∷ []
sign_differs p x y other e = other (same_sign p e)
  where
    same_sign : (p : List ℕ) → p ++ x ∷ [] ≡ p ++ y ∷ [] → x ≡ y
    same_sign p e = (same_from_push p p x y e).1

-- no sign is below a string of which it is a part
longer_differs : (p : List ℕ) (s z : ℕ) → (p ++ s ∷ []) ++ z ∷ [] ≢ p ++ s ∷ []
longer_differs p s z e = not_longer (p ++ s ∷ []) z e

module _ {V : Type 0} (h mid new : ValuedFamilies (Member V)) (links : AreLinks h) (p : List ℕ) (parent : ℕ) (at : cell_of h.families p ≡ Some parent)
    (s : ℕ) (up : 1 ≤ s) (b : ℕ) (before : IsBefore h.values p s b) where
  -- the parent's own entry
  own_entry : (m : Member V) × (find order p h.values ≡ Some m)
  own_entry = links.held.valued p parent at

  module _ (lacks : cell_of h.families (p ++ s ∷ []) ≡ None) (after : ℕ) (next : IsNextSign h.values p b after) (v : V)
      (values : mid.values ≡ put order (p ++ s ∷ []) (record { value = v; next = after; first = 0 }) h.values) where
    abbrev entry : Member V
    entry = record { value = v; next = after; first = 0 }

    put_there : (r : List ℕ) → r ≢ p ++ s ∷ [] → find order r mid.values ≡ find order r h.values
    put_there r other = ap (find order r) values ∙ find_put_other r (p ++ s ∷ []) entry h.values other

    lacks_goes : goes_on h.values p s ≡ false
    lacks_goes = goes_has h links.held p s ∙ ap is_some lacks

    has_more : HasMore (goes_on h.values p) (goes_on mid.values p) s
    has_more = record {
      here = goes_found mid.values p s entry (ap (find order (p ++ s ∷ [])) values ∙ find_put_same (p ++ s ∷ []) entry h.values);
      stays = λ z is. goes_by mid.values h.values p z (put_there (p ++ z ∷ []) (sign_differs p z s (λ e. both_ways (goes_on h.values p s) lacks_goes (ap (goes_on h.values p) (sym e) ∙ is)))) ∙ is;
      came = λ z other is. goes_by h.values mid.values p z (sym (put_there (p ++ z ∷ []) (sign_differs p z s other))) ∙ is;
    }

    pub add_behind : (b ≡ 0) ⊎ (goes_on mid.values p b ≡ true)
    add_behind = elim before.there [ inl z ↦ inl z | inr is ↦ inr (has_more.stays b is) ]

    add_relinked : new ≡ with_link mid p b s → IsRelinked mid.values new.values p b s
    add_relinked is = relinked mid new p b s own_entry.0 (put_there p (λ e. not_longer p s (sym e)) ∙ own_entry.1) add_behind is

    -- nothing goes on from the new string
    none_further : (z : ℕ) → goes_on mid.values (p ++ s ∷ []) z ≡ false
    none_further z =
        goes_by mid.values h.values (p ++ s ∷ []) z (put_there ((p ++ s ∷ []) ++ z ∷ []) (longer_differs p s z))
        ∙ goes_has h links.held (p ++ s ∷ []) z ∙ ap is_some (links.held.none_longer p s (z ∷ []) lacks)

    add_own : (m : Member V) → find order (p ++ s ∷ []) mid.values ≡ Some m → (IsNextSign mid.values p s m.next) × IsNextSign mid.values (p ++ s ∷ []) 0 m.first
    add_own m e =
        let found : Some entry ≡ Some m = sym (find_put_same (p ++ s ∷ []) entry h.values) ∙ sym (ap (find order (p ++ s ∷ [])) values) ∙ e in
        let is : entry ≡ m = cc in (
          subst (λ (k : Member V). IsNextSign mid.values p s k.next) is
              (more_after (goes_on h.values p) (goes_on mid.values p) s b after has_more before.less before.there before.most next lacks_goes),
          subst (λ (k : Member V). IsNextSign mid.values (p ++ s ∷ []) 0 k.first) is (record {
            found = λ up. absurd (omega arith);
            least = λ z lt goes. absurd (both_ways (goes_on mid.values (p ++ s ∷ []) z) (none_further z) goes);
          }),
        )

    pub links_added : AreValuedFamilies new → new ≡ with_link mid p b s → AreLinks new
    links_added held is = links_stepped h mid new p s b s (record {
      links = links;
      held = held;
      some = some_string h.families p parent at;
      positive = omega arith;
      less = before.less;
      there = put_there;
      relink = add_relinked is;
      written = more_before (goes_on h.values p) (goes_on mid.values p) s b after has_more before.less before.there before.most next lacks_goes;
      own = add_own;
      others = λ t y off not_s there old. more_other (goes_on h.values p) (goes_on mid.values p) s b after has_more before.less before.there before.most next lacks_goes t y off not_s there old;
    })

    pub values_added : T (is_sorted order mid.values) → new ≡ with_link mid p b s → plain new.values ≡ put order (p ++ s ∷ []) v (plain h.values)
    values_added sorted is =
        let r = add_relinked is in
        ap plain r.values ∙ relink_plain r.string r.was r.now mid.values sorted r.at r.value ∙ ap plain values ∙ put_plain (p ++ s ∷ []) entry h.values links.held.ordered

  module _ (after : ℕ) (next : IsNextSign h.values p s after) (values : mid.values ≡ without_key (p ++ s ∷ []) h.values) where
    without_there : (r : List ℕ) → r ≢ p ++ s ∷ [] → find order r mid.values ≡ find order r h.values
    without_there r other = ap (find order r) values ∙ find_without_other r (p ++ s ∷ []) h.values other

    gone : find order (p ++ s ∷ []) mid.values ≡ None
    gone = ap (find order (p ++ s ∷ [])) values ∙ find_without_same (p ++ s ∷ []) h.values

    has_less : HasLess (goes_on h.values p) (goes_on mid.values p) s
    has_less = record {
      here = ap is_some gone;
      other = λ z other. goes_by mid.values h.values p z (without_there (p ++ z ∷ []) (sign_differs p z s other));
    }

    pub remove_behind : (b ≡ 0) ⊎ (goes_on mid.values p b ≡ true)
    remove_behind = elim before.there [ inl z ↦ inl z | inr is ↦ inr (has_less.other b (λ e. (let lt = before.less in omega arith)) ∙ is) ]

    remove_relinked : new ≡ with_link mid p b after → IsRelinked mid.values new.values p b after
    remove_relinked is = relinked mid new p b after own_entry.0 (without_there p (λ e. not_longer p s (sym e)) ∙ own_entry.1) remove_behind is

    pub links_removed : AreValuedFamilies new → new ≡ with_link mid p b after → AreLinks new
    links_removed held is = links_stepped h mid new p s b after (record {
      links = links;
      held = held;
      some = some_string h.families p parent at;
      positive = omega arith;
      less = before.less;
      there = without_there;
      relink = remove_relinked is;
      written = less_before (goes_on h.values p) (goes_on mid.values p) s b after has_less before.less before.there before.most next;
      own = λ m e. absurd (let no : None ≡ Some m = sym gone ∙ e in cc);
      others = λ t y off not_s there old. less_other (goes_on h.values p) (goes_on mid.values p) s b after has_less before.less before.there before.most next t y off not_s there old;
    })

    pub values_removed : T (is_sorted order mid.values) → new ≡ with_link mid p b after → plain new.values ≡ without_key (p ++ s ∷ []) (plain h.values)
    values_removed sorted is =
        let r = remove_relinked is in
        ap plain r.values ∙ relink_plain r.string r.was r.now mid.values sorted r.at r.value ∙ ap plain values ∙ without_plain (p ++ s ∷ []) h.values links.held.ordered

  -- whether the sign is alone in its family
  pub alone_told : (after : ℕ) → IsNextSign h.values p s after → MatchBool (nat_eq b 0 && nat_eq after 0) (IsAlone h.families p s) (HasOther h.families p s)
  alone_told after next = elim (cases_eq b 0) [
    | inl z ↦ elim (cases_eq after 0) [
      | inl e ↦ subst (λ t. MatchBool t (IsAlone h.families p s) (HasOther h.families p s)) (sym (λ i. eq-eqb b 0 z i && eq-eqb after 0 e i)) (none z e)
      | inr n ↦
          let f = next.found (omega arith) in
          subst (λ t. MatchBool t (IsAlone h.families p s) (HasOther h.families p s)) (sym (λ i. eq-eqb b 0 z i && ne_eqb after 0 n i))
          (after, (λ e. (let lt = f.0 in omega arith)), sym (goes_has h links.held p after) ∙ f.1)
    ]
    | inr n ↦ subst (λ t. MatchBool t (IsAlone h.families p s) (HasOther h.families p s)) (sym (ap (λ t. t && nat_eq after 0) (ne_eqb b 0 n))) (first before.there n)
  ]
    where
      first : (b ≡ 0) ⊎ (goes_on h.values p b ≡ true) → b ≢ 0 → HasOther h.families p s
      first (inl z) n = absurd (n z)
      first (inr is) n = (b, (λ e. (let lt = before.less in omega arith)), sym (goes_has h links.held p b) ∙ is)

      none : b ≡ 0 → after ≡ 0 → IsAlone h.families p s
      none z e x other = by (has_sign h.families p x) refl
        where
          by : (t : Bool) → has_sign h.families p x ≡ t → has_sign h.families p x ≡ false
          by false is = is
          by true is =
              let goes = goes_has h links.held p x ∙ is in
              let c = goes_cell h links.held p x goes in
              let sign = links.held.signs p x c.0 c.1 in
              let low = sign.0 in
              absurd (side goes low (cases_lt x s))
            where
              side : goes_on h.values p x ≡ true → 1 ≤ x → (x < s) ⊎ (s ≤ x) → ⊥
              side goes low (inl lt) = let m = before.most x lt goes in omega arith
              side goes low (inr le) = let l = next.least x (omega arith) goes in let up = l.0 in omega arith
