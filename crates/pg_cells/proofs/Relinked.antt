-- The links after a value is put, and after a sign is linked in or out.
use Rattle.std.proofs.Common.{◌≡◌, ◌≢◌, ℕ, ◌<◌, ◌⊎◌, inl, inr, true, cond, List, [], ◌∷◌, ◌++◌, Option, None, Some, refl, sym, ◌∙◌, ap, subst, arith}
use Rattle.std.proofs.lemmas.Bool.{cases_eq, eq-eqb, ne_eqb, false≢true}
use Rattle.std.proofs.lemmas.List.{same_from_push}
use Rattle.std.specs.Option.{is_some}
use Rattle.std.specs.FinMap.{find, put}
use Rattle.pg_cells.specs.declared.store.member.Member.{Member}
use Rattle.pg_cells.specs.Inside.linked.ValuedFamilies.{ValuedFamilies}
use Rattle.pg_cells.specs.Inside.linked.AreValuedFamilies.{AreValuedFamilies}
use Rattle.pg_cells.specs.Inside.linked.Links.{AreLinks, with_link, with_first, with_next}
use Rattle.pg_cells.specs.Inside.linked.Members.{IsNextSign, goes_on}
use Rattle.pg_cells.proofs.StringMaps.{order, find_put_same, find_put_other, equal_or_not}
use Rattle.pg_cells.proofs.PlacedFamily.{not_longer}
use Rattle.pg_cells.proofs.GivenMembers.{next_alike}
use Rattle.pg_cells.proofs.LinkLaws.{goes_cell}

module _ {V : Type 0} where
  pub goes_by : (es fs : List (List ℕ × Member V)) (p : List ℕ) (z : ℕ) → find order (p ++ z ∷ []) es ≡ find order (p ++ z ∷ []) fs → goes_on es p z ≡ goes_on fs p z
  goes_by es fs p z e = ap is_some e

  pub goes_found : (es : List (List ℕ × Member V)) (p : List ℕ) (z : ℕ) (m : Member V) → find order (p ++ z ∷ []) es ≡ Some m → goes_on es p z ≡ true
  goes_found es p z m e = ap is_some e

  found_goes : (es : List (List ℕ × Member V)) (p : List ℕ) (z : ℕ) → goes_on es p z ≡ true → (m : Member V) × (find order (p ++ z ∷ []) es ≡ Some m)
  found_goes es p z is = by (find order (p ++ z ∷ []) es) refl
    where
      by : (o : Option (Member V)) → find order (p ++ z ∷ []) es ≡ o → (m : Member V) × (find order (p ++ z ∷ []) es ≡ Some m)
      by None e = absurd (false≢true (sym (ap is_some e) ∙ is))
      by (Some m) e = (m, e)

  -- a put where a value stands leaves the signs that go on
  put_goes : (w : List ℕ) (m new : Member V) (es : List (List ℕ × Member V)) → find order w es ≡ Some m → (p : List ℕ) (z : ℕ) → goes_on (put order w new es) p z ≡ goes_on es p z
  put_goes w m new es at p z = elim (equal_or_not (p ++ z ∷ []) w) [
    | inl e ↦ goes_found (put order w new es) p z new (ap (λ r. find order r (put order w new es)) e.0 ∙ find_put_same w new es) ∙ sym (goes_found es p z m (ap (λ r. find order r es) e.0 ∙ at))
    | inr e ↦ goes_by (put order w new es) es p z (find_put_other (p ++ z ∷ []) w new es e.0)
  ]

  module _ (h new : ValuedFamilies (Member V)) (links : AreLinks h) (held : AreValuedFamilies new) (q : List ℕ) (m k : Member V) (at : find order q h.values ≡ Some m)
      (values : new.values ≡ put order q k h.values) (next : k.next ≡ m.next) (first : k.first ≡ m.first) where
    same_goes : (p : List ℕ) (z : ℕ) → 0 < z → goes_on h.values p z ≡ goes_on new.values p z
    same_goes p z up = sym (ap (λ es. goes_on es p z) values ∙ put_goes q m k h.values at p z)

    was : (r : List ℕ) (x : Member V) → find order r new.values ≡ Some x → (y : Member V) × (find order r h.values ≡ Some y) × (x.next ≡ y.next) × (x.first ≡ y.first)
    was r x e = elim (equal_or_not r q) [
      | inl same ↦
          let found : Some k ≡ Some x = sym (find_put_same q k h.values) ∙ sym (ap (λ p. find order p (put order q k h.values)) same.0) ∙ sym (ap (find order r) values) ∙ e in
          let is : k ≡ x = cc in
          (m, ap (λ p. find order p h.values) same.0 ∙ at, sym (ap (λ (y : Member V). y.next) is) ∙ next, sym (ap (λ (y : Member V). y.first) is) ∙ first)
      | inr other ↦ (x, sym (find_put_other r q k h.values other.0) ∙ sym (ap (find order r) values) ∙ e, refl, refl)
    ]

    -- another value with the same links
    pub links_valued : AreLinks new
    links_valued = record {
      held = held;
      first = λ r x e. (let y = was r x e in next_alike (goes_on h.values r) (goes_on new.values r) 0 x.first (same_goes r) (subst (IsNextSign h.values r 0) (sym y.3) (links.first r y.0 y.1)));
      next = λ r s x some e. (let y = was (r ++ s ∷ []) x e in next_alike (goes_on h.values r) (goes_on new.values r) s x.next (same_goes r)
          (subst (IsNextSign h.values r s) (sym y.2) (links.next r s y.0 some y.1)));
    }

  -- what the link behind a sign is written to: the string, what stood there, and what stands there now
  pub record IsRelinked (old new : List (List ℕ × Member V)) (q : List ℕ) (b to : ℕ) : Type 0 where
    pub string : List ℕ
    pub was : Member V
    pub now : Member V
    pub at : find order string old ≡ Some was
    pub values : new ≡ put order string now old
    pub value : now.value ≡ was.value
    pub either : ((b ≡ 0) × (string ≡ q) × (now.first ≡ to) × (now.next ≡ was.next)) ⊎ ((b ≢ 0) × (string ≡ q ++ b ∷ []) × (now.next ≡ to) × (now.first ≡ was.first))

  pub relinked : (h new : ValuedFamilies (Member V)) (q : List ℕ) (b to : ℕ) (m : Member V) → find order q h.values ≡ Some m → (b ≡ 0)
      ⊎ (goes_on h.values q b ≡ true) → new ≡ with_link h q b to → IsRelinked h.values new.values q b to
  relinked h new q b to m at there is = elim (cases_eq b 0) [
    | inl z ↦ record {
      string = q;
      was = m;
      now = record m { first = to };
      at = at;
      values =
          ap (λ (x : ValuedFamilies (Member V)). x.values) is
          ∙ ap (λ c. cond c (with_first (find order q h.values) to q h.values) (with_next (find order (q ++ b ∷ []) h.values) to (q ++ b ∷ []) h.values)) (eq-eqb b 0 z)
          ∙ ap (λ o. with_first o to q h.values) at;
      value = refl;
      either = inl (z, refl, refl, refl);
    }
    | inr up ↦ behind up there
  ]
    where
      behind : b ≢ 0 → (b ≡ 0) ⊎ (goes_on h.values q b ≡ true) → IsRelinked h.values new.values q b to
      behind up (inl z) = absurd (up z)
      behind up (inr goes) =
          let k = found_goes h.values q b goes in
          record {
            string = q ++ b ∷ [];
            was = k.0;
            now = record (k.0) { next = to };
            at = k.1;
            values =
                ap (λ (x : ValuedFamilies (Member V)). x.values) is
                ∙ ap (λ c. cond c (with_first (find order q h.values) to q h.values) (with_next (find order (q ++ b ∷ []) h.values) to (q ++ b ∷ []) h.values)) (ne_eqb b 0 up)
                ∙ ap (λ o. with_next o to (q ++ b ∷ []) h.values) k.1;
            value = refl;
            either = inr (up, refl, refl, refl);
          }

  -- the links of cells after the sign s is linked in or out below q, told of the signs that go on below it
  pub record Steps (h mid new : ValuedFamilies (Member V)) (q : List ℕ) (s b to : ℕ) : Type 0 where
    pub links : AreLinks h
    pub held : AreValuedFamilies new
    pub some : q ≢ []
    pub positive : 0 < s
    pub less : b < s
    -- the strings but that with s are as before
    pub there : (r : List ℕ) → r ≢ q ++ s ∷ [] → find order r mid.values ≡ find order r h.values
    pub relink : IsRelinked mid.values new.values q b to
    -- the link that is written is right
    pub written : IsNextSign mid.values q b to
    -- so are that of s, where it has one, and the others
    pub own : (m : Member V) → find order (q ++ s ∷ []) mid.values ≡ Some m → (IsNextSign mid.values q s m.next) × IsNextSign mid.values (q ++ s ∷ []) 0 m.first
    pub others : (t y : ℕ) → t ≢ b → t ≢ s → (t ≡ 0) ⊎ (goes_on h.values q t ≡ true) → IsNextSign h.values q t y → IsNextSign mid.values q t y

  module _ (h mid new : ValuedFamilies (Member V)) (q : List ℕ) (s b to : ℕ) (step : Steps h mid new q s b to) where
    re_values : new.values ≡ put order step.relink.string step.relink.now mid.values
    re_values = step.relink.values

    -- the signs that go on are those before the link is written
    goes_mid : (p : List ℕ) (z : ℕ) → 0 < z → goes_on mid.values p z ≡ goes_on new.values p z
    goes_mid p z up = sym (ap (λ es. goes_on es p z) re_values ∙ put_goes step.relink.string step.relink.was step.relink.now mid.values step.relink.at p z)

    -- below other strings nothing changes
    goes_other : (p : List ℕ) (z : ℕ) → p ≢ q → goes_on h.values p z ≡ goes_on mid.values p z
    goes_other p z other = goes_by h.values mid.values p z (sym (step.there (p ++ z ∷ []) (λ e. other (same_from_push p q z s e).0)))

    to_new : (p : List ℕ) (t y : ℕ) → IsNextSign mid.values p t y → IsNextSign new.values p t y
    to_new p t y is = next_alike (goes_on mid.values p) (goes_on new.values p) t y (goes_mid p) is

    to_mid : (p : List ℕ) (t y : ℕ) → p ≢ q → IsNextSign h.values p t y → IsNextSign mid.values p t y
    to_mid p t y other is = next_alike (goes_on h.values p) (goes_on mid.values p) t y (λ z up. goes_other p z other) is

    -- the string whose link is written had it before
    old_at : step.relink.string ≢ q ++ s ∷ [] → find order step.relink.string h.values ≡ Some step.relink.was
    old_at other = sym (step.there step.relink.string other) ∙ step.relink.at

    first_now : (r : List ℕ) (m : Member V) → find order r new.values ≡ Some m → IsNextSign mid.values r 0 m.first
    first_now r m e = elim (equal_or_not r step.relink.string) [
      | inl same ↦
          let found : Some step.relink.now ≡ Some m = sym (find_put_same step.relink.string step.relink.now mid.values)
          ∙ sym (ap (λ p. find order p (put order step.relink.string step.relink.now mid.values)) same.0) ∙ sym (ap (find order r) re_values) ∙ e in
          let is : step.relink.now ≡ m = cc in
          subst (λ (k : Member V). IsNextSign mid.values r 0 k.first) is (elim step.relink.either [
            | inl z ↦ subst (λ p. IsNextSign mid.values p 0 step.relink.now.first) (sym (same.0 ∙ z.1))
                (subst (IsNextSign mid.values q 0) (sym z.2) (subst (λ t. IsNextSign mid.values q t to) z.0 step.written))
            | inr n ↦
                let behind : r ≡ q ++ b ∷ [] = same.0 ∙ n.1 in
                let other : r ≢ q = λ z. not_longer q b (sym behind ∙ z) in
                let not_s : step.relink.string ≢ q ++ s ∷ [] = λ z. (let lt = step.less in let same_sign = (same_from_push q q b s (sym n.1 ∙ z)).1 in omega arith) in
                let first = step.links.first step.relink.string step.relink.was (old_at not_s) in
                to_mid r 0 step.relink.now.first other (subst (λ p. IsNextSign h.values p 0 step.relink.now.first) (sym same.0) (subst (IsNextSign h.values step.relink.string 0) (sym n.3) first))
          ])
      | inr off ↦
          let at_mid : find order r mid.values ≡ Some m = sym (find_put_other r step.relink.string step.relink.now mid.values off.0) ∙ sym (ap (find order r) re_values) ∙ e in
          elim (equal_or_not r (q ++ s ∷ [])) [
            | inl own ↦ subst (λ p. IsNextSign mid.values p 0 m.first) (sym own.0) (step.own m (ap (λ p. find order p mid.values) (sym own.0) ∙ at_mid)).1
            | inr other ↦
                let first = step.links.first r m (sym (step.there r other.0) ∙ at_mid) in
                elim (equal_or_not r q) [
                  | inl here ↦ subst (λ p. IsNextSign mid.values p 0 m.first) (sym here.0)
                      (step.others 0 m.first (not_first here.0 off.0) (let up = step.positive in omega arith) (inl refl) (subst (λ p. IsNextSign h.values p 0 m.first) here.0 first))
                  | inr away ↦ to_mid r 0 m.first away.0 first
                ]
          ]
    ]
      where
        not_first : r ≡ q → r ≢ step.relink.string → 0 ≢ b
        not_first here off z = elim step.relink.either [
          | inl e ↦ off (here ∙ sym e.1)
          | inr e ↦ e.0 (sym z)
        ]

    next_now : (p : List ℕ) (t : ℕ) (m : Member V) → p ≢ [] → find order (p ++ t ∷ []) new.values ≡ Some m → IsNextSign mid.values p t m.next
    next_now p t m some e = elim (equal_or_not (p ++ t ∷ []) step.relink.string) [
      | inl same ↦
          let found : Some step.relink.now ≡ Some m = sym (find_put_same step.relink.string step.relink.now mid.values)
          ∙ sym (ap (λ r. find order r (put order step.relink.string step.relink.now mid.values)) same.0) ∙ sym (ap (find order (p ++ t ∷ [])) re_values) ∙ e in
          let is : step.relink.now ≡ m = cc in
          subst (λ (k : Member V). IsNextSign mid.values p t k.next) is (elim step.relink.either [
            | inl z ↦
                let whole : p ++ t ∷ [] ≡ q = same.0 ∙ z.1 in
                let other : p ≢ q = λ w. not_longer p t (whole ∙ sym w) in
                let not_s : step.relink.string ≢ q ++ s ∷ [] = λ w. not_longer q s (sym w ∙ z.1) in
                let next = step.links.next p t step.relink.was some (ap (λ r. find order r h.values) same.0 ∙ old_at not_s) in
                to_mid p t step.relink.now.next other (subst (IsNextSign h.values p t) (sym z.3) next)
            | inr n ↦
                let parts = same_from_push p q t b (same.0 ∙ n.1) in
                subst (λ r. IsNextSign mid.values r t step.relink.now.next) (sym parts.0)
                (subst (λ x. IsNextSign mid.values q x step.relink.now.next) (sym parts.1) (subst (IsNextSign mid.values q b) (sym n.2) step.written))
          ])
      | inr off ↦
          let at_mid : find order (p ++ t ∷ []) mid.values ≡ Some m = sym (find_put_other (p ++ t ∷ []) step.relink.string step.relink.now mid.values off.0)
          ∙ sym (ap (find order (p ++ t ∷ [])) re_values) ∙ e in
          elim (equal_or_not (p ++ t ∷ []) (q ++ s ∷ [])) [
            | inl own ↦
                let parts = same_from_push p q t s own.0 in
                subst (λ r. IsNextSign mid.values r t m.next) (sym parts.0)
                (subst (λ x. IsNextSign mid.values q x m.next) (sym parts.1) (step.own m (ap (λ r. find order r mid.values) (sym own.0) ∙ at_mid)).0)
            | inr other ↦
                let at_old = sym (step.there (p ++ t ∷ []) other.0) ∙ at_mid in
                let next = step.links.next p t m some at_old in
                elim (equal_or_not p q) [
                  | inr away ↦ to_mid p t m.next away.0 next
                  | inl here ↦
                      let goes : goes_on h.values q t ≡ true = goes_found h.values q t m (ap (λ r. find order (r ++ t ∷ []) h.values) (sym here.0) ∙ at_old) in
                      let not_s : t ≢ s = λ z. other.0 (λ i. here.0 i ++ z i ∷ []) in
                      subst (λ r. IsNextSign mid.values r t m.next) (sym here.0)
                      (step.others t m.next (not_b here.0 off.0 goes) not_s (inr goes) (subst (λ r. IsNextSign h.values r t m.next) here.0 next))
                ]
          ]
    ]
      where
        not_b : p ≡ q → p ++ t ∷ [] ≢ step.relink.string → goes_on h.values q t ≡ true → t ≢ b
        not_b here off goes z = elim step.relink.either [
          | inl e ↦
              let c = goes_cell h step.links.held q t goes in
              let sign = step.links.held.signs q t c.0 c.1 in
              let up = sign.0 in
              let none = e.0 in
              omega arith
          | inr e ↦ off ((λ i. here i ++ z i ∷ []) ∙ sym e.1)
        ]

    pub links_stepped : AreLinks new
    links_stepped = record {
      held = step.held;
      first = λ r m e. to_new r 0 m.first (first_now r m e);
      next = λ p t m some e. to_new p t m.next (next_now p t m some e);
    }
