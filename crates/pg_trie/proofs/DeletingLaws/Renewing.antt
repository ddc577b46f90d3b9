-- New records and new heads, string by string.
use Rattle.std.proofs.Common.{◌≡◌, ◌≢◌, ℕ, ◌+◌, ◌<◌, ◌≤◌, ◌⊎◌, true, false, cond, nat_lt, List, [], ◌∷◌, ◌++◌, length, get_or, set, slice_get, Some, inl, inr, refl, sym, ◌∙◌, ap, subst, arith, get_or-set_other, get_or-set_same, length-set}
use Rattle.std.proofs.lemmas.Bool.{cases_lt, cases_eq, lt-ltb, le-ltb}
use Rattle.std.proofs.lemmas.List.{length_push}
use Rattle.std.specs.FinMap.Entries.{find, put}
use Rattle.pg_types.specs.Inside.Placing.{cell_of}
use Rattle.pg_outputs.specs.declared.records.Record.{Record}
use Rattle.pg_outputs.specs.Lists.{list_of}
use Rattle.pg_outputs.specs.Inside.Heads.{Grows, Lacks, OneHeadEach}
use Rattle.pg_outputs.proofs.ListLaws.{list_of-new}
use Rattle.pg_outputs.proofs.RecordLaws.{there_or_new}
use Rattle.pg_cells.specs.Inside.linked.ValuedFamilies.{ValuedFamilies}
use Rattle.pg_cells.specs.Inside.linked.AreValuedFamilies.{AreValuedFamilies}
use Rattle.pg_cells.proofs.StringMaps.{order, same_string, equal_or_not, find_put_same, find_put_other}
use Rattle.pg_trie.specs.declared.hopeless.TheConstants.{HOPELESS}
use Rattle.pg_trie.specs.declared.deleting.renew.TheConstants.{UNKNOWN}
use Rattle.pg_trie.specs.Inside.FreshLists.{values_in, AreNeeded, AreUnknown, IsFreshHead, AreFreshTo, RenewsTo, Renews}

pub value_kept : (v d : ℕ) (rest : List (ℕ × ℕ)) → nat_lt v HOPELESS ≡ true → values_in ((v, d) ∷ rest) ≡ (v, d) ∷ values_in rest
value_kept v d rest e = ap (λ b. cond b ((v, d) ∷ values_in rest) (values_in rest)) e

pub mark_left : (v d : ℕ) (rest : List (ℕ × ℕ)) → nat_lt v HOPELESS ≡ false → values_in ((v, d) ∷ rest) ≡ values_in rest
mark_left v d rest e = ap (λ b. cond b ((v, d) ∷ values_in rest) (values_in rest)) e

-- a number other than n is below n where it is below the next
same_test : (c n : ℕ) → c ≢ n → nat_lt c n ≡ nat_lt c (n + 1)
same_test c n other = elim (cases_lt c n) [
  | inl lt ↦ lt-ltb c n lt ∙ sym (lt-ltb c (n + 1) (omega arith))
  | inr le ↦ le-ltb c n le ∙ sym (le-ltb c (n + 1) (omega arith))
]

-- one more record: it is there, or its head alone is new
cons_list : (old new : List Record) (r : Record) → ((i : ℕ) → slice_get old i ≡ Some r → new ≡ old) → (Lacks old r → new ≡ old ++ r ∷ []) → (h : ℕ)
    → length old < h → h ≤ length new → list_of new h ≡ (r.value, r.dot) ∷ list_of old r.next
cons_list old new r there added h low high = elim (there_or_new old r) [
  | inl t ↦ absurd (let same : new ≡ old = there _ t.at in let sizes : length new ≡ length old = ap length same in omega arith)
  | inr n ↦
      let is : new ≡ old ++ r ∷ [] = added n.lacks in
      let sizes : length new ≡ length old + 1 = ap length is ∙ length_push old r in
      let last : h ≡ length old + 1 = omega arith in
      ap (λ l. list_of l h) is ∙ ap (list_of (old ++ r ∷ [])) last ∙ list_of-new old r
]

-- the heads that a value before the rest of a list needs
pub needed_value : (old mid new : List Record) (v d next : ℕ) (rest list : List (ℕ × ℕ)) → list ≡ (v, d) ∷ rest → nat_lt v HOPELESS ≡ true
    → AreNeeded old mid (values_in rest) → list_of mid next ≡ values_in rest → Grows mid new
    → ((i : ℕ) → slice_get mid i ≡ Some (record { value = v; dot = d; next = next }) → new ≡ mid)
    → (Lacks mid (record { value = v; dot = d; next = next }) → new ≡ mid ++ record { value = v; dot = d; next = next } ∷ [])
    → AreNeeded old new (values_in list)
needed_value old mid new v d next rest list is value needed there_is grows there added h low high =
    let whole : values_in list ≡ (v, d) ∷ values_in rest = ap values_in is ∙ value_kept v d rest value in
    elim (cases_lt (length mid) h) [
      | inl lt ↦ ([], whole ∙ sym (cons_list mid new (record { value = v; dot = d; next = next }) there added h lt high ∙ ap (λ l. (v, d) ∷ l) there_is))
      | inr ge ↦
          let n = needed h low ge in
          ((v, d) ∷ n.0, whole ∙ ap (λ l. (v, d) ∷ l) n.1 ∙ ap (λ l. (v, d) ∷ (n.0 ++ l)) (sym (grows.same h ge)))
    ]

pub needed_mark : (old new : List Record) (v d : ℕ) (rest list : List (ℕ × ℕ)) → list ≡ (v, d) ∷ rest → nat_lt v HOPELESS ≡ false → AreNeeded old new (values_in rest)
    → AreNeeded old new (values_in list)
needed_mark old new v d rest list is mark needed = subst (AreNeeded old new) (sym (ap values_in is ∙ mark_left v d rest mark)) needed

-- no head is told yet
pub fresh_start : (cells : ValuedFamilies ℕ) (records : List Record) (fresh : List Record) (heads : List ℕ) → length fresh ≡ 0 → length heads
    ≡ length records + 1 → AreUnknown heads → AreFreshTo cells records 0 fresh heads
fresh_start cells records fresh heads none size unknown = record {
  size = size;
  one_head = λ h k low lower same. omega arith;
  lists = λ q cell u at lt there. absurd (omega arith);
  known = λ u lt known. absurd (known (unknown u lt));
  needed = λ h low high. absurd (omega arith);
}

-- a string whose cell comes next has the cell, or its cell came before
next_or_before : (cells : ValuedFamilies ℕ) → AreValuedFamilies cells → (cell : ℕ) (q r : List ℕ) (u c v : ℕ) → cell_of cells.families q ≡ Some cell → find order q cells.values ≡ Some u
    → cell_of cells.families r ≡ Some c → c < cell + 1 → find order r cells.values ≡ Some v → v ≢ u → c < cell
next_or_before cells held cell q r u c v at has there lt value n = elim (cases_eq c cell) [
  | inl e ↦
      let same : r ≡ q = held.apart r q cell (there ∙ ap Some e) at in
      let both : Some v ≡ Some u = sym value ∙ ap (λ p. find order p cells.values) same ∙ has in
      absurd (let is : v ≡ u = cc in n is)
  | inr other ↦ omega arith
]

-- the head of the string that has the cell is known
pub fresh_known : (cells : ValuedFamilies ℕ) (records : List Record) → AreValuedFamilies cells → (cell : ℕ) (fresh : List Record) (heads : List ℕ) (q : List ℕ) (u : ℕ)
    → AreFreshTo cells records cell fresh heads → cell_of cells.families q ≡ Some cell → find order q cells.values ≡ Some u → u < length heads → get_or heads u 0 ≢ UNKNOWN
    → AreFreshTo cells records (cell + 1) fresh heads
fresh_known cells records held cell fresh heads q u f at has within known = record {
  size = f.size;
  one_head = f.one_head;
  lists = λ r c v there lt value. elim (cases_eq v u) [
    | inl e ↦ subst (λ k. IsFreshHead records k fresh (get_or heads k 0)) (sym e) (f.known u within known)
    | inr n ↦ f.lists r c v there (next_or_before cells held cell q r u c v at has there lt value n) value
  ];
  known = f.known;
  needed = f.needed;
}

-- the new head of the string that has the cell
pub fresh_step : (cells : ValuedFamilies ℕ) (records : List Record) → AreValuedFamilies cells → (cell : ℕ) (old new : List Record) (heads after : List ℕ) (q : List ℕ) (u head : ℕ)
    → AreFreshTo cells records cell old heads → cell_of cells.families q ≡ Some cell → find order q cells.values ≡ Some u → u ≤ length records
    → Grows old new → OneHeadEach new → head ≤ length new → list_of new head ≡ values_in (list_of records u)
    → AreNeeded old new (values_in (list_of records u)) → after ≡ set heads u head → AreFreshTo cells records (cell + 1) new after
fresh_step cells records held cell old new heads after q u head f at has within grows one_head inside list needed is = subst (AreFreshTo cells records (cell + 1) new) (sym is) (record {
  size = length-set heads u head ∙ f.size;
  one_head = one_head;
  lists = λ r c v there lt value. elim (cases_eq v u) [
    | inl e ↦ here v e
    | inr n ↦ elsewhere v n (f.lists r c v there (next_or_before cells held cell q r u c v at has there lt value n) value)
  ];
  known = λ v lt known. elim (cases_eq v u) [
    | inl e ↦ here v e
    | inr n ↦
        let same : get_or (set heads u head) v 0 ≡ get_or heads v 0 = get_or-set_other heads u v head 0 n in
        elsewhere v n (f.known v (omega (arith, lt, length-set heads u head)) (λ e. known (same ∙ e)))
  ];
  needed = λ h low high. elim (cases_lt (length old) h) [
    | inl lt ↦ (q, u, has, needed h lt high)
    | inr ge ↦ let n = f.needed h low ge in (n.0, n.1, n.2, (n.3.0, n.3.1 ∙ ap (λ l. n.3.0 ++ l) (sym (grows.same h ge))))
  ];
})
  where
    here : (v : ℕ) → v ≡ u → IsFreshHead records v new (get_or (set heads u head) v 0)
    here v e =
        let is_head : get_or (set heads u head) v 0 ≡ head = ap (λ k. get_or (set heads u head) k 0) e ∙ get_or-set_same heads u head 0 (omega (arith, f.size)) in
        record { inside = omega (arith, is_head, inside); list = ap (list_of new) is_head ∙ list ∙ ap (λ k. values_in (list_of records k)) (sym e) }

    elsewhere : (v : ℕ) → v ≢ u → IsFreshHead records v old (get_or heads v 0) → IsFreshHead records v new (get_or (set heads u head) v 0)
    elsewhere v n before =
        let same : get_or (set heads u head) v 0 ≡ get_or heads v 0 = get_or-set_other heads u v head 0 n in
        record {
          inside = omega (arith, same, before.inside, grows.longer);
          list = ap (list_of new) same ∙ grows.same (get_or heads v 0) before.inside ∙ before.list;
        }

-- strings get their heads, cell by cell
pub renew_start : (old : ValuedFamilies ℕ) (heads : List ℕ) → AreValuedFamilies old → RenewsTo old 0 heads old
renew_start old heads held = record {
  held = held;
  signs = refl;
  families = refl;
  given = λ q cell u at there. there
      ∙ ap (λ b. Some (cond b (get_or heads u 0) u)) (sym (le-ltb cell 0 (omega arith)));
}

pub renew_skip : (old mid : ValuedFamilies ℕ) (cell : ℕ) (heads : List ℕ) → RenewsTo old cell heads mid → ((q : List ℕ) → cell_of mid.families q ≡ Some cell → ⊥) → RenewsTo old (cell + 1) heads mid
renew_skip old mid cell heads r none = record {
  held = r.held;
  signs = r.signs;
  families = r.families;
  given = λ q c u at there. elim (cases_eq c cell) [
    | inl e ↦ absurd (none q (ap (λ fs. cell_of fs q) r.families ∙ at ∙ ap Some e))
    | inr other ↦ r.given q c u at there ∙ ap (λ b. Some (cond b (get_or heads u 0) u)) (same_test c cell other)
  ];
}

pub renew_step : (old mid new : ValuedFamilies ℕ) (cell : ℕ) (heads : List ℕ) (k : List ℕ) (head : ℕ) → AreValuedFamilies old → RenewsTo old cell heads mid
    → cell_of mid.families k ≡ Some cell → find order k mid.values ≡ Some head → AreValuedFamilies new → new ≡ record mid { values = put order k (get_or heads head 0) mid.values }
    → RenewsTo old (cell + 1) heads new
renew_step old mid new cell heads k head old_held r at has held is = record {
  held = held;
  signs = ap (λ (h : ValuedFamilies ℕ). h.signs) is ∙ r.signs;
  families = ap (λ (h : ValuedFamilies ℕ). h.families) is ∙ r.families;
  given = λ q c u there value. by q c u there value (equal_or_not q k);
}
  where
    values : new.values ≡ put order k (get_or heads head 0) mid.values
    values = ap (λ (h : ValuedFamilies ℕ). h.values) is

    k_old : cell_of old.families k ≡ Some cell
    k_old = ap (λ fs. cell_of fs k) (sym r.families) ∙ at

    by : (q : List ℕ) (c u : ℕ) → cell_of old.families q ≡ Some c → find order q old.values ≡ Some u → ((q ≡ k) × (same_string q k ≡ true))
        ⊎ ((q ≢ k) × (same_string q k ≡ false)) → find order q new.values ≡ Some (cond (nat_lt c (cell + 1)) (get_or heads u 0) u)
    by q c u there value (inl h) =
        let cells : Some c ≡ Some cell = sym there ∙ ap (cell_of old.families) h.0 ∙ k_old in
        let c_is : c ≡ cell = cc in
        let before : find order q mid.values ≡ Some u = r.given q c u there value ∙ ap (λ b. Some (cond b (get_or heads u 0) u)) (le-ltb c cell (omega arith)) in
        let both : Some head ≡ Some u = sym has ∙ ap (λ p. find order p mid.values) (sym h.0) ∙ before in
        let same : head ≡ u = cc in
        ap (find order q) values ∙ ap (λ p. find order p (put order k (get_or heads head 0) mid.values)) h.0 ∙ find_put_same k (get_or heads head 0) mid.values
        ∙ ap (λ x. Some (get_or heads x 0)) same ∙ ap (λ b. Some (cond b (get_or heads u 0) u)) (sym (lt-ltb c (cell + 1) (omega arith)))
    by q c u there value (inr h) =
        let other : c ≢ cell = λ e. h.0 (old_held.apart q k cell (there ∙ ap Some e) k_old) in
        ap (find order q) values ∙ find_put_other q k (get_or heads head 0) mid.values h.0 ∙ r.given q c u there value ∙ ap (λ b. Some (cond b (get_or heads u 0) u)) (same_test c cell other)

-- a string whose cell is not reached has its old head
pub old_head : (old mid : ValuedFamilies ℕ) (cell : ℕ) (heads : List ℕ) (q : List ℕ) (head : ℕ) → AreValuedFamilies old → RenewsTo old cell heads mid
    → cell_of mid.families q ≡ Some cell → find order q mid.values ≡ Some head → find order q old.values ≡ Some head
old_head old mid cell heads q head held r at has =
    let at_old : cell_of old.families q ≡ Some cell = ap (λ fs. cell_of fs q) (sym r.families) ∙ at in
    let u = held.valued q cell at_old in
    let same : find order q mid.values ≡ Some u.0 = r.given q cell u.0 at_old u.1 ∙ ap (λ b. Some (cond b (get_or heads u.0 0) u.0)) (le-ltb cell cell (omega arith)) in
    u.1 ∙ sym same ∙ has

pub renewed : (old new : ValuedFamilies ℕ) (n : ℕ) (heads : List ℕ) → AreValuedFamilies old → RenewsTo old n heads new
    → ((q : List ℕ) (cell : ℕ) → cell_of old.families q ≡ Some cell → cell < n) → Renews old heads new
renewed old new n heads held r all = record {
  held = r.held;
  signs = r.signs;
  families = r.families;
  given = λ q u there.
      let cell = held.celled q u there in
      r.given q cell.0 u cell.1 there ∙ ap (λ b. Some (cond b (get_or heads u 0) u)) (lt-ltb cell.0 n (all q cell.0 cell.1));
}
