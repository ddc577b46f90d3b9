-- One more record, and the lists that the records stand for.
use Rattle.std.proofs.Common.{◌≡◌, ℕ, ◌+◌, ◌-◌, ◌<◌, ◌≤◌, inl, inr, List, [], ◌∷◌, ◌++◌, length, map, take, drop, get_or, slice_get, Some, sym, ◌∙◌, ap, subst, arith, suc}
use Rattle.std.proofs.lemmas.Bool.{false≢true}
use Rattle.std.proofs.lemmas.List.{length_push, drop_more}
use Rattle.std.proofs.lemmas.Option.{slice_get_within, slice_get-get_or, get_or_from_slice_get}
use Rattle.pg_patterns.specs.Values.{Patterns}
use Rattle.pg_outputs.specs.declared.records.Record.{Record}
use Rattle.pg_outputs.specs.Lists.{list_of}
use Rattle.pg_outputs.specs.Inside.Heads.{OneHeadEach, Lacks}
use Rattle.pg_outputs.specs.Inside.Records.{AreShared}
use Rattle.pg_outputs.proofs.ListLaws.{list_of-at, list_of-old, list_of-new}
use Rattle.pg_outputs.proofs.RecordLaws.{there_or_new}
use Rattle.pg_table.specs.Inside.text.PackedTrie.{dot_values}
use Rattle.pg_table.specs.Inside.text.Sharing.{Lists, value_and_dot, Shares, with_list}
use Rattle.pg_table.proofs.text.Recorded.{test_among, with_cases, get_cases}
use Rattle.pg_table.proofs.text.TableRecords.{turned_apart}

-- what `cons` does: the record is there, or it is put last
pub record Conses (rs new : List Record) (r : Record) : Type 0 where
  pub there : (i : ℕ) → slice_get rs i ≡ Some r → new ≡ rs
  pub added : Lacks rs r → new ≡ rs ++ r ∷ []
  pub one_head : OneHeadEach new
  pub shared : AreShared new

module _ (rs new : List Record) (lists : Lists) (x : ℕ × ℕ) (rest : List (ℕ × ℕ)) (head : ℕ) (shares : Shares rs lists) (inside : head ≤ length rs)
    (list : list_of rs head ≡ map value_and_dot rest) where
  abbrev r : Record
  r = record { value = x.1; dot = x.0; next = head }

  -- where the list stands among the lists, its record stands in the same place
  record_there : (i : ℕ) → slice_get lists i ≡ Some (x ∷ rest) → slice_get rs i ≡ Some r
  record_there i at =
      let within : i < length rs = omega (arith, slice_get_within lists i (x ∷ rest) at, shares.size) in
      let s : Record = get_or rs i r in
      let s_at : slice_get rs i ≡ Some s = slice_get-get_or rs i r within in
      let back : s.next ≤ i = shares.shared.back i s s_at in
      let same : (s.value, s.dot) ∷ list_of rs s.next ≡ value_and_dot x ∷ map value_and_dot rest = sym (list_of-at rs i s s_at back) ∙ shares.each i (x ∷ rest) at in
      let first : (s.value, s.dot) ≡ value_and_dot x = cc in
      let later : list_of rs s.next ≡ map value_and_dot rest = cc in
      let next : s.next ≡ head = shares.one_head s.next head (omega arith) inside (later ∙ sym list) in
      let is : s ≡ r = λ t. record { value = (first t).0; dot = (first t).1; next = next t } in
      s_at ∙ ap Some is

  -- and the other way
  list_there : (i : ℕ) → slice_get rs i ≡ Some r → slice_get lists i ≡ Some (x ∷ rest)
  list_there i at =
      let within : i < length lists = omega (arith, slice_get_within rs i r at, shares.size) in
      let l : List (ℕ × ℕ) = get_or lists i [] in
      let l_at : slice_get lists i ≡ Some l = slice_get-get_or lists i [] within in
      let back : head ≤ i = shares.shared.back i r at in
      let same : map value_and_dot l ≡ map value_and_dot (x ∷ rest) = sym (shares.each i l l_at) ∙ list_of-at rs i r at back ∙ ap (λ m. value_and_dot x ∷ m) list in
      l_at ∙ ap Some (turned_apart l (x ∷ rest) same)

  pub shares_more : Conses rs new r → Shares new (with_list lists (x ∷ rest))
  shares_more conses = elim (there_or_new rs r) [
    | inl there ↦
        let listed = list_there _ there.at in
        let same : new ≡ rs = conses.there _ there.at in
        elim (with_cases lists (x ∷ rest)) [
          | inl among ↦ subst (λ ls. Shares new ls) (sym among.1) (subst (λ s. Shares s lists) (sym same) shares)
          | inr missing ↦ absurd (false≢true (sym missing.0 ∙ test_among lists (x ∷ rest) _ listed))
        ]
    | inr absent ↦
        let longer : new ≡ rs ++ r ∷ [] = conses.added absent.lacks in
        elim (with_cases lists (x ∷ rest)) [
          | inl among ↦ absurd (absent.lacks among.0.0 (record_there among.0.0 among.0.1))
          | inr fresh ↦ subst (λ ls. Shares new ls) (sym fresh.1) (record {
            size = omega (arith, ap length longer, length_push rs r, length_push lists (x ∷ rest), shares.size);
            each = λ i l at. ap (λ s. list_of s (i + 1)) longer ∙ each i l at;
            one_head = conses.one_head;
            shared = conses.shared;
          })
        ]
  ]
    where
      each : (i : ℕ) (l : List (ℕ × ℕ)) → slice_get (lists ++ (x ∷ rest) ∷ []) i ≡ Some l → list_of (rs ++ r ∷ []) (i + 1) ≡ map value_and_dot l
      each i l at = elim (get_cases lists (x ∷ rest) i l at) [
        | inl old ↦
            let within = slice_get_within lists i l old in
            list_of-old rs r (i + 1) (omega (arith, shares.size)) ∙ shares.each i l old
        | inr last ↦
            let place : i + 1 ≡ length rs + 1 = omega (arith, last.0, shares.size) in
            ap (list_of (rs ++ r ∷ [])) place ∙ list_of-new rs r ∙ ap (λ m. value_and_dot x ∷ m) list ∙ ap (map value_and_dot) (sym last.1)
      ]

-- the pairs from a place on
pub pairs_none : (P : Patterns) (end : ℕ) → dot_values P end end ≡ []
pairs_none P end = let none : end - end ≡ 0 = omega arith in ap (λ n. map (λ e. (e.0.1, e.1)) (take n (drop end P))) none

pub pairs_more : (P : Patterns) (i end : ℕ) (e : (List ℕ × ℕ) × ℕ) → slice_get P i ≡ Some e → i < end → dot_values P i end ≡ (e.0.1, e.1) ∷ dot_values P (i + 1) end
pairs_more P i end e at before =
    let size : end - i ≡ suc (end - (i + 1)) = omega arith in
    let rest : drop i P ≡ e ∷ drop (i + 1) P = drop_more P i e (slice_get_within P i e at) ∙ ap (λ f. f ∷ drop (i + 1) P) (get_or_from_slice_get P i e e at) in
    ap (λ n. map (λ f. (f.0.1, f.1)) (take n (drop i P))) size ∙ ap (λ l. map (λ f. (f.0.1, f.1)) (take (suc (end - (i + 1))) l)) rest
