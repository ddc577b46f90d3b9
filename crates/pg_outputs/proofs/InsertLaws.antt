-- What `insert` of a record leaves: the records of old, with that one record at one place.
use Rattle.std.proofs.Common.{◌≡◌, ℕ, ◌+◌, ◌≤◌, List, [], ◌∷◌, ◌++◌, length, slice_get, Some, sym, ◌∙◌, ap, arith, refl, subst, inl, inr, ◌⊎◌, if◌then◌else◌}
use Rattle.std.proofs.lemmas.List.{get_or_push, length_push}
use Rattle.std.proofs.lemmas.Option.{slice_get-get_or}
use Rattle.std.specs.List.{position_or_len}
use Rattle.indexmap.specs.IndexSet.{insert_key}
use Rattle.pg_outputs.specs.declared.records.Record.{Record}
use Rattle.pg_outputs.specs.Lists.{list_of}
use Rattle.pg_outputs.specs.Inside.Heads.{Grows, Lacks}
use Rattle.pg_outputs.specs.Inside.Records.{AreShared}
use Rattle.pg_outputs.proofs.ListLaws.{list_of-new, list_of-at, grows_none, grows_push}
use Rattle.pg_outputs.proofs.RecordLaws.{is_same, there_or_new, IsThere, shared_push}

-- the record r stands at the index of the new records
pub record IsPut (old new : List Record) (r : Record) (index : ℕ) : Type 0 where
  pub shared : AreShared new
  pub list : list_of new (index + 1) ≡ (r.value, r.dot) ∷ list_of old r.next
  pub there : (i : ℕ) → slice_get old i ≡ Some r → (index ≡ i) × (new ≡ old)
  pub at : slice_get new index ≡ Some r
  pub adds : (new ≡ old) ⊎ (new ≡ old ++ r ∷ [])
  pub added : Lacks old r → (index ≡ length old) × (new ≡ old ++ r ∷ [])
  pub grows : Grows old new

-- what stands at an index stays as it is
kept_at : (old : List Record) (r : Record) (index : ℕ) → AreShared old → slice_get old index ≡ Some r → IsPut old old r index
kept_at old r index shared at = record {
  shared = shared;
  list = list_of-at old index r at (shared.back index r at);
  there = λ i found. (shared.apart index i r at found, refl);
  at = at;
  adds = inl refl;
  added = λ lacks. absurd (lacks index at);
  grows = grows_none old;
}

pub again : (old now : List Record) (r : Record) (index : ℕ) → old ≡ now → AreShared old → slice_get old index ≡ Some r → IsPut now now r index
again old now r index seen shared at = subst (λ l. IsPut l l r index) seen (kept_at old r index shared at)

-- what is found
put_there : (old : List Record) (r : Record) → AreShared old → IsThere old r → IsPut old old r (position_or_len (is_same r) old)
put_there old r shared h = kept_at old r (position_or_len (is_same r) old) shared h.at

-- what is new goes last
put_last : (old : List Record) (r : Record) → AreShared old → r.next ≤ length old → Lacks old r → IsPut old (old ++ r ∷ []) r (length old)
put_last old r shared back lacks = record {
  shared = shared_push old r shared lacks back;
  list = list_of-new old r;
  there = λ i at. absurd (lacks i at);
  at = slice_get-get_or (old ++ r ∷ []) (length old) r (omega (arith, length_push old r)) ∙ ap Some (get_or_push old r r (length old) refl);
  adds = inr refl;
  added = λ _. (refl, refl);
  grows = grows_push old r;
}

pub inserted : (old now new : List Record) (r : Record) (index : ℕ) → old ≡ now → AreShared old → r.next ≤ length now
    → new ≡ insert_key is_same old r → index ≡ position_or_len (is_same r) old → IsPut now new r index
inserted old now new r index seen shared back keys place = elim (there_or_new old r) [
  | inl h ↦ moved old (position_or_len (is_same r) old) (keys ∙ ap (λ b. if b then old else old ++ r ∷ []) h.any) place (put_there old r shared h)
  | inr h ↦ moved (old ++ r ∷ []) (length old) (keys ∙ ap (λ b. if b then old else old ++ r ∷ []) h.any) (place ∙ h.place) (put_last old r shared (omega (arith, ap length seen)) h.lacks)
]
  where
    moved : (put : List Record) (i : ℕ) → new ≡ put → index ≡ i → IsPut old put r i → IsPut now new r index
    moved put i e f h = subst (λ l. IsPut l new r index) seen (subst (λ l. IsPut old l r index) (sym e) (subst (λ n. IsPut old put r n) (sym f) h))
