-- An index without spellings.
use Rattle.std.proofs.Common.{◌≡◌, ℕ, ◌-◌, ◌<◌, ◌≤◌, nat_lt, true, false, ⊎_elim, [], map, replicate, get_or, Option, None, refl, sym, ap, subst}
use Rattle.std.proofs.lemmas.Bool.{cases_lt, cases_Bool}
use Rattle.std.proofs.lemmas.List.{get_or-replicate, get_or_past, length-replicate}
use Rattle.pg_translate.specs.declared.index.Front.{Front}
use Rattle.pg_translate.specs.declared.index.Index.{Index}
use Rattle.pg_translate.specs.Inside.spellings.Members.{IsAmong}
use Rattle.pg_translate.specs.Inside.spellings.Fronts.{IsIndex, pairs, pair_of, front_code}

-- each element of a list of None is None
none_at : (n i : ℕ) → let nothing : Option Front = None in get_or (replicate n nothing) i nothing ≡ nothing
none_at n i =
    let nothing : Option Front = None in
    ⊎_elim (λ (inside : i < n). get_or-replicate n i nothing nothing inside)
    (λ (past : n ≤ i). get_or_past (replicate n nothing) i nothing (subst (λ (k : ℕ). k ≤ i) (sym (length-replicate n nothing)) past)) (cases_lt i n)

-- an index without spellings is one
pub new_index : (index : Index) → index.spellings.items ≡ [] → index.firsts.items ≡ [] → index.heads ≡ replicate 256 None → index.longer.entries ≡ [] → IsIndex index
new_index index spellings firsts heads longer = record {
  fronts = λ text bytes some. ⊎_elim (λ (yes : nat_lt (front_code text) 512 ≡ true). rw (none, yes, heads) (none_at 256 (front_code text - 256)))
      (λ (no : nat_lt (front_code text) 512 ≡ false). rw (none, no, longer) refl) (cases_Bool (nat_lt (front_code text) 512));
  firsts = λ n. rw (none, firsts) refl;
  letters = rw (none, firsts) refl;
  apart = λ s t among other. absurd (subst (IsAmong s) none among);
  signs = λ s among. absurd (subst (IsAmong s) none among);
  some = λ s among. absurd (subst (IsAmong s) none among);
  few = λ s among. absurd (subst (IsAmong s) none among);
}
  where
    none : pairs index ≡ []
    none = ap (map pair_of) spellings
