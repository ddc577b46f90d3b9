-- What the rounds come to.
use Rattle.std.proofs.Common.{◌≡◌, ℕ, ◌-◌, ◌≤◌, List, length, sym, subst, ap, ◌∙◌, arith}
use Rattle.std.proofs.lemmas.List.{length-map}
use Rattle.pg_translate.specs.Alphabets.{Alphabet}
use Rattle.pg_dict.specs.Word.{Word}
use Rattle.pg_patterns.specs.Values.{Patterns}
use Rattle.pg_prune.specs.declared.pruned.Need.{Need}
use Rattle.pg_prune.specs.Positions.{positions_in_reach}
use Rattle.pg_prune.specs.Inside.positions.PositionInReach.{PositionInReach}
use Rattle.pg_prune.specs.Prunes.{needs, pruning_of, Pruning, rounds_from}
use Rattle.pg_prune.specs.Inside.Findings.{found_by}
use Rattle.pg_prune.specs.Inside.rounds.Picks.{picked_entries, IsKeptSoFar, entry_of}

abbrev pub to_rounds : Patterns → ℕ → Patterns × ℕ
to_rounds Q count = (Q, count)

module _ (m : Alphabet) (ws : List Word) (P : Patterns) where
  -- the entries that stay, with their needs and numbers, are what pruning comes to
  pub finish : (kept : List ℕ) (found : List Need) (count : ℕ) → rounds_from (positions_in_reach m ws) P 1 (length P) P ≡ (picked_entries P kept, count)
      → found ≡ needs (positions_in_reach m ws) (picked_entries P kept)
      → (Q : Patterns) (removed : ℕ) → Q ≡ picked_entries P kept → removed ≡ length P - length kept → record { patterns = Q; needs = found; rounds = count; removed = removed } ≡ pruning_of m ws P
  unfolding pruning_of
  finish kept found count done own Q removed is many =
      let size : removed ≡ length P - length (picked_entries P kept) = many ∙ ap (λ n. length P - n) (sym (length-map kept (entry_of P))) in
      let F : Patterns → List Need → ℕ → Pruning = λ q n r. record { patterns = q; needs = n; rounds = count; removed = r } in
      ap (λ (q : Patterns). F q found removed) is ∙ ap (λ n. F (picked_entries P kept) n removed) own
      ∙ ap (λ r. F (picked_entries P kept) (needs (positions_in_reach m ws) (picked_entries P kept)) r) size
      ∙ ap (found_by (positions_in_reach m ws) (length P)) (sym done)

  pub rounds_patterns : (kept : List ℕ) (count : ℕ) → rounds_from (positions_in_reach m ws) P 1 (length P) P ≡ (picked_entries P kept, count)
      → picked_entries P kept ≡ (pruning_of m ws P).patterns
  unfolding pruning_of
  rounds_patterns kept count done = ap (λ (r : Patterns × ℕ). r.0) (sym done)

-- the same entries with their numbers in another list
pub with_kept : (positions : List PositionInReach) (P : Patterns) (stands holders : List (List ℕ)) (kept kept' : List ℕ) → kept' ≡ kept → IsKeptSoFar positions P stands holders kept
    → IsKeptSoFar positions P stands holders kept'
with_kept positions P stands holders kept kept' is r = subst (λ ks. IsKeptSoFar positions P stands holders ks) (sym is) r

pub picked_few : (P : Patterns) (kept : List ℕ) (Q : Patterns) → length Q ≤ length P → picked_entries P kept ≡ Q → length kept ≤ length P
picked_few P kept Q few is = let many : length kept ≡ length Q = sym (length-map kept (entry_of P)) ∙ ap length is in omega arith
