-- What pruning keeps.
use Rattle.std.proofs.Common.{subst, sym, ap, ◌∙◌, ◌≡◌, ℕ, ◌≤◌, true, false, T, List, [], ◌∷◌, ◌++◌, length, arith, length-append}
use Rattle.std.specs.List.{All, Contains, list_all}
use Rattle.std.specs.FinMap.Entries.{is_sorted, below_all}
use Rattle.std.proofs.lemmas.List.Elements.{All-cons, All-head, All-tail, All-contains_itself}
use Rattle.std.proofs.lemmas.Bool.{and_from}
use Rattle.pg_types.proofs.BoolFacts.{and_first, and_second, first_half, second_half, both_halves}
use Rattle.pg_translate.specs.Alphabets.{Alphabet}
use Rattle.pg_dict.specs.Word.{Word}
use Rattle.pg_patterns.specs.Values.{Patterns}
use Rattle.pg_patterns.specs.DottedSigns.{dotted_cmp}
use Rattle.pg_patterns.specs.Inside.PatternMaps.{IsPatternMap, is_entry}
use Rattle.pg_prune.specs.Positions.{positions_in_reach}
use Rattle.pg_prune.proofs.positions.PositionForms.{positions_as}
use Rattle.pg_prune.specs.Prunes.{pruning_of}
use Rattle.pg_prune.specs.Inside.rounds.EqualBreaks.{break_alike}
use Rattle.pg_prune.specs.Promises.{BreakAlike, NoneCanGo}
use Rattle.pg_prune.specs.Inside.Needs.{HasNeeds}
use Rattle.pg_prune.proofs.rounds.RoundLaws.{rounds_keep, rounds_end, round_stays, NoneGoes}
use Rattle.pg_prune.proofs.pruning.Told.{IsBehind, breaks_told, told_breaks, all_behind}
use Rattle.pg_prune.specs.declared.pruned.Need.{Need}
use Rattle.pg_prune.proofs.pruning.NeedForms.{needs_are}
use Rattle.pg_prune.proofs.pruning.NeedLaws.{alike_self, needs_behind, needs_many}

-- what holds of all entries holds without one of them
pub all_without : {A : Type 0} (F : A → Type 0) (before : List A) (e : A) (rest : List A) → All F (before ++ e ∷ rest) → All F (before ++ rest)
all_without F [] e rest all = All-tail F e rest all
all_without F (b ∷ before) e rest all =
    All-cons F b (before ++ rest) (All-head F b (before ++ e ∷ rest) all) (all_without F before e rest (All-tail F b (before ++ e ∷ rest) all))

below_without : (k : List ℕ × ℕ) (before : Patterns) (e : (List ℕ × ℕ) × ℕ) (rest : Patterns) → T (below_all dotted_cmp k (before ++ e ∷ rest)) → T (below_all dotted_cmp k (before ++ rest))
below_without k [] e rest below = second_half _ _ below
below_without k (b ∷ before) e rest below = both_halves _ _ (first_half _ _ below) (below_without k before e rest (second_half _ _ below))

sorted_without : (before : Patterns) (e : (List ℕ × ℕ) × ℕ) (rest : Patterns) → T (is_sorted dotted_cmp (before ++ e ∷ rest)) → T (is_sorted dotted_cmp (before ++ rest))
sorted_without [] e rest sorted = second_half _ _ sorted
sorted_without (b ∷ before) e rest sorted =
    both_halves _ _ (below_without b.0 before e rest (first_half _ _ sorted)) (sorted_without before e rest (second_half _ _ sorted))

pub sound_without : (before : Patterns) (e : (List ℕ × ℕ) × ℕ) (rest : Patterns) → list_all is_entry (before ++ e ∷ rest) ≡ true → list_all is_entry (before ++ rest) ≡ true
sound_without [] e rest sound = and_second _ _ sound
sound_without (b ∷ before) e rest sound = and_from _ _ (and_first _ _ sound) (sound_without before e rest (and_second _ _ sound))

module _ (m : Alphabet) (ws : List Word) (P : Patterns) where
  pub pruned_all : (F : (List ℕ × ℕ) × ℕ → Type 0) → All F P → All F (pruning_of m ws P).patterns
  unfolding pruning_of
  pruned_all F all = rounds_keep (positions_in_reach m ws) P (All F) (λ before e rest goes. all_without F before e rest) 1 (length P) P all

  pub pruned_part : All (Contains P) (pruning_of m ws P).patterns
  pruned_part = pruned_all (Contains P) (All-contains_itself P)

  pub pruned_map : IsPatternMap P → IsPatternMap (pruning_of m ws P).patterns
  unfolding pruning_of
  pruned_map map = record {
    sorted = rounds_keep (positions_in_reach m ws) P (λ Q. T (is_sorted dotted_cmp Q)) (λ before e rest goes. sorted_without before e rest) 1 (length P) P map.sorted;
    sound = rounds_keep (positions_in_reach m ws) P (λ Q. list_all is_entry Q ≡ true) (λ before e rest goes. sound_without before e rest) 1 (length P) P map.sound;
  }

  alike_at_end : break_alike (positions_in_reach m ws) P (pruning_of m ws P).patterns ≡ true
  unfolding pruning_of
  alike_at_end = rounds_keep (positions_in_reach m ws) P (λ Q. break_alike (positions_in_reach m ws) P Q ≡ true)
      (λ before e rest goes alike. goes) 1 (length P) P (alike_self (positions_in_reach m ws) P)

  none_at_end : NoneGoes (positions_in_reach m ws) P [] (pruning_of m ws P).patterns
  unfolding pruning_of
  none_at_end = round_stays (positions_in_reach m ws) P [] (pruning_of m ws P).patterns (let many = rounds_end (positions_in_reach m ws) P 1 (length P) P (omega arith) in omega (arith, many))

  pub pruned_alike : BreakAlike m ws P (pruning_of m ws P).patterns
  pruned_alike = breaks_told P (pruning_of m ws P).patterns m ws alike_at_end

  pub pruned_least : NoneCanGo m ws P (pruning_of m ws P).patterns
  pruned_least before e behind is alike =
      let goes : break_alike (positions_in_reach m ws) P (before ++ behind) ≡ true = told_breaks P (before ++ behind) m ws alike in
      let stays : break_alike (positions_in_reach m ws) P (before ++ behind) ≡ false = none_at_end before e behind is in
      cc

  pub pruned_needs : HasNeeds (pruning_of m ws P)
  unfolding pruning_of
  pruned_needs = record {
    each = ap length (needs_are (positions_in_reach m ws) (pruning_of m ws P).patterns) ∙ needs_many (positions_in_reach m ws) P [] (pruning_of m ws P).patterns alike_at_end none_at_end;
    positions = subst (λ ns. All (λ (n : Need). 1 ≤ n.position) ns) (sym (needs_are (positions_in_reach m ws) (pruning_of m ws P).patterns))
        (needs_behind (positions_in_reach m ws) [] (pruning_of m ws P).patterns (subst (λ xs. All IsBehind xs) (positions_as m ws) (all_behind m 1 ws)));
  }

  pub pruned_few : length (pruning_of m ws P).patterns ≤ length P
  unfolding pruning_of
  pruned_few = rounds_keep (positions_in_reach m ws) P (λ Q. length Q ≤ length P)
      (λ before e rest goes few. (let a = length-append before (e ∷ rest) in let b = length-append before rest in omega (arith, a, b)))
      1 (length P) P (omega arith)
