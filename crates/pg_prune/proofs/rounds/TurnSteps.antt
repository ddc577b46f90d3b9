-- The loops over the positions of an entry.
use Rattle.std.proofs.Common.{◌≡◌, ℕ, zero, suc, ◌+◌, ◌<◌, ◌≤◌, List, [], ◌∷◌, map, length, get_or, drop, None, sym, subst, ap, ◌∙◌, arith, length-drop}
use Rattle.std.proofs.Math.Seq.{drop-cons}
use Rattle.std.proofs.lemmas.List.{nil_from_length}
use Rattle.pg_prune.specs.Inside.positions.PositionInReach.{PositionInReach}
use Rattle.pg_prune.specs.Prunes.{break_alike_at}
use Rattle.pg_prune.specs.Inside.Findings.{first_difference}
use Rattle.pg_prune.specs.Inside.positions.EntryPositions.{stands}
use Rattle.pg_prune.specs.Inside.rounds.Holders.{holder_counts}
use Rattle.pg_prune.specs.Inside.rounds.Turns.{Turn, with_entry, without_entry, IsHeld, IsAwaited}
use Rattle.pg_prune.proofs.rounds.Walks.{WalkedSoFar, Step, walk_begins, walk_steps, walk_ends}
use Rattle.pg_prune.proofs.rounds.TurnLaws.{away_same, away_alike, SearchedSoFar, SearchStep, look_begins, look_steps, look_ends}

pub left_at : (numbers : List ℕ) (i : ℕ) → i < length numbers → drop i numbers ≡ get_or numbers i 0 ∷ drop (i + 1) numbers
left_at numbers i inside = drop-cons numbers i 0 inside ∙ (let at : suc i ≡ i + 1 = omega arith in ap (λ j. get_or numbers i 0 ∷ drop j numbers) at)

pub none_left : (numbers : List ℕ) (i : ℕ) → length numbers ≤ i → drop i numbers ≡ []
none_left numbers i behind = nil_from_length (drop i numbers) (let many = length-drop i numbers in omega (arith, many))

module _ (t : Turn) (numbers : List ℕ) (value : ℕ) (start : List (List ℕ)) where
  -- the entry is taken off
  abbrev pub TakenOffSoFar : List (List ℕ) → List ℕ → Type 0
  TakenOffSoFar held left = WalkedSoFar t.positions (holder_counts (with_entry t)) (holder_counts (without_entry t)) (stands t.entry) held left

  pub off_begins : IsHeld t start numbers value → TakenOffSoFar start numbers
  off_begins h = walk_begins t.positions (holder_counts (with_entry t)) (holder_counts (without_entry t)) (stands t.entry) start numbers h.tallied h.entry.stands

  pub off_steps : IsHeld t start numbers value → (held : List (List ℕ)) (i : ℕ) → i < length numbers → TakenOffSoFar held (drop i numbers)
      → Step t.positions (holder_counts (with_entry t)) (holder_counts (without_entry t)) (stands t.entry) held (get_or numbers i 0) (drop (i + 1) numbers)
  off_steps h held i inside w =
      walk_steps t.positions (holder_counts (with_entry t)) (holder_counts (without_entry t)) (stands t.entry) (away_same t numbers value h.entry) held (get_or numbers i 0) (drop (i + 1) numbers)
      (subst (λ left. TakenOffSoFar held left) (left_at numbers i inside) w)

  pub off_ends : IsHeld t start numbers value → (held : List (List ℕ)) (i : ℕ) → length numbers ≤ i → TakenOffSoFar held (drop i numbers) → held ≡ map (holder_counts (without_entry t)) t.positions
  off_ends h held i behind w =
      walk_ends t.positions (holder_counts (with_entry t)) (holder_counts (without_entry t)) (stands t.entry) (away_same t numbers value h.entry) held
      (subst (λ left. TakenOffSoFar held left) (none_left numbers i behind) w)

  -- it is added
  abbrev pub AddedSoFar : List (List ℕ) → List ℕ → Type 0
  AddedSoFar held left = WalkedSoFar t.positions (holder_counts (without_entry t)) (holder_counts (with_entry t)) (stands t.entry) held left

  pub on_begins : IsAwaited t start numbers value → AddedSoFar start numbers
  on_begins h = walk_begins t.positions (holder_counts (without_entry t)) (holder_counts (with_entry t)) (stands t.entry) start numbers h.tallied h.entry.stands

  pub on_steps : IsAwaited t start numbers value → (held : List (List ℕ)) (i : ℕ) → i < length numbers → AddedSoFar held (drop i numbers)
      → Step t.positions (holder_counts (without_entry t)) (holder_counts (with_entry t)) (stands t.entry) held (get_or numbers i 0) (drop (i + 1) numbers)
  on_steps h held i inside w =
      walk_steps t.positions (holder_counts (without_entry t)) (holder_counts (with_entry t)) (stands t.entry) (λ x away. sym (away_same t numbers value h.entry x away)) held
      (get_or numbers i 0) (drop (i + 1) numbers)
      (subst (λ left. AddedSoFar held left) (left_at numbers i inside) w)

  pub on_ends : IsAwaited t start numbers value → (held : List (List ℕ)) (i : ℕ) → length numbers ≤ i → AddedSoFar held (drop i numbers) → held ≡ map (holder_counts (with_entry t)) t.positions
  on_ends h held i behind w =
      walk_ends t.positions (holder_counts (without_entry t)) (holder_counts (with_entry t)) (stands t.entry) (λ x away. sym (away_same t numbers value h.entry x away)) held
      (subst (λ left. AddedSoFar held left) (none_left numbers i behind) w)

  -- it is looked at
  abbrev pub EntrySearchedSoFar : List ℕ → Type 0
  EntrySearchedSoFar left = SearchedSoFar t.positions (break_alike_at (with_entry t) (without_entry t)) (stands t.entry) left

  pub looks_begin : IsHeld t start numbers value → EntrySearchedSoFar numbers
  looks_begin h = look_begins t.positions (break_alike_at (with_entry t) (without_entry t)) (stands t.entry) numbers h.entry.stands

  pub looks_step : IsHeld t start numbers value → (i : ℕ) → i < length numbers → EntrySearchedSoFar (drop i numbers)
      → SearchStep t.positions (break_alike_at (with_entry t) (without_entry t)) (stands t.entry) (get_or numbers i 0) (drop (i + 1) numbers)
  looks_step h i inside w =
      look_steps t.positions (break_alike_at (with_entry t) (without_entry t)) (stands t.entry) (away_alike t numbers value h.entry) (get_or numbers i 0) (drop (i + 1) numbers)
      (subst (λ left. EntrySearchedSoFar left) (left_at numbers i inside) w)

  pub looks_end : IsHeld t start numbers value → (i : ℕ) → length numbers ≤ i → EntrySearchedSoFar (drop i numbers) → first_difference t.positions (with_entry t) (without_entry t) ≡ None
  looks_end h i behind w =
      look_ends t.positions (break_alike_at (with_entry t) (without_entry t)) (stands t.entry) (away_alike t numbers value h.entry)
      (subst (λ left. EntrySearchedSoFar left) (none_left numbers i behind) w)

get_or-mapped : {A : Type 0} (f : PositionInReach → A) (xs : List PositionInReach) (k : ℕ) (x : PositionInReach)
    → k < length xs → ((d : PositionInReach) → get_or xs k d ≡ x) → (d : A) → get_or (map f xs) k d ≡ f x
get_or-mapped f [] k x inside at d = absurd (omega arith)
get_or-mapped f (y ∷ ys) zero x inside at d = ap f (at y)
get_or-mapped f (y ∷ ys) (suc k) x inside at d = get_or-mapped f ys k x (omega arith) at d

-- the holders at a position of the entry
pub held_at : (t : Turn) (numbers : List ℕ) (value : ℕ) (start : List (List ℕ)) → IsHeld t start numbers value → (k : ℕ) (x : PositionInReach) → k < length t.positions
    → ((d : PositionInReach) → get_or t.positions k d ≡ x)
    → (d : List ℕ) → get_or start k d ≡ holder_counts (with_entry t) x
held_at t numbers value start h k x inside at d = ap (λ s. get_or s k d) h.tallied ∙ get_or-mapped (holder_counts (with_entry t)) t.positions k x inside at d
