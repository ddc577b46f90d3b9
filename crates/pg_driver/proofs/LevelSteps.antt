-- A step of a level: a pass that is done, one that is skipped, and the next length.
use Rattle.std.proofs.Common.{◌≡◌, ℕ, ◌+◌, ◌-◌, ◌<◌, ◌==◌, nat_le, zero, Bool, true, false, List, [], ◌∷◌, ◌++◌, fold, map, Option, None, Some, refl, sym, ap, subst, ◌∙◌, append_assoc, append-nil, arith}
use Rattle.std.specs.List.{list_all, flat_map, range_with_len}
use Rattle.std.specs.Option.{option_map}
use Rattle.std.proofs.lemmas.Bool.{and_parts, and_from}
use Rattle.std.proofs.lemmas.Bool.Decides.{nat_tests}
use Rattle.std.proofs.lemmas.List.Folds.{list_all-append}
use Rattle.pg_types.specs.declared.parameters.LevelParams.{LevelParams}
use Rattle.pg_types.specs.Placement.{Families, top}
use Rattle.pg_types.specs.Inside.PlacementSteps.{taken_count}
use Rattle.pg_dict.specs.Word.{Word}
use Rattle.pg_translate.specs.Alphabets.{Alphabet}
use Rattle.pg_select.specs.Inside.engine.Meanings.{Meaning}
use Rattle.pg_select.specs.declared.pass.Pass.{Pass}
use Rattle.pg_select.specs.CountedPositions.{Candidate}
use Rattle.pg_driver.specs.declared.records.PassRecord.{PassRecord}
use Rattle.pg_driver.specs.Inside.records.AccountLines.{PassLine, left_none}
use Rattle.pg_driver.specs.Dots.{dot_at}
use Rattle.pg_driver.specs.Inside.Layouts.{after_pass}
use Rattle.pg_driver.specs.Inside.level.Levels.{SkippableCountNothing, SkipFlags, GoesOn, IsPointAt, LevelStart, TellSkippable, all_made_by, is_set, layouts_in, point, no_flags}
use Rattle.pg_driver.specs.Inside.records.SoundRecords.{RunRecords, with_pass}
use Rattle.pg_driver.specs.Inside.level.States.{DidPass, State, made_by, state_after, state_at_end, state_of}
use Rattle.pg_driver.specs.Inside.records.RunAccounts.{known_of}
use Rattle.pg_driver.specs.Traces.{Knowledge, PassTrace, is_entered, known_after, pass_trace}
use Rattle.pg_driver.specs.Inside.level.Passes.{pass_traces, known_at_end, passes_of_length}
use Rattle.pg_driver.proofs.ChoiceSteps.{state_none, state_with}
use Rattle.pg_driver.proofs.Numbers.{plus_zero}
use Rattle.pg_select.proofs.Reaches.{range_step}
use Rattle.pg_driver.proofs.RecordSteps.{recorded_none, recorded_pass}
use Rattle.pg_driver.proofs.SkipFlags.{Follows, tells_more, tells_next, tells_none}
use Rattle.pg_driver.proofs.SkipLaw.{closed_on, left_none_is, skipped_none}
use Rattle.pg_driver.proofs.TraceSteps.{state_push}

-- the passes of a level
abbrev pub pass_with : ℕ → ℕ → ℕ → Pass
pass_with number len dot = record { level = number; len = len; dot = dot }

at_itself : (n : ℕ) → nat_le n n ≡ true
at_itself n = grind (arith, nat_tests)

short_push : (len : ℕ) (ps : List PassTrace) (q : PassTrace) → q.pass.len ≡ len → list_all (λ p. nat_le p.pass.len len) ps ≡ true → list_all (λ p. nat_le p.pass.len len) (ps ++ q ∷ []) ≡ true
short_push len ps q is short =
    list_all-append (λ (p : PassTrace). nat_le p.pass.len len) ps (q ∷ [])
    ∙ and_from (list_all (λ p. nat_le p.pass.len len) ps) (list_all (λ p. nat_le p.pass.len len) (q ∷ [])) short
    (and_from (nat_le q.pass.len len) true (ap (λ n. nat_le n len) is ∙ at_itself len) refl)

longer_too : (n len : ℕ) → nat_le n len ≡ true → nat_le n (len + 1) ≡ true
longer_too n len is = grind (arith, nat_tests)

short_next : (len : ℕ) (ps : List PassTrace) → list_all (λ p. nat_le p.pass.len len) ps ≡ true → list_all (λ p. nat_le p.pass.len (len + 1)) ps ≡ true
short_next len [] short = refl
short_next len (p ∷ ps) short =
    let parts = and_parts (nat_le p.pass.len len) (list_all (λ p. nat_le p.pass.len len) ps) short in
    and_from (nat_le p.pass.len (len + 1)) (list_all (λ p. nat_le p.pass.len (len + 1)) ps) (longer_too p.pass.len len parts.0) (short_next len ps parts.1)

families_begin : (signs : ℕ) (o : Option Families) → o ≡ option_map (λ fs. fold (after_pass signs) fs []) o
families_begin signs None = refl
families_begin signs (Some fs) = refl

state_begins : (signs : ℕ) (s : State) → s ≡ state_at_end signs s []
state_begins signs s = let families = families_begin signs s.families in λ i. record { known = s.known; families = families i }

no_layouts : (signs : ℕ) (o : Option Families) (xs : List (Option (Pass × ℕ × ℕ))) → xs ≡ xs ++ layouts_in signs o []
no_layouts signs None xs = sym (append-nil xs)
no_layouts signs (Some fs) xs = sym (append-nil xs)

-- where a level begins
pub at_level_start : (T : Alphabet) (W : List Word) (number len : ℕ) (m : Meaning) (r : RunRecords) (flags : SkipFlags) → r.chosen ≡ 0 → flags.here ≡ no_flags
    → flags.longer ≡ no_flags → IsPointAt T W number len (record { engine = m; records = r }) [] (point m r flags)
at_level_start T W number len m r flags chosen here longer = record {
  signs = refl;
  state = state_begins m.signs (state_of m);
  records = record {
    lines = sym (append-nil _);
    layouts = no_layouts m.signs m.families _;
    chosen = sym (plus_zero r.chosen);
    begun = sym (plus_zero r.begun);
    levels = refl;
  };
  short = refl;
  tells = tells_none number len flags here longer;
  skippable = λ n dot is. cc;
}

module _ (T : Alphabet) (W : List Word) (params : LevelParams) (number len dot : ℕ) (m : Meaning) (start : LevelStart) (ps : List PassTrace) (r : RunRecords)
    (old : SkipFlags) (at : IsPointAt T W number len start ps (point m r old)) where
  abbrev q : PassTrace
  q = made_by T W params m (pass_with number len dot)

  -- the state after the pass
  state_on : state_after m.signs m.families q ≡ state_at_end start.engine.signs (state_of start.engine) (ps ++ q ∷ [])
  state_on =
      let families : m.families ≡ (state_at_end start.engine.signs (state_of start.engine) ps).families = ap (λ (s : State). s.families) at.state in
      ap (λ (n : ℕ). state_after n m.families q) at.signs ∙ ap (λ (o : Option Families). state_after start.engine.signs o q) families ∙ sym (state_push start.engine.signs (state_of start.engine) ps q)

  short_on : list_all (λ p. nat_le p.pass.len len) (ps ++ q ∷ []) ≡ true
  short_on = short_push len ps q refl at.short

  tells_on : (b : Bool) (new : SkipFlags) → b ≡ left_none q → new.here ≡ old.here → Follows dot b old new → TellSkippable number len new (ps ++ q ∷ [])
  tells_on b new left here longer = tells_more number len dot T W params (known_of m) old new ps at.tells here (subst (λ (b : Bool). Follows dot b old new) left longer)

  closed_after : (n : Meaning) → state_of n ≡ state_after m.signs m.families q → SkippableCountNothing T W number (ps ++ q ∷ []) (known_of n)
  closed_after n state = subst (λ (known : Knowledge). SkippableCountNothing T W number (ps ++ q ∷ []) known) (sym (ap (λ (s : State). s.known) state))
      (closed_on T W params number len dot (known_of m) ps at.skippable)

-- a pass that is skipped changes nothing
state_stays : (T : Alphabet) (W : List Word) (params : LevelParams) (pass : Pass) (m : Meaning) → (made_by T W params m pass).candidates ≡ [] → state_of m
    ≡ state_after m.signs m.families (made_by T W params m pass)
state_stays T W params pass m none = sym (state_none m.signs params pass (state_of m)) ∙ ap (λ (cs : List Candidate). state_with m.signs params pass (state_of m) cs) (sym none)

none_left : (params : LevelParams) (q : PassTrace) → q.candidates ≡ [] → true ≡ left_none q
none_left params q none = ap (λ (cs : List Candidate). list_all (is_entered q.params) cs) (sym none)

module _ (T : Alphabet) (W : List Word) (params : LevelParams) (number len dot : ℕ) (m : Meaning) (r : RunRecords) (old new : SkipFlags) where
  -- a pass that was skipped
  pub skipped_known : (start : LevelStart) (ps : List PassTrace) → is_set old.here dot ≡ true → IsPointAt T W number len start ps (point m r old)
      → (made_by T W params m (pass_with number len dot)).candidates ≡ []
  skipped_known start ps flag at = skipped_none T W params number len dot (known_of m) ps at.skippable (at.tells.here dot ∙ flag)

  pub skipped_on : is_set old.here dot ≡ true → new.here ≡ old.here → Follows dot true old new
      → GoesOn T W number len (made_by T W params m (pass_with number len dot) ∷ []) (point m r old) (point m r new)
  skipped_on flag here longer = λ start ps at.
      let q : PassTrace = made_by T W params m (pass_with number len dot) in
      let none : q.candidates ≡ [] = skipped_known start ps flag at in
      let state = state_stays T W params (pass_with number len dot) m none in
      let on : IsPointAt T W number len start (ps ++ q ∷ []) (point m r new) = record {
        signs = at.signs;
        state = state ∙ state_on T W params number len dot m start ps r old at;
        records = recorded_none T W start.engine.signs start.engine.families ps q start.records r none at.short (at.tells.here dot ∙ flag) at.records;
        short = short_on T W params number len dot m start ps r old at;
        tells = tells_on T W params number len dot m start ps r old at true new (none_left params q none) here longer;
        skippable = closed_after T W params number len dot m start ps r old at m state;
      } in
      (on, ap (λ (s : State). s.known) state)

  -- a pass that was done
  pub done_on : (n : Meaning) (s : RunRecords) (rec : PassRecord) (b : Bool) → is_set old.here dot ≡ false → new.here ≡ old.here → Follows dot b old new
      → b ≡ (rec.chosen + rec.hopeless == rec.candidates) → n.signs ≡ m.signs
      → DidPass T W params (pass_with number len dot) m n rec → s ≡ with_pass r rec
      → GoesOn T W number len (made_by T W params m (pass_with number len dot) ∷ []) (point m r old) (point n s new)
  done_on n s rec b flag here longer left signs did records = λ start ps at.
      let q : PassTrace = made_by T W params m (pass_with number len dot) in
      let none : b ≡ left_none q = left ∙ ap (λ (x : PassLine). x.chosen + x.hopeless == x.candidates) did.line ∙ left_none_is params q.candidates in
      let state : state_of n ≡ state_at_end start.engine.signs (state_of start.engine) (ps ++ q ∷ []) = did.state ∙ state_on T W params number len dot m start ps r old at in
      let layout = did.layout ∙ ap (λ (s : State). option_map (λ fs. (q.pass, taken_count fs, top fs)) s.families) state in
      let on : IsPointAt T W number len start (ps ++ q ∷ []) (point n s new) = record {
        signs = signs ∙ at.signs;
        state = state;
        records = recorded_pass T W start.engine.signs start.engine.families ps q start.records r s rec did.line layout records at.short (at.tells.here dot ∙ flag) at.records;
        short = short_on T W params number len dot m start ps r old at;
        tells = tells_on T W params number len dot m start ps r old at b new none here longer;
        skippable = closed_after T W params number len dot m start ps r old at n did.state;
      } in
      (on, ap (λ (s : State). s.known) did.state)

-- at the next length
pub at_next : (T : Alphabet) (W : List Word) (number len : ℕ) (start : LevelStart) (ps : List PassTrace) (m : Meaning) (r : RunRecords) (old new : SkipFlags) → new.here
    ≡ old.longer → new.longer ≡ no_flags → IsPointAt T W number len start ps (point m r old) → IsPointAt T W number (len + 1) start ps (point m r new)
at_next T W number len start ps m r old new here longer at = record {
  signs = at.signs;
  state = at.state;
  records = at.records;
  short = short_next len ps at.short;
  tells = tells_next number len old new ps at.tells here longer;
  skippable = at.skippable;
}

-- passes that were made, and those that are left and lead to a whole
pub record Reaches (T : Alphabet) (W : List Word) (params : LevelParams) (number len : ℕ) (start : LevelStart) (m : Meaning) (r : RunRecords) (flags : SkipFlags)
    (rest : List Pass) (whole : List PassTrace) (end : Knowledge) : Type 0 where
  pub done : List PassTrace
  pub at : IsPointAt T W number len start done (point m r flags)
  pub left : done ++ all_made_by T W params m rest ≡ whole
  pub known : known_at_end (known_of m) (all_made_by T W params m rest) ≡ end

-- passes, and then others
pub made_append : (T : Alphabet) (W : List Word) (params : LevelParams) (known : Knowledge) (xs ys : List Pass) → pass_traces T W params known (xs ++ ys)
    ≡ pass_traces T W params known xs ++ pass_traces T W params (known_at_end known (pass_traces T W params known xs)) ys
made_append T W params known [] ys = refl
made_append T W params known (x ∷ xs) ys = ap (λ ps. pass_trace T W params known x ∷ ps) (made_append T W params (known_after (pass_trace T W params known x)) xs ys)

-- some passes of those that are left
pub made_on : (T : Alphabet) (W : List Word) (params : LevelParams) (m n : Meaning) (xs rest : List Pass) (done whole : List PassTrace) → known_of n
    ≡ known_at_end (known_of m) (all_made_by T W params m xs) → done ++ all_made_by T W params m (xs ++ rest) ≡ whole
    → (done ++ all_made_by T W params m xs) ++ all_made_by T W params n rest ≡ whole
made_on T W params m n xs rest done whole known left =
    append_assoc done (all_made_by T W params m xs) (all_made_by T W params n rest)
    ∙ ap (λ (k : Knowledge). done ++ (all_made_by T W params m xs ++ pass_traces T W params k rest)) known
    ∙ ap (λ ps. done ++ ps) (sym (made_append T W params (known_of m) xs rest))
    ∙ left

-- what is known at the end of passes, and then of others
known_append : (known : Knowledge) (ps qs : List PassTrace) → known_at_end known (ps ++ qs) ≡ known_at_end (known_at_end known ps) qs
known_append known [] qs = refl
known_append known (p ∷ ps) qs = known_append (known_after p) ps qs

pub known_on : (T : Alphabet) (W : List Word) (params : LevelParams) (m n : Meaning) (xs rest : List Pass) (whole : Knowledge) → known_of n ≡ known_at_end (known_of m) (all_made_by T W params m xs)
    → known_at_end (known_of m) (all_made_by T W params m (xs ++ rest)) ≡ whole → known_at_end (known_of n) (all_made_by T W params n rest) ≡ whole
known_on T W params m n xs rest whole known left =
    ap (λ (k : Knowledge). known_at_end k (pass_traces T W params k rest)) known
    ∙ sym (known_append (known_of m) (all_made_by T W params m xs)
    (pass_traces T W params (known_at_end (known_of m) (all_made_by T W params m xs)) rest))
    ∙ ap (λ ps. known_at_end (known_of m) ps) (sym (made_append T W params (known_of m) xs rest))
    ∙ left

-- the passes of a length from a place on
abbrev pub passes_from : ℕ → ℕ → ℕ → ℕ → List Pass
passes_from number len k end = map (λ dot. pass_with number len dot) (map (dot_at len) (range_with_len k (end - k)))

pub passes_step : (number len k end : ℕ) → k < end → passes_from number len k end ≡ pass_with number len (dot_at len k) ∷ passes_from number len (k + 1) end
passes_step number len k end before = ap (λ ks. map (λ dot. pass_with number len dot) (map (dot_at len) ks)) (range_step k end before)

pub all_from : (number len : ℕ) → passes_from number len 0 (len + 1) ≡ passes_of_length number len
all_from number len = let all : len + 1 - 0 ≡ len + 1 = omega arith in ap (λ n. map (λ dot. pass_with number len dot) (map (dot_at len) (range_with_len 0 n))) all

pub none_from : (number len end : ℕ) → passes_from number len end end ≡ []
none_from number len end = let none : end - end ≡ zero = omega arith in ap (λ n. map (λ dot. pass_with number len dot) (map (dot_at len) (range_with_len end n))) none

-- the passes of a level from a length on
abbrev pub lengths_from : ℕ → ℕ → ℕ → List Pass
lengths_from number len end = flat_map (passes_of_length number) (range_with_len len (end - len))

pub lengths_step : (number len end : ℕ) → len < end → lengths_from number len end ≡ passes_of_length number len ++ lengths_from number (len + 1) end
lengths_step number len end before = ap (flat_map (passes_of_length number)) (range_step len end before)

pub no_lengths : (number end : ℕ) → lengths_from number end end ≡ []
no_lengths number end = let none : end - end ≡ zero = omega arith in ap (λ n. flat_map (passes_of_length number) (range_with_len end n)) none

-- some passes of those that are left
pub reaches_on : (T : Alphabet) (W : List Word) (params : LevelParams) (number len : ℕ) (start : LevelStart) (m n : Meaning) (r s : RunRecords) (old new : SkipFlags)
    (passes xs rest : List Pass) (whole : List PassTrace) (end : Knowledge) → passes ≡ xs ++ rest
    → GoesOn T W number len (all_made_by T W params m xs) (point m r old) (point n s new) → Reaches T W params number len start m r old passes whole end
    → Reaches T W params number len start n s new rest whole end
reaches_on T W params number len start m n r s old new passes xs rest whole end are on before =
    let after = on start before.done before.at in
    record {
      done = before.done ++ all_made_by T W params m xs;
      at = after.0;
      left = made_on T W params m n xs rest before.done whole after.1 (ap (λ (ps : List Pass). before.done ++ all_made_by T W params m ps) (sym are) ∙ before.left);
      known = known_on T W params m n xs rest end after.1 (ap (λ (ps : List Pass). known_at_end (known_of m) (all_made_by T W params m ps)) (sym are) ∙ before.known);
    }

-- where no pass is left, all are done
pub at_whole : (T : Alphabet) (W : List Word) (params : LevelParams) (number len : ℕ) (start : LevelStart) (m : Meaning) (r : RunRecords) (flags : SkipFlags)
    (rest : List Pass) (whole : List PassTrace) (end : Knowledge) → rest ≡ [] → Reaches T W params number len start m r flags rest whole end
    → IsPointAt T W number len start whole (point m r flags) × (known_of m ≡ end)
at_whole T W params number len start m r flags rest whole end none reaches =
    let at : IsPointAt T W number len start whole (point m r flags) =
    subst (λ (ps : List PassTrace). IsPointAt T W number len start ps (point m r flags))
    (sym (append-nil reaches.done) ∙ ap (λ (xs : List Pass). reaches.done ++ all_made_by T W params m xs) (sym none) ∙ reaches.left)
    reaches.at in
    (at, ap (λ (xs : List Pass). known_at_end (known_of m) (all_made_by T W params m xs)) (sym none) ∙ reaches.known)
