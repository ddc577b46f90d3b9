-- What the records of a level are after one pass more.
use Rattle.std.proofs.Common.{◌≡◌, ℕ, ◌+◌, nat_le, nat_lt, Bool, true, false, cond, List, [], ◌∷◌, ◌++◌, fold, length, map, filter, Option, sym, ap, ◌∙◌, append_assoc, append-nil, add_assoc}
use Rattle.std.specs.List.{list_all}
use Rattle.std.specs.Option.{option_map}
use Rattle.std.proofs.lemmas.List.{map_push}
use Rattle.pg_types.specs.Placement.{Families, top}
use Rattle.pg_types.specs.Inside.PlacementSteps.{taken_count}
use Rattle.pg_dict.specs.Word.{Word}
use Rattle.pg_translate.specs.Alphabets.{Alphabet}
use Rattle.pg_select.specs.CountedPositions.{Candidate}
use Rattle.pg_driver.specs.declared.records.PassRecord.{PassRecord}
use Rattle.pg_driver.specs.Accounts.{has_candidate}
use Rattle.pg_driver.specs.Inside.records.AccountLines.{PassLine, begun_among, chosen_by, is_skippable, pass_line}
use Rattle.pg_driver.specs.Inside.Layouts.{after_pass}
use Rattle.pg_driver.specs.Inside.level.Levels.{AreRecorded, layouts_in}
use Rattle.pg_driver.specs.Inside.records.SoundRecords.{RunRecords, with_pass}
use Rattle.pg_driver.specs.Inside.records.RunAccounts.{pass_record_layout, line_of}
use Rattle.pg_driver.specs.Traces.{PassTrace, chosen_in}
use Rattle.pg_driver.specs.Inside.choices.Fates.{chosen_of}
use Rattle.pg_driver.proofs.Numbers.{plus_zero}
use Rattle.pg_driver.proofs.TraceSteps.{begun_push, chosen_push, filter_push, layouts_push}

push_if : {A C : Type 0} (f : A → C) (b : Bool) (xs : List A) (a : A) (os ys : List C) (y : C) → map f xs ≡ os ++ ys → f a ≡ y → map f (cond b (xs ++ a ∷ []) xs) ≡ os ++ (ys ++ cond b (y ∷ []) [])
push_if f true xs a os ys y before is = map_push f xs a ∙ ap (λ zs. zs ++ f a ∷ []) before ∙ append_assoc os ys (f a ∷ []) ∙ ap (λ z. os ++ (ys ++ z ∷ [])) is
push_if f false xs a os ys y before is = before ∙ ap (λ zs. os ++ zs) (sym (append-nil ys))

-- a pass that was recorded
pub recorded_pass : (T : Alphabet) (W : List Word) (signs : ℕ) (families : Option Families) (ps : List PassTrace) (q : PassTrace) (old mid new : RunRecords) (r : PassRecord)
    → line_of r ≡ pass_line T W q → pass_record_layout r ≡ option_map (λ fs. (q.pass, taken_count fs, top fs)) (option_map (λ fs. fold (after_pass signs) fs (ps ++ q ∷ [])) families)
    → new ≡ with_pass mid r → list_all (λ p. nat_le p.pass.len q.pass.len) ps ≡ true → is_skippable ps q.pass ≡ false
    → AreRecorded T W signs families ps old mid → AreRecorded T W signs families (ps ++ q ∷ []) old new
recorded_pass T W signs families ps q old mid new r line layout is short begun before =
    let b : Bool = has_candidate q in
    let own : new.passes ≡ cond b (mid.passes ++ r ∷ []) mid.passes =
    ap (λ (x : RunRecords). x.passes) is ∙ ap (λ (l : PassLine). cond (nat_lt 0 l.candidates) (mid.passes ++ r ∷ []) mid.passes) line in
    record {
      lines =
          ap (map line_of) own
          ∙ push_if line_of b mid.passes r (map line_of old.passes) (map (pass_line T W) (filter has_candidate ps)) (pass_line T W q) before.lines line
          ∙ ap (λ ls. map line_of old.passes ++ ls) (sym (filter_push (pass_line T W) has_candidate ps q));
      layouts =
          ap (map pass_record_layout) own
          ∙ push_if pass_record_layout b mid.passes r (map pass_record_layout old.passes) (layouts_in signs families ps) _ before.layouts layout
          ∙ ap (λ ls. map pass_record_layout old.passes ++ ls) (sym (layouts_push signs families ps q));
      chosen =
          ap (λ (x : RunRecords). x.chosen) is
          ∙ ap (λ (l : PassLine). mid.chosen + l.chosen) line
          ∙ ap (λ n. n + length (chosen_in q)) before.chosen
          ∙ add_assoc old.chosen (chosen_by ps) (length (chosen_in q))
          ∙ ap (λ n. old.chosen + n) (sym (chosen_push ps q));
      begun =
          ap (λ (x : RunRecords). x.begun) is
          ∙ ap (λ n. n + 1) before.begun
          ∙ add_assoc old.begun (length (begun_among ps)) 1
          ∙ ap (λ b. old.begun + (length (begun_among ps) + cond b 0 1)) (sym begun)
          ∙ ap (λ n. old.begun + n) (sym (begun_push ps q short));
      levels = ap (λ (x : RunRecords). x.levels) is ∙ before.levels;
    }

none_more : {C : Type 0} (os ys zs more : List C) → os ≡ ys ++ zs → more ≡ [] → os ≡ ys ++ (zs ++ more)
none_more os ys zs more is none = is ∙ ap (λ xs. ys ++ xs) (sym (append-nil zs)) ∙ ap (λ xs. ys ++ (zs ++ xs)) (sym none)

-- a pass that was skipped
pub recorded_none : (T : Alphabet) (W : List Word) (signs : ℕ) (families : Option Families) (ps : List PassTrace) (q : PassTrace) (old new : RunRecords)
    → q.candidates ≡ [] → list_all (λ p. nat_le p.pass.len q.pass.len) ps ≡ true → is_skippable ps q.pass ≡ true → AreRecorded T W signs families ps old new
    → AreRecorded T W signs families (ps ++ q ∷ []) old new
recorded_none T W signs families ps q old new none short begun before =
    let no : has_candidate q ≡ false = ap (λ (cs : List Candidate). nat_lt 0 (length cs)) none in
    record {
      lines =
          none_more (map line_of new.passes) (map line_of old.passes) (map (pass_line T W) (filter has_candidate ps)) _ before.lines (ap (λ b. cond b (pass_line T W q ∷ []) []) no)
          ∙ ap (λ ls. map line_of old.passes ++ ls) (sym (filter_push (pass_line T W) has_candidate ps q));
      layouts =
          none_more (map pass_record_layout new.passes) (map pass_record_layout old.passes) (layouts_in signs families ps) _ before.layouts
          (ap (λ b. cond b (option_map (λ fs. (q.pass, taken_count fs, top fs)) (option_map (λ fs. fold (after_pass signs) fs (ps ++ q ∷ [])) families) ∷ []) []) no)
          ∙ ap (λ ls. map pass_record_layout old.passes ++ ls) (sym (layouts_push signs families ps q));
      chosen =
          before.chosen
          ∙ ap (λ n. old.chosen + n) (sym (plus_zero (chosen_by ps)))
          ∙ ap (λ (cs : List Candidate). old.chosen + (chosen_by ps + length (chosen_of q.params cs))) (sym none)
          ∙ ap (λ n. old.chosen + n) (sym (chosen_push ps q));
      begun =
          before.begun
          ∙ ap (λ n. old.begun + n) (sym (plus_zero (length (begun_among ps))))
          ∙ ap (λ b. old.begun + (length (begun_among ps) + cond b 0 1)) (sym begun)
          ∙ ap (λ n. old.begun + n) (sym (begun_push ps q short));
      levels = before.levels;
    }
