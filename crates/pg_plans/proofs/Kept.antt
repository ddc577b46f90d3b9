-- Files that no call changed.
use Rattle.std.proofs.Common.{◌≡◌, ℕ, zero, suc, List, ◌∷◌, [], ◌++◌, None, Some, inl, inr, ap, sym, subst, ◌∙◌, get_or, take, drop, arith}
use Rattle.std.specs.Prelude.{codes}
use Rattle.std.specs.Option.{IsSomeAnd, option_and_then}
use Rattle.std.specs.FinMap as map
use Rattle.std.proofs.lemmas.List.{append-nil, append_assoc, take-append-drop}
use Rattle.pg_outside.specs.Content.{FileMap, FilesShown, SinkShown}
use Rattle.pg_plans.specs.Calls.{PutsEach}
use Rattle.pg_plans.specs.Plans.{Moment, Plan, Reading, Ending, Finishes}
use Rattle.pg_plans.specs.Outcomes.{Outcome, outcome, after_all, EachEnding}
use Rattle.pg_plans.specs.Laws.{BeginAsFault, IsOwn, KeepsFiles, KeptUnlessDone, KeptAfterUnread, NoUsage}
use Rattle.pg_plans.specs.declared.answers.Status.{Status}
use Rattle.pg_plans.specs.declared.answers.Status.TheVariants.{Usage, Fault, Memory}
use Rattle.pg_plans.proofs.Answered.{answered}
use Rattle.pg_plans.proofs.Told.{told_same, told_on, told_as, told_some, was_told}

-- an outcome is an ending
pub own_outcome : (P : Status → List (List ℕ × List ℕ) → List ℕ → Type 0) (files : FileMap) (plan : Plan) (Q : Outcome → Type 0) → EachEnding P plan → IsSomeAnd (outcome files plan) Q
    → (o : Outcome) × P o.answer o.writing o.lines × Q o
own_outcome P files (Ending answer writing lines) Q each is = (record { answer = answer; writing = writing; lines = lines }, each, is)
own_outcome P files (Reading name next) Q each is =
    elim (map.get files name) as (λ file. IsSomeAnd (option_and_then (λ bytes. outcome files (next bytes)) file) Q → (o : Outcome) × P o.answer o.writing o.lines × Q o) [
      | None ↦ λ h. absurd h
      | Some bytes ↦ λ h. own_outcome P files (next bytes) Q (each bytes) h
    ] is

pub kept_unless_done : KeptUnlessDone
kept_unless_done plan status old new own follows not_done no_fault = elim (answered plan status old new follows) [
  | inl fault ↦ absurd (no_fault fault.0)
  | inr (inl short) ↦ short.1
  | inr (inr done) ↦ told_as old.0.held new.0.held _ _ (λ x y is.
      let o = own_outcome IsOwn x plan _ own is in
      elim o.1.0 [ inl none ↦ o.2.1 ∙ ap (λ (ws : List (List ℕ × List ℕ)). after_all x ws) none | inr d ↦ absurd (not_done (o.2.0 ∙ d.0)) ]) done
]

-- the two lines of faults differ
lines_differ : (text a b : List ℕ) → text ++ (codes "fault: reading " ++ a) ≡ text ++ (codes "fault: writing " ++ b) → ⊥
lines_differ [] a b e = let h : ◌≡◌ {A = ℕ} 114 119 = ap (λ (l : List ℕ). get_or l 7 0) e in omega arith
lines_differ (x ∷ text) a b e = lines_differ text a b (ap (λ (l : List ℕ). drop 1 l) e)

-- lines of which a part begins as a fault begin so
part_begins : (text rest lines : List ℕ) (kept : ℕ) → text ++ (codes "fault: reading " ++ rest) ≡ text ++ take kept lines → BeginAsFault lines
part_begins [] rest lines zero e = let h : ◌≡◌ {A = ℕ} 102 0 = ap (λ (l : List ℕ). get_or l 0 0) e in omega arith
part_begins [] rest [] (suc kept) e = let h : ◌≡◌ {A = ℕ} 102 0 = ap (λ (l : List ℕ). get_or l 0 0) e in omega arith
part_begins [] rest (x ∷ xs) (suc kept) e = sym (ap (λ (l : List ℕ). get_or l 0 0) e)
part_begins (x ∷ text) rest lines kept e = part_begins text rest lines kept (ap (λ (l : List ℕ). drop 1 l) e)

told_back : (xs : List (List ℕ)) (old new : SinkShown) (now : List ℕ) → PutsEach xs old new → new.text ≡ Some now → (text : List ℕ) × (old.text ≡ Some text)
told_back [] old new now h told = (now, sym (ap (λ (s : SinkShown). s.text) h) ∙ told)
told_back (x ∷ xs) old new now (inl part) told = was_told old.text new.text _ now told part.1.text
told_back (x ∷ xs) old new now (inr h) told = let mid = told_back xs h.0 new now h.2 told in was_told old.text h.0.text _ mid.0 mid.1 h.1.text

-- texts are put behind what was told
put_behind : (xs : List (List ℕ)) (old new : SinkShown) (text now : List ℕ) → PutsEach xs old new → old.text ≡ Some text → new.text ≡ Some now → (more : List ℕ) × (now ≡ text ++ more)
put_behind [] old new text now h before after = let e : old.text ≡ new.text = ap (λ (s : SinkShown). s.text) (sym h) in let same : now ≡ text = cc in ([], same ∙ sym (append-nil text))
put_behind (x ∷ xs) old new text now (inl part) before after = let put = told_some old.text new.text _ text now before after part.1.text in (take put.0 x, put.1)
put_behind (x ∷ xs) old new text now (inr h) before after =
    let mid = told_back xs h.0 new now h.2 after in
    let is : mid.0 ≡ text ++ x = told_some old.text h.0.text (λ t n. n ≡ t ++ x) text mid.0 before mid.1 h.1.text in
    let rest = put_behind xs h.0 new mid.0 now h.2 mid.1 after in
    (x ++ rest.0, rest.1 ∙ ap (λ (t : List ℕ). t ++ rest.0) is ∙ append_assoc text x rest.0)

-- what was put begins as the first of the texts, as far as it goes
put_first : (x : List ℕ) (xs : List (List ℕ)) (old new : SinkShown) (text now : List ℕ) → PutsEach (x ∷ xs) old new → old.text ≡ Some text → new.text ≡ Some now
    → (less : List ℕ) × (more : List ℕ) × (now ++ less ≡ text ++ (x ++ more))
put_first x xs old new text now (inl part) before after =
    let put = told_some old.text new.text _ text now before after part.1.text in
    (drop put.0 x, [], ap (λ (t : List ℕ). t ++ drop put.0 x) put.1 ∙ append_assoc text (take put.0 x) (drop put.0 x) ∙ ap (λ (t : List ℕ). text ++ t) (take-append-drop put.0 x ∙ sym (append-nil x)))
put_first x xs old new text now (inr h) before after =
    let mid = told_back xs h.0 new now h.2 after in
    let is : mid.0 ≡ text ++ x = told_some old.text h.0.text (λ t n. n ≡ t ++ x) text mid.0 before mid.1 h.1.text in
    let rest = put_behind xs h.0 new mid.0 now h.2 mid.1 after in
    ([], rest.0, append-nil now ∙ rest.1 ∙ ap (λ (t : List ℕ). t ++ rest.0) is ∙ append_assoc text x rest.0)

-- the line, behind a text
line_behind : (text name : List ℕ) → text ++ codes "fault: reading " ++ name ++ codes "\n" ≡ text ++ (codes "fault: reading " ++ (name ++ codes "\n"))
line_behind text name = append_assoc (text ++ codes "fault: reading ") name (codes "\n") ∙ append_assoc text (codes "fault: reading ") (name ++ codes "\n")

not_written : (ws : List (List ℕ × List ℕ)) (lines : List ℕ) (answer : Status) (old new : Moment) (name text : List ℕ) → ¬ (answer ≡ Fault) → ¬ BeginAsFault lines
    → Finishes ws lines answer Fault old new → old.1.text ≡ Some text → new.1.text ≡ Some (text ++ codes "fault: reading " ++ name ++ codes "\n") → ⊥
not_written [] lines answer old new name text own other h before after = elim h.1 [
  | inl done ↦ own (sym done.0)
  | inr part ↦ let put = told_some old.1.text new.1.text _ text _ before after part.1.1.text in other (part_begins text (name ++ codes "\n") lines put.0 (sym (line_behind text name) ∙ put.1))
]
not_written (w ∷ ws) lines answer old new name text own other (inl failed) before after =
    let put = put_first (codes "fault: writing ") (w.0 ∷ codes "\n" ∷ []) old.1 new.1 text _ failed.2 before after in
    let line : List ℕ = codes "fault: reading " ++ (name ++ codes "\n") in
    lines_differ text (name ++ codes "\n" ++ put.0) put.1 (sym (ap (λ (t : List ℕ). t ++ put.0) (line_behind text name) ∙ append_assoc text line put.0) ∙ put.2)
not_written (w ∷ ws) lines answer old new name text own other (inr h) before after = not_written ws lines answer (h.0, old.1) new name text own other h.2 before after

pub kept_after_unread : KeptAfterUnread
kept_after_unread (Ending answer ws lines) old new name text own (inl short) before after = let e : Fault ≡ Memory = short.0 in cc
kept_after_unread (Ending answer ws lines) old new name text own (inr h) before after = elim own.0 [
  | inl none ↦ let kept = subst (λ (ws : List (List ℕ × List ℕ)). Finishes ws lines answer Fault old new) none h in subst (λ (files : FilesShown). KeepsFiles old.0 files) (sym kept.0) (told_same old.0.held)
  | inr done ↦ absurd (not_written ws lines answer old new name text own.1 done.1 h before after)
]
kept_after_unread (Reading file next) old new name text own (inl short) before after = let e : Fault ≡ Memory = short.0 in cc
kept_after_unread (Reading file next) old new name text own (inr (inl stop)) before after = stop.0.held
kept_after_unread (Reading file next) old new name text own (inr (inr h)) before after =
    told_on old.0.held h.1.held new.0.held _ _ _ (λ x y z got kept. kept ∙ got.0) h.2.held (kept_after_unread (next h.0) (h.1, old.1) new name text (own h.0) h.3 before after)

not_usage : (ws : List (List ℕ × List ℕ)) (lines : List ℕ) (answer : Status) (old new : Moment) → ¬ (answer ≡ Usage) → ¬ Finishes ws lines answer Usage old new
not_usage [] lines answer old new own h = elim h.1 [ inl said ↦ own (sym said.0) | inr part ↦ let e : Usage ≡ Fault = part.0 in cc ]
not_usage (w ∷ ws) lines answer old new own (inl failed) = let e : Usage ≡ Fault = failed.0 in cc
not_usage (w ∷ ws) lines answer old new own (inr h) = not_usage ws lines answer (h.0, old.1) new own h.2

pub no_usage : NoUsage
no_usage (Ending answer ws lines) old new own (inl short) = let e : Usage ≡ Memory = short.0 in cc
no_usage (Ending answer ws lines) old new own (inr h) = not_usage ws lines answer old new own.2 h
no_usage (Reading name next) old new own (inl short) = let e : Usage ≡ Memory = short.0 in cc
no_usage (Reading name next) old new own (inr (inl stop)) =
    elim stop.1 [ inl short ↦ let e : Usage ≡ Memory = short.0 in cc | inr fault ↦ let e : Usage ≡ Fault = fault.0 in cc ]
no_usage (Reading name next) old new own (inr (inr h)) = no_usage (next h.0) (h.1, old.1) new (own h.0) h.3
