-- A call that follows its plan reads, writes and puts in its order.
use Rattle.std.proofs.Common.{◌≡◌, ℕ, List, ◌∷◌, [], ◌++◌, Option, Some, map, inl, inr, refl, ap, sym, ◌∙◌, subst, ◌⊎◌}
use Rattle.std.specs.Prelude.{All}
use Rattle.std.specs.FinMap as fin
use Rattle.std.proofs.lemmas.List.{append-nil, append_assoc}
use Rattle.std.proofs.lemmas.List.Elements.{All-nil, All-cons}
use Rattle.pg_outside.specs.Content.{FileMap, FilesShown, SinkShown, HasPart, Told}
use Rattle.pg_outside.specs.FilesCalls.{FilesCall, Reads, Writes}
use Rattle.pg_plans.specs.Calls.{Gets, Puts, PutsPart}
use Rattle.pg_plans.specs.Outcomes.{after_all}
use Rattle.pg_plans.specs.Plans.{Moment, Plan, Reading, Ending, Finishes, Follows}
use Rattle.pg_plans.specs.declared.answers.Status.{Status}
use Rattle.pg_plans.specs.declared.answers.Status.TheVariants.{Fault, Memory}
use Rattle.pg_plans.proofs.Told.{told_same, told_as, told_on, rose_later}
use Rattle.pg_top.specs.Orders.{MakesCalls, LeavesAfter, read_calls, write_calls, Ended, FailsToWrite, WentBehind, Went}

-- these calls were made, and left the files with these set
abbrev Made : FilesShown → FilesShown → List FilesCall → List (List ℕ × List ℕ) → Type 0
Made s0 s1 calls ws = (s1.calls ≡ s0.calls ++ calls) × Told s0.held s1.held (λ before after. after ≡ after_all before ws)

-- no call was made where the files are as they were
none_made : (s0 s1 : FilesShown) → s1 ≡ s0 → Made s0 s1 [] []
none_made s0 s1 is = (ap (λ s. s.calls) is ∙ sym (append-nil s0.calls), subst (λ (s : FilesShown). Told s0.held s.held (λ before after. after ≡ before)) (sym is) (told_same s0.held))

-- calls behind one more
calls_behind : (s0 s1 s2 : FilesShown) (call : FilesCall) (calls : List FilesCall) → s1.calls ≡ s0.calls ++ call ∷ [] → s2.calls ≡ s1.calls ++ calls → s2.calls ≡ s0.calls ++ call ∷ calls
calls_behind s0 s1 s2 call calls one more = more ∙ ap (λ (l : List FilesCall). l ++ calls) one ∙ append_assoc s0.calls (call ∷ []) calls

-- what holds behind a read, from the moment before it
told_behind : (name bytes : List ℕ) (s0 s1 s2 : FilesShown) (P : FileMap → FileMap → Type 0) → Gets name bytes s0 s1 → Told s1.held s2.held P → Told s0.held s2.held P
told_behind name bytes s0 s1 s2 P gets told = told_on s0.held s1.held s2.held _ P P (λ x y z got is. subst (λ (m : FileMap). P m z) got.0 is) gets.held told

made_behind : (name bytes : List ℕ) (s0 s1 s2 : FilesShown) (calls : List FilesCall) (ws : List (List ℕ × List ℕ)) → Gets name bytes s0 s1 → Made s1 s2 calls ws → Made s0 s2 (Reads name ∷ calls) ws
made_behind name bytes s0 s1 s2 calls ws gets made =
    (calls_behind s0 s1 s2 (Reads name) calls gets.calls made.0, told_behind name bytes s0 s1 s2 (λ before after. after ≡ after_all before ws) gets made.1)

-- how writing and putting went
abbrev Finished : List (List ℕ × List ℕ) → List ℕ → Status → Status → Moment → Moment → Type 0
Finished ws lines answer status old new = ((status ≡ answer) × MakesCalls old new (write_calls ws) ws × Puts lines old.1 new.1)
    ⊎ (((status ≡ Fault) × MakesCalls old new (write_calls ws) ws × PutsPart lines old.1 new.1) ⊎ ((status ≡ Fault) × FailsToWrite [] ws old new))

finished : (ws : List (List ℕ × List ℕ)) (lines : List ℕ) (answer status : Status) (old new : Moment) → Finishes ws lines answer status old new → Finished ws lines answer status old new
finished [] lines answer status old new h = elim h.1 [
  | inl done ↦ inl (done.0, none_made old.0 new.0 h.0, done.1)
  | inr part ↦ inr (inl (part.0, none_made old.0 new.0 h.0, part.1))
]
finished (w ∷ ws) lines answer status old new (inl failed) = inr (inr (
  failed.0,
  record {
    front = [];
    failed = w;
    behind = ws;
    order = refl;
    calls = failed.1.1.calls;
    held = failed.1.1.held;
    rose = failed.1.0;
    line = failed.2;
  },
))
finished (w ∷ ws) lines answer status old new (inr h) =
    let behind : (calls : List FilesCall) → new.0.calls ≡ h.0.calls ++ calls → new.0.calls ≡ old.0.calls ++ Writes w.0 ∷ calls = λ calls. calls_behind old.0 h.0 new.0 (Writes w.0) calls h.1.calls in
    let made : Made h.0 new.0 (write_calls ws) ws → Made old.0 new.0 (write_calls (w ∷ ws)) (w ∷ ws) = λ m.
    (behind (write_calls ws) m.0, told_on old.0.held h.0.held new.0.held _ _ _ (λ x y z set all. all ∙ ap (λ (files : FileMap). after_all files ws) set) h.1.held m.1) in
    elim (finished ws lines answer status (h.0, old.1) new h.2) [
      | inl done ↦ inl (done.0, made done.1, done.2)
      | inr (inl part) ↦ inr (inl (part.0, made part.1, part.2))
      | inr (inr failed) ↦ inr (inr (
        failed.0,
        record {
          front = w ∷ failed.1.front;
          failed = failed.1.failed;
          behind = failed.1.behind;
          order = ap (λ (l : List (List ℕ × List ℕ)). w ∷ l) failed.1.order;
          calls = behind (write_calls (failed.1.front ++ failed.1.failed ∷ [])) failed.1.calls;
          held = told_on old.0.held h.0.held new.0.held _ _ _
              (λ x y z set part. subst (λ (files : FileMap). HasPart (after_all files failed.1.front) z failed.1.failed.0 failed.1.failed.1) set part) h.1.held failed.1.held;
          rose = rose_later _ _ _ (h.1.writes failed.1.failed.0) failed.1.rose;
          line = failed.1.line;
        },
      ))
    ]

-- what went behind a read, from the moment before it
went_behind : (name bytes : List ℕ) (before : List FilesCall) (rest : Plan) (status : Status) (s0 s1 : FilesShown) (sink : SinkShown) (new : Moment) → Gets name bytes s0 s1
    → WentBehind before rest status (s1, sink) new → WentBehind (Reads name ∷ before) rest status (s0, sink) new
went_behind name bytes before (Ending answer ws lines) status s0 s1 sink new gets (inl short) = inl (short.0, made_behind name bytes s0 s1 new.0 before [] gets short.1, short.2)
went_behind name bytes before (Ending answer ws lines) status s0 s1 sink new gets (inr (inl done)) =
    inr (inl (done.0, made_behind name bytes s0 s1 new.0 (before ++ write_calls ws) ws gets done.1, done.2))
went_behind name bytes before (Ending answer ws lines) status s0 s1 sink new gets (inr (inr (inl part))) =
    inr (inr (inl (part.0, made_behind name bytes s0 s1 new.0 (before ++ write_calls ws) ws gets part.1, part.2)))
went_behind name bytes before (Ending answer ws lines) status s0 s1 sink new gets (inr (inr (inr failed))) = inr (inr (inr (
  failed.0,
  record {
    front = failed.1.front;
    failed = failed.1.failed;
    behind = failed.1.behind;
    order = failed.1.order;
    calls = calls_behind s0 s1 new.0 (Reads name) (before ++ write_calls (failed.1.front ++ failed.1.failed ∷ [])) gets.calls failed.1.calls;
    held = told_behind name bytes s0 s1 new.0 (λ x y. HasPart (after_all x failed.1.front) y failed.1.failed.0 failed.1.failed.1) gets failed.1.held;
    rose = rose_later _ _ _ (gets.writes failed.1.failed.0) failed.1.rose;
    line = failed.1.line;
  },
)))
went_behind name bytes before (Reading file next) status s0 s1 sink new gets (inl short) = inl (
  short.0,
  (elim short.1 [
    | inl none ↦ inl (made_behind name bytes s0 s1 new.0 before [] gets none)
    | inr one ↦ inr (made_behind name bytes s0 s1 new.0 (before ++ Reads file ∷ []) [] gets one)
  ]),
  short.2,
)
went_behind name bytes before (Reading file next) status s0 s1 sink new gets (inr fault) =
    inr (fault.0, made_behind name bytes s0 s1 new.0 (before ++ Reads file ∷ []) [] gets fault.1, rose_later _ _ _ (gets.reads file) fault.2, fault.3)

-- no file was read
none_read : (h0 h1 : Option FileMap) (P : FileMap → FileMap → Type 0) → Told h0 h1 P → Told h0 h1 (λ before after. All (λ (r : List ℕ × List ℕ). fin.get before r.0 ≡ Some r.1) [])
none_read h0 h1 P told = told_as h0 h1 P _ (λ x y is. All-nil (λ (r : List ℕ × List ℕ). fin.get x r.0 ≡ Some r.1)) told

-- how a plan that reads nothing went
went_on : (rest : Plan) (status : Status) (old new : Moment) (P : FileMap → FileMap → Type 0) → Told old.0.held new.0.held P → WentBehind [] rest status old new → Went rest status old new
went_on rest status old new P told behind = record { reads = []; rest = rest; left = refl; bytes = none_read old.0.held new.0.held P told; behind = behind }

pub went : (plan : Plan) (status : Status) (old new : Moment) → Follows plan status old new → Went plan status old new
went (Ending answer ws lines) status old new (inl short) =
    let made = none_made old.0 new.0 (ap (λ (m : Moment). m.0) short.1) in
    went_on (Ending answer ws lines) status old new _ made.1 (inl (short.0, made, ap (λ (m : Moment). m.1) short.1))
went (Ending answer ws lines) status old new (inr h) = elim (finished ws lines answer status old new h) [
  | inl done ↦ went_on (Ending answer ws lines) status old new _ done.1.1 (inr (inl done))
  | inr (inl part) ↦ went_on (Ending answer ws lines) status old new _ part.1.1 (inr (inr (inl part)))
  | inr (inr failed) ↦ went_on (Ending answer ws lines) status old new _ failed.1.held (inr (inr (inr failed)))
]
went (Reading name next) status old new (inl short) =
    let made = none_made old.0 new.0 (ap (λ (m : Moment). m.0) short.1) in
    went_on (Reading name next) status old new _ made.1 (inl (short.0, inl made, ap (λ (m : Moment). m.1) short.1))
went (Reading name next) status old new (inr (inl stop)) = elim stop.1 [
  | inl short ↦ went_on (Reading name next) status old new _ stop.0.held (inl (short.0, inr (stop.0.calls, stop.0.held), short.1))
  | inr fault ↦ went_on (Reading name next) status old new _ stop.0.held (inr (fault.0, (stop.0.calls, stop.0.held), fault.1, fault.2))
]
went (Reading name next) status old new (inr (inr h)) =
    let more = went (next h.0) status (h.1, old.1) new h.3 in
    record {
      reads = (name, h.0) ∷ more.reads;
      rest = more.rest;
      left = (refl, more.left);
      bytes = told_on old.0.held h.1.held new.0.held _ _ _ (λ x y z got all. All-cons (λ (r : List ℕ × List ℕ). fin.get x r.0 ≡ Some r.1) (name, h.0) more.reads got.1
          (subst (λ (m : FileMap). All (λ (r : List ℕ × List ℕ). fin.get m r.0 ≡ Some r.1) more.reads) got.0 all)) h.2.held more.bytes;
      behind = went_behind name h.0 (read_calls more.reads) more.rest status old.0 h.1 old.1 new h.2 more.behind;
    }

-- with no fault and no want of memory the plan came to its end
pub ended : (plan : Plan) (status : Status) (old new : Moment) → ¬ (status ≡ Fault) → ¬ (status ≡ Memory) → Went plan status old new → Ended plan status old new
ended plan status old new no_fault enough w = by_rest w.rest w.left w.behind
  where
    by_rest : (rest : Plan) → LeavesAfter plan w.reads rest → WentBehind (read_calls w.reads) rest status old new → Ended plan status old new
    by_rest (Reading name next) left (inl short) = absurd (enough short.0)
    by_rest (Reading name next) left (inr fault) = absurd (no_fault fault.0)
    by_rest (Ending answer ws lines) left (inl short) = absurd (enough short.0)
    by_rest (Ending answer ws lines) left (inr (inl done)) = record {
      reads = w.reads;
      writing = ws;
      lines = lines;
      left = subst (λ (s : Status). LeavesAfter plan w.reads (Ending s ws lines)) (sym done.0) left;
      bytes = w.bytes;
      calls = done.1;
      put = done.2;
    }
    by_rest (Ending answer ws lines) left (inr (inr (inl part))) = absurd (no_fault part.0)
    by_rest (Ending answer ws lines) left (inr (inr (inr failed))) = absurd (no_fault failed.0)
