use Rattle.std.proofs.Common.{◌≡◌, ◌++◌, ℕ, ◌-◌, ◌<◌, ◌≤◌, cond, nat_lt, true, false, get_or, OnOk, Bor, subst, inl, inr, length, take, List, [], ◌∷◌, codes, refl, sym, ap, ◌∙◌, arith, rules}
use Rattle.std.specs.Prelude.{slice_index}
use Rattle.std.proofs.lemmas.Bool.{cases_Bool}
use Rattle.std.proofs.lemmas.Bool.Decides.{nat_tests}
use Rattle.std.proofs.lemmas.Grind.{common_steps}
use Rattle.std.proofs.lemmas.List.{length-take-le, length-take}
use Rattle.pg_types.specs.Lines.{is_line_feed}
use Rattle.pg_audit.specs.FoundLines.{found_text}
use Rattle.pg_top.proofs.audit.no_lines.push_found.Goals as goal
use Rattle.pg_top.proofs.audit.no_lines.push_found.Goals.{then-has_feed, else-has_feed}

-- a line without its line feed
abbrev without_feed : List ℕ → List ℕ
without_feed line = cond (is_line_feed (slice_index line (length line - 1))) (take (length line - 1) line) line

missing : (found : List ℕ) → length found ≡ 0 → found_text found ≡ codes " is missing"
missing [] none = refl
missing (b ∷ bs) none = absurd (omega arith)

long_text : (line : List ℕ) → 0 < length line → 200 < length (without_feed line) → found_text line ≡ codes " begins " ++ take 200 line
long_text [] some long = absurd (omega arith)
long_text (b ∷ bs) some long =
    let test : nat_lt 200 (length (without_feed (b ∷ bs))) ≡ true = grind (arith, nat_tests) in
    rw test refl

-- the bytes before a line feed are those of the line without it
with_feed : (line : List ℕ) → get_or line (length line - 1) 0 ≡ 10 → without_feed line ≡ take (length line - 1) line
with_feed line is = let test : is_line_feed (slice_index line (length line - 1)) ≡ true = grind (arith, nat_tests) in rw test refl

no_feed : (line : List ℕ) → (get_or line (length line - 1) 0 ≡ 10 → ⊥) → without_feed line ≡ line
no_feed line is = let test : is_line_feed (slice_index line (length line - 1)) ≡ false = grind (arith, nat_tests) in rw test refl

within : (line : List ℕ) → length (without_feed line) ≤ length line
within line = elim (cases_Bool (is_line_feed (slice_index line (length line - 1)))) [ inl feed ↦ rw (feed, length-take) (omega arith) | inr none ↦ rw none (omega arith) ]

pub returns-then-is_empty : goal.returns-then-is_empty
returns-then-is_empty c =
    let none : length c.args.found.now ≡ 0 = first_of (omega arith, first_of (search rules, grind (arith, common_steps))) in
    subst (λ (t : List ℕ). OnOk c.extend_from_slice.result (c.extend_from_slice.new.self.items ≡ c.args.text.now.items ++ t)) (sym (missing c.args.found.now none))
    (first_of (search rules, grind (arith, common_steps)))

pub slice_bounds-front-end : goal.slice_bounds-front-end
slice_bounds-front-end c =
    let found = c.args.found.now in
    let bare : c.if-has_feed.bare.now ≡ without_feed found = elim c.if-has_feed.branch [
      | then-has_feed w ↦ ap (λ (b : Bor (List ℕ)). b.now) w.bare-is ∙ sym (with_feed found w.if-has_feed.true)
      | else-has_feed w ↦ ap (λ (b : Bor (List ℕ)). b.now) w.bare-is ∙ sym (no_feed found w.if-has_feed.false)
    ] in
    let enough : 200 ≤ length found = omega (arith, ap (length {A = ℕ}) bare, within found) in
    omega (arith, length-take-le 200 found enough)

pub returns-then-bare-gt-SHOWN_MAX : goal.returns-then-bare-gt-SHOWN_MAX
returns-then-bare-gt-SHOWN_MAX c =
    let found = c.args.found.now in
    let bare : c.if-has_feed.bare.now ≡ without_feed found = elim c.if-has_feed.branch [
      | then-has_feed w ↦ ap (λ (b : Bor (List ℕ)). b.now) w.bare-is ∙ sym (with_feed found w.if-has_feed.true)
      | else-has_feed w ↦ ap (λ (b : Bor (List ℕ)). b.now) w.bare-is ∙ sym (no_feed found w.if-has_feed.false)
    ] in
    let long : 200 < length (without_feed found) = omega (arith, ap (length {A = ℕ}) bare) in
    let text : found_text found ≡ codes " begins " ++ take 200 found = long_text found (omega (arith, within found)) long in
    subst (λ (t : List ℕ). OnOk c.extend_from_slice-then-bare-gt-SHOWN_MAX-2.result (c.extend_from_slice-then-bare-gt-SHOWN_MAX-2.new.self.items ≡ c.args.text.now.items ++ t)) (sym text)
    (first_of (search rules, grind (arith, common_steps)))
