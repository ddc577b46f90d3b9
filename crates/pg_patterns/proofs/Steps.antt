-- How the items of a pattern line are read, one after the other.
use Rattle.std.proofs.Common.{◌≡◌, ℕ, ◌+◌, ◌-◌, ◌<◌, ◌≤◌, true, false, if◌then◌else◌, ◌==◌, List, [], ◌∷◌, ◌++◌, length, Some, Err, fold, sym, refl, ap, subst, ◌∙◌, arith}
use Rattle.std.proofs.lemmas.Bool.{eqb-false}
use Rattle.std.proofs.lemmas.List.{length_push}
use Rattle.std.proofs.lemmas.List.Elements.{All-push, All-append, All-weaker, All-nil, All-cons}
use Rattle.std.specs.List.{All}
use Rattle.pg_types.specs.declared.limits.TheConstants.{PATTERN_SIGNS_MAX}
use Rattle.pg_types.specs.declared.refusals.Kind.TheVariants.{PatternTooLong}
use Rattle.pg_types.specs.ValuesOrRefusals.{unless, refusal_at}
use Rattle.pg_translate.specs.declared.items.Place.TheVariants.{Patterns}
use Rattle.pg_translate.specs.Alphabets.{Alphabet}
use Rattle.pg_translate.specs.Tokens.{Token}
use Rattle.pg_translate.specs.Inside.items.Cuts.{Cut, with_item, tokens_of}
use Rattle.pg_translate.specs.Inside.items.Rests.{cut_rest}
use Rattle.pg_translate.specs.Inside.items.Answers.{HasItem}
use Rattle.pg_translate.specs.Gaps.{sign_of}
use Rattle.pg_translate.specs.Inside.items.Refusing.{refusal_with_room}
use Rattle.pg_translate.proofs.LineSteps.{cut_rest-takes, refusal_sign, refusal_full}
use Rattle.pg_patterns.specs.Inside.EntryLines.{digit_at_dot}
use Rattle.pg_patterns.specs.Inside.Drafts.{Draft, IsDraft, IsDotDigit, all_digits, draft_with_sign, with_token, refusal_after, draft_left}

-- a sign leaves room for one less
room_less : (n : ℕ) → n < PATTERN_SIGNS_MAX → PATTERN_SIGNS_MAX - n ≡ PATTERN_SIGNS_MAX - (n + 1) + 1
room_less n room = omega arith

pub sign_step : (t : Alphabet) (line size : ℕ) (d : Draft) (rest after : List ℕ) (token : Token) (sign : ℕ) → HasItem t Patterns rest token after
    → length rest ≤ size → sign_of token ≡ Some sign → with_token d token ≡ draft_with_sign d sign → length d.signs < PATTERN_SIGNS_MAX
    → draft_left t line size d rest ≡ draft_left t line size (draft_with_sign d sign) after
sign_step t line size d rest after token sign takes bound is adds room =
    let n : ℕ = length d.signs in
    let column : ℕ = size - length rest + 1 in
    let behind : Cut = cut_rest t Patterns size after in
    ap (λ c. unless (refusal_after n line c) (fold with_token d (tokens_of c))) (cut_rest-takes t Patterns size token rest after takes bound)
    ∙ ap (λ r. unless r (fold with_token (with_token d token) (tokens_of behind)))
    (ap (λ m. refusal_with_room Patterns line m (with_item column token behind)) (room_less n room) ∙ refusal_sign Patterns line (PATTERN_SIGNS_MAX - (n + 1)) column token sign behind is
    ∙ ap (λ n. refusal_after n line behind) (sym (length_push d.signs sign)))
    ∙ ap (λ e. unless (refusal_after (length (d.signs ++ sign ∷ [])) line behind) (fold with_token e (tokens_of behind))) adds

pub sign_refused : (t : Alphabet) (line size : ℕ) (d : Draft) (rest after : List ℕ) (token : Token) (sign : ℕ) → HasItem t Patterns rest token after
    → length rest ≤ size → sign_of token ≡ Some sign → PATTERN_SIGNS_MAX ≤ length d.signs → draft_left t line size d rest ≡ Err (refusal_at line PatternTooLong (size - length rest + 1))
sign_refused t line size d rest after token sign takes bound is full =
    let column : ℕ = size - length rest + 1 in
    let behind : Cut = cut_rest t Patterns size after in
    let none : PATTERN_SIGNS_MAX - length d.signs ≡ 0 = omega arith in
    ap (λ c. unless (refusal_after (length d.signs) line c) (fold with_token d (tokens_of c))) (cut_rest-takes t Patterns size token rest after takes bound)
    ∙ ap (λ r. unless r (fold with_token (with_token d token) (tokens_of behind))) (ap (λ m. refusal_with_room Patterns line m (with_item column token behind)) none
    ∙ refusal_full Patterns line column token sign behind is)

-- what a draft keeps, it keeps with one digit more at its dots
pub keeps_digits : (n : ℕ) (d : Draft) → IsDraft n d → All (IsDotDigit (length d.signs + 1)) (all_digits d)
keeps_digits n d kept =
    All-append (IsDotDigit (length d.signs + 1)) d.digits (digit_at_dot (length d.signs) d.digit)
    (All-weaker (IsDotDigit (length d.signs)) (IsDotDigit (length d.signs + 1)) (λ x h. (farther x.0 (length d.signs) h.0, h.1, h.2)) d.digits kept.digits)
    (elim (d.digit == 0) as (λ b. (d.digit == 0) ≡ b → All (IsDotDigit (length d.signs + 1)) (if b then [] else (length d.signs, d.digit) ∷ [])) [
      | true ↦ λ none. All-nil (IsDotDigit (length d.signs + 1))
      | false ↦ λ some. All-cons (IsDotDigit (length d.signs + 1)) (length d.signs, d.digit) [] (nearer (length d.signs), not_zero d.digit some, kept.digit) (All-nil (IsDotDigit (length d.signs + 1)))
    ] refl)
  where
    farther : (a b : ℕ) → a < b → a < b + 1
    farther a b less = omega arith

    nearer : (a : ℕ) → a < a + 1
    nearer a = omega arith

    not_zero : (a : ℕ) → (a == 0) ≡ false → 1 ≤ a
    not_zero a some = let other : ¬ (a ≡ 0) = eqb-false a 0 some in omega arith

pub keeps_sign : (n : ℕ) (d : Draft) (sign : ℕ) → IsDraft n d → length d.signs < PATTERN_SIGNS_MAX → 1 ≤ sign → sign ≤ n → IsDraft n (draft_with_sign d sign)
keeps_sign n d sign kept room low high =
    let size : length (d.signs ++ sign ∷ []) ≡ length d.signs + 1 = length_push d.signs sign in
    record {
      few = omega arith;
      signs = All-push (λ s. (1 ≤ s) × (s ≤ n)) d.signs sign kept.signs (low, high);
      digits = subst (λ m. All (IsDotDigit m) (all_digits d)) (sym size) (keeps_digits n d kept);
      digit = omega arith;
    }
