use Rattle.std.proofs.Common.{◌≡◌, ℕ, List, [], ◌∷◌, ◌∙◌, Option, None, Some, sym, ap}
use Rattle.std.specs.Option.{option_and_then, option_map}
use Rattle.pg_words.specs.declared.limits.TheConstants.{SEED_MAX, COUNT_MAX, SAMPLE_DIGITS}
use Rattle.pg_words.specs.Inside.CommandRequests.{asked_by}
use Rattle.pg_words.specs.NumbersWithin.{number_within}
use Rattle.pg_words.specs.Inside.Requests.{Request, ToSample}
use Rattle.pg_words.specs.Inside.forms.Sample.{sample_in}
use Rattle.pg_words.proofs.ArgumentsAt.{two_arguments}
use Rattle.pg_words.proofs.sample.sample.Goals as goal

-- `sample` with a seed and how many words it makes, if they are there
abbrev asked : Option (ℕ × ℕ) → Option Request
asked numbers = option_map (λ (n : ℕ × ℕ). ToSample n.0 n.1) numbers

-- what two arguments ask for, by their numbers
by_numbers : (a b : List ℕ) (seed count : Option ℕ) → seed ≡ number_within SAMPLE_DIGITS 0 SEED_MAX a → count ≡ number_within SAMPLE_DIGITS 0 COUNT_MAX b
    → asked (option_and_then (λ s. option_map (λ c. (s, c)) count) seed) ≡ asked (sample_in (a ∷ b ∷ []))
by_numbers a b seed count one two = λ i. asked (option_and_then (λ s. option_map (λ c. (s, c)) (two i)) (one i))

pub returns-in_err-count : goal.returns-in_err-count
returns-in_err-count c =
    let a = c.as_str.result.now in
    let b = c.as_str-2.result.now in
    let parts = two_arguments c.args.words.now a b c.in-len2.len_at_least c.in-len2.len_below (c.seed-item.result, c.seed-item.is, c.as_str.ensures.value)
    (c.count-item.result, c.count-item.is, c.as_str-2.ensures.value) in
    record {
      value = ap (option_map asked_by) c.from_residual-in_err-count.ensures ∙ by_numbers a b (Some c.in_ok-seed.seed) None c.in_ok-seed.ensures.value c.in_err-count.ensures.value
          ∙ ap (λ words. asked (sample_in words)) (sym parts);
      within = rw c.from_residual-in_err-count.ensures tt;
    }

pub returns : goal.returns
returns c =
    let a = c.as_str.result.now in
    let b = c.as_str-2.result.now in
    let parts = two_arguments c.args.words.now a b c.in-len2.len_at_least c.in-len2.len_below (c.seed-item.result, c.seed-item.is, c.as_str.ensures.value)
    (c.count-item.result, c.count-item.is, c.as_str-2.ensures.value) in
    record {
      value = by_numbers a b (Some c.in_ok-seed.seed) (Some c.in_ok-count.count) c.in_ok-seed.ensures.value c.in_ok-count.ensures.value ∙ ap (λ words. asked (sample_in words)) (sym parts);
      within = (c.in_ok-seed.ensures.within.1, c.in_ok-count.ensures.within.1);
    }
