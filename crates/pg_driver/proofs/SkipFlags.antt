-- The flags tell which passes can be skipped.
use Rattle.std.proofs.Common.{◌≡◌, ℕ, zero, suc, ◌+◌, ◌≤◌, ◌==◌, Bool, true, false, ◌&&◌, ◌||◌, List, [], ◌∷◌, ◌++◌, get_or, replicate, refl, sym, ap, ◌∙◌, arith}
use Rattle.std.proofs.lemmas.Bool.Decides.{nat_tests}
use Rattle.pg_types.specs.declared.parameters.LevelParams.{LevelParams}
use Rattle.pg_dict.specs.Word.{Word}
use Rattle.pg_translate.specs.Alphabets.{Alphabet}
use Rattle.pg_driver.specs.Inside.records.AccountLines.{is_skippable, left_none}
use Rattle.pg_driver.specs.Inside.level.Levels.{SkipFlags, TellSkippable, is_set, no_flags}
use Rattle.pg_driver.specs.Traces.{Knowledge, PassTrace, pass_trace}
use Rattle.pg_driver.proofs.TraceSteps.{skippable_push}

unset_at : (n i : ℕ) → get_or (replicate n false) i false ≡ false
unset_at zero i = refl
unset_at (suc n) zero = refl
unset_at (suc n) (suc i) = unset_at n i

pub none_set : (flags : List Bool) (dot : ℕ) → flags ≡ no_flags → is_set flags dot ≡ false
none_set flags dot is = ap (λ (fs : List Bool). is_set fs dot) is ∙ unset_at 17 dot

-- where a level begins
pub tells_none : (number len : ℕ) (flags : SkipFlags) → flags.here ≡ no_flags → flags.longer ≡ no_flags → TellSkippable number len flags []
tells_none number len flags here longer = record {
  here = λ dot. sym (none_set flags.here dot here);
  longer = λ dot. sym (none_set flags.longer dot longer);
  beyond = λ n dot far. refl;
}

not_here : (n : ℕ) → (n + 1 == n) ≡ false
not_here n = grind (arith, nat_tests)

is_itself : (n : ℕ) → (n == n) ≡ true
is_itself n = grind (arith, nat_tests)

not_beyond : (n k : ℕ) → n + 2 ≤ k → (n + 1 == k) ≡ false
not_beyond n k far = grind (arith, nat_tests)

dropped : (b t r s : Bool) → t ≡ false → ((b && (t && r)) || s) ≡ s
dropped true t r s off = ap (λ x. (x && r) || s) off
dropped false t r s off = refl

kept : (b t r s : Bool) → t ≡ true → ((b && (t && r)) || s) ≡ ((b && r) || s)
kept b t r s on = ap (λ x. (b && (x && r)) || s) on

-- what the flags tell after a pass
abbrev pub Follows : ℕ → Bool → SkipFlags → SkipFlags → Type 0
Follows dot b old new = (d : ℕ) → is_set new.longer d ≡ (b && (dot == d || dot + 1 == d) || is_set old.longer d)

-- after a pass of the length
pub tells_more : (number len dot : ℕ) (T : Alphabet) (W : List Word) (params : LevelParams) (known : Knowledge) (old new : SkipFlags) (ps : List PassTrace) → TellSkippable number len old ps → new.here ≡ old.here
    → Follows dot (left_none (pass_trace T W params known (record { level = number; len = len; dot = dot }))) old new
    → TellSkippable number len new (ps ++ pass_trace T W params known (record { level = number; len = len; dot = dot }) ∷ [])
tells_more number len dot T W params known old new ps tells here longer =
    let q : PassTrace = pass_trace T W params known (record { level = number; len = len; dot = dot }) in
    let b : Bool = left_none q in
    record {
      here = λ d.
          skippable_push ps q (record { level = number; len = len; dot = d })
          ∙ dropped b (len + 1 == len) (dot == d || dot + 1 == d) (is_skippable ps (record { level = number; len = len; dot = d })) (not_here len)
          ∙ tells.here d
          ∙ ap (λ (fs : List Bool). is_set fs d) (sym here);
      longer = λ d.
          skippable_push ps q (record { level = number; len = len + 1; dot = d })
          ∙ kept b (len + 1 == len + 1) (dot == d || dot + 1 == d) (is_skippable ps (record { level = number; len = len + 1; dot = d })) (is_itself (len + 1))
          ∙ ap (λ s. b && (dot == d || dot + 1 == d) || s) (tells.longer d)
          ∙ sym (longer d);
      beyond = λ n d far.
          skippable_push ps q (record { level = number; len = n; dot = d })
          ∙ dropped b (len + 1 == n) (dot == d || dot + 1 == d) (is_skippable ps (record { level = number; len = n; dot = d })) (not_beyond len n far)
          ∙ tells.beyond n d far;
    }

-- at the next length
pub tells_next : (number len : ℕ) (old new : SkipFlags) (ps : List PassTrace) → TellSkippable number len old ps → new.here ≡ old.longer → new.longer ≡ no_flags → TellSkippable number (len + 1) new ps
tells_next number len old new ps tells here longer = record {
  here = λ dot. tells.longer dot ∙ ap (λ (fs : List Bool). is_set fs dot) (sym here);
  longer = λ dot. tells.beyond (len + 1 + 1) dot (omega arith) ∙ sym (none_set new.longer dot longer);
  beyond = λ n dot far. tells.beyond n dot (omega arith);
}
