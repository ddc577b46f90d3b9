-- What an engine asks of a window that it is to count, and what counting a window, choosing it and
-- giving it up come to.
use Rattle.std.specs.Prelude.{◌≡◌, ℕ, ◌≤◌, Bool, true, List, length, Result, OnOk, OnErr, IsOk, ◌⊎◌}
use Rattle.pg_types.specs.declared.limits.TheConstants.{WEIGHT_MAX}
use Rattle.pg_types.specs.Inside.Signs.{SignsWithin}
use Rattle.pg_types.specs.Inside.counting.Counts.{AreSmall, sums_of, with_weight, is_counted}
use Rattle.pg_select.specs.Inside.engine.Meanings.{Meaning, KeepsButFamilies, after_count}

-- a window can be counted with this weight: it is one of the pass, and its sums stay small
pub record CanCount (m : Meaning) (u : List ℕ) (good : Bool) (weight : ℕ) : Type 0 where
  pub len : length u ≡ m.pass.len
  pub signs : SignsWithin m.signs u
  pub light : weight ≤ WEIGHT_MAX
  pub small : AreSmall (with_weight (sums_of m.counts u) good weight)

-- a window can be entered: it is counted, or it is one of the pass by its length and its signs
abbrev pub CanEnter : Meaning → List ℕ → Type 0
CanEnter m u = (is_counted m.counts u ≡ true)
    ⊎ ((length u ≡ m.pass.len) × SignsWithin m.signs u)

-- a window was counted. Where it is new, memory can be short: then all is as before
pub record CountsWindow {A E : Type 0} (result : Result A E)
    (old new : Meaning) (u : List ℕ) (good : Bool) (weight : ℕ) : Type 0 where
  pub ok : OnOk result (new ≡ after_count old u good weight)
  pub there : is_counted old.counts u ≡ true → IsOk result
  pub err : OnErr result (new ≡ old)

-- a window was entered, and all is as `after` says; or memory was short, and only families changed
pub record Enters {A E : Type 0} (result : Result A E)
    (after : Meaning → List ℕ → Bool → Meaning) (old new : Meaning) (u : List ℕ) : Type 0 where
  pub ok : OnOk result (new ≡ after old u new.tidy)
  pub err : OnErr result (KeepsButFamilies u old new)
