-- What becomes of a candidate by its sums is what the choice says.
use Rattle.std.proofs.Common.{◌≡◌, ℕ, ◌+◌, ◌*◌, nat_lt, nat_le, Bool, true, false, cond, refl, arith}
use Rattle.std.proofs.lemmas.Bool.Decides.{nat_tests}
use Rattle.pg_types.specs.declared.parameters.LevelParams.{LevelParams}
use Rattle.pg_select.specs.declared.choice.Choice.TheVariants.{Hopeless, Chosen, Left}
use Rattle.pg_select.specs.CountedPositions.{Candidate}
use Rattle.pg_driver.specs.Inside.choices.Fates.{choice_of, chooses, gives_up}
use Rattle.pg_driver.specs.Traces.{is_chosen, is_hopeless}

-- what is hopeless is not chosen
apart : (good bad least : ℕ) → nat_lt good least ≡ true → nat_le (least + bad) good ≡ false
apart good bad least less = grind (arith, nat_tests)

pub hopeless_is : (params : LevelParams) (c : Candidate) → is_hopeless params c ≡ gives_up (choice_of params c)
hopeless_is params c = by (nat_lt (c.good * params.good_wt) params.thresh) (nat_le (params.thresh + c.bad * params.bad_wt) (c.good * params.good_wt))
  where
    by : (h x : Bool) → h ≡ gives_up (cond h Hopeless (cond x Chosen Left))
    by true x = refl
    by false true = refl
    by false false = refl

pub chosen_is : (params : LevelParams) (c : Candidate) → is_chosen params c ≡ chooses (choice_of params c)
chosen_is params c =
    by (nat_lt (c.good * params.good_wt) params.thresh) (nat_le (params.thresh + c.bad * params.bad_wt) (c.good * params.good_wt))
    (apart (c.good * params.good_wt) (c.bad * params.bad_wt) params.thresh)
  where
    by : (h x : Bool) → (h ≡ true → x ≡ false) → x ≡ chooses (cond h Hopeless (cond x Chosen Left))
    by true x other = other refl
    by false true other = refl
    by false false other = refl

-- a candidate is chosen, or hopeless, or neither
pub by_fate : (params : LevelParams) (c : Candidate) (P : Bool → Bool → Type 0) → P true false → P false true → P false false → P (is_chosen params c) (is_hopeless params c)
by_fate params c P chosen hopeless left =
    by (nat_lt (c.good * params.good_wt) params.thresh) (nat_le (params.thresh + c.bad * params.bad_wt) (c.good * params.good_wt))
    (apart (c.good * params.good_wt) (c.bad * params.bad_wt) params.thresh)
  where
    by : (h x : Bool) → (h ≡ true → x ≡ false) → P x h
    by true true other = let wrong : true ≡ false = other refl in cc
    by true false other = hopeless
    by false true other = chosen
    by false false other = left
