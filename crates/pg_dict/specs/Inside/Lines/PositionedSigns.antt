-- The signs of words, each with the position before it.
use Rattle.std.specs.Prelude.{ℕ, Bool, List, [], ◌++◌, map}
use Rattle.pg_types.specs.declared.marks.Mark.{Mark}
use Rattle.pg_dict.specs.Inside.MarkedPositions.{sets_hyphen, keeps_care}

-- a sign, with the hyphen, weight and care of the position before it
pub record PositionedSign : Type 0 where
  pub sign : ℕ
  pub hyphen : Bool
  pub weight : ℕ
  pub care : Bool

-- a sign behind a position with this last mark and this weight
abbrev pub positioned_sign : Mark → ℕ → ℕ → PositionedSign
positioned_sign mark weight sign =
    record { sign = sign; hyphen = sets_hyphen mark; weight = weight; care = keeps_care mark }

-- signs with their positions, as four lists of one length
pub record Columns : Type 0 where
  pub signs : List ℕ
  pub hyphens : List Bool
  pub weights : List ℕ
  pub cares : List Bool

-- columns without any sign
abbrev pub no_columns : Columns
no_columns = record { signs = []; hyphens = []; weights = []; cares = [] }

-- columns, and behind them these signs
abbrev pub with_signs : Columns → List PositionedSign → Columns
with_signs c positioned = record {
  signs = c.signs ++ map (λ (s : PositionedSign). s.sign) positioned;
  hyphens = c.hyphens ++ map (λ (s : PositionedSign). s.hyphen) positioned;
  weights = c.weights ++ map (λ (s : PositionedSign). s.weight) positioned;
  cares = c.cares ++ map (λ (s : PositionedSign). s.care) positioned;
}
