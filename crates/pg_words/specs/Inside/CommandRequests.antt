-- What a command asks for, and the limits of its numbers.
use Rattle.std.specs.Prelude.{◌≡◌, ℕ, ◌≤◌, List, length, Option, None}
use Rattle.std.specs.Option.{option_map}
use denote.Ref.{Bor}
use Rattle.pg_words.specs.Inside.forms.Generate.{FileNames}
use Rattle.pg_words.specs.Inside.forms.Pack.{PackRequest}
use Rattle.pg_words.specs.Inside.forms.Totals.{TotalsRequest}
use Rattle.pg_words.specs.Inside.forms.Prune.{PruneRequest}
use Rattle.pg_words.specs.Inside.forms.Sweep.{SweepRequest}
use Rattle.pg_words.specs.Inside.Requests.{Request, ToGenerate, ToAudit, ToSample, ToPack, ToTotals, ToPrune, ToSweep}
use Rattle.pg_words.specs.declared.commands.Names.{Names}
use Rattle.pg_words.specs.declared.commands.PackNames.{PackNames}
use Rattle.pg_words.specs.declared.commands.TotalsNames.{TotalsNames}
use Rattle.pg_words.specs.declared.commands.PruneNames.{PruneNames}
use Rattle.pg_words.specs.declared.commands.SweepWords.{SweepWords}
use Rattle.pg_words.specs.declared.commands.Command.{Command}
use Rattle.pg_words.specs.declared.commands.Command.TheVariants.{Generate, Audit, Sample, Pack, Totals, Prune, Sweep}
use Rattle.pg_types.specs.declared.limits.TheConstants.{FOLDS_MAX, FOLDS_MIN, PRICE_MAX, SETS_MAX}
use Rattle.pg_words.specs.declared.limits.TheConstants.{SEED_MAX, COUNT_MAX}
use Rattle.pg_words.specs.Inside.Names.{arguments_of}

-- a name that may be asked for as its bytes
abbrev pub name_now : Option (Bor (List ℕ)) → Option (List ℕ)
name_now name = option_map (λ n. n.now) name

-- the names as their bytes
abbrev pub texts_of : Names → FileNames
texts_of n = record {
  dict = n.dict.now;
  patterns = n.patterns.now;
  output = n.output.now;
  translate = n.translate.now;
  params = n.params.now;
  report = n.report.now;
  pattmp = name_now n.pattmp;
  cells = name_now n.cells;
}

-- what `sweep` is asked for, each name as its bytes
abbrev pub sweep_of : SweepWords → SweepRequest
sweep_of w = record {
  dict = w.dict.now;
  patterns = w.patterns.now;
  output = w.output.now;
  translate = w.translate.now;
  folds = w.folds;
  bad = w.bad;
  missed = w.missed;
  params = arguments_of w.params.now;
}

-- the names of `pack` as their bytes
abbrev pub pack_of : PackNames → PackRequest
pack_of n =
    record { patterns = n.patterns.now; translate = n.translate.now; table = n.table.now }

-- the names of `totals` as their bytes
abbrev pub totals_request_of : TotalsNames → TotalsRequest
totals_request_of n = record { dict = n.dict.now; translate = n.translate.now; table = n.table.now }

-- the names of `prune` as their bytes
abbrev pub prune_of : PruneNames → PruneRequest
prune_of n = record {
  dict = n.dict.now;
  patterns = n.patterns.now;
  output = n.output.now;
  translate = n.translate.now;
  report = n.report.now;
}

-- the command as what it asks for
abbrev pub asked_by : Command → Request
asked_by (Generate names) = ToGenerate (texts_of names)
asked_by (Audit names) = ToAudit (texts_of names)
asked_by (Sample seed count) = ToSample seed count
asked_by (Pack p t table) =
    ToPack (pack_of (record { patterns = p; translate = t; table = table }))
asked_by (Totals d t table) =
    ToTotals (totals_request_of (record { dict = d; translate = t; table = table }))
asked_by (Prune d p o t r) = ToPrune (prune_of
    (record { dict = d; patterns = p; output = o; translate = t; report = r }))
asked_by (Sweep words) = ToSweep (sweep_of words)

-- the numbers of `sweep` are within their limits
pub record KeepsSweepLimits (w : SweepWords) : Type 0 where
  pub folds : (FOLDS_MIN ≤ w.folds) × (w.folds ≤ FOLDS_MAX)
  pub bad : (1 ≤ w.bad) × (w.bad ≤ PRICE_MAX)
  pub missed : (1 ≤ w.missed) × (w.missed ≤ PRICE_MAX)
  pub params : (1 ≤ length w.params.now) × (length w.params.now ≤ SETS_MAX)

-- the numbers of `sample` and `sweep` are within their limits, and `audit` has no cells file
abbrev pub KeepsLimits : Command → Type 0
KeepsLimits (Audit names) = names.cells ≡ None
KeepsLimits (Sample seed count) = (seed ≤ SEED_MAX) × (count ≤ COUNT_MAX)
KeepsLimits (Sweep words) = KeepsSweepLimits words
KeepsLimits command = Unit {0}
