-- What the arguments of a call ask for.
use Rattle.std.specs.Prelude.{ℕ, if◌then◌else◌, List, [], ◌∷◌, Option, None, codes}
use Rattle.std.specs.Option.{option_map}
use Rattle.std.specs.Str.{bytes_eq}
use Rattle.pg_words.specs.Inside.forms.Generate.{FileNames, generate_in, audit_in}
use Rattle.pg_words.specs.Inside.forms.Sample.{sample_in}
use Rattle.pg_words.specs.Inside.forms.Pack.{PackRequest, pack_in}
use Rattle.pg_words.specs.Inside.forms.Totals.{TotalsRequest, totals_in}
use Rattle.pg_words.specs.Inside.forms.Prune.{PruneRequest, prune_in}
use Rattle.pg_words.specs.Inside.forms.Sweep.{SweepRequest, sweep_in}

-- what arguments ask for: names of files, and for `sample` its seed and how many words it makes
pub data Request : Type 0 where
  ToGenerate : FileNames → Request
  ToAudit : FileNames → Request
  ToSample : (seed count : ℕ) → Request
  ToPack : PackRequest → Request
  ToTotals : TotalsRequest → Request
  ToPrune : PruneRequest → Request
  ToSweep : SweepRequest → Request

-- what arguments ask for
abbrev pub request_of : List (List ℕ) → Option Request
request_of [] = None
request_of (name ∷ rest) =
    if bytes_eq name (codes "generate") then option_map ToGenerate (generate_in rest)
    else (if bytes_eq name (codes "audit") then option_map ToAudit (audit_in rest)
    else (if bytes_eq name (codes "sample") then option_map (λ n. ToSample n.0 n.1) (sample_in rest)
    else (if bytes_eq name (codes "pack") then option_map ToPack (pack_in rest)
    else (if bytes_eq name (codes "totals") then option_map ToTotals (totals_in rest)
    else (if bytes_eq name (codes "prune") then option_map ToPrune (prune_in rest)
    else (if bytes_eq name (codes "sweep") then option_map ToSweep (sweep_in rest) else None))))))
