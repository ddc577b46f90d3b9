use Rattle.std.proofs.Common.{◌≡◌, ◌≤◌, ℕ, List, Vec, length, Result, Ok, Err, IfOk, ◌∙◌, ap, subst, sym}
use Rattle.std.specs.declared.alloc.Global.{Global}
use Rattle.std.proofs.lemmas.Result.{IfOk-weaker}
use Rattle.pg_types.specs.declared.limits.TheConstants.{FILE_MAX}
use Rattle.pg_patterns.specs.Inside.PatternMaps.{SignsUpTo}
use Rattle.pg_patterns.specs.Starts.{start}
use Rattle.pg_patterns.specs.Texts.{pattern_text}
use Rattle.pg_patterns.specs.Values.{Patterns}
use Rattle.pg_translate.specs.Alphabets.{Alphabet}
use Rattle.pg_top.specs.ReadingBack.{ReadsBackPatterns}
use Rattle.pg_top.specs.Selection.{selected_patterns}
use Rattle.pg_top.specs.Inside.selection.SelectionSigns.{greatest_sign_of}
use Rattle.pg_top.proofs.Selections.{text_selected}
use Rattle.pg_top.proofs.selection.pattern_file.Goals as goal

pub text-requires : goal.text-requires
text-requires c = subst (SignsUpTo (greatest_sign_of c.args.inputs.now)) (sym c.patterns.ensures) c.requires.signs

-- patterns that are read back are so under another name
back_as : {E : Type 0} (made : Result (Vec ℕ Global) E) (t : Alphabet) (P Q : Patterns) → P ≡ Q → IfOk made (λ text. text.items ≡ pattern_text t P)
    → IfOk made (λ text. length text.items ≤ FILE_MAX → start t text.items ≡ Ok P) → IfOk made (λ _. ReadsBackPatterns t Q)
back_as (Err e) t P Q same is back = tt
back_as (Ok text) t P Q same is back = λ few.
    let all : text.items ≡ pattern_text t Q = is ∙ ap (pattern_text t) same in
    ap (start t) (sym all) ∙ back (subst (λ (b : List ℕ). length b ≤ FILE_MAX) (sym all) few) ∙ ap Ok same

pub returns : goal.returns
returns c =
    let same = c.patterns.ensures ∙ c.requires.patterns in
    record {
      text = IfOk-weaker c.text.result _ _ (λ text is. is ∙ text_selected c.args.inputs.now c.patterns.result.now same) c.text.ensures.text;
      reads_back = back_as c.text.result c.args.inputs.now.table c.patterns.result.now (selected_patterns c.args.inputs.now) same c.text.ensures.text c.text.ensures.read_back;
    }
