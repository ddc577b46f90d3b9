use Rattle.std.proofs.Common.{◌≡◌, ◌∙◌, List, subst}
use Rattle.pg_dict.specs.DictionaryWords.{words}
use Rattle.pg_outside.specs.Content.{FileMap, Told}
use Rattle.pg_patterns.specs.Starts.{start}
use Rattle.pg_plans.proofs.Told.{told_on}
use Rattle.pg_steps.specs.declared.inputs.Input.TheVariants.{Translate, Patterns, Dictionary}
use Rattle.pg_translate.specs.Tables.{table}
use Rattle.pg_top.specs.Promises.{PrunePromise}
use Rattle.pg_top.specs.Theorems.{Means}
use Rattle.pg_top.proofs.theorems.MeantReads.{alphabet_code, patterns_code, words_code, meant}
use Rattle.pg_plans.specs.Plans.{Plan, Follows}
use Rattle.pg_dict.specs.Word.{Word}
use Rattle.pg_prune.specs.Prunes.{pruning_of}
use Rattle.pg_steps.specs.Inside.Texts.{ending_of}
use Rattle.pg_steps.proofs.Stopping.{stops, stops_short}
use Rattle.pg_top.specs.Inside.Plans.{end_of_prune}
use Rattle.pg_top.proofs.prune.prune_files.Goals as goal

pub returns-in_err-table-clause-begins : goal.returns-in_err-table-clause-begins
returns-in_err-table-clause-begins g c status sink new h =
    c.in_err-table.ensures _ status sink new (stops c.from_residual.result ending_of _ status _ new c.from_residual.ensures.1 h)

pub returns-in_err-patterns-clause-begins : goal.returns-in_err-patterns-clause-begins
returns-in_err-patterns-clause-begins g c status sink new h =
    c.in_ok-table.ensures _ status sink new (c.in_err-patterns.ensures.read _ status sink new
    (stops c.from_residual-in_err-patterns.result ending_of _ status _ new c.from_residual-in_err-patterns.ensures.1 h))

pub returns-in_err-dictionary-clause-begins : goal.returns-in_err-dictionary-clause-begins
returns-in_err-dictionary-clause-begins g c status sink new h =
    c.in_ok-table.ensures _ status sink new (c.in_ok-patterns.ensures.read _ status sink new (c.in_err-dictionary.ensures.read _ status sink new
    (stops c.from_residual-in_err-dictionary.result ending_of _ status _ new c.from_residual-in_err-dictionary.ensures.1 h)))

pub returns-in_err-outputs-clause-begins : goal.returns-in_err-outputs-clause-begins
returns-in_err-outputs-clause-begins g c status sink new h =
    let n = c.args.names.now in
    let T = c.in_ok-table.table in
    let P = c.in_ok-patterns.patterns in
    let end : List Word → Plan = λ W. end_of_prune n.output.now n.report.now T (pruning_of T W P) in
    c.in_ok-table.ensures _ status sink new (c.in_ok-patterns.ensures.read _ status sink new (c.in_ok-dictionary.ensures.read end status sink new
    (stops_short c.from_residual-in_err-outputs.result ending_of (end c.in_ok-dictionary.dictionary) status _ new c.from_residual-in_err-outputs.ensures.1 h)))

pub returns-clause-begins : goal.returns-clause-begins
returns-clause-begins g c status sink new h =
    let n = c.args.names.now in
    let T = c.in_ok-table.table in
    let P = c.in_ok-patterns.patterns in
    let end : List Word → Plan = λ W. end_of_prune n.output.now n.report.now T (pruning_of T W P) in
    c.in_ok-table.ensures _ status sink new (c.in_ok-patterns.ensures.read _ status sink new (c.in_ok-dictionary.ensures.read end status sink new
    (subst (λ (p : Plan). Follows p status (g.F.Files.shown c.read_dictionary.new.files, sink) new) c.in_ok-outputs.ensures.made h)))

pub returns-clause-promised : goal.returns-clause-promised
returns-clause-promised g c =
    let s0 = g.F.Files.shown c.args.files.now in
    let s1 = g.F.Files.shown c.read_table.new.files in
    let s2 = g.F.Files.shown c.read_patterns.new.files in
    let s3 = g.F.Files.shown c.read_dictionary.new.files in
    let n = c.args.names.now in
    let T = c.in_ok-table.table in
    let P = c.in_ok-patterns.patterns in
    let W = c.in_ok-dictionary.dictionary in
    let one = meant alphabet_code Translate n.translate.now table T s0 s1 c.in_ok-table.ensures in
    let two = meant patterns_code Patterns n.patterns.now (start T) P s1 s2 c.in_ok-patterns.ensures.read in
    let three = meant words_code Dictionary n.dict.now (words T) W s2 s3 c.in_ok-dictionary.ensures.read in
    let both : Told s0.held s2.held (λ (x z : FileMap). (z ≡ x) × Means table x n.translate.now T × Means (start T) x n.patterns.now P) = told_on s0.held s1.held s2.held _ _ _
    (λ x y z first second. (second.0 ∙ first.0, first.1, subst (λ (files : FileMap). Means (start T) files n.patterns.now P) first.0 second.1)) one two in
    told_on s0.held s2.held s3.held _ _ (λ (before after : FileMap). PrunePromise before n.dict.now n.patterns.now n.translate.now) (λ x y z first second. record {
      alphabet = T;
      patterns = P;
      dictionary = W;
      table = first.1;
      entries = first.2;
      words = subst (λ (files : FileMap). Means (words T) files n.dict.now W) first.0 second.1;
      reads_back = c.in_ok-outputs.ensures.reads_back;
    }) both three
