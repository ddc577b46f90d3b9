use Rattle.std.proofs.Common.{◌≡◌, ◌∙◌, ap, subst, sym, arith}
use Rattle.pg_dict.specs.Inside.SoundWords.{SignsAtMost}
use Rattle.pg_driver.specs.Inside.records.RunAccounts.{TellsCells}
use Rattle.pg_patterns.specs.Inside.PatternMaps.{SignsUpTo}
use Rattle.pg_select.specs.Inside.engine.Meanings.{Meaning}
use Rattle.pg_top.specs.Inside.selection.SelectionSigns.{greatest_sign_of}
use Rattle.pg_top.proofs.Selections.{patterns_selected, account_selected, begun_selected, cells_selected}
use Rattle.pg_top.proofs.selection.select.Goals as goal

pub generate-requires : goal.generate-requires
generate-requires g c =
    let m : Meaning = g.E.Engine.meaning c.args.engine.now in
    let none : m.begun ≡ 0 = ap (λ (m : Meaning). m.begun) c.requires.new in
    let greatest : m.signs ≡ greatest_sign_of c.args.inputs.now = ap (λ (m : Meaning). m.signs) c.requires.new in
    record {
      hopeless = ap (λ (m : Meaning). m.hopeless) c.requires.new;
      tidy = ap (λ (m : Meaning). m.tidy) c.requires.new;
      begun = omega arith;
      signs = subst (λ n. SignsAtMost n c.args.inputs.now.dictionary) (sym greatest) c.requires.signs.words;
    }

pub returns : goal.returns
returns g c =
    let i = c.args.inputs.now in
    let m : Meaning = g.E.Engine.meaning c.args.engine.now in
    let greatest = c.generate.ensures.signs ∙ ap (λ (m : Meaning). m.signs) c.requires.new in
    record {
      told = record {
        patterns = c.in_ok-run.ensures.patterns ∙ patterns_selected i m c.requires.new;
        signs = subst (λ n. SignsUpTo n c.in_ok-run.run'.patterns) (ap (λ (m : Meaning). m.signs) c.requires.new)
            (c.in_ok-run.ensures.pattern_signs (subst (λ (m : Meaning). SignsUpTo m.signs m.patterns) (sym c.requires.new) c.requires.signs.start));
        account = c.in_ok-run.ensures.account ∙ account_selected i m c.requires.new;
        begun = c.in_ok-run.ensures.begun ∙ begun_selected i m c.requires.new;
      };
      cells = subst (λ told. TellsCells told c.in_ok-run.run') (cells_selected i m c.requires.new) c.in_ok-run.ensures.cells;
      engine = record { signs = greatest; patterns = c.in_ok-run.ensures.kept ∙ c.in_ok-run.ensures.patterns ∙ patterns_selected i m c.requires.new };
    }
