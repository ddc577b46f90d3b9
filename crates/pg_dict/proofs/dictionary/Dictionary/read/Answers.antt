use Rattle.std.proofs.Common.{◌≡◌, ◌+◌, List, Result, Ok, length, arith, sym, ◌∙◌, ap, subst}
use Rattle.std.specs.List.{list_all}
use Rattle.std.proofs.lemmas.Result.{err_from_is_err_and}
use Rattle.pg_types.specs.declared.refusals.Refusal.{Refusal}
use Rattle.pg_types.specs.Inside.reading.Answers.{Fails}
use Rattle.pg_types.specs.Lines.{lines}
use Rattle.pg_translate.specs.Alphabets.{letters_of}
use Rattle.pg_dict.specs.Inside.Lines.PositionedSigns.{Columns}
use Rattle.pg_dict.specs.Word.{Word}
use Rattle.pg_dict.specs.Inside.SoundWords.{SignsAtMost}
use Rattle.pg_dict.specs.Inside.Store.{stored_words, is_sign_up_to}
use Rattle.pg_dict.proofs.LineReading.Sizes.{size_of, size_of-cons, size_of-lines}
use Rattle.pg_dict.proofs.LineReading.Lines.{next_read, next_refused, words_short, all_read, starts, starts_sound, starts_fit}
use Rattle.pg_dict.proofs.WordStore.Told.{few_words, signs_at_most}
use Rattle.pg_dict.proofs.dictionary.Dictionary.read.Goals as goal

pub lines-init : goal.lines-init
lines-init c =
    let signs : length c.new-store.result.signs.items ≡ 0 = ap (λ (c : Columns). length c.signs) c.new-store.ensures.columns in
    record {
      whole = starts c.new-store.result _ c.new-store.ensures.words;
      sound = starts_sound c.new-store.result c.new-store.ensures.columns c.new-store.ensures.words;
      fit = starts_fit _ c.new-store.result c.new-store.ensures.columns;
      small = omega arith;
      number = omega arith;
      left = omega arith;
      few = omega (arith, size_of-lines c.args.bytes.now);
    }

pub read_line-requires-clause-short : goal.read_line-requires-clause-short
read_line-requires-clause-short c = omega (arith, c.in-Some.ensures.within, c.lines.invariant.left)

pub read_line-requires-clause-few : goal.read_line-requires-clause-few
read_line-requires-clause-few c = omega (arith, few_words c.lines.store c.lines.invariant.sound, c.lines.invariant.few)

pub returns-in_err-weight-clause-words : goal.returns-in_err-weight-clause-words
returns-in_err-weight-clause-words c =
    let p = err_from_is_err_and c.from_residual.result c.from_residual.ensures.1 in
    let F : Result (List Word) Refusal → Type 0 = λ reading. Fails c.in_err-weight.field-0.0 reading in
    rw (p.1, p.2) (subst F (sym (words_short c.args.table.now c.keeps_rules.ensures c.args.bytes.now (omega arith)))
    (next_refused _ c.args.table.now c.lines.number c.lines.weight c.in-Some.text.now (lines c.in-Some.after.now) (lines c.lines.rest.now)
    (stored_words c.lines.store) _ c.in-Some.ensures.lines c.lines.invariant.whole c.in_err-weight.ensures.line))

pub lines-preserved : goal.lines-preserved
lines-preserved c =
    let size : size_of (lines c.lines.rest.now) ≡ length c.in-Some.text.now + size_of (lines c.in-Some.after.now) = ap size_of c.in-Some.ensures.lines
    ∙ size_of-cons c.in-Some.text.now (lines c.in-Some.after.now) in
    record {
      whole = next_read c.args.table.now c.lines.number c.lines.weight c.in_ok-weight.weight c.in-Some.text.now (lines c.in-Some.after.now)
          (lines c.lines.rest.now) (stored_words c.lines.store) (stored_words c.read_line.new.store) c.in-Some.ensures.lines c.in_ok-weight.ensures.line ∙ c.lines.invariant.whole;
      sound = c.in_ok-weight.ensures.sound;
      fit = c.in_ok-weight.ensures.fit;
      small = c.in_ok-weight.ensures.small;
      number = omega (arith, c.in-Some.ensures.shorter, c.lines.invariant.number);
      left = omega (arith, c.in-Some.ensures.shorter, c.lines.invariant.left);
      few = omega (arith, c.in_ok-weight.ensures.counted, c.lines.invariant.few);
    }

pub returns-clause-signs : goal.returns-clause-signs
returns-clause-signs c =
    subst (SignsAtMost (letters_of c.args.table.now + 1)) (sym c.in_ok-dictionary.ensures)
    (signs_at_most (letters_of c.args.table.now + 1) (stored_words c.lines.store)
    (ap (list_all (is_sign_up_to (letters_of c.args.table.now + 1))) (sym c.lines.invariant.sound.signs_joined) ∙ c.lines.invariant.fit.signs))

pub returns-clause-words : goal.returns-clause-words
returns-clause-words c =
    words_short c.args.table.now c.keeps_rules.ensures c.args.bytes.now (omega arith)
    ∙ sym c.lines.invariant.whole
    ∙ all_read c.args.table.now c.lines.number c.lines.weight (lines c.lines.rest.now) (stored_words c.lines.store) (ap lines c.in_default.ensures.lines)
    ∙ ap Ok (sym c.in_ok-dictionary.ensures)
