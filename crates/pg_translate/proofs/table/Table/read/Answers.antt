use Rattle.std.proofs.Common.{◌≡◌, List, [], ℕ, map, Ok, subst}
use Rattle.std.proofs.lemmas.Result.{err_from_is_err_and}
use Rattle.pg_types.specs.Lines.{lines}
use Rattle.pg_types.specs.Inside.reading.Parts.{first_refusal}
use Rattle.pg_types.specs.Inside.reading.Answers.{Fails}
use Rattle.pg_translate.specs.Inside.spellings.Fronts.{pairs}
use Rattle.pg_translate.specs.Inside.tables.Checks.{spelling_with_sign, spelling_checks_from, spellings_from}
use Rattle.pg_translate.proofs.TableReading.{read_bad_head, read_bad_letters, read_whole, read_sound}
use Rattle.pg_translate.proofs.table.Table.read.Goals as goal

pub returns-in_err-head : goal.returns-in_err-head
returns-in_err-head c =
    let p = err_from_is_err_and c.from_residual-in_err-head.result c.from_residual-in_err-head.ensures.1 in
    rw (p.1, p.2) (read_bad_head c.args.bytes.now c.in-Some.first.now (lines c.in-Some.rest.now) c.in_err-head.field-0.0 c.in-Some.ensures.lines
    c.if-bytes-gt-FILE_MAX.false c.in_err-head.ensures.answer)

pub returns-in_err-index : goal.returns-in_err-index
returns-in_err-index c =
    let p = err_from_is_err_and c.from_residual-in_err-index.result c.from_residual-in_err-index.ensures.1 in
    rw (p.1, p.2) (read_bad_letters c.args.bytes.now c.in-Some.first.now
    (lines c.in-Some.rest.now) c.in_ok-head.head c.in_err-index.field-0.0 c.in-Some.ensures.lines c.if-bytes-gt-FILE_MAX.false c.in_ok-head.ensures.answer
    (subst (λ (marks : List ℕ). Fails c.in_err-index.field-0.0 (first_refusal (spelling_checks_from marks [] (spellings_from 2 1 (lines c.in-Some.rest.now)))
    (map spelling_with_sign (spellings_from 2 1 (lines c.in-Some.rest.now))))) c.marks.ensures c.in_err-index.ensures.answer))

pub invariant_of-result : goal.invariant_of-result
invariant_of-result c =
    read_sound (lines c.in-Some.rest.now) c.in_ok-head.head c.in_ok-index.index c.in_ok-head.ensures.sound c.in_ok-index.ensures.sound
    (subst (λ (marks : List ℕ). first_refusal (spelling_checks_from marks [] (spellings_from 2 1 (lines c.in-Some.rest.now)))
    (map spelling_with_sign (spellings_from 2 1 (lines c.in-Some.rest.now))) ≡ Ok (pairs c.in_ok-index.index)) c.marks.ensures c.in_ok-index.ensures.answer)

pub returns : goal.returns
returns c =
    read_whole c.args.bytes.now c.in-Some.first.now (lines c.in-Some.rest.now) c.in_ok-head.head c.in_ok-index.index c.in-Some.ensures.lines c.if-bytes-gt-FILE_MAX.false c.in_ok-head.ensures.answer
    (subst (λ (marks : List ℕ). first_refusal (spelling_checks_from marks [] (spellings_from 2 1 (lines c.in-Some.rest.now)))
    (map spelling_with_sign (spellings_from 2 1 (lines c.in-Some.rest.now))) ≡ Ok (pairs c.in_ok-index.index)) c.marks.ensures c.in_ok-index.ensures.answer)
