use Rattle.std.proofs.Common.{◌+◌, refl, arith, rules}
use Rattle.pg_types.specs.declared.limits.TheConstants.{EDGE}
use Rattle.pg_translate.specs.Alphabets.{letters_of}
use Rattle.pg_dict.specs.Inside.Store.{columns_of}
use Rattle.pg_translate.specs.Tokens.{Digit, Marked, Weight}
use Rattle.pg_translate.proofs.ItemKinds.{no_edge}
use Rattle.pg_dict.proofs.WordStore.Good.{pushed_fit, pushed_length}
use Rattle.pg_dict.proofs.LineReading.Takes.{shorter_behind, takes_item, takes_letter}
use Rattle.pg_dict.proofs.entries.line.Line.take.Goals as goal

pub returns-in-Digit-clause-step : goal.returns-in-Digit-clause-step
returns-in-Digit-clause-step c = rw (c.with_number.ensures.mark, c.with_number.ensures.weight, c.from.ensures)
    (takes_item c.args.self.now.table.now c.args.self.now.weight c.args.self.now.number c.args.self.now.size c.args.at.position.mark c.args.at.position.mark
    c.args.at.position.weight c.in-Digit.number c.args.at.room c.args.at.room (columns_of c.args.store.now) (columns_of c.args.store.now)
    (Digit c.in-Digit.number) c.args.at.rest.now c.in-Digit.after.now c.in-Digit.ensures.item c.requires.within (λ _ _. refl))

pub returns-in-Weight-clause-step : goal.returns-in-Weight-clause-step
returns-in-Weight-clause-step c = rw (c.with_number-in-Weight.ensures.mark, c.with_number-in-Weight.ensures.weight)
    (takes_item c.args.self.now.table.now c.args.self.now.weight c.args.self.now.number c.args.self.now.size c.args.at.position.mark c.args.at.position.mark
    c.args.at.position.weight c.in-Weight.weight c.args.at.room c.args.at.room (columns_of c.args.store.now) (columns_of c.args.store.now)
    (Weight c.in-Weight.weight) c.args.at.rest.now c.in-Weight.after.now c.in-Weight.ensures.item c.requires.within (λ _ _. refl))

pub returns-in-Mark-clause-step : goal.returns-in-Mark-clause-step
returns-in-Mark-clause-step c = rw (c.with_mark.ensures.mark, c.with_mark.ensures.weight)
    (takes_item c.args.self.now.table.now c.args.self.now.weight c.args.self.now.number c.args.self.now.size c.args.at.position.mark c.in-Mark.mark
    c.args.at.position.weight c.args.at.position.weight c.args.at.room c.args.at.room (columns_of c.args.store.now) (columns_of c.args.store.now)
    (Marked c.in-Mark.mark) c.args.at.rest.now c.in-Mark.after.now c.in-Mark.ensures.item c.requires.within (λ _ _. refl))

pub returns-in_ok-push-in-Letter-clause-step : goal.returns-in_ok-push-in-Letter-clause-step
returns-in_ok-push-in-Letter-clause-step c = rw (c.plain.ensures.mark, c.plain.ensures.weight)
    (takes_letter _ _ _ _ c.args.at.position.mark c.args.at.position.weight _ _
    (columns_of c.push.new.self) _ _ _ c.in-Letter.ensures.item c.requires.within c.if-room-eq0.false c.in_ok-push-in-Letter.ensures.ok)

pub unreachable-requires : goal.unreachable-requires
unreachable-requires c = no_edge _ _ _ c.in-Edge.ensures.item

pub returns-in-Digit-clause-words : goal.returns-in-Digit-clause-words
returns-in-Digit-clause-words c = refl

pub returns-in-Digit-clause-fit : goal.returns-in-Digit-clause-fit
returns-in-Digit-clause-fit c = c.requires.fit

pub returns-in-Digit-clause-counted : goal.returns-in-Digit-clause-counted
returns-in-Digit-clause-counted c = (refl, omega (arith, shorter_behind _ _ _ _ c.in-Digit.ensures.item))

pub returns-in-Weight-clause-words : goal.returns-in-Weight-clause-words
returns-in-Weight-clause-words c = refl

pub returns-in-Weight-clause-fit : goal.returns-in-Weight-clause-fit
returns-in-Weight-clause-fit c = c.requires.fit

pub returns-in-Weight-clause-counted : goal.returns-in-Weight-clause-counted
returns-in-Weight-clause-counted c = (refl, omega (arith, shorter_behind _ _ _ _ c.in-Weight.ensures.item))

pub returns-in-Mark-clause-words : goal.returns-in-Mark-clause-words
returns-in-Mark-clause-words c = refl

pub returns-in-Mark-clause-fit : goal.returns-in-Mark-clause-fit
returns-in-Mark-clause-fit c = c.requires.fit

pub returns-in-Mark-clause-counted : goal.returns-in-Mark-clause-counted
returns-in-Mark-clause-counted c = (refl, omega (arith, shorter_behind _ _ _ _ c.in-Mark.ensures.item))

pub returns-in_ok-push-in-Letter-clause-words : goal.returns-in_ok-push-in-Letter-clause-words
returns-in_ok-push-in-Letter-clause-words c = c.push.ensures.words

pub returns-in_ok-push-in-Letter-clause-fit : goal.returns-in_ok-push-in-Letter-clause-fit
returns-in_ok-push-in-Letter-clause-fit c =
    pushed_fit (letters_of c.args.self.now.table.now + 1) c.args.store.now c.push.new.self c.args.at.position.mark c.args.at.position.weight c.in-Letter.sign c.requires.fit c.args.at.position.small
    (omega (arith, c.in-Letter.ensures.range)) (omega (arith, c.in-Letter.ensures.range)) c.in_ok-push-in-Letter.ensures.ok

pub returns-in_ok-push-in-Letter-clause-counted : goal.returns-in_ok-push-in-Letter-clause-counted
returns-in_ok-push-in-Letter-clause-counted c =
    let more = pushed_length c.args.store.now c.push.new.self c.args.at.position.mark c.args.at.position.weight c.in-Letter.sign c.in_ok-push-in-Letter.ensures.ok in
    (omega arith, omega (arith, shorter_behind _ _ _ _ c.in-Letter.ensures.item))

pub returns-in_ok-push-in-End-clause-words : goal.returns-in_ok-push-in-End-clause-words
returns-in_ok-push-in-End-clause-words c = c.push-in-End.ensures.words

pub returns-in_ok-push-in-End-clause-counted : goal.returns-in_ok-push-in-End-clause-counted
returns-in_ok-push-in-End-clause-counted c = pushed_length c.args.store.now c.push-in-End.new.self _ _ _ c.in_ok-push-in-End.ensures.ok

pub returns-in_ok-push-in-End-clause-fit : goal.returns-in_ok-push-in-End-clause-fit
returns-in_ok-push-in-End-clause-fit c =
    pushed_fit (letters_of c.args.self.now.table.now + 1) c.args.store.now c.push-in-End.new.self c.plain-in-End.result.mark c.plain-in-End.result.weight
    EDGE c.requires.fit c.plain-in-End.result.small (omega arith) (omega arith) c.in_ok-push-in-End.ensures.ok

pub returns-in_ok-push-in-End-clause-step : goal.returns-in_ok-push-in-End-clause-step
returns-in_ok-push-in-End-clause-step c = search rules

pub returns-in-Bad-clause-words : goal.returns-in-Bad-clause-words
returns-in-Bad-clause-words c = refl

pub returns-in-Bad-clause-step : goal.returns-in-Bad-clause-step
returns-in-Bad-clause-step c = search rules

pub returns-then-room-eq0-clause-words : goal.returns-then-room-eq0-clause-words
returns-then-room-eq0-clause-words c = refl

pub returns-then-room-eq0-clause-step : goal.returns-then-room-eq0-clause-step
returns-then-room-eq0-clause-step c = search rules
