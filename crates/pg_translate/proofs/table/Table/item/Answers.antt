use Rattle.std.proofs.Common.{◌≡◌, ◌==◌, length, get_or, false, None, refl, sym, ◌∙◌, arith}
use Rattle.std.proofs.lemmas.Bool.{true≢false, and_parts, leb-true}
use Rattle.pg_translate.specs.Inside.items.Kinds.{digit_at}
use Rattle.pg_translate.proofs.Takes.{takes, takes_one, found_digit, found_edge, found_letter, found_mark, found_weight, missed_digit, none_in_dictionary, none_in_patterns, ends_there, goes_on}
use Rattle.pg_translate.proofs.table.Table.item.Goals as goal
use Rattle.pg_translate.proofs.table.Table.item.Goals.{in-Dictionary+in_default-weight_of+in_default-mark, in-Patterns+else-is_edge}

pub returns-then-is_ascii_digit-clause-item : goal.returns-then-is_ascii_digit-clause-item
returns-then-is_ascii_digit-clause-item c =
    let some : (length c.args.rest.now == 0) ≡ false = sym c.is_empty.ensures ∙ c.if-is_empty.false in
    takes_one c.args.self.now c.in_default.ensures.rules c.args.place c.args.rest.now _ (found_digit c.args.self.now c.args.place c.args.rest.now c.in_default.ensures.letter some
    (sym c.is_ascii_digit.ensures.value ∙ c.if-is_ascii_digit.true)) some

pub returns-in-Some-mark-clause-item : goal.returns-in-Some-mark-clause-item
returns-in-Some-mark-clause-item c =
    let some : (length c.args.rest.now == 0) ≡ false = sym c.is_empty.ensures ∙ c.if-is_empty.false in
    takes_one c.args.self.now c.in_default.ensures.rules c.args.place c.args.rest.now _ (rw c.in-Dictionary.is
    (found_mark c.args.self.now c.args.rest.now c.in-Some-mark.mark c.in_default.ensures.letter
    (missed_digit c.args.rest.now some (sym c.is_ascii_digit.ensures.value ∙ c.if-is_ascii_digit.false)) c.in_default-weight_of.ensures.value c.in-Some-mark.ensures.mark)) some

pub returns-in-Some-clause-end : goal.returns-in-Some-clause-end
returns-in-Some-clause-end c = λ ended. absurd (true≢false (sym ended ∙ c.in-Some.ensures.begun))

pub returns-in-Some-mark-clause-end : goal.returns-in-Some-mark-clause-end
returns-in-Some-mark-clause-end c = λ ended. absurd (true≢false (sym ended ∙ c.in-Some-mark.ensures.begun))

pub returns-in-Some-clause-range : goal.returns-in-Some-clause-range
returns-in-Some-clause-range c = c.in-Some.ensures.sign

pub returns-then-is_empty-clause-range : goal.returns-then-is_empty-clause-range
returns-then-is_empty-clause-range c = tt

pub returns-then-is_empty-clause-end : goal.returns-then-is_empty-clause-end
returns-then-is_empty-clause-end c = λ _. refl

pub returns-then-is_ascii_digit-clause-range : goal.returns-then-is_ascii_digit-clause-range
returns-then-is_ascii_digit-clause-range c =
    let high = leb-true (get_or c.args.rest.now 0 0) 57 (and_parts _ _ (sym c.is_ascii_digit.ensures.value ∙ c.if-is_ascii_digit.true)).1 in
    omega arith

pub returns-in-Some-mark-clause-range : goal.returns-in-Some-mark-clause-range
returns-in-Some-mark-clause-range c = tt

pub returns-in-Some-clause-item : goal.returns-in-Some-clause-item
returns-in-Some-clause-item c =
    takes c.args.self.now c.in-Some.ensures.rules c.args.place c.args.rest.now _ c.in-Some.size (found_letter c.args.self.now c.args.place c.args.rest.now _ _ c.in-Some.ensures.letter)
    c.in-Some.ensures.within.0 c.in-Some.ensures.within.1

pub returns-in-Some-weight_of-clause-item : goal.returns-in-Some-weight_of-clause-item
returns-in-Some-weight_of-clause-item c =
    let some : (length c.args.rest.now == 0) ≡ false = sym c.is_empty.ensures ∙ c.if-is_empty.false in
    takes c.args.self.now c.in_default.ensures.rules c.args.place c.args.rest.now _ c.in-Some-weight_of.size (rw c.in-Dictionary.is
    (found_weight c.args.self.now c.args.rest.now _ _ c.in_default.ensures.letter
    (missed_digit c.args.rest.now some (sym c.is_ascii_digit.ensures.value ∙ c.if-is_ascii_digit.false)) c.in-Some-weight_of.ensures.value))
    c.in-Some-weight_of.ensures.within.0 c.in-Some-weight_of.ensures.within.1

pub returns-in-Some-weight_of-clause-range : goal.returns-in-Some-weight_of-clause-range
returns-in-Some-weight_of-clause-range c = c.in-Some-weight_of.ensures.range

pub returns-then-is_edge-clause-item : goal.returns-then-is_edge-clause-item
returns-then-is_edge-clause-item c =
    let some : (length c.args.rest.now == 0) ≡ false = sym c.is_empty.ensures ∙ c.if-is_empty.false in
    takes_one c.args.self.now c.in_default.ensures.rules c.args.place c.args.rest.now _ (rw c.in-Patterns.is
    (found_edge c.args.self.now c.args.rest.now c.in_default.ensures.letter
    (missed_digit c.args.rest.now some (sym c.is_ascii_digit.ensures.value ∙ c.if-is_ascii_digit.false)) some (sym c.is_edge.ensures ∙ c.if-is_edge.true))) some

pub returns-then-is_edge-clause-range : goal.returns-then-is_edge-clause-range
returns-then-is_edge-clause-range c = tt

pub returns-then-byte-eq9-clause-end : goal.returns-then-byte-eq9-clause-end
returns-then-byte-eq9-clause-end c = λ _. refl

pub returns-then-byte-eq9-clause-range : goal.returns-then-byte-eq9-clause-range
returns-then-byte-eq9-clause-range c = tt

pub returns-else-byte-eq9-clause-range : goal.returns-else-byte-eq9-clause-range
returns-else-byte-eq9-clause-range c = tt

pub returns-then-byte-eq9-clause-item : goal.returns-then-byte-eq9-clause-item
returns-then-byte-eq9-clause-item c =
    let t = c.args.self.now in
    let text = c.args.rest.now in
    let some : (length text == 0) ≡ false = sym c.is_empty.ensures ∙ c.if-is_empty.false in
    let digit : digit_at text ≡ None = missed_digit text some (sym c.is_ascii_digit.ensures.value ∙ c.if-is_ascii_digit.false) in
    record {
      none = elim c.match-place.branch [
        | in-Dictionary+in_default-weight_of+in_default-mark w ↦
            rw w.in-Dictionary.is (none_in_dictionary t text c.in_default.ensures.letter digit w.in_default-weight_of.ensures.value w.in_default-mark.ensures.mark)
        | in-Patterns+else-is_edge w ↦ rw w.in-Patterns.is (none_in_patterns t text c.in_default.ensures.letter digit (sym w.is_edge.ensures ∙ w.if-is_edge.false))
      ];
      end = ends_there text c.if-byte-eq9.either;
    }

pub returns-else-byte-eq9-clause-item : goal.returns-else-byte-eq9-clause-item
returns-else-byte-eq9-clause-item c =
    let t = c.args.self.now in
    let text = c.args.rest.now in
    let some : (length text == 0) ≡ false = sym c.is_empty.ensures ∙ c.if-is_empty.false in
    let digit : digit_at text ≡ None = missed_digit text some (sym c.is_ascii_digit.ensures.value ∙ c.if-is_ascii_digit.false) in
    record {
      none = elim c.match-place.branch [
        | in-Dictionary+in_default-weight_of+in_default-mark w ↦
            rw w.in-Dictionary.is (none_in_dictionary t text c.in_default.ensures.letter digit w.in_default-weight_of.ensures.value w.in_default-mark.ensures.mark)
        | in-Patterns+else-is_edge w ↦ rw w.in-Patterns.is (none_in_patterns t text c.in_default.ensures.letter digit (sym w.is_edge.ensures ∙ w.if-is_edge.false))
      ];
      end = goes_on text some c.if-byte-eq9.false;
    }

pub returns-else-byte-eq9-clause-end : goal.returns-else-byte-eq9-clause-end
returns-else-byte-eq9-clause-end c = λ ended.
    let some : (length c.args.rest.now == 0) ≡ false = sym c.is_empty.ensures ∙ c.if-is_empty.false in
    absurd (true≢false (sym ended ∙ goes_on c.args.rest.now some c.if-byte-eq9.false))
