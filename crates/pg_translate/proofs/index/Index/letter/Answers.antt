use Rattle.std.proofs.Common.{◌≡◌, ℕ, ◌<◌, ◌+◌, ◌^◌, min, length, take, Some, None, arith, sym, ap, subst, ◌∙◌}
use Rattle.pg_translate.specs.declared.index.Front.{Front}
use Rattle.pg_translate.specs.declared.index.Front.TheVariants.{Whole}
use Rattle.pg_translate.specs.Inside.spellings.Members.{IsAmong}
use Rattle.pg_translate.specs.Inside.spellings.Fronts.{pairs, front_in}
use Rattle.pg_translate.proofs.Fronts.{whole_in}
use Rattle.pg_translate.proofs.Walks.{NoneWithin, code_room, walk_front, walk_more, walk_hit, walk_miss, walk_end, sign_within}
use Rattle.pg_translate.proofs.index.Index.letter.Goals as goal

pub overflow_mul-code : goal.overflow_mul-code
overflow_mul-code c =
    let room : (0 < c.bytes.code) × (c.bytes.code < 2 ^ 57) = code_room _ _ _ c.type_inv.text c.bytes.invariant.code_is (omega arith) (omega arith) in
    omega arith

pub overflow_add-code : goal.overflow_add-code
overflow_add-code c =
    let room : (0 < c.bytes.code) × (c.bytes.code < 2 ^ 57) = code_room _ _ _ c.type_inv.text c.bytes.invariant.code_is (omega arith) (omega arith) in
    omega (arith, c.type_inv.text c.bytes.i)

pub front-requires : goal.front-requires
front-requires c =
    let room : (0 < c.bytes.code) × (c.bytes.code < 2 ^ 57) = code_room _ _ _ c.type_inv.text c.bytes.invariant.code_is (omega arith) (omega arith) in
    omega arith

pub returns-in-None-clause-letter : goal.returns-in-None-clause-letter
returns-in-None-clause-letter c =
    let past : front_in (pairs c.args.self.now) (take (c.bytes.i + 1) c.args.text.now) ≡ None = sym (walk_front _ _ _ _ c.requires c.type_inv.text c.bytes.invariant (omega arith))
    ∙ sym c.front.ensures ∙ c.in-None.is in
    walk_miss _ _ _ past c.bytes.invariant.none

pub returns-in-Some-Whole-clause-letter : goal.returns-in-Some-Whole-clause-letter
returns-in-Some-Whole-clause-letter c =
    let whole : front_in (pairs c.args.self.now) (take (c.bytes.i + 1) c.args.text.now) ≡ Some (Whole c.in-Some-Whole.sign) =
    sym (walk_front _ _ _ _ c.requires c.type_inv.text c.bytes.invariant (omega arith)) ∙ sym c.front.ensures ∙ c.in-Some-Whole.is ∙ ap (λ (f : Front). Some f) c.in-Some-Whole.field-0-is in
    walk_hit _ _ _ _ c.requires.apart (omega arith) whole

pub returns-in-Some-Whole-clause-sign : goal.returns-in-Some-Whole-clause-sign
returns-in-Some-Whole-clause-sign c =
    let whole : front_in (pairs c.args.self.now) (take (c.bytes.i + 1) c.args.text.now) ≡ Some (Whole c.in-Some-Whole.sign) =
    sym (walk_front _ _ _ _ c.requires c.type_inv.text c.bytes.invariant (omega arith)) ∙ sym c.front.ensures ∙ c.in-Some-Whole.is ∙ ap (λ (f : Front). Some f) c.in-Some-Whole.field-0-is in
    let among : IsAmong (c.in-Some-Whole.sign, take (c.bytes.i + 1) c.args.text.now) (pairs c.args.self.now) = whole_in _ _ _ whole in
    (c.requires.signs _ among, sign_within _ _ among)

pub bytes-preserved : goal.bytes-preserved
bytes-preserved c =
    walk_more _ _ _ _ c.requires c.type_inv.text c.bytes.invariant (omega arith) (sym c.front.ensures ∙ c.in-Some-Inside.is ∙ ap (λ (f : Front). Some f) c.in-Some-Inside.field-0-is)

pub returns-clause-letter : goal.returns-clause-letter
returns-clause-letter c =
    let end : c.bytes.i ≡ min (length c.args.text.now) 8 = omega arith in
    walk_end _ _ 8 c.requires.few (subst (λ (n : ℕ). NoneWithin (pairs c.args.self.now) c.args.text.now n) end c.bytes.invariant.none)
