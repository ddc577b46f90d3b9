use Rattle.std.proofs.Common.{◌≡◌, ℕ, ◌<◌, ◌+◌, ◌^◌, take, List, Some, None, arith, sym, ap, subst, ◌∙◌}
use Rattle.std.proofs.lemmas.Bool.{lt-ltb}
use Rattle.std.proofs.lemmas.List.{take_all}
use Rattle.pg_translate.specs.declared.index.Front.{Front}
use Rattle.pg_translate.specs.declared.index.Front.TheVariants.{Inside, Whole}
use Rattle.pg_translate.specs.Inside.spellings.Fronts.{pairs, front_in}
use Rattle.pg_translate.proofs.Walks.{code_room, walk_front, walk_more, clash_miss, clash_front, clash_whole, clash_inside}
use Rattle.pg_translate.proofs.index.Index.clashes.Goals as goal

pub overflow_mul-code : goal.overflow_mul-code
overflow_mul-code c =
    let room : (0 < c.bytes.code) × (c.bytes.code < 2 ^ 57) = code_room _ _ _ c.type_inv.text c.bytes.invariant.0.code_is (omega arith) (omega arith) in
    omega arith

pub overflow_add-code : goal.overflow_add-code
overflow_add-code c =
    let room : (0 < c.bytes.code) × (c.bytes.code < 2 ^ 57) = code_room _ _ _ c.type_inv.text c.bytes.invariant.0.code_is (omega arith) (omega arith) in
    omega (arith, c.type_inv.text c.bytes.i)

pub front-requires : goal.front-requires
front-requires c =
    let room : (0 < c.bytes.code) × (c.bytes.code < 2 ^ 57) = code_room _ _ _ c.type_inv.text c.bytes.invariant.0.code_is (omega arith) (omega arith) in
    omega arith

pub returns-in-None : goal.returns-in-None
returns-in-None c =
    let past : front_in (pairs c.args.self.now) (take (c.bytes.i + 1) c.args.text.now) ≡ None = sym (walk_front _ _ _ _ c.requires.sound c.type_inv.text c.bytes.invariant.0 (omega arith))
    ∙ sym c.front.ensures ∙ c.in-None.is in
    sym (clash_miss _ _ _ _ past c.bytes.invariant.0.none)

pub returns-then-i-text : goal.returns-then-i-text
returns-then-i-text c =
    let whole : front_in (pairs c.args.self.now) (take (c.bytes.i + 1) c.args.text.now) ≡ Some (Whole c.in-Some-Whole.other) =
    sym (walk_front _ _ _ _ c.requires.sound c.type_inv.text c.bytes.invariant.0 (omega arith)) ∙ sym c.front.ensures ∙ c.in-Some-Whole.is
    ∙ ap (λ (f : Front). Some f) c.in-Some-Whole.field-0-is in
    lt-ltb _ _ c.if-i-text.true ∙ sym (clash_front (pairs c.args.self.now) c.args.sign c.in-Some-Whole.other c.args.text.now c.bytes.i c.if-i-text.true whole)

pub returns-else-i-text : goal.returns-else-i-text
returns-else-i-text c =
    let whole : front_in (pairs c.args.self.now) (take (c.bytes.i + 1) c.args.text.now) ≡ Some (Whole c.in-Some-Whole.other) =
    sym (walk_front _ _ _ _ c.requires.sound c.type_inv.text c.bytes.invariant.0 (omega arith)) ∙ sym c.front.ensures ∙ c.in-Some-Whole.is
    ∙ ap (λ (f : Front). Some f) c.in-Some-Whole.field-0-is in
    sym (clash_whole _ _ _ _ _ c.requires.sound.apart (omega arith) whole)

pub bytes-preserved : goal.bytes-preserved
bytes-preserved c =
    let front : front_in (pairs c.args.self.now) (take (c.bytes.i + 1) c.args.text.now) ≡ Some Inside = sym (walk_front _ _ _ _ c.requires.sound c.type_inv.text c.bytes.invariant.0 (omega arith))
    ∙ sym c.front.ensures ∙ c.in-Some-Inside.is ∙ ap (λ (f : Front). Some f) c.in-Some-Inside.field-0-is in (
      walk_more _ _ _ _ c.requires.sound c.type_inv.text c.bytes.invariant.0 (omega arith) (sym c.front.ensures ∙ c.in-Some-Inside.is ∙ ap (λ (f : Front). Some f) c.in-Some-Inside.field-0-is),
      λ some. front,
    )

pub returns : goal.returns
returns c =
    let all : take c.bytes.i c.args.text.now ≡ c.args.text.now = take_all _ _ (omega arith) in
    sym (clash_inside (pairs c.args.self.now) c.args.sign c.args.text.now (subst (λ (t : List ℕ). front_in (pairs c.args.self.now) t ≡ Some Inside) all (c.bytes.invariant.1 (omega arith))))
