use Rattle.std.proofs.Common.{◌≡◌, ◌<◌, ◌+◌, ◌*◌, ◌==◌, ◌^◌, if◌then◌else◌, get_or, Some, arith, subst}
use Rattle.pg_translate.specs.declared.index.Front.{Front}
use Rattle.pg_translate.specs.Inside.spellings.Fronts.{front_at}
use Rattle.pg_translate.proofs.Walks.{code_room}
use Rattle.pg_translate.proofs.Entries.{enter_more, enter_end}
use Rattle.pg_translate.proofs.index.Index.enter.Goals as goal

pub overflow_mul-code : goal.overflow_mul-code
overflow_mul-code c =
    let room : (0 < c.bytes.code) × (c.bytes.code < 2 ^ 57) = code_room _ _ _ c.type_inv.text c.bytes.invariant.code_is (omega arith) (omega arith) in
    omega arith

pub overflow_add-code : goal.overflow_add-code
overflow_add-code c =
    let room : (0 < c.bytes.code) × (c.bytes.code < 2 ^ 57) = code_room _ _ _ c.type_inv.text c.bytes.invariant.code_is (omega arith) (omega arith) in
    omega (arith, c.type_inv.text c.bytes.i)

pub set_front-requires : goal.set_front-requires
set_front-requires c =
    let room : (0 < c.bytes.code) × (c.bytes.code < 2 ^ 57) = code_room _ _ _ c.type_inv.text c.bytes.invariant.code_is (omega arith) (omega arith) in
    omega arith

pub bytes-preserved : goal.bytes-preserved
bytes-preserved c =
    enter_more c.args.self.now c.bytes.self c.set_front.new.self (c.args.sign, c.args.text.now) c.bytes.i c.bytes.code c.type_inv.text c.bytes.invariant
    (omega arith) (λ other large. subst (λ (f : Front). front_at c.set_front.new.self other
    ≡ (if other == c.bytes.code * 256 + get_or c.args.text.now c.bytes.i 0 then Some f else front_at c.bytes.self other)) c.of_size.ensures (c.in_ok-set_front.ensures.front other large))
    c.set_front.ensures.spellings c.set_front.ensures.firsts

pub returns-clause-fronts : goal.returns-clause-fronts
returns-clause-fronts c = enter_end c.args.self.now c.bytes.self (c.args.sign, c.args.text.now) c.bytes.i c.bytes.code c.bytes.invariant (omega arith)
