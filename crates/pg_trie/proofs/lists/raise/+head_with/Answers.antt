use Rattle.std.proofs.lemmas.Result.{err_from_is_err_and, IfOk-weaker}
use Rattle.std.proofs.Common.{◌≡◌, ◌<◌, ℕ, List, ◌∷◌, max, refl, sym, ap, subst, ◌∙◌, arith, rules, true, false, inl, inr}
use Rattle.std.specs.Prelude.{IfOk}
use Rattle.std.proofs.lemmas.Bool.{lt-ltb, le-ltb, eq-eqb, cases_lt, ne_eqb}
use Rattle.pg_outputs.specs.Lists.{list_of}
use Rattle.pg_trie.specs.Inside.Lists.{rank, list_with}
use Rattle.pg_outputs.specs.declared.records.Record.{Record}
use Rattle.pg_outputs.specs.Inside.Heads.{Grows}
use Rattle.pg_trie.proofs.lists.raise.+head_with.Goals as goal

-- what grows twice grows
grows_twice : (old mid new : List Record) → Grows old mid → Grows mid new → Grows old new
grows_twice old mid new one two = record {
  longer = (let first = one.longer in let second = two.longer in omega arith);
  same = λ h within. two.same h (let first = one.longer in omega arith) ∙ one.same h within;
}

-- else a value stands behind
behind : (x y : ℕ × ℕ) (ys : List (ℕ × ℕ)) → (rank x < rank y → ⊥) → (rank x ≡ rank y → ⊥) → y ∷ list_with x ys ≡ list_with x (y ∷ ys)
behind x y ys not_less other = elim (cases_lt (rank x) (rank y)) [
  | inl less ↦ absurd (not_less less)
  | inr le ↦ rw (le-ltb (rank x) (rank y) le, ne_eqb (rank x) (rank y) other) refl
]

-- a lower rank stands before
before : (x y : ℕ × ℕ) (ys : List (ℕ × ℕ)) → rank x < rank y → x ∷ y ∷ ys ≡ list_with x (y ∷ ys)
before x y ys less = rw (lt-ltb (rank x) (rank y) less) refl

-- of one rank the greater value counts
beside : (x y : ℕ × ℕ) (ys : List (ℕ × ℕ)) → rank x ≡ rank y → (max x.0 y.0, y.1) ∷ ys ≡ list_with x (y ∷ ys)
beside x y ys same = rw (le-ltb (rank x) (rank y) (omega (arith, same)), eq-eqb (rank x) (rank y) same) refl

pub returns-then-stands_beside-clause-list : goal.returns-then-stands_beside-clause-list
returns-then-stands_beside-clause-list t c =
    let old = c.args.outputs.now in
    let same : rank (c.args.value, c.args.dot) ≡ rank (c.in-Some.first, c.in-Some.at) = c.stands_beside.ensures.0 (search rules) in
    subst (λ (l : List (ℕ × ℕ)). IfOk c.cons-then-stands_beside.result (λ h. list_of c.cons-then-stands_beside.new.self h ≡ l))
    (ap (λ n. (n, c.in-Some.at) ∷ list_of old c.in-Some.next) c.max.ensures
    ∙ beside (c.args.value, c.args.dot) (c.in-Some.first, c.in-Some.at) (list_of old c.in-Some.next) same
    ∙ ap (list_with (c.args.value, c.args.dot)) (sym c.in-Some.ensures.list)) c.cons-then-stands_beside.ensures.list

pub first-requires : goal.first-requires
first-requires t c = c.requires

pub cons-requires : goal.cons-requires
cons-requires t c = c.requires

pub returns-in_err-rest : goal.returns-in_err-rest
returns-in_err-rest t c =
    let err = err_from_is_err_and c.from_residual.result c.from_residual.ensures.1 in
    record { list = rw err.1 tt; inside = rw err.1 tt; grows = c.in_err-rest.ensures.grows }

pub returns-then-stands_beside-clause-grows : goal.returns-then-stands_beside-clause-grows
returns-then-stands_beside-clause-grows t c = c.cons-then-stands_beside.ensures.grows

pub returns-then-stands_before-clause-list : goal.returns-then-stands_before-clause-list
returns-then-stands_before-clause-list t c =
    let old = c.args.outputs.now in
    let less : rank (c.args.value, c.args.dot) < rank (c.in-Some.first, c.in-Some.at) = c.stands_before.ensures.0 (search rules) in
    subst (λ (l : List (ℕ × ℕ)). IfOk c.cons-then-stands_before.result (λ h. list_of c.cons-then-stands_before.new.self h ≡ l))
    (ap (λ (l : List (ℕ × ℕ)). (c.args.value, c.args.dot) ∷ l) c.in-Some.ensures.list
    ∙ before (c.args.value, c.args.dot) (c.in-Some.first, c.in-Some.at) (list_of old c.in-Some.next) less
    ∙ ap (list_with (c.args.value, c.args.dot)) (sym c.in-Some.ensures.list)) c.cons-then-stands_before.ensures.list

pub returns-then-stands_before-clause-inside : goal.returns-then-stands_before-clause-inside
returns-then-stands_before-clause-inside t c =
    IfOk-weaker c.cons-then-stands_before.result _ _ (λ h head. head.1) c.cons-then-stands_before.ensures.head

pub returns-then-stands_before-clause-grows : goal.returns-then-stands_before-clause-grows
returns-then-stands_before-clause-grows t c = c.cons-then-stands_before.ensures.grows

pub returns-then-stands_beside-clause-inside : goal.returns-then-stands_beside-clause-inside
returns-then-stands_beside-clause-inside t c =
    IfOk-weaker c.cons-then-stands_beside.result _ _ (λ h head. head.1) c.cons-then-stands_beside.ensures.head

pub returns-in_default-clause-inside : goal.returns-in_default-clause-inside
returns-in_default-clause-inside t c = IfOk-weaker c.cons.result _ _ (λ h head. head.1) c.cons.ensures.head

pub returns-in_default-clause-grows : goal.returns-in_default-clause-grows
returns-in_default-clause-grows t c = c.cons.ensures.grows

pub returns-clause-inside : goal.returns-clause-inside
returns-clause-inside t c = IfOk-weaker c.cons-2.result _ _ (λ h head. head.1) c.cons-2.ensures.head

pub returns-in_default-clause-list : goal.returns-in_default-clause-list
returns-in_default-clause-list t c =
    let none = c.in_default.ensures.list in
    subst (λ (l : List (ℕ × ℕ)). IfOk c.cons.result (λ h. list_of c.cons.new.self h ≡ l))
    (ap (λ (l : List (ℕ × ℕ)). (c.args.value, c.args.dot) ∷ l) none ∙ ap (list_with (c.args.value, c.args.dot)) (sym none)) c.cons.ensures.list

pub cons-requires-then-stands_before : goal.cons-requires-then-stands_before
cons-requires-then-stands_before t c = c.requires

pub cons-requires-then-stands_beside : goal.cons-requires-then-stands_beside
cons-requires-then-stands_beside t c = omega (arith, c.requires, c.in-Some.ensures.back)

pub cons-requires-2 : goal.cons-requires-2
cons-requires-2 t c = c.in_ok-rest.ensures.inside

pub returns-clause-list : goal.returns-clause-list
returns-clause-list t c =
    let old = c.args.outputs.now in
    let not_before : rank (c.args.value, c.args.dot) < rank (c.in-Some.first, c.in-Some.at) → ⊥ =
    λ less. absurd (let wrong : false ≡ true = sym c.if-stands_before.false ∙ c.stands_before.ensures.1 less in cc) in
    let not_beside : rank (c.args.value, c.args.dot) ≡ rank (c.in-Some.first, c.in-Some.at) → ⊥ =
    λ same. absurd (let wrong : false ≡ true = sym c.if-stands_beside.false ∙ c.stands_beside.ensures.1 same in cc) in
    subst (λ (l : List (ℕ × ℕ)). IfOk c.cons-2.result (λ h. list_of c.cons-2.new.self h ≡ l))
    (ap (λ (l : List (ℕ × ℕ)). (c.in-Some.first, c.in-Some.at) ∷ l) c.in_ok-rest.ensures.list
    ∙ behind (c.args.value, c.args.dot) (c.in-Some.first, c.in-Some.at) (list_of old c.in-Some.next) not_before not_beside
    ∙ ap (list_with (c.args.value, c.args.dot)) (sym c.in-Some.ensures.list)) c.cons-2.ensures.list

pub returns-clause-grows : goal.returns-clause-grows
returns-clause-grows t c = grows_twice c.args.outputs.now c.head_with.new.outputs c.cons-2.new.self c.in_ok-rest.ensures.grows c.cons-2.ensures.grows
