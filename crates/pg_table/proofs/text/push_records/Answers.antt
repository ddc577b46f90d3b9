use Rattle.std.proofs.Common.{◌≡◌, ◌+◌, ◌-◌, ◌∷◌, [], ◌++◌, ℕ, List, take, slice_get, Some, Vec, Global, refl, sym, ap, ◌∙◌, arith, append_assoc}
use Rattle.std.specs.List.{flat_map}
use Rattle.std.proofs.lemmas.List.{take_more, take_all, flat_map_more}
use Rattle.std.proofs.lemmas.Option.{get_or_from_slice_get, slice_get_within}
use Rattle.pg_outputs.specs.declared.records.Record.{Record}
use Rattle.pg_table.specs.Numbers.{bytes_of_number}
use Rattle.pg_table.specs.Inside.text.Files.{record_bytes}
use Rattle.pg_table.proofs.text.push_records.Goals as goal
use Rattle.pg_table.proofs.text.push_records.Goals.{in-Some+in_ok-push+in_ok-push-2+in_ok-push_u32, in_default}

-- one more record is behind the text
more : (old mid new : List ℕ) (rs : List Record) (head i : ℕ) (r : Record) → mid ≡ old ++ flat_map record_bytes (take (head - 1) rs) → head ≡ i + 1
    → slice_get rs i ≡ Some r → new ≡ mid ++ record_bytes r → new ≡ old ++ flat_map record_bytes (take (head + 1 - 1) rs)
more old mid new rs head i r before place at pushed =
    let low : head - 1 ≡ i = omega arith in
    let high : head + 1 - 1 ≡ i + 1 = omega arith in
    pushed
    ∙ ap (λ l. l ++ record_bytes r) (before ∙ ap (λ n. old ++ flat_map record_bytes (take n rs)) low)
    ∙ flat_map_more record_bytes old (take i rs) r
    ∙ ap (λ (l : List Record). old ++ flat_map record_bytes l) (ap (λ x. take i rs ++ x ∷ []) (sym (get_or_from_slice_get rs i r r at)) ∙ sym (take_more rs i r (slice_get_within rs i r at)))
    ∙ ap (λ n. old ++ flat_map record_bytes (take n rs)) (sym high)

pub loop-head-preserved : goal.loop-head-preserved
loop-head-preserved c = elim c.match-first.branch [
  | in-Some+in_ok-push+in_ok-push-2+in_ok-push_u32 w ↦
      let there = w.in-Some.ensures.at_head in
      let mid : List ℕ = c.loop-head.text.items in
      let rest : List ℕ = bytes_of_number 4 w.in-Some.next in
      let pushed : w.push_u32.new.text.items ≡ mid ++ (w.in-Some.value ∷ w.in-Some.dot ∷ rest) =
      w.in_ok-push_u32.ensures
      ∙ ap (λ (l : List ℕ). l ++ rest) (w.in_ok-push-2.ensures.items ∙ ap (λ (l : List ℕ). l ++ w.in-Some.dot ∷ []) w.in_ok-push.ensures.items
      ∙ append_assoc mid (w.in-Some.value ∷ []) (w.in-Some.dot ∷ []))
      ∙ append_assoc mid (w.in-Some.value ∷ w.in-Some.dot ∷ []) rest in
      more c.args.text.now.items mid c.match-first.text.items c.args.outputs.now c.loop-head.head there.0
      (record { value = w.in-Some.value; dot = w.in-Some.dot; next = w.in-Some.next }) c.loop-head.invariant there.1 there.2
      (ap (λ (t : Vec ℕ Global). t.items) w.text-is ∙ pushed)
  | in_default w ↦ absurd (omega (arith, w.in_default.ensures.none.0 refl, c.loop-head.auto.head))
]

pub overflow_cast-next : goal.overflow_cast-next
overflow_cast-next c = omega (arith, c.in-Some.ensures.back, c.len-head-end.ensures.len)

pub returns : goal.returns
returns c = c.loop-head.invariant
    ∙ ap (λ (l : List Record). c.args.text.now.items ++ flat_map record_bytes l) (take_all (c.loop-head.head - 1) c.args.outputs.now (omega (arith, c.len-head-end.ensures.len)))
