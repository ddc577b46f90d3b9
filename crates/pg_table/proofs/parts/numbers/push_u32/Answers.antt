use Rattle.std.proofs.Common.{◌++◌, List, ℕ, ap, ◌∙◌}
use Rattle.pg_table.proofs.parts.BigEndian.{four_bytes}
use Rattle.pg_table.proofs.parts.numbers.push_u32.Goals as goal

pub returns : goal.returns
returns c = c.in_ok-extend_from_slice.ensures.items ∙ ap (λ (l : List ℕ). c.args.text.now.items ++ l) (c.to_be_bytes.ensures ∙ four_bytes c.args.n)
