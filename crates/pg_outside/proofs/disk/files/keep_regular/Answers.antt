use Rattle.std.proofs.Common.{◌∙◌, inl, refl, sym}
use Rattle.std.proofs.lemmas.Bool.{true≢false}
use Rattle.pg_outside.proofs.disk.files.keep_regular.Goals as goal

pub returns-else-seen : goal.returns-else-seen
returns-else-seen c = record { all = λ id is. is; noted = λ is. absurd (true≢false (sym is ∙ c.if-seen.false)); only = inl refl }
