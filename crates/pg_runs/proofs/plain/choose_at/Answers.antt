use Rattle.std.proofs.Common.{inl}
use Rattle.pg_runs.proofs.plain.choose_at.Goals as goal

pub choose-requires : goal.choose-requires
choose-requires g c = inl c.requires.counted

pub give_up-requires : goal.give_up-requires
give_up-requires g c = inl c.requires.counted
