use Rattle.std.proofs.Common.{◌≡◌, ℕ, ◌<◌, length, slice_get, slice_index_or, Some, refl, subst}
use Rattle.std.proofs.lemmas.Option.{slice_get_read}
use Rattle.pg_types.specs.Parameters.{Parameters}
use Rattle.pg_types.specs.declared.parameters.LevelParams.{LevelParams}
use Rattle.pg_types.proofs.parameters.Params.level.Goals as goal

-- what was read at an index is the level there
level_read : (held now : Parameters) (i : ℕ) (level : LevelParams) → held ≡ now → i < length now.levels → level ≡ slice_index_or held.levels i level → slice_get now.levels i ≡ Some level
level_read held now i level is inside at =
    slice_get_read now.levels (length now.levels) i level refl inside (subst (λ (p : Parameters). level ≡ slice_index_or p.levels i level) is at)

pub returns-clause-value : goal.returns-clause-value
returns-clause-value c = level_read _ _ c.args.i c.index.result.now c.self.view_is c.requires c.index.ensures
