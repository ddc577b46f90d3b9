-- How a spelling may begin, in two forms.
use Rattle.std.proofs.Common.{◌≡◌, ℕ, ◌&&◌, List, [], ◌∷◌, slice_index, refl}
use Rattle.pg_types.specs.Lines.{has_byte}
use Rattle.pg_translate.specs.Inside.spellings.Beginnings.{may_begin, begins_well}

pub begins_as : (marks text : List ℕ) → begins_well marks text ≡ (has_byte text && may_begin marks (slice_index text 0))
begins_as marks [] = refl
begins_as marks (b ∷ bs) = refl
