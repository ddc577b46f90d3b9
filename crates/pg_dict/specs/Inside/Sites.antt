-- What stands at the signs of words, one sign after the other.
use Rattle.std.specs.Prelude.{ℕ, ◌+◌, ◌-◌, ◌*◌, if◌then◌else◌, false, List, map, length, slice_index_or}
use Rattle.std.specs.List.{flat_map, range_with_len}
use Rattle.pg_dict.specs.Word.{Word}
use Rattle.pg_dict.specs.declared.sites.Site.{Site}

-- what stands at a sign of a word
abbrev pub site_of : Word → ℕ → Site
site_of w p = record {
  left = 2 * (length w.signs - p) + (if slice_index_or w.hyphens p false then 1 else 0);
}

-- what stands at each sign of a word
abbrev pub sites_in : Word → List Site
sites_in w = map (site_of w) (range_with_len 0 (length w.signs))

-- what stands at each sign of all words, joined
abbrev pub all_sites : List Word → List Site
all_sites words = flat_map sites_in words
