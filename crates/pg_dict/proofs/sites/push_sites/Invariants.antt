use Rattle.std.proofs.Common.{◌≡◌, ◌-◌, ◌++◌, length, map}
use Rattle.std.specs.List.{range_with_len}
use Rattle.pg_dict.specs.Inside.LentWords.{lent_word}
use Rattle.pg_dict.specs.Inside.Sites.{site_of, sites_in}
use Rattle.pg_dict.proofs.sites.push_sites.Given as goal

abbrev pub invariant-positions : goal.invariant-positions
invariant-positions l = l.sites.items ++ map (site_of (lent_word l.w)) (range_with_len l.p (length l.w.signs.now - l.p)) ≡ l.fn.sites.items ++ sites_in (lent_word l.w)
