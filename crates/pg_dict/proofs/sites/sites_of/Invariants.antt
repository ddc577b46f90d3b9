use Rattle.std.proofs.Common.{◌≡◌, ◌++◌, drop}
use Rattle.pg_dict.specs.Inside.Sites.{all_sites}
use Rattle.pg_dict.specs.Inside.Store.{stored_words}
use Rattle.pg_dict.proofs.sites.sites_of.Given as goal

abbrev pub invariant-words : goal.invariant-words
invariant-words l = l.sites.items ++ all_sites (drop l.i (stored_words l.store)) ≡ all_sites (stored_words l.store)
