-- A disk in memory is plain where it has no links. Two names that are no links stand for one only
-- if they are one name.
use Rattle.std.specs.Prelude.{◌≡◌, List, [], ◌∷◌, Bool, true, false, Some, refl}
use Rattle.std.proofs.Common.{sym, ap, subst, ◌∙◌}
use Rattle.std.specs.Option.{option_map}
use Rattle.std.proofs.lemmas.Bool.{false≢true}
use Rattle.pg_outside.specs.Inside.disk.Disks.{HoldsNow, KnowsPlain, KnowsNewNames}
use Rattle.pg_told_disk.specs.Inside.Changes.{disk_in, file_in, number_in, node_with, bytes_in, stored_in}
use Rattle.pg_told_disk.specs.Inside.laws.FollowedLinks.{not_link}
use Rattle.pg_told_disk.specs.Inside.Memory.{told_where}
use Rattle.pg_told_disk.specs.Inside.laws.ChangeLaws.{get_names, of_ids}
use Rattle.pg_told_disk.specs.Inside.laws.Nodes.{named_has}
use Rattle.pg_outside.specs.declared.disk.system.FileId.{FileId}
use Rattle.pg_told_disk.specs.declared.change.Change.{Change}
use Rattle.pg_told_disk.specs.declared.links.Link.{Link}

-- a disk in memory that is said to be plain has no links, and each of its files is regular
plain_in : (links : List Link) (log : List Change) → KnowsPlain (disk_in links log)
plain_in (link ∷ links) log = λ plain. absurd (false≢true plain)
plain_in [] log = λ plain. record {
  real = λ name. refl;
  direct = λ name. refl;
  there = λ name id is.
      let named = of_ids (number_in log name) id (sym (get_names log name) ∙ is) in
      let has = named_has log name named.0 named.1 in (
        node_with (bytes_in log named.0) (stored_in log named.0) has.mode,
        subst (λ (k : FileId). file_in log k
            ≡ Some (node_with (bytes_in log named.0) (stored_in log named.0) has.mode))
            (sym named.2)
            (ap (option_map (node_with (bytes_in log named.0) (stored_in log named.0))) has.there),
        refl,
      );
}

-- where the disk is told, two names that are no links stand for one only if they are one
pub new_names_where : (is_told : Bool) (links : List Link) (log : List Change)
    → HoldsNow (told_where is_told links log) KnowsNewNames
new_names_where true links log = λ own name is_new direct own_direct one.
    sym (not_link links own own_direct) ∙ one ∙ not_link links name direct
new_names_where false links log = tt

-- where the disk is told and said to be plain, it has no links, and each of its files is regular
pub plain_where : (is_told : Bool) (links : List Link) (log : List Change)
    → HoldsNow (told_where is_told links log) KnowsPlain
plain_where true links log = plain_in links log
plain_where false links log = tt
