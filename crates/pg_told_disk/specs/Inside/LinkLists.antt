-- What a list of links makes of names, the latest link first.
use Rattle.std.specs.Prelude.{ℕ, List, [], ◌∷◌, Bool, true, false, cond, Option, Some, None, string_bytes}
use Rattle.std.specs.Option.{is_some}
use Rattle.std.specs.Str.{bytes_eq}
use Rattle.pg_outside.specs.Inside.disk.Disks.{Links}
use Rattle.pg_told_disk.specs.declared.links.Link.{Link}

-- the earlier link, or this one where the name is its own
abbrev pub or_this : Option Link → Link → List ℕ → Option Link
or_this (Some first) link name = Some first
or_this None link name = cond (bytes_eq name (string_bytes link.name)) (Some link) None

-- the link of this name, if there is one
abbrev pub link_named : List Link → List ℕ → Option Link
link_named [] name = None
link_named (link ∷ older) name = or_this (link_named older name) link name

-- whether the name is a link
abbrev pub is_link_in : List Link → List ℕ → Bool
is_link_in links name = is_some (link_named links name)

-- whether a link, if there is one, is one of the system to an open file
abbrev pub is_open_one : Option Link → Bool
is_open_one None = false
is_open_one (Some link) = link.is_open

-- whether the name is a link of the system to an open file
abbrev pub is_open_in : List Link → List ℕ → Bool
is_open_in links name = is_open_one (link_named links name)

-- where the name is that of the link, it stands for what the link says
abbrev pub followed_by : List ℕ → List ℕ → Link → List ℕ
followed_by real said link = cond (bytes_eq real (string_bytes link.name)) said real

-- what the name stands for once each link is followed
abbrev pub real_in : List Link → List ℕ → List ℕ
real_in [] name = name
real_in (link ∷ older) name =
    followed_by (real_in older name) (real_in older (string_bytes link.said)) link

-- the name that the link says, or the name itself where there is none
abbrev pub said_or : Option Link → List ℕ → List ℕ
said_or None name = name
said_or (Some link) name = string_bytes link.said

-- whether there is no link
abbrev pub has_no_link : List Link → Bool
has_no_link [] = true
has_no_link (link ∷ older) = false

-- these links as a disk has them; it is plain where there are none
abbrev pub links_in : List Link → Links
links_in links = record {
  real = real_in links;
  is_link = is_link_in links;
  is_open = is_open_in links;
  next = λ name. said_or (link_named links name) name;
  new_mode = 420;
  is_plain = has_no_link links;
}
