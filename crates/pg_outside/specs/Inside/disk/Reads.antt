-- What a read says of a file.
use Rattle.std.specs.Prelude.{◌≡◌, ℕ, ◌+◌, ◌<◌, List, take, length, Some}
use Rattle.pg_outside.specs.Inside.disk.Disks.{Node, Disk}
use Rattle.pg_outside.specs.declared.disk.system.FileId.{FileId}

-- these are the bytes of the file
abbrev pub IsAllOf : FileId → List ℕ → Disk → Type 0
IsAllOf id bytes disk = (node : Node) → disk.files id ≡ Some node → bytes ≡ node.bytes

-- the file has more bytes than the limit, and these are its first limit + 1
abbrev pub IsFrontOf : FileId → ℕ → List ℕ → Disk → Type 0
IsFrontOf id limit bytes disk = (node : Node) → disk.files id ≡ Some node
    → (limit < length node.bytes) × (bytes ≡ take (limit + 1) node.bytes)
