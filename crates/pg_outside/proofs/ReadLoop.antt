-- What a loop of reads has read so far.
use Rattle.std.proofs.Common.{◌≡◌, ℕ, ◌+◌, ◌-◌, ◌<◌, ◌≤◌, List, [], ◌++◌, length, take, drop, Option, Some, refl, sym, ap, subst, ◌∙◌, arith}
use Rattle.std.proofs.Math.Seq.{take-add}
use Rattle.std.proofs.lemmas.Grind.{common_steps}
use Rattle.pg_outside.specs.Inside.disk.Disks.{Disk, Node, DiskHistory, KeepsDisk, HoldsNow, HasPiece}
use Rattle.pg_outside.specs.Inside.disk.Reads.{IsAllOf, IsFrontOf}
use Rattle.pg_outside.proofs.Runs.{keeps_self, keeps_both, keeps_now, now_both, now_weaker, now_always}
use Rattle.pg_outside.specs.declared.disk.system.FileId.{FileId}

-- the bytes so far are the first of the file
pub record IsRead (id : FileId) (at : ℕ) (bytes : List ℕ) (disk : Disk) : Type 0 where
  pub on : at ≡ length bytes
  pub front : (node : Node) → disk.files id ≡ Some node → bytes ≡ take (length bytes) node.bytes
  pub within : (node : Node) → disk.files id ≡ Some node → length bytes ≤ length node.bytes

pub record HasRead (before now : Option DiskHistory) (file same : FileId) (at : ℕ) (bytes : List ℕ) (limit : ℕ) : Type 0 where
  pub same_file : same ≡ file
  pub keeps : KeepsDisk before now
  pub within : length bytes ≤ limit + 1
  pub read : HoldsNow now (IsRead file at bytes)

-- before the first read
pub reads_none : (now : Option DiskHistory) (file : FileId) (at limit : ℕ) (bytes : List ℕ) → at ≡ 0 → bytes ≡ [] → HasRead now now file file at bytes limit
reads_none now file at limit bytes start empty = record {
  same_file = refl;
  keeps = keeps_self now;
  within = rw empty (omega arith);
  read = now_always _ now (λ d. record { on = rw (start, empty) refl; front = λ node is. rw empty refl; within = λ node is. rw empty (omega arith) });
}

-- a read of nothing leaves the bytes as they are
pub no_more : (bytes more buffer : List ℕ) (count : ℕ) → count ≡ 0 → more ≡ bytes ++ take count buffer → more ≡ bytes
no_more bytes more buffer count none items = grind (arith, common_steps)

-- a read of as much as the limit leaves, and one byte
pub within_limit : (bytes more buffer piece : List ℕ) (count most limit : ℕ) → more ≡ bytes ++ take count buffer → count ≤ length (take most piece)
    → most ≤ (limit - length bytes) + 1 → length bytes ≤ limit → length more ≤ limit + 1
within_limit bytes more buffer piece count most limit is asked left below = rw is (grind (arith, common_steps))

piece_front : (bytes piece all : List ℕ) (at count : ℕ) → at ≡ length bytes → bytes ≡ take (length bytes) all → at + count ≤ length all → piece
    ≡ take count (drop at all) → (bytes ++ piece ≡ take (at + count) all) × (length (bytes ++ piece) ≡ at + count)
piece_front bytes piece all at count on front within is =
    let e : bytes ++ piece ≡ take (at + count) all = rw (take-add at count all) (ap (λ (l : List ℕ). l ++ piece) (front ∙ ap (λ (n : ℕ). take n all) (sym on))
    ∙ ap (λ (l : List ℕ). take at all ++ l) is) in
    (e, grind (arith, common_steps))

length_piece : (bytes buffer : List ℕ) (at count next : ℕ) → at ≡ length bytes → next ≡ at + count → count ≤ length buffer → next ≡ length (bytes ++ take count buffer)
length_piece bytes buffer at count next on is within = grind (arith, common_steps)

is_read_on : (n : FileId) (at next count room : ℕ) (bytes buffer : List ℕ) (d : Disk) → count ≤ length buffer → IsRead n at bytes d
    → HasPiece n at next count room buffer d → IsRead n next (bytes ++ take count buffer) d
is_read_on n at next count room bytes buffer d bound so_far piece = record {
  on = length_piece bytes buffer at count next so_far.on piece.on bound;
  front = λ node is. let f = piece_front bytes (take count buffer) node.bytes at count so_far.on (so_far.front node is) (piece.within node is) (piece.bytes node is) in rw f.1 f.0;
  within = λ node is. let f = piece_front bytes (take count buffer) node.bytes at count so_far.on (so_far.front node is) (piece.within node is) (piece.bytes node is) in rw f.1 (piece.within node is);
}

-- one more read
pub reads_on : (before now after : Option DiskHistory) (file same after_same : FileId) (at next count room limit : ℕ) (bytes buffer more : List ℕ)
    → HasRead before now file same at bytes limit → KeepsDisk now after → after_same ≡ same → HoldsNow after (HasPiece same at next count room buffer)
    → count ≤ length buffer → more ≡ bytes ++ take count buffer → length more ≤ limit + 1 → HasRead before after file after_same next more limit
reads_on before now after file same after_same at next count room limit bytes buffer more so_far keeps is piece bound items within = record {
  same_file = is ∙ so_far.same_file;
  keeps = keeps_both before now after so_far.keeps keeps;
  within = within;
  read = subst (λ (l : List ℕ). HoldsNow after (IsRead file next l)) (sym items)
      (now_weaker _ _ after (now_both _ _ after (keeps_now _ now after so_far.read keeps) (subst (λ (k : FileId). HoldsNow after (HasPiece k at next count room buffer)) so_far.same_file piece))
      (λ d p. is_read_on file at next count room bytes buffer d bound p.0 p.1));
}

-- a read of some bytes leaves less to read
pub reads_less : (bytes more buffer : List ℕ) (count limit : ℕ) → more ≡ bytes ++ take count buffer → count ≤ length buffer → 0 < count → length bytes ≤ limit
    → (limit + 1) - length more < (limit + 1) - length bytes
reads_less bytes more buffer count limit items bound some within = grind (arith, common_steps)

whole_of_front : (bytes all : List ℕ) → bytes ≡ take (length bytes) all → length all ≤ length bytes → bytes ≡ all
whole_of_front bytes all front end = front ∙ take_all (length bytes) all end
  where
    take_all : (n : ℕ) (l : List ℕ) → length l ≤ n → take n l ≡ l
    take_all n l within = grind (arith, common_steps)

-- a read of nothing
pub reads_end : (before now after : Option DiskHistory) (file same : FileId) (at next count room limit : ℕ) (bytes buffer more : List ℕ) → HasRead before now file same at bytes limit
    → KeepsDisk now after → HoldsNow after (HasPiece same at next count room buffer) → count ≡ 0 → 0 < room → more ≡ bytes → HoldsNow after (IsAllOf file more)
reads_end before now after file same at next count room limit bytes buffer more so_far keeps piece none room_left unchanged =
    subst (λ (l : List ℕ). HoldsNow after (IsAllOf file l)) (sym unchanged)
    (now_weaker _ _ after (now_both _ _ after (keeps_now _ now after so_far.read keeps) (subst (λ (k : FileId). HoldsNow after (HasPiece k at next count room buffer)) so_far.same_file piece))
    (λ d p node is. whole_of_front bytes node.bytes (p.0.front node is) (at_end (length node.bytes) at (length bytes) (p.1.end node is none room_left) p.0.on)))
  where
    at_end : (a b c : ℕ) → a ≤ b → b ≡ c → a ≤ c
    at_end a b c le is = omega arith

-- more than the limit
pub reads_past : (before now : Option DiskHistory) (file same : FileId) (at limit : ℕ) (bytes : List ℕ) → HasRead before now file same at bytes limit
    → limit < length bytes → HoldsNow now (IsFrontOf file limit bytes)
reads_past before now file same at limit bytes so_far past =
    now_weaker _ _ now so_far.read (λ d p node is. (
      longer limit (length bytes) (length node.bytes) past (p.within node is),
      p.front node is ∙ ap (λ (n : ℕ). take n node.bytes) exactly,
    ))
  where
    exactly : length bytes ≡ limit + 1
    exactly = let w = so_far.within in omega (arith, w)

    longer : (l a b : ℕ) → l < a → a ≤ b → l < b
    longer l a b lt le = omega arith
