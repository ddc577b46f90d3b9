use Rattle.std.proofs.Common.{refl}
use Rattle.pg_outside.proofs.memory.files.MemoryFiles.add.Goals as goal

pub returns : goal.returns
returns c = record {
  ok = c.store.ensures.ok;
  room = c.store.ensures.room;
  rooms = c.store.ensures.rooms;
  err = c.store.ensures.err;
  err_rooms = c.store.ensures.err_rooms;
  listed = refl;
  calls = refl;
  made = refl;
  reads = λ name. refl;
  writes = λ name. refl;
}
