use Rattle.std.proofs.Common.{List, Option, Some, None, ℕ, refl, sym, ◌∙◌}
use Rattle.std.specs.Io.KnownBytes.{Appends, Keeps}
use Rattle.std.proofs.lemmas.List.{append-nil, take_rest}
use Rattle.pg_outside.proofs.KnownBytes.{HasWritten, written_step}
use Rattle.pg_outside.proofs.streams.write_bytes.Goals as goal

-- before the first write
written_none : (a : Option (List ℕ)) (bytes : List ℕ) → HasWritten a a bytes bytes
written_none None bytes = record { done = 0; left = refl; written = tt }
written_none (Some a) bytes = record { done = 0; left = refl; written = sym (append-nil a) }

-- a write, and then a call that does nothing
written_kept : (a b c : Option (List ℕ)) (xs : List ℕ) → Appends a b xs → Keeps b c → Appends a c xs
written_kept None b c xs p q = tt
written_kept (Some a) None c xs p q = absurd p
written_kept (Some a) (Some b) None xs p q = absurd q
written_kept (Some a) (Some b) (Some c) xs p q = q ∙ p

pub loop-rest-init : goal.loop-rest-init
loop-rest-init g c = written_none _ _

pub returns-in-Ok-eq0-clause-part : goal.returns-in-Ok-eq0-clause-part
returns-in-Ok-eq0-clause-part g c =
    let so_far = written_step c.loop-rest.invariant c.in-Ok-eq0.field-0 c.in-Ok-eq0.ensures.ok _ refl in
    (so_far.done, so_far.written)

pub returns-in-Err-clause-part : goal.returns-in-Err-clause-part
returns-in-Err-clause-part g c = (c.loop-rest.invariant.done, written_kept _ _ _ _ c.loop-rest.invariant.written c.in-Err.ensures.err)

pub loop-rest-preserved : goal.loop-rest-preserved
loop-rest-preserved g c = written_step c.loop-rest.invariant c.in-Ok.count c.in-Ok.ensures.ok _ (take_rest c.loop-rest.rest.now c.in-Ok.count)
