-- What is told of a run: read off its trace.
use Rattle.std.specs.Prelude.{ℕ, ◌+◌, ◌==◌, nat_lt, Bool, not, ◌&&◌, ◌||◌, length, filter, sum_by}
use Rattle.std.specs.List.{list_all, list_any}
use Rattle.pg_select.specs.declared.pass.Pass.{Pass}
use Rattle.pg_driver.specs.Traces.{PassTrace, Trace, is_entered}

-- whether a pass has a candidate
abbrev pub has_candidate : PassTrace → Bool
has_candidate p = nat_lt 0 (length p.candidates)

-- a pass with no candidate left to longer patterns makes a pass skippable that is longer by a sign,
-- at the same dot or the next
abbrev pub makes_skippable : PassTrace → Pass → Bool
makes_skippable p q = list_all (is_entered p.params) p.candidates
    && (p.pass.len + 1 == q.len && (p.pass.dot == q.dot || p.pass.dot + 1 == q.dot))

-- how many passes of a run are begun: those that no pass of the same level makes skippable
abbrev pub begun_count : Trace → ℕ
begun_count run = sum_by (λ l. length
    (filter (λ q. not (list_any (λ p. makes_skippable p q.pass) l.passes)) l.passes)) run
