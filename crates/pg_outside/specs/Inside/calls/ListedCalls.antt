-- The calls that an object in memory counts, and those that it lets fail.
use Rattle.std.specs.Prelude.{ℕ, List, Option, map}
use Rattle.std.specs.Ordering.{nat_cmp}
use Rattle.std.specs.FinMap as fin
use Rattle.pg_outside.specs.declared.memory.plans.Plan.{Plan}

-- the calls that are to fail, by their numbers, with how many bytes each keeps
abbrev pub ListedCalls : Type 0
ListedCalls = fin.FinMap nat_cmp (Option ℕ)

-- a plan as the number of its call and what it keeps
abbrev pub plan_entry : Plan → ℕ × Option ℕ
plan_entry plan = (plan.call, plan.keep)

-- the calls that these plans list; of two plans for one call the first counts
abbrev pub listed_calls : List Plan → ListedCalls
listed_calls plans = fin.from_entries (map plan_entry plans)
