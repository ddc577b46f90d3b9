-- What a run that is done tells of its end.
use Rattle.std.specs.Prelude.{Option, map}
use Rattle.pg_types.specs.declared.marks.Layout.{Layout}
use Rattle.pg_translate.specs.Inside.items.GapItems.{last_else}
use Rattle.pg_driver.specs.Inside.records.SoundRecords.{CompletedRun}

-- the layout after the last level of a run; where it has no level, the layout at its start
abbrev pub last_layout_told : CompletedRun → Option Layout
last_layout_told r = last_else r.first_layout (map (λ l. l.layout) r.levels)
