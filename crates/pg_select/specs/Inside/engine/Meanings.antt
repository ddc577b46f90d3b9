-- What an engine means: the patterns and the counts that it holds, and what each of its calls makes
-- of them.
use Rattle.std.specs.Prelude.{◌≡◌, ℕ, ◌+◌, Bool, true, T, List, [], map, Option, None, Some, MatchOption, All, take}
use Rattle.std.specs.Option.{option_map}
use Rattle.std.specs.Ordering.{nat_cmp}
use Rattle.std.specs.Cmp.Lexicographic.{slice_cmp}
use Rattle.std.specs.FinMap.Entries.{put, is_sorted}
use Rattle.pg_types.specs.declared.marks.Layout.{Layout}
use Rattle.pg_types.specs.Inside.Signs.{SignsWithin}
use Rattle.pg_types.specs.Inside.counting.Counts.{Counts, with_count, is_counted}
use Rattle.pg_types.specs.Placement.{Families, top, enter, kept_families}
use Rattle.pg_types.specs.Inside.PlacementSteps.{taken_count}
use Rattle.pg_types.specs.Tails.{tails}
use Rattle.pg_patterns.specs.DottedSigns.{dotted_cmp}
use Rattle.pg_patterns.specs.Values.{Patterns, raise}
use Rattle.pg_patterns.specs.Inside.PatternMaps.{IsPatternMap, SignsUpTo}
use Rattle.pg_select.specs.Windows.{Hopeless}
use Rattle.pg_select.specs.declared.pass.Pass.{Pass}
use Rattle.pg_select.specs.Inside.words.PositionLists.{CountedPosition}

-- what an engine holds: patterns, hopeless dotted strings, the counts of the pass, and the families
pub record Meaning : Type 0 where
  pub signs : ℕ
  pub patterns : Patterns
  pub hopeless : Hopeless
  pub counts : Counts
  pub pass : Pass
  pub families : Option Families
  pub begun : ℕ
  pub tidy : Bool

-- what every engine keeps: its maps stand in order, each value is 1 to 9, and each sign is in range
pub record IsMeaning (m : Meaning) : Type 0 where
  pub patterns : IsPatternMap m.patterns
  pub hopeless_order : T (is_sorted dotted_cmp m.hopeless)
  pub counts_order : T (is_sorted (slice_cmp nat_cmp) m.counts)
  pub pattern_signs : SignsUpTo m.signs m.patterns
  pub hopeless_signs : All (λ e. SignsWithin m.signs e.0.0) m.hopeless
  pub counted_signs : (u : List ℕ) → is_counted m.counts u ≡ true → SignsWithin m.signs u

-- an engine that was just made: it has these patterns and families, and nothing else yet
abbrev pub new_engine : ℕ → Patterns → Option Families → Meaning
new_engine signs P families = record {
  signs = signs;
  patterns = P;
  hopeless = [];
  counts = [];
  pass = record { level = 1; len = 1; dot = 0 };
  families = families;
  begun = 0;
  tidy = true;
}

-- the counts with one position more
abbrev pub with_position : Counts → CountedPosition → Counts
with_position counts s = with_count counts s.window s.good s.weight

-- a pass has begun: nothing is counted in it
abbrev pub after_begin_pass : Meaning → ℕ → ℕ → ℕ → Meaning
after_begin_pass m level len dot =
    record m {
      pass = record { level = level; len = len; dot = dot };
      counts = [];
      begun = m.begun + 1;
    }

-- a position was counted
abbrev pub after_count : Meaning → List ℕ → Bool → ℕ → Meaning
after_count m u good weight =
    record m {
      counts = with_position m.counts (record { window = u; good = good; weight = weight });
    }

-- the families after a string is entered, where they are told
abbrev pub families_with : Meaning → List ℕ → Option Families
families_with m u = option_map (λ fs. enter m.signs fs u) m.families

-- a window was chosen: it has at the pass's dot at least the level as its value
abbrev pub after_choose : Meaning → List ℕ → Bool → Meaning
after_choose m u tidy =
    record m {
      patterns = raise m.patterns (u, m.pass.dot) m.pass.level;
      families = families_with m u;
      tidy = tidy;
    }

-- a window was given up: it is hopeless at the pass's dot. Nothing is said of tidiness
abbrev pub after_give_up : Meaning → List ℕ → Bool → Meaning
after_give_up m u tidy =
    record m {
      hopeless = put dotted_cmp (u, m.pass.dot) (tt {0}) m.hopeless;
      families = families_with m u;
      tidy = tidy;
    }

-- a level ended: nothing is hopeless, and only signs and prefixes of patterns keep their cells
abbrev pub after_end_level : Meaning → Meaning
after_end_level m = record m {
  hopeless = [];
  families = option_map (kept_families (map (λ e. e.0.0) m.patterns)) m.families;
  tidy = true;
}

-- all but families and tidiness stayed; a first part of the string was entered into the families
pub record KeepsButFamilies (u : List ℕ) (old new : Meaning) : Type 0 where
  pub kept : new ≡ record old { families = new.families; tidy = new.tidy }
  pub k : ℕ
  pub part : new.families ≡ families_with old (take k u)

-- the numbers of the families, where told; in a tidy engine the tails are those of the patterns
abbrev pub IsLayout : Meaning → Option Layout → Type 0
IsLayout m None = m.families ≡ None
IsLayout m (Some layout) = MatchOption m.families ⊥
    (λ fs. (layout.taken ≡ taken_count fs) × (layout.top ≡ top fs))
    × (m.tidy ≡ true → layout.tails ≡ tails m.patterns)
