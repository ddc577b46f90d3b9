-- How the lines of a pass and of a level begin, in the report and in the cells file.
use Rattle.std.specs.Prelude.{ℕ, List, ◌++◌, codes, decimal}
use Rattle.pg_select.specs.declared.pass.Pass.{Pass}

-- `pass LEVEL LEN DOT: `
abbrev pub pass_front : Pass → List ℕ
pass_front p = codes "pass " ++ decimal p.level ++ codes " "
    ++ decimal p.len ++ codes " " ++ decimal p.dot ++ codes ": "

-- `level LEVEL: `
abbrev pub level_front : ℕ → List ℕ
level_front level = codes "level " ++ decimal level ++ codes ": "
