-- How deep the statements of a program are nested. No public contract rests on it.
use Rattle.std.specs.Prelude.{ℕ, ◌+◌, ◌*◌, ◌≤◌}
use Rattle.scl.specs.Rules.{Part, if_limit}

-- more levels than those of any program
abbrev pub level_limit : ℕ
level_limit = 4096

-- the levels of a thread's ifs, and of the fork in which it stands
abbrev pub thread_levels : ℕ
thread_levels = 33

-- statements on this level, and those nested in them
pub record HasLevels (level : ℕ) (p : Part) : Type 0 where
  pub own : level + (p.ifs + p.depth * thread_levels) ≤ level_limit
  pub lower : p.lower_ifs ≤ if_limit
