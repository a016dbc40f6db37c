-- The limits of a program and of its tables, and of the layout of an image.
use Rattle.std.specs.Prelude.{ℕ}

abbrev pub variable_limit : ℕ
variable_limit = 256

abbrev pub output_limit : ℕ
output_limit = 64

abbrev pub thread_limit : ℕ
thread_limit = 1024

abbrev pub node_limit : ℕ
node_limit = 16384

-- the children of a fork
abbrev pub child_limit : ℕ
child_limit = 64

-- the ancestors of a thread
abbrev pub ancestor_limit : ℕ
ancestor_limit = 32

abbrev pub budget_limit : ℕ
budget_limit = 16777216

-- how many variables, threads and nodes a count of the layout can say
abbrev pub count_limit : ℕ
count_limit = 65535

-- how many children of one fork a count of the layout can say
abbrev pub child_count_limit : ℕ
child_count_limit = 255

-- what stands in the layout for the parent of a thread that has none
abbrev pub no_parent : ℕ
no_parent = 65535
