-- The limits of names and codes.
use Rattle.std.specs.Prelude.{ℕ}

-- the bytes of a name
abbrev pub name_limit : ℕ
name_limit = 64

-- the operations of a code
abbrev pub operation_limit : ℕ
operation_limit = 64

-- the operands of a code that stand at any moment
abbrev pub operand_limit : ℕ
operand_limit = 16

-- the loads of a code
abbrev pub load_limit : ℕ
load_limit = 16
