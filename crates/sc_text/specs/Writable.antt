-- What a text can write of an expression's operations.
use Rattle.std.specs.Prelude.{Bool, true}
use Rattle.sc_text.specs.declared.operation.TextOperation.{TextOperation}
use Rattle.sc_text.specs.declared.operation.TextOperation.TheVariants as op
use Rattle.sc_text.specs.Parts.{is_writable_literal, is_writable_unary}

-- no negative literal, and no divisor that is -2147483648
abbrev pub is_writable_operation : TextOperation → Bool
is_writable_operation (op.Literal v) = is_writable_literal v
is_writable_operation (op.Unary f) = is_writable_unary f
is_writable_operation o = true
