-- What one step does to the variables, and the protocol between concurrent steps: initialize, then
-- update, then read.
use Rattle.std.specs.Prelude.{ℕ, ◌≡◌, ◌≢◌, Bool, false, Option, Some, List, [], Contains}
use Rattle.std.specs.Ordering.{int_eq}
use Rattle.sc_values.specs.declared.value.Value.{Value}
use Rattle.sc_values.specs.declared.value.Value.TheVariants as value
use Rattle.sc_values.specs.declared.operator.Combination.{Combination}
use Rattle.sc_values.specs.Operator.{same}

-- what a step writes. An init carries its literal, where its expression is nothing but one
pub data Writing : Type 0 where
  Nothing : Writing
  Init : (x : ℕ) (literal : Option Value) → Writing
  Update : (x : ℕ) (f : Combination) → Writing

-- the variables that a step reads, and what it writes. An update as such isn't a read of its own variable
pub record Access : Type 0 where
  pub reads : List ℕ
  pub writes : Writing

abbrev pub no_access : Access
no_access = record { reads = []; writes = Nothing }

abbrev pub Reads : Access → ℕ → Type 0
Reads a x = Contains a.reads x

abbrev pub Inits : Access → ℕ → Type 0
Inits a x = (literal : Option Value) × (a.writes ≡ Init x literal)

abbrev pub Updates : Access → ℕ → Combination → Type 0
Updates a x f = a.writes ≡ Update x f

-- of two concurrent steps the first must come before the second
pub data Precedes (a b : Access) : Type 0 where
  init_update : (x : ℕ) (f : Combination) → Inits a x → Updates b x f → Precedes a b
  init_read : (x : ℕ) → Inits a x → Reads b x → Precedes a b
  update_read : (x : ℕ) (f : Combination) → Updates a x f → Reads b x → Precedes a b

abbrev pub same_value : Value → Value → Bool
same_value (value.Bool a) (value.Bool b) = same a b
same_value (value.Int m) (value.Int n) = int_eq m n
same_value v w = false

-- there are two literals, and they are equal
abbrev pub same_literal : Option Value → Option Value → Bool
same_literal (Some v) (Some w) = same_value v w
same_literal a b = false

-- both are inits by one literal: each carries a literal, and the two are equal
abbrev pub one_literal : Writing → Writing → Bool
one_literal (Init x v) (Init y w) = same_literal v w
one_literal a b = false

-- two concurrent steps may not both be taken, in whatever order: two inits of one variable, unless they
-- are by one literal, and two updates of it by different combinations
pub data Clash (a b : Access) : Type 0 where
  two_inits : (x : ℕ) → Inits a x → Inits b x → one_literal a.writes b.writes ≡ false → Clash a b
  two_updates : (x : ℕ) (f g : Combination) → Updates a x f → Updates b x g → f ≢ g → Clash a b

-- of two concurrent steps the first may come before the second
pub record MayPrecede (a b : Access) : Type 0 where
  pub no_order : ¬ Precedes b a
  pub no_clash : ¬ Clash a b
