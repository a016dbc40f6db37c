-- What a handle owns: the boxed value at its pointer, or nothing, and then the pointer is null.
use Rattle.std.specs.Prelude.{◌≡◌, Option, Some, None}
use base.Fml.{Fml, ftrue, fex, fsep}
use denote.RattleType.{RattleType}
use denote.RawPtr.{Ptr, null_ptr, Testable}
use Rattle.std.specs.declared.alloc.Global.{Global}
use Rattle.std.specs.contracts.impls.GlobalAllocator.TheImpl.{ghosts}
use Rattle.std.specs.Box.Ownership.{box_owns}
use Rattle.embedded_machine.specs.Ticks.{Resting}
use Rattle.embedded_machine.specs.contracts.machine.Machine as machine

-- the heap, whose handle has no value of its own
abbrev pub heap : Global
heap = record { memory = record { seal = tt } }

abbrev pub is_null : Ptr → Fml
is_null p = fex (p ≡ null_ptr) (λ _. ftrue)

-- the pointer may be compared with null
abbrev pub testable : Ptr → Fml
testable p = fex (Testable p) (λ _. ftrue)

-- a boxed value of this type, or none
abbrev pub held_at : (R : RattleType) → Ptr → Option R.Denot → Fml
held_at R p None = is_null p
held_at R p (Some x) = fsep (testable p) (box_owns (ghosts.dealloc_token heap) R p x)

abbrev pub machine_at : Ptr → Option Resting → Fml
machine_at = held_at machine.the_row
