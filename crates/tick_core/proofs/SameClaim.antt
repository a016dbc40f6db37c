-- When two claims are the same.
use Rattle.std.proofs.Common.{◌≡◌, ◌∙◌, Bool, List, Option, Some, None, refl, sym, ap}
use Rattle.std.specs.Bool.{Decides}
use Rattle.std.specs.Cmp.Lexicographic.{pointwise}
use Rattle.std.proofs.lemmas.Slice.Eq.{slice_eq-Decides}
use Rattle.sc_values.specs.declared.value.Value.{Value}
use Rattle.sc_values.specs.declared.operation.Operation.{Operation}
use Rattle.sc_values.specs.Checked.{Checked}
use Rattle.sc_values.specs.contracts.operation.OperationPartialEq.TheImpl as operation
use Rattle.sc_values.proofs.Equality.{operation_decides}
use Rattle.tick_core.specs.Claims.{Claim, HasOperands, checked_by, operations_of}
use Rattle.tick_core.specs.Inside.Work.{IsAlike, DoesSame}

some_same : (a b : List Operation) → Some a ≡ Some b → a ≡ b
some_same a b same = cc

-- what `==` says of two codes that are there
pub codes_decide : (a b : List Operation) (answer : Bool) → answer ≡ pointwise operation.eq-value.it a b → Decides answer (Some a ≡ Some b)
codes_decide a b answer is =
    let d : Decides answer (a ≡ b) = slice_eq-Decides operation_decides a b answer is in
    (λ h. ap Some (d.0 h), λ same. d.1 (some_same a b same))

claim_same : (a b : Claim) → IsAlike a b → DoesSame a b → a ≡ b
claim_same a b alike work i =
    record { worker = alike.worker i; thread = alike.thread i; node = alike.node i; code = work.code i; operands = work.operands i; commits = alike.commits i }

-- of claims that are alike, the work decides
pub work_decides : (a b : Claim) (answer : Bool) → IsAlike a b → Decides answer (DoesSame a b) → Decides answer (a ≡ b)
work_decides a b answer alike test =
    (λ h. claim_same a b alike (test.0 h), λ same. test.1 (record { code = ap (λ x. x.code) same; operands = ap (λ x. x.operands) same }))

-- the operations and the operands of a claim determine its code
pub checked_is : (code : Option Checked) (operands : List Value) → HasOperands code operands → code ≡ checked_by (operations_of code) operands
checked_is None operands fits = refl
checked_is (Some k) operands fits = λ i. Some (record { operations = k.operations; loads = sym fits i })

-- of claims of the same operations, the operands decide whether they do the same
pub operands_decide : (a b : Claim) (answer : Bool) → HasOperands b.code b.operands → a.code ≡ checked_by (operations_of a.code) a.operands →
    operations_of a.code ≡ operations_of b.code → Decides answer (a.operands ≡ b.operands) → Decides answer (DoesSame a b)
operands_decide a b answer fits is code test = (
  λ h. record { code = is ∙ (λ i. checked_by (code i) (test.0 h i)) ∙ sym (checked_is b.code b.operands fits); operands = test.0 h },
  λ same. test.1 same.operands,
)
