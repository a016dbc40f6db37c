-- From what was made, and what was written of it, to what a request for a text leaves.
use Rattle.std.proofs.Common.{◌≡◌, ◌∙◌, ℕ, ◌+◌, List, Option, Result, Ok, Err, OnOk, IfOk, IfErr, refl, sym, subst, arith}
use Rattle.command_files.specs.Counting as files_count
use Rattle.command_files.specs.declared.fault.LoadFault.{LoadFault}
use Rattle.sct_command.specs.declared.fault.Fault.{Fault}
use Rattle.sct_command.specs.Failing.{files_failed}
use Rattle.sct_command.specs.Writing.{RefusesMade, RefusesToWrite, Writes, WritesMade}

pub writes : {V T : Type 0} (bytes : V → List ℕ) (Is : List ℕ → Type 0) (made : Result V LoadFault) (r : Result T Fault) (old new : Option (List ℕ))
    → IfOk made (λ v. Is (bytes v)) → OnOk r (WritesMade bytes made old new) → OnOk r (Writes Is old new)
writes bytes Is (Ok v) (Ok done) old new is written = record { text = bytes v; is = is; written = written }
writes bytes Is (Err f) (Ok done) old new is written = absurd written
writes bytes Is made (Err f) old new is written = tt

pub refuses : {V T : Type 0} (bytes : V → List ℕ) (Is : List ℕ → Type 0) (Lacks : LoadFault → Type 0) (made : Result V LoadFault) (r : Result T Fault)
    (old new : Option (List ℕ)) → IfOk made (λ v. Is (bytes v)) → IfErr made Lacks → IfErr r (RefusesMade bytes made old new)
    → IfErr r (RefusesToWrite Is Lacks old new)
refuses bytes Is Lacks made (Ok done) old new is lacks refused = tt
refuses bytes Is Lacks (Ok v) (Err f) old new is lacks (part, same) =
    subst (RefusesToWrite Is Lacks old new) (sym same) (record { text = bytes v; is = is; in_part = part })
refuses bytes Is Lacks (Err g) (Err f) old new is lacks (kept, same) = subst (RefusesToWrite Is Lacks old new) (sym same) (lacks, kept)

-- files failed as the fault says
pub none_missed : {V T : Type 0} (bytes : V → List ℕ) (made : Result V LoadFault) (r : Result T Fault) (old new : Option (List ℕ))
    (failures failures' : ℕ) → OnOk made (failures' ≡ failures) → OnOk r (WritesMade bytes made old new) → OnOk r (failures' ≡ failures)
none_missed bytes (Ok v) (Ok done) old new failures failures' none written = none
none_missed bytes (Err f) (Ok done) old new failures failures' none written = absurd written
none_missed bytes made (Err f) old new failures failures' none written = tt

plus_none : (n : ℕ) → n ≡ n + 0
plus_none n = omega arith

pub missed : {V T : Type 0} (bytes : V → List ℕ) (made : Result V LoadFault) (r : Result T Fault) (old new : Option (List ℕ)) (failures failures' : ℕ)
    → OnOk made (failures' ≡ failures) → IfErr made (λ f. failures' ≡ failures + files_count.files_failed f)
    → IfErr r (RefusesMade bytes made old new) → IfErr r (λ f. failures' ≡ failures + files_failed f)
missed bytes made (Ok done) old new failures failures' none some refused = tt
missed bytes (Ok v) (Err f) old new failures failures' none some (part, same) =
    subst (λ f. failures' ≡ failures + files_failed f) (sym same) (none ∙ plus_none failures)
missed bytes (Err g) (Err f) old new failures failures' none some (kept, same) =
    subst (λ f. failures' ≡ failures + files_failed f) (sym same) some
