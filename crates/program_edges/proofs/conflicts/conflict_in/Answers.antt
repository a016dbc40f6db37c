use Rattle.std.proofs.Common.{ℕ, List, subst}
use Rattle.std.specs.Prelude.{Contains}
use Rattle.program_edges.specs.Inside.NoConflicts.{NoneConflict}
use Rattle.program_edges.proofs.conflicts.conflict_in.Goals as goal

pub agree-requires-clause-writers : goal.agree-requires-clause-writers
agree-requires-clause-writers c = λ n among.
    let P : List ℕ → Type 0 = λ xs. Contains xs n in
    c.requires.writers n (c.in_ok-few.ensures.only n (subst P c.as_slice-kept.ensures.value among))

pub returns-then-agree : goal.returns-then-agree
returns-then-agree c =
    let P : List ℕ → Type 0 = λ xs. NoneConflict c.args.program.now xs in
    c.in_ok-few.ensures.suffices (subst P c.as_slice-kept.ensures.value (c.agree.ensures c.if-agree.true))

pub returns : goal.returns
returns c =
    let P : List ℕ → Type 0 = λ xs. NoneConflict c.args.program.now xs in
    c.in_ok-few.ensures.suffices (subst P c.as_slice-kept.ensures.value c.in-None.ensures)
