use Rattle.std.proofs.Common.{ℕ, List, refl, subst}
use Rattle.program_edges.specs.Inside.Candidates.{IsCovered, left_out}
use Rattle.program_edges.proofs.candidates.keep.Goals as goal

pub returns-then-is_covered : goal.returns-then-is_covered
returns-then-is_covered c =
    let P : List ℕ → Type 0 = λ xs. IsCovered c.args.program.now xs c.args.node in
    left_out refl (subst P c.as_slice.ensures.value (c.is_covered.ensures c.if-is_covered.true))
