use Rattle.std.proofs.Common.{◌≡◌, subst, sym, rules}
use Rattle.std.proofs.lemmas.Slice.Eq.{slice_eq-Decides}
use Rattle.std.specs.Cmp.{unsigned_Decides}
use Rattle.bytecode.specs.Spells.{Spells}
use Rattle.image_charts.proofs.Same.{same_spelling}
use Rattle.image_charts.proofs.finding.are_same.Goals as goal

pub returns : goal.returns
returns c =
    let i = c.args.image.now in
    let j = c.args.other.now in
    let first : c.as_slice.result.now ≡ c.in_ok-bytes.bytes.items = search rules in
    let second : c.as_slice-2.result.now ≡ c.in_ok-others.others.items = search rules in
    let of_i : Spells 2 c.as_slice.result.now i = subst (λ xs. Spells 2 xs i) (sym first) c.in_ok-bytes.ensures in
    let of_j : Spells 2 c.as_slice-2.result.now j = subst (λ xs. Spells 2 xs j) (sym second) c.in_ok-others.ensures in
    same_spelling i j c.as_slice.result.now c.as_slice-2.result.now c.eq.result of_i of_j (slice_eq-Decides unsigned_Decides _ _ _ c.eq.ensures)
