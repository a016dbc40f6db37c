use Rattle.std.proofs.Common.{◌≡◌, List, ℕ, sym, ◌∙◌, subst}
use Rattle.std.specs.Prelude.{slice_index}
use Rattle.priority_weights.specs.Inside.Entries.{bits, entry_bits}
use Rattle.priority_weights.proofs.GoingOn.{join_told, no_join_told}
use Rattle.priority_weights.proofs.going_on.GoingOn.join_at_once.Goals as goal

pub returns-then-entry_bits : goal.returns-then-entry_bits
returns-then-entry_bits c =
    let p = c.args.self.now.program.now in
    let e = bits (slice_index c.args.self.now.ends.now) in
    let P : List ℕ → Type 0 = λ xs. c.entry_bits.result ≡ entry_bits p e xs in
    join_told p e c.args.step.now c.in-Fork.children c.in-Fork.join c.in-Fork.is (sym (subst P c.as_slice.ensures c.entry_bits.ensures) ∙ c.if-entry_bits.true)

pub returns-else-entry_bits : goal.returns-else-entry_bits
returns-else-entry_bits c =
    let p = c.args.self.now.program.now in
    let e = bits (slice_index c.args.self.now.ends.now) in
    let P : List ℕ → Type 0 = λ xs. c.entry_bits.result ≡ entry_bits p e xs in
    no_join_told p e c.args.step.now c.in-Fork.children c.in-Fork.join c.in-Fork.is (sym (subst P c.as_slice.ensures c.entry_bits.ensures)
    ∙ c.if-entry_bits.false)
