-- From what a text makes to whether it makes a program.
use Rattle.std.proofs.Common.{◌≡◌, ℕ, Bool, true, false, List, MatchBool, IsTrue, refl, subst, inr}
use Rattle.std.specs.Prelude.{◌↔◌}
use Rattle.sc_graph.specs.Program.{Program}
use Rattle.compiler.specs.Graphs.{Makes}
use Rattle.command_files.specs.Making.{IsUnmade}

-- it makes one, and this is compared
pub other_made : (text : List ℕ) (p q : Program) (b : Bool) → Makes text q → IsTrue b ↔ (q ≡ p) → MatchBool b (Makes text p) (IsUnmade text p)
other_made text p q true made same = subst (Makes text) (same.0 refl) made
other_made text p q false made same = inr (record { other = q; made = made; differs = λ e. (let is : false ≡ true = same.1 e in cc) })
