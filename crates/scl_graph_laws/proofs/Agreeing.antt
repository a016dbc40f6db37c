-- A step of SCL and one of the graph that do the same.
use Rattle.std.proofs.Common.{◌≡◌, ℕ, Bool, true, false, Option, Some, List, [], ◌∷◌, map, refl, sym, subst, option_map}
use Rattle.sc_values.specs.declared.value.Value.{Value}
use Rattle.sc_values.specs.Operator.{kind_of}
use Rattle.sc_graph.specs.declared.control.Status.TheVariants as status
use Rattle.sc_graph.specs.Program.{Program, is_target}
use Rattle.sc_graph.specs.Steps.{Change, Effect, changed, only_if, goes}
use Rattle.scl.specs.Block.{Block}
use Rattle.scl.specs.Labels.{settled}
use Rattle.scl.specs.Meaning.{Todo, ThreadChange, goes_on}
use Rattle.scl_graph.specs.Graph.{number}
use Rattle.scl_graph_laws.specs.Alike.{Both}
use Rattle.scl_graph_laws.specs.Settling.{Settled}
use Rattle.scl_graph_laws.proofs.Moving.{stands, MoveWithin}

-- each value is of the kind that it was
abbrev pub KeepsKinds : List Value → Change → Type 0
KeepsKinds variables c = map kind_of (changed c variables) ≡ map kind_of variables

-- they do the same to these variables, and move the same threads alike, each to a place of its text
pub record SameChange (root : Block) (variables : List Value) (d : ThreadChange) (e : Effect) : Type 0 where
  pub change : changed e.change variables ≡ changed d.change variables
  pub moves : e.moves ≡ map stands d.moves
  pub kinds : KeepsKinds variables d.change
  pub within : MoveWithin root d.moves

-- both are undefined, or both are defined and do the same
abbrev pub Agree : Block → List Value → Option ThreadChange → Option Effect → Type 0
Agree root variables d e = Both (SameChange root variables) d e

-- each is asked for the same
pub agree_if : (root : Block) (variables : List Value) (a b : Bool) → a ≡ b → (d : Option ThreadChange) (e : Option Effect) →
    (a ≡ true → Agree root variables d e)
    → Agree root variables (only_if a d) (only_if b e)
agree_if root variables true true is d e h = h refl
agree_if root variables false false is d e h = tt
agree_if root variables true false is d e h = absurd (cc)
agree_if root variables false true is d e h = absurd (cc)

-- a place of the text leads to a statement whose node is a target
pub record GoesTo (q : Program) (root : Block) (t : ℕ) (todo : Block) : Type 0 where
  pub to : Settled root t todo
  pub target : is_target q t (number (Some to.first)) ≡ true

-- the thread goes on with this, and changes the variables alike
pub agree_onward : (q : Program) (root : Block) (t : ℕ) (todo : Block) (variables : List Value) → GoesTo q root t todo → (c d : Change) → changed d variables
    ≡ changed c variables → KeepsKinds variables c →
    Agree root variables (goes_on root t c todo) (goes q t d (number (settled root todo)))
agree_onward q root t todo variables onward c d same kinds =
    let to : Settled root t todo = onward.to in
    subst (λ o. Agree root variables (option_map (λ k. record { change = c; moves = (t, Todo k) ∷ [] }) o) (goes q t d (number o))) (sym to.is)
    (subst (λ b. Agree root variables (Some (record { change = c; moves = (t, Todo to.first) ∷ [] }))
    (only_if b (Some (record { change = d; moves = (t, status.At (number (Some to.first))) ∷ [] })))) (sym onward.target)
    (record { change = same; moves = refl; kinds = kinds; within = ((to.place, to.is_step), tt) }))
