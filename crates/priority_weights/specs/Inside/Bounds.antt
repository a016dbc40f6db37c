-- The tick-bound rule for one table of bounds, which is a function of the thread.
use Rattle.std.specs.Prelude.{ℕ, ◌≡◌, ◌<◌, ◌≤◌, ◌+◌, Bool, true, false, Some, List, [], ◌∷◌, length, sum, slice_index}
use Rattle.sc_graph.specs.declared.program.Step.{Step}
use Rattle.sc_graph.specs.declared.program.Step.TheVariants as step
use Rattle.sc_graph.specs.Program.{Program, step_at, owner_of}

abbrev pub bound_sum : (ℕ → ℕ) → List ℕ → ℕ
bound_sum b [] = 0
bound_sum b (k ∷ children) = b k + bound_sum b children

-- what the step of node n asks of the bound of its thread, by weights and bounds
abbrev pub step_cost : (ℕ → ℕ) → (ℕ → ℕ) → ℕ → Step → ℕ
step_cost w b n (step.Depth next) = w n
step_cost w b n (step.Fork children join) = w join + bound_sum b children
step_cost w b n other = 0

-- the bound of its thread covers node n
pub record IsCovered (p : Program) (w b : ℕ → ℕ) (n : ℕ) : Type 0 where
  pub covered : (t : ℕ) (s : Step) → owner_of p n ≡ Some t → step_at p n ≡ Some s → step_cost w b n s ≤ b t

-- the bounds cover all nodes
pub record AreCovering (p : Program) (w b : ℕ → ℕ) : Type 0 where
  pub each : (n : ℕ) → n < length p.nodes → IsCovered p w b n

-- no bound is above what bounds that cover all nodes have there
pub record AreUnder (p : Program) (w : ℕ → ℕ) (bounds : List ℕ) : Type 0 where
  pub long : length bounds ≡ length p.threads
  pub below : (b : ℕ → ℕ) → AreCovering p w b → (t : ℕ) → slice_index bounds t ≤ b t

-- the least bounds that cover all nodes
pub record AreLeastBounds (p : Program) (w : ℕ → ℕ) (bounds : List ℕ) : Type 0 where
  pub under : AreUnder p w bounds
  pub covering : AreCovering p w (slice_index bounds)

-- a bound was raised
pub record IsRaised (p : Program) (w : ℕ → ℕ) (old new : List ℕ) : Type 0 where
  pub under : AreUnder p w new
  pub more : sum old < sum new

-- what became of bounds: some were raised, or all nodes of which this holds are covered
abbrev pub CoverBecame : Program → (ℕ → ℕ) → (ℕ → Type 0) → List ℕ → List ℕ → Bool → Type 0
CoverBecame p w At old new true = IsRaised p w old new
CoverBecame p w At old new false = (new ≡ old) × ((n : ℕ) → At n → n < length p.nodes
    → IsCovered p w (slice_index old) n)
