-- Each place of a laid text has its nodes.
use Rattle.std.proofs.Common.{◌≡◌, ℕ, suc, refl, sym, subst}
use Rattle.sc_values.specs.Expr.{postorder}
use Rattle.sc_values.specs.Assignment.{assignment_of}
use Rattle.sc_graph.specs.declared.program.Step.TheVariants as step
use Rattle.sc_graph.specs.Program.{Program}
use Rattle.scl.specs.Block.{Block, End, Assign, Label, Goto, Pause, If, Fork, Branches}
use Rattle.scl.specs.Labels.{before}
use Rattle.scl.specs.Places.{Place, whole, after_assign, after_label, after_goto, after_pause, in_first, in_second, after_if, after_fork, in_branch, IsBranch}
use Rattle.scl.specs.Places.{here, later, threads_of}
use Rattle.scl_graph.specs.Graph.{assigns, end}
use Rattle.scl_graph_laws.specs.Mirrors.{leads, HasNode, HasNodes}
use Rattle.scl_graph_laws.proofs.Laying.{HasThread, LaidIn, LaidAmong}
use Rattle.scl_graph_laws.proofs.Ways.{before_end}

-- what thread t still has to do is laid, up to its end
pub data Goes (q : Program) (root : Block) : (t : ℕ) (todo : Block) → Type 0 where
  ends : (t n : ℕ) → HasNode q n t step.Exit → Goes q root t (End n)
  within : (t : ℕ) (b k todo : Block) → todo ≡ before b k → LaidIn q root t b k → Goes q root t k → Goes q root t todo

-- a branch has its thread, and is laid
pub record HasBranch (q : Program) (root : Block) (t u : ℕ) (body : Block) : Type 0 where
  pub thread : HasThread q root t u body
  pub goes : Goes q root u body

-- the nodes of the first statement, and what is laid within and behind it
abbrev pub Laid : Program → Block → ℕ → Block → Type 0
Laid q root t (End n) = HasNode q n t step.Exit
Laid q root t (Assign n x e rest) = HasNode q n t (assigns x (assignment_of x e) (leads root rest)) × Goes q root t rest
Laid q root t (Label name rest) = Goes q root t rest
Laid q root t (Goto g name rest) = Goes q root t rest
Laid q root t (Pause n rest) = HasNodes q n t (step.Surf (suc n)) (step.Depth (leads root rest)) × Goes q root t rest
Laid q root t (If n e first second rest) =
    HasNode q n t (step.Cond (postorder e) (leads root (before first rest)) (leads root (before second rest)))
    × Goes q root t (before first rest) × Goes q root t (before second rest) × Goes q root t rest
Laid q root t (Fork n branches rest) =
    HasNodes q n t (step.Fork (threads_of branches) (suc n)) (step.Join (leads root rest))
    × ((u : ℕ) (body : Block) → IsBranch branches u body → HasBranch q root t u body) × Goes q root t rest

module _ (q : Program) (root : Block) where
  pub body_goes : (t : ℕ) (body : Block) → HasNode q (end body) t step.Exit → LaidIn q root t body (End (end body)) → Goes q root t body
  body_goes t body exit laid = within t body (End (end body)) body (sym (before_end body)) laid (ends t (end body) exit)

  branches_laid : (t : ℕ) (branches : Branches) (u : ℕ) (body : Block) → IsBranch branches u body → LaidAmong q root t branches → HasBranch q root t u body
  branches_laid t branches u body (here v other more) h = record { thread = h.0; goes = body_goes v other h.1 h.2 }
  branches_laid t branches u body (later w another more v other at) h = branches_laid t more v other at h.3

  pub laid_first : (t : ℕ) (todo : Block) → Goes q root t todo → Laid q root t todo
  laid_first t todo (ends s n exit) = exit
  laid_first t todo (within s (End m) k now is laid more) = subst (Laid q root s) (sym is) (laid_first s k more)
  laid_first t todo (within s (Assign n x e rest) k now is laid more) = subst (Laid q root s) (sym is)
      (laid.0, within s rest k (before rest k) refl laid.1 more)
  laid_first t todo (within s (Label name rest) k now is laid more) = subst (Laid q root s) (sym is) (within s rest k (before rest k) refl laid more)
  laid_first t todo (within s (Goto g name rest) k now is laid more) = subst (Laid q root s) (sym is) (within s rest k (before rest k) refl laid more)
  laid_first t todo (within s (Pause n rest) k now is laid more) = subst (Laid q root s) (sym is) (laid.0, within s rest k (before rest k) refl laid.1 more)
  laid_first t todo (within s (If n e first second rest) k now is laid more) =
      let onward : Goes q root s (before rest k) = within s rest k (before rest k) refl laid.3 more in
      subst (Laid q root s) (sym is) (
        laid.0,
        within s first (before rest k) (before first (before rest k)) refl laid.1 onward,
        within s second (before rest k) (before second (before rest k)) refl laid.2 onward,
        onward,
      )
  laid_first t todo (within s (Fork n branches rest) k now is laid more) =
      subst (Laid q root s) (sym is) (laid.0, λ u body at. branches_laid s branches u body at laid.1, within s rest k (before rest k) refl laid.2 more)

  module _ (all : Goes q root 0 root) where
    pub place_goes : (t : ℕ) (todo : Block) → Place root t todo → Goes q root t todo
    place_goes t todo whole = all
    place_goes t todo (after_assign s n x e rest place) = (laid_first s (Assign n x e rest) (place_goes s (Assign n x e rest) place)).1
    place_goes t todo (after_label s name rest place) = laid_first s (Label name rest) (place_goes s (Label name rest) place)
    place_goes t todo (after_goto s g name rest place) = laid_first s (Goto g name rest) (place_goes s (Goto g name rest) place)
    place_goes t todo (after_pause s n rest place) = (laid_first s (Pause n rest) (place_goes s (Pause n rest) place)).1
    place_goes t todo (in_first s n e a b rest place) = (laid_first s (If n e a b rest) (place_goes s (If n e a b rest) place)).1
    place_goes t todo (in_second s n e a b rest place) = (laid_first s (If n e a b rest) (place_goes s (If n e a b rest) place)).2
    place_goes t todo (after_if s n e a b rest place) = (laid_first s (If n e a b rest) (place_goes s (If n e a b rest) place)).3
    place_goes t todo (after_fork s n branches rest place) = (laid_first s (Fork n branches rest) (place_goes s (Fork n branches rest) place)).2
    place_goes t todo (in_branch s n u branches body rest place at) =
        ((laid_first s (Fork n branches rest) (place_goes s (Fork n branches rest) place)).1 u body at).goes

    pub laid_at : (t : ℕ) (todo : Block) → Place root t todo → Laid q root t todo
    laid_at t todo place = laid_first t todo (place_goes t todo place)
