-- How the rows of a publisher grow, tick by tick.
use Rattle.std.proofs.Common.{◌≡◌, ℕ, Option, Some, None, List, [], ◌∷◌, ◌++◌, ap, sym, ◌∙◌, subst, append_assoc, append-nil}
use Rattle.sc_graph.specs.declared.control.Control.{Control}
use Rattle.sc_graph.specs.Tick.{initial}
use Rattle.bytecode.specs.Image.{Image}
use Rattle.probe.specs.Outputs.{Outputs}
use Rattle.trace_player.specs.Trace.{Shows, next_number}
use Rattle.trace_player.specs.Published.{EndWith, Publishes}
use Rattle.trace_player.specs.Channels.{Gains}

-- after the line of number k the configuration is c, and the ends of the ticks so far were published
abbrev pub Told : Image → ℕ → Control → List (List ℕ) → List (List ℕ) → Option (List Outputs) → Option (List Outputs) → Type 0
Told image k c done out None new = Unit {0}
Told image k c done out (Some old) None = ⊥
Told image k c done out (Some old) (Some new) =
    (rows : List Outputs) × (new ≡ old ++ rows)
    × ((lines rest : List (List ℕ)) (more : List Outputs) → EndWith image (next_number k) c lines rest more
    → EndWith image 1 (initial image.program) (done ++ lines) (out ++ rest) (rows ++ more))

pub none_told : (image : Image) (rows : Option (List Outputs)) → Told image 0 (initial image.program) [] [] rows rows
none_told image None = tt
none_told image (Some rows) = ([], sym (append-nil rows), λ lines rest more ends. ends)

-- one tick more was shown, and its end published
pub one_told : (image : Image) (k : ℕ) (c d : Control) (done out : List (List ℕ)) (old new new' : Option (List Outputs)) (line shown : List ℕ)
    → Told image k c done out old new → Shows image (next_number k) c line d shown → Gains new new' image.program.variables d.variables
    → Told image (next_number k) d (done ++ line ∷ []) (out ++ shown ∷ []) old new'
one_told image k c d done out None new new' line shown told shows gains = tt
one_told image k c d done out (Some old) None new' line shown told shows gains = absurd told
one_told image k c d done out (Some old) (Some new) None line shown told shows gains = absurd gains
one_told image k c d done out (Some old) (Some new) (Some new') line shown told shows gains =
    let rows = told.0 in
    let row = gains.0 in (
      rows ++ row ∷ [],
      gains.1 ∙ ap (λ rs. rs ++ row ∷ []) told.1 ∙ append_assoc old rows (row ∷ []),
      λ lines rest more ends.
          subst (λ xs. EndWith image 1 (initial image.program) xs ((out ++ shown ∷ []) ++ rest) ((rows ++ row ∷ []) ++ more))
          (sym (append_assoc done (line ∷ []) lines))
          (subst (λ ys. EndWith image 1 (initial image.program) (done ++ line ∷ lines) ys ((rows ++ row ∷ []) ++ more))
          (sym (append_assoc out (shown ∷ []) rest))
          (subst (λ zs. EndWith image 1 (initial image.program) (done ++ line ∷ lines) (out ++ shown ∷ rest) zs) (sym (append_assoc rows (row ∷ []) more))
          (told.2 (line ∷ lines) (shown ∷ rest) (row ∷ more) (d, shows, gains.2, ends)))),
    )

none_more : (image : Image) (k : ℕ) (c : Control) (lines : List (List ℕ)) → EndWith image k c lines [] []
none_more image k c [] = tt
none_more image k c (line ∷ lines) = tt

-- the rows of the ticks so far, whatever lines are behind
pub published : (image : Image) (k : ℕ) (c : Control) (done out lines : List (List ℕ)) (old new : Option (List Outputs))
    → Told image k c done out old new → Publishes image (done ++ lines) out old new
published image k c done out lines None new told = tt
published image k c done out lines (Some old) None told = absurd told
published image k c done out lines (Some old) (Some new) told = (
  told.0,
  told.1,
  subst (λ ys. EndWith image 1 (initial image.program) (done ++ lines) ys told.0) (append-nil out)
      (subst (λ zs. EndWith image 1 (initial image.program) (done ++ lines) (out ++ []) zs) (append-nil told.0)
      (told.2 lines [] [] (none_more image (next_number k) c lines))),
)

pub published_so_far : (image : Image) (k : ℕ) (c : Control) (done out : List (List ℕ)) (old new : Option (List Outputs))
    → Told image k c done out old new → Publishes image done out old new
published_so_far image k c done out old new told =
    subst (λ xs. Publishes image xs out old new) (append-nil done) (published image k c done out [] old new told)
