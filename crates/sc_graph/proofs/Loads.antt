-- The loads of a code, operation by operation.
use Rattle.std.proofs.Common.{ℕ, suc, add-one, ap, ◌∙◌, ◌+◌, ◌<◌, length, drop, get_or, subst, sym, drop-cons, ◌≡◌, ◌↔◌, List, ◌∷◌, MatchOption}
use Rattle.std.proofs.lemmas.List.Elements.{All-cons, All-head, All-tail}
use Rattle.std.specs.Prelude.{⊤}
use Rattle.sc_values.specs.declared.operation.Operation.{Operation}
use Rattle.sc_values.specs.declared.operation.Operation.TheVariants as op
use Rattle.sc_values.specs.Code.{loads, loaded}
use Rattle.sc_graph.specs.Program.{Program}
use Rattle.sc_graph.specs.Size.{InVariables, LoadsFit}

pub first_load_fits : (p : Program) (o : Operation) (code : List Operation) → LoadsFit p (o ∷ code) → MatchOption (loaded o) ⊤ (InVariables p)
first_load_fits p (op.Load x) code fits = All-head (InVariables p) x (loads code) fits
first_load_fits p (op.Literal v) code fits = tt
first_load_fits p (op.Unary f) code fits = tt
first_load_fits p (op.Binary f) code fits = tt

pub more_loads_fit : (p : Program) (o : Operation) (code : List Operation) → MatchOption (loaded o) ⊤ (InVariables p) → LoadsFit p code → LoadsFit p (o ∷ code)
more_loads_fit p (op.Load x) code first fits = All-cons (InVariables p) x (loads code) first fits
more_loads_fit p (op.Literal v) code first fits = fits
more_loads_fit p (op.Unary f) code first fits = fits
more_loads_fit p (op.Binary f) code first fits = fits

pub other_loads_fit : (p : Program) (o : Operation) (code : List Operation) → LoadsFit p (o ∷ code) → LoadsFit p code
other_loads_fit p (op.Load x) code fits = All-tail (InVariables p) x (loads code) fits
other_loads_fit p (op.Literal v) code fits = fits
other_loads_fit p (op.Unary f) code fits = fits
other_loads_fit p (op.Binary f) code fits = fits

-- the operation at i, and what comes behind it
at_item : (code : List Operation) (i : ℕ) (o : Operation) → i < length code → o ≡ get_or code i o → drop i code ≡ o ∷ drop (i + 1) code
at_item code i o lt is_at = rw add-one (drop-cons code i o lt ∙ ap (λ x. x ∷ drop (suc i) code) (sym is_at))

pub load_refused : (p : Program) (code : List Operation) (i : ℕ) (o : Operation) → i < length code → o ≡ get_or code i o
    → ¬ MatchOption (loaded o) ⊤ (InVariables p) → ¬ LoadsFit p (drop i code)
load_refused p code i o lt is_at refused fits =
    refused (first_load_fits p o (drop (i + 1) code) (subst (λ (xs : List Operation). LoadsFit p xs) (at_item code i o lt is_at) fits))

pub load_passed : (p : Program) (code : List Operation) (i : ℕ) (o : Operation) → i < length code → o ≡ get_or code i o
    → MatchOption (loaded o) ⊤ (InVariables p) → LoadsFit p (drop i code) ↔ LoadsFit p (drop (i + 1) code)
load_passed p code i o lt is_at passed =
    let e = at_item code i o lt is_at in (
      λ fits. other_loads_fit p o (drop (i + 1) code) (subst (λ (xs : List Operation). LoadsFit p xs) e fits),
      λ fits. subst (λ (xs : List Operation). LoadsFit p xs) (sym e) (more_loads_fit p o (drop (i + 1) code) passed fits),
    )
