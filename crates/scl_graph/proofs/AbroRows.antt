-- The graph of ABRO's text has 36 nodes and 6 threads.
use Rattle.std.proofs.Common.{◌≡◌, ℕ, suc, ◌+◌, List, [], ◌∷◌, refl}
use Rattle.std.specs.Prelude.{codes}
use Rattle.sc_values.specs.declared.expression.Expr.{Expr}
use Rattle.scl.specs.declared.statement.Statement.TheOpen as text
use Rattle.scl.specs.Numbering.{Counts, Piece, piece, in_row}

abbrev label : List ℕ → Piece
label name = piece (text.Label name)

abbrev go : List ℕ → Piece
go name = piece (text.Goto name)

abbrev pause : Piece
pause = piece text.Pause

abbrev set : Expr → Piece
set e = piece (text.Assign 0 e)

abbrev when : Expr → List Piece → Piece
when e first = piece (text.If e first [])

abbrev fork : List (List Piece) → Piece
fork branches = piece (text.Fork branches)

-- waits for an event, or is left
abbrev wait : Expr → List Piece
wait e =
    label (codes "_L4")
    ∷ label (codes "_L5")
    ∷ pause
    ∷ when e (go (codes "_L7") ∷ [])
    ∷ when e (go (codes "_L6") ∷ [])
    ∷ go (codes "_L5")
    ∷ label (codes "_L6")
    ∷ go (codes "_L8")
    ∷ label (codes "_L7")
    ∷ go (codes "_L8")
    ∷ label (codes "_L8")
    ∷ []

abbrev inside : Expr → List Piece
inside e =
    label (codes "_L3")
    ∷ fork (wait e ∷ wait e ∷ [])
    ∷ go (codes "_L14")
    ∷ label (codes "_L14")
    ∷ when e (go (codes "_L17") ∷ [])
    ∷ set e
    ∷ go (codes "_L15")
    ∷ label (codes "_L15")
    ∷ label (codes "_L16")
    ∷ pause
    ∷ when e (go (codes "_L17") ∷ [])
    ∷ go (codes "_L16")
    ∷ label (codes "_L17")
    ∷ go (codes "_L18")
    ∷ label (codes "_L18")
    ∷ []

abbrev watcher : Expr → List Piece
watcher e =
    label (codes "_L19")
    ∷ label (codes "_L20")
    ∷ pause
    ∷ when e (set e ∷ go (codes "_L21") ∷ [])
    ∷ go (codes "_L20")
    ∷ label (codes "_L21")
    ∷ go (codes "_L22")
    ∷ label (codes "_L22")
    ∷ []

abbrev around : Expr → List Piece
around e =
    label (codes "_L1")
    ∷ set e
    ∷ go (codes "_L2")
    ∷ label (codes "_L2")
    ∷ fork (inside e ∷ watcher e ∷ [])
    ∷ go (codes "_L23")
    ∷ label (codes "_L23")
    ∷ when e (set e ∷ go (codes "_L1") ∷ [])
    ∷ label (codes "_L24")
    ∷ pause
    ∷ when e (set e ∷ go (codes "_L1") ∷ [])
    ∷ go (codes "_L24")
    ∷ label (codes "_L25")
    ∷ []

abbrev abro : Expr → Counts
abro e = (in_row (fork (around e ∷ []) ∷ [])).counts

abro_nodes : (e : Expr) → suc (abro e).nodes + (abro e).lower ≡ 36
abro_nodes e = refl

abro_threads : (e : Expr) → suc (abro e).threads ≡ 6
abro_threads e = refl
