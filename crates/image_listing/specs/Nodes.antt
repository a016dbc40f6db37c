-- The lines of nodes: each node has one, which begins with its number. Behind the number a cell may stand.
use Rattle.std.specs.Prelude.{ℕ, suc, Bool, true, false, List, [], ◌∷◌, ◌++◌, codes, slice_get, unwrap_or}
use Rattle.std.specs.Fmt.{decimal}
use Rattle.sc_graph.specs.declared.program.Variable.{Variable}
use Rattle.sc_graph.specs.declared.program.Node.{Node}
use Rattle.sc_graph.specs.declared.tables.Tables.{Tables}
use Rattle.sc_graph.specs.Tables.{priority, weight, end_bit}
use Rattle.image_listing.specs.Cells.{left_cell, number_cell}
use Rattle.image_listing.specs.Steps.{step_text}

abbrev pub end_text : Bool → List ℕ
end_text true = codes "yes"
end_text false = codes "no "

-- the cell of a node, which is empty where there are no more
abbrev pub cell_of : List (List ℕ) → ℕ → List ℕ
cell_of cells n = unwrap_or (slice_get cells n) []

-- number and cell
abbrev pub number_text : ℕ → (cell : List ℕ) → List ℕ
number_text n cell = left_cell 5 (decimal n) ++ (codes "  " ++ cell)

-- these, thread, priority, weight, end bit, and what it does
abbrev pub node_text : List Variable → Tables → ℕ → (cell : List ℕ) → Node → List ℕ
node_text variables q n cell a =
    number_text n cell ++ (number_cell 6 a.owner
    ++ (codes "  " ++ (number_cell 8 (priority q n)
    ++ (codes "  " ++ (number_cell 6 (weight q n)
    ++ (codes "  " ++ (end_text (end_bit q n)
    ++ (codes "  " ++ (step_text variables a.step ++ codes "\n")))))))))

-- nodes in a row, of which the first has this number, with these cells
abbrev pub nodes_text : List (List ℕ) → List Variable → Tables → ℕ → List Node → List ℕ
nodes_text cells variables q n [] = []
nodes_text cells variables q n (a ∷ nodes) =
    node_text variables q n (cell_of cells n) a ++ nodes_text cells variables q (suc n) nodes
