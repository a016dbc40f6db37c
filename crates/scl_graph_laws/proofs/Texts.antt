-- The numbers of a whole text run on, so its program is its graph.
use Rattle.std.proofs.Common.{◌≡◌, suc, ◌+◌, List, [], ◌∷◌, refl, ◌∙◌, arith}
use Rattle.sc_graph.specs.declared.program.Variable.{Variable}
use Rattle.scl.specs.declared.statement.Statement.{Statement}
use Rattle.scl.specs.declared.program.Scl.{Scl}
use Rattle.scl.specs.Block.{Block, End}
use Rattle.scl.specs.Numbering.{Piece, Numbers, in_row, numbered_body, pieces_of, numbered}
use Rattle.scl_graph.specs.Graph.{program_of}
use Rattle.scl_graph_laws.specs.Mirrors.{Mirrors}
use Rattle.scl_graph_laws.proofs.Numbers.{own_nodes, thread_count, RunsOn, AllRunOn, row_runs_on, numbered_at, statement_runs_on}
use Rattle.scl_graph_laws.proofs.Whole.{IsWhole, mirrors}

-- the numbers at the beginning of a text
abbrev pub at_first : Piece → Numbers
at_first p = record { node = 0; thread = 1; base = suc p.counts.nodes; goto = 0 }

pub text_is_whole : (variables : List Variable) (p : Piece) → RunsOn p → IsWhole (numbered_body variables p)
text_is_whole variables p h =
    let last : Block = End (0 + p.counts.nodes) in
    let own : own_nodes (p.made (at_first p) last) ≡ p.counts.nodes + 0 = h.own (at_first p) last in
    let below : thread_count (p.made (at_first p) last) ≡ p.counts.threads + 0 = h.threads (at_first p) last in
    record {
      threads = omega (arith, below);
      end = h.ends (at_first p) last ∙ omega (arith, own);
      numbers = numbered_at (p.made (at_first p) last) 0 1 (suc p.counts.nodes) 0 1 (suc (own_nodes (p.made (at_first p) last))) refl refl (omega (arith, own))
          (h.numbered (at_first p) last tt);
    }

pub all_run_on : (statements : List Statement) → AllRunOn (pieces_of statements)
all_run_on [] = tt
all_run_on (s ∷ statements) = (statement_runs_on s, all_run_on statements)

-- the program of an SCL program is its graph
pub program_mirrors : (p : Scl) → Mirrors (numbered p) (program_of (numbered p))
program_mirrors p = mirrors (numbered p) (text_is_whole p.variables (in_row (pieces_of p.body)) (row_runs_on (pieces_of p.body) (all_run_on p.body)))
