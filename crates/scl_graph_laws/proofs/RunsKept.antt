-- The graph of an SCL program keeps its runs.
use Rattle.std.proofs.Common.{◌≡◌, ℕ, zero, suc, ◌+◌, Some, List, [], ◌∷◌, ◌++◌, map, slice_get, Contains, sym, ap, subst, ◌∙◌}
use Rattle.std.proofs.lemmas.List.{append-nil}
use Rattle.std.proofs.lemmas.Option.{none-some, same_Some}
use Rattle.sc_graph.specs.declared.program.Variable.{Variable}
use Rattle.scl.specs.declared.program.Scl.{Scl}
use Rattle.scl.specs.Block.{End}
use Rattle.scl.specs.Numbering.{Piece, in_row, pieces_of, numbered}
use Rattle.scl.specs.Rules.{Part, KeepsRules, parts_of}
use Rattle.scl.specs.Rules.{in_row as parts_in_row}
use Rattle.scl_graph.specs.Graph.{program_of}
use Rattle.scl_graph.specs.Loops.{HasNoEmptyLoop}
use Rattle.scl_graph_laws.specs.Keeps.{HaveOwnNames, Keeps}
use Rattle.tick_laws.proofs.Lists.{contains_head, contains_tail}
use Rattle.scl_graph_laws.proofs.Graphs.{graph_keeps}
use Rattle.scl_graph_laws.proofs.Jumping.{places_settle}
use Rattle.scl_graph_laws.proofs.Searching.{lower_labels}
use Rattle.scl_graph_laws.proofs.Scopes.{Distinct, KeepsScopes, stay_within}
use Rattle.scl_graph_laws.proofs.Looping.{no_loop_settles}
use Rattle.scl_graph_laws.proofs.Texts.{at_first, program_mirrors}
use Rattle.scl_graph_laws.proofs.Gathering.{Gathers, text_gathers, thread_finds, thread_loses_none, distinct_names}

-- variables whose names differ
pub name_stands : (variables : List Variable) (i : ℕ) (a : Variable) → slice_get variables i ≡ Some a → Contains (map (λ x. x.name) variables) a.name
name_stands [] i a h = absurd (none-some a h)
name_stands (x ∷ variables) zero a h = subst (λ n. Contains (x.name ∷ map (λ x. x.name) variables) n) (ap (λ x. x.name) (same_Some x a h))
    (contains_head x.name (map (λ x. x.name) variables))
name_stands (x ∷ variables) (suc i) a h = contains_tail x.name a.name (map (λ x. x.name) variables) (name_stands variables i a h)

own_names : (variables : List Variable) → Distinct (map (λ x. x.name) variables) → HaveOwnNames variables
own_names [] distinct i j a b h k same = absurd (none-some a h)
own_names (x ∷ variables) distinct zero zero a b h k same = sym (same_Some x a h) ∙ same_Some x b k
own_names (x ∷ variables) distinct zero (suc j) a b h k same =
    absurd (distinct.0 (subst (Contains (map (λ x. x.name) variables)) (sym same ∙ ap (λ x. x.name) (sym (same_Some x a h))) (name_stands variables j b k)))
own_names (x ∷ variables) distinct (suc i) zero a b h k same =
    absurd (distinct.0 (subst (Contains (map (λ x. x.name) variables)) (same ∙ ap (λ x. x.name) (sym (same_Some x b k))) (name_stands variables i a h)))
own_names (x ∷ variables) distinct (suc i) (suc j) a b h k same = own_names variables distinct.1 i j a b h k same

pub keeps_scopes : (p : Scl) → KeepsRules p.name p.variables p.body → KeepsScopes (numbered p).root
keeps_scopes p kept =
    let q : Part = parts_in_row (parts_of p.body) in
    let r : Piece = in_row (pieces_of p.body) in
    let gathers : Gathers q r = text_gathers p.body in
    let last : ℕ = 0 + r.counts.nodes in
    record {
      distinct =
          subst (λ xs. Distinct (xs ++ lower_labels (numbered p).root)) (sym (gathers.labels (at_first r) (End last) ∙ append-nil q.labels))
          (subst (λ xs. Distinct (q.labels ++ xs)) (sym (gathers.lower (at_first r) (End last) ∙ append-nil q.lower))
          (distinct_names (q.labels ++ q.lower) kept.text.distinct));
      found = thread_finds q r gathers kept.text.found (at_first r) last;
      none_lost = thread_loses_none q r gathers kept.text.found (at_first r) last;
    }

pub program_keeps_runs : (p : Scl) → KeepsRules p.name p.variables p.body → HasNoEmptyLoop (numbered p).root → Keeps (numbered p) (program_of (numbered p))
program_keeps_runs p kept no_loop =
    graph_keeps (numbered p) (program_of (numbered p)) (program_mirrors p)
    (places_settle (numbered p).root (stay_within (numbered p).root (keeps_scopes p kept)) (no_loop_settles (numbered p).root (keeps_scopes p kept) no_loop))
    (own_names p.variables (distinct_names (map (λ x. x.name) p.variables) kept.declared.distinct))
