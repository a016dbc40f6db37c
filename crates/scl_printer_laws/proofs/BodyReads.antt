-- Each printed statement reads as itself.
use Rattle.std.proofs.Common.{◌≡◌, ℕ, List, [], ◌∷◌, map, sym, subst}
use Rattle.std.specs.Prelude.{Some, slice_get}
use Rattle.grammar.proofs.Each.{Every}
use Rattle.sc_text.specs.declared.drafts.parts.Declaration.{Declaration}
use Rattle.sc_text.specs.Flaws.{variable_names}
use Rattle.sc_text.proofs.Distinct.{AreFirst}
use Rattle.scl.specs.declared.statement.Statement.{Statement}
use Rattle.scl.specs.declared.statement.Statement.TheOpen.{Statement-F}
use Rattle.scl.specs.declared.statement.Statement.TheOpen as open_statement
use Rattle.scl.specs.declared.statement.Statement.TheVariants.{rolls-Assign, rolls-Label, rolls-Goto, rolls-Pause, rolls-If, rolls-Fork}
use Rattle.scl.specs.declared.statement.Statement.TheViews.{roll-Statement}
use Rattle.scl.specs.declared.statement.Statement.TheFolds.{ind-Statement, map-Statement}
use Rattle.scl_printer_laws.proofs.Lines.{CanName}
use Rattle.scl_printer_laws.proofs.StatementReads.{Reads}
use Rattle.scl_printer_laws.proofs.SimpleReads.{assign_reads, label_reads, goto_reads, pause_reads}
use Rattle.scl_printer_laws.proofs.IfReads.{if_reads}
use Rattle.scl_printer_laws.proofs.ForkReads.{fork_reads}

module _ (V : List Declaration) (first : AreFirst (variable_names V))
    (called : (i : ℕ) (d : Declaration) → slice_get V i ≡ Some d → CanName d.named.name) where
  abbrev Known : Type 0
  Known = (s : Statement) × Reads V s

  known : (xs : List Known) → Every (Reads V) (map (λ x. x.0) xs)
  known [] = tt
  known (x ∷ xs) = (x.1, known xs)

  known_branches : (bs : List (List Known)) → Every (Every (Reads V)) (map (map (λ (x : Known). x.0)) bs)
  known_branches [] = tt
  known_branches (b ∷ bs) = (known b, known_branches bs)

  abbrev plain : Statement-F Known → Statement-F Statement
  plain y = map-Statement Known Statement (λ x. x.0) y

  at_layer : (y : Statement-F Known) → Reads V (roll-Statement (plain y))
  at_layer (open_statement.Assign x e) = subst (Reads V) (sym (rolls-Assign x e)) (assign_reads V first called x e)
  at_layer (open_statement.Label name) = subst (Reads V) (sym (rolls-Label name)) (label_reads V first name)
  at_layer (open_statement.Goto name) = subst (Reads V) (sym (rolls-Goto name)) (goto_reads V first name)
  at_layer open_statement.Pause = subst (Reads V) (sym rolls-Pause) (pause_reads V first)
  at_layer (open_statement.If e a b) =
      subst (Reads V) (sym (rolls-If e (map (λ (x : Known). x.0) a) (map (λ (x : Known). x.0) b)))
      (if_reads V first e (map (λ (x : Known). x.0) a) (map (λ (x : Known). x.0) b) (known a) (known b))
  at_layer (open_statement.Fork bs) =
      subst (Reads V) (sym (rolls-Fork (map (map (λ (x : Known). x.0)) bs))) (fork_reads V (map (map (λ (x : Known). x.0)) bs) (known_branches bs))

  pub statement_reads : (s : Statement) → Reads V s
  statement_reads = ind-Statement (Reads V) (λ x y is. subst (λ z. Reads V (roll-Statement z)) is (at_layer y))

  pub every_reads : (statements : List Statement) → Every (Reads V) statements
  every_reads [] = tt
  every_reads (s ∷ statements) = (statement_reads s, every_reads statements)
