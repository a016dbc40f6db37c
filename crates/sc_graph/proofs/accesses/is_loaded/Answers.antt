use Rattle.std.proofs.Common.{◌≡◌, sym, ◌∙◌, List, subst}
use Rattle.sc_values.specs.declared.operation.Operation.{Operation}
use Rattle.std.specs.List.{list_any}
use Rattle.sc_graph.specs.Inside.Lookups.{is_load}
use Rattle.sc_graph.proofs.Loaded.{loaded_from_any, any_from_loaded}
use Rattle.sc_graph.proofs.accesses.is_loaded.Goals as goal

pub returns : goal.returns
returns c =
    let P : List Operation → Type 0 = λ xs. c.is_loaded_among.result ≡ list_any (is_load c.args.variable) xs in
    let same : c.is_loaded_among.result ≡ list_any (is_load c.args.variable) c.args.code.now = subst P c.operations.ensures.value c.is_loaded_among.ensures in (
      λ e. loaded_from_any c.args.variable c.args.code.now (sym same ∙ e),
      λ l. same ∙ any_from_loaded c.args.variable c.args.code.now l,
    )
