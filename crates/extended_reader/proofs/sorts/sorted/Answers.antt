use Rattle.std.proofs.Common.{◌∙◌, ◌++◌, ap}
use Rattle.extended_reader.specs.declared.sorts.Sort.TheVariants as sort
use Rattle.extended_reader.specs.Items.{all_of, declarations}
use Rattle.extended_reader.proofs.Sorted.{three_sorts}
use Rattle.extended_reader.proofs.sorts.sorted.Goals as goal

pub returns : goal.returns
returns c =
    let items = c.args.items.now in
    c.in_ok-put_declared-3.ensures
    ∙ ap (λ all. all ++ declarations (all_of sort.Constant items))
    (c.in_ok-put_declared-2.ensures
    ∙ ap (λ all. all ++ declarations (all_of sort.Before items))
    (c.in_ok-put_declared.ensures ∙ ap (λ all. all ++ declarations (all_of sort.Variable items)) c.new-all.ensures))
    ∙ three_sorts items
