use Rattle.std.proofs.Common.{◌≡◌, ◌++◌, drop, map}
use Rattle.extended_reader.proofs.text_drafts.items.put_declarations.Given as goal

abbrev pub invariant-loop-item : goal.invariant-loop-item
invariant-loop-item l = l.made ++ map (λ x. x.declared) (drop l.item-index l.items) ≡ l.fn.made ++ map (λ x. x.declared) l.items
