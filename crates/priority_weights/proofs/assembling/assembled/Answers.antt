use Rattle.std.proofs.Common.{ℕ, ◌≡◌, ◌++◌, ◌∙◌, Bool, List, ap, arith, map, nat_lt}
use Rattle.std.specs.Prelude.{slice_index}
use Rattle.sc_graph.specs.declared.tables.Tables.{Tables}
use Rattle.sc_graph.specs.Program.{entry_of}
use Rattle.priority_weights.proofs.Assembly.{assembled_least, bound_small, entry_small, small_entries}
use Rattle.priority_weights.proofs.assembling.assembled.Goals as goal

pub fill_tables-requires-clause-priorities : goal.fill_tables-requires-clause-priorities
fill_tables-requires-clause-priorities c =
    small_entries c.args.program.now c.requires.formed c.args.priorities.now c.requires.parts.order.long c.requires.parts.order_within

pub fill_tables-requires-clause-weights : goal.fill_tables-requires-clause-weights
fill_tables-requires-clause-weights c =
    small_entries c.args.program.now c.requires.formed c.args.weights.now c.requires.parts.weights_least.long c.requires.parts.weights_within

pub returns-clause-least : goal.returns-clause-least
returns-clause-least c =
    let filled = c.in_ok-fill_tables.ensures in
    let first : c.entry.result ≡ slice_index c.args.bounds.items 0 = c.entry.ensures ∙ ap (λ xs. slice_index xs 0) c.as_slice.ensures.value in
    let second = c.entry_number-entry_weight.ensures.value in
    let most = c.max-budget.ensures in
    let budget : c.fill_tables.new.tables.budget ≡ c.max-budget.result = ap (λ (t : Tables). t.budget) filled in
    assembled_least c.args.program.now c.requires.formed _ c.args.ends.now c.args.priorities.now c.args.weights.now c.args.bounds.items c.requires.parts
    (record {
      ends_are = ap (λ (t : Tables). t.end_bits) filled ∙ ap (λ (xs : List Bool). xs ++ map (nat_lt 0) c.args.ends.now) c.new-3.ensures;
      priorities_are = ap (λ (t : Tables). t.priorities) filled ∙ ap (λ (xs : List ℕ). xs ++ c.args.priorities.now) c.new.ensures;
      weights_are = ap (λ (t : Tables). t.weights) filled ∙ ap (λ (xs : List ℕ). xs ++ c.args.weights.now) c.new-2.ensures;
      bounds_are = ap (λ (t : Tables). t.bounds) filled ∙ c.from_vec.ensures;
      budget_is = omega (arith, budget, first, second, most);
    })

pub returns-clause-budget : goal.returns-clause-budget
returns-clause-budget c =
    let p = c.args.program.now in
    let filled = c.in_ok-fill_tables.ensures in
    let budget : c.fill_tables.new.tables.budget ≡ c.max-budget.result = ap (λ (t : Tables). t.budget) filled in
    let first : c.entry.result ≡ slice_index c.args.bounds.items 0 = c.entry.ensures ∙ ap (λ xs. slice_index xs 0) c.as_slice.ensures.value in
    let second = c.entry_number-entry_weight.ensures.value in
    let most = c.max-budget.ensures in
    let a = bound_small p c.requires.formed c.args.ends.now c.args.priorities.now c.args.weights.now c.args.bounds.items c.requires.parts in
    let b = entry_small p c.requires.formed c.args.ends.now c.args.priorities.now c.args.weights.now c.args.bounds.items c.requires.parts (entry_of p 0) in
    omega (arith, budget, first, second, most, a, b)
