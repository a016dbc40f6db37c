-- The lowering of a chart keeps the rules and limits of SCL, where its labels can be counted.
use Rattle.std.proofs.Common.{◌≡◌, ◌≢◌, ℕ, ◌+◌, ◌<◌, ◌≤◌, ◌^◌, IsTrue, List, [], ◌∷◌, map, length, refl, sym, subst, arith}
use Rattle.sc_values.specs.declared.value.Kind.TheVariants as kind_is
use Rattle.sc_graph.specs.declared.program.Variable.{Variable}
use Rattle.sc_graph.specs.Limits.{child_limit}
use Rattle.sc_text.specs.declared.language.Language.{Language}
use Rattle.sc_text.specs.declared.language.Language.TheVariants as language
use Rattle.sc_text.specs.Parts.{IsNameIn, AreVariables, IsExpression, are_distinct}
use Rattle.scl.specs.Rules.{Part, in_row, thread, fork_limit, IsAssignment, KeepsBody, KeepsRules}
use Rattle.core_charts.specs.declared.features.Features.{Features}
use Rattle.core_charts.specs.Chart.{Chart}
use Rattle.core_charts.specs.Rules.{IsChart, language as features_language}
use Rattle.sc_text.proofs.EachItem.{Each, each_at, each_more, each_map}
use Rattle.chart_lowering.specs.Lowering.{label_name, RegionPiece, labels_in, piece_of_region, lowered}
use Rattle.chart_lowering.proofs.Names.{IsCountable, label_in_scl}
use Rattle.chart_lowering.proofs.Once.{count}
use Rattle.chart_lowering.proofs.Parts.{row, parts_are}
use Rattle.chart_lowering.proofs.Pieces.{IsPiece, empty_piece, thread_piece}
use Rattle.chart_lowering.proofs.Inside.{IsBody, fork_row}
use Rattle.chart_lowering.proofs.Distinct.{names_distinct, all_below}
use Rattle.chart_lowering.proofs.PiecesKept.{inner, same_length}

each_name : (ns : List ℕ) → Each (λ name. IsNameIn language.Scl name) (map label_name ns)
each_name [] = tt
each_name (n ∷ ns) = (label_in_scl n, each_name ns)

-- what a whole thread says, where its labels can be counted
keeps_body : (variables : List Variable) (end size : ℕ) (p : Part) → 1 + size ≤ 2 ^ 64 → IsPiece variables [] fork_limit 0 1 size p → p.labels ≡ []
    → KeepsBody variables p
keeps_body variables end size p small a none =
    let once : (k : ℕ) → count k a.below ≤ 1 = λ k. omega (arith, a.counted.once k) in
    let below : Each (λ n. n < 1 + size) a.below = all_below (1 + size) a.below (λ k le. omega (arith, a.counted.behind k le)) in
    let countable : Each IsCountable a.below = each_more (λ n. n < 1 + size) IsCountable a.below (λ n lt. omega (arith, lt, small)) below in
    record {
      assignments = λ n x e at. each_at (λ y. IsAssignment variables y.0 y.1) p.assigned a.assigned n (x, e) at;
      tests = λ n e at. each_at (IsExpression (map (λ v. v.kind) variables) kind_is.Bool) p.tests a.tests n e at;
      distinct = subst (λ names. IsTrue (are_distinct names)) (sym a.lower) (names_distinct a.below countable once);
      named = λ n name at. each_at (λ x. IsNameIn language.Scl x) p.lower (subst (Each (λ x. IsNameIn language.Scl x)) (sym a.lower) (each_name a.below)) n name
          at;
      found = a.lost;
      branches = λ n m at. each_at (λ x. (1 ≤ x) × (x ≤ child_limit)) p.forks a.forks n m at;
      forks = a.depth;
      ifs = omega (arith, a.lower_ifs);
    }

some_regions : {A : Type 0} (xs : List A) → xs ≢ [] → 1 ≤ length xs
some_regions [] h = absurd (h refl)
some_regions (x ∷ xs) h = omega arith

name_in_scl : (l : Language) (name : List ℕ) → IsNameIn l name → IsNameIn language.Scl name
name_in_scl l name h = record { free = h.free; begins = λ first at. refl }

variables_in_scl : (l : Language) (variables : List Variable) → AreVariables l variables → AreVariables language.Scl variables
variables_in_scl l variables h = record {
  count = h.count;
  outputs = h.outputs;
  named = λ i x at. name_in_scl l x.name (h.named i x at);
  distinct = h.distinct;
}

pub keeps_rules : (f : Features) (c : Chart) → IsChart f c → 1 + labels_in (map piece_of_region c.regions) ≤ 2 ^ 64 → KeepsRules c.name c.variables (lowered c)
keeps_rules f c h small =
    let pieces : List RegionPiece = map piece_of_region c.regions in
    let inside : (length c.regions ≤ child_limit) × Each (λ r. IsBody c.variables 31 (piece_of_region r)) c.regions = inner f c.variables 32 c.regions h.regions
    in
    let same : length pieces ≡ length c.regions = same_length c.regions in
    let some : 1 ≤ length c.regions = some_regions c.regions h.some_region in
    let size : ℕ = labels_in pieces in
    let text : IsPiece c.variables [] fork_limit 1 1 size (row (lowered c)) =
    fork_row c.variables [] 31 1 0 (1 + size) size pieces [] refl (omega arith) (omega (arith, same, some)) (omega (arith, same, inside.0))
    (each_map (IsBody c.variables 31) piece_of_region c.regions inside.1) (empty_piece c.variables [] fork_limit 1 (1 + size)) in
    record {
      named = name_in_scl (features_language f) c.name h.named;
      declared = variables_in_scl (features_language f) c.variables h.variables;
      text =
          subst (λ ps. KeepsBody c.variables (thread (in_row ps))) (sym (parts_are (lowered c)))
          (keeps_body c.variables 1 size (thread (row (lowered c))) small
          (thread_piece c.variables [] [] fork_limit 1 1 size (row (lowered c)) (omega arith) (λ name is. absurd cc) text) refl);
    }
