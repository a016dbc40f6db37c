-- The texts of a core chart's states and regions are pieces, since the chart keeps its rules.
use Rattle.std.proofs.Common.{◌≡◌, ℕ, zero, suc, ◌+◌, ◌≤◌, Bool, true, false, cond, List, [], ◌∷◌, map, length, count_by, refl, ap, sym, subst, ◌∙◌, arith}
use Rattle.std.proofs.lemmas.List.Recursion.{is_count_by}
use Rattle.sc_graph.specs.declared.program.Variable.{Variable}
use Rattle.sc_graph.specs.Limits.{child_limit}
use Rattle.scl.specs.declared.statement.Statement.TheVariants as statement
use Rattle.core_charts.specs.declared.features.Features.{Features}
use Rattle.core_charts.specs.declared.features.Features.TheVariants as features
use Rattle.core_charts.specs.declared.region.Region.{Region}
use Rattle.core_charts.specs.declared.region.State.{State}
use Rattle.core_charts.specs.declared.region.Transition.{Transition}
use Rattle.core_charts.specs.declared.region.Region.TheViews.{out-Region, out-State}
use Rattle.core_charts.specs.declared.region.Region.TheFolds.{fold_out-Region, fold_out-State}
use Rattle.core_charts.specs.Rules.{IsEffect, IsTransition, IsState, IsRegion, AreRegions, has_regions, region_limit}
use Rattle.core_charts.specs.Tests.{at_once, is_join, terminations}
use Rattle.sc_text.proofs.EachItem.{Each, each_of, each_map, each_filter}
use Rattle.chart_lowering.specs.Lowering.{branches, transitions, depth, behind, labels_in, RegionPiece, StatePiece, text_of, labels_of, region_piece}
use Rattle.chart_lowering.specs.Lowering.{state_piece, piece_of_region, piece_of_state}
use Rattle.chart_lowering.proofs.Inside.{IsTaken, IsBody, begins_with, simple_piece, final_piece, superstate_piece}
use Rattle.chart_lowering.proofs.Bodies.{IsText, initial_count, body_is_piece}

taken_of : (f : Features) (variables : List Variable) (n : ℕ) (super : Bool) (t : Transition) → IsTransition f variables n super t → IsTaken variables t
taken_of f variables n super t h = record { trigger = h.trigger; effects = each_of (λ e. IsEffect variables e) t.effects h.effects }

-- the regions in a state that nest this many levels deep at most
abbrev pub AreInner : List Variable → ℕ → List Region → Type 0
AreInner variables zero regions = regions ≡ []
AreInner variables (suc levels) regions = (length regions ≤ child_limit) × Each (λ r. IsBody variables levels (piece_of_region r)) regions

some_there : {A : Type 0} (x : A) (xs : List A) → 1 ≤ length (x ∷ xs)
some_there x xs = omega arith

pub same_length : (regions : List Region) → length (map piece_of_region regions) ≡ length regions
same_length [] = refl
same_length (r ∷ regions) = ap suc (same_length regions)

-- a state with these regions and transitions
state_text : (variables : List Variable) (levels : ℕ) (is_initial is_final : Bool) (regions : List Region) (all : List Transition)
    → AreInner variables levels regions → Each (IsTaken variables) all
    → IsText variables levels (record {
      is_initial = is_initial;
      labels = labels_of is_final (map piece_of_region regions) all;
      text = text_of is_final (map piece_of_region regions) all;
    })
state_text variables levels is_initial true regions all inner h = record {
  piece = λ at n. final_piece variables levels n at;
  begins = λ at n. begins_with n (statement.Goto at.end ∷ []);
}
state_text variables levels is_initial false [] all inner h = record {
  piece = λ at n. simple_piece variables levels n at all h (each_filter (IsTaken variables) (λ t. t.immediate) all h);
  begins = λ at n. begins_with n (transitions at (at_once all) (depth at all (suc n)));
}
state_text variables zero is_initial false (r ∷ regions) all inner h = absurd cc
state_text variables (suc levels) is_initial false (r ∷ regions) all inner h =
    let pieces : List RegionPiece = map piece_of_region (r ∷ regions) in
    let few : length pieces ≤ child_limit = subst (λ n. n ≤ child_limit) (sym (same_length (r ∷ regions))) inner.0 in
    record {
      piece = λ at n.
          superstate_piece variables levels n at pieces all (some_there (piece_of_region r) (map piece_of_region regions)) few
          (each_map (IsBody variables levels) piece_of_region (r ∷ regions) inner.1)
          (each_filter (IsTaken variables) (λ t. is_join t.kind) all h);
      begins = λ at n.
          begins_with n (statement.Fork (branches pieces (suc n)) ∷ behind at (terminations all) (suc n + labels_in pieces));
    }

-- a state whose regions keep their rules
state_is_text : (f : Features) (variables : List Variable) (levels : ℕ)
    → ((regions : List Region) → AreRegions f variables levels regions → AreInner variables levels regions)
    → (n : ℕ) (s : State) → IsState f variables (AreRegions f variables levels) n s → IsText variables levels (piece_of_state s)
state_is_text f variables levels inner n s h =
    subst (IsText variables levels) (sym (fold_out-State RegionPiece StatePiece region_piece state_piece s))
    (state_text variables levels (out-State s).is_initial (out-State s).is_final (out-State s).regions (out-State s).transitions
    (inner (out-State s).regions h.regions)
    (each_of (IsTaken variables) (out-State s).transitions
    (λ i t at. taken_of f variables n (has_regions (out-State s).regions) t (h.transitions i t at))))

-- ---- regions

same_initial : (s : State) → (piece_of_state s).is_initial ≡ (out-State s).is_initial
same_initial s = ap (λ p. p.is_initial) (fold_out-State RegionPiece StatePiece region_piece state_piece s)

initial_step : (s : State) (states : List State)
    → initial_count (map piece_of_state (s ∷ states)) ≡ cond (out-State s).is_initial (1 + initial_count (map piece_of_state states))
    (initial_count (map piece_of_state states))
initial_step s states = rw (same_initial s) refl

one_initial : (states : List State) → count_by (λ s. (out-State s).is_initial) states ≡ 1 → initial_count (map piece_of_state states) ≡ 1
one_initial states one =
    is_count_by (λ xs. initial_count (map piece_of_state xs)) (λ s. (out-State s).is_initial) refl initial_step states ∙ one

-- a region whose states keep their rules
region_is_body : (f : Features) (variables : List Variable) (levels : ℕ)
    → ((regions : List Region) → AreRegions f variables levels regions → AreInner variables levels regions)
    → (r : Region) → IsRegion f variables (AreRegions f variables levels) r → IsBody variables levels (piece_of_region r)
region_is_body f variables levels inner r h =
    let states : List State = (out-Region r).states in
    subst (IsBody variables levels) (sym (fold_out-Region RegionPiece StatePiece region_piece state_piece r))
    (record {
      piece = λ targets n.
          body_is_piece variables levels (map piece_of_state states)
          (each_map (IsText variables levels) piece_of_state states
          (each_of (λ s. IsText variables levels (piece_of_state s)) states
          (λ i s at. state_is_text f variables levels inner (length states) s (h.states i s at))))
          (one_initial states h.one_initial) targets n;
    })

few_regions : (f : Features) (n : ℕ) → n ≤ region_limit f → n ≤ child_limit
few_regions features.Extended n h = omega (arith, h)
few_regions features.Core n h = h

pub inner : (f : Features) (variables : List Variable) (levels : ℕ) (regions : List Region) → AreRegions f variables levels regions
    → AreInner variables levels regions
inner f variables zero regions h = h
inner f variables (suc levels) regions h = (
  few_regions f (length regions) h.count,
  each_of (λ r. IsBody variables levels (piece_of_region r)) regions (λ i r at. region_is_body f variables levels (inner f variables levels) r (h.each i r at)),
)
