-- Each point of the lowering of a core chart comes from its origin.
use Rattle.std.proofs.Common.{◌≡◌, ℕ, zero, suc, ◌+◌, ◌<◌, Bool, true, false, if◌then◌else◌, List, [], ◌∷◌, ◌++◌, map, length, refl, sym, ap, subst}
use Rattle.std.proofs.Common.{◌∙◌, append_assoc}
use Rattle.std.proofs.lemmas.List.{append-nil}
use Rattle.sc_graph.specs.declared.program.Variable.{Variable}
use Rattle.sc_text.proofs.EachItem.{Each, each_of}
use Rattle.core_charts.specs.declared.features.Features.TheVariants as features
use Rattle.core_charts.specs.declared.region.Transition.{Transition}
use Rattle.core_charts.specs.declared.region.Region.{Region}
use Rattle.core_charts.specs.declared.region.State.{State}
use Rattle.core_charts.specs.declared.region.Region.TheOpen.{State-F}
use Rattle.core_charts.specs.declared.region.Region.TheViews.{out-Region, out-State}
use Rattle.core_charts.specs.declared.region.Region.TheFolds.{fold_out-Region, fold_out-State}
use Rattle.core_charts.specs.Chart.{Chart}
use Rattle.core_charts.specs.Rules.{AreRegions, IsChart, IsRegion, IsState, depth_limit}
use Rattle.core_charts.specs.Tests.{terminations}
use Rattle.scl.specs.declared.statement.Statement.{Statement}
use Rattle.scl.specs.declared.statement.Statement.TheVariants as statement
use Rattle.chart_lowering.specs.declared.targets.Targets.{Targets}
use Rattle.chart_lowering.specs.Lowering.{is_wanted, label, label_name, labels_in, labels_in_initial, labels_in_states, lowered, numbers}
use Rattle.chart_lowering.specs.Lowering as low
use Rattle.node_elements.specs.Points.{Point, Ends, Marks, in_branches, points_of, text_points}
use Rattle.core_charts.specs.declared.elements.element.Element.{Element}
use Rattle.core_charts.specs.declared.elements.element.Element.TheVariants as element
use Rattle.core_charts.specs.declared.elements.numbers.ElementNumbers.{ElementNumbers}
use Rattle.core_charts.specs.Numbers.{first, within_region, within_state}
use Rattle.node_elements.specs.LoweringOrigins.{RegionPiece, StatePiece, behind_fork, behind_regions, behind_states, body_of, branches, piece_of_region}
use Rattle.node_elements.specs.LoweringOrigins.{piece_of_state, point_origins, region_piece, state_piece, text_of, texts}
use Rattle.core_charts.specs.Elements.{Contents, contents}
use Rattle.node_elements.specs.LoweringLaws.{OriginsTellPoints}
use Rattle.core_charts.proofs.Standing.{Owned, Passes, Placed, below, both, passes_both, placed_behind, placed_first}
use Rattle.core_charts.proofs.Pieces.{in_regions, in_states, none_pass, of_one_region, of_one_state, placed_whole, region_alone, region_parts}
use Rattle.core_charts.proofs.Pieces.{region_passes, state_alone, state_parts, within_pass}
use Rattle.node_elements.proofs.FromRows.{AllFrom, from_append, from_at, from_length}
use Rattle.node_elements.proofs.Single.{fork_points, from_first, label_points, points_append, points_in}
use Rattle.node_elements.proofs.Moving.{behind_from, final_from, simple_from}

pub record TellsRegion (r : Region) : Type 0 where
  pub passes : Passes (of_one_region r) (piece_of_region r).behind
  pub body : (all : Contents) (at : ElementNumbers) → Placed all at (of_one_region r) → (n : ℕ) →
      AllFrom all ((piece_of_region r).body at) (points_in ((low.piece_of_region r).body n) ++ Ends ∷ [])

pub record TellsState (s : State) : Type 0 where
  pub passes : Passes (of_one_state s) (piece_of_state s).behind
  pub initial : (piece_of_state s).is_initial ≡ (low.piece_of_state s).is_initial
  pub text : (all : Contents) (at : ElementNumbers) → Placed all at (of_one_state s) → (to : Targets) (n : ℕ) →
      AllFrom all ((piece_of_state s).text at) (points_in ((low.piece_of_state s).text to n))

-- ---- states, over the regions inside them

regions_pass : (regions : List Region) → Each TellsRegion regions → Passes (in_regions regions) (behind_regions (map piece_of_region regions))
regions_pass [] each = none_pass
regions_pass (r ∷ regions) each =
    passes_both (of_one_region r) (in_regions regions) (piece_of_region r).behind (behind_regions (map piece_of_region regions)) each.0.passes
    (regions_pass regions each.1)

branches_tell : (all : Contents) (regions : List Region) → Each TellsRegion regions → (at : ElementNumbers) →
    Placed all at (in_regions regions) → (n : ℕ) →
    AllFrom all (branches (map piece_of_region regions) at)
    (in_branches (map (map points_of) (low.branches (map low.piece_of_region regions) n)))
branches_tell all [] each at h n = tt
branches_tell all (r ∷ regions) each at h n =
    let p : RegionPiece = piece_of_region r in
    let q : low.RegionPiece = low.piece_of_region r in
    let rest : List Point = in_branches (map (map points_of) (low.branches (map low.piece_of_region regions) (n + q.labels))) in
    subst (AllFrom all (p.body at ++ branches (map piece_of_region regions) (p.behind at))) (append_assoc (points_in (q.body n)) (Ends ∷ []) rest)
    (from_append all (p.body at) (branches (map piece_of_region regions) (p.behind at)) (points_in (q.body n) ++ Ends ∷ []) rest
    (each.0.body all at (placed_first all at (of_one_region r) (in_regions regions) h) n)
    (branches_tell all regions each.1 (p.behind at) (placed_behind all at (of_one_region r) (in_regions regions) p.behind each.0.passes h) (n + q.labels)))

owned_of : (all : Contents) (at : ElementNumbers) (name : List ℕ) (own : List Transition) (rest : Contents) →
    Placed all at (both (state_alone name own) rest) → Owned all at own
owned_of all at name own rest h =
    let mine : Placed all at (state_alone name own) = placed_first all at (state_alone name own) rest h in
    record { transitions = mine.transitions; effects = mine.effects }

text_tells : (all : Contents) (is_final : Bool) (name : List ℕ) (regions : List Region) (own : List Transition) → Each TellsRegion regions →
    (at : ElementNumbers) → Placed all at (both (state_alone name own) (in_regions regions)) → (to : Targets) (n : ℕ) →
    AllFrom all (text_of is_final (map piece_of_region regions) own at) (points_in (low.text_of is_final (map low.piece_of_region regions) own to n))
text_tells all true name regions own each at h to n = final_from all to at (below all.states at.state name h.states.0) n
text_tells all false name [] own each at h to n =
    simple_from all to own at (below all.states at.state name h.states.0) (owned_of all at name own (in_regions []) h) n
text_tells all false name (r ∷ regions) own each at h to n =
    let whole : List Region = r ∷ regions in
    let s : Element = element.State at.state in
    let small : at.state < length all.states = below all.states at.state name h.states.0 in
    let bodies : List (List Statement) = low.branches (map low.piece_of_region whole) (suc n) in
    let rest : List Statement = low.behind to (terminations own) (suc n + labels_in (map low.piece_of_region whole)) in
    let inside : List Element = branches (map piece_of_region whole) (within_state own at) in
    from_first all s (label n) (Marks (label_name n)) (s ∷ (inside ++ behind_fork own at)) (statement.Fork bodies ∷ rest)
    (label_points (label_name n)) small
    (subst (λ ps. AllFrom all (s ∷ (inside ++ behind_fork own at)) (ps ++ points_in rest)) (sym (fork_points bodies)) (
      small,
      from_append all inside (behind_fork own at) (in_branches (map (map points_of) bodies)) (points_in rest)
          (branches_tell all whole each (within_state own at)
          (placed_behind all at (state_alone name own) (in_regions whole) (within_state own) (within_pass name own) h) (suc n))
          (behind_from all to own at small (owned_of all at name own (in_regions whole) h) (suc n + labels_in (map low.piece_of_region whole))),
    ))

state_tells : (variables : List Variable) (levels count : ℕ) →
    ((regions : List Region) → AreRegions features.Core variables levels regions → Each TellsRegion regions) →
    (s : State) → IsState features.Core variables (AreRegions features.Core variables levels) count s → TellsState s
state_tells variables levels count inner s h =
    let o : State-F Region State = out-State s in
    let head : Contents = state_alone o.name o.transitions in
    let rest : Contents = in_regions o.regions in
    let each : Each TellsRegion o.regions = inner o.regions h.regions in
    let mine : piece_of_state s ≡ state_piece (record {
      name = o.name;
      is_initial = o.is_initial;
      is_final = o.is_final;
      regions = map piece_of_region o.regions;
      transitions = o.transitions;
    }) = fold_out-State RegionPiece StatePiece region_piece state_piece s in
    let theirs : low.piece_of_state s ≡ low.state_piece (record {
      name = o.name;
      is_initial = o.is_initial;
      is_final = o.is_final;
      regions = map low.piece_of_region o.regions;
      transitions = o.transitions;
    }) = fold_out-State low.RegionPiece low.StatePiece low.region_piece low.state_piece s in
    let held : of_one_state s ≡ both head rest = state_parts s in
    let passes : Passes (both head rest) (λ at. behind_regions (map piece_of_region o.regions) (within_state o.transitions at)) =
    passes_both head rest (within_state o.transitions) (behind_regions (map piece_of_region o.regions)) (within_pass o.name o.transitions)
    (regions_pass o.regions each) in
    record {
      passes = subst (λ c. Passes c (piece_of_state s).behind) (sym held) (subst (λ p. Passes (both head rest) p.behind) (sym mine) passes);
      initial = ap (λ p. p.is_initial) mine ∙ sym (ap (λ p. p.is_initial) theirs);
      text = λ all at there to n.
          subst (λ p. AllFrom all (p.text at) (points_in ((low.piece_of_state s).text to n))) (sym mine)
          (subst (λ p. AllFrom all (text_of o.is_final (map piece_of_region o.regions) o.transitions at) (points_in (p.text to n))) (sym theirs)
          (text_tells all o.is_final o.name o.regions o.transitions each at (subst (Placed all at) held there) to n));
    }

-- ---- regions

states_pass : (states : List State) → Each TellsState states → Passes (in_states states) (behind_states (map piece_of_state states))
states_pass [] each = none_pass
states_pass (s ∷ states) each =
    passes_both (of_one_state s) (in_states states) (piece_of_state s).behind (behind_states (map piece_of_state states)) each.0.passes
    (states_pass states each.1)

wanted_tells : (all : Contents) (b c : Bool) → b ≡ c → (os : List Element) (ss : List Statement) → AllFrom all os (points_in ss) →
    AllFrom all (if b then os else []) (points_in (if c then ss else []))
wanted_tells all true true e os ss h = h
wanted_tells all false false e os ss h = tt
wanted_tells all true false e os ss h = absurd cc
wanted_tells all false true e os ss h = absurd cc

-- the number of a state's label, and the next one behind it
abbrev label_of : Bool → ℕ → ℕ → ℕ
label_of initial here next = if initial then here else next

texts_step : (wanted b : Bool) (labels : ℕ) (text : Targets → ℕ → List Statement) (states : List low.StatePiece) (to : Targets) (here next : ℕ) →
    low.texts wanted to (record { is_initial = b; labels = labels; text = text } ∷ states)
    (numbers (record { is_initial = b; labels = labels; text = text } ∷ states) here next)
    ≡ (if is_wanted wanted b then text to (label_of b here next) else []) ++ low.texts wanted to states
    (numbers states here (if b then next else next + labels))
texts_step wanted true labels text states to here next = refl
texts_step wanted false labels text states to here next = refl

texts_tell : (all : Contents) (wanted : Bool) (states : List State) → Each TellsState states → (at : ElementNumbers) →
    Placed all at (in_states states) → (to : Targets) (here next : ℕ) →
    AllFrom all (texts wanted (map piece_of_state states) at)
    (points_in (low.texts wanted to (map low.piece_of_state states) (numbers (map low.piece_of_state states) here next)))
texts_tell all wanted [] each at h to here next = tt
texts_tell all wanted (s ∷ states) each at h to here next =
    let p : StatePiece = piece_of_state s in
    let q : low.StatePiece = low.piece_of_state s in
    let qs : List low.StatePiece = map low.piece_of_state states in
    let mine : List Statement = if is_wanted wanted q.is_initial then q.text to (label_of q.is_initial here next) else [] in
    let after : ℕ = if q.is_initial then next else next + q.labels in
    let others : List Statement = low.texts wanted to qs (numbers qs here after) in
    let own : List Element = if is_wanted wanted p.is_initial then p.text at else [] in
    let rest : List Element = texts wanted (map piece_of_state states) (p.behind at) in
    subst (λ ss. AllFrom all (own ++ rest) (points_in ss)) (sym (texts_step wanted q.is_initial q.labels q.text qs to here next))
    (subst (AllFrom all (own ++ rest)) (sym (points_append mine others))
    (from_append all own rest (points_in mine) (points_in others)
    (wanted_tells all (is_wanted wanted p.is_initial) (is_wanted wanted q.is_initial) (ap (is_wanted wanted) each.0.initial) (p.text at)
    (q.text to (label_of q.is_initial here next))
    (each.0.text all at (placed_first all at (of_one_state s) (in_states states) h) to (label_of q.is_initial here next)))
    (texts_tell all wanted states each.1 (p.behind at) (placed_behind all at (of_one_state s) (in_states states) p.behind each.0.passes h) to here after)))

-- the body of a region of these states, and its end
body_tells : (all : Contents) (states : List State) → Each TellsState states → (region : ℕ) (at : ElementNumbers) → region < length all.regions →
    Placed all at (in_states states) → (to : Targets) (here next end : ℕ) →
    AllFrom all (body_of (map piece_of_state states) region at)
    (points_in (low.body to (map low.piece_of_state states) (numbers (map low.piece_of_state states) here next) end) ++ Ends ∷ [])
body_tells all states each region at small h to here next end =
    let qs : List low.StatePiece = map low.piece_of_state states in
    let ns : List ℕ = numbers qs here next in
    let a : List Statement = low.texts true to qs ns in
    let b : List Statement = low.texts false to qs ns in
    let x : List Element = texts true (map piece_of_state states) at in
    let y : List Element = texts false (map piece_of_state states) at in
    let last : List Element = element.Region region ∷ element.Region region ∷ [] in
    let marked : points_in (label end ∷ []) ≡ Marks (label_name end) ∷ [] = ap (λ ps. ps ++ []) (label_points (label_name end)) in
    let is : points_in ((a ++ b) ++ label end ∷ []) ++ Ends ∷ [] ≡ (points_in a ++ points_in b) ++ (Marks (label_name end) ∷ Ends ∷ []) =
    ap (λ ps. ps ++ Ends ∷ []) (points_append (a ++ b) (label end ∷ []))
    ∙ ap (λ ps. (ps ++ points_in (label end ∷ [])) ++ Ends ∷ []) (points_append a b)
    ∙ ap (λ ps. ((points_in a ++ points_in b) ++ ps) ++ Ends ∷ []) marked
    ∙ append_assoc (points_in a ++ points_in b) (Marks (label_name end) ∷ []) (Ends ∷ []) in
    subst (AllFrom all ((x ++ y) ++ last)) (sym is)
    (from_append all (x ++ y) last (points_in a ++ points_in b) (Marks (label_name end) ∷ Ends ∷ [])
    (from_append all x y (points_in a) (points_in b) (texts_tell all true states each at h to here next)
    (texts_tell all false states each at h to here next))
    (small, (small, tt)))

region_tells : (variables : List Variable) (levels : ℕ) →
    ((regions : List Region) → AreRegions features.Core variables levels regions → Each TellsRegion regions) →
    (r : Region) → IsRegion features.Core variables (AreRegions features.Core variables levels) r → TellsRegion r
region_tells variables levels inner r h =
    let states : List State = (out-Region r).states in
    let each : Each TellsState states =
    each_of TellsState states (λ i s there. state_tells variables levels (length states) inner s (h.states i s there)) in
    let qs : List low.StatePiece = map low.piece_of_state states in
    let name : List ℕ = (out-Region r).name in
    let head : Contents = region_alone name in
    let rest : Contents = in_states states in
    let passes : Passes (both head rest) (λ at. behind_states (map piece_of_state states) (within_region at)) =
    passes_both head rest within_region (behind_states (map piece_of_state states)) (region_passes name) (states_pass states each) in
    let mine : piece_of_region r ≡ region_piece (record { name = (out-Region r).name; states = map piece_of_state states }) =
    fold_out-Region RegionPiece StatePiece region_piece state_piece r in
    let theirs : low.piece_of_region r ≡ low.region_piece (record { name = (out-Region r).name; states = qs }) =
    fold_out-Region low.RegionPiece low.StatePiece low.region_piece low.state_piece r in
    let held : of_one_region r ≡ both head rest = region_parts r in
    record {
      passes = subst (λ c. Passes c (piece_of_region r).behind) (sym held) (subst (λ p. Passes (both head rest) p.behind) (sym mine) passes);
      body = λ all at there n.
          let known : Placed all at (both head rest) = subst (Placed all at) held there in
          let ns : List ℕ = numbers qs n (n + labels_in_initial qs) in
          let end : ℕ = n + labels_in_states qs in
          subst (λ p. AllFrom all (p.body at) (points_in ((low.piece_of_region r).body n) ++ Ends ∷ [])) (sym mine)
          (subst (λ p. AllFrom all (body_of (map piece_of_state states) at.region (within_region at)) (points_in (p.body n) ++ Ends ∷ []))
          (sym theirs)
          (body_tells all states each at.region (within_region at) (below all.regions at.region name known.regions.0)
          (placed_behind all at head rest within_region (region_passes name) known) (low.targets ns end) n (n + labels_in_initial qs) end));
    }

-- regions that nest this many levels deep
regions_tell : (variables : List Variable) (levels : ℕ) (regions : List Region) → AreRegions features.Core variables levels regions →
    Each TellsRegion regions
regions_tell variables zero regions h = subst (Each TellsRegion) (sym h) tt
regions_tell variables (suc levels) regions h =
    each_of TellsRegion regions (λ i r there. region_tells variables levels (regions_tell variables levels) r (h.each i r there))

chart_tells : (c : Chart) → IsChart features.Core c → AllFrom (contents c) (point_origins c) (text_points (lowered c))
chart_tells c h =
    let all : Contents = contents c in
    let each : Each TellsRegion c.regions = regions_tell c.variables depth_limit c.regions h.regions in
    let bodies : List (List Statement) = low.branches (map low.piece_of_region c.regions) 1 in
    let inside : List Element = branches (map piece_of_region c.regions) first in
    subst (λ ps. AllFrom all (element.Chart ∷ (inside ++ element.Chart ∷ [])) ((ps ++ []) ++ Ends ∷ [])) (sym (fork_points bodies)) (
      tt,
      subst (λ ps. AllFrom all (inside ++ element.Chart ∷ []) (ps ++ Ends ∷ [])) (sym (append-nil (in_branches (map (map points_of) bodies))))
          (from_append all inside (element.Chart ∷ []) (in_branches (map (map points_of) bodies)) (Ends ∷ [])
          (branches_tell all c.regions each first (placed_whole c) 1) (tt, tt)),
    )

pub origins_tell : OriginsTellPoints
origins_tell c h = record {
  each = from_length (contents c) (point_origins c) (text_points (lowered c)) (chart_tells c h);
  comes = from_at (contents c) (point_origins c) (text_points (lowered c)) (chart_tells c h);
}
