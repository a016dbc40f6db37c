-- The texts of charts, regions and states, by their parts.
use Rattle.std.proofs.Common.{◌≡◌, Bool, true, false, List, [], ◌∷◌, ◌++◌, ℕ, map, codes, refl, sym, ap, ◌∙◌, append_assoc}
use Rattle.sc_graph.specs.declared.program.Variable.{Variable}
use Rattle.core_charts.specs.declared.region.Transition.{Transition}
use Rattle.core_charts.specs.declared.region.Region.{Region}
use Rattle.core_charts.specs.declared.region.State.{State}
use Rattle.core_charts.specs.declared.region.Region.TheViews.{out-Region, out-State}
use Rattle.core_charts.specs.declared.region.Region.TheFolds.{fold_out-Region, fold_out-State}
use Rattle.core_charts.specs.Chart.{Chart}
use Rattle.chart_texts.specs.Layout.{Piece, StatePiece, among_all, chart_head, chart_text, declarations_text, deeper, in_row, is_bare, line, names_of, opened}
use Rattle.chart_texts.specs.Layout.{piece_of_state, region_head, region_over, region_text, state_head, state_over, state_piece, transitions_text}

-- ---- one text behind another

pub three : (old t u v a b c whole : List ℕ) → t ≡ old ++ a → u ≡ t ++ b → v ≡ u ++ c → whole ≡ a ++ (b ++ c) → v ≡ old ++ whole
three old t u v a b c whole first second third is =
    third
    ∙ ap (λ x. x ++ c) (second ∙ ap (λ x. x ++ b) first ∙ append_assoc old a b)
    ∙ append_assoc old (a ++ b) c
    ∙ ap (λ x. old ++ x) (append_assoc a b c ∙ sym is)

pub four : (old t u v w a b c d whole : List ℕ) → t ≡ old ++ a → u ≡ t ++ b → v ≡ u ++ c → w ≡ v ++ d → whole ≡ a ++ (b ++ (c ++ d)) → w ≡ old ++ whole
four old t u v w a b c d whole first second third fourth is =
    three old t v w a (b ++ c) d whole first (third ∙ ap (λ x. x ++ c) second ∙ append_assoc t b c) fourth
    (is ∙ ap (λ x. a ++ x) (sym (append_assoc b c d)))

-- ---- regions

abbrev region_by : (vs : List Variable) (margin head inner : List ℕ) (states : List State) → List ℕ
region_by vs margin head inner states =
    opened head margin
    ++ (among_all (names_of (map (piece_of_state vs) states)) (map (piece_of_state vs) states) inner ++ line (codes "}") margin)

pub region_lines : (vs : List Variable) (r : Region) (margin head inner : List ℕ) (states : List State) →
    head ≡ region_head (out-Region r).name → inner ≡ deeper margin → states ≡ (out-Region r).states →
    region_text vs r margin ≡
    opened head margin
    ++ (among_all (names_of (map (piece_of_state vs) states)) (map (piece_of_state vs) states) inner ++ line (codes "}") margin)
region_lines vs r margin head inner states head_is inner_is states_are =
    ap (λ p. p margin) (fold_out-Region Piece StatePiece region_over (state_piece vs) r)
    ∙ sym (ap (λ h. region_by vs margin h inner states) head_is
    ∙ ap (λ i. region_by vs margin (region_head (out-Region r).name) i states) inner_is
    ∙ ap (region_by vs margin (region_head (out-Region r).name) (deeper margin)) states_are)

-- ---- states

bare_pieces : {A B C : Type 0} (f : A → B) (xs : List A) (own : List C) → is_bare (map f xs) own ≡ is_bare xs own
bare_pieces f [] [] = refl
bare_pieces f [] (t ∷ own) = refl
bare_pieces f (x ∷ xs) own = refl

abbrev open_by : (vs : List Variable) (names : List (List ℕ)) (margin head inner : List ℕ) (regions : List Region) (own : List Transition) → List ℕ
open_by vs names margin head inner regions own =
    opened head margin
    ++ (in_row (map (region_text vs) regions) inner ++ (transitions_text vs names own inner ++ line (codes "}") margin))

pub open_lines : (vs : List Variable) (s : State) (names : List (List ℕ)) (margin head inner : List ℕ) (regions : List Region)
    (own : List Transition) (bare : Bool) →
    head ≡ state_head (out-State s).is_initial (out-State s).is_final (out-State s).name → inner ≡ deeper margin →
    regions ≡ (out-State s).regions → own ≡ (out-State s).transitions → bare ≡ is_bare regions own → bare ≡ false →
    (piece_of_state vs s).among names margin ≡
    opened head margin
    ++ (in_row (map (region_text vs) regions) inner ++ (transitions_text vs names own inner ++ line (codes "}") margin))
open_lines vs s names margin head inner regions own bare head_is inner_is regions_are own_are bare_is is_open =
    let words : List ℕ = state_head (out-State s).is_initial (out-State s).is_final (out-State s).name in
    let rs : List Region = (out-State s).regions in
    let ts : List Transition = (out-State s).transitions in
    let full : is_bare (map (region_text vs) rs) ts ≡ false =
    bare_pieces (region_text vs) rs ts ∙ sym (ap (λ r. is_bare r own) regions_are ∙ ap (is_bare rs) own_are) ∙ sym bare_is ∙ is_open in
    ap (λ p. p.among names margin) (fold_out-State Piece StatePiece region_over (state_piece vs) s)
    ∙ ap (λ b. state_over words (map (region_text vs) rs) (transitions_text vs names ts) b margin) full
    ∙ sym (ap (λ h. open_by vs names margin h inner regions own) head_is
    ∙ ap (λ i. open_by vs names margin words i regions own) inner_is
    ∙ ap (λ r. open_by vs names margin words (deeper margin) r own) regions_are
    ∙ ap (open_by vs names margin words (deeper margin) rs) own_are)

-- ---- charts

abbrev chart_by : List ℕ → List Variable → List Region → List ℕ
chart_by head variables regions =
    opened head []
    ++ (declarations_text variables (codes "  ") ++ (in_row (map (region_text variables) regions) (codes "  ") ++ line (codes "}") []))

pub chart_lines : (c : Chart) (head : List ℕ) (variables : List Variable) (regions : List Region) →
    head ≡ chart_head c.name → variables ≡ c.variables → regions ≡ c.regions →
    chart_text c ≡
    opened head []
    ++ (declarations_text variables (codes "  ") ++ (in_row (map (region_text variables) regions) (codes "  ") ++ line (codes "}") []))
chart_lines c head variables regions head_is variables_are regions_are =
    sym (ap (λ h. chart_by h variables regions) head_is
    ∙ ap (λ v. chart_by (chart_head c.name) v regions) variables_are
    ∙ ap (chart_by (chart_head c.name) c.variables) regions_are)
