-- The first lines of ticks, played one after another.
use Rattle.std.proofs.Common.{◌≡◌, ◌∙◌, ℕ, zero, suc, ◌+◌, ◌-◌, ◌<◌, ◌≤◌, min, List, [], ◌∷◌, ◌++◌, length, map, take}
use Rattle.std.proofs.Common.{ap, sym, subst, refl, inl, inr, arith, append_assoc, append-nil, length-append}
use Rattle.std.proofs.lemmas.List.{length-map, length-take}
use Rattle.sc_graph.specs.declared.control.Control.{Control}
use Rattle.bytecode.specs.Image.{Image}
use Rattle.trace_player.specs.Trace.{lines_of}
use Rattle.simulation.specs.History.{History, IsHistory, begun, present}
use Rattle.simulation.specs.Tree.{active_text}
use Rattle.controller_tests.specs.Replay.{LacksTick, TellsStates, line_of}
use Rattle.simulation.specs.Commands.{GivesNoTick}

take-nil : {A : Type 0} (n : ℕ) → take {A = A} n [] ≡ []
take-nil zero = refl
take-nil (suc n) = refl

-- one line more was played
pub one_played : (now new all : List (List ℕ)) (rest behind line : List ℕ) (count turn : ℕ) → turn < count → new ≡ now ++ line ∷ []
    → lines_of rest ≡ line ∷ lines_of behind → now ++ take (count - turn) (lines_of rest) ≡ all
    → new ++ take (count - (turn + 1)) (lines_of behind) ≡ all
one_played now new all rest behind line count turn more played begins before =
    let n = count - (turn + 1) in
    let left : count - turn ≡ suc n = omega arith in
    ap (λ xs. xs ++ take n (lines_of behind)) played
    ∙ append_assoc now (line ∷ []) (take n (lines_of behind))
    ∙ ap (λ k. now ++ take k (line ∷ lines_of behind)) (sym left)
    ∙ ap (λ xs. now ++ take (count - turn) xs) (sym begins) ∙ before

pub one_more_played : (now new : List (List ℕ)) (line : List ℕ) (turn : ℕ) → new ≡ now ++ line ∷ [] → length now ≡ turn → length new ≡ turn + 1
one_more_played now new line turn played many = ap length played ∙ length-append now (line ∷ []) ∙ ap (λ n. n + 1) many

-- all were played
pub all_played : (now all lines : List (List ℕ)) (count turn : ℕ) → count ≤ turn → now ++ take (count - turn) lines ≡ all → now ≡ all
all_played now all lines count turn over before =
    let none : count - turn ≡ 0 = omega arith in
    sym (append-nil now) ∙ ap (λ k. now ++ take k lines) (sym none) ∙ before

-- the program stands behind these lines, and tells its states
pub told_there : (image : Image) (paths : List (List ℕ)) (active : Control → List ℕ) (ticks text : List ℕ) (count : ℕ) (first h : History) (c : Control)
    → first ≡ begun image → h.image ≡ first.image → map line_of h.ticks ≡ take count (lines_of ticks) → length (map line_of h.ticks) ≡ count
    → IsHistory h.image h.ticks → c ≡ present h → text ≡ active_text paths (active c) → TellsStates image paths active ticks count text
told_there image paths active ticks text count first h c begins same played many is here told =
    let own : h.image ≡ image = same ∙ ap (λ g. g.image) begins in
    record {
      control = c;
      stands = record {
        played = h.ticks;
        is = subst (λ i. IsHistory i h.ticks) own is;
        lines = played;
        so_many = sym (length-map h.ticks line_of) ∙ many;
        here = here ∙ ap (λ i. present (record { image = i; ticks = h.ticks })) own;
      };
      is = told;
    }

-- ---- where not so many can be played

-- the next line gives no tick
pub refused_there : (image : Image) (now : List (List ℕ)) (ticks rest behind line : List ℕ) (count turn : ℕ) → turn < count
    → lines_of rest ≡ line ∷ lines_of behind → now ++ take (count - turn) (lines_of rest) ≡ take count (lines_of ticks)
    → GivesNoTick image line → LacksTick image ticks count
refused_there image now ticks rest behind line count turn more begins before none =
    let n = count - (turn + 1) in
    let left : count - turn ≡ suc n = omega arith in
    inr (record {
      first = now;
      line = line;
      rest = take n (lines_of behind);
      are = sym before ∙ ap (λ xs. now ++ take (count - turn) xs) begins ∙ ap (λ k. now ++ take k (line ∷ lines_of behind)) left;
      none = none;
    })

-- there is no line more
pub ended_there : (image : Image) (now : List (List ℕ)) (ticks rest : List ℕ) (count turn : ℕ) → turn < count → rest ≡ []
    → length now ≡ turn → now ++ take (count - turn) (lines_of rest) ≡ take count (lines_of ticks) → LacksTick image ticks count
ended_there image now ticks rest count turn more none many before =
    let none_left : take (count - turn) (lines_of rest) ≡ [] = ap (λ xs. take (count - turn) (lines_of xs)) none ∙ take-nil (count - turn) in
    let all : now ≡ take count (lines_of ticks) = sym (append-nil now) ∙ ap (λ xs. now ++ xs) (sym none_left) ∙ before in
    let size : length now ≡ min count (length (lines_of ticks)) = ap length all ∙ length-take count (lines_of ticks) in
    inl (omega (arith, size, many, more))
