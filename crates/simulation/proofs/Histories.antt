-- How histories grow and shrink.
use Rattle.std.proofs.Common.{◌≡◌, ◌-◌, ℕ, zero, suc, Some, None, List, [], ◌∷◌, ◌++◌, length, take, slice_get, refl, subst, arith}
use Rattle.sc_graph.specs.declared.control.Control.{Control}
use Rattle.sc_graph.specs.Tick.{Rests}
use Rattle.bytecode.specs.Image.{Image}
use Rattle.simulation.specs.declared.history.Played.{Played}
use Rattle.simulation.specs.History.{Leads, Follow, behind}

-- one tick more
pub one_more : (image : Image) (c : Control) (ticks : List Played) (tick : Played)
    → Follow image c ticks → Leads image (behind c ticks) tick.line tick.control → Follow image c (ticks ++ tick ∷ [])
one_more image c [] tick follow leads = (leads, tt)
one_more image c (first ∷ ticks) tick follow leads = (follow.0, one_more image first.control ticks tick follow.1 leads)

-- the first ticks alone
pub first_ones : (image : Image) (c : Control) (n : ℕ) (ticks : List Played) → Follow image c ticks → Follow image c (take n ticks)
first_ones image c zero ticks follow = tt
first_ones image c (suc n) [] follow = tt
first_ones image c (suc n) (first ∷ ticks) follow = (follow.0, first_ones image first.control n ticks follow.1)

-- behind ticks nobody is at a node
pub rest_behind : (image : Image) (c : Control) (ticks : List Played) → Rests image.program c → Follow image c ticks
    → Rests image.program (behind c ticks)
rest_behind image c [] rests follow = rests
rest_behind image c (first ∷ ticks) rests follow = rest_behind image first.control ticks follow.0.rests follow.1

-- the last tick ended in the present configuration
pub last_behind : (c : Control) (ticks : List Played) (tick : Played) → slice_get ticks (length ticks - 1) ≡ Some tick → tick.control ≡ behind c ticks
last_behind c [] tick is = absurd cc
last_behind c (first ∷ []) tick is = cc
last_behind c (first ∷ second ∷ ticks) tick is =
    let one_less : suc (suc (length ticks)) - 1 ≡ suc (suc (length ticks) - 1) = omega arith in
    last_behind first.control (second ∷ ticks) tick (subst (λ n. slice_get (first ∷ second ∷ ticks) n ≡ Some tick) one_less is)

-- of some ticks there is a last one
is_last : (first : Played) (ticks : List Played) → ¬ (slice_get (first ∷ ticks) (length (first ∷ ticks) - 1) ≡ None)
is_last first [] none = cc
is_last first (second ∷ ticks) none =
    let one_less : suc (suc (length ticks)) - 1 ≡ suc (suc (length ticks) - 1) = omega arith in
    is_last second ticks (subst (λ n. slice_get (first ∷ second ∷ ticks) n ≡ None) one_less none)

-- no tick was played
pub none_behind : (c : Control) (ticks : List Played) → slice_get ticks (length ticks - 1) ≡ None → c ≡ behind c ticks
none_behind c [] none = refl
none_behind c (first ∷ ticks) none = absurd (is_last first ticks none)
