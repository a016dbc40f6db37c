-- How many steps each worker has, counted in one pass.
use Rattle.std.proofs.Common.{◌≡◌, ◌≢◌, ◌==◌, ℕ, ◌+◌, ◌<◌, ◌≤◌, Bool, true, false, List, length, length-set, take, get_or, set, slice_index, refl, sym, ap, ◌∙◌}
use Rattle.std.proofs.Common.{arith}
use Rattle.std.specs.Prelude.{count_by}
use Rattle.std.proofs.lemmas.Bool.{eqb-true, eq-eqb}
use Rattle.std.proofs.lemmas.List.{length-take-le, get_or-set_same, get_or-set_other}
use Rattle.std.proofs.lemmas.List.Sums.{count_by_more_no, count_by_more_yes, count_by-le-length}
use Rattle.tick_core.specs.declared.history.Entry.{Entry}

abbrev is_by : ℕ → Entry → Bool
is_by w e = e.worker == w

-- the first n entries are counted
pub record Counted (counts : List ℕ) (history : List Entry) (n : ℕ) : Type 0 where
  pub long : length counts ≡ 9
  pub counted : (w : ℕ) → w < 9 → slice_index counts w ≡ count_by (is_by w) (take n history)

-- so far no worker has more steps than were taken
pub few : (counts : List ℕ) (history : List Entry) (n w : ℕ) → Counted counts history n → n < length history → w < 9 → slice_index counts w < length history
few counts history n w h below known =
    omega (arith, h.counted w known, count_by-le-length (is_by w) (take n history), length-take-le n history (omega arith))

-- an entry of no worker that is counted
pub count_past : (counts : List ℕ) (history : List Entry) (n : ℕ) (d : Entry) → Counted counts history n → n < length history → 9 ≤ (get_or history n d).worker
    → Counted counts history (n + 1)
count_past counts history n d h below past =
    record {
      long = h.long;
      counted = λ w known. h.counted w known ∙ sym (count_by_more_no (is_by w) history n d below (other w known (is_by w (get_or history n d)) refl));
    }
  where
    other : (w : ℕ) → w < 9 → (b : Bool) → is_by w (get_or history n d) ≡ b → is_by w (get_or history n d) ≡ false
    other w known true is = let e = eqb-true (get_or history n d).worker w is in absurd (omega arith)
    other w known false is = is

-- one more entry is counted
pub count_more : (counts : List ℕ) (history : List Entry) (n : ℕ) (d : Entry) (count : ℕ) → Counted counts history n → n < length history
    → (get_or history n d).worker < 9 →
    count ≡ slice_index counts (get_or history n d).worker + 1 → Counted (set counts (get_or history n d).worker count) history (n + 1)
count_more counts history n d count h below known is =
    record {
      long = length-set counts (get_or history n d).worker count ∙ h.long;
      counted = λ w within. counted w within (is_by w (get_or history n d)) refl;
    }
  where
    counted : (w : ℕ) → w < 9 → (b : Bool) → is_by w (get_or history n d) ≡ b →
        slice_index (set counts (get_or history n d).worker count) w ≡ count_by (is_by w) (take (n + 1) history)
    counted w within true same =
        let e : (get_or history n d).worker ≡ w = eqb-true (get_or history n d).worker w same in
        let now : slice_index (set counts (get_or history n d).worker count) (get_or history n d).worker
        ≡ count = get_or-set_same counts (get_or history n d).worker count 0 (omega (arith, h.long)) in
        ap (slice_index (set counts (get_or history n d).worker count)) (sym e) ∙ (now ∙ (is ∙ (ap (λ u. slice_index counts u + 1) e
        ∙ (ap (λ m. m + 1) (h.counted w within) ∙ sym (count_by_more_yes (is_by w) history n d below same)))))
    counted w within false differ =
        let other : w ≢ (get_or history n d).worker = λ e. absurd (let yes = eq-eqb (get_or history n d).worker w (sym e) in let never : true ≡ false = sym yes
        ∙ differ in cc) in
        get_or-set_other counts (get_or history n d).worker w count 0 other ∙ (h.counted w within ∙ sym (count_by_more_no (is_by w) history n d below differ))
