-- A chart without entry actions keeps its states at their places.
use Rattle.std.proofs.Common.{◌≡◌, ℕ, zero, suc, ◌+◌, ◌<◌, Bool, true, false, ◌&&◌, Some, List, [], ◌∷◌, map, length, slice_get, unwrap_or}
use Rattle.std.proofs.Common.{refl, ap, ◌∙◌, arith}
use Rattle.sc_graph.specs.declared.program.Variable.{Variable}
use Rattle.sc_text.proofs.EachItem.{Each}
use Rattle.core_charts.specs.declared.region.Transition.{Transition}
use Rattle.core_charts.specs.declared.region.Region.{Region}
use Rattle.core_charts.specs.declared.region.State.{State}
use Rattle.core_charts.specs.declared.region.Region.TheViews.{out-Region, out-State, roll-Region, roll-State, roll-out-Region, roll-out-State}
use Rattle.chart_reduction.specs.Entry.{Entered, entrances, nowhere, led, standing, all_laid, region_step, state_step, without_entry, entered}
use Rattle.chart_reduction.specs.Laws.{of_region, of_state}
use Rattle.chart_reduction.proofs.ByRules.{Cases, Keeps}
use Rattle.chart_reduction.proofs.PlainParts.{state_folded, region_folded, from_zero}

-- ---- each state is entered at its place

abbrev plain : State → Entered
plain s =
    record {
      name = (out-State s).name;
      is_initial = (out-State s).is_initial;
      is_final = (out-State s).is_final;
      entry = [];
      regions = (out-State s).regions;
      transitions = (out-State s).transitions;
    }

entered_there : (states : List State) (place n : ℕ) → n < length states → slice_get (entrances (map plain states) place) n ≡ Some (place + n)
entered_there [] place n less = absurd (omega (arith, less))
entered_there (s ∷ states) place zero less = ap Some (plus_zero place)
  where
    plus_zero : (n : ℕ) → n ≡ n + 0
    plus_zero n = omega arith
entered_there (s ∷ states) place (suc n) less =
    entered_there states (place + 1) n (omega (arith, less)) ∙ ap Some (one_later place n)
  where
    one_later : (m n : ℕ) → m + 1 + n ≡ m + suc n
    one_later m n = omega arith

-- transitions among the states of a region
abbrev Within : ℕ → Transition → Type 0
Within count t = t.target < count

led_same : (states : List State) (transitions : List Transition) → Each (Within (length states)) transitions →
    map (led (entrances (map plain states) 0)) transitions ≡ transitions
led_same states [] h = refl
led_same states (t ∷ transitions) h =
    let at : List ℕ = entrances (map plain states) 0 in
    ap (λ o. record t { target = unwrap_or o nowhere } ∷ map (led at) transitions) (entered_there states 0 t.target h.0 ∙ ap Some (from_zero t.target))
    ∙ ap (λ ts. t ∷ ts) (led_same states transitions h.1)

and_true : (b : Bool) → (b && true) ≡ b
and_true true = refl
and_true false = refl

stands : (all : List State) (s : State) → Each (Within (length all)) (out-State s).transitions → standing (entrances (map plain all) 0) (plain s) ≡ s
stands all s h =
    ap (λ b. roll-State (record {
      name = (out-State s).name;
      is_initial = b;
      is_final = (out-State s).is_final;
      regions = (out-State s).regions;
      transitions = map (led (entrances (map plain all) 0)) (out-State s).transitions;
    })) (and_true (out-State s).is_initial)
    ∙ ap (λ ts. roll-State (record (out-State s) { transitions = ts })) (led_same all (out-State s).transitions h)
    ∙ roll-out-State s

-- ---- states and regions

pub record StateStands (count : ℕ) (s : State) : Type 0 where
  pub is_plain : entered (of_state s) ≡ plain s
  pub within : Each (Within count) (out-State s).transitions

abbrev pub RegionStands : Region → Type 0
RegionStands r = without_entry (of_region r) ≡ r

all_within : (variables : List Variable) (count : ℕ) (s : State) (transitions : List Transition) → Each (Keeps variables count s) transitions →
    Each (Within count) transitions
all_within variables count s [] h = tt
all_within variables count s (t ∷ transitions) h = (h.0.target, all_within variables count s transitions h.1)

pub regions_stand : (regions : List Region) → Each RegionStands regions → map without_entry (map of_region regions) ≡ regions
regions_stand [] h = refl
regions_stand (r ∷ regions) h = ap (λ x. x ∷ map without_entry (map of_region regions)) h.0 ∙ ap (λ rs. r ∷ rs) (regions_stand regions h.1)

states_plain : (count : ℕ) (states : List State) → Each (StateStands count) states → map entered (map of_state states) ≡ map plain states
states_plain count [] h = refl
states_plain count (s ∷ states) h =
    ap (λ x. x ∷ map entered (map of_state states)) h.0.is_plain ∙ ap (λ xs. plain s ∷ xs) (states_plain count states h.1)

laid_same : (all states : List State) (number place : ℕ) → Each (StateStands (length all)) states →
    all_laid (entrances (map plain all) 0) number place (map plain states) ≡ states
laid_same all [] number place h = refl
laid_same all (s ∷ states) number place h =
    ap (λ x. x ∷ all_laid (entrances (map plain all) 0) (number + 1) (place + 1) (map plain states)) (stands all s h.0.within)
    ∙ ap (λ xs. s ∷ xs) (laid_same all states (number + 1) (place + 1) h.1)

state_stands : (variables : List Variable) (count : ℕ) (s : State) → Each (Keeps variables count s) (out-State s).transitions →
    Each RegionStands (out-State s).regions → StateStands count s
state_stands variables count s rules h =
    record {
      is_plain =
          state_folded Region Entered region_step state_step s
          ∙ ap (λ rs. record (plain s) { regions = rs }) (regions_stand (out-State s).regions h);
      within = all_within variables count s (out-State s).transitions rules;
    }

region_stands : (r : Region) → Each (StateStands (length (out-Region r).states)) (out-Region r).states → RegionStands r
region_stands r h =
    let states : List State = (out-Region r).states in
    region_folded Region Entered region_step state_step r
    ∙ ap (λ es. roll-Region (record { name = (out-Region r).name; states = all_laid (entrances es 0) 0 0 es })) (states_plain (length states) states h)
    ∙ ap (λ ss. roll-Region (record { name = (out-Region r).name; states = ss })) (laid_same states states 0 0 h)
    ∙ roll-out-Region r

pub all_stand : (variables : List Variable) → Cases variables RegionStands StateStands
all_stand variables = record { of_state = state_stands variables; of_region = region_stands }
