-- Each step of a core chart in its normal form: a step of a region that does not wait is one of the waiting machine; a look that fails is none, and one
-- that holds is a leaving.
use Rattle.std.proofs.Common.{◌≡◌, ℕ, zero, suc, Bool, true, false, Some, None, List, [], ◌∷◌, ◌++◌, map, length, slice_set}
use Rattle.std.proofs.Common.{unwrap_or, if◌then◌else◌, Contains, refl, sym, ap, ap₂, subst, ◌∙◌, arith}
use Rattle.std.proofs.lemmas.Bool.{le-leb}
use Rattle.sc_text.proofs.EachItem.{Each}
use Rattle.core_charts.specs.declared.region.Transition.{Transition}
use Rattle.chart_machine.specs.declared.region_change.RegionChange.{RegionChange}
use Rattle.chart_machine.specs.declared.standing.Configuration.{Configuration}
use Rattle.chart_machine.specs.declared.standing.Move.{Move}
use Rattle.chart_machine.specs.declared.standing.Standing.{Standing}
use Rattle.chart_machine.specs.declared.standing.Standing.TheVariants as at
use Rattle.chart_machine.specs.declared.table.Table.{Table}
use Rattle.chart_machine.specs.Steps.{to, moved, written, after, verdict, acts, taken, state_in, change_of, step}
use Rattle.chart_machine.specs.Table.{state_at}
use Rattle.chart_machine.specs.Turns.{standing_of, is_enabled}
use Rattle.chart_machine_laws.specs.Tree.{IsThere, holder}
use Rattle.chart_machine_laws.proofs.LyingIn.{head_in, tail_in}
use Rattle.tick_laws.proofs.Lists.{map_some}
use Rattle.abort_expansion_laws.proofs.Leaving.{at_number}
use Rattle.abort_expansion_laws.proofs.KnownVariables.{Stepped, stepped}
use Rattle.preemption_laws.proofs.WritesSwap.{changes}
use Rattle.preemption_laws.specs.Looks.{look, Looks}
use Rattle.preemption_laws.specs.Waiting.{is_waiting, waiting_at, still, sees, gone, wait_step}
use Rattle.preemption_laws.proofs.ChangesMade.{what_is_made}
use Rattle.preemption_laws.proofs.Forms.{InForm, Rests, looks_behind, looks_left}
use Rattle.preemption_laws.proofs.Ground.{Ground, MayOn, apart_on}
use Rattle.preemption_laws.proofs.LeaveSteps.{nobody_inside, sees_still}
use Rattle.preemption_laws.proofs.NormalForms.{NormalMove, moves_normal, none_in_front, waits_few, waiting_is}
use Rattle.preemption_laws.proofs.SoundCores.{IsCore, there_of}
use Rattle.preemption_laws.proofs.StepsOfWaiting.{waits_then, goes_then}
use Rattle.preemption_laws.proofs.StillTurns.{still_set, goes_there, turn_still}
use Rattle.preemption_laws.proofs.StillConfigurations.{still_at, stands_still}

-- one of the last flags
flag_of : (left : ℕ) (xs : List ℕ) (gone : List Transition) (w : Transition) (rest : List Transition) → map (look left) xs ≡ gone ++ w ∷ rest →
    (x : ℕ) × Contains xs x × (w ≡ look left x)
flag_of left [] [] w rest e = absurd cc
flag_of left [] (z ∷ gone) w rest e = absurd cc
flag_of left (x ∷ xs) [] w rest e = (x, head_in x xs, let same : look left x ≡ w = ap (first (look left x)) e in sym same)
  where
    first : Transition → List Transition → Transition
    first other [] = other
    first other (t ∷ ts) = t
flag_of left (x ∷ xs) (z ∷ gone) w rest e =
    let later = flag_of left xs gone w rest (ap rest_of e) in (later.0, tail_in x later.0 xs later.1, later.2)
  where
    rest_of : List Transition → List Transition
    rest_of [] = []
    rest_of (t ∷ ts) = ts

set_same : (zs : List Standing) (q : ℕ) → slice_set zs q (at_number zs q) ≡ zs
set_same [] q = refl
set_same (z ∷ zs) zero = refl
set_same (z ∷ zs) (suc q) = ap (λ ys. z ∷ ys) (set_same zs q)

module _ (k : Table) (looks : ℕ → List Transition) (l : Looks k looks) (g : Ground k) where
  abbrev w : Standing → Standing
  w x = waiting_at k looks x

  still_moved : (ms : List Move) (zs : List Standing) → Each (NormalMove k looks l g) ms → map w (moved ms zs) ≡ moved ms (map w zs)
  still_moved [] zs h = refl
  still_moved (m ∷ ms) zs h =
      still_moved ms (slice_set zs m.region m.standing) h.1
      ∙ ap (moved ms) (still_set k looks zs m.region m.standing ∙ ap (slice_set (map w zs) m.region) h.0)

  takes_step : (f : Configuration) (u : ℕ) (d : RegionChange) → is_enabled k f u ≡ true → change_of k f u (standing_of f u) ≡ Some d →
      step k u f ≡ Some (after d f)
  takes_step f u d on does = rw (on, does) refl

  -- ---- of who does not wait

  pub goes_on_still : (c d : Configuration) (t : ℕ) → IsCore k looks l g c → step k t c ≡ Some d → is_waiting k looks (standing_of c t) ≡ false →
      wait_step k looks t (still k looks c) ≡ Some (still k looks d)
  goes_on_still c d t is steps goes =
      let parts : Stepped k t c d = stepped k t c d steps in
      let on : is_enabled k c t ≡ true = (apart_on k g).turns c d t steps in
      let one = (changes k t (standing_of c t) c parts.change parts.does).does (still k looks c) refl in
      let there : IsThere k t = there_of k looks l g c t is.sits on in
      let at_t : standing_of (still k looks c) t ≡ standing_of c t = goes_there k looks c t goes in
      let normal : Each (NormalMove k looks l g) parts.change.moves =
      moves_normal k looks l g t there (standing_of c t) parts.change.moves (what_is_made k c t (standing_of c t) parts.change parts.does).1 (is.sits.stands t)
      (is.forms t) goes in
      let to_next : step k t (still k looks c) ≡ Some (after one.0 (still k looks c)) =
      takes_step (still k looks c) t one.0 (turn_still k looks l g c is t goes ∙ on) (ap (change_of k (still k looks c) t) at_t ∙ one.1) in
      let variables : written one.0.write c.variables ≡ d.variables = one.2 ∙ ap (λ (z : Configuration). z.variables) parts.is in
      let regions : moved one.0.moves (map w c.regions) ≡ map w d.regions =
      ap (λ ms. moved ms (map w c.regions)) one.3
      ∙ (sym (still_moved parts.change.moves c.regions normal) ∙ ap (λ (z : Configuration). map w z.regions) parts.is) in
      let same : after one.0 (still k looks c) ≡ still k looks d = ap₂ (λ vs zs. record { variables = vs; regions = zs }) variables regions in
      goes_then k looks (still k looks c) t (ap (is_waiting k looks) at_t ∙ goes) ∙ (to_next ∙ ap Some same)

  -- ---- of who waits
  -- a look is the first of its tests
  pub record Looking (c : Configuration) (t : ℕ) : Type 0 where
    pub state : ℕ
    pub flag : ℕ
    pub rest : List Transition
    pub seen : Contains (l.seen state) flag
    pub stands : standing_of c t ≡ at.Trying state (look (l.left state) flag ∷ rest)

  looking_at : (c : Configuration) (t s : ℕ) (y : Transition) (rest : List Transition) → standing_of c t ≡ at.Trying s (y ∷ rest) →
      is_waiting k looks (at.Trying s (y ∷ rest)) ≡ true → Rests k looks l s (y ∷ rest) → Looking c t
  looking_at c t s y rest stands waits form = by form
    where
      from : (gone : List Transition) → looks s ≡ gone ++ y ∷ rest → Looking c t
      from gone is =
          let one = flag_of (l.left s) (l.seen s) gone y rest (sym (l.are_looks s) ∙ is) in
          record {
            state = s;
            flag = one.0;
            rest = rest;
            seen = one.1;
            stands = stands ∙ ap (λ z. at.Trying s (z ∷ rest)) one.2;
          }

      by : Rests k looks l s (y ∷ rest) → Looking c t
      by (looks_left gone is) = from gone is
      by (looks_behind front is) = from [] (sym (none_in_front front (looks s) (y ∷ rest) is (waits_few k looks s (y ∷ rest) waits)))

  looking : (c d : Configuration) (t : ℕ) → IsCore k looks l g c → step k t c ≡ Some d → is_waiting k looks (standing_of c t) ≡ true → Looking c t
  looking c d t is steps waits = by (standing_of c t) refl (is.forms t) waits (stepped k t c d steps).does
    where
      by : (x : Standing) → standing_of c t ≡ x → InForm k looks l t x → is_waiting k looks x ≡ true →
          change_of k c t x ≡ Some (stepped k t c d steps).change → Looking c t
      by (at.Trying s []) e form w_x does = absurd cc
      by (at.Trying s (y ∷ rest)) e form w_x does = looking_at c t s y rest e w_x form.0
      by at.Outside e form w_x does = absurd cc
      by at.Ended e form w_x does = absurd cc
      by (at.Entering s tests) e form w_x does = absurd cc
      by (at.Guarding s tests) e form w_x does = absurd cc
      by (at.Within s tests) e form w_x does = absurd cc
      by (at.Acting s effects p) e form w_x does = absurd cc

  all_wait : (s : ℕ) → is_waiting k looks (at.Trying s (looks s)) ≡ true
  all_wait s = le-leb (length (looks s)) (length (looks s)) (omega arith)

  one_less_waits : (s : ℕ) (y : Transition) (rest : List Transition) → is_waiting k looks (at.Trying s (y ∷ rest)) ≡ true →
      is_waiting k looks (at.Trying s rest) ≡ true
  one_less_waits s y rest waits = le-leb (length rest) (length (looks s)) (let few = waits_few k looks s (y ∷ rest) waits in omega (few, arith))

  leaves_to : (t s x : ℕ) → Contains (l.seen s) x → holder k s ≡ t → taken k t s (look (l.left s) x) ≡ to t at.Ended ∷ []
  leaves_to t s x seen held =
      ap (λ rs. map (λ r. to r at.Outside) rs ++ acts k t s [] (l.left s)) (nobody_inside k looks l g s x seen)
      ∙ subst (λ r. (state_at k (state_in k r (l.left s))).entered ≡ to r at.Ended ∷ []) held (l.ends_there s x seen)

  -- it fails, and nothing changes in normal form; or it holds, and the region leaves
  pub data Looks_on (c d : Configuration) (t : ℕ) : Type 0 where
    fails_on : still k looks d ≡ still k looks c → d.variables ≡ c.variables → Looks_on c d t
    holds_on : sees k looks (still k looks c) (standing_of (still k looks c) t) ≡ true → gone k looks t (still k looks c) ≡ still k looks d →
        wait_step k looks t (still k looks c) ≡ Some (still k looks d) → Looks_on c d t

  pub looks_on : (c d : Configuration) (t : ℕ) → IsCore k looks l g c → step k t c ≡ Some d → is_waiting k looks (standing_of c t) ≡ true → Looks_on c d t
  looks_on c d t is steps waits = by one.0 one.1 one.2
    where
      parts : Stepped k t c d
      parts = stepped k t c d steps

      h : Looking c t
      h = looking c d t is steps waits

      waits_at : is_waiting k looks (at.Trying h.state (look (l.left h.state) h.flag ∷ h.rest)) ≡ true
      waits_at = ap (is_waiting k looks) (sym h.stands) ∙ waits

      held : holder k h.state ≡ t
      held = (subst (λ x. MayOn k g t x) h.stands (is.sits.stands t)).1

      one : (b : Bool) × (verdict c.variables (look (l.left h.state) h.flag).trigger ≡ Some b)
          × (record {
            write = None;
            moves = if b then taken k t h.state (look (l.left h.state) h.flag) else to t (at.Trying h.state h.rest) ∷ [];
          }
          ≡ parts.change)
      one =
          map_some (λ (holds : Bool). record {
            write = None;
            moves = if holds then taken k t h.state (look (l.left h.state) h.flag) else to t (at.Trying h.state h.rest) ∷ [];
          }) (verdict c.variables (look (l.left h.state) h.flag).trigger) parts.change (sym (ap (change_of k c t) h.stands) ∙ parts.does)

      in_still : standing_of (still k looks c) t ≡ at.Trying h.state (looks h.state)
      in_still =
          stands_still k looks c t
          ∙ (ap w h.stands ∙ waiting_is k looks h.state (look (l.left h.state) h.flag ∷ h.rest) true waits_at)

      by : (b : Bool) → verdict c.variables (look (l.left h.state) h.flag).trigger ≡ Some b →
          record {
            write = None;
            moves = if b then taken k t h.state (look (l.left h.state) h.flag) else to t (at.Trying h.state h.rest) ∷ [];
          } ≡ parts.change → Looks_on c d t
      by true up makes =
          let moves : taken k t h.state (look (l.left h.state) h.flag) ≡ to t at.Ended ∷ [] =
          leaves_to t h.state h.flag h.seen held in
          let next : still k looks d ≡ gone k looks t (still k looks c) =
          ap (still k looks) (sym parts.is ∙ ap (λ z. after z c) (sym makes) ∙ ap (λ ms. after (record { write = None; moves = ms }) c) moves)
          ∙ ap (λ zs. record { variables = c.variables; regions = zs }) (still_set k looks c.regions t at.Ended) in
          let up_too : sees k looks (still k looks c) (standing_of (still k looks c) t) ≡ true =
          subst (λ x. sees k looks (still k looks c) x ≡ true) (sym in_still)
          (sees_still k looks l (still k looks c) h.state h.flag h.seen (ap (λ o. unwrap_or o false) up) (looks h.state)) in
          let waits_too : is_waiting k looks (standing_of (still k looks c) t) ≡ true = ap (is_waiting k looks) in_still ∙ all_wait h.state in
          holds_on up_too (sym next) (waits_then k looks (still k looks c) t waits_too up_too ∙ ap Some (sym next))
      by false down makes =
          let at_c : w (standing_of c t) ≡ at.Trying h.state (looks h.state) =
          ap w h.stands ∙ waiting_is k looks h.state (look (l.left h.state) h.flag ∷ h.rest) true waits_at in
          let at_rest : w (at.Trying h.state h.rest) ≡ at.Trying h.state (looks h.state) =
          waiting_is k looks h.state h.rest true (one_less_waits h.state (look (l.left h.state) h.flag) h.rest waits_at) in
          let d_is : record { variables = c.variables; regions = slice_set c.regions t (at.Trying h.state h.rest) } ≡ d =
          ap (λ z. after z c) makes ∙ parts.is in
          fails_on
          (ap (still k looks) (sym d_is)
          ∙ ap (λ zs. record { variables = c.variables; regions = zs })
          (still_set k looks c.regions t (at.Trying h.state h.rest)
          ∙ (ap (slice_set (map w c.regions) t) (at_rest ∙ (sym at_c ∙ sym (still_at k looks c.regions t))) ∙ set_same (map w c.regions) t)))
          (ap (λ (z : Configuration). z.variables) (sym d_is))
