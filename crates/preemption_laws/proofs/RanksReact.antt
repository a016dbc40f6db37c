-- A chart that has a valid image, and whose steps have ranks, has a list of ends for each list of inputs that are accepted.
use Rattle.std.proofs.Common.{◌≡◌, ℕ, zero, suc, ◌<◌, ◌≤◌, Some, option_and_then, List, [], ◌∷◌, ◌++◌, length, refl, ap, subst}
use Rattle.std.proofs.Common.{arith}
use Rattle.sc_values.specs.Runs.{replay, Ends}
use Rattle.sc_graph.specs.Tick.{Inputs, AreAccepted}
use Rattle.core_charts.specs.declared.features.Features.TheVariants as features
use Rattle.core_charts.specs.Chart.{Chart}
use Rattle.core_charts.specs.Rules.{IsChart}
use Rattle.chart_machine.specs.declared.standing.Configuration.{Configuration}
use Rattle.chart_machine.specs.declared.table.Table.{Table}
use Rattle.chart_machine.specs.Table.{table}
use Rattle.chart_machine.specs.Steps.{step}
use Rattle.chart_machine.specs.Machine.{machine, initial, start}
use Rattle.abort_expansion.specs.Expansion.{expanded}
use Rattle.chart_machine_laws.specs.Progress.{IsReached, stepped}
use Rattle.chart_lowering_laws.specs.Laws.{IsLowering}
use Rattle.abort_expansion_laws.specs.Preemption.{chart_machine, HasImage}
use Rattle.abort_expansion_laws.specs.Ticks.{Reactive, Reaction, AllOf}
use Rattle.preemption_laws.specs.Bounded.{last_of}
use Rattle.preemption_laws.specs.ChartRanks.{HasRanks}
use Rattle.preemption_laws.specs.Ranked.{Ranked, ComesToAnEnd}
use Rattle.preemption_laws.proofs.ByRank.{comes_to_an_end}
use Rattle.preemption_laws.proofs.CoreRuns.{Within}
use Rattle.preemption_laws.proofs.ChartRuns.{most_steps, tick_bounded, tick_reached}
use Rattle.preemption_laws.proofs.RunsComplete.{enabled_there, has_step, one_less, turn_of}

one_fewer : (m n : ℕ) → m ≡ suc n → n < m
one_fewer m n same = omega (same, arith)

-- ---- a list of ends that goes on by one

pub reaction_on : (r : Reactive) (done : List Inputs) (ends : List r.machine.Configuration) (c : r.machine.Configuration) (next : Inputs)
    (d : r.machine.Configuration) → Reaction r done c ends → Ends r.machine (r.start next (last_of c ends)) d →
    Reaction r (done ++ next ∷ []) c (ends ++ d ∷ [])
reaction_on r [] [] c next d h e = (e, tt)
reaction_on r (inputs ∷ done) (x ∷ ends) c next d h e = (h.0, reaction_on r done ends x next d h.1 e)
reaction_on r [] (x ∷ ends) c next d h e = absurd h
reaction_on r (inputs ∷ done) [] c next d h e = absurd h

pub last_on : {A : Type 0} (ends : List A) (c d : A) → last_of c (ends ++ d ∷ []) ≡ d
last_on [] c d = refl
last_on (x ∷ ends) c d = last_on ends x d

pub all_on : (P : Inputs → Type 0) (done : List Inputs) (next : Inputs) → AllOf P done → P next → AllOf P (done ++ next ∷ [])
all_on P [] next h here = (here, tt)
all_on P (inputs ∷ done) next h here = (h.0, all_on P done next h.1 here)

module _ (c : Chart) (rules : IsChart features.Extended c) (image : HasImage c) (low : IsLowering (expanded c) image.scl)
    (ranks : HasRanks (chart_machine c) (AreAccepted image.program)) where
  abbrev k : Table
  k = table c

  -- so many steps are left at most
  record KnownNow : Type 0 where
    left : ℕ
    known : ranks.Known

  record HoldsNow (now : Configuration) (x : KnownNow) : Type 0 where
    holds : ranks.Holds now x.known
    reached : IsReached k now
    within : Within (machine k) x.left now

  next_within : (now d : Configuration) (x : KnownNow) (t : ℕ) → HoldsNow now x → step k t now ≡ Some d →
      (fewer : ℕ) × (x.left ≡ suc fewer) × Within (machine k) fewer d
  next_within now d x t holds steps = by x.left refl
    where
      by : (n : ℕ) → x.left ≡ n → (fewer : ℕ) × (x.left ≡ suc fewer) × Within (machine k) fewer d
      by zero none =
          let one : 1 ≤ x.left = holds.within (t ∷ []) d (ap (option_and_then (replay (machine k) [])) steps) in absurd (omega (one, none, arith))
      by (suc n) some = (n, some, one_less features.Extended c rules n t now d steps (subst (λ m. Within (machine k) m now) some holds.within))

  ranked : Ranked (machine k)
  ranked =
      record {
        Known = KnownNow;
        Holds = HoldsNow;
        rank = λ x. ranks.rank x.known;
        left = λ x. x.left;
        threads = λ now. length now.regions;
        among = λ now x t holds on. enabled_there features.Extended c rules now t on;
        turns = λ now d t steps. turn_of k now d t steps;
        defined = λ now x t holds on. has_step features.Extended c rules now holds.reached t on;
        next = λ now d x t holds steps.
            let less = next_within now d x t holds steps in
            let falls = ranks.falls now d x.known t holds.holds steps in
            record {
              known = record { left = less.0; known = falls.0 };
              holds = record { holds = falls.1; reached = stepped now d t holds.reached steps; within = less.2 };
              fewer = one_fewer x.left less.0 less.1;
              falls = falls.2;
            };
        order = λ now d x y t u a here there on on_too apart low_rank.
            ranks.order now d x.known y.known t u a here.holds there.holds on on_too apart low_rank;
      }

  -- so each tick has an end
  pub tick_has_end : (inputs : List Inputs) (ends : List Configuration) (next : Inputs) → AllOf (AreAccepted image.program) inputs →
      AreAccepted image.program next → Reaction (chart_machine c) inputs (initial k) ends →
      (d : Configuration) × Ends (machine k) (start k next (last_of (initial k) ends)) d
  unfolding ranked
  tick_has_end inputs ends next accepted takes_next reaction =
      let begun = ranks.begins inputs ends next accepted takes_next reaction in
      let those : ComesToAnEnd (machine k) (start k next (last_of (initial k) ends)) (most_steps c rules low.core image low) =
      comes_to_an_end (machine k) ranked (start k next (last_of (initial k) ends))
      (record { left = most_steps c rules low.core image low; known = begun.0 })
      (record {
        holds = begun.1;
        reached = tick_reached c rules low.core image low inputs ends next accepted takes_next reaction;
        within = tick_bounded c rules low.core image low inputs ends next accepted takes_next reaction;
      }) in
      (those.end, those.ends)

  -- from where these ends lead
  reacts_from : (rest done : List Inputs) (ends : List Configuration) → AllOf (AreAccepted image.program) done → AllOf (AreAccepted image.program) rest →
      Reaction (chart_machine c) done (initial k) ends →
      (more : List Configuration) × Reaction (chart_machine c) rest (last_of (initial k) ends) more
  reacts_from [] done ends accepted others reaction = ([], tt)
  reacts_from (next ∷ rest) done ends accepted others reaction =
      let one : (d : Configuration) × Ends (machine k) (start k next (last_of (initial k) ends)) d =
      tick_has_end done ends next accepted others.0 reaction in
      let later : (more : List Configuration) × Reaction (chart_machine c) rest (last_of (initial k) (ends ++ one.0 ∷ [])) more =
      reacts_from rest (done ++ next ∷ []) (ends ++ one.0 ∷ []) (all_on (AreAccepted image.program) done next accepted others.0) others.1
      (reaction_on (chart_machine c) done ends (initial k) next one.0 reaction one.1) in
      (one.0 ∷ later.0, (one.1, subst (λ b. Reaction (chart_machine c) rest b later.0) (last_on ends (initial k) one.0) later.1))

  -- and so has each list of ticks
  pub has_reaction : (inputs : List Inputs) → AllOf (AreAccepted image.program) inputs →
      (ends : List Configuration) × Reaction (chart_machine c) inputs (initial k) ends
  has_reaction inputs accepted = reacts_from inputs [] [] tt accepted tt
