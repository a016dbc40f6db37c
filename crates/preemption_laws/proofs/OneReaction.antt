-- A machine that keeps threads apart, and the steps of which have ranks, has one list of ends at most for each list of inputs.
use Rattle.std.proofs.Common.{◌≡◌, ℕ, ◌<◌, true, List, [], ◌∷◌, ◌++◌, refl, sym, ap₂, subst}
use Rattle.sc_graph.specs.Tick.{Inputs}
use Rattle.abort_expansion_laws.specs.Ticks.{Reactive, Reaction, AllOf}
use Rattle.preemption_laws.specs.Bounded.{last_of}
use Rattle.preemption_laws.specs.ChartRanks.{HasRanks}
use Rattle.preemption_laws.specs.OneEnd.{KeepsApart, RankedSteps}
use Rattle.preemption_laws.proofs.OneEnd.{one_end}
use Rattle.preemption_laws.proofs.RanksReact.{reaction_on, last_on, all_on}
use Rattle.preemption_laws.proofs.ByRank.{holds_along}

module _ (r : Reactive) (Sound : r.machine.Configuration → Type 0) (keeps : KeepsApart r.machine Sound) (initially : Sound r.initial)
    (starts : (inputs : Inputs) (c : r.machine.Configuration) → Sound c → Sound (r.start inputs c)) (threads : r.machine.Configuration → ℕ)
    (among : (c : r.machine.Configuration) (t : ℕ) → r.machine.enabled c t ≡ true → t < threads c) (Accepted : Inputs → Type 0)
    (ranks : HasRanks r Accepted) where
  abbrev ranked : RankedSteps r.machine
  ranked =
      record {
        Known = ranks.Known;
        Holds = ranks.Holds;
        rank = ranks.rank;
        threads = threads;
        among = among;
        falls = λ c d k t holds steps. ranks.falls c d k t holds steps;
        order = λ c d k l t u a here there on on_too apart low. ranks.order c d k l t u a here there on on_too apart low;
      }

  -- from where a list of ends leads
  from : (rest done : List Inputs) (ends ds es : List r.machine.Configuration) → AllOf Accepted done → AllOf Accepted rest →
      Reaction r done r.initial ends → Sound (last_of r.initial ends) → Reaction r rest (last_of r.initial ends) ds →
      Reaction r rest (last_of r.initial ends) es → ds ≡ es
  from [] done ends [] [] accepted others before sound h g = refl
  from [] done ends (d ∷ ds) es accepted others before sound h g = absurd h
  from [] done ends [] (e ∷ es) accepted others before sound h g = absurd g
  from (next ∷ rest) done ends [] es accepted others before sound h g = absurd h
  from (next ∷ rest) done ends (d ∷ ds) [] accepted others before sound h g = absurd g
  from (next ∷ rest) done ends (d ∷ ds) (e ∷ es) accepted others before sound h g =
      let c : r.machine.Configuration = r.start next (last_of r.initial ends) in
      let known = ranks.begins done ends next accepted others.0 before in
      let sound_now : Sound c = starts next (last_of r.initial ends) sound in
      let same : d ≡ e = one_end r.machine Sound keeps ranked c known.0 sound_now known.1 d e h.0 g.0 in
      let kept : Sound d = holds_along r.machine Sound keeps.kept h.0.run c d sound_now h.0.complete.runs in
      let last : last_of r.initial (ends ++ d ∷ []) ≡ d = last_on ends r.initial d in
      ap₂ (λ x xs. x ∷ xs) same
      (from rest (done ++ next ∷ []) (ends ++ d ∷ []) ds es (all_on Accepted done next accepted others.0) others.1
      (reaction_on r done ends r.initial next d before h.0) (subst Sound (sym last) kept) (subst (λ b. Reaction r rest b ds) (sym last) h.1)
      (subst (λ b. Reaction r rest b es) (sym last) (subst (λ b. Reaction r rest b es) (sym same) g.1)))

  -- of two lists of ends for the same inputs both are one
  pub one_reaction : (ticks : List Inputs) (ds es : List r.machine.Configuration) → AllOf Accepted ticks → Reaction r ticks r.initial ds →
      Reaction r ticks r.initial es → ds ≡ es
  one_reaction ticks ds es accepted h g = from ticks [] [] ds es tt accepted tt initially h g
