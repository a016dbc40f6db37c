-- What a table has so that its steps keep who stands where, in one record; and the machine of the table over it.
use Rattle.std.proofs.Common.{◌≡◌, ℕ, ◌<◌, Some, List, ◌∷◌, [], length, Contains, arith}
use Rattle.chart_machine.specs.declared.standing.Configuration.{Configuration}
use Rattle.chart_machine.specs.declared.standing.Standing.{Standing}
use Rattle.chart_machine.specs.declared.table.Table.{Table}
use Rattle.chart_machine.specs.Machine.{machine}
use Rattle.chart_machine.specs.Steps.{moved, state_in, step}
use Rattle.chart_machine.specs.Table.{state_at, region_at}
use Rattle.chart_machine_laws.specs.Tree.{IsThere, IsTree, around, holder}
use Rattle.abort_expansion_laws.specs.CoreRows.{own, IsState}
use Rattle.abort_expansion_laws.proofs.Leaving.{at_number}
use Rattle.abort_expansion_laws.proofs.StartingRegions.{Once}
use Rattle.abort_expansion_laws.proofs.StateEntry.{Entry}
use Rattle.preemption_laws.specs.OneEnd.{KeepsApart}
use Rattle.preemption_laws.proofs.ApartTogether.{Enclosed}
use Rattle.preemption_laws.proofs.EnclosedStill.{Firsts}
use Rattle.preemption_laws.proofs.MovesInside.{LeadIn, MayStand}
use Rattle.preemption_laws.proofs.SitsStill.{Sits, sits_apart, sits_still, sits_enclosed}

pub record Ground (k : Table) : Type 0 where
  pub tree : IsTree k
  pub holder_there : (q s : ℕ) → Contains (around k q) s → IsThere k q × IsThere k (holder k s)
  pub entries : (x : ℕ) → IsState k x → Entry k x
  pub elsewhere : (s t : ℕ) (zs : List Standing) → IsState k s → ¬ Contains (around k t) s → at_number (moved (state_at k s).opened zs) t ≡ at_number zs t
  pub state_there : (r p : ℕ) → IsThere k r → p < length (region_at k r).states → IsState k (state_in k r p) × (holder k (state_in k r p) ≡ r)
  pub firsts : (s r : ℕ) → Contains (state_at k s).regions r → Firsts k s
  pub once : (r s : ℕ) (ss : List ℕ) → IsThere k r → around k r ≡ s ∷ ss → Once r (state_at k s).regions
  pub leads : (s : ℕ) → IsState k s → LeadIn k tree entries elsewhere state_there (holder k s) (own k s)
  pub bare : (s : ℕ) → IsState k s → (state_at k s).regions ≡ [] → (state_at k s).opened ≡ []

module _ (k : Table) (g : Ground k) where
  abbrev pub SitsOn : Configuration → Type 0
  SitsOn c = Sits k g.tree g.holder_there g.entries g.elsewhere g.state_there g.firsts g.once g.leads g.bare c

  abbrev pub MayOn : ℕ → Standing → Type 0
  MayOn r x = MayStand k g.tree g.entries g.elsewhere g.state_there r x

  abbrev pub EnclosedOn : Configuration → Type 0
  EnclosedOn c = Enclosed k g.tree g.holder_there c

  pub apart_on : KeepsApart (machine k) SitsOn
  apart_on = sits_apart k g.tree g.holder_there g.entries g.elsewhere g.state_there g.firsts g.once g.leads g.bare

  pub sits_on : (c d : Configuration) (t : ℕ) → SitsOn c → step k t c ≡ Some d → SitsOn d
  sits_on c d t sits steps = sits_still k g.tree g.holder_there g.entries g.elsewhere g.state_there g.firsts g.once g.leads g.bare c d t sits steps

  pub enclosed_on : (c : Configuration) → SitsOn c → EnclosedOn c
  enclosed_on = sits_enclosed k g.tree g.holder_there g.entries g.elsewhere g.state_there g.firsts g.once g.leads g.bare
