-- The counts of living children stay as paused threads are woken.
use Rattle.std.proofs.Common.{◌≡◌, ℕ, zero, suc, List, [], ◌∷◌, Option, Some, None, slice_get, unwrap_or, option_map, refl, sym, ap, ◌∙◌}
use Rattle.std.specs.Prelude.{not}
use Rattle.std.proofs.lemmas.Option.{slice_get-map}
use Rattle.sc_graph.specs.declared.control.Control.{Control}
use Rattle.sc_graph.specs.declared.control.Status.{Status}
use Rattle.sc_graph.specs.declared.control.Status.TheVariants as status
use Rattle.sc_graph.specs.Program.{Program, entry_of}
use Rattle.sc_graph.specs.Control.{has_ended, joined_at}
use Rattle.sc_graph.specs.Tick.{Inputs, woken, root_started, statuses_at_start, start}
use Rattle.tick_core.specs.Space.Living.{lives, living, CountsLiving}
use Rattle.tick_core.proofs.LivingChildren.{same_counts}

waited_woken : (s : Status) (j : ℕ) → woken s ≡ status.Waiting j → s ≡ status.Waiting j
waited_woken status.Absent j is = is
waited_woken (status.At n) j is = is
waited_woken (status.Waiting i) j is = is
waited_woken (status.Paused d) j is = absurd (cc)
waited_woken status.Ended j is = is

ended_woken : (s : Status) → has_ended (woken s) ≡ has_ended s
ended_woken status.Absent = refl
ended_woken (status.At n) = refl
ended_woken (status.Waiting i) = refl
ended_woken (status.Paused d) = refl
ended_woken status.Ended = refl

waited_root : (o : Option ℕ) (s : Status) (j : ℕ) → root_started o s ≡ status.Waiting j → s ≡ status.Waiting j
waited_root None s j is = waited_woken s j is
waited_root (Some entry) status.Absent j is = absurd (cc)
waited_root (Some entry) (status.At n) j is = is
waited_root (Some entry) (status.Waiting i) j is = is
waited_root (Some entry) (status.Paused d) j is = absurd (cc)
waited_root (Some entry) status.Ended j is = is

ended_root : (o : Option ℕ) (s : Status) → has_ended (root_started o s) ≡ has_ended s
ended_root None s = ended_woken s
ended_root (Some entry) status.Absent = refl
ended_root (Some entry) (status.At n) = refl
ended_root (Some entry) (status.Waiting i) = refl
ended_root (Some entry) (status.Paused d) = refl
ended_root (Some entry) status.Ended = refl

waited_mapped : (o : Option Status) (j : ℕ) → unwrap_or (option_map woken o) status.Absent ≡ status.Waiting j → unwrap_or o status.Absent ≡ status.Waiting j
waited_mapped None j is = is
waited_mapped (Some s) j is = waited_woken s j is

ended_mapped : (o : Option Status) → has_ended (unwrap_or (option_map woken o) status.Absent) ≡ has_ended (unwrap_or o status.Absent)
ended_mapped None = refl
ended_mapped (Some s) = ended_woken s

waited : (p : Program) (ss : List Status) (t j : ℕ) → unwrap_or (slice_get (statuses_at_start p ss) t) status.Absent ≡ status.Waiting j
    → unwrap_or (slice_get ss t) status.Absent ≡ status.Waiting j
waited p [] t j is = is
waited p (s ∷ ss) zero j is = waited_root (entry_of p zero) s j is
waited p (s ∷ ss) (suc t) j is =
    waited_mapped (slice_get ss t) j (ap (λ o. unwrap_or o status.Absent) (sym (slice_get-map woken ss t)) ∙ is)

ended : (p : Program) (ss : List Status) (t : ℕ) → has_ended (unwrap_or (slice_get (statuses_at_start p ss) t) status.Absent)
    ≡ has_ended (unwrap_or (slice_get ss t) status.Absent)
ended p [] t = refl
ended p (s ∷ ss) zero = ended_root (entry_of p zero) s
ended p (s ∷ ss) (suc t) = ap (λ o. has_ended (unwrap_or o status.Absent)) (slice_get-map woken ss t) ∙ ended_mapped (slice_get ss t)

-- who waits as a tick starts waited before, for as many
pub counts_started : (p : Program) (inputs : Inputs) (c : Control) (counts : List ℕ) → CountsLiving p c counts → CountsLiving p (start p inputs c) counts
counts_started p inputs c counts h =
    record { long = h.long; each = λ t j waits. h.each t j (waited p c.statuses t j waits) ∙ sym (same (joined_at p j)) }
  where
    same : (o : Option (List ℕ)) → living (start p inputs c) o ≡ living c o
    same None = refl
    same (Some ks) = same_counts (lives (start p inputs c)) (lives c) ks (λ k inside. ap not (ended p c.statuses k))
