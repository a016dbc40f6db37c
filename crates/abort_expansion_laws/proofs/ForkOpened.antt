-- What a preparation opens: the fork is entered, and what is inside waits as it should. The third of the steps by which what was entered settles.
use Rattle.std.proofs.Common.{◌≡◌, ℕ, suc, ◌<◌, Bool, Option, ◌∷◌, Contains, sym, subst}
use Rattle.sc_values.specs.Access.{Access}
use Rattle.chart_machine.specs.declared.standing.Configuration.{Configuration}
use Rattle.chart_machine.specs.declared.table.Table.{Table}
use Rattle.chart_machine.specs.Table.{state_at}
use Rattle.abort_expansion_laws.specs.Stages.{Entry, Silent}
use Rattle.abort_expansion_laws.specs.CoreRows.{Images, CoreRows, pair}
use Rattle.chart_machine_laws.proofs.LyingIn.{IsNested, around, holder}
use Rattle.abort_expansion_laws.proofs.TablesCorrespond.{IsThere}
use Rattle.abort_expansion_laws.proofs.Supplying.{climbs_fewer}
use Rattle.abort_expansion_laws.proofs.Pending.{Sound, IsOpening, Pending, Reached}
use Rattle.abort_expansion_laws.proofs.SettledInOrder.{Piece}
use Rattle.abort_expansion_laws.proofs.Resets.{But}
use Rattle.abort_expansion_laws.proofs.OpensFork.{OpeningRows, opens_fork, forked}
use Rattle.abort_expansion_laws.proofs.OpenedRows.{OpenedRows, ForkRows}
use Rattle.abort_expansion_laws.proofs.AfterOpening.{opened_pending, reached_then}

module _ (k core : Table) (i : Images) (rows : CoreRows k core i) (tree : IsNested k) (core_tree : IsNested core) (counts : ℕ → Bool) (written_at : ℕ → ℕ)
    (Told : Configuration → Entry → Type 0) (told : (d : Configuration) (t : ℕ) (stage : Option (ℕ × ℕ)) (a : Access) → Told d (Silent t stage a))
    (deeper : (q s : ℕ) → Contains (around k q) s → holder k s < q)
    (children : (s r : ℕ) → Contains (state_at k s).regions r → around k r ≡ s ∷ around k (holder k s))
    (more : OpeningRows k core i rows) (fork_rows : ForkRows k core i) (opened_rows : OpenedRows k core i) (c : Configuration) (sound : Sound k core i c)
    (r : ℕ) (d : Configuration) (p : Pending k core i c r d) (there : IsThere k r) (s : ℕ) (held : holder k s ≡ r) (o : IsOpening k core i c d s) where
  pub opened_up : Piece k core i rows tree counts written_at Told deeper c sound r d
  opened_up =
      let t = opens_fork k core i rows tree counts written_at Told told more c r d p there s held o in
      let z = forked k core i rows tree counts written_at Told told more c r d p there s held o in
      record {
        log = t.log;
        last = t.last;
        follows = t.follows;
        charted = t.charted;
        fits = t.fits;
        climbs = λ rest climbs.
            t.climbs rest
            (climbs_fewer (pair k core i rows tree counts written_at) (Reached k core i c t.last)
            (But core (pair k core i rows tree counts written_at) Told told (i.thread_of (holder k s)) o.fork (Reached k core i c d)) rest
            (λ h n before. subst (λ e. Reached k core i c e h n) (sym t.reaches)
            (reached_then k core i rows tree core_tree counts written_at Told told deeper children more fork_rows opened_rows c sound r d p there s held o h n
            before)) climbs);
        reaches =
            subst (Pending k core i c (suc r)) (sym t.reaches)
            (opened_pending k core i rows tree core_tree counts written_at Told told deeper children more fork_rows opened_rows c sound r d p there s held o);
      }
