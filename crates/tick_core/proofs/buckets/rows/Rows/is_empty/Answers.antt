use Rattle.std.proofs.Common.{sym, subst, eqb-true, eq-eqb}
use Rattle.tick_core.specs.Rows.{AreEmpty}
use Rattle.tick_core.proofs.Reading.{empty_is}
use Rattle.tick_core.proofs.buckets.rows.Rows.is_empty.Goals as goal

pub returns : goal.returns
returns c =
    let it = empty_is _ _ _ _ _ _ _ _ c.self.invariant in
    (λ e. subst AreEmpty c.self.view_is (it.0 (eqb-true _ _ e)), λ e. eq-eqb _ _ (it.1 (subst AreEmpty (sym c.self.view_is) e)))
