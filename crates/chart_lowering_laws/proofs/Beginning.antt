-- Before the first tick a chart and its lowering correspond, and nobody can step.
use Rattle.std.proofs.Common.{◌≡◌, ℕ, zero, suc, ⊎_elim, not, ◌&&◌, map, refl, sym, ap, subst, ◌∙◌}
use Rattle.std.proofs.lemmas.List.{length-replicate, length-map}
use Rattle.sc_values.specs.Operator.{initial_value}
use Rattle.chart_machine.specs.declared.standing.Standing.TheVariants as stand
use Rattle.chart_machine.specs.declared.table.Table.{Table}
use Rattle.chart_machine.specs.Table.{state_at, region_at}
use Rattle.chart_machine.specs.Turns.{standing_of, has_work, is_guarded, inside_is_done}
use Rattle.chart_machine.specs.Machine.{initial as chart_initial}
use Rattle.scl.specs.Numbering.{Numbered}
use Rattle.scl.specs.Meaning.{Away, doing, is_ready, initial}
use Rattle.chart_lowering_laws.specs.Layout.{Layout, IsRegionOf, Lowers}
use Rattle.chart_lowering_laws.specs.Corresponds.{Nothing, giving_in, giving_of_root, given, Fits, IsAtRoot}
use Rattle.chart_lowering_laws.specs.Keeps.{AtRest}
use Rattle.chart_lowering_laws.proofs.Structure.{given_top, given_in}
use Rattle.chart_lowering_laws.proofs.Woken.{outside_in, away_in}

module _ (k : Table) (p : Numbered) (l : Layout) (low : Lowers k p l) where
  outside_first : (q : ℕ) → standing_of (chart_initial k) q ≡ stand.Outside
  outside_first zero = refl
  outside_first (suc q) = outside_in k.regions q

  away_first : (q : ℕ) → doing (initial p) q ≡ Away
  away_first q = away_in p.threads q

  none_given : (q : ℕ) → IsRegionOf k q → given k (chart_initial k) (initial p) (region_at k q).around ≡ Nothing
  none_given q there =
      ⊎_elim
      (λ t. given_top k (chart_initial k) (initial p) q t.1 ∙ ap giving_of_root (away_first zero))
      (λ u. given_in k (chart_initial k) (initial p) q u.0 u.1 ∙ ap (λ x. giving_in u.0 x (doing (initial p) (state_at k u.0).holder))
      (outside_first (state_at k u.0).holder))
      (low.tree.each q there)

  pub begins : AtRest k p l (chart_initial k) (initial p)
  begins = record {
    corresponds = record {
      variables = ap (map (λ x. initial_value x.kind)) (sym low.variables);
      regions = ap suc (length-map k.regions (λ r. stand.Outside));
      threads = length-replicate p.threads Away ∙ low.threads;
      chart = refl;
      root = subst (IsAtRoot p.root) (sym (away_first zero)) tt;
      each = λ q there. subst (λ g. Fits k p.root l q g (standing_of (chart_initial k) q) (doing (initial p) q)) (sym (none_given q there))
          (outside_first q, away_first q);
    };
    over = λ t. ap (λ x. has_work k (chart_initial k) x && (not (is_guarded k (chart_initial k) (region_at k t).around) && inside_is_done k
        (chart_initial k) x)) (outside_first t);
    over_too = λ t. ap (is_ready (initial p)) (away_first t);
  }
