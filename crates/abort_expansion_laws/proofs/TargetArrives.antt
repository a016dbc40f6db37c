-- A transition enters a state that is not final: its region comes to where the state begins.
use Rattle.std.proofs.Common.{◌≡◌, ℕ, ◌≤◌, false, List, [], ◌∷◌, refl, sym, ap, subst, ◌∙◌, arith}
use Rattle.sc_values.specs.declared.value.Value.{Value}
use Rattle.core_charts.specs.declared.region.Effect.{Effect}
use Rattle.chart_machine.specs.declared.standing.Standing.TheVariants as at
use Rattle.chart_machine.specs.declared.standing.Configuration.{Configuration}
use Rattle.chart_machine.specs.declared.table.Table.{Table}
use Rattle.chart_machine.specs.Table.{state_at}
use Rattle.chart_machine.specs.Turns.{standing_of, has_ended, has_work, is_guarded, LiesIn}
use Rattle.chart_machine.specs.Steps.{state_in}
use Rattle.chart_machine_laws.specs.Tree.{around}
use Rattle.chart_lowering_laws.proofs.Entering.{moved_length}
use Rattle.abort_expansion_laws.specs.CoreRows.{is_final, Images}
use Rattle.abort_expansion_laws.specs.Related.{Related}
use Rattle.abort_expansion_laws.specs.StageReached.{stage_of}
use Rattle.abort_expansion_laws.proofs.FreshInside.{entered_apart}
use Rattle.abort_expansion_laws.proofs.JustEntered.{EntryRows}
use Rattle.abort_expansion_laws.proofs.ChartEntered.{Stood, stood_of}
use Rattle.abort_expansion_laws.proofs.Arrives.{Arrives}
use Rattle.abort_expansion_laws.proofs.TargetEntered.{next, core_next, there, held, here, chart_none, in_none, core_held, core_is_state, chart_begins_there}
use Rattle.abort_expansion_laws.proofs.TargetEntered.{target_goes, target_sort}

module _ (k core : Table) (i : Images) (more : EntryRows k core i) (c d : Configuration) (related : Related k core i c d) (r s p : ℕ) (e : Effect)
    (stands : standing_of c r ≡ at.Acting s (e ∷ []) p) (free : is_guarded k c (around k r) ≡ false) (values : List Value)
    (open_ends : is_final k (state_in k r p) ≡ false) (same_values : values ≡ d.variables) where
  pub target_arrives : Arrives k core i more c d r (next k core i more c d related r s p e stands values open_ends)
      (core_next k core i more c d related r s p e stands values open_ends)
  target_arrives =
      record {
        there = there k core i more c d related r s p e stands values open_ends;
        present = λ w. let wrong : at.Acting s (e ∷ []) p ≡ at.Outside = sym stands ∙ w in absurd cc;
        going = ap has_ended stands;
        works = ap (has_work k c) stands;
        low = subst (λ z. stage_of k c z ≤ 1) (sym stands) (omega arith);
        free = free;
        none = λ q y inner its. chart_none k core i more c d related r (in_none k core i more c d related r s p e stands values open_ends) q y inner its;
        chart_regions = moved_length (state_at k (state_in k r p)).entered c.regions ∙ related.chart_regions;
        core_regions = moved_length (state_at core (i.entry_of (state_in k r p))).entered d.regions ∙ related.core_regions;
        chart_values = refl;
        core_values = same_values;
        unchanged = λ q out.
            entered_apart k more.tree more.entries more.elsewhere (state_in k r p) q c.regions
            (here k core i more c d related r s p e stands values open_ends)
            (λ lies. out (subst (LiesIn k q) (held k core i more c d related r s p e stands values open_ends) lies));
        core_unchanged = λ t out.
            entered_apart core more.core_tree more.core_entries more.core_elsewhere (i.entry_of (state_in k r p)) t d.regions
            (core_is_state k core i more c d related r s p e stands values open_ends)
            (λ lies. out (subst (LiesIn core t) (core_held k core i more c d related r s p e stands values open_ends) lies));
        goes = target_goes k core i more c d related r s p e stands values open_ends;
        stood =
            subst (Stood k core i more (standing_of (next k core i more c d related r s p e stands values open_ends)))
            (held k core i more c d related r s p e stands values open_ends)
            (stood_of k core i more (standing_of (next k core i more c d related r s p e stands values open_ends)) (state_in k r p)
            (here k core i more c d related r s p e stands values open_ends)
            (chart_begins_there k core i more c d related r s p e stands values open_ends));
        sort = target_sort k core i more c d related r s p e stands values open_ends;
      }
