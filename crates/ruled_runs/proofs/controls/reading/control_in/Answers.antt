use mathlib.Core.Bool.{true≢false}
use Rattle.std.proofs.lemmas.Grind.{common_steps}
use Rattle.std.proofs.Common.{◌≡◌, ℕ, Err, IfNone, IfSome, ap, subst, sym, arith, true, ◌∙◌}
use Rattle.serde_json.specs.View.{view}
use Rattle.sc_graph.specs.declared.control.Control.{Control}
use Rattle.sc_graph.specs.Tick.{Rests}
use Rattle.ruled_runs.specs.Texts.{Holds}
use Rattle.ruled_runs.specs.declared.controls.saved.SavedFault.TheVariants.{Unfit}
use Rattle.ruled_runs.proofs.Held.{one_held}
use Rattle.ruled_runs.proofs.controls.reading.control_in.Goals as goal

pub returns-in-Err-clause-none : goal.returns-in-Err-clause-none
returns-in-Err-clause-none c = λ is t e rests.
    let fault : c.in-Err.fault ≡ Unfit = cc in
    c.in-Err.ensures.none (ap Err fault) t e

pub returns-in-None-clause-none : goal.returns-in-None-clause-none
returns-in-None-clause-none c = λ is t e rests saved.
    let none : (u : ℕ) (d : Control) → ¬ Holds (view c.in-Ok.json) u d =
    subst (λ o. IfNone o ((u : ℕ) (d : Control) → ¬ Holds (view c.in-Ok.json) u d)) c.in-None.is c.in_ok-saved.ensures.none in
    none t e (c.in-Ok.ensures.only t e saved)

pub returns-then-not-fits-clause-none : goal.returns-then-not-fits-clause-none
returns-then-not-fits-clause-none c = λ is t e rests saved.
    let s = c.in-Some.saved in
    let held : Holds (view c.in-Ok.json) s.ticks s.control =
    subst (λ o. IfSome o (λ a. Holds (view c.in-Ok.json) a.ticks a.control)) c.in-Some.is c.in_ok-saved.ensures.held in
    let same = one_held (view c.in-Ok.json) s.ticks t s.control e held (c.in-Ok.ensures.only t e saved) in
    let yes : c.fits.result ≡ true = c.fits.ensures.1 (subst (Rests c.args.program.now) (sym same.1) rests) in
    absurd (true≢false (sym yes ∙ c.if-not-fits.true))

pub returns-clause-rests : goal.returns-clause-rests
returns-clause-rests c = grind (arith, common_steps) steps 2000000
