use Rattle.std.proofs.Common.{◌∙◌, refl, sym, ap, subst, arith}
use Rattle.tick_core.specs.Inside.Astir.{AstirListed, ChangedListed, Covers}
use Rattle.tick_core.proofs.Covered.{covers_started, covers_kept, fits_anew}
use Rattle.tick_core.proofs.state.going_on.start_anew.Goals as goal

pub start_twice-requires-clause-listed : goal.start_twice-requires-clause-listed
start_twice-requires-clause-listed c =
    let covers : Covers c.args.begun.now.statuses c.args.present.now.statuses c.make_whole.new.self.threads.items =
    c.make_whole.ensures.covers c.args.begun.now.statuses c.args.present.now.statuses c.requires.root c.requires.begun.statuses c.requires.present.statuses
    c.requires.fits.whole in
    subst (AstirListed c.args.present.now.statuses) (sym c.as_slice.ensures.value) covers.astir

pub start_twice-requires-clause-changed : goal.start_twice-requires-clause-changed
start_twice-requires-clause-changed c =
    let covers : Covers c.args.begun.now.statuses c.args.present.now.statuses c.make_whole.new.self.threads.items =
    c.make_whole.ensures.covers c.args.begun.now.statuses c.args.present.now.statuses c.requires.root c.requires.begun.statuses c.requires.present.statuses
    c.requires.fits.whole in
    subst (ChangedListed c.args.present.now.statuses c.args.begun.now.statuses) (sym c.as_slice.ensures.value) covers.changed

pub start_twice-requires-clause-places : goal.start_twice-requires-clause-places
start_twice-requires-clause-places c = c.requires.begun.statuses ∙ sym c.requires.present.statuses

pub start_twice-requires-clause-others : goal.start_twice-requires-clause-others
start_twice-requires-clause-others c = c.requires.begun.values ∙ sym c.requires.present.values

pub returns-clause-covers : goal.returns-clause-covers
returns-clause-covers c =
    let covers : Covers c.args.begun.now.statuses c.args.present.now.statuses c.make_whole.new.self.threads.items =
    c.make_whole.ensures.covers c.args.begun.now.statuses c.args.present.now.statuses c.requires.root c.requires.begun.statuses c.requires.present.statuses
    c.requires.fits.whole in
    covers_kept c.start_twice.new.control c.make_whole.new.self.threads.items c.leave_out_gone.new.self.threads.items c.start_twice.new.other.statuses
    (ap (λ d. d.statuses) c.start_twice.ensures.same) covers.root
    (subst (λ ss. AstirListed ss c.make_whole.new.self.threads.items) (sym c.start_twice.ensures.statuses)
    (covers_started c.args.program.now c.args.begun.now.statuses c.args.present.now.statuses c.make_whole.new.self.threads.items covers).astir)
    c.leave_out_gone.ensures.kept

pub returns-clause-fits : goal.returns-clause-fits
returns-clause-fits c =
    let covers : Covers c.args.begun.now.statuses c.args.present.now.statuses c.make_whole.new.self.threads.items =
    c.make_whole.ensures.covers c.args.begun.now.statuses c.args.present.now.statuses c.requires.root c.requires.begun.statuses c.requires.present.statuses
    c.requires.fits.whole in
    fits_anew c.args.program.now c.start_twice.new.other c.start_twice.new.control _
    (omega (arith, c.requires.fits.room, c.make_whole.ensures.room, c.leave_out_gone.ensures.room)) refl
    (covers_kept c.start_twice.new.control c.make_whole.new.self.threads.items c.leave_out_gone.new.self.threads.items c.start_twice.new.other.statuses
    (ap (λ d. d.statuses) c.start_twice.ensures.same) covers.root
    (subst (λ ss. AstirListed ss c.make_whole.new.self.threads.items) (sym c.start_twice.ensures.statuses)
    (covers_started c.args.program.now c.args.begun.now.statuses c.args.present.now.statuses c.make_whole.new.self.threads.items covers).astir)
    c.leave_out_gone.ensures.kept)
