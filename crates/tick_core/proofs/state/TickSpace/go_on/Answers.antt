use Rattle.std.proofs.lemmas.Grind.{elements, common_steps}
use Rattle.std.proofs.Common.{◌≡◌, ◌∙◌, length, ap, sym, subst, arith}
use Rattle.sc_graph.specs.declared.control.Control.{Control}
use Rattle.sc_graph.specs.Tick.{Rests, start}
use Rattle.bytecode.specs.Image.{Image}
use Rattle.tick_core.specs.Inside.Astir.{AstirListed, ChangedListed}
use Rattle.tick_core.specs.Space.Given.{HasOwnNames, Gives}
use Rattle.tick_core.specs.Space.Living.{CountsLiving}
use Rattle.tick_core.specs.Space.There.{AllListed, AreListed}
use Rattle.tick_core.proofs.Covered.{astir_of_all}
use Rattle.tick_core.proofs.InputValues.{own_names}
use Rattle.tick_core.proofs.ListedCopied.{changed_absent}
use Rattle.tick_core.proofs.ListedStart.{counts_started}
use Rattle.tick_core.proofs.SpareKept.{spare_long, space_started}
use Rattle.tick_core.proofs.ListedThreads.{listed_started}
use Rattle.tick_core.proofs.state.TickSpace.go_on.Goals as goal

pub take-requires-clause-names : goal.take-requires-clause-names
take-requires-clause-names c =
    subst (λ p. HasOwnNames p.variables) (sym (c.program-program.ensures ∙ ap (λ i. i.program) c.image.ensures.value))
    (own_names c.self.inside.verified.now.program c.self.inside.verified.now.tables c.image.ensures.valid)

pub start_twice-requires-clause-listed : goal.start_twice-requires-clause-listed
start_twice-requires-clause-listed c =
    subst (AstirListed c.args.control.statuses) (sym c.as_slice-then-list_present.ensures.value)
    (astir_of_all c.args.control.statuses c.list_present.new.self.listed.items c.if-list_present.ensures.listed.all)

pub start_twice-requires-clause-changed : goal.start_twice-requires-clause-changed
start_twice-requires-clause-changed c =
    subst (ChangedListed c.args.control.statuses c.list_present.new.self.spare.statuses) (sym c.as_slice-then-list_present.ensures.value)
    (changed_absent c.args.control.statuses c.list_present.new.self.spare.statuses c.list_present.new.self.listed.items
    (spare_long c.self.inside.verified.now _ c.list_present.ensures.space c.args.control
    (subst (λ (i : Image). Rests i.program c.args.control) (sym c.self.view_is) c.requires)).statuses
    c.if-list_present.ensures.listed.all c.list_present.ensures.absent)

pub start_twice-requires-clause-places : goal.start_twice-requires-clause-places
start_twice-requires-clause-places c =
    (spare_long c.self.inside.verified.now _ c.list_present.ensures.space c.args.control
    (subst (λ (i : Image). Rests i.program c.args.control) (sym c.self.view_is) c.requires)).statuses

pub start_twice-requires-clause-others : goal.start_twice-requires-clause-others
start_twice-requires-clause-others c =
    (spare_long c.self.inside.verified.now _ c.list_present.ensures.space c.args.control
    (subst (λ (i : Image). Rests i.program c.args.control) (sym c.self.view_is) c.requires)).values

pub begin_listed-requires-clause-listed : goal.begin_listed-requires-clause-listed
begin_listed-requires-clause-listed c =
    let started : c.start_twice.new.control ≡ start c.program-program.result.now c.as_slice.result.now c.args.control =
    c.start_twice.ensures.start c.as_slice.result.now
    (subst (Gives c.program-program.result.now.variables c.as_slice.result.now) (sym (c.values.ensures ∙ c.list_present.ensures.given))
    c.if-not-take.ensures.given) in
    subst (λ (d : Control). AreListed d.statuses c.list_present.new.self.listed.items) (sym started)
    (record {
      root = c.if-list_present.ensures.listed.root;
      all = listed_started c.program-program.result.now c.as_slice.result.now c.args.control c.list_present.new.self.listed.items
          c.if-list_present.ensures.listed;
    })

pub begin_listed-requires-clause-counted : goal.begin_listed-requires-clause-counted
begin_listed-requires-clause-counted c =
    let started : c.start_twice.new.control ≡ start c.program-program.result.now c.as_slice.result.now c.args.control =
    c.start_twice.ensures.start c.as_slice.result.now
    (subst (Gives c.program-program.result.now.variables c.as_slice.result.now) (sym (c.values.ensures ∙ c.list_present.ensures.given))
    c.if-not-take.ensures.given) in
    subst (λ (d : Control). CountsLiving c.self.inside.verified.now.program d c.list_present.new.self.living.items)
    (sym (started ∙ ap (λ p. start p c.as_slice.result.now c.args.control) (c.program-program.ensures ∙ ap (λ i. i.program) c.image.ensures.value)))
    (counts_started c.self.inside.verified.now.program c.as_slice.result.now c.args.control c.list_present.new.self.living.items
    c.if-list_present.ensures.counted)

pub begin_listed-requires-clause-space : goal.begin_listed-requires-clause-space
begin_listed-requires-clause-space c =
    let started : c.start_twice.new.control ≡ start c.program-program.result.now c.as_slice.result.now c.args.control =
    c.start_twice.ensures.start c.as_slice.result.now
    (subst (Gives c.program-program.result.now.variables c.as_slice.result.now) (sym (c.values.ensures ∙ c.list_present.ensures.given))
    c.if-not-take.ensures.given) in
    space_started c.self.inside.verified.now _ c.list_present.ensures.space c.args.control
    (subst (λ (i : Image). Rests i.program c.args.control) (sym c.self.view_is) c.requires) c.program-program.result.now
    c.start_twice.new.other
    c.start_twice.new.control c.start_twice.ensures.same (ap length c.start_twice.ensures.statuses) c.start_twice.ensures.values
    (subst (λ (d : Control). AllListed d.statuses c.list_present.new.self.listed.items) (sym started)
    (listed_started c.program-program.result.now c.as_slice.result.now c.args.control c.list_present.new.self.listed.items
    c.if-list_present.ensures.listed))

pub returns-then-not-take-clause-accepted : goal.returns-then-not-take-clause-accepted
returns-then-not-take-clause-accepted c = grind (arith, elements) steps 2000000

pub returns-then-not-take-clause-start : goal.returns-then-not-take-clause-start
returns-then-not-take-clause-start c = grind (arith, elements) steps 2000000

pub returns-then-not-take-clause-refused : goal.returns-then-not-take-clause-refused
returns-then-not-take-clause-refused c = grind (arith, elements) steps 2000000

pub returns-then-not-take-clause-why : goal.returns-then-not-take-clause-why
returns-then-not-take-clause-why c = grind (arith, elements) steps 2000000

pub returns-then-list_present-clause-accepted : goal.returns-then-list_present-clause-accepted
returns-then-list_present-clause-accepted c = grind (arith, elements) steps 2000000

pub returns-then-list_present-clause-start : goal.returns-then-list_present-clause-start
returns-then-list_present-clause-start c = grind (arith, elements) steps 2000000

pub returns-then-list_present-clause-refused : goal.returns-then-list_present-clause-refused
returns-then-list_present-clause-refused c = grind (arith, elements) steps 2000000

pub returns-then-list_present-clause-why : goal.returns-then-list_present-clause-why
returns-then-list_present-clause-why c = grind (arith, elements) steps 2000000

pub returns-clause-accepted : goal.returns-clause-accepted
returns-clause-accepted c = grind (arith, elements) steps 2000000

pub returns-clause-refused : goal.returns-clause-refused
returns-clause-refused c = grind (arith, elements) steps 2000000

pub returns-clause-why : goal.returns-clause-why
returns-clause-why c = grind (arith, elements) steps 2000000

pub start-requires-clause-values : goal.start-requires-clause-values
start-requires-clause-values c = grind (arith, common_steps) steps 2000000

pub start_twice-requires-clause-values : goal.start_twice-requires-clause-values
start_twice-requires-clause-values c = grind (arith, common_steps) steps 2000000

pub list_present-requires-clause-configuration : goal.list_present-requires-clause-configuration
list_present-requires-clause-configuration c = grind (arith, common_steps) steps 2000000

pub start_twice-requires-clause-given : goal.start_twice-requires-clause-given
start_twice-requires-clause-given c = grind (arith, common_steps) steps 2000000

pub start-requires-clause-given : goal.start-requires-clause-given
start-requires-clause-given c = grind (arith, common_steps) steps 2000000

pub begin_listed-requires-clause-bare : goal.begin_listed-requires-clause-bare
begin_listed-requires-clause-bare c = grind (arith, common_steps) steps 2000000

pub list_present-requires-clause-space : goal.list_present-requires-clause-space
list_present-requires-clause-space c = grind (arith, elements) steps 2000000

pub returns-clause-start : goal.returns-clause-start
returns-clause-start c = grind arith steps 2000000
