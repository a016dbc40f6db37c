-- The program of a draft of the grammar, in which nothing is wrong, keeps the rules of SCL.
use Rattle.std.proofs.Common.{◌≡◌, ℕ, suc, ◌+◌, ◌≤◌, true, Some, List, [], ◌∷◌, ◌++◌, map, length, slice_get, refl, ap, sym, subst, ◌∙◌, arith}
use Rattle.std.specs.List.{list_all}
use Rattle.std.proofs.lemmas.Bool.{and_parts}
use Rattle.grammar.proofs.Each.{every_at}
use Rattle.sc_values.specs.declared.value.Kind.TheVariants as kind_is
use Rattle.sc_values.specs.declared.expression.Expr.{Expr}
use Rattle.sc_graph.specs.Limits.{child_limit, variable_limit}
use Rattle.sc_text.specs.declared.language.Language.TheVariants as language
use Rattle.sc_text.specs.declared.read_fault.FaultKind.TheVariants as broken
use Rattle.sc_text.specs.Parts.{IsExpression, are_distinct}
use Rattle.sc_text.specs.Writable.{is_writable_operation}
use Rattle.sc_text.specs.declared.drafts.flaw.Flaw.{Flaw}
use Rattle.sc_text.specs.declared.drafts.parts.Named.{Named}
use Rattle.sc_text.specs.declared.drafts.parts.TextExpression.{TextExpression}
use Rattle.sc_text.specs.declared.drafts.parts.Declaration.{Declaration}
use Rattle.sc_text.specs.Flaws.{flaw_if, is_full, place_among, variable_names, variable_named, variable_flaws, expression_flaws, assigned_flaws}
use Rattle.sc_text.specs.Resolved.{number_of, expression_of, variables_of}
use Rattle.sc_text.proofs.Kinded.{kinds_of}
use Rattle.sc_text.proofs.Unflawed.{none_first, none_second, no_flaw, expression_is}
use Rattle.sc_text.proofs.Assigned.{IsAssigned, assigned_is}
use Rattle.sc_text.proofs.Distinct.{AreFirst, AreFirstBehind, no_more_names, one_more_name, all_first, count, first_distinct, distinct_once, once_distinct}
use Rattle.sc_text.proofs.Declared.{room_for_one, is_first, few_variables, variables_are}
use Rattle.scl.specs.declared.statement.Statement.{Statement}
use Rattle.scl.specs.declared.statement.Statement.TheOpen as open_statement
use Rattle.scl.specs.declared.statement.Statement.TheVariants as statement
use Rattle.scl.specs.declared.statement.Statement.TheVariants.{rolls-Assign, rolls-Label, rolls-Goto, rolls-Pause, rolls-If, rolls-Fork}
use Rattle.scl.specs.declared.statement.Statement.TheFolds.{fold-roll-Statement}
use Rattle.scl.specs.Rules as rules
use Rattle.scl.specs.declared.program.Scl.{Scl}
use Rattle.scl.specs.Rules.{IsAssignment, KeepsRules, fork_limit, if_limit, part_of, parts_of}
use Rattle.sc_graph.specs.declared.program.Variable.{Variable}
use Rattle.scl_reader.specs.declared.text_drafts.statement.TextStatement.{TextStatement}
use Rattle.scl_reader.specs.declared.text_drafts.statement.TextStatement.TheOpen.{TextStatement-F}
use Rattle.scl_reader.specs.declared.text_drafts.statement.TextStatement.TheOpen as text
use Rattle.scl_reader.specs.declared.text_drafts.statement.TextStatement.TheViews.{roll-TextStatement}
use Rattle.scl_reader.specs.declared.text_drafts.statement.TextStatement.TheFolds.{fold-roll-TextStatement, ind-TextStatement, map-TextStatement}
use Rattle.scl_reader.specs.declared.text_drafts.draft.Draft.{Draft}
use Rattle.scl_reader.specs.Flaws as flaws
use Rattle.scl_reader.specs.Flaws.{names, repeated, scl_flaws}
use Rattle.scl_reader.specs.Shape as shapes
use Rattle.scl_reader.specs.Shape.{IsShaped, shape, shape_of}
use Rattle.scl_reader.specs.Resolved.{resolved, statement_of, statements_of, IsProgramOf}
use Rattle.scl_reader.proofs.Pieces.{every_of, Sound, Ruled, Keeps, keeps_both, keeps_nothing, keeps_flaws, keeps_thread}

-- ---- an assignment

assignment_is : (V : List Declaration) (target : Named) (e : TextExpression) → list_all is_writable_operation e.operations ≡ true
    → assigned_flaws V (variable_named V target.name) target e ≡ [] → IsAssignment (variables_of V) (number_of (variable_names V) target.name)
    (expression_of (variable_names V) e.operations)
assignment_is V target e can none =
    let assigned : IsAssigned V target e = assigned_is V target e can none in
    record { variable = assigned.variable; is_there = assigned.is_there; no_input = assigned.no_input; becomes = assigned.value }

-- ---- each statement

module _ (V : List Declaration) where
  abbrev vn : List (List ℕ)
  vn = variable_names V

  abbrev one : (q : flaws.Part) (h : shapes.Shape) (s : Statement) → Type 0
  one q h s = Keeps V q h (part_of s)

  assign_keeps : (target : Named) (e : TextExpression) → one (flaws.part V (text.Assign target e)) (shape (text.Assign target e))
      (resolved vn (text.Assign target e))
  assign_keeps target e =
      let x : ℕ = number_of vn target.name in
      let t : Expr = expression_of vn e.operations in
      let is : part_of (statement.Assign x t) ≡ rules.part (open_statement.Assign x t) = ap part_of (sym (rolls-Assign x t))
      ∙ fold-roll-Statement rules.Part rules.part (open_statement.Assign x t) in
      subst (Keeps V (flaws.part V (text.Assign target e)) (shape (text.Assign target e))) (sym is) (record {
        labels = refl;
        gotos = refl;
        counted = λ n. refl;
        named = refl;
        lower = refl;
        ifs = refl;
        lower_ifs = refl;
        depth = refl;
        ruled = λ sound. record { lost = refl; assigned = (assignment_is V target e sound.writable sound.flawless, tt); tests = tt; forks = tt };
      })

  label_keeps : (label : Named) → one (flaws.part V (text.Label label)) (shape (text.Label label)) (resolved vn (text.Label label))
  label_keeps label =
      let is : part_of (statement.Label label.name) ≡ rules.part (open_statement.Label label.name) = ap part_of (sym (rolls-Label label.name))
      ∙ fold-roll-Statement rules.Part rules.part (open_statement.Label label.name) in
      subst (Keeps V (flaws.part V (text.Label label)) (shape (text.Label label))) (sym is) (record {
        labels = refl;
        gotos = refl;
        counted = λ n. omega arith;
        named = refl;
        lower = refl;
        ifs = refl;
        lower_ifs = refl;
        depth = refl;
        ruled = λ sound. record { lost = refl; assigned = tt; tests = tt; forks = tt };
      })

  goto_keeps : (label : Named) → one (flaws.part V (text.Goto label)) (shape (text.Goto label)) (resolved vn (text.Goto label))
  goto_keeps label =
      let is : part_of (statement.Goto label.name) ≡ rules.part (open_statement.Goto label.name) = ap part_of (sym (rolls-Goto label.name))
      ∙ fold-roll-Statement rules.Part rules.part (open_statement.Goto label.name) in
      subst (Keeps V (flaws.part V (text.Goto label)) (shape (text.Goto label))) (sym is) (record {
        labels = refl;
        gotos = refl;
        counted = λ n. refl;
        named = refl;
        lower = refl;
        ifs = refl;
        lower_ifs = refl;
        depth = refl;
        ruled = λ sound. record { lost = refl; assigned = tt; tests = tt; forks = tt };
      })

  pause_keeps : (at : ℕ) → one (flaws.part V (text.Pause at)) (shape (text.Pause at)) (resolved vn (text.Pause at))
  pause_keeps at =
      let is : part_of statement.Pause ≡ rules.part open_statement.Pause = ap part_of (sym rolls-Pause)
      ∙ fold-roll-Statement rules.Part rules.part open_statement.Pause in
      subst (Keeps V (flaws.part V (text.Pause at)) (shape (text.Pause at))) (sym is) (keeps_nothing V)

  -- an if around lists of which this is known
  tested_keeps : (e : TextExpression) (q : flaws.Part) (h : shapes.Shape) (p : rules.Part) → Keeps V q h p
      → Keeps V (flaws.both (flaws.only_flaws (expression_flaws V (Some kind_is.Bool) e)) q) (shapes.tested e h)
      (rules.tested (expression_of vn e.operations) p)
  tested_keeps e q h p a = record {
    labels = a.labels;
    gotos = a.gotos;
    counted = a.counted;
    named = a.named;
    lower = a.lower;
    ifs = ap suc a.ifs;
    lower_ifs = a.lower_ifs;
    depth = a.depth;
    ruled = λ sound.
        (let fs : List Flaw = expression_flaws V (Some kind_is.Bool) e in
        let can = and_parts (list_all is_writable_operation e.operations) h.writable sound.writable in
        let r : Ruled V p = a.ruled (record { flawless = none_second fs q.flaws sound.flawless; writable = can.1; branches = sound.branches }) in
        record {
          lost = r.lost;
          assigned = r.assigned;
          tests = (expression_is V kind_is.Bool e can.0 (none_first fs q.flaws sound.flawless), r.tests);
          forks = r.forks;
        });
  }

  -- ---- each text

  abbrev Known : Type 0
  Known = (s : TextStatement) × one (flaws.part_of V s) (shape_of s) (statement_of vn s)

  abbrev plain : List Known → List TextStatement
  plain xs = map (λ x. x.0) xs

  known_row : (xs : List Known) → Keeps V (flaws.in_row (map (flaws.part_of V) (plain xs))) (shapes.in_row (map shape_of (plain xs)))
      (rules.in_row (map part_of (map (statement_of vn) (plain xs))))
  known_row [] = keeps_nothing V
  known_row (x ∷ xs) =
      keeps_both V (flaws.part_of V x.0) (flaws.in_row (map (flaws.part_of V) (plain xs))) (shape_of x.0) (shapes.in_row (map shape_of (plain xs)))
      (part_of (statement_of vn x.0)) (rules.in_row (map part_of (map (statement_of vn) (plain xs)))) x.1 (known_row xs)

  abbrev rows : List (ℕ × List Known) → List (ℕ × List TextStatement)
  rows bs = map (λ b. (b.0, plain b.1)) bs

  abbrev flaw_rows : List (ℕ × List Known) → List (ℕ × List flaws.Part)
  flaw_rows bs = map (λ b. (b.0, map (flaws.part_of V) b.1)) (rows bs)

  abbrev shape_rows : List (ℕ × List Known) → List (ℕ × List shapes.Shape)
  shape_rows bs = map (λ b. (b.0, map shape_of b.1)) (rows bs)

  abbrev statement_rows : List (ℕ × List Known) → List (ℕ × List Statement)
  statement_rows bs = map (λ b. (b.0, map (statement_of vn) b.1)) (rows bs)

  abbrev rule_rows : List (ℕ × List Known) → List (List rules.Part)
  rule_rows bs = map (λ b. map part_of (map (statement_of vn) (plain b.1))) bs

  known_rows : (before : ℕ) (bs : List (ℕ × List Known)) → Keeps V (flaws.side_by_side before (flaw_rows bs)) (shapes.side_by_side (shape_rows bs))
      (rules.side_by_side (rule_rows bs))
  known_rows before [] = keeps_nothing V
  known_rows before (b ∷ bs) =
      let q : flaws.Part = flaws.in_row (map (flaws.part_of V) (plain b.1)) in
      let h : shapes.Shape = shapes.in_row (map shape_of (plain b.1)) in
      let p : rules.Part = rules.in_row (map part_of (map (statement_of vn) (plain b.1))) in
      let more : flaws.Part = flaws.side_by_side (before + 1) (flaw_rows bs) in
      keeps_flaws V (flaw_if (is_full child_limit before) broken.Limit b.0) (flaws.both (flaws.thread q) more)
      (shapes.both (shapes.thread h) (shapes.side_by_side (shape_rows bs))) (rules.both (rules.thread p) (rules.side_by_side (rule_rows bs)))
      (keeps_both V (flaws.thread q) more (shapes.thread h) (shapes.side_by_side (shape_rows bs)) (rules.thread p) (rules.side_by_side (rule_rows bs))
      (keeps_thread V q h p (known_row b.1)) (known_rows (before + 1) bs))

  few_branches : (before : ℕ) (bs : List (ℕ × List Known)) → (flaws.side_by_side before (flaw_rows bs)).flaws ≡ [] → before ≤ child_limit
      → before + length bs ≤ child_limit
  few_branches before [] none le = omega (arith, le)
  few_branches before (b ∷ bs) none le =
      let fs : List Flaw = flaw_if (is_full child_limit before) broken.Limit b.0 in
      let q : flaws.Part = flaws.thread (flaws.in_row (map (flaws.part_of V) (plain b.1))) in
      let more : flaws.Part = flaws.side_by_side (before + 1) (flaw_rows bs) in
      let room : before + 1 ≤ child_limit = room_for_one child_limit before
      (no_flaw (is_full child_limit before) broken.Limit b.0 (none_first fs (q.flaws ++ more.flaws) none)) in
      let rest = few_branches (before + 1) bs (none_second q.flaws more.flaws (none_second fs (q.flaws ++ more.flaws) none)) room in
      omega (arith, rest)

  shapes_long : (bs : List (ℕ × List Known)) → length (shape_rows bs) ≡ length bs
  shapes_long [] = refl
  shapes_long (b ∷ bs) = ap suc (shapes_long bs)

  rules_long : (bs : List (ℕ × List Known)) → length (rule_rows bs) ≡ length bs
  rules_long [] = refl
  rules_long (b ∷ bs) = ap suc (rules_long bs)

  fork_known : (bs : List (ℕ × List Known))
      → Keeps V (flaws.side_by_side 0 (flaw_rows bs)) (shapes.forked (length (shape_rows bs)) (shapes.side_by_side (shape_rows bs)))
      (rules.forked (length (rule_rows bs)) (rules.side_by_side (rule_rows bs)))
  fork_known bs =
      let a : Keeps V (flaws.side_by_side 0 (flaw_rows bs)) (shapes.side_by_side (shape_rows bs)) (rules.side_by_side (rule_rows bs)) = known_rows 0 bs in
      record {
        labels = a.labels;
        gotos = a.gotos;
        counted = a.counted;
        named = a.named;
        lower = a.lower;
        ifs = a.ifs;
        lower_ifs = a.lower_ifs;
        depth = ap suc a.depth;
        ruled = λ sound.
            (let r : Ruled V (rules.side_by_side (rule_rows bs)) = a.ruled
            (record { flawless = sound.flawless; writable = sound.writable; branches = sound.branches.1 }) in
            let few = few_branches 0 bs sound.flawless (omega arith) in
            let some = sound.branches.0 in
            let first = shapes_long bs in
            let second = rules_long bs in
            record {
              lost = r.lost;
              assigned = r.assigned;
              tests = r.tests;
              forks = ((omega (arith, some, first, second), omega (arith, few, second)), r.forks);
            });
      }

  if_known : (at : ℕ) (e : TextExpression) (xs ys : List Known)
      → one (flaws.part V (text.If at e (map (flaws.part_of V) (plain xs)) (map (flaws.part_of V) (plain ys))))
      (shape (text.If at e (map shape_of (plain xs)) (map shape_of (plain ys))))
      (resolved vn (text.If at e (map (statement_of vn) (plain xs)) (map (statement_of vn) (plain ys))))
  if_known at e xs ys =
      let t : Expr = expression_of vn e.operations in
      let ss : List Statement = map (statement_of vn) (plain xs) in
      let us : List Statement = map (statement_of vn) (plain ys) in
      let is : part_of (statement.If t ss us) ≡ rules.part (open_statement.If t (map part_of ss) (map part_of us)) = ap part_of (sym (rolls-If t ss us))
      ∙ fold-roll-Statement rules.Part rules.part (open_statement.If t ss us) in
      let q : flaws.Part = flaws.in_row (map (flaws.part_of V) (plain xs)) in
      let r : flaws.Part = flaws.in_row (map (flaws.part_of V) (plain ys)) in
      let h : shapes.Shape = shapes.in_row (map shape_of (plain xs)) in
      let i : shapes.Shape = shapes.in_row (map shape_of (plain ys)) in
      subst (Keeps V (flaws.part V (text.If at e (map (flaws.part_of V) (plain xs)) (map (flaws.part_of V) (plain ys))))
      (shape (text.If at e (map shape_of (plain xs)) (map shape_of (plain ys))))) (sym is)
      (tested_keeps e (flaws.both q r) (shapes.both h i) (rules.both (rules.in_row (map part_of ss)) (rules.in_row (map part_of us)))
      (keeps_both V q r h i (rules.in_row (map part_of ss)) (rules.in_row (map part_of us)) (known_row xs) (known_row ys)))

  rows_same : (bs : List (ℕ × List Known)) → map (map part_of) (map (λ (b : ℕ × List Statement). b.1) (statement_rows bs)) ≡ rule_rows bs
  rows_same [] = refl
  rows_same (b ∷ bs) = ap (λ rows. map part_of (map (statement_of vn) (plain b.1)) ∷ rows) (rows_same bs)

  fork_keeps : (bs : List (ℕ × List Known)) (join : ℕ)
      → one (flaws.part V (text.Fork (flaw_rows bs) join)) (shape (text.Fork (shape_rows bs) join))
      (resolved vn (text.Fork (statement_rows bs) join))
  fork_keeps bs join =
      let ss : List (List Statement) = map (λ (b : ℕ × List Statement). b.1) (statement_rows bs) in
      let is : part_of (statement.Fork ss) ≡ rules.part (open_statement.Fork (map (map part_of) ss)) = ap part_of (sym (rolls-Fork ss))
      ∙ fold-roll-Statement rules.Part rules.part (open_statement.Fork ss) in
      let same : part_of (statement.Fork ss) ≡ rules.part (open_statement.Fork (rule_rows bs)) = is ∙ ap (λ rows. rules.part (open_statement.Fork rows))
      (rows_same bs) in
      subst (Keeps V (flaws.part V (text.Fork (flaw_rows bs) join)) (shape (text.Fork (shape_rows bs) join))) (sym same) (fork_known bs)

  abbrev looked : TextStatement-F Known → TextStatement-F TextStatement
  looked y = map-TextStatement Known TextStatement (λ x. x.0) y

  at_layer : (y : TextStatement-F Known) → one (flaws.part V (map-TextStatement TextStatement flaws.Part (flaws.part_of V) (looked y)))
      (shape (map-TextStatement TextStatement shapes.Shape shape_of (looked y)))
      (resolved vn (map-TextStatement TextStatement Statement (statement_of vn) (looked y)))
  at_layer (text.Assign target e) = assign_keeps target e
  at_layer (text.Label label) = label_keeps label
  at_layer (text.Goto label) = goto_keeps label
  at_layer (text.Pause at) = pause_keeps at
  at_layer (text.If at e xs ys) = if_known at e xs ys
  at_layer (text.Fork bs join) = fork_keeps bs join

  statement_keeps : (s : TextStatement) → one (flaws.part_of V s) (shape_of s) (statement_of vn s)
  statement_keeps = ind-TextStatement (λ s. one (flaws.part_of V s) (shape_of s) (statement_of vn s)) (λ x y is.
      subst (λ q. one q (shape_of (roll-TextStatement x)) (statement_of vn (roll-TextStatement x))) (sym (fold-roll-TextStatement flaws.Part (flaws.part V) x))
      (subst (λ h. one (flaws.part V (map-TextStatement TextStatement flaws.Part (flaws.part_of V) x)) h (statement_of vn (roll-TextStatement x)))
      (sym (fold-roll-TextStatement shapes.Shape shape x))
      (subst (one (flaws.part V (map-TextStatement TextStatement flaws.Part (flaws.part_of V) x))
      (shape (map-TextStatement TextStatement shapes.Shape shape_of x))) (sym (fold-roll-TextStatement Statement (resolved vn) x))
      (subst (λ z. one (flaws.part V (map-TextStatement TextStatement flaws.Part (flaws.part_of V) z))
      (shape (map-TextStatement TextStatement shapes.Shape shape_of z)) (resolved vn (map-TextStatement TextStatement Statement (statement_of vn) z))) is
      (at_layer y)))))

  statements_keep : (ss : List TextStatement) → Keeps V (flaws.in_row (flaws.parts_of V ss)) (shapes.in_row (map shape_of ss))
      (rules.in_row (parts_of (statements_of vn ss)))
  statements_keep [] = keeps_nothing V
  statements_keep (s ∷ ss) =
      keeps_both V (flaws.part_of V s) (flaws.in_row (flaws.parts_of V ss)) (shape_of s) (shapes.in_row (map shape_of ss)) (part_of (statement_of vn s))
      (rules.in_row (parts_of (statements_of vn ss))) (statement_keeps s) (statements_keep ss)

-- ---- labels that stand once

first_behind : (labels : List (List ℕ)) (at : ℕ) (ls : List Named) → repeated labels at ls ≡ [] → AreFirstBehind labels at (names ls)
first_behind labels at [] none = no_more_names labels at
first_behind labels at (l ∷ ls) none =
    let here : place_among labels l.name ≡ Some at = is_first labels at l.name (no_flaw _ _ _ (none_first _ _ none)) in
    one_more_name labels at l.name (names ls) here (first_behind labels (at + 1) ls (none_second _ _ none))

first_labels : (ls : List Named) → repeated (names ls) 0 ls ≡ [] → AreFirst (names ls)
first_labels ls none = all_first (names ls) (first_behind (names ls) 0 ls none)

-- ---- the whole program

pub rules_kept : (d : Draft) → scl_flaws d ≡ [] → IsShaped d
    → KeepsRules d.name (variables_of d.declarations) (statements_of (variable_names d.declarations) d.statements)
rules_kept d none shaped =
    let V : List Declaration = d.declarations in
    let q : flaws.Part = flaws.root V d.statements in
    let h : shapes.Shape = shapes.root d.statements in
    let p : rules.Part = rules.root (statements_of (variable_names V) d.statements) in
    let a : Keeps V q h p = keeps_thread V (flaws.in_row (flaws.parts_of V d.statements)) (shapes.in_row (map shape_of d.statements))
    (rules.in_row (parts_of (statements_of (variable_names V) d.statements))) (statements_keep V d.statements) in
    let first : List Flaw = variable_flaws (variable_names V) 0 0 V in
    let rest : List Flaw = q.flaws ++ repeated (names q.all) 0 q.all in
    let declared : first ≡ [] = none_first first rest none in
    let behind : rest ≡ [] = none_second first rest none in
    let sound : Sound q h = record {
      flawless = none_first q.flaws (repeated (names q.all) 0 q.all) behind;
      writable = shaped.writable;
      branches = every_of (λ n. 1 ≤ n) h.forks shaped.branches;
    } in
    let r : Ruled V p = a.ruled sound in
    let once : are_distinct (names q.all)
    ≡ true = first_distinct (names q.all) (first_labels q.all (none_second q.flaws (repeated (names q.all) 0 q.all) behind)) in
    record {
      named = shaped.named;
      declared = variables_are language.Scl V shaped.declared declared;
      text = record {
        assignments = λ n x e at. every_at (λ (a : ℕ × Expr). IsAssignment (variables_of V) a.0 a.1) p.assigned r.assigned n (x, e) at;
        tests = λ n e at. every_at (IsExpression (kinds_of V) kind_is.Bool) p.tests r.tests n e at;
        distinct = once_distinct p.lower
            (λ n. (let all : 0 + count n p.lower ≡ count n (names q.all) = a.counted n in let le = distinct_once (names q.all) once n in
            omega (arith, all, le)));
        named = λ n name at. shaped.labels n name (ap (λ ls. slice_get ls n) (sym a.lower) ∙ at);
        found = r.lost;
        branches = λ n count at. every_at (λ n. (1 ≤ n) × (n ≤ child_limit)) p.forks r.forks n count at;
        forks = subst (λ n. n ≤ fork_limit) (sym a.depth) shaped.forks;
        ifs = subst (λ n. n ≤ if_limit) (sym a.lower_ifs) shaped.ifs;
      };
    }

-- of a program that is put together from its parts: V are the variables over which the statements were looked up
module _ (d : Draft) (V : List Declaration) (none : scl_flaws d ≡ []) (same : V ≡ d.declarations) where
  pub few_declared : length V ≤ variable_limit
  few_declared =
      subst (λ W. length W ≤ variable_limit) (sym same)
      (few_variables d.declarations
      (none_first (variable_flaws (variable_names d.declarations) 0 0 d.declarations)
      ((flaws.root d.declarations d.statements).flaws ++ repeated (names (flaws.root d.declarations d.statements).all) 0
      (flaws.root d.declarations d.statements).all) none))

  pub parts_kept : (variables : List Variable) (body : List Statement) → IsShaped d → variables ≡ variables_of d.declarations
      → body ≡ statements_of (variable_names V) d.statements → KeepsRules d.name variables body
  parts_kept variables body shaped declared is =
      let body_is : body ≡ statements_of (variable_names d.declarations) d.statements = is ∙ ap (λ W. statements_of (variable_names W) d.statements) same in
      subst (λ vs. KeepsRules d.name vs body) (sym declared)
      (subst (KeepsRules d.name (variables_of d.declarations)) (sym body_is) (rules_kept d none shaped))

  pub parts_are : (variables : List Variable) (body : List Statement) (program : Scl) → variables ≡ variables_of d.declarations
      → body ≡ statements_of (variable_names V) d.statements
      → program.name ≡ d.name → program.variables ≡ variables → program.body ≡ body → IsProgramOf d program
  parts_are variables body program declared is name first second = record {
    named = name;
    declared = first ∙ declared;
    body = second ∙ is ∙ ap (λ W. statements_of (variable_names W) d.statements) same;
  }
