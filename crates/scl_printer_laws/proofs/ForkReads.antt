-- A printed fork reads as itself where the statements in its branches do.
use Rattle.std.proofs.Common.{◌≡◌, ℕ, zero, suc, ◌+◌, ◌≤◌, List, [], ◌∷◌, ◌++◌, map, length, append_assoc, codes, refl}
use Rattle.std.proofs.Common.{sym, ◌∙◌, ap, subst, arith}
use Rattle.std.proofs.lemmas.List.{length-map}
use Rattle.grammar.specs.Grammar.{each_spelled, spells}
use Rattle.grammar.proofs.Each.{Every}
use Rattle.sc_graph.specs.Limits.{child_limit}
use Rattle.sc_text.specs.declared.word.Word.TheVariants as word
use Rattle.sc_text.specs.declared.sign.Sign.TheVariants as sign
use Rattle.sc_text.specs.declared.token.Token.{Token}
use Rattle.sc_text.specs.declared.read_fault.FaultKind.TheVariants as broken
use Rattle.sc_text.specs.declared.drafts.parts.Declaration.{Declaration}
use Rattle.sc_text.specs.Flaws.{flaw_if, is_full, variable_names}
use Rattle.sc_text.specs.Resolved.{variables_of}
use Rattle.scl.specs.declared.statement.Statement.{Statement}
use Rattle.scl.specs.declared.statement.Statement.TheOpen as open_statement
use Rattle.scl.specs.declared.statement.Statement.TheVariants as statement
use Rattle.scl.specs.declared.statement.Statement.TheVariants.{rolls-Fork}
use Rattle.scl.specs.declared.statement.Statement.TheFolds.{fold-roll-Statement}
use Rattle.scl.specs.Rules as rules
use Rattle.scl.specs.Rules.{part_of, if_limit}
use Rattle.scl_printer.specs.Layout.{line, in_row, branches_text, statement_text}
use Rattle.scl_reader.specs.declared.text_drafts.statement.TextStatement.{TextStatement}
use Rattle.scl_reader.specs.declared.text_drafts.statement.TextStatement.TheOpen as text
use Rattle.scl_reader.specs.declared.text_drafts.statement.TextStatement.TheVariants as variant
use Rattle.scl_reader.specs.declared.text_drafts.statement.TextStatement.TheVariants.{rolls-Fork as rolls-text-Fork}
use Rattle.scl_reader.specs.declared.text_drafts.statement.TextStatement.TheFolds.{fold-roll-TextStatement}
use Rattle.scl_reader.specs.Flaws as flaws
use Rattle.scl_reader.specs.Statements.{Statements, branch_of}
use Rattle.scl_reader.specs.Program.{Grows, branch, fork}
use Rattle.scl_reader.specs.Within.{within}
use Rattle.scl_reader.specs.Resolved.{resolved, statement_of, statements_of}
use Rattle.scl_printer_laws.proofs.Cuts.{Cuts, cuts_both, signed_at, worded_at}
use Rattle.scl_printer_laws.proofs.Lines.{begins_at, cuts_line}
use Rattle.scl_printer_laws.proofs.LineParts.{cuts_opening, cuts_between, cuts_join}
use Rattle.scl_printer_laws.proofs.Spelling.{branch_is, fork_is, within_fork}
use Rattle.scl_printer_laws.proofs.SoundValues.{flaw_none}
use Rattle.scl_printer_laws.proofs.SoundNames.{lower}
use Rattle.scl_printer_laws.proofs.ThreadParts.{Can, can_first, can_second, can_thread, can_forked, Like, like_nothing, like_both, like_behind, like_thread}
use Rattle.scl_printer_laws.proofs.StatementTexts.{text_of_fork}
use Rattle.scl_printer_laws.proofs.StatementReads.{texts_of, StatementReads, RowReads, Reads, reads_as, row_reads}

module _ (V : List Declaration) where
  abbrev vn : List (List ℕ)
  vn = variable_names V

  abbrev meant : List (Token × Statements) → List (List Statement)
  meant branches = map (λ (b : ℕ × List Statement). b.1) (map (λ (b : ℕ × Statements). (b.0, statements_of vn b.1)) (map branch_of branches))

  abbrev flaw_parts : List (Token × Statements) → List (ℕ × List flaws.Part)
  flaw_parts branches = map (λ (b : ℕ × Statements). (b.0, flaws.parts_of V b.1)) (map branch_of branches)

  abbrev rule_parts : List (List Statement) → List (List rules.Part)
  rule_parts branches = map (map part_of) branches

  -- behind the statements of a branch: the brace that closes it, further branches, and the end of the fork
  record FurtherRead (s : Grows TextStatement) (text rest : List ℕ) (at before : ℕ) (branches : List (List Statement)) : Type 0 where
    pub closing : ℕ
    pub joining : ℕ
    pub ending : ℕ
    pub tokens : List Token
    pub meaning : List (Token × Statements)
    pub cut : Cuts text rest at (signed_at sign.CloseBrace closing ∷ (tokens ++ (worded_at word.Join joining ∷ signed_at sign.Semicolon ending ∷ [])))
    pub spelled : each_spelled (spells (branch word.Par s)) tokens meaning
    pub means : meant meaning ≡ branches
    pub like : Like (flaws.side_by_side before (flaw_parts meaning)) (rules.side_by_side (rule_parts branches))

  -- a branch beside others
  like_branch : (before : ℕ) (t : Token) (m : Statements) (more : List (Token × Statements)) (b : List Statement) (branches : List (List Statement))
      → before + 1 ≤ child_limit → (rules.thread (rules.in_row (map part_of b))).lost ≡ []
      → Like (flaws.in_row (flaws.parts_of V m)) (rules.in_row (map part_of b))
      → Like (flaws.side_by_side (before + 1) (flaw_parts more)) (rules.side_by_side (rule_parts branches))
      → Like (flaws.side_by_side before (flaw_parts ((t, m) ∷ more))) (rules.side_by_side (rule_parts (b ∷ branches)))
  like_branch before t m more b branches room none inner others =
      let q : flaws.Part = flaws.in_row (flaws.parts_of V m) in
      let p : rules.Part = rules.in_row (map part_of b) in
      let later : flaws.Part = flaws.side_by_side (before + 1) (flaw_parts more) in
      let kept : rules.Part = rules.side_by_side (rule_parts branches) in
      like_behind (flaw_if (is_full child_limit before) broken.Limit t.at) (flaws.both (flaws.thread q) later) (rules.both (rules.thread p) kept)
      (flaw_none (is_full child_limit before) broken.Limit t.at (lower before child_limit room))
      (like_both (flaws.thread q) later (rules.thread p) kept (like_thread q p none inner) others)

  regrouped : (ts us vs : List Token) (c : Token) → ts ++ (c ∷ (us ++ vs)) ≡ ((ts ++ c ∷ []) ++ us) ++ vs
  regrouped ts us vs c = sym (append_assoc (ts ++ c ∷ []) us vs ∙ append_assoc ts (c ∷ []) (us ++ vs))

  three : (a b c d : List ℕ) → (a ++ (b ++ c)) ++ d ≡ a ++ (b ++ (c ++ d))
  three a b c d = append_assoc a (b ++ c) d ∙ ap (λ z. a ++ z) (append_assoc b c d)

  further_read : (branches : List (List Statement)) → Every (Every (Reads V)) branches → (forks ifs before : ℕ)
      → Can V forks ifs (rules.side_by_side (rule_parts branches)) → before + length branches ≤ child_limit → (level : ℕ) (rest : List ℕ) (at : ℕ)
      → FurtherRead (within forks if_limit) (branches_text (codes "} par {") (map (texts_of V) branches) level ++ line (codes "} join;") level) rest at before
      branches
  further_read [] e forks ifs before can few level rest at =
      let b : ℕ = begins_at level at in
      record {
        closing = b;
        joining = b + 2;
        ending = b + 2 + 4;
        tokens = [];
        meaning = [];
        cut = cuts_line level (codes "} join;") rest at (signed_at sign.CloseBrace b ∷ worded_at word.Join (b + 2) ∷ signed_at sign.Semicolon (b + 2 + 4) ∷ [])
            (cuts_join rest b);
        spelled = refl;
        means = refl;
        like = like_nothing;
      }
  further_read (b ∷ branches) e forks ifs before can few level rest at =
      let p : rules.Part = rules.in_row (map part_of b) in
      let kept : rules.Part = rules.side_by_side (rule_parts branches) in
      let one = can_first V forks ifs (rules.thread p) kept can in
      let opening : List ℕ = line (codes "} par {") level in
      let row : List ℕ = in_row (texts_of V b) (suc level) in
      let others : List ℕ = branches_text (codes "} par {") (map (texts_of V) branches) level in
      let last : List ℕ = line (codes "} join;") level in
      let start : ℕ = begins_at level at in
      let inner : ℕ = at + length opening in
      let room : before + 1 ≤ child_limit = omega (arith, few) in
      let fewer : before + 1 + length branches ≤ child_limit = omega (arith, few) in
      let r : RowReads V (within forks if_limit) row ((others ++ last) ++ rest) inner b =
      row_reads V b e.0 forks 32 (can_thread V forks ifs p one) (suc level) ((others ++ last) ++ rest) inner in
      let f : FurtherRead (within forks if_limit) (others ++ last) rest (inner + length row) (before + 1) branches =
      further_read branches e.1 forks ifs (before + 1) (can_second V forks ifs (rules.thread p) kept can) fewer level rest (inner + length row) in
      let w : Token = worded_at word.Par (start + 2) in
      let o : Token = signed_at sign.OpenBrace (start + 2 + 3 + 1) in
      let c : Token = signed_at sign.CloseBrace f.closing in
      let between : List Token = signed_at sign.CloseBrace start ∷ w ∷ o ∷ [] in
      let joined : List Token = worded_at word.Join f.joining ∷ signed_at sign.Semicolon f.ending ∷ [] in
      let tokens : List Token = (w ∷ (o ∷ (r.tokens ++ c ∷ []))) ++ f.tokens in
      record {
        closing = start;
        joining = f.joining;
        ending = f.ending;
        tokens = tokens;
        meaning = (w, r.meaning) ∷ f.meaning;
        cut = subst (λ t. Cuts t rest at (signed_at sign.CloseBrace start ∷ (tokens ++ joined))) (sym (three opening row others last))
            (subst (Cuts (opening ++ (row ++ (others ++ last))) rest at)
            (ap (λ z. signed_at sign.CloseBrace start ∷ w ∷ o ∷ z) (regrouped r.tokens f.tokens joined c))
            (cuts_both opening (row ++ (others ++ last)) rest at between (r.tokens ++ (c ∷ (f.tokens ++ joined)))
            (cuts_line level (codes "} par {") ((row ++ (others ++ last)) ++ rest) at between
            (cuts_between word.Par 112 (codes "ar") refl refl refl ((row ++ (others ++ last)) ++ rest) start))
            (cuts_both row (others ++ last) rest inner r.tokens (c ∷ (f.tokens ++ joined)) r.cut f.cut)));
        spelled = (
          w ∷ (o ∷ (r.tokens ++ c ∷ [])),
          f.tokens,
          refl,
          branch_is word.Par (within forks if_limit) (start + 2) (start + 2 + 3 + 1) f.closing r.tokens r.meaning refl
              r.spelled,
          f.spelled,
        );
        means = ap (λ x. x ∷ meant f.meaning) r.means ∙ ap (λ xs. b ∷ xs) f.means;
        like = like_branch before w r.meaning f.meaning b branches room one.lost r.like f.like;
      }

  -- ---- the whole fork

  rules_of_fork : (branches : List (List Statement)) → part_of (statement.Fork branches)
      ≡ rules.forked (length (rule_parts branches)) (rules.side_by_side (rule_parts branches))
  rules_of_fork branches = ap part_of (sym (rolls-Fork branches)) ∙ fold-roll-Statement rules.Part rules.part (open_statement.Fork branches)

  flaws_of_fork : (branches : List (Token × Statements)) (join : ℕ)
      → flaws.part_of V (variant.Fork (map branch_of branches) join) ≡ flaws.side_by_side 0 (flaw_parts branches)
  flaws_of_fork branches join =
      ap (flaws.part_of V) (sym (rolls-text-Fork (map branch_of branches) join))
      ∙ fold-roll-TextStatement flaws.Part (flaws.part V) (text.Fork (map branch_of branches) join)

  meant_fork : (branches : List (Token × Statements)) (join : ℕ)
      → statement_of vn (variant.Fork (map branch_of branches) join) ≡ statement.Fork (meant branches)
  meant_fork branches join =
      ap (statement_of vn) (sym (rolls-text-Fork (map branch_of branches) join))
      ∙ fold-roll-TextStatement Statement (resolved vn) (text.Fork (map branch_of branches) join)

  forked : (ts us : List Token) (f o c j s : Token)
      → (f ∷ (o ∷ (ts ++ c ∷ []))) ++ ((us ++ j ∷ []) ++ s ∷ []) ≡ f ∷ o ∷ (ts ++ (c ∷ (us ++ (j ∷ s ∷ []))))
  forked ts us f o c j s =
      ap (λ z. f ∷ o ∷ z)
      (append_assoc ts (c ∷ []) ((us ++ j ∷ []) ++ s ∷ []) ∙ ap (λ z. ts ++ (c ∷ z)) (append_assoc us (j ∷ []) (s ∷ [])))

  like_forked : (count : ℕ) (q : flaws.Part) (p : rules.Part) → Like q p → Like q (rules.forked count p)
  like_forked count q p a = record { labels = a.labels; gotos = a.gotos; counted = a.counted; flawless = a.flawless }

  fork_where : (b : List Statement) (branches : List (List Statement)) → Every (Every (Reads V)) (b ∷ branches) → (forks ifs : ℕ)
      → Can V (suc forks) ifs (rules.forked (length (rule_parts (b ∷ branches))) (rules.side_by_side (rule_parts (b ∷ branches))))
      → (level : ℕ) (rest : List ℕ) (at : ℕ)
      → StatementReads V (within (suc forks) ifs) (statement_text (variables_of V) (statement.Fork (b ∷ branches)) level) rest at
      (statement.Fork (b ∷ branches))
  fork_where b branches e forks ifs can level rest at =
      let p : rules.Part = rules.in_row (map part_of b) in
      let kept : rules.Part = rules.side_by_side (rule_parts branches) in
      let count : ℕ = length (rule_parts (b ∷ branches)) in
      let inside : Can V forks ifs (rules.both (rules.thread p) kept) = can_forked V forks ifs count (rules.both (rules.thread p) kept) can in
      let one = can_first V forks ifs (rules.thread p) kept inside in
      let opening : List ℕ = line (codes "fork {") level in
      let row : List ℕ = in_row (texts_of V b) (suc level) in
      let others : List ℕ = branches_text (codes "} par {") (map (texts_of V) branches) level in
      let last : List ℕ = line (codes "} join;") level in
      let start : ℕ = begins_at level at in
      let inner : ℕ = at + length opening in
      let long = length-map branches (map part_of) in
      let few = can.branches.0.1 in
      let fewer : 0 + 1 + length branches ≤ child_limit = omega (arith, long, few) in
      let room : 0 + 1 ≤ child_limit = omega (arith, fewer) in
      let r : RowReads V (within forks if_limit) row ((others ++ last) ++ rest) inner b =
      row_reads V b e.0 forks 32 (can_thread V forks ifs p one) (suc level) ((others ++ last) ++ rest) inner in
      let f : FurtherRead (within forks if_limit) (others ++ last) rest (inner + length row) (0 + 1) branches =
      further_read branches e.1 forks ifs (0 + 1) (can_second V forks ifs (rules.thread p) kept inside) fewer level rest (inner + length row) in
      let w : Token = worded_at word.Fork start in
      let o : Token = signed_at sign.OpenBrace (start + 4 + 1) in
      let c : Token = signed_at sign.CloseBrace f.closing in
      let joined : List Token = worded_at word.Join f.joining ∷ signed_at sign.Semicolon f.ending ∷ [] in
      let tokens : List Token = w ∷ o ∷ (r.tokens ++ (c ∷ (f.tokens ++ joined))) in
      let branched : List Token = w ∷ (o ∷ (r.tokens ++ c ∷ [])) in
      let all : List (Token × Statements) = (w, r.meaning) ∷ f.meaning in
      let m : TextStatement = variant.Fork (map branch_of all) f.joining in
      reads_as V (within (suc forks) ifs) (statement_text (variables_of V) (statement.Fork (b ∷ branches)) level) (opening ++ (row ++ (others ++ last))) rest at
      (statement.Fork (b ∷ branches)) (rules.forked count (rules.both (rules.thread p) kept)) tokens m (flaws.side_by_side 0 (flaw_parts all))
      (ap (λ g. g level) (text_of_fork (variables_of V) (b ∷ branches)) ∙ three opening row others last)
      (rules_of_fork (b ∷ branches)) (flaws_of_fork all f.joining)
      (meant_fork all f.joining ∙ ap statement.Fork (ap (λ x. x ∷ meant f.meaning) r.means ∙ ap (λ xs. b ∷ xs) f.means))
      (cuts_both opening (row ++ (others ++ last)) rest at (w ∷ o ∷ []) (r.tokens ++ (c ∷ (f.tokens ++ joined)))
      (cuts_line level (codes "fork {") ((row ++ (others ++ last)) ++ rest) at (w ∷ o ∷ [])
      (cuts_opening word.Fork 102 (codes "ork") refl refl refl ((row ++ (others ++ last)) ++ rest) start))
      (cuts_both row (others ++ last) rest inner r.tokens (c ∷ (f.tokens ++ joined)) r.cut f.cut))
      (within_fork forks ifs tokens m
      (subst (λ ts. spells (fork (within forks if_limit)) ts m)
      {x = branched ++ ((f.tokens ++ worded_at word.Join f.joining ∷ []) ++ signed_at sign.Semicolon f.ending ∷ [])} {y = tokens}
      (forked r.tokens f.tokens w o c (worded_at word.Join f.joining) (signed_at sign.Semicolon f.ending))
      (fork_is (within forks if_limit) f.joining f.ending branched f.tokens (w, r.meaning) f.meaning
      (branch_is word.Fork (within forks if_limit) start (start + 4 + 1) f.closing r.tokens r.meaning refl r.spelled) f.spelled)))
      (like_forked count (flaws.side_by_side 0 (flaw_parts all)) (rules.both (rules.thread p) kept)
      (like_branch 0 w r.meaning f.meaning b branches room one.lost r.like f.like))

  pub fork_reads : (branches : List (List Statement)) → Every (Every (Reads V)) branches → Reads V (statement.Fork branches)
  fork_reads branches e zero ifs can level rest at =
      let c = subst (Can V 0 ifs) (rules_of_fork branches) can in
      let low = c.low_depth in
      absurd (omega (arith, low))
  fork_reads [] e (suc forks) ifs can level rest at =
      let c = subst (Can V (suc forks) ifs) (rules_of_fork []) can in
      let some = c.branches.0.0 in
      absurd (omega (arith, some))
  fork_reads (b ∷ branches) e (suc forks) ifs can level rest at =
      fork_where b branches e forks ifs (subst (Can V (suc forks) ifs) (rules_of_fork (b ∷ branches)) can) level rest at
