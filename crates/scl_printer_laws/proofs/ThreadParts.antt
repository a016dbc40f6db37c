-- What the rules of SCL give a piece of a thread's text, and that a piece of a draft is like it: it has the same names, and no flaw.
use Rattle.std.proofs.Common.{◌≡◌, ℕ, suc, ◌+◌, ◌≤◌, List, [], refl, ◌∙◌, ap, arith}
use Rattle.std.specs.List.{filter}
use Rattle.grammar.proofs.Each.{Every, every_front, every_behind}
use Rattle.sc_values.specs.declared.expression.Expr.{Expr}
use Rattle.sc_values.specs.declared.value.Kind.TheVariants as kind_is
use Rattle.sc_graph.specs.Limits.{child_limit}
use Rattle.sc_text.specs.Parts.{IsExpression}
use Rattle.sc_text.specs.declared.drafts.flaw.Flaw.{Flaw}
use Rattle.sc_text.specs.declared.drafts.parts.Declaration.{Declaration}
use Rattle.sc_text.specs.Resolved.{variables_of}
use Rattle.sc_text.proofs.Kinded.{kinds_of}
use Rattle.sc_text.proofs.Unflawed.{none_first, none_second}
use Rattle.sc_text.proofs.Distinct.{count, count_both}
use Rattle.scl.specs.Rules as rules
use Rattle.scl.specs.Rules.{IsAssignment}
use Rattle.scl_reader.specs.Flaws as flaws
use Rattle.scl_reader.specs.Flaws.{names, lost}
use Rattle.scl_reader.proofs.Pieces.{names_both, two_lists, both_empty}
use Rattle.scl_printer_laws.specs.Reading.{CanWrite}
use Rattle.scl_printer_laws.proofs.Lines.{CanName}
use Rattle.scl_printer_laws.proofs.SoundNames.{is_lost, none_lost, every_found}

-- ---- what is known of a piece

module _ (V : List Declaration) where
  -- an assignment and a test that keep the rules, and that a text can write
  pub record CanAssign (x : ℕ) (e : Expr) : Type 0 where
    pub kept : IsAssignment (variables_of V) x e
    pub write : CanWrite (variables_of V) e

  pub record CanTest (e : Expr) : Type 0 where
    pub kept : IsExpression (kinds_of V) kind_is.Bool e
    pub write : CanWrite (variables_of V) e

  -- a piece that keeps the rules, where so many forks and ifs may still stand in one another
  pub record Can (forks ifs : ℕ) (p : rules.Part) : Type 0 where
    pub labels : Every CanName p.labels
    pub gotos : Every CanName p.gotos
    pub lower : Every CanName p.lower
    pub lost : p.lost ≡ []
    pub assigned : Every (λ a. CanAssign a.0 a.1) p.assigned
    pub tests : Every CanTest p.tests
    pub branches : Every (λ n. (1 ≤ n) × (n ≤ child_limit)) p.forks
    pub low_ifs : p.ifs ≤ ifs
    pub low_lower_ifs : p.lower_ifs ≤ 32
    pub low_depth : p.depth ≤ forks

  pub can_first : (forks ifs : ℕ) (p q : rules.Part) → Can forks ifs (rules.both p q) → Can forks ifs p
  can_first forks ifs p q c = record {
    labels = every_front CanName p.labels q.labels c.labels;
    gotos = every_front CanName p.gotos q.gotos c.gotos;
    lower = every_front CanName p.lower q.lower c.lower;
    lost = none_first p.lost q.lost c.lost;
    assigned = every_front (λ a. CanAssign a.0 a.1) p.assigned q.assigned c.assigned;
    tests = every_front CanTest p.tests q.tests c.tests;
    branches = every_front (λ n. (1 ≤ n) × (n ≤ child_limit)) p.forks q.forks c.branches;
    low_ifs = (let h = c.low_ifs in omega (arith, h));
    low_lower_ifs = (let h = c.low_lower_ifs in omega (arith, h));
    low_depth = (let h = c.low_depth in omega (arith, h));
  }

  pub can_second : (forks ifs : ℕ) (p q : rules.Part) → Can forks ifs (rules.both p q) → Can forks ifs q
  can_second forks ifs p q c = record {
    labels = every_behind CanName p.labels q.labels c.labels;
    gotos = every_behind CanName p.gotos q.gotos c.gotos;
    lower = every_behind CanName p.lower q.lower c.lower;
    lost = none_second p.lost q.lost c.lost;
    assigned = every_behind (λ a. CanAssign a.0 a.1) p.assigned q.assigned c.assigned;
    tests = every_behind CanTest p.tests q.tests c.tests;
    branches = every_behind (λ n. (1 ≤ n) × (n ≤ child_limit)) p.forks q.forks c.branches;
    low_ifs = (let h = c.low_ifs in omega (arith, h));
    low_lower_ifs = (let h = c.low_lower_ifs in omega (arith, h));
    low_depth = (let h = c.low_depth in omega (arith, h));
  }

  -- within a thread
  pub can_thread : (forks ifs : ℕ) (p : rules.Part) → Can forks ifs (rules.thread p) → Can forks 32 p
  can_thread forks ifs p c =
      let labels : Every CanName p.labels = every_front CanName p.labels p.lower c.lower in
      record {
        labels = labels;
        gotos = every_found CanName p.labels p.gotos (none_first (filter (is_lost p.labels) p.gotos) p.lost c.lost) labels;
        lower = every_behind CanName p.labels p.lower c.lower;
        lost = none_second (filter (is_lost p.labels) p.gotos) p.lost c.lost;
        assigned = c.assigned;
        tests = c.tests;
        branches = c.branches;
        low_ifs = (let h = c.low_lower_ifs in omega (arith, h));
        low_lower_ifs = (let h = c.low_lower_ifs in omega (arith, h));
        low_depth = c.low_depth;
      }

  -- within an if
  pub can_tested : (forks ifs : ℕ) (e : Expr) (p : rules.Part) → Can forks (suc ifs) (rules.tested e p) → Can forks ifs p
  can_tested forks ifs e p c = record {
    labels = c.labels;
    gotos = c.gotos;
    lower = c.lower;
    lost = c.lost;
    assigned = c.assigned;
    tests = c.tests.1;
    branches = c.branches;
    low_ifs = (let h = c.low_ifs in omega (arith, h));
    low_lower_ifs = c.low_lower_ifs;
    low_depth = c.low_depth;
  }

  -- within a fork
  pub can_forked : (forks ifs count : ℕ) (p : rules.Part) → Can (suc forks) ifs (rules.forked count p) → Can forks ifs p
  can_forked forks ifs count p c = record {
    labels = c.labels;
    gotos = c.gotos;
    lower = c.lower;
    lost = c.lost;
    assigned = c.assigned;
    tests = c.tests;
    branches = c.branches.1;
    low_ifs = c.low_ifs;
    low_lower_ifs = c.low_lower_ifs;
    low_depth = (let h = c.low_depth in omega (arith, h));
  }

-- ---- what is then known of the draft

-- a piece of a draft has the names of a piece of a program, and no flaw
pub record Like (q : flaws.Part) (p : rules.Part) : Type 0 where
  pub labels : names q.labels ≡ p.labels
  pub gotos : names q.gotos ≡ p.gotos
  pub counted : (n : List ℕ) → count n p.labels + count n p.lower ≡ count n (names q.all)
  pub flawless : q.flaws ≡ []

pub like_nothing : Like flaws.nothing rules.nothing
like_nothing = record { labels = refl; gotos = refl; counted = λ n. refl; flawless = refl }

pub like_both : (q r : flaws.Part) (p s : rules.Part) → Like q p → Like r s → Like (flaws.both q r) (rules.both p s)
like_both q r p s a b = record {
  labels = names_both q.labels r.labels ∙ two_lists (names q.labels) (names r.labels) p.labels s.labels a.labels b.labels;
  gotos = names_both q.gotos r.gotos ∙ two_lists (names q.gotos) (names r.gotos) p.gotos s.gotos a.gotos b.gotos;
  counted = λ n.
      (let first = a.counted n in
      let second = b.counted n in
      let own = count_both n p.labels s.labels in
      let lower = count_both n p.lower s.lower in
      let all = ap (count n) (names_both q.all r.all) ∙ count_both n (names q.all) (names r.all) in
      omega (arith, first, second, own, lower, all));
  flawless = both_empty q.flaws r.flaws a.flawless b.flawless;
}

-- behind flaws that are none
pub like_behind : (fs : List Flaw) (q : flaws.Part) (p : rules.Part) → fs ≡ [] → Like q p → Like (flaws.both (flaws.only_flaws fs) q) p
like_behind fs q p none a = record { labels = a.labels; gotos = a.gotos; counted = a.counted; flawless = both_empty fs q.flaws none a.flawless }

pub like_thread : (q : flaws.Part) (p : rules.Part) → (rules.thread p).lost ≡ [] → Like q p → Like (flaws.thread q) (rules.thread p)
like_thread q p none a =
    let found : filter (is_lost p.labels) p.gotos ≡ [] = none_first (filter (is_lost p.labels) p.gotos) p.lost none in
    let same : filter (is_lost (names q.labels)) (names q.gotos) ≡ [] =
    ap (λ ls. filter (is_lost ls) (names q.gotos)) a.labels ∙ ap (filter (is_lost p.labels)) a.gotos ∙ found in
    record {
      labels = refl;
      gotos = refl;
      counted = λ n. (let both = a.counted n in let sum = count_both n p.labels p.lower in omega (arith, both, sum));
      flawless = both_empty q.flaws (lost (names q.labels) q.gotos) a.flawless (none_lost (names q.labels) q.gotos same);
    }
