-- What is known of a piece of a thread's text, its names looked up, and how pieces come together.
use Rattle.std.proofs.Common.{◌≡◌, ℕ, suc, ◌+◌, ◌≤◌, max, Bool, true, false, not, Option, Some, None, List, [], ◌∷◌, ◌++◌, slice_get, refl, ap, sym, ◌∙◌, arith}
use Rattle.std.proofs.Common.{if◌then◌else◌}
use Rattle.std.specs.Prelude.{◌||◌}
use Rattle.std.specs.Option.{is_some}
use Rattle.std.specs.List.{filter}
use Rattle.std.specs.Str.{bytes_eq}
use Rattle.std.proofs.lemmas.Bool.{and_parts}
use Rattle.grammar.proofs.Each.{Every, every_front, every_behind, every_joined}
use Rattle.sc_values.specs.declared.value.Kind.TheVariants as kind_is
use Rattle.sc_graph.specs.Limits.{child_limit}
use Rattle.sc_text.specs.declared.read_fault.FaultKind.TheVariants as broken
use Rattle.sc_text.specs.Parts.{IsExpression}
use Rattle.sc_text.specs.declared.drafts.flaw.Flaw.{Flaw}
use Rattle.sc_text.specs.declared.drafts.parts.Named.{Named}
use Rattle.sc_text.specs.declared.drafts.parts.Declaration.{Declaration}
use Rattle.sc_text.specs.Flaws.{flaw_if, first_or, place_among, is_among}
use Rattle.sc_text.specs.Resolved.{variables_of}
use Rattle.sc_text.proofs.Kinded.{kinds_of}
use Rattle.sc_text.proofs.Unflawed.{none_first, none_second, no_flaw, not_false}
use Rattle.sc_text.proofs.Distinct.{count, count_both}
use Rattle.scl.specs.Rules as rules
use Rattle.scl.specs.Rules.{IsAssignment, is_in}
use Rattle.scl_reader.specs.Flaws as flaws
use Rattle.scl_reader.specs.Flaws.{names, lost}
use Rattle.scl_reader.specs.Shape as shapes

pub every_of : {A : Type 0} (P : A → Type 0) (xs : List A) → ((i : ℕ) (x : A) → slice_get xs i ≡ Some x → P x) → Every P xs
every_of P [] h = tt
every_of P (x ∷ xs) h = (h 0 x refl, every_of P xs (λ i y at. h (suc i) y at))

-- nothing is wrong with a piece, and the grammar gives its shape
pub record Sound (q : flaws.Part) (h : shapes.Shape) : Type 0 where
  pub flawless : q.flaws ≡ []
  pub writable : h.writable ≡ true
  pub branches : Every (λ n. 1 ≤ n) h.forks

-- what then holds of what SCL's rules see of it
pub record Ruled (V : List Declaration) (p : rules.Part) : Type 0 where
  pub lost : p.lost ≡ []
  pub assigned : Every (λ a. IsAssignment (variables_of V) a.0 a.1) p.assigned
  pub tests : Every (IsExpression (kinds_of V) kind_is.Bool) p.tests
  pub forks : Every (λ n. (1 ≤ n) × (n ≤ child_limit)) p.forks

-- the flaws, the shape and the rules of one piece
pub record Keeps (V : List Declaration) (q : flaws.Part) (h : shapes.Shape) (p : rules.Part) : Type 0 where
  pub labels : p.labels ≡ names q.labels
  pub gotos : p.gotos ≡ names q.gotos
  pub counted : (n : List ℕ) → count n p.labels + count n p.lower ≡ count n (names q.all)
  pub named : p.labels ≡ h.labels
  pub lower : p.lower ≡ h.lower
  pub ifs : p.ifs ≡ h.ifs
  pub lower_ifs : p.lower_ifs ≡ h.lower_ifs
  pub depth : p.depth ≡ h.depth
  pub ruled : Sound q h → Ruled V p

-- ---- pieces together

module _ (q r : flaws.Part) (h i : shapes.Shape) (both : Sound (flaws.both q r) (shapes.both h i)) where
  pub sound_first : Sound q h
  sound_first = record {
    flawless = none_first q.flaws r.flaws both.flawless;
    writable = (and_parts h.writable i.writable both.writable).0;
    branches = every_front (λ n. 1 ≤ n) h.forks i.forks both.branches;
  }

  pub sound_second : Sound r i
  sound_second = record {
    flawless = none_second q.flaws r.flaws both.flawless;
    writable = (and_parts h.writable i.writable both.writable).1;
    branches = every_behind (λ n. 1 ≤ n) h.forks i.forks both.branches;
  }

pub both_empty : {A : Type 0} (xs ys : List A) → xs ≡ [] → ys ≡ [] → xs ++ ys ≡ []
both_empty xs ys e f = ap (λ zs. zs ++ ys) e ∙ f

ruled_both : (V : List Declaration) (p s : rules.Part) → Ruled V p → Ruled V s → Ruled V (rules.both p s)
ruled_both V p s a b = record {
  lost = both_empty p.lost s.lost a.lost b.lost;
  assigned = every_joined (λ a. IsAssignment (variables_of V) a.0 a.1) p.assigned s.assigned a.assigned b.assigned;
  tests = every_joined (IsExpression (kinds_of V) kind_is.Bool) p.tests s.tests a.tests b.tests;
  forks = every_joined (λ n. (1 ≤ n) × (n ≤ child_limit)) p.forks s.forks a.forks b.forks;
}

pub two_lists : {A : Type 0} (xs ys us vs : List A) → xs ≡ us → ys ≡ vs → xs ++ ys ≡ us ++ vs
two_lists xs ys us vs e f = ap (λ zs. zs ++ ys) e ∙ ap (λ zs. us ++ zs) f

two_max : (a b c d : ℕ) → a ≡ c → b ≡ d → max a b ≡ max c d
two_max a b c d e f = ap (λ n. max n b) e ∙ ap (max c) f

pub names_both : (xs ys : List Named) → names (xs ++ ys) ≡ names xs ++ names ys
names_both [] ys = refl
names_both (x ∷ xs) ys = ap (λ zs. x.name ∷ zs) (names_both xs ys)

module _ (V : List Declaration) (q r : flaws.Part) (h i : shapes.Shape) (p s : rules.Part) (a : Keeps V q h p) (b : Keeps V r i s) where
  counted_both : (n : List ℕ) → count n (p.labels ++ s.labels) + count n (p.lower ++ s.lower) ≡ count n (names (q.all ++ r.all))
  counted_both n =
      let first = a.counted n in
      let second = b.counted n in
      let own = count_both n p.labels s.labels in
      let lower = count_both n p.lower s.lower in
      let all = ap (count n) (names_both q.all r.all) ∙ count_both n (names q.all) (names r.all) in
      omega (arith, first, second, own, lower, all)

  pub keeps_both : Keeps V (flaws.both q r) (shapes.both h i) (rules.both p s)
  keeps_both = record {
    labels = two_lists p.labels s.labels (names q.labels) (names r.labels) a.labels b.labels ∙ sym (names_both q.labels r.labels);
    gotos = two_lists p.gotos s.gotos (names q.gotos) (names r.gotos) a.gotos b.gotos ∙ sym (names_both q.gotos r.gotos);
    counted = counted_both;
    named = two_lists p.labels s.labels h.labels i.labels a.named b.named;
    lower = two_lists p.lower s.lower h.lower i.lower a.lower b.lower;
    ifs = two_max p.ifs s.ifs h.ifs i.ifs a.ifs b.ifs;
    lower_ifs = two_max p.lower_ifs s.lower_ifs h.lower_ifs i.lower_ifs a.lower_ifs b.lower_ifs;
    depth = two_max p.depth s.depth h.depth i.depth a.depth b.depth;
    ruled = λ sound. ruled_both V p s (a.ruled (sound_first q r h i sound)) (b.ruled (sound_second q r h i sound));
  }

pub ruled_nothing : (V : List Declaration) → Ruled V rules.nothing
ruled_nothing V = record { lost = refl; assigned = tt; tests = tt; forks = tt }

pub keeps_nothing : (V : List Declaration) → Keeps V flaws.nothing shapes.nothing rules.nothing
keeps_nothing V = record {
  labels = refl;
  gotos = refl;
  counted = λ n. refl;
  named = refl;
  lower = refl;
  ifs = refl;
  lower_ifs = refl;
  depth = refl;
  ruled = λ sound. ruled_nothing V;
}

-- further flaws of a piece
pub keeps_flaws : (V : List Declaration) (fs : List Flaw) (q : flaws.Part) (h : shapes.Shape) (p : rules.Part) → Keeps V q h p
    → Keeps V (flaws.both (flaws.only_flaws fs) q) h p
keeps_flaws V fs q h p a = record {
  labels = a.labels;
  gotos = a.gotos;
  counted = a.counted;
  named = a.named;
  lower = a.lower;
  ifs = a.ifs;
  lower_ifs = a.lower_ifs;
  depth = a.depth;
  ruled = λ sound. a.ruled (record { flawless = none_second fs q.flaws sound.flawless; writable = sound.writable; branches = sound.branches });
}

-- ---- a thread

among_is : (b : Bool) (later : Option ℕ) (c : Bool) → is_some later ≡ c → is_some (first_or b later) ≡ (b || c)
among_is true later c e = refl
among_is false None c e = e
among_is false (Some k) c e = e

pub among_in : (labels : List (List ℕ)) (name : List ℕ) → is_among labels name ≡ is_in labels name
among_in [] name = refl
among_in (l ∷ labels) name = among_is (bytes_eq l name) (place_among labels name) (is_in labels name) (among_in labels name)

abbrev is_lost : List (List ℕ) → List ℕ → Bool
is_lost labels name = not (is_in labels name)

none_lost : (labels : List (List ℕ)) (gotos : List Named) → lost labels gotos ≡ [] → filter (is_lost labels) (names gotos) ≡ []
none_lost labels [] e = refl
none_lost labels (g ∷ gotos) e =
    let here : is_among labels g.name ≡ true =
    not_false (is_among labels g.name)
    (no_flaw (not (is_among labels g.name)) broken.Unknown g.at
    (none_first (flaw_if (not (is_among labels g.name)) broken.Unknown g.at) (lost labels gotos) e)) in
    let found : is_in labels g.name ≡ true = sym (among_in labels g.name) ∙ here in
    ap (λ b. if not b then g.name ∷ filter (is_lost labels) (names gotos) else filter (is_lost labels) (names gotos)) found
    ∙ none_lost labels gotos (none_second (flaw_if (not (is_among labels g.name)) broken.Unknown g.at) (lost labels gotos) e)

module _ (V : List Declaration) (q : flaws.Part) (h : shapes.Shape) (p : rules.Part) (a : Keeps V q h p) where
  thread_ruled : Sound (flaws.thread q) (shapes.thread h) → Ruled V (rules.thread p)
  thread_ruled sound =
      let inner : Sound q h = record {
        flawless = none_first q.flaws (lost (names q.labels) q.gotos) sound.flawless;
        writable = sound.writable;
        branches = sound.branches;
      } in
      let r : Ruled V p = a.ruled inner in
      let found : filter (is_lost (names q.labels)) (names q.gotos)
      ≡ [] = none_lost (names q.labels) q.gotos (none_second q.flaws (lost (names q.labels) q.gotos) sound.flawless) in
      let same : filter (is_lost p.labels) p.gotos ≡ [] = ap (λ ls. filter (is_lost ls) p.gotos) a.labels ∙ ap (filter (is_lost (names q.labels))) a.gotos
      ∙ found in
      record {
        lost = both_empty (filter (is_lost p.labels) p.gotos) p.lost same r.lost;
        assigned = r.assigned;
        tests = r.tests;
        forks = r.forks;
      }

  pub keeps_thread : Keeps V (flaws.thread q) (shapes.thread h) (rules.thread p)
  keeps_thread = record {
    labels = refl;
    gotos = refl;
    counted = λ n. (let both = a.counted n in let sum = count_both n p.labels p.lower in omega (arith, both, sum));
    named = refl;
    lower = two_lists p.labels p.lower h.labels h.lower a.named a.lower;
    ifs = refl;
    lower_ifs = two_max p.ifs p.lower_ifs h.ifs h.lower_ifs a.ifs a.lower_ifs;
    depth = a.depth;
    ruled = thread_ruled;
  }
