-- Reports one behind the other.
use Rattle.std.proofs.Common.{◌≡◌, ◌<◌, ◌≤◌, ◌+◌, ℕ, List, [], ◌∷◌, ◌++◌, append_assoc, append-nil, refl, sym, ◌∙◌, ap, subst}
use Rattle.std.proofs.Common.{length, get_or, drop, add-one, drop-cons}
use Rattle.std.proofs.lemmas.List.{drop_all}
use Rattle.std.specs.Prelude.{codes}
use Rattle.std.specs.Fmt.{decimal}
use Rattle.sc_text.specs.FaultText.{broken_number}
use Rattle.sc_text.specs.declared.read_fault.ReadFault.{ReadFault}
use Rattle.sc_text.specs.declared.read_fault.ReadFault.TheVariants as read
use Rattle.sc_text.specs.declared.drafts.flaw.Flaw.{Flaw}
use Rattle.sc_text.specs.declared.read_fault.FaultKind.{FaultKind}
use Rattle.diagnostics.specs.Reports.{Tells, TellsAt, TellsPlace, place_shown, text_fault}
use Rattle.diagnostics.specs.ListReports.{AreReports, AreTold, TellsAll, TellsEach, TellsFurther}
use Rattle.diagnostics.specs.Inside.Lists.{Goes}

module _ (name text : List ℕ) where
  pub begins : (all : List Flaw) → Goes name text all all []
  begins all = record { on = λ more are. are }

  ends : (all : List Flaw) (told : List ℕ) → Goes name text [] all told → AreReports name text all told
  ends all told goes = subst (AreReports name text all) (append-nil told) (goes.on [] refl)

  goes_on : (f : Flaw) (left all : List Flaw) (old report : List ℕ) → Goes name text (f ∷ left) all old
      → TellsAt name (place_shown text f.at) (codes "E0" ++ decimal (broken_number f.broken)) report → Goes name text left all (old ++ report)
  goes_on f left all old report goes tells =
      record {
        on = λ more are.
            subst (AreReports name text all) (sym (append_assoc old report more))
            (goes.on (report ++ more) (report, more, tells, are, refl));
      }

  module _ (flaws : List Flaw) (i : ℕ) where
    pub more_told : (d : Flaw) (old report : List ℕ) → i < length flaws → Goes name text (drop i flaws) flaws old
        → TellsAt name (place_shown text (get_or flaws i d).at) (codes "E0" ++ decimal (broken_number (get_or flaws i d).broken)) report
        → Goes name text (drop (i + 1) flaws) flaws (old ++ report)
    more_told d old report within goes tells =
        let next : drop i flaws ≡ get_or flaws i d ∷ drop (i + 1) flaws = rw (add-one, drop-cons flaws i d) refl in
        goes_on (get_or flaws i d) (drop (i + 1) flaws) flaws old report
        (subst (λ (fs : List Flaw). Goes name text fs flaws old) next goes) tells

    pub all_told : (told : List ℕ) → length flaws ≤ i → Goes name text (drop i flaws) flaws told → AreReports name text flaws told
    all_told told over goes =
        ends flaws told (subst (λ (fs : List Flaw). Goes name text fs flaws told) (drop_all i flaws over) goes)

-- ---- a report with more behind it begins as it did

longer : (name place fault rest others report : List ℕ) → report ≡ name ++ (place ++ (codes ": " ++ (fault ++ (codes ": " ++ rest))))
    → report ++ others ≡ name ++ (place ++ (codes ": " ++ (fault ++ (codes ": " ++ (rest ++ others)))))
longer name place fault rest others report e =
    ap (λ (r : List ℕ). r ++ others) e
    ∙ append_assoc name (place ++ (codes ": " ++ (fault ++ (codes ": " ++ rest)))) others
    ∙ ap (λ (r : List ℕ). name ++ r)
    (append_assoc place (codes ": " ++ (fault ++ (codes ": " ++ rest))) others
    ∙ ap (λ (r : List ℕ). place ++ r)
    (append_assoc (codes ": ") (fault ++ (codes ": " ++ rest)) others
    ∙ ap (λ (r : List ℕ). codes ": " ++ r)
    (append_assoc fault (codes ": " ++ rest) others
    ∙ ap (λ (r : List ℕ). fault ++ r) (append_assoc (codes ": ") rest others))))

pub begins_so : (name fault report others : List ℕ) → Tells name fault report → Tells name fault (report ++ others)
begins_so name fault report others t =
    record { place = t.place; rest = t.rest ++ others; is = longer name t.place fault t.rest others report t.is }

pub stands_so : (name text : List ℕ) (fault : ReadFault) (report others : List ℕ) → TellsPlace name text fault report
    → TellsPlace name text fault (report ++ others)
stands_so name text (read.Text b at) report others t =
    record {
      rest = t.rest ++ others;
      is = longer name (place_shown text at) (codes "E0" ++ decimal (broken_number b)) t.rest others report t.is;
    }
stands_so name text read.Memory report others t = begins_so name (codes "E52") report others t

-- ---- what is told of a text, from its parts

pub further_so : (name text told : List ℕ) (flaws others : List Flaw) → AreTold text flaws → others ≡ drop 1 flaws → AreReports name text others told
    → TellsFurther name text told
further_so name text told flaws others are behind reports =
    record { flaws = flaws; are = are; reports = subst (λ (fs : List Flaw). AreReports name text fs told) behind reports }

pub all_so : (name text : List ℕ) (fault : ReadFault) (first others report : List ℕ) → TellsPlace name text fault first
    → TellsFurther name text others → report ≡ first ++ others → TellsAll name text fault report
all_so name text fault first others report tells further is =
    record { first = first; others = others; is = is; tells = tells; further = further }

pub each_so : (name text : List ℕ) (fault : ReadFault) (b : FaultKind) (at : ℕ) (report : List ℕ) → fault ≡ read.Text b at
    → TellsAll name text fault report → TellsEach name text fault report
each_so name text fault b at report e all =
    subst (λ (f : ReadFault). TellsEach name text f report) (sym e) (subst (λ (f : ReadFault). TellsAll name text f report) e all)

pub memory_so : (name text : List ℕ) (fault : ReadFault) (report : List ℕ) → fault ≡ read.Memory → Tells name (text_fault fault) report
    → TellsEach name text fault report
memory_so name text fault report e tells =
    subst (λ (f : ReadFault). TellsEach name text f report) (sym e) (subst (λ (f : ReadFault). Tells name (text_fault f) report) e tells)
