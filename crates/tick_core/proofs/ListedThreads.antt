-- Where the children of all that is listed are listed, all that are present are: each one's parent waits, and is present.
use Rattle.std.proofs.Common.{◌≡◌, ◌≢◌, ℕ, zero, suc, ◌+◌, ◌<◌, ◌≤◌, ◌⊎◌, List, [], ◌∷◌, ◌++◌, length, Option, Some, None, Contains, slice_get}
use Rattle.std.proofs.Common.{unwrap_or, slice_index, refl, sym, ap, subst, ◌∙◌, inl, inr, ⊎_elim, arith}
use Rattle.std.proofs.lemmas.Option.{none-some, same_Some, slice_get_within, slice_get-map}
use Rattle.std.proofs.lemmas.List.Elements.{Contains-append_left, Contains-append_right, Contains-push}
use Rattle.sc_graph.specs.declared.control.Control.{Control}
use Rattle.sc_graph.specs.declared.control.Status.{Status}
use Rattle.sc_graph.specs.declared.control.Status.TheVariants as status
use Rattle.sc_graph.specs.Program.{Program, parent_of}
use Rattle.sc_graph.specs.Control.{status_of, joined_at}
use Rattle.sc_graph.specs.Tick.{Inputs, IsConfiguration, IsPresent, woken, statuses_at_start, start}
use Rattle.sc_graph.specs.Valid.{IsFormed}
use Rattle.tick_laws.proofs.Formed.{ChildOf, fork_of, joined_is, parent_below}
use Rattle.tick_laws.proofs.Kin.{has_parent, present_in_range}
use Rattle.tick_laws.proofs.Lists.{contains_get, get_contains, slice_get_there, same_or_not, map_some}
use Rattle.tick_core.specs.Space.Living.{living, CountsLiving}
use Rattle.tick_core.specs.Space.Sorting.{or_none}
use Rattle.tick_core.specs.Space.There.{AllListed, AreListed, Keeps, ListsChildren, ListedBelow, CountedBelow, children_waited, waited_at}
use Rattle.tick_core.specs.Inside.Waking.{EntersCount}
use Rattle.tick_core.proofs.LivingChildren.{all_counted}
use Rattle.tick_core.proofs.ListedCounts.{enters_count, passes_count}

pub waiting_present : (s : Status) (j : ℕ) → s ≡ status.Waiting j → IsPresent s
waiting_present s j is = subst IsPresent (sym is) tt

listed_in : (ss : List Status) (threads : List ℕ) → AllListed ss threads → (t : ℕ) (o : Option Status) → slice_get ss t ≡ o
    → IsPresent (unwrap_or o status.Absent) → Contains threads t
listed_in ss threads h t None is present = absurd present
listed_in ss threads h t (Some s) is present = h.each t s is present

-- who is present stands in the list
pub listed_of : (c : Control) (threads : List ℕ) → AllListed c.statuses threads → (t : ℕ) → IsPresent (status_of c t) → Contains threads t
listed_of c threads h t present = listed_in c.statuses threads h t (slice_get c.statuses t) refl present

pub listed_by_each : (c : Control) (threads : List ℕ) → ((t : ℕ) → IsPresent (status_of c t) → Contains threads t) → AllListed c.statuses threads
listed_by_each c threads each =
    record { each = λ t s is present. each t (subst IsPresent (sym (ap (λ o. unwrap_or o status.Absent) is)) present) }

-- where each thread of the program is listed, whoever is present is
pub everybody_listed : (p : Program) (c : Control) (threads : List ℕ) → IsConfiguration p c → ((t : ℕ) → t < length p.threads → Contains threads t)
    → AllListed c.statuses threads
everybody_listed p c threads ok each =
    record { each = λ t s is present. each t (omega (arith, slice_get_within c.statuses t s is, ok.threads)) }

-- with one thread more all up to it are listed
pub push_each : (xs : List ℕ) (n : ℕ) → ((t : ℕ) → t < n → Contains xs t) → (t : ℕ) → t < n + 1 → Contains (xs ++ n ∷ []) t
push_each xs n each t less =
    ⊎_elim (λ same. subst (Contains (xs ++ n ∷ [])) (sym same) (Contains-push xs n))
    (λ other. Contains-append_left xs (n ∷ []) t (each t (omega (arith, less, other)))) (same_or_not t n)

pub keeps_all : (xs : List ℕ) → Keeps xs xs
keeps_all xs = record { each = λ i t is. is }

get_before : (xs more : List ℕ) (i t : ℕ) → slice_get xs i ≡ Some t → slice_get (xs ++ more) i ≡ Some t
get_before [] more i t is = absurd (cc)
get_before (x ∷ xs) more zero t is = is
get_before (x ∷ xs) more (suc i) t is = get_before xs more i t is

pub keeps_more : (xs more ys : List ℕ) → ys ≡ xs ++ more → Keeps xs ys
keeps_more xs more ys is = subst (Keeps xs) (sym is) (record { each = λ i u at. get_before xs more i u at })

keeps_contained : (xs ys : List ℕ) (t : ℕ) → Keeps xs ys → Contains xs t → Contains ys t
keeps_contained xs ys t keeps inside =
    let at : (i : ℕ) × (slice_get xs i ≡ Some t) = get_contains xs t inside in contains_get ys at.0 t (keeps.each at.0 t at.1)

same_join : {a b : ℕ} → status.Waiting a ≡ status.Waiting b → a ≡ b
same_join same = cc

-- the children of a thread that waits are put at the end
pub lists_more : (p : Program) (c : Control) (t j : ℕ) (ks xs ys : List ℕ) → status_of c t ≡ status.Waiting j → joined_at p j ≡ Some ks → ys ≡ xs ++ ks
    → ListsChildren p c t ys
lists_more p c t j ks xs ys waits joined is = λ i k others waits_too joined_too inside.
    let same : j ≡ i = same_join (sym waits ∙ waits_too) in
    let alike : ks ≡ others = same_Some ks others (sym joined ∙ (ap (joined_at p) same ∙ joined_too)) in
    subst (λ l. Contains l k) (sym is) (Contains-append_right xs ks k (subst (λ l. Contains l k) (sym alike) inside))

-- who does not wait, or waits where there is no fork, has no children to list
pub lists_none : (p : Program) (c : Control) (t j : ℕ) (xs : List ℕ) → status_of c t ≡ status.Waiting j → joined_at p j ≡ None → ListsChildren p c t xs
lists_none p c t j xs waits none = λ i k others waits_too joined inside.
    let same : j ≡ i = same_join (sym waits ∙ waits_too) in
    absurd (none-some others (sym none ∙ (ap (joined_at p) same ∙ joined)))

lists_joined : (p : Program) (c : Control) (t j : ℕ) (xs ys : List ℕ) → status_of c t ≡ status.Waiting j → (o : Option (List ℕ)) → joined_at p j ≡ o
    → ys ≡ xs ++ or_none o → ListsChildren p c t ys
lists_joined p c t j xs ys waits None joined is = lists_none p c t j ys waits joined
lists_joined p c t j xs ys waits (Some ks) joined is = lists_more p c t j ks xs ys waits joined is

-- the children of a thread are listed behind the others
pub lists_from : (p : Program) (c : Control) (t : ℕ) (xs ys : List ℕ) (st : Status) → status_of c t ≡ st → ys ≡ xs ++ children_waited p st
    → ListsChildren p c t ys
lists_from p c t xs ys (status.Waiting j) standing is = lists_joined p c t j xs ys standing (joined_at p j) refl is
lists_from p c t xs ys status.Absent standing is = λ j k ks waits. let never : status.Absent ≡ status.Waiting j = sym standing ∙ waits in absurd (cc)
lists_from p c t xs ys (status.At n) standing is = λ j k ks waits. let never : status.At n ≡ status.Waiting j = sym standing ∙ waits in absurd (cc)
lists_from p c t xs ys (status.Paused d) standing is = λ j k ks waits. let never : status.Paused d ≡ status.Waiting j = sym standing ∙ waits in absurd (cc)
lists_from p c t xs ys status.Ended standing is = λ j k ks waits. let never : status.Ended ≡ status.Waiting j = sym standing ∙ waits in absurd (cc)

-- and it is counted
pub enters_from : (p : Program) (c : Control) (t : ℕ) (counts after : List ℕ) (st : Status) → status_of c t ≡ st → after ≡ waited_at p c counts t st
    → EntersCount p c t counts after
enters_from p c t counts after (status.Waiting j) standing is =
    subst (EntersCount p c t counts) (sym is)
    (enters_count p c t (living c (joined_at p j)) counts
    (λ i waits. ap (λ n. living c (joined_at p n)) (same_join (sym standing ∙ waits))))
enters_from p c t counts after status.Absent standing is =
    subst (EntersCount p c t counts) (sym is) (passes_count p c t counts (λ j waits. let never : status.Absent ≡ status.Waiting j = sym standing ∙ waits in cc))
enters_from p c t counts after (status.At n) standing is =
    subst (EntersCount p c t counts) (sym is) (passes_count p c t counts (λ j waits. let never : status.At n ≡ status.Waiting j = sym standing ∙ waits in cc))
enters_from p c t counts after (status.Paused d) standing is =
    subst (EntersCount p c t counts) (sym is)
    (passes_count p c t counts (λ j waits. let never : status.Paused d ≡ status.Waiting j = sym standing ∙ waits in cc))
enters_from p c t counts after status.Ended standing is =
    subst (EntersCount p c t counts) (sym is) (passes_count p c t counts (λ j waits. let never : status.Ended ≡ status.Waiting j = sym standing ∙ waits in cc))

-- the root alone is listed
pub root_listed : (p : Program) (c : Control) → ListedBelow p c 0 (0 ∷ [])
root_listed p c = record { root = refl; children = λ i t less. absurd (omega (arith, less)) }

pub none_counted_yet : (p : Program) (c : Control) (threads counts : List ℕ) → CountedBelow p c 0 threads counts
none_counted_yet p c threads counts = record { each = λ i t j less. absurd (omega (arith, less)) }

module _ (p : Program) (c : Control) (n : ℕ) (xs ys : List ℕ) (below : n < length xs) (thread : ℕ) (is_thread : slice_get xs n ≡ Some thread)
    (keeps : Keeps xs ys) where
  the_same : (i t : ℕ) → i ≡ n → slice_get ys i ≡ Some t → thread ≡ t
  the_same i t same is = same_Some thread t (sym (keeps.each n thread is_thread) ∙ (ap (slice_get ys) (sym same) ∙ is))

  was_before : (i t : ℕ) → i < n → slice_get ys i ≡ Some t → slice_get xs i ≡ Some t
  was_before i t less is =
      let was : (x : ℕ) × (slice_get xs i ≡ Some x) = slice_get_there xs i (omega (arith, less, below)) in
      was.1 ∙ (sym (keeps.each i was.0 was.1) ∙ is)

  -- with the children of one thread more
  pub listed_more : ListedBelow p c n xs → ListsChildren p c thread ys → ListedBelow p c (n + 1) ys
  listed_more h lists =
      record { root = keeps.each 0 0 h.root; children = λ i t less is. children_more i t less is (same_or_not i n) }
    where
      children_more : (i t : ℕ) → i < n + 1 → slice_get ys i ≡ Some t → (i ≡ n) ⊎ (i ≢ n) → ListsChildren p c t ys
      children_more i t less is (inl same) = subst (λ u. ListsChildren p c u ys) (the_same i t same is) lists
      children_more i t less is (inr other) = λ j k ks waits joined inside.
          keeps_contained xs ys k keeps
          (h.children i t (omega (arith, less, other)) (was_before i t (omega (arith, less, other)) is) j k ks waits joined inside)

  -- with one thread more counted
  pub counted_more : (counts after : List ℕ) → CountedBelow p c n xs counts → EntersCount p c thread counts after → CountedBelow p c (n + 1) ys after
  counted_more counts after h enters = record { each = λ i t j less is waits within. more i t j less is waits within (same_or_not i n) }
    where
      more : (i t j : ℕ) → i < n + 1 → slice_get ys i ≡ Some t → status_of c t ≡ status.Waiting j → t < length after → (i ≡ n) ⊎ (i ≢ n)
          → slice_index after t ≡ living c (joined_at p j)
      more i t j less is waits within (inl same) =
          let one : thread ≡ t = the_same i t same is in
          ap (slice_index after) (sym one) ∙ enters.own j (omega (arith, within, enters.long, one)) (ap (status_of c) one ∙ waits)
      more i t j less is waits within (inr other) =
          enters.others t j waits
          (h.each i t j (omega (arith, less, other)) (was_before i t (omega (arith, less, other)) is) waits (omega (arith, within, enters.long)))

module _ (p : Program) (formed : IsFormed p) (c : Control) (ok : IsConfiguration p c) (xs : List ℕ) (n : ℕ) (past : length xs ≤ n)
    (h : ListedBelow p c n xs) where
  listed_by : (m t : ℕ) → t < m → IsPresent (status_of c t) → Contains xs t
  listed_by zero t less present = absurd (omega (arith, less))
  listed_by (suc m) zero less present = contains_get xs 0 0 h.root
  listed_by (suc m) (suc t) less present =
      let parent : (a : ℕ) × (parent_of p (suc t) ≡ Some a) = has_parent p formed c ok (suc t) (present_in_range p formed c ok (suc t) present) (omega arith) in
      let child : ChildOf p (suc t) parent.0 = fork_of p formed (suc t) parent.0 parent.1 in
      let waits : status_of c parent.0 ≡ status.Waiting child.join =
      (ok.present child.fork parent.0 child.children child.join (suc t) child.is child.child).0 present in
      let above : parent.0 < suc t = parent_below p formed (suc t) parent.0 parent.1 in
      let inside : Contains xs parent.0 = listed_by m parent.0 (omega (arith, above, less)) (waiting_present (status_of c parent.0) child.join waits) in
      let at : (i : ℕ) × (slice_get xs i ≡ Some parent.0) = get_contains xs parent.0 inside in
      h.children at.0 parent.0 (omega (arith, slice_get_within xs at.0 parent.0 at.1, past)) at.1 child.join (suc t) child.children waits
      (joined_is p formed child.fork parent.0 child.children child.join child.is) child.child

  -- all that are present are listed
  pub all_listed : AreListed c.statuses xs
  all_listed =
      record { root = contains_get xs 0 0 h.root; all = listed_by_each c xs (λ t present. listed_by (t + 1) t (omega arith) present) }

  -- and all that wait are counted
  pub all_listed_counted : (counts : List ℕ) → length counts ≡ length p.threads → CountedBelow p c n xs counts → CountsLiving p c counts
  all_listed_counted counts long counted = all_counted p c counts ok long each
    where
      each : (t j : ℕ) → t < length p.threads → status_of c t ≡ status.Waiting j → slice_index counts t ≡ living c (joined_at p j)
      each t j less waits =
          let inside : Contains xs t = listed_by (t + 1) t (omega arith) (waiting_present (status_of c t) j waits) in
          let at : (i : ℕ) × (slice_get xs i ≡ Some t) = get_contains xs t inside in
          counted.each at.0 t j (omega (arith, slice_get_within xs at.0 t at.1, past)) at.1 waits (omega (arith, less, long))

woken_present : (s : Status) → IsPresent (woken s) → IsPresent s
woken_present status.Absent present = absurd present
woken_present (status.At n) present = tt
woken_present (status.Waiting j) present = tt
woken_present (status.Paused d) present = tt
woken_present status.Ended present = tt

started_listed : (p : Program) (ss : List Status) (threads : List ℕ) → Contains threads 0
    → ((t : ℕ) (s : Status) → slice_get ss t ≡ Some s → IsPresent s → Contains threads t) → (t : ℕ) (s : Status)
    → slice_get (statuses_at_start p ss) t ≡ Some s → IsPresent s → Contains threads t
started_listed p [] threads root each t s is present = absurd (cc)
started_listed p (x ∷ ss) threads root each zero s is present = root
started_listed p (x ∷ ss) threads root each (suc t) s is present =
    let was : (y : Status) × (slice_get ss t ≡ Some y) × (woken y ≡ s) = map_some woken (slice_get ss t) s (sym (slice_get-map woken ss t) ∙ is) in
    each (suc t) was.0 was.1 (woken_present was.0 (subst IsPresent (sym was.2) present))

-- who is present as a tick starts was so before, or is the root
pub listed_started : (p : Program) (inputs : Inputs) (c : Control) (threads : List ℕ) → AreListed c.statuses threads
    → AllListed (start p inputs c).statuses threads
listed_started p inputs c threads h = record { each = started_listed p c.statuses threads h.root h.all.each }
