-- Bytes behind lines, line feed by line feed.
use Rattle.std.proofs.Common.{◌≡◌, ℕ, ◌+◌, ◌-◌, Bool, true, false, List, [], ◌++◌, take, drop, length}
use Rattle.std.proofs.Common.{length-drop, position, Option, Some, None, is_some, refl, ap, sym, ◌∙◌, subst, arith, suc, append_assoc}
use Rattle.std.proofs.Math.Seq.{take-length}
use Rattle.std.proofs.lemmas.Option.{cond_some}
use Rattle.std.specs.Io.KnownBytes.{Consumes, IsAtEnd}
use Rattle.std.proofs.KnownBytes.{prepend_known-nil}
use Rattle.trace_lines.specs.Lines.{is_feed, has_feed, after_line, ahead}
use Rattle.trace_lines.proofs.Feeds.{after_line-append}
use Rattle.trace_lines.specs.Inside.Causes.{AreBehind, HasEnded, Leads, LeadsOn}
use Rattle.trace_lines.specs.Recent.{behind_lines}

-- the bytes behind the line feed that was found
pub rest_is : (xs : List ℕ) (k : ℕ) → position is_feed xs ≡ Some k → take (length xs - (k + 1)) (drop (k + 1) xs) ≡ after_line xs
rest_is xs k found =
    let place = (cond_some _ _ _ found).1 in
    ap (λ n. take n (drop (k + 1) xs)) (sym (length-drop (k + 1) xs))
    ∙ take-length (drop (k + 1) xs)
    ∙ ap (λ n. drop (n + 1) xs) (sym place)

pub feed_is : (xs : List ℕ) (k : ℕ) → position is_feed xs ≡ Some k → has_feed xs ≡ true
feed_is xs k found = ap is_some found

by_more : (to_come : Option (List ℕ)) (held all : List ℕ) (n : ℕ) → has_feed held ≡ true → ahead held to_come ≡ Some (behind_lines n all)
    → ahead (after_line held) to_come ≡ Some (behind_lines (n + 1) all)
by_more None held all n feed is = absurd cc
by_more (Some t) held all n feed is =
    let next : suc n ≡ n + 1 = omega arith in
    let same : held ++ t ≡ behind_lines n all = cc in
    ap Some (sym (after_line-append [] held t refl feed) ∙ ap after_line same ∙ ap (λ k. behind_lines k all) next)

unread : {P : Type 0} (kept bytes : List ℕ) → ahead kept None ≡ Some bytes → P
unread kept bytes is = absurd cc

same_bytes : (xs ys : List ℕ) → Some xs ≡ Some ys → xs ≡ ys
same_bytes xs ys e = cc

one_more : (input to_come : Option (List ℕ)) (held : List ℕ) (n : ℕ) → has_feed held ≡ true → AreBehind input n (ahead held to_come)
    → AreBehind input (n + 1) (ahead (after_line held) to_come)
one_more input to_come held n feed are = λ all known. by_more to_come held all n feed (are all known)

pub leads_none : (held : List ℕ) (n : ℕ) → Leads held n held n
leads_none held n = λ input to_come are. are

pub leads_feed : (held rest last : List ℕ) (n m k : ℕ) → has_feed held ≡ true → rest ≡ after_line held → m ≡ n + 1 → Leads rest m last k → Leads held n last k
leads_feed held rest last n m k feed is more leads = λ input to_come are.
    leads input to_come
    (subst (λ j. AreBehind input j (ahead rest to_come)) (sym more)
    (subst (λ xs. AreBehind input (n + 1) (ahead xs to_come)) (sym is) (one_more input to_come held n feed are)))

pub leads_same : (held : List ℕ) (lines : ℕ) → lines ≡ 0 → (before : ℕ) → Leads held before held (before + lines)
leads_same held lines none before = λ input to_come are.
    let same : before ≡ before + lines = omega (arith, none) in
    subst (λ k. AreBehind input k (ahead held to_come)) same are

pub leads_lines : (held rest last : List ℕ) (lines less : ℕ) → has_feed held ≡ true → rest ≡ after_line held → lines ≡ less + 1
    → ((before : ℕ) → Leads rest before last (before + less)) → (before : ℕ) → Leads held before last (before + lines)
leads_lines held rest last lines less feed is more leads before = λ input to_come are.
    let one = one_more input to_come held before feed are in
    let same : before + 1 + less ≡ before + lines = omega (arith, more) in
    subst (λ k. AreBehind input k (ahead last to_come)) same
    (leads (before + 1) input to_come (subst (λ xs. AreBehind input (before + 1) (ahead xs to_come)) (sym is) one))

ahead_joined : (last more : List ℕ) (to_come : Option (List ℕ)) → ahead last (ahead more to_come) ≡ ahead (last ++ more) to_come
ahead_joined last more None = refl
ahead_joined last more (Some t) = ap Some (sym (append_assoc last more t))

pub leads_on : (held more last all : List ℕ) (n m : ℕ) → Leads held n last m → all ≡ last ++ more → LeadsOn held more n all m
leads_on held more last all n m leads is = λ input to_come are.
    subst (λ xs. AreBehind input m (ahead xs to_come)) (sym is)
    (subst (AreBehind input m) (ahead_joined last more to_come) (leads input (ahead more to_come) are))

-- nothing was read
pub at_start : (start to_come : Option (List ℕ)) (held : List ℕ) (n : ℕ) → to_come ≡ start → held ≡ [] → n ≡ 0 → AreBehind start n (ahead held to_come)
at_start start to_come held n same none first = λ all known.
    ap (λ xs. ahead xs to_come) none ∙ prepend_known-nil to_come ∙ same ∙ known ∙ ap (λ k. Some (behind_lines k all)) (sym first)

-- bytes were read
pub read_on : (start old new : Option (List ℕ)) (kept more : List ℕ) (n : ℕ) → Consumes old new more → AreBehind start n (ahead kept old)
    → AreBehind start n (ahead kept (ahead more new))
read_on start None new kept more n consumes are = λ all known. unread kept (behind_lines n all) (are all known)
read_on start (Some xs) None kept more n consumes are = absurd consumes
read_on start (Some xs) (Some ys) kept more n consumes are = λ all known. ap (λ zs. Some (kept ++ zs)) (sym consumes) ∙ are all known

pub has_ended : (to_come : Option (List ℕ)) → IsAtEnd to_come → HasEnded to_come
has_ended None ended = λ bytes known. unread [] bytes known
has_ended (Some xs) ended = λ bytes known. sym (same_bytes xs bytes known) ∙ ended
