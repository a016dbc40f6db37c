-- What a sink took of some bytes and of those behind them.
use Rattle.std.proofs.Common.{◌≡◌, ◌+◌, ℕ, Option, Some, None, List, [], ◌++◌, length, take, drop, refl, ap, sym, ◌∙◌, subst}
use Rattle.std.proofs.Common.{append_assoc, append-nil, take-append-drop}
use Rattle.std.specs.Io.KnownBytes.{Appends, append_known}
use Rattle.std.proofs.KnownBytes.{Appends-nil, Appends-trans}
use Rattle.std.proofs.lemmas.List.{take_at}
use Rattle.sc_values.specs.Streams.{GrowsInto}
use Rattle.trace_player.specs.Channels.{SinkSeen, TakesAll, TakesPart}
use Rattle.trace_player.specs.Inside.HeldBack.{Extends, sink_with}

-- no bytes
pub nothing_taken : (a : SinkSeen) (bytes : List ℕ) → bytes ≡ [] → TakesAll a a bytes
nothing_taken a bytes none = record { taken = subst (Appends a.taken a.taken) (sym none) (Appends-nil a.taken); failures = refl }

pub took : (a b : SinkSeen) (bytes : List ℕ) → TakesAll a b bytes → Extends a.taken b.taken
took a b bytes whole = (bytes, whole.taken)

front : (all begun rest : List ℕ) → all ≡ begun ++ rest → take (length begun) all ≡ begun
front all begun rest same = ap (take (length begun)) same ∙ take_at begun rest (length begun) refl

-- a beginning of bytes is one of these and more
known_less : (a b : Option (List ℕ)) (bytes more : List ℕ) → GrowsInto a b bytes → GrowsInto a b (bytes ++ more)
known_less None b bytes more part = tt
known_less (Some xs) None bytes more part = absurd part
known_less (Some xs) (Some ys) bytes more part =
    let begun = take part.0 bytes in
    let same : bytes ++ more ≡ begun ++ (drop part.0 bytes ++ more) =
    ap (λ all. all ++ more) (sym (take-append-drop part.0 bytes)) ∙ append_assoc begun (drop part.0 bytes) more in
    (length begun, part.1 ∙ ap (λ taken. xs ++ taken) (sym (front (bytes ++ more) begun (drop part.0 bytes ++ more) same)))

pub took_less : (a b : SinkSeen) (bytes more : List ℕ) → TakesPart a b bytes → TakesPart a b (bytes ++ more)
took_less a b bytes more part = record { taken = known_less a.taken b.taken bytes more part.taken; failures = part.failures }

-- all of both
pub took_both : (a b c : SinkSeen) (bytes more : List ℕ) → TakesAll a b bytes → TakesAll b c more → TakesAll a c (bytes ++ more)
took_both a b c bytes more first second =
    record { taken = Appends-trans a.taken b.taken c.taken bytes more first.taken second.taken; failures = second.failures ∙ first.failures }

-- all of the first bytes, and a beginning of the others
known_more : (a b c : Option (List ℕ)) (bytes more : List ℕ) → Appends a b bytes → GrowsInto b c more → GrowsInto a c (bytes ++ more)
known_more None b c bytes more whole part = tt
known_more (Some xs) None c bytes more whole part = absurd whole
known_more (Some xs) (Some ys) None bytes more whole part = absurd part
known_more (Some xs) (Some ys) (Some zs) bytes more whole part =
    let begun = bytes ++ take part.0 more in
    let same : bytes ++ more ≡ begun ++ drop part.0 more =
    ap (λ all. bytes ++ all) (sym (take-append-drop part.0 more)) ∙ sym (append_assoc bytes (take part.0 more) (drop part.0 more)) in (
      length begun,
      part.1 ∙ ap (λ taken. taken ++ take part.0 more) whole ∙ append_assoc xs bytes (take part.0 more)
          ∙ ap (λ taken. xs ++ taken) (sym (front (bytes ++ more) begun (drop part.0 more) same)),
    )

pub took_more : (a b c : SinkSeen) (bytes more : List ℕ) → TakesAll a b bytes → TakesPart b c more → TakesPart a c (bytes ++ more)
took_more a b c bytes more whole part =
    record {
      taken = known_more a.taken b.taken c.taken bytes more whole.taken part.taken;
      failures = part.failures ∙ ap (λ n. n + 1) whole.failures;
    }

-- what was held back and a line behind it were written
known_on : (a b : Option (List ℕ)) (held held' shown : List ℕ) → Appends a b (held ++ shown) → held' ≡ []
    → Appends (append_known a held) (append_known b held') shown
known_on None b held held' shown whole none = tt
known_on (Some xs) None held held' shown whole none = absurd whole
known_on (Some xs) (Some ys) held held' shown whole none =
    ap (λ bytes. ys ++ bytes) none ∙ append-nil ys ∙ whole ∙ sym (append_assoc xs held shown)

pub passed_on : (a b : SinkSeen) (held held' shown : List ℕ) → TakesAll a b (held ++ shown) → held' ≡ []
    → TakesAll (sink_with a held) (sink_with b held') shown
passed_on a b held held' shown whole none =
    record { taken = known_on a.taken b.taken held held' shown whole.taken none; failures = whole.failures }

-- a line is held back behind it
known_behind : (a : Option (List ℕ)) (held shown : List ℕ) → Appends (append_known a held) (append_known a (held ++ shown)) shown
known_behind None held shown = tt
known_behind (Some xs) held shown = sym (append_assoc xs held shown)

pub kept_back : (a b : SinkSeen) (held held' shown : List ℕ) → b ≡ a → held' ≡ held ++ shown → TakesAll (sink_with a held) (sink_with b held') shown
kept_back a b held held' shown same kept =
    record {
      taken =
          subst (λ (s : SinkSeen). Appends (append_known a.taken held) (append_known s.taken held') shown) (sym same)
          (subst (λ bytes. Appends (append_known a.taken held) (append_known a.taken bytes) shown) (sym kept) (known_behind a.taken held shown));
      failures = ap (λ (s : SinkSeen). s.failures) same;
    }
