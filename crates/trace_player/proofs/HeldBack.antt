-- What playing came to, where output is held back.
use Rattle.std.proofs.Common.{◌≡◌, ◌≢◌, ◌+◌, ℕ, Option, Some, None, Result, Ok, Err, List, [], ◌∷◌, ◌++◌, take, refl, ap, sym, ◌∙◌, subst}
use Rattle.std.proofs.Common.{append_assoc, append-nil}
use Rattle.std.specs.List.{concat}
use Rattle.std.specs.Io.KnownBytes.{Appends, append_known}
use Rattle.std.proofs.KnownBytes.{Appends-nil, Appends-trans}
use Rattle.std.proofs.lemmas.List.{append_cancel_left}
use Rattle.sc_values.specs.Streams.{GrowsInto}
use Rattle.bytecode.specs.Image.{Image}
use Rattle.probe.specs.Outputs.{Outputs}
use Rattle.trace_player.specs.declared.player.PlayFault.{PlayFault}
use Rattle.trace_player.specs.declared.player.PlayFault.TheVariants as play_fault
use Rattle.trace_player.specs.Trace.{End, Good, NoInputs, NoObject, Trace, AreLinesOf, PlaysPart}
use Rattle.trace_player.specs.Published.{Publishes, PlaysTo, PlaysFirstTo, PlaysPartTo, LeavesTo}
use Rattle.trace_player.specs.Channels.{Seen, SinkSeen, TakesAll, TakesPart}
use Rattle.trace_player.specs.Inside.HeldBack.{Extends, MakesTick, HoldsBack, with_held}
use Rattle.trace_player.specs.Inside.Playing.{CameTo}
use Rattle.trace_player.proofs.Coming.{came_well, came_off, came_cut}
use Rattle.trace_player.proofs.Cutting.{part_of, nothing_out}
use Rattle.trace_player.proofs.Failures.{told_on, reads_same, same_end}

pub extends_self : (a : Option (List ℕ)) → Extends a a
extends_self a = ([], Appends-nil a)

pub extends_on : (a b c : Option (List ℕ)) → Extends a b → Extends b c → Extends a c
extends_on a b c x y = (x.0 ++ y.0, Appends-trans a b c x.0 y.0 x.1 y.1)

pub grown : (a b : Option (List ℕ)) (bytes : List ℕ) → GrowsInto a b bytes → Extends a b
grown None b bytes grows = ([], tt)
grown (Some xs) None bytes grows = absurd grows
grown (Some xs) (Some ys) bytes grows = (take grows.0 bytes, grows.1)

pub none_behind : (a : Option (List ℕ)) → append_known a [] ≡ a
none_behind None = refl
none_behind (Some xs) = ap Some (append-nil xs)

-- where a sink took what was held back, all that counts as written was written

unknown_whole : (image : Image) (input new new' : Option (List ℕ)) (rows rows' : Option (List Outputs)) (out : List (List ℕ)) (end : End)
    → PlaysTo image input None new rows rows' out end → PlaysTo image input None new' rows rows' out end
unknown_whole image input new new' rows rows' out end a =
    record {
      plays = record { lines = a.plays.lines; cut = a.plays.cut; trace = a.plays.trace; written = tt };
      publishes = a.publishes;
    }

unknown_first : (image : Image) (input new new' : Option (List ℕ)) (rows rows' : Option (List Outputs)) → PlaysFirstTo image input None new rows rows'
    → PlaysFirstTo image input None new' rows rows'
unknown_first image input new new' rows rows' a =
    record {
      plays = record { first = a.plays.first; rest = a.plays.rest; cut = a.plays.cut; out = a.plays.out; trace = a.plays.trace; written = tt };
      publishes = a.publishes;
    }

unknown_part : (image : Image) (input new new' : Option (List ℕ)) (rows rows' : Option (List Outputs)) → PlaysPartTo image input None new rows rows'
    → PlaysPartTo image input None new' rows rows'
unknown_part image input new new' rows rows' a =
    record {
      plays =
          record {
            first = a.plays.first;
            rest = a.plays.rest;
            cut = a.plays.cut;
            out = a.plays.out;
            last = a.plays.last;
            trace = a.plays.trace;
            before = None;
            written = tt;
            in_part = tt;
          };
      publishes = a.publishes;
    }

unknown_left : (image : Image) (input new new' : Option (List ℕ)) (rows rows' : Option (List Outputs)) (f : PlayFault)
    → LeavesTo image input None new rows rows' f → LeavesTo image input None new' rows rows' f
unknown_left image input new new' rows rows' (play_fault.Input n) a = (a.0, unknown_whole image input new new' rows rows' a.0 (NoInputs n) a.1)
unknown_left image input new new' rows rows' (play_fault.NotJson n) a = (a.0, unknown_whole image input new new' rows rows' a.0 (NoObject n) a.1)
unknown_left image input new new' rows rows' play_fault.Memory a = unknown_first image input new new' rows rows' a
unknown_left image input new new' rows rows' play_fault.Read a = unknown_first image input new new' rows rows' a
unknown_left image input new new' rows rows' play_fault.Write a = unknown_part image input new new' rows rows' a

handed_whole : (image : Image) (input old now new : Option (List ℕ)) (held : List ℕ) (rows rows' : Option (List Outputs)) (out : List (List ℕ)) (end : End)
    → Extends old now → Appends now new held → PlaysTo image input old (append_known now held) rows rows' out end
    → PlaysTo image input old new rows rows' out end
handed_whole image input None now new held rows rows' out end grows whole plays =
    unknown_whole image input (append_known now held) new rows rows' out end plays
handed_whole image input (Some xs) None new held rows rows' out end grows whole plays = absurd grows.1
handed_whole image input (Some xs) (Some ys) None held rows rows' out end grows whole plays = absurd whole
handed_whole image input (Some xs) (Some ys) (Some zs) held rows rows' out end grows whole plays =
    subst (λ bytes. PlaysTo image input (Some xs) (Some bytes) rows rows' out end) (sym whole) plays

handed_left : (image : Image) (input old now new : Option (List ℕ)) (held : List ℕ) (rows rows' : Option (List Outputs)) (f : PlayFault)
    → Extends old now → Appends now new held → LeavesTo image input old (append_known now held) rows rows' f → LeavesTo image input old new rows rows' f
handed_left image input None now new held rows rows' f grows whole left = unknown_left image input (append_known now held) new rows rows' f left
handed_left image input (Some xs) None new held rows rows' f grows whole left = absurd grows.1
handed_left image input (Some xs) (Some ys) None held rows rows' f grows whole left = absurd whole
handed_left image input (Some xs) (Some ys) (Some zs) held rows rows' f grows whole left =
    subst (λ bytes. LeavesTo image input (Some xs) (Some bytes) rows rows' f) (sym whole) left

pub settled : (image : Image) (before now after : Seen) (held : List ℕ) (result : Result ℕ PlayFault) → Extends before.sink.taken now.sink.taken
    → TakesAll now.sink after.sink held → after.source ≡ now.source → after.rows ≡ now.rows → CameTo image before (with_held now held) result
    → CameTo image before after result
settled image before now after held (Ok k) grows takes source rows came =
    let all = came.published in
    came_well image before after k (
      all.out,
      all.count,
      subst (λ rs. PlaysTo image before.source.to_come before.sink.taken after.sink.taken before.rows rs all.out Good) (sym rows)
          (handed_whole image before.source.to_come before.sink.taken now.sink.taken after.sink.taken held before.rows now.rows all.out Good grows
          takes.taken all.plays_to),
    )
    (told_on before (with_held now held) after (Ok k) source takes.failures came.failures)
settled image before now after held (Err f) grows takes source rows came =
    came_off image before after f
    (subst (λ rs. LeavesTo image before.source.to_come before.sink.taken after.sink.taken before.rows rs f) (sym rows)
    (handed_left image before.source.to_come before.sink.taken now.sink.taken after.sink.taken held before.rows now.rows f grows takes.taken
    came.published_before))
    (told_on before (with_held now held) after (Err f) source takes.failures came.failures)

-- where it took a part of it, the trace is cut

-- a trace that was written, with what is held back
record Reaches (image : Image) (input old new : Option (List ℕ)) (rows rows' : Option (List Outputs)) : Type 0 where
  lines : List (List ℕ)
  rest : List (List ℕ)
  cut : AreLinesOf input (lines ++ rest)
  out : List (List ℕ)
  end : End
  trace : Trace image lines out end
  written : Appends old new (concat out)
  publishes : Publishes image lines out rows rows'

reaches_whole : (image : Image) (input old new : Option (List ℕ)) (rows rows' : Option (List Outputs)) (out : List (List ℕ)) (end : End)
    → PlaysTo image input old new rows rows' out end → Reaches image input old new rows rows'
reaches_whole image input old new rows rows' out end a =
    record {
      lines = a.plays.lines;
      rest = [];
      cut = subst (AreLinesOf input) (sym (append-nil a.plays.lines)) a.plays.cut;
      out = out;
      end = end;
      trace = a.plays.trace;
      written = a.plays.written;
      publishes = a.publishes;
    }

reaches_first : (image : Image) (input old new : Option (List ℕ)) (rows rows' : Option (List Outputs)) → PlaysFirstTo image input old new rows rows'
    → Reaches image input old new rows rows'
reaches_first image input old new rows rows' a =
    record {
      lines = a.plays.first;
      rest = a.plays.rest;
      cut = a.plays.cut;
      out = a.plays.out;
      end = Good;
      trace = a.plays.trace;
      written = a.plays.written;
      publishes = a.publishes;
    }

reaches_left : (image : Image) (input old new : Option (List ℕ)) (rows rows' : Option (List Outputs)) (f : PlayFault) → f ≢ play_fault.Write
    → LeavesTo image input old new rows rows' f → Reaches image input old new rows rows'
reaches_left image input old new rows rows' (play_fault.Input n) other a = reaches_whole image input old new rows rows' a.0 (NoInputs n) a.1
reaches_left image input old new rows rows' (play_fault.NotJson n) other a = reaches_whole image input old new rows rows' a.0 (NoObject n) a.1
reaches_left image input old new rows rows' play_fault.Memory other a = reaches_first image input old new rows rows' a
reaches_left image input old new rows rows' play_fault.Read other a = reaches_first image input old new rows rows' a
reaches_left image input old new rows rows' play_fault.Write other a = absurd (other refl)

reaches : (image : Image) (before after : Seen) (result : Result ℕ PlayFault) → result ≢ Err play_fault.Write → CameTo image before after result
    → Reaches image before.source.to_come before.sink.taken after.sink.taken before.rows after.rows
reaches image before after (Ok k) other came =
    reaches_whole image before.source.to_come before.sink.taken after.sink.taken before.rows after.rows came.published.out Good came.published.plays_to
reaches image before after (Err f) other came =
    reaches_left image before.source.to_come before.sink.taken after.sink.taken before.rows after.rows f (λ e. other (ap Err e)) came.published_before

-- where nothing is published, nothing is said of it
nothing_published : (image : Image) (lines out lines' out' : List (List ℕ)) (rows rows' : Option (List Outputs)) → rows' ≡ None
    → Publishes image lines out rows rows' → Publishes image lines' out' rows rows'
nothing_published image lines out lines' out' None rows' none publishes = tt
nothing_published image lines out lines' out' (Some rows) None none publishes = absurd publishes
nothing_published image lines out lines' out' (Some rows) (Some rows') none publishes = absurd cc

pub part_to : (image : Image) (input old new : Option (List ℕ)) (rows rows' : Option (List Outputs)) (lines out : List (List ℕ)) → rows' ≡ None
    → Publishes image lines out rows rows' → PlaysPart image input old new → PlaysPartTo image input old new rows rows'
part_to image input old new rows rows' lines out none publishes plays =
    record { plays = plays; publishes = nothing_published image lines out plays.first (plays.out ++ plays.last ∷ []) rows rows' none publishes }

unknown_cut : (image : Image) (input new : Option (List ℕ)) → MakesTick image input → PlaysPart image input None new
unknown_cut image input new tick =
    record {
      first = tick.line ∷ [];
      rest = tick.rest;
      cut = tick.cut;
      out = [];
      last = tick.shown;
      trace = tick.trace;
      before = None;
      written = tt;
      in_part = tt;
    }

-- the sink took a part of what is held back
part_taken : (image : Image) (input old now new : Option (List ℕ)) (held : List ℕ) (rows rows' : Option (List Outputs)) → Extends old now
    → held ≢ [] → MakesTick image input → GrowsInto now new held → Reaches image input old (append_known now held) rows rows' → PlaysPart image input old new
part_taken image input None now new held rows rows' grows some tick part a = unknown_cut image input new tick
part_taken image input (Some xs) None new held rows rows' grows some tick part a = absurd grows.1
part_taken image input (Some xs) (Some ys) None held rows rows' grows some tick part a = absurd part
part_taken image input (Some xs) (Some ys) (Some zs) held rows rows' grows some tick part a =
    let same : concat a.out ≡ grows.0 ++ held =
    append_cancel_left xs (concat a.out) (grows.0 ++ held) (sym a.written ∙ ap (λ bytes. bytes ++ held) grows.1 ∙ append_assoc xs grows.0 held) in
    subst (λ bytes. PlaysPart image input (Some xs) (Some bytes)) (sym (part.1 ∙ ap (λ bytes. bytes ++ take part.0 held) grows.1))
    (part_of image input xs grows.0 held part.0 a.lines a.rest a.out a.end a.cut a.trace (nothing_out a.out grows.0 held some same) same)

pub unsettled : (image : Image) (before now after : Seen) (held : List ℕ) (result : Result ℕ PlayFault) → CameTo image before (with_held now held) result
    → HoldsBack image before now held → (result ≡ Err play_fault.Read → held ≡ []) → (result ≡ Err play_fault.Write → held ≡ []) → held ≢ []
    → TakesPart now.sink after.sink held → after.source ≡ now.source → after.rows ≡ now.rows → CameTo image before after (Err play_fault.Write)
unsettled image before now after held result came holds read write some part source rows =
    let no_write : result ≢ Err play_fault.Write = λ e. some (write e) in
    let a = reaches image before (with_held now held) result no_write came in
    came_cut image before after
    (subst (λ rs. PlaysPartTo image before.source.to_come before.sink.taken after.sink.taken before.rows rs) (sym rows)
    (part_to image before.source.to_come before.sink.taken after.sink.taken before.rows now.rows a.lines a.out (holds.unwatched some) a.publishes
    (part_taken image before.source.to_come before.sink.taken now.sink.taken after.sink.taken held before.rows now.rows holds.grows some
    (holds.begun some) part.taken a)))
    (reads_same now.source after.source source ∙ came.failures.not_read (λ e. some (read e)))
    (part.failures ∙ ap (λ n. n + 1) (came.failures.not_write no_write))
    (same_end before.source now.source after.source source came.failures.end)

-- what is held back stays so
pub holds_on : (image : Image) (before now after : Seen) (held : List ℕ) → after.sink ≡ now.sink → after.rows ≡ now.rows → HoldsBack image before now held
    → HoldsBack image before after held
holds_on image before now after held sink rows holds =
    record {
      grows = subst (λ (s : SinkSeen). Extends before.sink.taken s.taken) (sym sink) holds.grows;
      begun = holds.begun;
      unwatched = λ some. rows ∙ holds.unwatched some;
    }

-- nothing is, behind what was taken in part
pub lets_go : (image : Image) (before now after : Seen) (bytes held : List ℕ) → Extends before.sink.taken now.sink.taken
    → GrowsInto now.sink.taken after.sink.taken bytes → held ≡ [] → HoldsBack image before after held
lets_go image before now after bytes held grows part none =
    record {
      grows = extends_on before.sink.taken now.sink.taken after.sink.taken grows (grown now.sink.taken after.sink.taken bytes part);
      begun = λ some. absurd (some none);
      unwatched = λ some. absurd (some none);
    }
