-- What is opened of a text: of itself, or of the chart to which it is reduced.
use Rattle.std.proofs.Common.{◌≡◌, ℕ, List, inl, inr, subst}
use Rattle.author_states.specs.Author.{AuthorsStates}
use Rattle.author_states.specs.Authored.{IsAuthored}
use Rattle.command_files.specs.Standing.{AreAsWritten}
use Rattle.embedded_machine.specs.Opened.{OpenedImage}
use Rattle.embedded_machine.specs.Texts.{IsOpenedAuthored, IsOpenedSource, IsOpenedText, told_by}

pub own : (text : List ℕ) (opened : OpenedImage) → AreAsWritten text text → IsOpenedSource text opened → IsOpenedText text opened
own text opened plain is = inl (record { other = plain.other; is = is })

pub extended : (text source : List ℕ) (authors : AuthorsStates) (opened : OpenedImage) → IsAuthored text source authors
    → IsOpenedAuthored source authors opened → IsOpenedText text opened
extended text source authors opened authored is =
    inr (record { source = source; authors = authors; authored = authored; is = is })

pub authored : (source seen : List ℕ) (authors : AuthorsStates) (reduced opened : OpenedImage) → seen ≡ source → IsOpenedSource seen reduced
    → opened ≡ told_by authors reduced → IsOpenedAuthored source authors opened
authored source seen authors reduced opened same is told =
    record { reduced = reduced; is = subst (λ t. IsOpenedSource t reduced) same is; told = told }
