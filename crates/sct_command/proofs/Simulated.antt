-- From what was found in the bytes of a file to the image that is stepped.
use Rattle.std.proofs.Common.{◌≡◌, ◌∙◌, ℕ, List, Option, None, inl, inr, subst}
use Rattle.bytecode.specs.Image.{Image}
use Rattle.command_files.specs.declared.fault.LoadFault.{LoadFault}
use Rattle.command_files.specs.Files.{Contents, HasBytes}
use Rattle.command_files.specs.Standing.{FileLacksSource}
use Rattle.command_files.specs.Sources.{IsCompiledFrom}
use Rattle.image_charts.proofs.TextImages.{no_compiled_in}
use Rattle.image_charts.specs.Written.{IsNoTextBeside, MakesImage, MakesNoImage}
use Rattle.trace_lines.specs.declared.causes.cause.Cause.{Cause}
use Rattle.simulation.specs.Lines as typed
use Rattle.trace_player.specs.declared.player.PlayFault.{PlayFault}
use Rattle.sct_command.specs.Simulating.{LacksModel, Simulates, StopsSimulation}

pub no_source : (files : Option Contents) (name : List ℕ) (f : LoadFault) → FileLacksSource files name f → LacksModel files name f
no_source files name f none = inl (inl none)

pub no_image : (files : Option Contents) (name bytes seen : List ℕ) (f : LoadFault) → HasBytes files name bytes → seen ≡ bytes
    → MakesNoImage seen f → LacksModel files name f
no_image files name bytes seen f held same none = inl (no_compiled_in files name bytes seen f held same none)

pub no_states : (files : Option Contents) (name bytes seen other : List ℕ) (image boxed looked : Image) (f : LoadFault) → HasBytes files name bytes
    → seen ≡ bytes → other ≡ bytes → MakesImage seen image → boxed ≡ image → looked ≡ boxed → IsNoTextBeside name other looked f
    → LacksModel files name f
no_states files name bytes seen other image boxed looked f held same same' makes kept lent none = inr (record {
  image = image;
  bytes = bytes;
  held = held;
  makes = subst (λ b. MakesImage b image) same makes;
  none = subst (λ i. IsNoTextBeside name bytes i f) (lent ∙ kept) (subst (λ b. IsNoTextBeside name b looked f) same' none);
})

-- ---- what stepping comes to

pub simulated : (files : Option Contents) (name : List ℕ) (image : Image) (input old new : Option (List ℕ)) → IsCompiledFrom files name image
    → typed.Simulates image input old new → Simulates files name input old new
simulated files name image input old new is answered = record { image = image; compiled = is; answered = answered }

pub stopped : (files : Option Contents) (name : List ℕ) (image : Image) (input old new : Option (List ℕ)) (f : PlayFault) (cause : Option Cause)
    → IsCompiledFrom files name image → typed.Stops image input old new f → cause ≡ None → StopsSimulation files name input old new f cause
stopped files name image input old new f cause is stops unknown = record { image = image; compiled = is; stops = stops; unknown = unknown }
