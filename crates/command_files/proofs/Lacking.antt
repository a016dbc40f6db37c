-- Why bytes spell no image is why none could be given.
use Rattle.std.proofs.Common.{ℕ, List}
use Rattle.command_files.specs.declared.fault.LoadFault.{LoadFault}
use Rattle.command_files.specs.declared.fault.LoadFault.TheVariants as load
use Rattle.command_files.specs.Sources.{BytesLackCompiled, BytesLackImage}

pub lacks_image : (bytes : List ℕ) (f : LoadFault) → BytesLackCompiled bytes f → BytesLackImage bytes f
lacks_image bytes load.Memory none = tt
lacks_image bytes (load.Image g) none = none
lacks_image bytes (load.Rule g) none = none
lacks_image bytes (load.Text g) none = none
lacks_image bytes (load.Program g) none = none
lacks_image bytes (load.File g) none = none
lacks_image bytes (load.Source g) none = none
