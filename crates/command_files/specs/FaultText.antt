-- What is printed of a fault: its number, and where it lies.
use Rattle.std.specs.Prelude.{ℕ, List, ◌++◌, codes, map, if◌then◌else◌, string_bytes}
use Rattle.std.specs.Char.{is_ascii_control}
use Rattle.bytecode.specs.FaultText as bytes
use Rattle.verifier.specs.FaultText as rules
use Rattle.sc_text.specs.FaultText as texts
use Rattle.compiler.specs.FaultText as programs
use Rattle.command_files.specs.declared.fault.LoadFault.{LoadFault}
use Rattle.command_files.specs.declared.fault.LoadFault.TheVariants as fault

abbrev pub question_mark : ℕ
question_mark = 63

-- a byte of a file's name as it is shown: control characters are shown as `?`
abbrev pub shown_byte : ℕ → ℕ
shown_byte byte = if is_ascii_control byte then question_mark else byte

abbrev pub shown_name : List ℕ → List ℕ
shown_name name = map shown_byte name

abbrev pub fault_text : LoadFault → List ℕ
fault_text fault.Memory = codes "E52"
fault_text (fault.Image f) = bytes.fault_text f
fault_text (fault.Rule f) = rules.refusal_text f
fault_text (fault.Text f) = texts.fault_text f
fault_text (fault.Program f) = programs.fault_text f
fault_text (fault.File shown) = codes "E64 " ++ string_bytes shown
fault_text (fault.Source shown) = codes "E65 " ++ string_bytes shown
