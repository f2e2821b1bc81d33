-- What the faults of a literal, and of generated objects, are answered with.
use Rattle.std.specs.Prelude.{Option, Some, None}
use Rattle.oem_text.specs.Types.refusals
use Rattle.oem_text.specs.Types.{Refusal}
use Rattle.oem_text.specs.declared.faults.LocalFault.{LocalFault}
use Rattle.oem_text.specs.declared.faults.LocalFault.TheVariants as local
use Rattle.oem_text.specs.declared.faults.TextFault.{TextFault}
use Rattle.oem_text.specs.declared.faults.TextFault.TheVariants as text

-- the refusal of the same name; none for want of memory
abbrev pub local_refusal : LocalFault → Option Refusal
local_refusal local.DuplicateLocal = Some refusals.DuplicateLocal
local_refusal local.UndefinedLocal = Some refusals.UndefinedLocal
local_refusal local.NoMemory = None

abbrev pub text_refusal : TextFault → Option Refusal
text_refusal text.DuplicateLocal = Some refusals.DuplicateLocal
text_refusal text.UndefinedLocal = Some refusals.UndefinedLocal
text_refusal text.OidsSpent = Some refusals.OidsSpent
text_refusal text.TooManyLabels = Some refusals.TooManyLabels
text_refusal text.NoMemory = None
