-- The numbers of statuses, and their texts.
use Rattle.std.specs.Prelude.{ℕ, List, [], ◌++◌, codes}
use Rattle.std.specs.Fmt.{decimal}
use Rattle.hilti_top.specs.declared.status.Status.{Status}
use Rattle.hilti_top.specs.declared.status.Status.TheVariants.{Done, Usage, ReadFault, BadModule}
use Rattle.hilti_top.specs.declared.status.Status.TheVariants.{BadCapture, CallLimit, WriteFault}
use Rattle.hilti_top.specs.declared.status.Status.TheVariants.{NoMemory, CaptureCut}

abbrev pub number_of : Status → ℕ
number_of Done = 0
number_of Usage = 1
number_of ReadFault = 2
number_of (BadModule place code) = 3
number_of (BadCapture at code) = 4
number_of CallLimit = 5
number_of WriteFault = 6
number_of NoMemory = 7
number_of (CaptureCut at) = 8

-- the code of a refusal, behind its place
abbrev pub code_text : ℕ → List ℕ
code_text code = codes ": code " ++ decimal code ++ codes "\n"

abbrev pub text_of : Status → List ℕ
text_of Done = []
text_of Usage = codes "hilti: usage: check, one, run or gen; see the manual\n"
text_of ReadFault = codes "hilti: cannot read\n"
text_of (BadModule place code) =
    codes "hilti: module " ++ decimal place.file ++ codes ":" ++ decimal place.line
    ++ codes ":" ++ decimal place.column ++ code_text code
text_of (BadCapture at code) = codes "hilti: capture at " ++ decimal at ++ code_text code
text_of CallLimit = codes "hilti: call limit reached\n"
text_of WriteFault = codes "hilti: cannot write\n"
text_of NoMemory = codes "hilti: out of memory\n"
text_of (CaptureCut at) = codes "hilti: capture cut at " ++ decimal at ++ codes "\n"

-- the whole output was written
abbrev pub IsWritten : Status → Type 0
IsWritten Done = Unit {0}
IsWritten CallLimit = Unit {0}
IsWritten (CaptureCut at) = Unit {0}
IsWritten _ = ⊥

-- nothing was written
abbrev pub IsSilent : Status → Type 0
IsSilent Done = ⊥
IsSilent CallLimit = ⊥
IsSilent (CaptureCut at) = ⊥
IsSilent WriteFault = ⊥
IsSilent _ = Unit {0}
