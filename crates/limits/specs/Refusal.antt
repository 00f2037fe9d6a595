-- Why a call refuses, and the numbers that answers give these reasons.
use Rattle.std.specs.Prelude.{ℕ, Result, Ok, Err}
use Rattle.limits.specs.declared.refusal.Refusal.{Refusal}
use Rattle.limits.specs.declared.refusal.Refusal.TheVariants.{EndsTooSoon, ThirdTopBit, Header, Location, Edge, BytesRemain, UnresetWalk, ScratchShort, OutputShort, NoEvidence, SheetNumber, SheetRule, TrailStep, TrailEnd, Padded, Unreached, NotJoint}

abbrev pub code_of : Refusal → ℕ
code_of EndsTooSoon = 1
code_of ThirdTopBit = 2
code_of Header = 3
code_of Location = 4
code_of Edge = 5
code_of BytesRemain = 6
code_of UnresetWalk = 7
code_of ScratchShort = 8
code_of OutputShort = 9
code_of NoEvidence = 10
code_of SheetNumber = 11
code_of SheetRule = 12
code_of TrailStep = 13
code_of TrailEnd = 14
code_of Padded = 15
code_of Unreached = 16
code_of NotJoint = 17

-- the number of an answer's refusal; 0 where it has none
abbrev pub refusal_number : {A : Type 0} → Result A Refusal → ℕ
refusal_number (Ok v) = 0
refusal_number (Err r) = code_of r
